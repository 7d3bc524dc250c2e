-- What the checks of a packet say, by name: a header, a pattern packet, a document packet, two pattern packets. Each list of checks passes exactly where its
-- record holds. Assumes nothing.
use Rattle.tables.proofs.Kit.{ℕ, ◌≤◌, ◌≡◌, List, ◌++◌, arith, length, get_or}
use Rattle.tables.specs.{Document.ValidDocument, Pattern.ValidPattern, Refusal.Passes}
use Rattle.tables.proofs.Outcomes.{passes_front, passes_rest}
use Rattle.packets.specs.{Header.{Sized, head_checks}, PatternPacket.{packet_pattern, pattern_checks}}
use Rattle.packets.specs.DocumentPacket.{nodes_in, packet_document, document_rules}

-- the header is right, for `most` rows at most after `extra` bytes
pub record Head (bs : List ℕ) (extra most : ℕ) : Type 0 where
  pub three : 3 ≤ length bs
  pub version : get_or bs 0 0 ≡ 1
  pub rows : ℕ
  pub sized : Sized bs extra most rows

pub head_of : (bs : List ℕ) (extra most : ℕ) → Passes (head_checks bs extra most) → Head bs extra most
head_of bs extra most p = record { three = p.0; version = p.1.0; rows = p.1.1.0.0; sized = p.1.1.0.1 }

-- a pattern packet is right
pub record Read (bs : List ℕ) : Type 0 where
  pub head : Head bs 1 64
  pub right : ValidPattern (packet_pattern bs)

pub read_of : (bs : List ℕ) → Passes (pattern_checks bs) → Read bs
read_of bs p = record { head = head_of bs 1 64 (p.0, (p.1.0, (p.1.1.0, tt))); right = p.1.1.1.0 }

-- a document packet is right
pub record ReadDocument (bs : List ℕ) : Type 0 where
  pub head : Head bs 0 2048
  pub right : ValidDocument (packet_document bs)

pub read_document_of : (bs : List ℕ) → Passes (document_rules bs) → ReadDocument bs
read_document_of bs p = record { head = head_of bs 0 2048 (p.0, (p.1.0, (p.1.1.0, tt))); right = p.1.1.1.0 }

-- a document packet with a right header has 2,048 nodes at most
pub nodes_few : {bs : List ℕ} → Head bs 0 2048 → nodes_in bs ≤ 2048
nodes_few h = omega (arith, h.sized.few, h.sized.field)

-- two pattern packets are right
pub record TwoRight (bs cs : List ℕ) : Type 0 where
  pub first : Read bs
  pub second : Read cs

pub two_of : (bs cs : List ℕ) → Passes (pattern_checks bs ++ pattern_checks cs) → TwoRight bs cs
two_of bs cs p = record {
  first = read_of bs (passes_front (pattern_checks bs) (pattern_checks cs) p);
  second = read_of cs (passes_rest (pattern_checks bs) (pattern_checks cs) p);
}
