-- What reading a document's packet and a pattern's gives, where the document's rules are still open. Assumes nothing.
use Rattle.std.specs.Prelude.{ℕ, ◌≡◌, ◌⊎◌, List, ◌++◌, Result, Ok, Err}
use Rattle.tables.specs.Document.{Document, ValidDocument, of_lists}
use Rattle.tables.specs.Refusal.{Passes, Refuses}
use Rattle.tables.specs.declared.Lists.{Lists}
use Rattle.tables.specs.declared.Pattern.{Pattern}
use Rattle.tables.specs.declared.Refusal.{Refusal}
use Rattle.tables.specs.declared.Refusal.TheVariants.{BadDocument}
use Rattle.packets.specs.Header.{head_checks}
use Rattle.packets.specs.PatternPacket.{packet_pattern, pattern_checks}
use Rattle.packets.specs.DocumentPacket.{packet_document, document_rules}

-- q is the refusal of a document that breaks the rules; of any other it is r, which comes after them
pub record AfterRules (d : Document) (r q : Refusal) : Type 0 where
  pub says : ((ValidDocument d → ⊥) × (q ≡ BadDocument)) ⊎ (ValidDocument d × (q ≡ r))

-- the document's packet is right but for the rules, which are open, and the pattern's packet is right; the two lists are the document, and p is the pattern
pub record BothRead (ds ps : List ℕ) (lists : Lists) (p : Pattern) : Type 0 where
  pub header : Passes (head_checks ds 0 2048)
  pub checked : Passes (pattern_checks ps)
  pub document_read : of_lists lists ≡ packet_document ds
  pub pattern_read : p ≡ packet_pattern ps

-- two lists and a pattern leave the document's rules open; a refusal is by the first check that fails, of the document's packet and then of the pattern's
abbrev pub ReadsBoth : List ℕ → List ℕ → Result (Lists × Pattern) Refusal → Type 0
ReadsBoth ds ps (Ok t) = BothRead ds ps t.0 t.1
ReadsBoth ds ps (Err q) = Refuses (document_rules ds ++ pattern_checks ps) q
