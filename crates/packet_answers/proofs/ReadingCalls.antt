-- Reading a document's packet and a pattern's, from the contracts of the calls that do it, and what is known of the document afterwards. Assumes nothing.
use Rattle.tables.proofs.Kit.{ℕ, ◌≤◌, ◌≡◌, sym, ap, ◌∙◌, subst, inl, inr, ⊎_elim, List, ◌++◌, arith, length}
use Rattle.tables.specs.{Checks.document_right, Document.{node_count, ValidDocument}, Pattern.ValidPattern}
use Rattle.tables.specs.{Refusal.{number, Check, Passes, Refuses}, declared.{Refusal.Refusal, Lists.Lists, Pattern.Pattern}}
use Rattle.tables.proofs.{Columns.column_length, Outcomes.{refuses_rest, passes_both}}
use Rattle.packets.specs.{Header.head_checks, PatternPacket.{packet_pattern, pattern_checks}}
use Rattle.packets.specs.DocumentPacket.{nodes_in, packet_document, document_rules}
use Rattle.packets.proofs.Views.{head_of, read_of, nodes_few}
use Rattle.packet_answers.specs.inner.Reading.{AfterRules, BothRead}

-- the header holds and a later check refuses by r: the refusal is that of the document, where it breaks the rules, else r
pub after_rules_lem : (ds : List ℕ) (rest : List Check) (r q : Refusal) → Passes (head_checks ds 0 2048) → Refuses rest r → AfterRules (packet_document ds) r q
    → Refuses (document_rules ds ++ rest) q
after_rules_lem ds rest r q h w t =
    refuses_rest (head_checks ds 0 2048) (document_right (packet_document ds) ++ rest) q h
    (⊎_elim (λ b. inl (b.0, ap number b.1)) (λ v. inr (v.0, subst (Refuses rest) (sym v.1) w)) t.says)

-- what is known where both packets were read
module _ {ds ps : List ℕ} {lists : Lists} {p : Pattern} (t : BothRead ds ps lists p) where
  pub both_nodes : length lists.parents.now ≡ nodes_in ds
  unfolding packet_document
  both_nodes = ap node_count t.document_read ∙ column_length _ (nodes_in ds)

  pub both_few : length lists.parents.now ≤ 2048
  both_few = omega (arith, both_nodes, nodes_few (head_of ds 0 2048 t.header))

  pub pattern_valid : ValidPattern (packet_pattern ps)
  pattern_valid = (read_of ps t.checked).right

  -- with the document's rules every check of both packets holds
  pub both_passes : ValidDocument (packet_document ds) → Passes (document_rules ds ++ pattern_checks ps)
  both_passes v = passes_both (head_checks ds 0 2048) (document_right (packet_document ds) ++ pattern_checks ps) t.header (v, t.checked)

  -- without them the document is refused, whatever comes after
  pub both_bad : (rest : List Check) (r : Refusal) → (ValidDocument (packet_document ds) → ⊥) → number r ≡ 4 → Refuses (document_rules ds ++ rest) r
  both_bad rest r v e = refuses_rest (head_checks ds 0 2048) (document_right (packet_document ds) ++ rest) r t.header (inl (v, e))
