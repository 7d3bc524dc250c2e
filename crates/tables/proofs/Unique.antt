-- No second result of the two checks fits: neither another verdict nor another table that is handed back. Assumes nothing.
use Rattle.tables.proofs.Kit.{◌≡◌, Result}
use Rattle.tables.specs.{
  Checks.{document_right, pattern_right, ChecksDocument, ChecksPattern},
  Document.{Document, of_lists},
  declared.Pattern.Pattern,
  declared.Refusal.Refusal,
  declared.right.RightDocument.RightDocument,
  declared.right.RightPattern.RightPattern,
}
use Rattle.tables.proofs.Refusals.{recast, recast_unique}

pub checks_document_unique : (d : Document) (r s : Result RightDocument Refusal) → ChecksDocument d r → ChecksDocument d s
    → recast (λ (a : RightDocument). of_lists a.lists) r ≡ recast (λ (a : RightDocument). of_lists a.lists) s
checks_document_unique d r s h k =
    let X : RightDocument → Type 0 = λ a. of_lists a.lists ≡ d in
    recast_unique _ _ d (document_right d) r s X X (Unit {0}) (Unit {0}) (λ a x. x) (λ a x. x) h k

pub checks_pattern_unique : (p : Pattern) (r s : Result RightPattern Refusal) → ChecksPattern p r → ChecksPattern p s
    → recast (λ (a : RightPattern). a.table.now) r ≡ recast (λ (a : RightPattern). a.table.now) s
checks_pattern_unique p r s h k =
    let X : RightPattern → Type 0 = λ a. a.table.now ≡ p in
    recast_unique _ _ p (pattern_right p) r s X X (Unit {0}) (Unit {0}) (λ a x. x) (λ a x. x) h k
