-- What a table that obeys the rules keeps beside it, as the statement of the rules: a test decides them, so the statement can be had back. Assumes nothing.
use Rattle.std.proofs.Math.{Dec.T_prop, Logic.∥∥₁_elim}
use Rattle.tables.specs.{Document.{Document, ValidDocument}, Pattern.{Shape, ValidShape}}
use Rattle.tables.proofs.{Rules.{is_pattern, is_document, tells_pattern, tells_document}}

pub kept_pattern : {A : Shape} → ∥ ValidShape A ∥₁ → ValidShape A
kept_pattern {A} h = (tells_pattern A).says (∥∥₁_elim h (T_prop (is_pattern A)) (tells_pattern A).test)

pub kept_document : {d : Document} → ∥ ValidDocument d ∥₁ → ValidDocument d
kept_document {d} h = (tells_document d).says (∥∥₁_elim h (T_prop (is_document d)) (tells_document d).test)
