-- What the search for a candidate gives. Assumes nothing.
use Rattle.std.specs.Prelude.{Option, Some, None}
use Rattle.tables.specs.declared.Pattern.{Pattern}
use Rattle.rewriting.specs.{Candidate.{Candidate}, Rewriting.{Serves}}

-- the candidate for Q by U, or none where no candidate serves
abbrev pub Tries : Pattern → Pattern → Option Pattern → Type 0
Tries Q U (Some C) = Candidate Q U C
Tries Q U None = (E : Pattern) → Candidate Q U E → Serves Q U E → ⊥
