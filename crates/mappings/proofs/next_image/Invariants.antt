-- `mappings::next_image` meets its contract: none of the steps from q to s is right. Assumes nothing.
use Rattle.tables.specs.Pattern.{Shape}
use Rattle.mappings.specs.Fits.{StepsOf}
use Rattle.mappings.proofs.Images.{Sought}
use Rattle.mappings.proofs.next_image.Given as goal

abbrev pub invariant-loop-s : goal.invariant-loop-s
invariant-loop-s l = (A : Shape) → StepsOf A l.a → Sought A l.fit l.t.0 l.axis l.q.0 l.s
