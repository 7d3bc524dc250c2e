-- `rewriting::candidate` meets its contract: the main paths, the label, and then the cut. Assumes nothing.
use Rattle.tables.proofs.Kit.{◌-◌, ◌≡◌, sym, ap, ◌∙◌, subst, arith, length, get_or}
use Rattle.tables.specs.{Tree.From, Pattern.shape_of}
use Rattle.tables.proofs.Kept.{kept_pattern}
use Rattle.rewriting.specs.Candidate.{main_path, cut_step, Cut}
use Rattle.rewriting.proofs.MainPath.{main_length_lem, cut_on_path}
use Rattle.rewriting.proofs.candidate.Goals as goal
use Rattle.rewriting.proofs.candidate.Goals.{After-main_step-c}

-- the step found is the cut step
placed : (x : After-main_step-c) → x.main_step-c.result.0 ≡ cut_step (shape_of x.args.q.table.now) (shape_of x.args.v.table.now)
unfolding cut_step
placed x =
    let Q = shape_of x.args.q.table.now in
    let U = shape_of x.args.v.table.now in
    x.main_step-c.ensures
    ∙ ap (λ i. get_or (main_path Q) i 0)
    {x = length (main_path Q) - 1 - (x.main_length-n.result - x.main_length-k.result)}
    {y = length (main_path U) - 1}
    (omega (arith, main_length_lem (kept_pattern x.args.v.right)))

-- and the output step is at or below it
above : (x : After-main_step-c) → From (shape_of x.args.q.table.now).tree x.main_step-c.result.0 (shape_of x.args.q.table.now).output
above x =
    let Q = shape_of x.args.q.table.now in
    subst (λ s. From Q.tree s Q.output) (sym (placed x)) (cut_on_path (kept_pattern x.args.q.right) (kept_pattern x.args.v.right) (omega arith)).0

pub returns-then-n-k : goal.returns-then-n-k
returns-then-n-k c = λ E k s. omega (arith, k.long)

pub main_step-c-requires : goal.main_step-c-requires
main_step-c-requires c = omega (arith, main_length_lem (kept_pattern c.args.v.right))

pub returns-then-not-agree : goal.returns-then-not-agree
returns-then-not-agree c = λ E k s. rw c.if-not-agree.true at (c.agree.ensures.1 E s)

pub returns : goal.returns
returns c =
    let e = placed (goal.at.returns c).After-main_step-c in
    let q = c.args.q.table.now in
    let r = c.cut.ensures in record {
      long = omega arith;
      same = c.agree.ensures.0 (rw c.if-not-agree.false tt) ∙ ap (λ s. get_or q.label s 0) e;
      shape = r.0;
      cut = subst (λ s. Cut (shape_of q) s r.0) e r.1;
      table = r.2;
    }

pub agree-requires : goal.agree-requires
agree-requires c = (omega arith, placed (goal.at.agree-requires c).After-main_step-c)

pub cut-requires : goal.cut-requires
cut-requires c = above (goal.at.cut-requires c).After-main_step-c
