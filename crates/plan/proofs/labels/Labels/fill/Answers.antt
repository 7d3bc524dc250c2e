-- `Labels::fill` meets its contract. The loop's invariant: the steps below s stand in both tables, by the bytes of their labels. Assumes nothing.
use Rattle.tables.proofs.Kit.{ℕ, ◌/◌, ◌%◌, ◌<◌, ◌≡◌, ap, ◌∙◌, arith, length-replicate, length-set, length-take, get_or, get_or-take}
use Rattle.tables.specs.Pattern.{shape_of}
use Rattle.tables.proofs.{Kept.kept_pattern, MarkTables.{label_small, keyed_none, keyed_more}}
use Rattle.plan.proofs.labels.Labels.fill.Goals as goal

pub loop-s-init : goal.loop-s-init
loop-s-init c = rw c.requires (
  length-replicate {A = ℕ} 256 0,
  length-replicate {A = ℕ} 256 0,
  keyed_none _ 0 256,
  keyed_none _ 0 256,
)

pub loop-s-preserved : goal.loop-s-preserved
loop-s-preserved c =
    let p = c.args.p.table.now in
    let s = c.loop-s.s in
    let i = c.loop-s.invariant in
    let l : ℕ = get_or p.label s 0 in
    let few : s < p.count = omega (arith, length-take p.count p.label) in
    let e = get_or-take p.count p.label s 0 few in
    let small : l < 65536 = label_small (shape_of p) (kept_pattern c.args.p.right) s few in
    let low : c.from.result ≡ l % 256 = c.from.ensures ∙ ap (λ b. get_or b 0 0) c.to_le_bytes.ensures ∙ ap (λ x. x % 256) e in
    let high : c.from-in-loop-s.result ≡ l / 256 % 256
    = c.from-in-loop-s.ensures ∙ ap (λ b. get_or b 1 0) c.to_le_bytes.ensures ∙ ap (λ x. x / 256 % 256) e in
    let top : c.from-in-loop-s.result ≡ l / 256 = omega arith in
    let own = c.one_bit-own.ensures in (
      simp length-set i.0,
      simp length-set i.1,
      rw (low, own) (keyed_more _ 0 s c.loop-s.self.low (omega arith) (omega (arith, i.0)) i.2),
      rw (top, own) (keyed_more _ 0 s c.loop-s.self.high (omega arith) (omega (arith, i.1)) i.3),
    )
