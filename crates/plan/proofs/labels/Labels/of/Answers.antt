-- `Labels::of` meets its contract: two bytes tell whether a label fits. Assumes nothing.
use Rattle.tables.proofs.Kit.{◌/◌, ◌%◌, ◌≡◌, ap, ◌∙◌, arith, get_or}
use Rattle.plan.proofs.Steps.{of_label}
use Rattle.plan.proofs.labels.Labels.of.Goals as goal

pub returns : goal.returns
returns c = λ A t.
    let l = c.args.label in
    let low : c.from.result ≡ l % 256 = c.from.ensures ∙ ap (λ b. get_or b 0 0) c.to_le_bytes.ensures in
    let high : c.from-2.result ≡ l / 256 % 256 = c.from-2.ensures ∙ ap (λ b. get_or b 1 0) c.to_le_bytes.ensures in
    let top : c.from-2.result ≡ l / 256 = omega arith in
    rw (low, top) (of_label A _ l t)
