-- `rewriting::serves` meets its contract: the join obeys the rules, and is compared with the query. Assumes nothing.
use Rattle.tables.proofs.Kit.{sym, subst, ◌↔◌, T}
use Rattle.tables.specs.{Pattern.{shape_of, ValidPattern}, declared.Pattern.Pattern}
use Rattle.containment.specs.Mapping.{Equal}
use Rattle.containment.proofs.Maps.{equal_sym}
use Rattle.joining.proofs.Order.{join_valid}
use Rattle.rewriting.proofs.serves.Goals as goal

-- what is compared with the query obeys the rules
pub invariant_of-same : goal.invariant_of-same
invariant_of-same c = record { right = ∣ subst ValidPattern (sym c.join_table-j.ensures) (join_valid c.args.v.now c.args.e.now c.requires) ∣₁ }

pub returns : goal.returns
returns c =
    let h = subst (λ (p : Pattern). T c.same.result ↔ Equal (shape_of c.args.q.table.now) (shape_of p)) c.join_table-j.ensures c.same.ensures in
    (λ t. equal_sym (h.0 t), λ e. h.1 (equal_sym e))
