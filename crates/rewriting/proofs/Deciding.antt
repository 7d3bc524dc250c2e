-- A test that runs tells whether the candidate serves, and so whether anything does. Assumes nothing.
use Rattle.tables.proofs.Kit.{suc, ◌≤◌, subst, Bool, ◌&&◌, arith, T, ltb, eqb, length}
use Rattle.tables.specs.{Pattern.{shape_of, pattern_of, ValidPattern}, declared.Pattern.Pattern}
use Rattle.tables.proofs.Tests.{Tells, tells_lt, tells_eq, tells_and, tells_iff, tells_self}
use Rattle.containment.specs.Mapping.{Equal}
use Rattle.containment.proofs.Deciding.{maps_into, tells_contained}
use Rattle.joining.specs.Join.{join_of, Joinable}
use Rattle.joining.proofs.Order.{join_valid}
use Rattle.rewriting.specs.{Candidate.{main_path, cut_step, Candidate}, Rewriting.Serves}
use Rattle.rewriting.proofs.{Cuts.cut_shape, Rewritten.{candidate_joinable, candidate_exists, candidate_unique}}

-- the candidate's table, where there is a candidate
unfoldable pub candidate_of : Pattern → Pattern → Pattern
candidate_of Q U = pattern_of (cut_shape (shape_of Q) (cut_step (shape_of Q) (shape_of U)))

-- is there a candidate?
unfoldable pub has_candidate : Pattern → Pattern → Bool
has_candidate Q U =
    ltb (length (main_path (shape_of U))) (suc (length (main_path (shape_of Q)))) && eqb ((shape_of U).label (shape_of U).output)
    ((shape_of Q).label (cut_step (shape_of Q) (shape_of U)))

-- is its join with the view equal to the query?
unfoldable pub join_equal : Pattern → Pattern → Bool
join_equal Q U = maps_into (shape_of Q) (shape_of (join_of U (candidate_of Q U))) && maps_into (shape_of (join_of U (candidate_of Q U))) (shape_of Q)

unfoldable pub rewritable : Pattern → Pattern → Bool
rewritable Q U = has_candidate Q U && join_equal Q U

module _ (Q U : Pattern) (vq : ValidPattern Q) (vu : ValidPattern U) (q : Q.count ≤ 32) (u : U.count ≤ 32) where
  tells_candidate : Tells (has_candidate Q U) (Candidate Q U (candidate_of Q U))
  unfolding has_candidate candidate_of
  tells_candidate = tells_iff (tells_and (tells_lt (length (main_path (shape_of U))) (suc (length (main_path (shape_of Q)))))
      (tells_eq ((shape_of U).label (shape_of U).output) ((shape_of Q).label (cut_step (shape_of Q) (shape_of U)))))
      (λ p. candidate_exists Q U vq vu (omega (arith, p.0)) p.1, λ k. (omega (arith, k.long), k.same))

  tells_equal : Joinable U (candidate_of Q U) → Tells (join_equal Q U) (Equal (shape_of (join_of U (candidate_of Q U))) (shape_of Q))
  unfolding join_equal
  tells_equal w =
      let v : ValidPattern (join_of U (candidate_of Q U)) = join_valid U (candidate_of Q U) w in
      tells_iff (tells_and (tells_contained (shape_of Q) (shape_of (join_of U (candidate_of Q U))) vq v)
      (tells_contained (shape_of (join_of U (candidate_of Q U))) (shape_of Q) v vq))
      (λ p. record { to = p.0; back = p.1 }, λ e. (e.to, e.back))

  -- the test tells whether the candidate serves
  pub tells_rewritable : Tells (rewritable Q U) (Candidate Q U (candidate_of Q U) × Serves Q U (candidate_of Q U))
  unfolding rewritable
  tells_rewritable = record {
    says = λ t.
        let p = (tells_and tells_candidate (tells_self {b = join_equal Q U})).says t in
        let w : Joinable U (candidate_of Q U) = candidate_joinable Q U vq vu p.0 q u in
        (p.0, record { joinable = w; equal = (tells_equal w).says p.1 });
    test = λ s. (tells_and tells_candidate (tells_self {b = join_equal Q U})).test (s.0, (tells_equal s.1.joinable).test s.1.equal);
  }

  -- where it fails, no candidate serves
  pub not_rewritable : (T (rewritable Q U) → ⊥) → (E : Pattern) → Candidate Q U E → Serves Q U E → ⊥
  unfolding candidate_of
  not_rewritable n E k s =
      let c : Candidate Q U (candidate_of Q U) = candidate_exists Q U vq vu k.long k.same in
      n (tells_rewritable.test (c, subst (Serves Q U) (candidate_unique k c) s))
