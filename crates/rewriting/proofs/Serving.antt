-- If some compensation serves a query by a view, the cut of the query does, and it is contained in every such compensation. Assumes nothing.
use Rattle.tables.proofs.Kit.{ℕ, zero, suc, ◌+◌, ◌-◌, ◌≤◌, ◌<◌, ◌≡◌, refl, sym, ap, ◌∙◌, subst, subst₂, ⊎_elim, arith, eq-zero-or-pos}
use Rattle.tables.specs.{Tree.{Child, child, From}, Pattern.{Shape, rows_of}}
use Rattle.tables.proofs.{Depth.{depth, depth_zero, depth_child, depth_unique}, Trees.{Ordered, below_lt, from_root, from_le}}
use Rattle.placing.proofs.Compose.{compose, identity}
use Rattle.containment.specs.Mapping.{Maps}
use Rattle.containment.proofs.Maps.{maps_compose}
use Rattle.joining.specs.Join.{renumber}
use Rattle.joining.proofs.{Parts.{renumber_low, both, both_view, both_tail}, Joined.{Joined, view_child, renumber_zero, first_axis}}
use Rattle.joining.proofs.{Glue.{split_view, split_tail, glue}, Order.tail_from}
use Rattle.rewriting.specs.Candidate.{Cut}
use Rattle.rewriting.proofs.{Depths.{from_sends, keeps}, CutSends.{cut_into, cut_back}}

-- depths in a join
module _ {U E J : Shape} {e : ℕ} (j : Joined U E J e) (lo : U.output < U.tree.size) (vu : Ordered U.tree) (vj : Ordered J.tree) where
  -- a step of the view stands as deep in the join
  pub view_depth_to : (k s : ℕ) → s ≤ k → s < U.tree.size → depth J.tree (renumber U.output e s) ≡ depth U.tree s
  view_depth_to zero s m l =
      let z : s ≡ 0 = omega arith in
      ap (λ x. depth J.tree (renumber U.output e x)) z ∙ ap (depth J.tree) (renumber_zero j lo) ∙ depth_zero J.tree ∙ sym (depth_zero U.tree) ∙
      ap (depth U.tree) (sym z)
  view_depth_to (suc k) s m l = ⊎_elim (λ z. view_depth_to k s (omega arith) l) (λ p. let q : ℕ = U.tree.parent s in
      let c : Child U.tree q s = record { late = p; here = l; up = refl } in
      let g : q < s = below_lt vu (child c) in
      omega (
        arith,
        depth_child vu q s c,
        depth_child vj (renumber U.output e q) (renumber U.output e s) (view_child j lo c),
        view_depth_to k q (omega arith) (omega arith),
      ))
      (eq-zero-or-pos s)

  -- the joint is above the join's output
  pub joint : Ordered E.tree → E.output < E.tree.size → From J.tree U.output J.output
  joint ve le = subst₂ (From J.tree) {x = U.output + 0} (omega arith) (sym j.output) (tail_from j lo 0 E.output (from_root ve E.output le))

-- Q is equal to the join J of U with E, by mappings both ways
pub record EqualJoin (Q U E J : Shape) (e : ℕ) (h g : ℕ → ℕ) : Type 0 where
  pub joined : Joined U E J e
  pub query : Ordered Q.tree
  pub view : Ordered U.tree
  pub tail : Ordered E.tree
  pub join : Ordered J.tree
  pub query_output : Q.output < Q.tree.size
  pub view_output : U.output < U.tree.size
  pub tail_output : E.output < E.tree.size
  pub same : U.label U.output ≡ E.label 0
  pub to : Maps Q J h
  pub back : Maps J Q g

-- C is the cut of Q at the step of its main path that is as deep as U's output
pub record CutAt (Q U : Shape) (c : ℕ) (C : Shape) : Type 0 where
  pub cut : Cut Q c C
  pub main : From Q.tree c Q.output
  pub deep : depth Q.tree c ≡ depth U.tree U.output
  pub ordered : Ordered C.tree
  pub output : C.output < C.tree.size

-- the joint goes to a step of the query's main path that is as deep as the view's output
pub reaches : {Q U E J : Shape} {e : ℕ} {h g : ℕ → ℕ} → EqualJoin Q U E J e h g
    → (c : ℕ) × From Q.tree c Q.output × (depth Q.tree c ≡ depth U.tree U.output)
reaches {Q} {U} {E} {J} {e} {h} {g} x = (
  g U.output,
  subst (From Q.tree (g U.output)) x.back.output (from_sends Q x.join x.query x.back.sends
      (joint x.joined x.view_output x.view x.join x.tail x.tail_output)),
  keeps x.query x.join x.query_output x.to x.back U.output (omega (arith, x.joined.size))
      (joint x.joined x.view_output x.view x.join x.tail x.tail_output)
      ∙ ap (depth J.tree) (sym (renumber_low U.output e U.output (omega arith))) ∙ view_depth_to x.joined x.view_output x.view x.join
      U.output U.output (omega arith) x.view_output,
)

-- the query is equal to the join, and C is its cut
module _ {Q U E J C : Shape} {e c : ℕ} {h g : ℕ → ℕ} (x : EqualJoin Q U E J e h g) (w : CutAt Q U c C) where
  low : (n : ℕ) → renumber U.output n U.output ≡ U.output
  low n = renumber_low U.output n U.output (omega arith)

  joint_small : U.output < J.tree.size
  joint_small = omega (arith, x.joined.size)

  here : c < Q.tree.size
  here = omega (arith, from_le x.query c Q.output w.main)

  -- the joint goes to the cut
  meets : g U.output ≡ c
  unfolding reaches
  meets = let r = reaches x in depth_unique x.query (g U.output) c Q.output r.1 w.main (r.2 ∙ sym w.deep)

  -- so the labels agree, and the cut can be joined to the view
  pub same_label : U.label U.output ≡ C.label 0
  same_label =
      sym (x.joined.view_label U.output x.view_output) ∙ ap J.label (low e) ∙ sym (x.back.sends.takes U.output joint_small).fits.same
      ∙ ap Q.label (meets ∙ omega arith) ∙ w.cut.label 0 w.ordered.some

  -- and the cut is contained in every such E
  pub narrowest : C.axis 0 ≡ 0 → Maps E C (λ t. g (U.output + t) - c)
  narrowest a =
      let y : g (U.output + 0) ≡ c = ap g (omega arith) ∙ meets in
      let n : g (U.output + E.output) ≡ Q.output = ap g (sym x.joined.output) ∙ x.back.output in
      record {
        sends = cut_back x.query w.cut here x.tail (split_tail x.joined x.view_output x.same (rows_of Q) x.back.sends) y;
        first = λ b. (omega arith, a);
        output = omega (arith, w.cut.output);
      }

  -- the join K of U with the cut
  module _ {K : Shape} {k : ℕ} (jk : Joined U C K k) where
    axis_j : J.axis 0 ≡ U.axis 0
    axis_j = first_axis x.joined x.view_output

    axis_k : K.axis 0 ≡ U.axis 0
    axis_k = first_axis jk x.view_output

    pub kq : ℕ → ℕ
    kq = both U.output k (λ s. g (renumber U.output e s)) (λ t. c + t)

    -- maps into the query
    pub join_to_query : Maps K Q kq
    unfolding kq
    join_to_query =
        let z : g (renumber U.output e U.output) ≡ c + 0 = ap g (low e) ∙ meets ∙ omega arith in
        record {
          sends = glue jk x.view_output same_label (rows_of Q) w.ordered (split_view x.joined x.view_output x.same (rows_of Q) x.back.sends)
              (cut_into x.query w.cut here) z;
          first = λ a. let s = x.back.first (axis_j ∙ sym axis_k ∙ a) in (
            both_view U.output k (λ s. g (renumber U.output e s)) (λ t. c + t) 0 0 (sym (renumber_zero jk x.view_output)) ∙ ap g
                (renumber_zero x.joined x.view_output) ∙ s.0,
            s.1,
          );
          output = ap kq jk.output ∙ both_tail U.output k (λ s. g (renumber U.output e s)) (λ t. c + t) z C.output (omega (arith, jk.more)) ∙ sym
              w.cut.output;
        }

    tail_jk : ℕ → ℕ
    tail_jk t = U.output + (g (U.output + t) - c)

    pub jk_map : ℕ → ℕ
    jk_map = both U.output e (renumber U.output k) tail_jk

    -- the join with E maps into it
    join_to_join : Maps J K jk_map
    unfolding jk_map tail_jk
    join_to_join =
        let y : g (U.output + 0) ≡ c = ap g (omega arith) ∙ meets in
        let z : renumber U.output k U.output ≡ U.output + (g (U.output + 0) - c) = omega (arith, low k) in
        let n : g (U.output + E.output) ≡ Q.output = ap g (sym x.joined.output) ∙ x.back.output in
        record {
          sends = glue x.joined x.view_output x.same (rows_of K) x.tail (split_view jk x.view_output same_label (rows_of K) (identity K))
              (compose (cut_back x.query w.cut here x.tail (split_tail x.joined x.view_output x.same (rows_of Q) x.back.sends) y)
              (split_tail jk x.view_output same_label (rows_of K) (identity K))) z;
          first = λ a. (
            both_view U.output e (renumber U.output k) tail_jk 0 0 (sym (renumber_zero x.joined x.view_output)) ∙ renumber_zero jk x.view_output,
            axis_k ∙ sym axis_j ∙ a,
          );
          output = ap jk_map x.joined.output ∙ both_tail U.output e (renumber U.output k) tail_jk z E.output (omega (arith, x.joined.more)) ∙
              omega
              (arith, n, w.cut.output, jk.output);
        }

    -- and the query into it
    pub query_to_join : Maps Q K (λ t. jk_map (h t))
    query_to_join = maps_compose x.to join_to_join
