-- What mappings do to depths: a step goes no higher than it stood, and between patterns that map into each other a main path step keeps its depth, its label
-- and its axis. Assumes nothing.
use Rattle.tables.proofs.Kit.{ℕ, ◌+◌, ◌≤◌, ◌<◌, ◌≡◌, refl, sym, ap, ◌∙◌, subst, inl, inr, ⊎_elim, arith, eq-zero-or-pos}
use Rattle.tables.specs.{Tree.{Below, child, under, From}, Pattern.{Shape, rows_of}}
use Rattle.tables.proofs.{Depth.{depth, depth_zero, depth_child, depth_below, depth_unique}, Trees.{Ordered, from_root}}
use Rattle.placing.specs.Placement.{Goes, Sends}
use Rattle.placing.proofs.Compose.{below_sends}
use Rattle.containment.specs.Mapping.{Maps}

-- what a mapping does to depths
module _ {B : Shape} (A : Shape) {m : ℕ → ℕ} (vb : Ordered B.tree) (va : Ordered A.tree) (p : Sends B (rows_of A) m) where
  pub from_sends : {s t : ℕ} → From B.tree s t → From A.tree (m s) (m t)
  from_sends w = ⊎_elim (λ e. inl (ap m e)) (λ b. inr (below_sends p b)) w

  stretch_below : {s t : ℕ} → Below B.tree s t → depth B.tree t + depth A.tree (m s) ≤ depth A.tree (m t) + depth B.tree s
  stretch_below {s} {t} (child c) = omega (arith, depth_child vb s t c, depth_below va (below_sends p (child c)))
  stretch_below {s} {t} (under {m = r} c b) = omega (arith, depth_child vb r t c, stretch_below b, depth_below va (below_sends p (child c)))

  stretch : (s t : ℕ) → From B.tree s t → depth B.tree t + depth A.tree (m s) ≤ depth A.tree (m t) + depth B.tree s
  stretch s t w = ⊎_elim (λ e. omega (arith, ap (depth B.tree) e, ap (λ x. depth A.tree (m x)) e)) stretch_below w

  deeper : (t : ℕ) → t < B.tree.size → depth B.tree t ≤ depth A.tree (m t)
  deeper t l = omega (arith, depth_zero B.tree, stretch 0 t (from_root vb t l))

-- Two patterns that map into each other: a step above the output keeps its depth.
module _ {Q J : Shape} {h g : ℕ → ℕ} (vq : Ordered Q.tree) (vj : Ordered J.tree) (lq : Q.output < Q.tree.size) (hm : Maps Q J h) (gm : Maps J Q g)
  where
    pub keeps : (s : ℕ) → s < J.tree.size → From J.tree s J.output → depth Q.tree (g s) ≡ depth J.tree s
    keeps s l w = omega (
      arith,
      deeper Q vj vq gm.sends s l,
      stretch Q vj vq gm.sends s J.output w,
      deeper J vq vj hm.sends Q.output lq,
      ap (depth J.tree) hm.output,
      ap (depth Q.tree) gm.output,
    )

    -- it goes to the other's step of that depth, which has its label
    pub meets : (s t : ℕ) → t < J.tree.size → From J.tree t J.output → From Q.tree s Q.output → depth Q.tree s ≡ depth J.tree t → g t ≡ s
    meets s t l w x e =
        depth_unique vq (g t) s Q.output (subst (From Q.tree (g t)) gm.output (from_sends Q vj vq gm.sends w)) x (keeps t l w ∙ sym e)

    pub same_labels : (s t : ℕ) → t < J.tree.size → From J.tree t J.output → From Q.tree s Q.output → depth Q.tree s ≡ depth J.tree t → Q.label s ≡ J.label t
    same_labels s t l w x e = ap Q.label (sym (meets s t l w x e)) ∙ (gm.sends.takes t l).fits.same

    -- and has axis child where it has
    pub child_there : (s t : ℕ) → t < J.tree.size → From J.tree t J.output → From Q.tree s Q.output → depth Q.tree s ≡ depth J.tree t
        → J.axis t ≡ 0 → Q.axis s ≡ 0
    child_there s t l w x e a =
        let m : g t ≡ s = meets s t l w x e in
        ap Q.axis (sym m) ∙ ⊎_elim
        (λ z. let f = gm.first (ap J.axis (sym z) ∙ a) in ap (λ i. Q.axis (g i)) z ∙ ap Q.axis f.0 ∙ f.1)
        (λ p. (subst (λ b. Goes (rows_of Q) b (g (J.tree.parent t)) (g t)) a (gm.sends.edge t (J.tree.parent t) (record { late = p; here = l; up = refl }))
        ).1)
        (eq-zero-or-pos t)
