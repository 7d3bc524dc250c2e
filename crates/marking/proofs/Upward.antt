-- Which steps fit at each node: the upward pass over rows with the nodes as rows, and both numbers of a node in one list. Assumes nothing.
use Rattle.tables.proofs.Kit.{ℕ, suc, ◌+◌, ◌*◌, ◌≤◌, ◌<◌, ◌≡◌, refl, sym, ap, ◌∙◌, subst, ◌↔◌, ⊎_elim, List}
use Rattle.tables.proofs.Kit.{arith, eq-or-lt_of_le, length, get_or, set, length-set, get_or-set_same, get_or-set_other}
use Rattle.tables.specs.{Bits.Marks, Tree.Child, Document.{Document, node_count, nodes_of, ValidDocument}, Pattern.{Shape, ValidShape}}
use Rattle.tables.proofs.Rules.{document_ordered, shape_ordered}
use Rattle.placing.specs.Placement.{LabelFits, ReachesFrom}
use Rattle.placing.proofs.{Fit.Able, Sending.{task, reaches_able}}
use Rattle.plan.specs.Steps.{FitsBy}
use Rattle.plan.proofs.Rising.{Risen, risen_start, risen_turn, risen_fits, along}
use Rattle.marking.specs.Entries.{first, second, HandedUp, Fitted}

-- node i can hold step s and, below it, what hangs on s
abbrev pub Fits : Shape → Document → ℕ → ℕ → Type 0
Fits A d i s = (s < A.tree.size) × ReachesFrom A (nodes_of d) s i

-- a step fits where it can be sent child by child
pub can : (A : Shape) (d : Document) → ValidShape A → (i s : ℕ) → ((s < A.tree.size) × Able (task A (nodes_of d)) s i) ↔ Fits A d i s
can A d va i s = (
  λ q. (q.0, (reaches_able A (nodes_of d) (shape_ordered va) s i q.0).0 q.1),
  λ h. (h.0, (reaches_able A (nodes_of d) (shape_ordered va) s i h.0).1 h.1),
)

-- nodes from k on have had their turn, and the seed in the second entry
pub record Upward (A : Shape) (d : Document) (seed k : ℕ) (before work : List ℕ) : Type 0 where
  pub same_length : length work ≡ length before
  pub risen : Risen (nodes_of d) (Fits A d) k (first work) (second work)
  pub seeded : (i : ℕ) → k ≤ i → i < node_count d → second work i ≡ seed
  pub rest : (q : ℕ) → 2 * node_count d ≤ q → get_or work q 0 ≡ get_or before q 0

module _ (A : Shape) (d : Document) (va : ValidShape A) (vd : ValidDocument d) (seed : ℕ) where
  -- before the first turn: two zeros for each node
  pub up_start : (work : List ℕ) → ((q : ℕ) → q < 2 * node_count d → get_or work q 0 ≡ 0) → Upward A d seed (node_count d) work work
  up_start work z = record {
    same_length = refl;
    risen = risen_start (nodes_of d) (Fits A d) (first work) (second work) (λ i l. (z (2 * i) (omega arith), z (2 * i + 1) (omega arith)));
    seeded = λ i h l. absurd (omega arith);
    rest = λ q l. refl;
  }

  -- the steps found from the entries of a node whose children have had their turn are those that fit
  pub up_fits : (i : ℕ) (before work : List ℕ) → i < node_count d → Upward A d seed (suc i) before work → (x : ℕ)
      → Marks x (FitsBy A (λ s. LabelFits (A.label s) (get_or d.labels i 0)) (first work i) (second work i)) → Marks x (Fits A d i)
  up_fits i before work l u = risen_fits A (nodes_of d) (task A (nodes_of d)).ok (Fits A d) (document_ordered vd) (can A d va) i
      (λ s. LabelFits (A.label s) (get_or d.labels i 0)) (λ s. (λ q. record { here = l; fits = q }, λ q. q.fits)) (first work) (second work) u.risen

  -- one turn
  pub up_turn : (i p x : ℕ) (before work after : List ℕ) → Child (nodes_of d).tree p i → Upward A d seed (suc i) before work → Marks x (Fits A d i)
      → HandedUp work i p x (second work i) seed after → Upward A d seed i before after
  up_turn i p x before work after c u m h = record {
    same_length = h.same_length ∙ u.same_length;
    risen = risen_turn (nodes_of d) (Fits A d) (document_ordered vd) i p x x (first work) (second work) (first after) (second after) c u.risen m
        (along (nodes_of d) (Fits A d) i x 0 refl m) h.turn;
    seeded = λ k g l. ⊎_elim (λ e. ap (second after) (sym e) ∙ h.seeded) (λ n. h.later (2 * k + 1) (omega arith) ∙ u.seeded k n l) (eq-or-lt_of_le g);
    rest = λ q l. h.later q (omega (arith, c.here)) ∙ u.rest q l;
  }

  -- the last turn is node 0's
  pub up_root : (x : ℕ) (before work : List ℕ) → Upward A d seed 1 before work → Marks x (Fits A d 0) → 1 < length work → Fitted A d seed before
      (set (set work 0 x) 1 seed)
  up_root x before work u m h = record {
    same_length = simp length-set u.same_length;
    fits = λ i l. let k : 0 ≤ i = omega arith in ⊎_elim (λ z. subst (λ (y : ℕ). Marks (first after y) (Fits A d y)) z (rw own m))
        (λ g. rw (old (2 * i) (omega arith)) (u.risen.fits i g l)) (eq-or-lt_of_le k);
    seeded = λ i l. let k : 0 ≤ i = omega arith in ⊎_elim (λ z. ap (second after) (sym z) ∙ get_or-set_same (set work 0 x) 1 seed 0 (simp length-set h))
        (λ g. old (2 * i + 1) (omega arith) ∙ u.seeded i g l) (eq-or-lt_of_le k);
    rest = λ q l. old q (omega (arith, vd.some)) ∙ u.rest q l;
  }
    where
      after : List ℕ
      after = set (set work 0 x) 1 seed

      own : get_or after 0 0 ≡ x
      own = get_or-set_other (set work 0 x) 1 0 seed 0 (omega arith) ∙ get_or-set_same work 0 x 0 (omega arith)

      old : (q : ℕ) → 2 ≤ q → get_or after q 0 ≡ get_or work q 0
      old q l = get_or-set_other (set work 0 x) 1 q seed 0 (omega arith) ∙ get_or-set_other work 0 q x 0 (omega arith)
