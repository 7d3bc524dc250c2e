-- Shapes that agree on their steps are placed alike, have the same answers, and are sent into alike; checks that ask the same refuse alike. Assumes nothing.
use Rattle.tables.proofs.Kit.{ℕ, zero, suc, ◌<◌, ◌≡◌, refl, sym, ◌∙◌, subst, inl, inr, ⊎_elim, ◌↔◌, List, [], ◌∷◌, Result, Ok, Err}
use Rattle.tables.specs.{Tree.{Child, From, Rows}, Document.{Document, nodes_of}, Pattern.{Shape, shape_of, rows_of}, Refusal.{Check, Passes, Refuses}}
use Rattle.tables.specs.{Refusal.{Decided}, declared.Pattern.Pattern, declared.Refusal.Refusal}
use Rattle.tables.proofs.{Trees.from_here, Rules.{Agree, agree_sym}, Agreement.below_agree}
use Rattle.placing.specs.{Placement.{Takes, Goes, Sends, Reaches}, Answer.{Begins, Answer}}
use Rattle.answers.specs.Working.{FitsAt}
use Rattle.promises.specs.SameSteps.{SameSteps}

-- tables with the same steps have shapes that agree
pub same_agree : {p q : Pattern} → SameSteps p q → Agree (shape_of p) (shape_of q)
same_agree e = record { size = e.count; output = e.output; parent = e.parent; axis = e.axis; label = e.label }

pub same_sym : {p q : Pattern} → SameSteps p q → SameSteps q p
same_sym {p} {q} e =
    let b = agree_sym (same_agree e) in record { count = b.size; output = b.output; parent = b.parent; axis = b.axis; label = b.label }

-- two lists of checks ask the same, each where those before it hold, and give the same numbers
abbrev pub SameChecks : List Check → List Check → Type 0
SameChecks [] [] = Unit {0}
SameChecks [] (d ∷ ds) = ⊥
SameChecks (c ∷ cs) [] = ⊥
SameChecks (c ∷ cs) (d ∷ ds) = (c.asks ↔ d.asks) × (c.gives ≡ d.gives) × (c.asks → SameChecks cs ds)

-- a check that asks the same in both, and those after it
pub alike : {X Y R : Type 0} {k : ℕ} → X ↔ Y → (X → R) → (X ↔ Y) × (k ≡ k) × (X → R)
alike h f = (h, refl, f)

-- they pass together
pub passes_alike : (cs ds : List Check) → SameChecks cs ds → Passes cs → Passes ds
passes_alike [] [] a p = tt
passes_alike [] (d ∷ ds) a p = absurd a
passes_alike (c ∷ cs) [] a p = absurd a
passes_alike (c ∷ cs) (d ∷ ds) a p = (a.0.0 p.0, passes_alike cs ds (a.2 p.0) p.1)

-- and refuse together
pub refuses_alike : (cs ds : List Check) (r : Refusal) → SameChecks cs ds → Refuses cs r → Refuses ds r
refuses_alike [] [] r a h = h
refuses_alike [] (d ∷ ds) r a h = absurd a
refuses_alike (c ∷ cs) [] r a h = absurd a
refuses_alike (c ∷ cs) (d ∷ ds) r a h =
    ⊎_elim (λ w. inl (λ x. w.0 (a.0.1 x), w.1 ∙ a.1)) (λ w. inr (a.0.0 w.0, refuses_alike cs ds r (a.2 w.0) w.1)) h

-- so a call answers alike by either
pub decided_alike : {A : Type 0} (cs ds : List Check) (r : Result A Refusal) (X X' : A → Type 0) (Y Y' : Type 0) → SameChecks cs ds
    → (Passes cs → (c : A) → X c → X' c) → (Y → Y') → Decided cs r X Y → Decided ds r X' Y'
decided_alike cs ds (Ok c) X X' Y Y' a f g h = (passes_alike cs ds a h.0, f h.0 c h.1)
decided_alike cs ds (Err r) X X' Y Y' a f g h = (refuses_alike cs ds r a h.0, g h.1)

module _ {A B : Shape} (e : Agree A B) where
  -- steps of the one are steps of the other
  here_alike : {s : ℕ} → s < A.tree.size → s < B.tree.size
  here_alike {s} l = subst (λ (n : ℕ). s < n) e.size l

  -- children too
  child_alike : {a i : ℕ} → Child A.tree a i → Child B.tree a i
  child_alike {a} {i} c = record { late = c.late; here = here_alike c.here; up = sym (e.parent i c.here) ∙ c.up }

  -- and what is at or below a step
  pub from_alike : {a i : ℕ} → From A.tree a i → From B.tree a i
  from_alike (inl k) = inl k
  from_alike (inr b) = inr (below_agree e.size e.parent b)

  -- what goes to rows of the one goes to those of the other
  goes_alike : (x j i : ℕ) → Goes (rows_of A) x j i → Goes (rows_of B) x j i
  goes_alike zero j i g = (child_alike g.0, sym (e.axis i g.0.here) ∙ g.1)
  goes_alike (suc x) j i g = below_agree e.size e.parent g

  pub sends_into : {C : Shape} {f : ℕ → ℕ} → Sends C (rows_of A) f → Sends C (rows_of B) f
  sends_into {C} {f} h = record {
    takes = λ s l. let t = h.takes s l in record { here = here_alike t.here; fits = record { same = sym (e.label (f s) t.here) ∙ t.fits.same } };
    edge = λ s q c. goes_alike (C.axis s) (f q) (f s) (h.edge s q c);
  }

module _ {A B : Shape} (e : Agree A B) where
  -- what sends the steps of the one sends those of the other
  pub sends_alike : {X : Rows} {f : ℕ → ℕ} → Sends A X f → Sends B X f
  sends_alike {X} {f} h = record {
    takes = λ s l. let m = here_alike (agree_sym e) l in subst (λ (x : ℕ). Takes X x (f s)) (e.label s m) (h.takes s m);
    edge = λ s q c. let k = child_alike (agree_sym e) c in subst (λ (x : ℕ). Goes X x (f q) (f s)) (e.axis s k.here) (h.edge s q k);
  }

  pub reaches_alike : {X : Rows} {First Other : ℕ → Type 0} → ((i : ℕ) → First i → Other i) → (s i : ℕ) → Reaches A X First s i → Reaches B X Other s i
  reaches_alike g s i r = record { by = r.by; sends = sends_alike r.sends; first = g (r.by 0) r.first; at = r.at }

  -- the first step may go to the same rows
  pub begins_alike : 0 < A.tree.size → (i : ℕ) → Begins A i → Begins B i
  begins_alike l i b = λ z. b (e.axis 0 l ∙ z)

  -- the answers are the same
  pub answer_alike : 0 < A.tree.size → (d : Document) (i : ℕ) → Answer A d i → Answer B d i
  answer_alike l d i a = subst (λ (s : ℕ). Reaches B (nodes_of d) (Begins B) s i) e.output (reaches_alike (begins_alike l) A.output i a)

  -- and so are the steps that fit at a node
  pub fits_alike : (d : Document) (i s : ℕ) → FitsAt A d i s → FitsAt B d i s
  fits_alike d i s w = (
    here_alike e w.0,
    record {
      by = w.1.by;
      sends = let h = w.1.sends in record {
        at = h.at;
        takes = λ t k. let m = from_alike (agree_sym e) k in
            subst (λ (x : ℕ). Takes (nodes_of d) x (w.1.by t)) (e.label t (from_here w.0 m)) (h.takes t m);
        edge = λ t q c k. let m = child_alike (agree_sym e) c in
            subst (λ (x : ℕ). Goes (nodes_of d) x (w.1.by q) (w.1.by t)) (e.axis t m.here) (h.edge t q m (from_alike (agree_sym e) k));
      };
    },
  )
