-- What follows from both outcomes of one call, whether it answers or refuses; and the checks of a call that makes other calls one after the other, which are
-- theirs, one list after the other. Assumes nothing.
use Rattle.tables.proofs.Kit.{ℕ, inl, inr, ⊎_elim, List, [], ◌∷◌, ◌++◌, Result, Ok, Err}
use Rattle.tables.specs.{Refusal.{Check, Passes, Refuses, Decided}, declared.Refusal.Refusal}
use Rattle.tables.proofs.Refusals.{refuses_not_passes}

-- two outcomes of one call: what both answers and both refusals give
pub decided_both : {A B : Type 0} (cs : List Check) (a : Result A Refusal) (b : Result B Refusal) {X : A → Type 0} {X' : B → Type 0} {Y Y' G : Type 0}
    → ((c : A) (e : B) → X c → X' e → G) → (Y → Y' → G) → Decided cs a X Y → Decided cs b X' Y' → G
decided_both cs (Ok c) (Ok e) f g h k = f c e h.1 k.1
decided_both cs (Ok c) (Err q) f g h k = absurd (refuses_not_passes cs q k.0 h.0)
decided_both cs (Err r) (Ok e) f g h k = absurd (refuses_not_passes cs r h.0 k.0)
decided_both cs (Err r) (Err q) f g h k = g h.1 k.1

-- what the first of two lists of checks refuses, both do
pub refuses_front : (cs ds : List Check) (r : Refusal) → Refuses cs r → Refuses (cs ++ ds) r
refuses_front [] ds r h = absurd h
refuses_front (c ∷ cs) ds r h = ⊎_elim inl (λ w. inr (w.0, refuses_front cs ds r w.1)) h

-- what the second list refuses, where the first passes
pub refuses_rest : (cs ds : List Check) (r : Refusal) → Passes cs → Refuses ds r → Refuses (cs ++ ds) r
refuses_rest [] ds r p h = h
refuses_rest (c ∷ cs) ds r p h = inr (p.0, refuses_rest cs ds r p.1 h)

-- both lists pass
pub passes_both : (cs ds : List Check) → Passes cs → Passes ds → Passes (cs ++ ds)
passes_both [] ds p q = q
passes_both (c ∷ cs) ds p q = (p.0, passes_both cs ds p.1 q)

-- what two lists pass, the first and the second do
pub passes_front : (cs ds : List Check) → Passes (cs ++ ds) → Passes cs
passes_front [] ds p = tt
passes_front (c ∷ cs) ds p = (p.0, passes_front cs ds p.1)

pub passes_rest : (cs ds : List Check) → Passes (cs ++ ds) → Passes ds
passes_rest [] ds p = p
passes_rest (c ∷ cs) ds p = passes_rest cs ds p.1

-- a last check that always holds refuses nothing
pub last_holds : (cs : List Check) (c : Check) (r : Refusal) → (Passes cs → c.asks) → Refuses (cs ++ (c ∷ [])) r → Refuses cs r
last_holds [] c r f h = ⊎_elim (λ w. w.0 (f tt)) (λ w. w.1) h
last_holds (d ∷ ds) c r f h = ⊎_elim inl (λ w. inr (w.0, last_holds ds c r (λ p. f (w.0, p)) w.1)) h

-- a call's answer, after checks that hold
pub decided_rest : {A : Type 0} (cs ds : List Check) (a : Result A Refusal) (X : A → Type 0) (Y : Type 0) → Passes cs → Decided ds a X Y → Decided (cs ++ ds)
    a X Y
decided_rest cs ds (Ok c) X Y p h = (passes_both cs ds p h.0, h.1)
decided_rest cs ds (Err r) X Y p h = (refuses_rest cs ds r p h.0, h.1)

-- a call's answer without a check that is known to hold
pub decided_known : {A X : Type 0} (g : ℕ) (ds : List Check) (a : Result A Refusal) (Z : A → Type 0) (Y : Type 0)
    → X → Decided (record { asks = X; gives = g } ∷ ds) a Z Y → Decided ds a Z Y
decided_known g ds (Ok c) Z Y x h = (h.0.1, h.1)
decided_known g ds (Err r) Z Y x h = (⊎_elim (λ w. absurd (w.0 x)) (λ w. w.1) h.0, h.1)

-- a call's answer by a check in other words, with another result
pub decided_other : {A X X' : Type 0} (g : ℕ) (a : Result A Refusal) (Z Z' : A → Type 0) (Y : Type 0)
    → (X → X') → (X' → X) → ((c : A) → Z c → Z' c) → Decided (record { asks = X; gives = g } ∷ []) a Z Y → Decided (record { asks = X'; gives = g } ∷ [])
    a Z' Y
decided_other g (Ok c) Z Z' Y f b z h = ((f h.0.0, tt), z c h.1)
decided_other g (Err r) Z Z' Y f b z h = (⊎_elim (λ w. inl (λ x. w.0 (b x), w.1)) (λ w. absurd w.1) h.0, h.1)
