-- A call answers or refuses, never both, and refuses by one number. Assumes nothing.
use Rattle.tables.proofs.Kit.{◌≡◌, refl, sym, ap, ◌∙◌, inl, ⊎_elim, List, [], ◌∷◌, get_or, Result, Ok, Err, Option, Some, None}
use Rattle.tables.specs.{Refusal.{number, Check, Passes, Refuses, Decided}, declared.Refusal.Refusal}
use Rattle.tables.specs.declared.Refusal.TheVariants.{Version, Length, BadPattern, BadDocument, Room, Start, OtherLabel, TooLarge, NoLabel}

-- the refusals in the order of their numbers
by_number : List Refusal
by_number = Version ∷ Version ∷ Length ∷ BadPattern ∷ BadDocument ∷ Room ∷ Start ∷ OtherLabel ∷ TooLarge ∷ NoLabel ∷ []

named : (r : Refusal) → get_or by_number (number r) Version ≡ r
unfolding by_number
named Version = refl
named Length = refl
named BadPattern = refl
named BadDocument = refl
named Room = refl
named Start = refl
named OtherLabel = refl
named TooLarge = refl
named NoLabel = refl

-- two refusals of one number are one
pub number_unique : (r q : Refusal) → number r ≡ number q → r ≡ q
number_unique r q e = sym (named r) ∙ ap (λ n. get_or by_number n Version) e ∙ named q

-- a call that refuses does not answer
pub refuses_not_passes : (cs : List Check) (r : Refusal) → Refuses cs r → Passes cs → ⊥
refuses_not_passes [] r h p = h
refuses_not_passes (c ∷ cs) r h p = ⊎_elim (λ w. w.0 p.0) (λ w. refuses_not_passes cs r w.1 p.1) h

-- no second refusal fits
pub refuses_unique : (cs : List Check) (r q : Refusal) → Refuses cs r → Refuses cs q → r ≡ q
refuses_unique [] r q h k = absurd h
refuses_unique (c ∷ cs) r q h k = ⊎_elim (λ w. ⊎_elim (λ x. number_unique r q (w.1 ∙ sym x.1)) (λ x. absurd (w.0 x.0)) k)
    (λ w. ⊎_elim (λ x. absurd (x.0 w.0)) (λ x. refuses_unique cs r q w.1 x.1) k)
    h

-- a call with one check refuses where that does not hold
pub refused : {X : Type 0} (r : Refusal) → (X → ⊥) → Refuses (record { asks = X; gives = number r } ∷ []) r × Unit {0}
refused r h = (inl (h, refl), tt)

-- no second answer fits, where no second value does
pub decided_unique : {A : Type 0} (cs : List Check) (a b : Result A Refusal) (X : A → Type 0) (Y : Type 0) (X' : A → Type 0) (Y' : Type 0)
    → ((c e : A) → X c → X' e → c ≡ e) → Decided cs a X Y → Decided cs b X' Y' → a ≡ b
decided_unique cs (Ok c) (Ok e) X Y X' Y' u h k = ap Ok (u c e h.1 k.1)
decided_unique cs (Ok c) (Err q) X Y X' Y' u h k = absurd (refuses_not_passes cs q k.0 h.0)
decided_unique cs (Err r) (Ok e) X Y X' Y' u h k = absurd (refuses_not_passes cs r h.0 k.0)
decided_unique cs (Err r) (Err q) X Y X' Y' u h k = ap Err (refuses_unique cs r q h.0 k.0)

-- what an answer refuses by, if it does
unfoldable pub verdict : {A : Type 0} → Result A Refusal → Option Refusal
verdict (Ok a) = None
verdict (Err q) = Some q

-- a result with f of what it hands over
unfoldable pub recast : {A B : Type 0} → (A → B) → Result A Refusal → Result B Refusal
recast f (Ok a) = Ok (f a)
recast f (Err q) = Err q

-- is decided by the same checks
pub decided_recast : {A B : Type 0} (f : A → B) (cs : List Check) (r : Result A Refusal) (X : A → Type 0) (X' : B → Type 0) (Y : Type 0)
    → ((a : A) → X a → X' (f a)) → Decided cs r X Y → Decided cs (recast f r) X' Y
unfolding recast
decided_recast f cs (Ok a) X X' Y u h = (h.0, u a h.1)
decided_recast f cs (Err q) X X' Y u h = h

-- so two results are one by what they hand over, where that is c for both
pub recast_unique : {A B C : Type 0} (f : A → C) (g : B → C) (c : C) (cs : List Check) (r : Result A Refusal) (s : Result B Refusal) (X : A → Type 0)
    (X' : B → Type 0) (Y Y' : Type 0)
    → ((a : A) → X a → f a ≡ c) → ((b : B) → X' b → g b ≡ c) → Decided cs r X Y → Decided cs s X' Y' → recast f r ≡ recast g s
recast_unique f g c cs r s X X' Y Y' u v h k =
    decided_unique cs (recast f r) (recast g s) (λ x. x ≡ c) Y (λ x. x ≡ c) Y' (λ x y d e. d ∙ sym e)
    (decided_recast f cs r X (λ x. x ≡ c) Y u h) (decided_recast g cs s X' (λ x. x ≡ c) Y' v k)

-- one verdict fits, whatever is handed over
pub verdict_unique : {A B : Type 0} (cs : List Check) (a : Result A Refusal) (b : Result B Refusal) (X : A → Type 0) (Y : Type 0) (X' : B → Type 0)
    (Y' : Type 0)
    → Decided cs a X Y → Decided cs b X' Y' → verdict a ≡ verdict b
unfolding verdict
verdict_unique cs (Ok c) (Ok e) X Y X' Y' h k = refl
verdict_unique cs (Ok c) (Err q) X Y X' Y' h k = absurd (refuses_not_passes cs q k.0 h.0)
verdict_unique cs (Err r) (Ok e) X Y X' Y' h k = absurd (refuses_not_passes cs r h.0 k.0)
verdict_unique cs (Err r) (Err q) X Y X' Y' h k = ap Some (refuses_unique cs r q h.0 k.0)
