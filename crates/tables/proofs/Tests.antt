-- Tests that tell: a Boolean that is true exactly where a statement holds. Assumes nothing.
use Rattle.tables.proofs.Kit.{ℕ, zero, suc, ◌<◌, ◌≡◌, refl, sym, ap₂, subst, ◌⊎◌, inl, inr, ⊎_elim, ◌↔◌}
use Rattle.tables.proofs.Kit.{Bool, true, false, not, ◌&&◌, ◌||◌, List, [], ◌∷◌, arith, T, ltb, eqb, ltb→lt, lt→ltb, eqb→eq, eqb_refl}
use Rattle.tables.proofs.Choice.{below_or_at}

pub record Tells (b : Bool) (X : Type 0) : Type 0 where
  pub says : T b → X
  pub test : X → T b

pub tells_self : {b : Bool} → Tells b (T b)
tells_self = record { says = λ t. t; test = λ t. t }

pub tells_lt : (m n : ℕ) → Tells (ltb m n) (m < n)
tells_lt m n = record { says = ltb→lt m n; test = lt→ltb m n }

pub tells_eq : (m n : ℕ) → Tells (eqb m n) (m ≡ n)
tells_eq m n = record { says = eqb→eq m n; test = λ e. subst (λ (k : ℕ). T (eqb m k)) e (eqb_refl m) }

pub tells_and : {a b : Bool} {X Y : Type 0} → Tells a X → Tells b Y → Tells (a && b) (X × Y)
tells_and {a = true} f g = record { says = λ t. (f.says tt, g.says t); test = λ p. g.test p.1 }
tells_and {a = false} f g = record { says = λ t. absurd t; test = λ p. f.test p.0 }

pub tells_or : {a b : Bool} {X Y : Type 0} → Tells a X → Tells b Y → Tells (a || b) (X ⊎ Y)
tells_or {a = true} f g = record { says = λ t. inl (f.says tt); test = λ p. tt }
tells_or {a = false} f g = record { says = λ t. inr (g.says t); test = λ p. ⊎_elim (λ x. absurd (f.test x)) (λ y. g.test y) p }

-- a implies b
abbrev pub imp : Bool → Bool → Bool
imp true b = b
imp false b = true

pub tells_imp : {a b : Bool} {X Y : Type 0} → Tells a X → Tells b Y → Tells (imp a b) (X → Y)
tells_imp {a = true} f g = record { says = λ t x. g.says t; test = λ h. g.test (h (f.says tt)) }
tells_imp {a = false} f g = record { says = λ t x. absurd (f.test x); test = λ h. tt }

pub tells_iff : {b : Bool} {X Y : Type 0} → Tells b X → X ↔ Y → Tells b Y
tells_iff f e = record { says = λ t. e.0 (f.says t); test = λ y. f.test (e.1 y) }

-- every number below n, some number below n
unfoldable pub every : ℕ → (ℕ → Bool) → Bool
every zero p = true
every (suc n) p = p n && every n p

unfoldable pub some : ℕ → (ℕ → Bool) → Bool
some zero p = false
some (suc n) p = p n || some n p

pub tells_every : {p : ℕ → Bool} {P : ℕ → Type 0} → ((u : ℕ) → Tells (p u) (P u)) → (n : ℕ) → Tells (every n p) ((u : ℕ) → u < n → P u)
unfolding every
tells_every h zero = record { says = λ t u l. absurd (omega arith); test = λ f. tt }
tells_every {p} {P} h (suc n) = tells_iff (tells_and (h n) (tells_every h n))
    (λ q u l. below_or_at l (q.1 u) (λ e. subst P (sym e) q.0), λ f. (f n (omega arith), λ u l. f u (omega arith)))

pub tells_some : {p : ℕ → Bool} {P : ℕ → Type 0} → ((u : ℕ) → Tells (p u) (P u)) → (n : ℕ) → Tells (some n p) ((u : ℕ) × (u < n) × P u)
unfolding some
tells_some h zero = record { says = λ t. absurd t; test = λ q. absurd (omega (arith, q.1)) }
tells_some {p} {P} h (suc n) = tells_iff (tells_or (h n) (tells_some h n)) (
  λ q. ⊎_elim (λ x. (n, omega arith, x)) (λ r. (r.0, omega (arith, r.1), r.2)) q,
  λ q. below_or_at q.1 (λ l. inr (q.0, l, q.2)) (λ e. inl (subst P e q.2)),
)

pub tells_not : {b : Bool} {X : Type 0} → Tells b X → Tells (not b) (X → ⊥)
tells_not {b = true} h = record { says = λ t. absurd t; test = λ f. f (h.says tt) }
tells_not {b = false} h = record { says = λ t x. h.test x; test = λ f. tt }

-- both parts of a test that passes
pub and_both : (a b : Bool) → T (a && b) → T a × T b
and_both true b t = (tt, t)
and_both false b t = absurd t

-- do two lists have the same entries?
unfoldable pub same_list : List ℕ → List ℕ → Bool
same_list [] [] = true
same_list [] (y ∷ ys) = false
same_list (x ∷ xs) [] = false
same_list (x ∷ xs) (y ∷ ys) = eqb x y && same_list xs ys

pub same_list_lem : (xs ys : List ℕ) → T (same_list xs ys) → xs ≡ ys
unfolding same_list
same_list_lem [] [] t = refl
same_list_lem [] (y ∷ ys) t = absurd t
same_list_lem (x ∷ xs) [] t = absurd t
same_list_lem (x ∷ xs) (y ∷ ys) t = let p = and_both (eqb x y) (same_list xs ys) t in ap₂ (λ a l. a ∷ l) (eqb→eq x y p.0) (same_list_lem xs ys p.1)

-- a test whose negation is false passes, and one whose negation is true does not
pub passed : (b : Bool) → not b ≡ false → T b
passed true e = tt
passed false e = let z : true ≡ false = e in let w : ◌≡◌ {A = ℕ} 0 1 = cc in absurd (omega arith)

pub failed : (b : Bool) → not b ≡ true → T b → ⊥
failed true e t = let z : false ≡ true = e in let w : ◌≡◌ {A = ℕ} 0 1 = cc in omega arith
failed false e t = t
