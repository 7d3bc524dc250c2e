-- Lists of the numbers of which a statement holds: only one fits, and a test over a range writes it. Assumes nothing.
use Rattle.tables.proofs.Kit.{ℕ, zero, suc, ◌≤◌, ◌<◌, ◌≡◌, refl, sym, ap, ◌∙◌, subst, ◌⊎◌, inl, inr, ⊎_elim, ◌↔◌, Bool, true, false, cond}
use Rattle.tables.proofs.Kit.{List, [], ◌∷◌, ◌++◌, arith, dec_lt, ℕ_discrete, length, get_or, length-append, get_or-append, get_or-append-add, ext_get_or}
use Rattle.tables.specs.{Document.{Document, node_count}, Pattern.Shape}
use Rattle.tables.proofs.{Choice.below_or_at, Tests.Tells}
use Rattle.placing.specs.Answer.{Started, In, Ascending, Lists}

-- in an ascending list a later entry is larger
pub ascending_lt : (xs : List ℕ) → Ascending xs → (j k : ℕ) → j < k → k < length xs → get_or xs j 0 < get_or xs k 0
ascending_lt xs a j zero h l = absurd (omega arith)
ascending_lt xs a j (suc k) h l = below_or_at h (λ g. let r : get_or xs j 0 < get_or xs k 0 = ascending_lt xs a j k g (omega arith) in omega (arith, a k l))
    (λ e. subst (λ (i : ℕ). get_or xs i 0 < get_or xs (suc k) 0) (sym e) (a k l))

module _ (P : ℕ → Type 0) where
  -- where the first k entries agree, entry k of the second list is there and is no larger
  follow : (xs ys : List ℕ) → Lists P xs → Lists P ys → (k : ℕ) → ((j : ℕ) → j < k → get_or xs j 0 ≡ get_or ys j 0) → k < length xs → (k < length ys) ×
      (get_or ys k 0 ≤ get_or xs k 0)
  follow xs ys a b k e l = go (b.complete (get_or xs k 0) (a.sound (get_or xs k 0) (record { place = k; early = l; is = refl })))
    where
      go : In ys (get_or xs k 0) → (k < length ys) × (get_or ys k 0 ≤ get_or xs k 0)
      go w = pick (dec_lt w.place k) (ℕ_discrete w.place k)
        where
          pick : Dec (w.place < k) → Dec (w.place ≡ k) → (k < length ys) × (get_or ys k 0 ≤ get_or xs k 0)
          pick (yes h) d = absurd (omega (arith, e w.place h, w.is, ascending_lt xs a.ascending w.place k h l))
          pick (no h) (yes d) = (omega (arith, w.early), omega (arith, w.is, ap (λ i. get_or ys i 0) d))
          pick (no h) (no d) = (omega (arith, w.early), omega (arith, w.is, ascending_lt ys b.ascending k w.place (omega arith) w.early))

  -- entries below k agree, as far as either list goes
  agree : (xs ys : List ℕ) → Lists P xs → Lists P ys → (k : ℕ) → k ≤ length xs → (k ≤ length ys) × ((j : ℕ) → j < k → get_or xs j 0 ≡ get_or ys j 0)
  agree xs ys a b zero l = (omega arith, λ j h. absurd (omega arith))
  agree xs ys a b (suc k) l =
      let r = agree xs ys a b k (omega arith) in let f = follow xs ys a b k r.1 l in
      let g = follow ys xs b a k (λ j h. sym (r.1 j h)) f.0 in
      (f.0, λ j h. below_or_at h (r.1 j) (λ e. subst (λ (i : ℕ). get_or xs i 0 ≡ get_or ys i 0) (sym e) (omega (arith, f.1, g.1))))

  -- no second list fits
  pub lists_unique : (xs ys : List ℕ) → Lists P xs → Lists P ys → xs ≡ ys
  lists_unique xs ys a b =
      let r = agree xs ys a b (length xs) (omega arith) in
      let q = agree ys xs b a (length ys) (omega arith) in
      ext_get_or 0 xs ys (omega (arith, r.0, q.0)) (λ j h. r.1 j h)

pub lists_iff : {P Q : ℕ → Type 0} {xs : List ℕ} → Lists P xs → ((i : ℕ) → P i ↔ Q i) → Lists Q xs
lists_iff a e = record { ascending = a.ascending; sound = λ i w. (e i).0 (a.sound i w); complete = λ i q. a.complete i ((e i).1 q) }

pub lists_none : (P : ℕ → Type 0) → ((i : ℕ) → P i → ⊥) → Lists P []
lists_none P h = record { ascending = λ k l. absurd (omega arith); sound = λ i w. absurd (omega (arith, w.early)); complete = λ i p. absurd (h i p) }

-- a number larger than all that are listed is added at the end
pub lists_more : (P : ℕ → Type 0) (xs : List ℕ) (n : ℕ) → Lists P xs → ((i : ℕ) → P i → i < n) → Lists (λ i. P i ⊎ (i ≡ n)) (xs ++ (n ∷ []))
lists_more P xs n a small = record {
  ascending = λ k l. go k l (ℕ_discrete (suc k) (length xs));
  sound = λ i w. sound i w (dec_lt w.place (length xs));
  complete = λ i p. ⊎_elim (λ q. old i (a.complete i q)) (λ e. record { place = length xs; early = omega (arith, long); is = last ∙ sym e }) p;
}
  where
    ys : List ℕ
    ys = xs ++ (n ∷ [])

    long : length ys ≡ suc (length xs)
    long = length-append xs (n ∷ []) ∙ omega arith

    front : (k : ℕ) → k < length xs → get_or ys k 0 ≡ get_or xs k 0
    front k l = get_or-append xs (n ∷ []) 0 k l

    last : get_or ys (length xs) 0 ≡ n
    last = ap (λ i. get_or (xs ++ (n ∷ [])) i 0) (omega arith) ∙ get_or-append-add xs (n ∷ []) 0 0

    go : (k : ℕ) → suc k < length ys → Dec (suc k ≡ length xs) → get_or ys k 0 < get_or ys (suc k) 0
    go k l (yes e) =
        let h : get_or xs k 0 < n = small (get_or xs k 0) (a.sound (get_or xs k 0) (record { place = k; early = omega arith; is = refl })) in
        omega (arith, front k (omega arith), last, ap (λ i. get_or ys i 0) e)
    go k l (no e) = omega (arith, front k (omega (arith, long)), front (suc k) (omega (arith, long)), a.ascending k (omega (arith, long)))

    sound : (i : ℕ) (w : In ys i) → Dec (w.place < length xs) → P i ⊎ (i ≡ n)
    sound i w (yes h) = inl (a.sound i (record { place = w.place; early = h; is = sym (front w.place h) ∙ w.is }))
    sound i w (no h) = inr (sym w.is ∙ ap (λ k. get_or ys k 0) (omega (arith, long, w.early)) ∙ last)

    old : (i : ℕ) → In xs i → In ys i
    old i w = record { place = w.place; early = omega (arith, w.early, long); is = front w.place w.early ∙ w.is }

-- the numbers below n that pass a test, ascending
unfoldable pub passing : ℕ → (ℕ → Bool) → List ℕ
passing zero p = []
passing (suc n) p = cond (p n) (passing n p ++ (n ∷ [])) (passing n p)

pub lists_passing : (n : ℕ) (p : ℕ → Bool) (P : ℕ → Type 0) → ((i : ℕ) → Tells (p i) (P i)) → Lists (λ i. (i < n) × P i) (passing n p)
unfolding passing
lists_passing zero p P h = lists_none (λ i. (i < 0) × P i) (λ i q. omega (arith, q.0))
lists_passing (suc n) p P h = go (p n) (h n) (lists_passing n p P h)
  where
    go : (b : Bool) → Tells b (P n) → Lists (λ i. (i < n) × P i) (passing n p) → Lists (λ i. (i < suc n) × P i) (cond b (passing n p ++ (n ∷ [])) (passing n p))
    go true t r = lists_iff (lists_more (λ i. (i < n) × P i) (passing n p) n r (λ i q. q.0)) (λ i. (
      λ q. ⊎_elim (λ x. (omega (arith, x.0), x.1)) (λ e. (omega arith, subst P (sym e) (t.says tt))) q,
      λ q. below_or_at q.0 (λ l. inl (l, q.1)) (λ e. inr e),
    ))
    go false t r = lists_iff r (λ i. (λ q. (omega (arith, q.0), q.1), λ q. below_or_at q.0 (λ l. (l, q.1)) (λ e. absurd (t.test (subst P e q.1)))))

-- an entry of a strictly ascending list is no smaller than its place
ascending_least : (xs : List ℕ) → Ascending xs → (k : ℕ) → k < length xs → k ≤ get_or xs k 0
ascending_least xs h zero l = omega arith
ascending_least xs h (suc k) l = omega (arith, ascending_least xs h k (omega arith), h k l)

-- a strictly ascending list of numbers below n has at most n of them
pub ascending_few : (xs : List ℕ) (n : ℕ) → Ascending xs → ((k : ℕ) → k < length xs → get_or xs k 0 < n) → length xs ≤ n
ascending_few xs n h b = go (length xs) refl
  where
    go : (m : ℕ) → length xs ≡ m → length xs ≤ n
    go zero e = omega (arith, e)
    go (suc m) e = omega (arith, e, ascending_least xs h m (omega (arith, e)), b m (omega (arith, e)))

-- there are at most as many answers as nodes
pub answers_few : (First : ℕ → Type 0) (A : Shape) (d : Document) (xs : List ℕ) → A.output < A.tree.size → Lists (Started First A d) xs → length xs ≤
    node_count d
answers_few First A d xs o l =
    ascending_few xs (node_count d) l.ascending
    (λ k h. let r = l.sound (get_or xs k 0) (record { place = k; early = h; is = refl }) in omega (arith, r.at, (r.sends.takes A.output o).here))
