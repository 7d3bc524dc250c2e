-- A call's answer from that of its last step, which checks the room and puts a text there; and that no second answer and no second room fit. Assumes nothing.
use Rattle.tables.proofs.Kit.{ℕ, ◌≡◌, sym, ◌∙◌, subst, List, ◌++◌, length, drop, Result, Ok, Err}
use Rattle.tables.specs.{Checks.room_for, Refusal.{Check, Passes, Decided}, declared.Refusal.Refusal}
use Rattle.tables.proofs.{Outcomes.{refuses_rest, passes_both, decided_both}, Refusals.decided_unique}
use Rattle.packets.specs.inner.Putting.{Puts}

-- the checks before the room hold, and the text is what the entry says
pub puts_rest : {least : ℕ} {text : List ℕ} {m k : ℕ} {room₀ room : List ℕ} (front : List Check) (a : Result ℕ Refusal) (X : ℕ → Type 0) → Passes front
    → (room ≡ text ++ drop m room₀ → X k) → Puts least text m k room₀ a room → Decided (front ++ room_for least (length room₀)) a X (room ≡ room₀)
puts_rest {least = l} {room₀ = room₀} front (Ok c) X p f h =
    (passes_both front (room_for l (length room₀)) p h.says.0, subst X (sym h.says.1.0) (f h.says.1.1))
puts_rest {least = l} {room₀ = room₀} front (Err r) X p f h = (refuses_rest front (room_for l (length room₀)) r p h.says.0, h.says.1)

-- what a call leaves in the room by a count, and in no second way
abbrev pub One : (List ℕ → ℕ → List ℕ → Type 0) → Type 0
One X = (room₀ room room' : List ℕ) (c e : ℕ) → X room₀ c room → X room₀ e room' → (c ≡ e) × (room ≡ room')

-- whatever is checked first, one answer and one room fit
pub one_room : (cs : List Check) (X : List ℕ → ℕ → List ℕ → Type 0) → One X → (room₀ : List ℕ) (r q : Result ℕ Refusal) (room room' : List ℕ)
    → Decided cs r (λ c. X room₀ c room) (room ≡ room₀) → Decided cs q (λ c. X room₀ c room') (room' ≡ room₀) → (r ≡ q) × (room ≡ room')
one_room cs X u room₀ r q room room' h k = (
  decided_unique cs r q (λ c. X room₀ c room) _ (λ c. X room₀ c room') _ (λ c e x y. (u room₀ room room' c e x y).0) h k,
  decided_both cs r q (λ c e x y. (u room₀ room room' c e x y).1) (λ x y. x ∙ sym y) h k,
)
