-- Mappings have an identity and compose, and a mapping of B into A shows that A is contained in B. Assumes nothing.
use Rattle.tables.proofs.Kit.{ℕ, refl, ap, ◌∙◌}
use Rattle.tables.specs.Pattern.{Shape}
use Rattle.placing.proofs.Compose.{compose, identity}
use Rattle.containment.specs.Mapping.{Maps, Contained, Equal}

pub maps_identity : (A : Shape) → Maps A A (λ t. t)
maps_identity A = record { sends = identity A; first = λ e. (refl, e); output = refl }

pub maps_compose : {C B A : Shape} {n m : ℕ → ℕ} → Maps C B n → Maps B A m → Maps C A (λ t. m (n t))
maps_compose {C} {B} {A} {n} {m} p q = record {
  sends = compose p.sends q.sends;
  first = λ e. (ap m (p.first e).0 ∙ (q.first (p.first e).1).0, (q.first (p.first e).1).1);
  output = ap m p.output ∙ q.output;
}

-- where B maps into A, A is contained in B
pub maps_sound : {A B : Shape} {m : ℕ → ℕ} → Maps B A m → Contained A B
maps_sound {A} {B} {m} h d v i a = record {
  by = λ t. a.by (m t);
  sends = compose h.sends a.sends;
  first = λ e. ap a.by (h.first e).0 ∙ a.first (h.first e).1;
  at = ap a.by h.output ∙ a.at;
}

pub contained_refl : (A : Shape) → Contained A A
contained_refl A d v i a = a

pub contained_trans : {A B C : Shape} → Contained A B → Contained B C → Contained A C
contained_trans h k d v i a = k d v i (h d v i a)

pub equal_sym : {A B : Shape} → Equal A B → Equal B A
equal_sym e = record { to = e.back; back = e.to }
