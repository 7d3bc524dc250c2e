-- The rewriting call hands a compensation over exactly where some joinable one gives the query's answers on every document; the one handed over does, and is
-- contained in every other that does. Assumes nothing.
use Rattle.tables.proofs.Kit.{ℕ, ◌≡◌, refl, ◌↔◌, arith, Result, Ok, Err, Option, Some, None}
use Rattle.tables.specs.{Pattern.shape_of, Refusal.Passes, declared.Pattern.Pattern, declared.Refusal.Refusal}
use Rattle.tables.proofs.Refusals.{refuses_not_passes}
use Rattle.containment.specs.Mapping.{Contained}
use Rattle.joining.proofs.Started.{join_answers}
use Rattle.rewriting.specs.Rewriting.{Serves, rewriting_checks, Rewrites}
use Rattle.rewriting.proofs.Rewritten.{rewriting_exact, candidate_narrowest}
use Rattle.promises.specs.Gives.{Gives}

-- a compensation is handed over
abbrev pub Handed : Result (Option Pattern) Refusal → Type 0
Handed r = (E : Pattern) × (r ≡ Ok (Some E))

-- an answer that is another case
not_handed : {E : Pattern} {X : Type 0} → ◌≡◌ {A = Result (Option Pattern) Refusal} (Ok None) (Ok (Some E)) → X
not_handed e = let z : ◌≡◌ {A = ℕ} 0 1 = cc in absurd (omega arith)

-- where the checks pass, one is exactly where some joinable one serves
pub handed_exactly : (Q U : Pattern) (r : Result (Option Pattern) Refusal) → Rewrites Q U r → Passes (rewriting_checks Q U)
    → Handed r ↔ ((E : Pattern) × Serves Q U E)
handed_exactly Q U (Ok (Some p)) h c = (λ e. (p, h.1.1), λ w. (p, refl))
handed_exactly Q U (Ok None) h c = (
  λ e. not_handed e.1,
  λ w. let k = (rewriting_exact Q U c.0 c.1.0 c.1.1.0.0 c.1.1.0.1).0 w in absurd (h.1 k.0 k.1 k.2),
)
handed_exactly Q U (Err r) h c = absurd (refuses_not_passes (rewriting_checks Q U) r h.0 c)

-- the one handed over serves
pub handed_serves : (Q U E : Pattern) → Rewrites Q U (Ok (Some E)) → Serves Q U E
handed_serves Q U E h = h.1.1

-- a compensation serves exactly where it gives the query's answers: the join has those of the compensation started at the view's
pub serves_gives : (Q U E : Pattern) → Serves Q U E ↔ Gives Q U E
serves_gives Q U E = (
  λ s. record {
    joinable = s.joinable;
    answers = λ d v i. let j = join_answers U E s.joinable d i in (λ a. s.equal.to d v i (j.1 a), λ a. j.0 (s.equal.back d v i a));
  },
  λ g. let j = join_answers U E g.joinable in record {
    joinable = g.joinable;
    equal = record { to = λ d v i a. (g.answers d v i).0 ((j d i).0 a); back = λ d v i a. (j d i).1 ((g.answers d v i).1 a) };
  },
)

-- where the checks pass, a compensation is handed over exactly when some joinable one gives the query's answers on every document
pub handed_exactly_when : (Q U : Pattern) (r : Result (Option Pattern) Refusal) → Rewrites Q U r → Passes (rewriting_checks Q U)
    → Handed r ↔ ((E : Pattern) × Gives Q U E)
handed_exactly_when Q U r h c =
    let k = handed_exactly Q U r h c in
    (λ e. let w = k.0 e in (w.0, (serves_gives Q U w.0).0 w.1), λ w. k.1 (w.0, (serves_gives Q U w.0).1 w.1))

-- and the one handed over does: it can be joined, and started at the view's answers it has the query's on every document
pub handed_gives : (Q U E : Pattern) → Rewrites Q U (Ok (Some E)) → Gives Q U E
handed_gives Q U E h = (serves_gives Q U E).0 (handed_serves Q U E h)

-- and is contained in every compensation that serves
pub handed_narrowest : (Q U E C : Pattern) → Rewrites Q U (Ok (Some C)) → Serves Q U E → Contained (shape_of C) (shape_of E)
handed_narrowest Q U E C h s = candidate_narrowest Q U E h.0.0 h.0.1.0 s C h.1.0
