-- Mappings as a task: a test that runs tells whether B maps into A, and so whether A is contained in B; the smallest mapping runs, and is the only one.
-- Assumes nothing.
use Rattle.tables.proofs.Kit.{ℕ, ◌<◌, ◌≡◌, refl, ap, ◌∙◌, Bool, ◌&&◌, eqb}
use Rattle.tables.specs.Pattern.{Shape, rows_of, ValidShape}
use Rattle.tables.proofs.{Rules.shape_ordered, Tests.{Tells, tells_eq, tells_and, tells_imp, tells_iff, imp, some, tells_some}}
use Rattle.placing.proofs.{Fit.{Fit, Able, Whole, whole_able}, Probe.{Probe, Probes, can_whole, tells_whole}}
use Rattle.placing.proofs.{Least.{greedy_least, best, best_greedy, best_fit, best_first, no_later_unique}, Sending.{takes, tells_takes, goes, tells_goes}}
use Rattle.mappings.proofs.StepFits.{map_task}
use Rattle.containment.specs.Mapping.{BeginsIn, Maps, LeastMap, Contained}
use Rattle.containment.proofs.Contained.{contained_iff}

-- the tests of mapping B into A
abbrev pub map_probe : Shape → Shape → Probe
map_probe B A = record {
  ok = λ t s. takes (rows_of A) (B.label t) s && imp (eqb t B.output) (eqb s A.output);
  edge = λ t q s. goes (rows_of A) (B.axis t) q s;
  first = λ s. imp (eqb (B.axis 0) 0) (eqb s 0 && eqb (A.axis 0) 0);
  bound = A.tree.size;
}

-- does B map into A?
unfoldable pub maps_into : Shape → Shape → Bool
maps_into B A = some A.tree.size (λ s. can_whole B.tree (map_probe B A) 0 s)

-- the smallest mapping of B into A, where there is one
unfoldable pub least_mapping : Shape → Shape → ℕ → ℕ
least_mapping B A = best B.tree (map_probe B A)

module _ (B A : Shape) (vb : ValidShape B) (va : ValidShape A) where
  pub maps_fit : (m : ℕ → ℕ) → Maps B A m → Fit (map_task B A) m
  maps_fit m h = record { ok = λ t l. (h.sends.takes t l, λ e. ap m e ∙ h.output); edge = h.sends.edge }

  pub fit_maps : (m : ℕ → ℕ) → Fit (map_task B A) m → BeginsIn B A (m 0) → Maps B A m
  fit_maps m f s = record { sends = record { takes = λ t l. (f.ok t l).0; edge = f.edge }; first = s; output = (f.ok B.output vb.output).1 refl }

  probes : Probes (map_probe B A) (map_task B A) (BeginsIn B A)
  probes = record {
    ordered = shape_ordered vb;
    ok = λ t s. tells_and (tells_takes (rows_of A) (B.label t) s) (tells_imp (tells_eq t B.output) (tells_eq s A.output));
    edge = λ t q s. tells_goes (rows_of A) (shape_ordered va) (B.axis t) q s;
    first = λ s. tells_imp (tells_eq (B.axis 0) 0) (tells_and (tells_eq s 0) (tells_eq (A.axis 0) 0));
    within = λ t s h. h.0.here;
  }

  maps_whole : (m : ℕ → ℕ) → Maps B A m → Whole (map_task B A) (BeginsIn B A) 0 (m 0)
  maps_whole m h = record { by = m; fit = maps_fit m h; start = h.first; at = refl }

  maps_able : (m : ℕ → ℕ) → Maps B A m → Able (map_task B A) 0 (m 0)
  maps_able m h = whole_able (map_task B A) (BeginsIn B A) (shape_ordered vb) 0 (m 0) vb.some (maps_whole m h)

  -- the test tells whether there is a mapping
  pub tells_maps : Tells (maps_into B A) ((m : ℕ → ℕ) × Maps B A m)
  unfolding maps_into
  tells_maps = tells_iff (tells_some (λ s. tells_whole (map_probe B A) (map_task B A) (BeginsIn B A) probes 0 s vb.some) A.tree.size) (
    λ w. (w.2.by, fit_maps w.2.by w.2.fit w.2.start),
    λ w. (w.0 0, (w.1.sends.takes 0 vb.some).here, maps_whole w.0 w.1),
  )

  -- and so whether A is contained in B
  pub tells_contained : Tells (maps_into B A) (Contained A B)
  tells_contained = tells_iff tells_maps ((contained_iff A B va vb).1, (contained_iff A B va vb).0)

  -- where there is a mapping, the smallest is found
  pub least_mapping_lem : (m : ℕ → ℕ) → Maps B A m → LeastMap B A (least_mapping B A)
  unfolding least_mapping
  least_mapping_lem m h =
      let R : Probe = map_probe B A in let a : Able (map_task B A) 0 (m 0) = maps_able m h in
      record {
        maps = fit_maps (best B.tree R) (best_fit R (map_task B A) (BeginsIn B A) probes (m 0) h.first a)
            (best_first R (map_task B A) (BeginsIn B A) probes (m 0) h.first a);
        least = λ n k. greedy_least (map_task B A) (BeginsIn B A) (shape_ordered vb) (best B.tree R) n (best_greedy R (map_task B A) (BeginsIn B A) probes)
            (maps_fit n k) k.first;
      }

-- no second smallest mapping fits
pub least_map_unique : (B A : Shape) (m n : ℕ → ℕ) → LeastMap B A m → LeastMap B A n → (t : ℕ) → t < B.tree.size → m t ≡ n t
least_map_unique B A m n h k t l = no_later_unique m n B.tree.size (h.least n k.maps) (k.least m h.maps) t l
