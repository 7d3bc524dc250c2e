-- What the table of fits, the smallest mapping and the checks say of containment. Assumes nothing.
use Rattle.tables.proofs.Kit.{ℕ, ◌<◌, ◌≡◌, refl, sym, subst, inl, ◌↔◌, T, List, arith, get_or}
use Rattle.std.proofs.Common.{Option, Some, None, is_some}
use Rattle.tables.specs.{Bits.bit, Pattern.{Shape, shape_of, ValidShape, ValidPattern}}
use Rattle.tables.specs.{declared.Pattern.Pattern, declared.StepNo.StepNo}
use Rattle.tables.proofs.{Rules.shape_ordered, Trees.{from_here, from_root, parent_lt}}
use Rattle.containment.specs.{Mapping.{BeginsIn, Maps, Contained}, Containment.Within, inner.Results.Chosen}
use Rattle.mappings.specs.Fits.{FitsIn, FitTable, Picks, picked, nothing}
use Rattle.containment.proofs.Contained.{contained_iff}
use Rattle.mappings.proofs.Images.{pick_to, pick_none, pick_found}

module _ (A B : Shape) (va : ValidShape A) (vb : ValidShape B) where
  -- a step of A at which a step of B fits
  fits_here : (j t : ℕ) → FitsIn B A j t → j < A.tree.size
  fits_here j t h = subst (λ (x : ℕ). x < A.tree.size) h.sends.at (h.sends.takes t (inl refl)).here

  -- the step picked by the table is the smallest that may take step 0
  pub first_picked : (fit : List ℕ) {r : Option StepNo} → FitTable B A fit
      → Picks (λ j. ((j < A.tree.size) × (B.axis 0 ≡ 0 → (j ≡ 0) × (A.axis 0 ≡ 0))) × (bit (get_or fit j 0) 0 ≡ 1)) r
      → Picks (λ j. BeginsIn B A j × FitsIn B A j 0) r
  first_picked fit table p = pick_to (λ j w. (w.0.1, (table j w.0.0).only 0 w.1))
      (λ j w. ((fits_here j 0 w.1, w.0), (table j (fits_here j 0 w.1)).put 0 w.1))
      p

  -- where B maps into A, step 0 fits
  maps_fits : (m : ℕ → ℕ) → Maps B A m → FitsIn B A (m 0) 0
  maps_fits m h = record {
    here = vb.some;
    by = m;
    sends = record { at = refl; takes = λ t w. h.sends.takes t (from_here vb.some w); edge = λ t q c w. h.sends.edge t q c };
    output = λ w. h.output;
  }

  -- where no step may take step 0, A is not contained in B
  pub not_contained : Picks (λ j. BeginsIn B A j × FitsIn B A j 0) None → Contained A B → ⊥
  not_contained p h = let w = (contained_iff A B va vb).0 h in pick_none p (w.0 0) (w.1.first, maps_fits w.0 w.1)

  -- a step of B that fits with step 0 is sent with all the others
  fits_maps : (j : ℕ) → BeginsIn B A j → FitsIn B A j 0 → (m : ℕ → ℕ) × Maps B A m
  fits_maps j b f =
      let o = shape_ordered vb in (
        f.by,
        record {
          sends = record {
            takes = λ t h. f.sends.takes t (from_root o t h);
            edge = λ t q c. f.sends.edge t q c (from_root o q (omega (arith, parent_lt o t c.late c.here, c.up, c.here)));
          };
          first = subst (BeginsIn B A) (sym f.sends.at) b;
          output = f.output (from_root o B.output vb.output);
        },
      )

  -- where a step may, it is
  pub picked_contained : (r : StepNo) → Picks (λ j. BeginsIn B A j × FitsIn B A j 0) (Some r) → Contained A B
  picked_contained r p = let w = (pick_found p).0 in (contained_iff A B va vb).1 (fits_maps r.0 w.0 w.1)

  -- so this tells
  pub picked_tells : {r : Option StepNo} → Picks (λ j. BeginsIn B A j × FitsIn B A j 0) r → T (is_some r) ↔ Contained A B
  picked_tells (picked s x h) = (λ t. picked_contained s (picked s x h), λ c. tt)
  picked_tells (nothing h) = (λ t. absurd t, λ c. not_contained (nothing h) c)

  -- and the smallest mapping shows it
  pub chosen_contained : (m : List StepNo) → Chosen B A m → Contained A B
  chosen_contained m h = (contained_iff A B va vb).1 (h.by, h.least.maps)

module _ (A B : Pattern) where
  pub within_chosen : ValidPattern A → ValidPattern B → (m : List StepNo) → Chosen (shape_of B) (shape_of A) m → Within A B m
  within_chosen va vb m h = record { contained = chosen_contained (shape_of A) (shape_of B) va vb m h; by = h.by; least = h.least; array = h.array }
