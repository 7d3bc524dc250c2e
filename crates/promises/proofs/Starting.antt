-- A start node with another label than step 0 adds nothing: the started call answers as if such nodes were not in its start list. Assumes nothing.
use Rattle.tables.proofs.Kit.{ℕ, ◌+◌, ◌*◌, ◌<◌, ◌≡◌, refl, sym, subst, List, get_or, Ok}
use Rattle.tables.specs.{Document.{Document, node_count, nodes_of}, Pattern.{Shape, shape_of}, declared.Pattern.Pattern}
use Rattle.tables.proofs.Marks.{marks_to}
use Rattle.placing.specs.{Placement.{LabelFits, Reaches}, Answer.{In, Lists, StartList}}
use Rattle.placing.proofs.Listing.{lists_iff}
use Rattle.answers.specs.{Working.{FitsAt, PlacedAt}, Answers.{Found, FindsStarted}}

-- what is found depends on the pattern's placements alone
pub found_alike : {A B : Shape} {d : Document} {First Other : ℕ → Type 0} → A.output ≡ B.output → ((i s : ℕ) → FitsAt A d i s → FitsAt B d i s)
    → ((i s : ℕ) → FitsAt B d i s → FitsAt A d i s) → ((s i : ℕ) → Reaches A (nodes_of d) First s i → Reaches B (nodes_of d) Other s i)
    → ((s i : ℕ) → Reaches B (nodes_of d) Other s i → Reaches A (nodes_of d) First s i) → A.tree.size ≡ B.tree.size
    → (list₀ work₀ : List ℕ) (c : ℕ) (list work : List ℕ) → Found A d First list₀ work₀ c list work → Found B d Other list₀ work₀ c list work
found_alike {A} {B} {d} {First} {Other} o f g to back n list₀ work₀ c list work h = record {
  answers = h.answers;
  lists = lists_iff h.lists (λ i. (
    λ r. subst (λ s. Reaches B (nodes_of d) Other s i) o (to A.output i r),
    λ r. back A.output i (subst (λ s. Reaches B (nodes_of d) Other s i) (sym o) r),
  ));
  count = h.count;
  written = h.written;
  working = record {
    same_length = h.working.same_length;
    fits = λ i l. marks_to (get_or work (2 * i) 0) (FitsAt A d i) (FitsAt B d i) (f i) (g i) (h.working.fits i l);
    placed = λ i l. marks_to (get_or work (2 * i + 1) 0) (PlacedAt A d First i) (PlacedAt B d Other i)
        (λ s w. (subst (λ (k : ℕ). s < k) n w.0, to s i w.1)) (λ s w. (subst (λ (k : ℕ). s < k) (sym n) w.0, back s i w.1))
        (h.working.placed i l);
    rest = h.working.rest;
  };
}

-- where the started call has counted, it has the same count and leaves the same lists if it is started at those of the nodes that have step 0's label
pub other_label : (E : Pattern) (d : Document) (xs ys : List ℕ) → Lists (λ i. In xs i × LabelFits ((shape_of E).label 0) ((nodes_of d).label i)) ys
    → (list₀ work₀ : List ℕ) (c : ℕ) (list work : List ℕ)
    → FindsStarted E d xs list₀ work₀ (Ok c) list work → FindsStarted E d ys list₀ work₀ (Ok c) list work
other_label E d xs ys l list₀ work₀ c list work h =
    let starts : StartList d ys = record {
      ascending = l.ascending;
      nodes = λ k lt. let w = (l.sound (get_or ys k 0) (record { place = k; early = lt; is = refl })).0 in
          subst (λ (x : ℕ). x < node_count d) w.is (h.0.1.1.0.1.nodes w.place w.early);
    } in (
      (h.0.0, (h.0.1.0, ((h.0.1.1.0.0, starts), h.0.1.1.1))),
      found_alike {First = In xs} {Other = In ys} refl (λ i s w. w) (λ i s w. w) (λ s i r. record {
        by = r.by;
        sends = r.sends;
        first = l.complete (r.by 0) (r.first, (r.sends.takes 0 h.0.0.some).fits);
        at = r.at;
      })
          (λ s i r. record { by = r.by; sends = r.sends; first = (l.sound (r.by 0) r.first).0; at = r.at }) refl list₀ work₀ c list work h.1,
    )
