-- Rewriting is complete: where any joinable compensation serves, the candidate exists, obeys the rules, can be joined and serves, and it is contained in every
-- compensation that serves. There is one candidate. Assumes nothing.
use Rattle.tables.proofs.Kit.{ℕ, ◌+◌, ◌-◌, ◌≤◌, ◌<◌, ◌≡◌, refl, sym, ap, ◌∙◌, subst, ◌↔◌, arith, length}
use Rattle.tables.specs.{Tree.From, Pattern.{Shape, shape_of, pattern_of, ValidPattern, ValidShape, Clean}, declared.Pattern.Pattern}
use Rattle.tables.proofs.{Depth.depth, Rules.{pattern_of_shape, pattern_of_agree, pattern_of_clean, agree_sym, shape_ordered}, Trees.from_le}
use Rattle.containment.specs.Mapping.{Maps, Contained}
use Rattle.containment.proofs.{Contained.contained_iff, Maps.maps_sound}
use Rattle.joining.specs.Join.{added, join_of, Joinable}
use Rattle.joining.proofs.{Joined.{Pair, pair_of, pair_joinable, pair_joined}, Order.pair_valid}
use Rattle.rewriting.specs.{Candidate.{main_path, cut_step, Cut, Candidate}, Rewriting.Serves}
use Rattle.rewriting.proofs.{Cuts.{cut_shape, cut_shape_lem, cut_valid, cut_unique, cut_agree, cut_some, cut_small}, MainPath.{cut_on_path, cut_step_is}}
use Rattle.rewriting.proofs.Serving.{EqualJoin, CutAt, reaches, same_label, join_to_query, query_to_join, narrowest}

module _ (Q U : Pattern) (vq : ValidPattern Q) (vu : ValidPattern U) where
  c : ℕ
  c = cut_step (shape_of Q) (shape_of U)

  on_path : {E : Pattern} → Candidate Q U E → From (shape_of Q).tree c (shape_of Q).output ×
      (depth (shape_of Q).tree c ≡ depth (shape_of U).tree (shape_of U).output)
  unfolding c
  on_path k = cut_on_path vq vu k.long

  -- the table of the candidate is a cut too
  own_cut : {E : Pattern} → Candidate Q U E → Cut (shape_of Q) c (shape_of E)
  unfolding c
  own_cut {E} k =
      subst (λ (p : Pattern). Cut (shape_of Q) (cut_step (shape_of Q) (shape_of U)) (shape_of p)) (sym k.table)
      (cut_agree (agree_sym (pattern_of_shape k.shape)) (cut_some (shape_ordered vq) k.cut) k.cut)

  here : {E : Pattern} → Candidate Q U E → c < (shape_of Q).tree.size
  here k = omega (arith, from_le (shape_ordered vq) c (shape_of Q).output (on_path k).0, vq.output)

  -- the candidate obeys the rules
  pub candidate_valid : {E : Pattern} → Candidate Q U E → ValidPattern E
  candidate_valid k = cut_valid vq (own_cut k) (here k) (on_path k).0

  -- and can be joined to the view, where query and view have at most 32 steps each
  pub candidate_joinable : {E : Pattern} → Candidate Q U E → Q.count ≤ 32 → U.count ≤ 32 → Joinable U E
  unfolding c
  candidate_joinable {E} k q u =
      let w : Cut (shape_of Q) c (shape_of E) = own_cut k in let v : ValidPattern E = candidate_valid k in
      let z : c ≡ c + 0 = omega arith in
      pair_joinable {U = U} {E = E} (record {
        view = vu;
        tail = v;
        start = w.first_axis;
        same = k.same ∙ ap (shape_of Q).label z ∙ w.label 0 v.some;
        few = omega (arith, cut_small (shape_ordered vq) w (E.count - 1) (omega (arith, v.some)) (here k));
      })

  -- where the query's main path is long enough and the labels agree, there is a candidate
  pub candidate_exists : length (main_path (shape_of U)) ≤ length (main_path (shape_of Q)) → (shape_of U).label (shape_of U).output ≡ (shape_of Q).label
      (cut_step (shape_of Q) (shape_of U))
      → Candidate Q U (pattern_of (cut_shape (shape_of Q) (cut_step (shape_of Q) (shape_of U))))
  candidate_exists l e =
      let m = cut_on_path vq vu l in
      record {
        long = l;
        same = e;
        shape = cut_shape (shape_of Q) (cut_step (shape_of Q) (shape_of U));
        cut = cut_shape_lem (shape_ordered vq) (cut_step (shape_of Q) (shape_of U))
            (omega (arith, from_le (shape_ordered vq) (cut_step (shape_of Q) (shape_of U)) (shape_of Q).output m.0, vq.output)) m.0;
        table = refl;
      }

-- there is one candidate, and it is a table as it is handed out
pub candidate_unique : {Q U E F : Pattern} → Candidate Q U E → Candidate Q U F → E ≡ F
candidate_unique k m = k.table ∙ pattern_of_agree (cut_unique k.cut m.cut) ∙ sym m.table

pub candidate_clean : {Q U E : Pattern} → Candidate Q U E → Clean E
candidate_clean k = subst Clean (sym k.table) (pattern_of_clean k.shape)

-- a compensation E that serves, with what is known of it
module _ (Q U E : Pattern) (vq : ValidPattern Q) (vu : ValidPattern U) (s : Serves Q U E) where
  pair : Pair U E
  pair = pair_of U E s.joinable

  J : Shape
  J = shape_of (join_of U E)

  to_join : (h : ℕ → ℕ) × Maps (shape_of Q) J h
  unfolding J
  to_join = (contained_iff J (shape_of Q) (pair_valid pair) vq).0 s.equal.to

  to_query : (g : ℕ → ℕ) × Maps J (shape_of Q) g
  unfolding J
  to_query = (contained_iff (shape_of Q) J vq (pair_valid pair)).0 s.equal.back

  equal_join : EqualJoin (shape_of Q) (shape_of U) (shape_of E) J (added (shape_of E)) to_join.0 to_query.0
  unfolding J
  equal_join = record {
    joined = pair_joined pair;
    query = shape_ordered vq;
    view = shape_ordered vu;
    tail = shape_ordered pair.tail;
    join = shape_ordered (pair_valid pair);
    query_output = vq.output;
    view_output = vu.output;
    tail_output = pair.tail.output;
    same = pair.same;
    to = to_join.1;
    back = to_query.1;
  }

  -- then the query's main path is long enough
  cut_there : (k : ℕ) × From (shape_of Q).tree k (shape_of Q).output × (depth (shape_of Q).tree k ≡ depth (shape_of U).tree (shape_of U).output)
  cut_there = reaches equal_join

  long_enough : length (main_path (shape_of U)) ≤ length (main_path (shape_of Q))
  long_enough = (cut_step_is vq vu cut_there.0 cut_there.1 cut_there.2).0

  cut : ℕ
  cut = cut_step (shape_of Q) (shape_of U)

  main : From (shape_of Q).tree cut (shape_of Q).output × (depth (shape_of Q).tree cut ≡ depth (shape_of U).tree (shape_of U).output)
  unfolding cut
  main = cut_on_path vq vu long_enough

  here_cut : cut < (shape_of Q).tree.size
  here_cut = omega (arith, from_le (shape_ordered vq) cut (shape_of Q).output main.0, vq.output)

  -- a cut there that obeys the rules
  cut_at : (C : Shape) → Cut (shape_of Q) cut C → ValidShape C → CutAt (shape_of Q) (shape_of U) cut C
  cut_at C k v = record { cut = k; main = main.0; deep = main.1; ordered = shape_ordered v; output = v.output }

  -- so there is a candidate
  pub candidate_there : Candidate Q U (pattern_of (cut_shape (shape_of Q) (cut_step (shape_of Q) (shape_of U))))
  unfolding cut
  candidate_there =
      let k : Cut (shape_of Q) cut (cut_shape (shape_of Q) cut) = cut_shape_lem (shape_ordered vq) cut here_cut main.0 in
      let v : ValidShape (cut_shape (shape_of Q) cut) = cut_valid vq k here_cut main.0 in
      let z : cut + 0 ≡ cut = omega arith in
      candidate_exists Q U vq vu long_enough (same_label equal_join (cut_at (cut_shape (shape_of Q) cut) k v) ∙ sym (k.label 0 v.some) ∙ ap
      (shape_of Q).label z)

  module _ (C : Pattern) (k : Candidate Q U C) where
    own : Cut (shape_of Q) cut (shape_of C)
    unfolding cut c
    own = own_cut Q U vq vu k

    valid : ValidPattern C
    valid = candidate_valid Q U vq vu k

    own_at : CutAt (shape_of Q) (shape_of U) cut (shape_of C)
    own_at = cut_at (shape_of C) own valid

    -- it is contained in E
    pub candidate_narrowest : Contained (shape_of C) (shape_of E)
    candidate_narrowest = maps_sound (narrowest equal_join own_at own.first_axis)

    -- and serves
    pub candidate_serves : Q.count ≤ 32 → U.count ≤ 32 → Serves Q U C
    candidate_serves q u =
        let w : Joinable U C = candidate_joinable Q U vq vu k q u in let p : Pair U C = pair_of U C w in
        record {
          joinable = w;
          equal = record {
            to = maps_sound (query_to_join equal_join own_at (pair_joined p));
            back = maps_sound (join_to_query equal_join own_at (pair_joined p));
          };
        }

-- a compensation is handed over exactly where some joinable one gives the query's answers on every document
pub rewriting_exact : (Q U : Pattern) → ValidPattern Q → ValidPattern U → Q.count ≤ 32 → U.count ≤ 32
    → ((E : Pattern) × Serves Q U E) ↔ ((C : Pattern) × Candidate Q U C × Serves Q U C)
rewriting_exact Q U vq vu q u = (
  λ w. let k = candidate_there Q U w.0 vq vu w.1 in (
    pattern_of (cut_shape (shape_of Q) (cut_step (shape_of Q) (shape_of U))),
    k,
    candidate_serves Q U w.0 vq vu w.1 (pattern_of (cut_shape (shape_of Q) (cut_step (shape_of Q) (shape_of U)))) k q u,
  ),
  λ w. (w.0, w.2),
)
