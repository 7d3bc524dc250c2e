-- What the rules give: order in a valid table, a pattern's table and its shape say the same, and tests for the rules. Assumes nothing.
use Rattle.tables.proofs.Kit.{ℕ, suc, ◌<◌, ◌≡◌, refl, sym, ap, ◌∙◌, Bool, ◌&&◌, ◌||◌, arith, T, ltb, eqb, eqb→eq, length, get_or}
use Rattle.tables.specs.{Tree.IsLabel, Column.{padded, step_array, bare_numbers_of}}
use Rattle.tables.specs.Document.{Document, node_count, nodes_of, NodeRule, ValidDocument, document_of}
use Rattle.tables.specs.{Pattern.{Shape, shape_of, table_of, pattern_of, StepRule, ValidShape, Clean}, declared.Pattern.Pattern, declared.StepNo.StepNo}
use Rattle.tables.proofs.{Trees.Ordered, Columns.{padded_at, padded_ext, steps_at, steps_ext, bare_same}}
use Rattle.tables.proofs.Tests.{Tells, tells_lt, tells_eq, tells_and, tells_or, tells_iff, tells_self, every, tells_every, and_both, same_list, same_list_lem}
use Rattle.tables.proofs.TreeTests.{hangs_right, hangs_sound, hangs_complete}

pub shape_ordered : {A : Shape} → ValidShape A → Ordered A.tree
shape_ordered v = record { some = v.some; order = λ s h. (v.steps (suc s) h).hangs }

pub document_ordered : {d : Document} → ValidDocument d → Ordered (nodes_of d).tree
document_ordered v = record { some = v.some; order = λ i h. (v.nodes (suc i) h).hangs }

-- two shapes of one table: the same in every row
pub record Agree (A B : Shape) : Type 0 where
  pub size : A.tree.size ≡ B.tree.size
  pub output : A.output ≡ B.output
  pub parent : (s : ℕ) → s < A.tree.size → A.tree.parent s ≡ B.tree.parent s
  pub axis : (s : ℕ) → s < A.tree.size → A.axis s ≡ B.axis s
  pub label : (s : ℕ) → s < A.tree.size → A.label s ≡ B.label s

-- the table of a shape has that shape
pub pattern_of_shape : (A : Shape) → Agree (shape_of (pattern_of A)) A
unfolding pattern_of table_of
pattern_of_shape A = record {
  size = refl;
  output = refl;
  parent = λ s l. ap (λ (x : StepNo). x.0) (steps_at A.tree.parent A.tree.size s l);
  axis = λ s l. padded_at A.axis A.tree.size s l;
  label = λ s l. padded_at A.label A.tree.size s l;
}

pub agree_sym : {A B : Shape} → Agree A B → Agree B A
agree_sym {A} {B} e = record {
  size = sym e.size;
  output = sym e.output;
  parent = λ s l. sym (e.parent s (omega (arith, e.size)));
  axis = λ s l. sym (e.axis s (omega (arith, e.size)));
  label = λ s l. sym (e.label s (omega (arith, e.size)));
}

pub agree_trans : {A B C : Shape} → Agree A B → Agree B C → Agree A C
agree_trans {A} {B} {C} e f = record {
  size = e.size ∙ f.size;
  output = e.output ∙ f.output;
  parent = λ s l. e.parent s l ∙ f.parent s (omega (arith, e.size));
  axis = λ s l. e.axis s l ∙ f.axis s (omega (arith, e.size));
  label = λ s l. e.label s l ∙ f.label s (omega (arith, e.size));
}

-- shapes that agree have one table
pub pattern_of_agree : {A B : Shape} → Agree A B → pattern_of A ≡ pattern_of B
unfolding pattern_of
pattern_of_agree {A} {B} e =
    let p : step_array A.tree.parent A.tree.size ≡ step_array B.tree.parent A.tree.size = steps_ext A.tree.parent B.tree.parent
    A.tree.size e.parent in
    let x : padded A.axis A.tree.size ≡ padded B.axis A.tree.size = padded_ext A.axis B.axis A.tree.size e.axis in
    let l : padded A.label A.tree.size ≡ padded B.label A.tree.size = padded_ext A.label B.label A.tree.size e.label in
    let s : A.tree.size ≡ B.tree.size = e.size in let o : A.output ≡ B.output = e.output in
    cc

-- the table of a shape is as tables are handed out
pub pattern_of_clean : (A : Shape) → Clean (pattern_of A)
pattern_of_clean A = pattern_of_agree (pattern_of_shape A)

-- tests for the rules
unfoldable pub is_label : ℕ → Bool
is_label l = ltb 0 l && ltb l 65536

pub tells_label : (l : ℕ) → Tells (is_label l) (IsLabel l)
unfolding is_label
tells_label l = tells_iff (tells_and (tells_lt 0 l) (tells_lt l 65536))
    (λ p. record { least = p.0; most = omega (arith, p.1) }, λ h. (h.least, omega (arith, h.most)))

unfoldable pub is_right_step : Shape → ℕ → Bool
is_right_step A s = hangs_right A.tree 255 s && ((eqb (A.axis s) 0 || eqb (A.axis s) 1) && is_label (A.label s))

unfoldable pub is_pattern : Shape → Bool
is_pattern A = ltb 0 A.tree.size && (ltb A.tree.size 65 && (every A.tree.size (is_right_step A) && ltb A.output A.tree.size))

unfoldable pub is_right_node : Document → ℕ → Bool
is_right_node d i = hangs_right (nodes_of d).tree 65535 i && is_label (get_or d.labels i 0)

unfoldable pub is_document : Document → Bool
is_document d = ltb 0 (node_count d) && (ltb (node_count d) 2049 && (eqb (length d.labels) (node_count d) && every (node_count d) (is_right_node d)))

step_sound : (A : Shape) (s : ℕ) → T (is_right_step A s) → StepRule A s
unfolding is_right_step
step_sound A s t =
    let p = (tells_and (tells_self {b = hangs_right A.tree 255 s}) (tells_and (tells_or (tells_eq (A.axis s) 0) (tells_eq (A.axis s) 1))
    (tells_label (A.label s)))).says t in
    record { hangs = hangs_sound A.tree 255 s p.0; axis = p.1.0; label = p.1.1 }

step_complete : (A : Shape) → Ordered A.tree → (s : ℕ) → StepRule A s → T (is_right_step A s)
unfolding is_right_step
step_complete A v s r =
    (tells_and (tells_self {b = hangs_right A.tree 255 s}) (tells_and (tells_or (tells_eq (A.axis s) 0) (tells_eq (A.axis s) 1))
    (tells_label (A.label s)))).test
    (hangs_complete A.tree v 255 s r.hangs, (r.axis, r.label))

node_sound : (d : Document) (i : ℕ) → T (is_right_node d i) → NodeRule d i
unfolding is_right_node
node_sound d i t =
    let p = (tells_and (tells_self {b = hangs_right (nodes_of d).tree 65535 i}) (tells_label (get_or d.labels i 0))).says t in
    record { hangs = hangs_sound (nodes_of d).tree 65535 i p.0; label = p.1 }

node_complete : (d : Document) → Ordered (nodes_of d).tree → (i : ℕ) → NodeRule d i → T (is_right_node d i)
unfolding is_right_node
node_complete d v i r = (tells_and (tells_self {b = hangs_right (nodes_of d).tree 65535 i}) (tells_label (get_or d.labels i 0))).test
    (hangs_complete (nodes_of d).tree v 65535 i r.hangs, r.label)

pub tells_pattern : (A : Shape) → Tells (is_pattern A) (ValidShape A)
unfolding is_pattern
tells_pattern A =
    let n : ℕ = A.tree.size in
    tells_iff (tells_and (tells_lt 0 n) (tells_and (tells_lt n 65) (tells_and (tells_every (λ s. tells_self) n) (tells_lt A.output n)))) (
      λ p. record { some = p.0; few = omega (arith, p.1.0); steps = λ s l. step_sound A s (p.1.1.0 s l); output = p.1.1.1 },
      λ v. (v.some, (omega (arith, v.few), (λ s l. step_complete A (shape_ordered v) s (v.steps s l), v.output))),
    )

pub tells_document : (d : Document) → Tells (is_document d) (ValidDocument d)
unfolding is_document
tells_document d =
    let n : ℕ = node_count d in
    tells_iff (tells_and (tells_lt 0 n) (tells_and (tells_lt n 2049) (tells_and (tells_eq (length d.labels) n) (tells_every (λ i. tells_self) n)))) (
      λ p. record { some = p.0; few = omega (arith, p.1.0); equal = p.1.1.0; nodes = λ i l. node_sound d i (p.1.1.1 i l) },
      λ v. (v.some, (omega (arith, v.few), (v.equal, λ i l. node_complete d (document_ordered v) i (v.nodes i l)))),
    )

-- patterns with the same parts are one
pub pattern_ext : (p q : Pattern) → p.count ≡ q.count → p.output.0 ≡ q.output.0 → p.parent ≡ q.parent → p.axis ≡ q.axis → p.label ≡ q.label → p ≡ q
unfolding table_of
pattern_ext p q n o ps xs ls = λ i. table_of (n i) (o i) (ps i) (xs i) (ls i)

unfoldable pub same_pattern : Pattern → Pattern → Bool
same_pattern p q =
    eqb p.count q.count && (eqb p.output.0 q.output.0 &&
    (same_list (bare_numbers_of p.parent) (bare_numbers_of q.parent) && (same_list p.axis q.axis && same_list p.label q.label)))

pub same_pattern_lem : (p q : Pattern) → T (same_pattern p q) → p ≡ q
unfolding same_pattern
same_pattern_lem p q t =
    let a = and_both (eqb p.count q.count) _ t in
    let b = and_both (eqb p.output.0 q.output.0) _ a.1 in
    let c = and_both (same_list (bare_numbers_of p.parent) (bare_numbers_of q.parent)) _ b.1 in
    let d = and_both (same_list p.axis q.axis) _ c.1 in
    pattern_ext p q (eqb→eq p.count q.count a.0) (eqb→eq p.output.0 q.output.0 b.0)
    (bare_same p.parent q.parent (same_list_lem (bare_numbers_of p.parent) (bare_numbers_of q.parent) c.0)) (same_list_lem p.axis q.axis d.0)
    (same_list_lem p.label q.label d.1)

-- documents with the same lists are one
unfoldable pub same_document : Document → Document → Bool
same_document d e = same_list d.parents e.parents && same_list d.labels e.labels

pub same_document_lem : (d e : Document) → T (same_document d e) → d ≡ e
unfolding same_document
same_document_lem d e t =
    let p = and_both (same_list d.parents e.parents) _ t in
    let ps : d.parents ≡ e.parents = same_list_lem d.parents e.parents p.0 in
    let ls : d.labels ≡ e.labels = same_list_lem d.labels e.labels p.1 in
    λ i. document_of (ps i) (ls i)
