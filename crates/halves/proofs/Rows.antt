-- Bytes that are written over a list: rows of one width after a header. Assumes nothing.
use Rattle.tables.proofs.Kit.{ℕ, ◌+◌, ◌*◌, ◌≤◌, ◌≡◌, refl, sym, ap, ap₂, ◌∙◌, List, ◌++◌, append-nil, append_assoc}
use Rattle.tables.proofs.Kit.{mul_comm, mul-zero, mul-suc, add-zero, add_assoc, add-one, length, take, drop, length-append, take-append-drop, length-take-le}
use Rattle.tables.specs.Column.{blocks}
use Rattle.tables.proofs.Columns.{blocks_length, put_block}

-- the first k rows of b, of w bytes each, are written over d from byte h on
pub record RowsPut (b : ℕ → List ℕ) (h w : ℕ) (d : List ℕ) (k : ℕ) (out : List ℕ) : Type 0 where
  pub same : length out ≡ length d
  pub is : out ≡ take h d ++ blocks b k ++ drop (h + w * k) d

module _ (b : ℕ → List ℕ) (h w : ℕ) (d : List ℕ) where
  pub rows_none : RowsPut b h w d 0 d
  unfolding blocks
  rows_none =
      let z : h ≡ h + w * 0 = sym (rw mul-zero (add-zero h)) in
      record { same = refl; is = sym (take-append-drop h d) ∙ ap₂ (λ x m. x ++ drop m d) (sym (append-nil (take h d))) z }

  pub rows_next : (k : ℕ) (out next : List ℕ) → h ≤ length d → ((j : ℕ) → length (b j) ≡ w) → length next ≡ length out
      → next ≡ take (h + w * k) out ++ b k ++ drop (h + w * k + w) out → RowsPut b h w d k out → RowsPut b h w d (k + 1) next
  unfolding blocks
  rows_next k out next l n s e r =
      let m : length (take h d ++ blocks b k) ≡ h + w * k =
      length-append (take h d) (blocks b k) ∙ ap₂ (λ x y. x + y) (length-take-le h d l) (blocks_length b w k (λ j l. n j) ∙ mul_comm k w) in
      let z : h + w * k + w ≡ h + w * (k + 1) = rw (add-one, mul-suc, add_assoc) in
      record {
        same = s ∙ r.same;
        is =
            e
            ∙ ap (λ x. take (h + w * k) x ++ b k ++ drop (h + w * k + w) x) r.is
            ∙ put_block (take h d ++ blocks b k) (b k) d (h + w * k) w m
            ∙ ap₂ (λ x m. x ++ drop m d) (append_assoc (take h d) (blocks b k) (b k)) z
            ∙ rw add-one;
      }

  -- all rows after a header that was written over x
  pub rows_all : (hs x out : List ℕ) (k : ℕ) → length hs ≡ h → d ≡ hs ++ drop h x → RowsPut b h w d k out → out ≡ hs ++ blocks b k ++ drop (h + w * k) x
  rows_all hs x out k n e r = r.is ∙ ap (λ y. take h y ++ blocks b k ++ drop (h + w * k) y) e ∙ put_block hs (blocks b k) x h (w * k) n
