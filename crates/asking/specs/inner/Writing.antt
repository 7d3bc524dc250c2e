-- What the writers of lines do to a text. Only private functions cite this file: a reader of the public contract need not read it. Assumes nothing.
use Rattle.std.specs.Prelude.{ℕ, ◌+◌, ◌≤◌, ◌≡◌, List, ◌++◌, length, take, drop}
use Rattle.std.specs.Borrow.{MutBor}
use Rattle.asking.specs.declared.text.Text.{Text}

-- a text of no bytes, at the front of this buffer
pub record Begins (out : MutBor (List ℕ)) (t : Text) : Type 0 where
  pub same : t.out.ghost_name ≡ out.ghost_name
  pub none : t.len ≡ 0
  pub is : t.out.now ≡ out.now

-- there is room for n bytes more
abbrev pub Fits : Text → ℕ → Type 0
Fits t n = t.len + n ≤ length t.out.now

-- these bytes have been put behind a text, in the same buffer, and the bytes past them are as they were
pub record Grew (before : Text) (text : List ℕ) (after : Text) : Type 0 where
  pub same : after.out.ghost_name ≡ before.out.ghost_name
  pub kept : length after.out.now ≡ length before.out.now
  pub end : after.len ≡ before.len + length text
  pub is : after.out.now ≡ take before.len before.out.now ++ text ++ drop after.len before.out.now

-- bytes of which P holds have been put behind a text
pub record Puts (P : List ℕ → Type 0) (before after : Text) : Type 0 where
  pub text : List ℕ
  pub holds : P text
  pub grew : Grew before text after
