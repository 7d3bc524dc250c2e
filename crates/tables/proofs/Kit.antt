-- The words of the kit's libraries that proofs use, gathered so that a proof's imports are a few lines. Re-exports only. Assumes nothing.
pub use Prim.Native.Nat.{ℕ, zero, suc, ◌+◌, ◌*◌, ◌-◌, ◌/◌, ◌%◌, ◌^◌, ◌≤◌, ◌<◌, min, max}
pub use mathlib.Core.Path.{◌≡◌, refl, sym, ap, ap₂, ◌∙◌, subst, subst₂}
pub use mathlib.Core.Logic.{◌⊎◌, inl, inr, ⊎_elim, ◌≢◌, ◌↔◌}
pub use mathlib.Core.Bool.{Bool, true, false, ◌&&◌, cond, not, ◌||◌}
pub use mathlib.Core.List.{List, [], ◌∷◌, ◌++◌, append-nil, map, append_assoc}
pub use native.Mathlib.Omega.{arith}
pub use native.Mathlib.Decide.{dec_lt, ℕ_discrete, dec_le, map_dec}
pub use native.Mathlib.Nat.{eq-or-lt_of_le, eq-zero-or-pos, lt_of_lt_of_le, div_self, mul_comm, mul-div_left, mul-div_right, div-eq_of_lt}
pub use native.Mathlib.Nat.{mul-zero, mul-suc, add-zero, add_assoc, pow-suc, pow-succ', div-div-eq-div-mul, zero-add, mod-lt, zero-mul, suc-mul}
pub use native.Mathlib.Numerals.{add-one}
pub use lib.Dec.{T, ltb, eqb, lit<, ltb→lt, lt→ltb, eqb→eq, eqb_refl}
pub use lib.ListN.{length, get_or, set, take, drop, replicate, length-append, length-set, length-drop, length-take, length-replicate}
pub use lib.ListN.{get_or-replicate, take-append-drop, get_or-eq_default, length-map, get_or-append, get_or-map}
pub use lib.Seq.{get_or-set_same, get_or-set_other, get_or-append-add, sets-eq, drop-cons, drop-drop, drop-append-add, set_split, take_at}
pub use lib.Seq.{set_at, ext_get_or, take_all, take-take, take-add, length-take-le, get_or-take, get_or-drop, take-suc, append_snoc, drop_at}
pub use lib.Bits.{bit_or, bit_and, bit_xor, or_shifted_r, or_shr, or_step, and_shr, and_step, xor_shr, xor_add_and}
pub use lib.Pow.{pow_pos, pow_mono, pow-lt, pow-add, shr-shr, shl_exact, field, mod-mod-pow}
pub use Rattle.std.specs.Prelude.{Result, Ok, Err, Option, Some, None}
pub use lib.IntN.{ℤ, pos, negsuc, neg_ℤ, ◌-ℤ◌, +ℤ_idl, nat_abs, pos-ne-negsuc}
pub use mir.Syntax.{w16, w8, w64}
pub use mir.Val.{Fits, SFits, to_z, of_z, hbits}
pub use borrow.Author.Rules.{rules}
pub use borrow.Author.Tests.{ltb-true, ltb-false, eqb-true, eqb-false, leb-true, leb-false, lt-ltb, le-ltb, not-true, not-false, clash}
pub use borrow.Author.Count.{below_more}
