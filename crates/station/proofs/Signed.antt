-- A small count, and minus a small number, as an i64. Assumes nothing.
use Rattle.tables.proofs.Kit.{ℕ, zero, suc, ◌<◌, ◌^◌, ◌≡◌, arith, ℤ, pos, neg_ℤ, lit<, w64, SFits, to_z, of_z, hbits}
use mir.Facts.{to_z-of_z}

-- minus a small number is an i64
neg_fits : (k : ℕ) → k < 256 → SFits w64 (neg_ℤ (pos k))
neg_fits zero h = record { sfits = lit< tt }
neg_fits (suc k) h = record { sfits = omega arith }

pub plus_result : (n : ℕ) → n < 65536 → to_z w64 (of_z w64 (pos n)) ≡ pos n
plus_result n h = to_z-of_z {w = w64} {z = pos n} record { sfits = omega arith }

pub neg_result : (k : ℕ) → k < 256 → to_z w64 (of_z w64 (neg_ℤ (pos k))) ≡ neg_ℤ (pos k)
neg_result k h = to_z-of_z (neg_fits k h)
