-- The layers keep the order, and the bounds of a tolerance.
use Rattle.std.specs.Prelude.{ℕ, ◌≤◌, ℤ, pos, ◌≤ℤ◌}
use Rattle.std.proofs.Common.{arith}
use Rattle.std.proofs.lemmas.Int.{ints, clamps}
use Rattle.rules.specs.Layers.{lowest, reserved, capped}

pub reserved_mono : (n : ℕ) (a b : ℤ) → a ≤ℤ b → reserved n a ≤ℤ reserved n b
reserved_mono n a b h = omega (arith, ints, clamps)

pub reserved_bounds : (n : ℕ) (z : ℤ) → n ≤ 1000000 → lowest ≤ℤ z → z ≤ℤ pos 1000000 → (lowest ≤ℤ reserved n z) × (reserved n z ≤ℤ pos 1000000)
reserved_bounds n z small low high = (omega (arith, ints, clamps), omega (arith, ints, clamps))

pub capped_mono : (n : ℕ) (a b : ℤ) → a ≤ℤ b → capped n a ≤ℤ capped n b
capped_mono n a b h = omega (arith, ints, clamps)

pub capped_bounds : (n : ℕ) (z : ℤ) → n ≤ 1000000 → lowest ≤ℤ z → z ≤ℤ pos 1000000 → (lowest ≤ℤ capped n z) × (capped n z ≤ℤ pos 1000000)
capped_bounds n z small low high = (omega (arith, ints, clamps), omega (arith, ints, clamps))
