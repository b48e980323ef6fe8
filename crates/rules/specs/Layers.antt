-- What the layers make of a slack or a tolerance.
use Rattle.std.specs.Prelude.{ℕ, ℤ, pos, negsuc, ◌-ℤ◌}
use Rattle.std.specs.Int.{int_max, int_min}

-- the least tolerance, -10^15
abbrev pub lowest : ℤ
lowest = negsuc 999999999999999

-- n less, but never below the least tolerance
abbrev pub reserved : ℕ → ℤ → ℤ
reserved n z = int_max lowest (z -ℤ pos n)

-- the lesser of z and n
abbrev pub capped : ℕ → ℤ → ℤ
capped n z = int_min z (pos n)
