-- The first moment at which a function of the moment is greatest.
use Rattle.std.specs.Prelude.{ℕ, zero, suc, cond, ℤ, int_lt}

-- of two moments the later one where it has more, else the earlier
abbrev pub better : (ℕ → ℤ) → ℕ → ℕ → ℕ
better f early late = cond (int_lt (f early) (f late)) late early

-- the first of the moments 1 to n that has the greatest value
unfoldable pub peak : (ℕ → ℤ) → ℕ → ℕ
peak f zero = 1
peak f (suc n) = better f (peak f n) (suc n)
