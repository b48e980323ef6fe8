-- Worked costs. Assumes nothing.
use Rattle.std.specs.Prelude.{◌≡◌, ℕ}
use Rattle.reading.specs.Trees.{work, either, repeat, Run, done, next, one, more, run_cost}

-- either work 5 or work 9, and then work 1
abbrev pub five_or_nine : Run
five_or_nine = next (either (more (next (work 5) done) (one (next (work 9) done)))) (next (work 1) done)

-- it costs 10, and repeated 3 times 30, whatever routines cost
abbrev pub Worked : Type 0
Worked = (of : ℕ → ℕ) → (run_cost of five_or_nine ≡ 10) × (run_cost of (next (repeat 3 five_or_nine) done) ≡ 30)
