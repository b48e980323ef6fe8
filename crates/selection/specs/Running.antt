-- The cost of runs of blocks, and the length of a stretch by its start and its end. All are told by index, from 0.
use Rattle.std.specs.Prelude.{ℕ, zero, suc, ◌+◌, ◌-◌}
use Rattle.tasks.specs.declared.points.Point.{Point}

-- the blocks before k
abbrev pub cost_before : (ℕ → ℕ) → ℕ → ℕ
cost_before cost zero = 0
cost_before cost (suc k) = cost_before cost k + cost k

-- the blocks from j on, up to k
abbrev pub run : (ℕ → ℕ) → ℕ → ℕ → ℕ
run cost k j = cost_before cost (suc k) - cost_before cost j

-- the stretch that starts at block j and ends behind block k: it has the ticks of the point where it starts too
abbrev pub stretch_from : (ℕ → ℕ) → (ℕ → Point) → ℕ → ℕ → ℕ
stretch_from cost point k zero = run cost k 0
stretch_from cost point k (suc i) = (point i).ticks + run cost k (suc i)
