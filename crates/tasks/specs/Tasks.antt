-- A task as its contracts speak of it: its blocks and points by index, and what a choice makes of it.
use Rattle.std.specs.Prelude.{ℕ, List, get_or, vec_items, vec_len, slice_index_or}
use Rattle.std.proofs.Common.{lit≤}
use Rattle.tasks.specs.declared.points.Point.{Point}
use Rattle.tasks.specs.declared.model.Task.{Task}
use Rattle.tasks.specs.Choices.{Choice, stretches, total, rising, greatest}

abbrev pub no_point : Point
no_point = record { ticks = 0; charge = 0; small = (lit≤ tt, lit≤ tt) }

-- how many points there are, which is also the index of the last block
abbrev pub point_count : Task → ℕ
point_count t = vec_len t.points

abbrev pub cost_of_block : Task → ℕ → ℕ
cost_of_block t i = (get_or (vec_items t.blocks) i (record { cost = 0 })).cost

abbrev pub point_at : Task → ℕ → Point
point_at t i = slice_index_or (vec_items t.points) i no_point

-- the lengths of the stretches of a task under a choice, the last one first
abbrev pub stretches_of : Task → Choice → List ℕ
stretches_of t c = stretches (cost_of_block t) (point_at t) c (point_count t) 0

-- the length of the longest stretch
abbrev pub longest_of : Task → Choice → ℕ
longest_of t c = greatest (stretches_of t c)

-- the cost of a task under a choice: its blocks and the ticks of its chosen points
abbrev pub cost_of : Task → Choice → ℕ
cost_of t c = total (cost_of_block t) (point_at t) c (point_count t)

-- the numbers of the chosen points, rising
abbrev pub points_of : Task → Choice → List ℕ
points_of t c = rising c (point_count t)
