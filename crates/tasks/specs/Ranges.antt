-- The ranges of the model's numbers, each as the test that a making call decides.
use Rattle.std.specs.Prelude.{ℕ, ◌+◌, Bool, ◌&&◌, List, ◌==◌, nat_le}
use Rattle.std.specs.List.{list_all}
use Rattle.tasks.specs.declared.blocks.Block.{Block}

abbrev pub point_fits : ℕ → Bool
point_fits ticks = nat_le ticks 1000000

abbrev pub cost_fits : ℕ → Bool
cost_fits cost = nat_le 1 cost && nat_le cost 1000000

-- a period of 10 to 1,000,000 ticks, and a deadline from 1 to the period
abbrev pub clock_fits : ℕ → ℕ → Bool
clock_fits period deadline = nat_le 10 period && nat_le period 1000000 && nat_le 1 deadline && nat_le deadline period

-- the cost of a task, its chosen points included
abbrev pub task_cost_fits : ℕ → Bool
task_cost_fits cost = nat_le 1 cost && nat_le cost 127000000

abbrev pub costs_fit : List Block → Bool
costs_fit blocks = list_all (λ b. cost_fits b.cost) blocks

-- 1 to 64 blocks, each in its range, and one point between each two neighbours
abbrev pub body_fits : List Block → ℕ → ℕ → Bool
body_fits blocks count points = nat_le 1 count && nat_le count 64 && points + 1 == count && costs_fit blocks
