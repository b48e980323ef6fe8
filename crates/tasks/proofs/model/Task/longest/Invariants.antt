use Rattle.std.proofs.Common.{◌≡◌, ℕ, ◌+◌, ◌*◌, ◌≤◌, max}
use Rattle.tasks.specs.Choices.{told, stretches, greatest}
use Rattle.tasks.specs.Tasks.{cost_of_block, point_at}
use Rattle.tasks.proofs.model.Task.longest.Given as goal

-- However the last stretch goes on, the longest one is the longest so far or that one.
abbrev pub invariant-loop-i : goal.invariant-loop-i
invariant-loop-i l = ((more : ℕ) → greatest (stretches (cost_of_block l.self) (point_at l.self) (told l.word) l.i more) ≡ max l.longest (l.length + more)) × (l.length ≤ 1000000 + l.i * 2000000)
