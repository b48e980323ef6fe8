use Rattle.std.proofs.Common.{◌≡◌, ◌+◌, ◌*◌, ◌≤◌}
use Rattle.tasks.specs.Choices.{told, total}
use Rattle.tasks.specs.Tasks.{cost_of_block, point_at}
use Rattle.tasks.proofs.model.Task.cost.Given as goal

abbrev pub invariant-loop-i : goal.invariant-loop-i
invariant-loop-i l = (l.sum ≡ total (cost_of_block l.self) (point_at l.self) (told l.word) l.i) × (l.sum ≤ 1000000 + l.i * 2000000)
