use Rattle.std.proofs.Common.{◌+◌, ◌*◌, ◌≤◌, vec_items}
use Rattle.tasks.specs.Choices.{told}
use Rattle.tasks.specs.Tasks.{cost_of_block, point_at}
use Rattle.tasks.proofs.Walks.{Open}
use Rattle.tasks.proofs.model.Task.stretches.Given as goal

abbrev pub invariant-loop-i : goal.invariant-loop-i
invariant-loop-i l = Open (cost_of_block l.self) (point_at l.self) (told l.word) l.i l.first l.length (vec_items l.list) × (l.length ≤ 1000000 + l.i * 2000000)
