use Rattle.std.proofs.Common.{◌≡◌, ◌≤◌, ◌++◌, vec_items}
use Rattle.tasks.specs.Choices.{told, rising}
use Rattle.tasks.specs.Tasks.{point_count}
use Rattle.tasks.proofs.model.Task.chosen.Given as goal

abbrev pub invariant-loop-rest : goal.invariant-loop-rest
invariant-loop-rest l = (vec_items l.list ++ rising (told l.rest) (point_count l.self) ≡ rising (told l.word) (point_count l.self)) × (l.rest ≤ l.word)

abbrev pub decreases-loop-rest : goal.decreases-loop-rest
decreases-loop-rest l = l.rest
