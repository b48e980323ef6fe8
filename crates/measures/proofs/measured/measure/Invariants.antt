use Rattle.std.proofs.Common.{◌≡◌}
use Rattle.tasks.specs.Choices.{told}
use Rattle.tasks.specs.Tasks.{point_at}
use Rattle.measures.specs.Joins.{measured}
use Rattle.measures.proofs.measured.measure.Given as goal

abbrev pub invariant-loop-i : goal.invariant-loop-i
invariant-loop-i g l = l.value ≡ measured g.M.Measure.none g.M.Measure.join (point_at l.task) (told l.word) l.i
