-- What a choice measures in a task.
use Rattle.tasks.specs.declared.model.Task.{Task}
use Rattle.tasks.specs.declared.points.Point.{Point}
use Rattle.tasks.specs.Choices.{Choice}
use Rattle.tasks.specs.Tasks.{point_at, point_count}
use Rattle.measures.specs.Joins.{measured}

abbrev pub measure_of : {V : Type 0} → V → (V → Point → V) → Task → Choice → V
measure_of none join t c = measured none join (point_at t) c (point_count t)
