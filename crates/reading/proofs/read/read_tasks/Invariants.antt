use Rattle.std.proofs.Common.{◌≡◌, suc, ◌-◌, [], length}
use Rattle.reading.specs.Listings.{tasks_from, task_heads}
use Rattle.reading.proofs.Gathered.{Tasking}
use Rattle.reading.proofs.read.read_tasks.Given as goal

abbrev pub invariant-tasks : goal.invariant-tasks
invariant-tasks l = (l.reader.bytes.now ≡ l.initial.reader.bytes.now) × Tasking l.initial.reader.bytes.now (l.heads) l.reader.at (task_heads (tasks_from l.initial.reader.bytes.now (suc (length l.initial.reader.bytes.now)) [] l.initial.reader.at))

abbrev pub decreases-tasks : goal.decreases-tasks
decreases-tasks l = length l.reader.bytes.now - l.reader.at
