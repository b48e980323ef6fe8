use Rattle.std.proofs.Common.{◌≡◌, List, map, drop}
use Rattle.std.specs.List.{AllByRecursion}
use Rattle.reading.specs.Bodies.{TaskRead}
use Rattle.reading.specs.Listings.{task_head}
use Rattle.listing.specs.Marks.{marked_in}
use Rattle.reading.specs.Trees.{Task}
use Rattle.listing.proofs.blocks.marked_block.Given as goal

abbrev pub invariant-loop-task : goal.invariant-loop-task
invariant-loop-task l = (ts : List Task) → l.tasks ≡ map task_head ts → AllByRecursion (TaskRead l.bytes) ts → marked_in l.marks (drop l.task-index ts) ≡ marked_in l.marks ts
