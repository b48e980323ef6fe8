use Rattle.std.proofs.Common.{◌≡◌, List, map, take, vec_items}
use Rattle.std.specs.List.{AllByRecursion}
use Rattle.reading.specs.Bodies.{TaskRead}
use Rattle.reading.specs.Listings.{task_head}
use Rattle.listing.specs.Loading.{Priced, Are}
use Rattle.reading.specs.Runs.{cost_of_code}
use Rattle.reading.specs.Trees.{Task}
use Rattle.listing.proofs.load.Loader.tasks.Given as goal

abbrev pub invariant-loop-head : goal.invariant-loop-head
invariant-loop-head l = (ts : List Task) → l.heads ≡ map task_head ts → AllByRecursion (TaskRead l.self.bytes.now) ts → AllByRecursion (λ (t : Task). Priced (cost_of_code l.self.costs.now) t.blocks) ts → Are (cost_of_code l.self.costs.now) (vec_items l.tasks) (take l.head-index ts)
