use Rattle.std.proofs.Common.{◌≡◌, ◌≤◌, List, map, length, drop}
use Rattle.std.specs.List.{AllByRecursion}
use Rattle.reading.specs.Bodies.{BodyRead}
use Rattle.listing.specs.Costing.{Capped}
use Rattle.listing.specs.Costing.{cost_by}
use Rattle.reading.specs.Listings.{routine_head}
use Rattle.reading.specs.Runs.{cost_of_code}
use Rattle.reading.specs.Trees.{Routine}
use Rattle.listing.proofs.cost.Routines.pass.Given as goal

abbrev pub invariant-loop-i : goal.invariant-loop-i
invariant-loop-i l = (rs : List Routine) → l.self.heads.now ≡ map routine_head rs → AllByRecursion (BodyRead l.self.bytes.now) rs → Capped l.next (cost_by (cost_of_code l.costs) (drop l.i rs))
