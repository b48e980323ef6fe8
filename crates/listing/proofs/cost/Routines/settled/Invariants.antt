use Rattle.std.proofs.Common.{◌≡◌, List, map}
use Rattle.std.specs.List.{AllByRecursion}
use Rattle.reading.specs.Bodies.{BodyRead}
use Rattle.listing.specs.Costing.{Capped}
use Rattle.listing.specs.Costing.{cost_in}
use Rattle.reading.specs.Listings.{routine_head}
use Rattle.reading.specs.Trees.{Routine}
use Rattle.listing.proofs.cost.Routines.settled.Given as goal

abbrev pub invariant-loop-turn : goal.invariant-loop-turn
invariant-loop-turn l = (rs : List Routine) → l.self.heads.now ≡ map routine_head rs → AllByRecursion (BodyRead l.self.bytes.now) rs → Capped l.costs (cost_in rs l.turn)
