use Rattle.listing.proofs.Passes.{first_costs, pass_more}
use Rattle.listing.proofs.cost.Routines.settled.Goals as goal

pub loop-turn-init : goal.loop-turn-init
loop-turn-init c rs e all = first_costs rs

pub loop-turn-preserved : goal.loop-turn-preserved
loop-turn-preserved c rs e all = pass_more c.args.self.now.bytes.now rs c.loop-turn.turn c.loop-turn.costs c.pass-costs.result all (c.loop-turn.invariant rs e all) (c.pass-costs.ensures rs e all)
