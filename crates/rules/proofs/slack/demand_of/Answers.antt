use Rattle.std.proofs.Common.{◌≡◌, rules, arith}
use Rattle.std.proofs.iter.runs.Sources.{sums}
use Rattle.rules.specs.Slacks.{demand}
use Rattle.rules.specs.Demands.{demand_small}
use Rattle.rules.proofs.slack.demand_of.Goals as goal

pub sum-requires-clause-fits : goal.sum-requires-clause-fits
sum-requires-clause-fits c = let small = demand_small c.args.by c.args.tasks.now c.requires.by in search (rules, sums)

pub returns-clause-small : goal.returns-clause-small
returns-clause-small c =
    let all : c.sum.result ≡ demand c.args.tasks.now c.args.by = search (rules, sums) in
    omega (arith, all, demand_small c.args.by c.args.tasks.now c.requires.by)
