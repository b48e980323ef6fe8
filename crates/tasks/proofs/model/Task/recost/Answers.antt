use Rattle.std.proofs.Common.{◌≡◌, true, arith}
use Rattle.std.proofs.lemmas.Bool.Decides.{nat_tests}
use Rattle.tasks.specs.Ranges.{cost_fits}
use Rattle.tasks.proofs.Fits.{fits_set}
use Rattle.tasks.proofs.model.Task.recost.Goals as goal

pub invariant_of-self-clause-costs : goal.invariant_of-self-clause-costs
invariant_of-self-clause-costs c =
    let t = c.args.self.now in
    let f : cost_fits c.args.cost ≡ true = grind (arith, nat_tests) in
    fits_set t.blocks.items _ (record { cost = c.args.cost }) f t.costs
