use Rattle.std.proofs.Common.{◌<◌, length, ap, ◌∙◌, arith, rules}
use Rattle.std.proofs.lemmas.List.{length-map}
use Rattle.reading.specs.Listings.{routine_head}
use Rattle.reading.specs.Runs.{cost_of_code}
use Rattle.listing.proofs.Passes.{none_costed, one_costed}
use Rattle.listing.proofs.cost.Routines.pass.Goals as goal

pub loop-i-init : goal.loop-i-init
loop-i-init c = λ rs e all. none_costed (cost_of_code c.args.costs.now) rs c.len-i.result (omega (arith, c.len-i.ensures.is, ap length e ∙ length-map rs routine_head))

pub loop-i-preserved : goal.loop-i-preserved
loop-i-preserved c =
    let small : c.get-head.result.code < 256 = search rules in
    λ rs e all.
    rw c.from.ensures (one_costed c.args.self.now.bytes.now (cost_of_code c.args.costs.now) rs c.args.self.now.heads.now e all c.loop-i.i (omega arith) (omega (arith, c.loop-i.auto.i, c.len-i.ensures.is)) c.get-head.result c.get-head.ensures c.loop-i.next c.cost_at.result small c.cost_at.ensures (c.loop-i.invariant rs e all))
