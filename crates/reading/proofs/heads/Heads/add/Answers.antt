use Rattle.std.proofs.Common.{◌<◌, length, ap, ◌∙◌, arith, length-set}
use Rattle.std.proofs.lemmas.List.{length-take-le}
use Rattle.reading.proofs.Spare.{spare_less}
use Rattle.reading.proofs.heads.Heads.add.Goals as goal

pub invariant_of-self : goal.invariant_of-self
invariant_of-self c =
    let hs = c.self.inside.heads in
    let n = c.self.inside.count in
    let p = c.self.invariant in
    let few : n < 32 = omega (arith, c.requires, ap length c.self.view_is, length-take-le n hs (omega (arith, p.0, p.1))) in
    (length-set hs n c.args.head ∙ p.0, omega (arith, few), spare_less hs n c.args.head few p.2)
