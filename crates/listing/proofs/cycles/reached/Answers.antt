use Rattle.std.proofs.Common.{ap, subst, arith}
use Rattle.listing.specs.Cycles.{entry, through, code_at, Tabled}
use Rattle.listing.proofs.Closed.{start_closed, pass_closed}
use Rattle.listing.proofs.cycles.reached.Goals as goal

pub loop-k-init : goal.loop-k-init
loop-k-init c = start_closed _ _

pub loop-k-preserved : goal.loop-k-preserved
loop-k-preserved c =
    let s = c.as_slice-head-items.ensures in
    let code = ap (λ hs. code_at hs c.loop-k.k) s.is in
    pass_closed _ c.pass-rows.result _ _ _ (omega (arith, c.loop-k-test.true, s.few)) (omega (arith, code, c.pass-rows.ensures.small)) c.loop-k.invariant (subst (λ n. Tabled c.pass-rows.result (through (entry c.loop-k.rows) c.loop-k.k n)) code c.pass-rows.ensures.told)
