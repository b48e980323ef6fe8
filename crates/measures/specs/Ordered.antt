-- The orders that are derived for the values are the named ones, as functions.
use Rattle.std.specs.Prelude.{◌≡◌}
use Rattle.std.proofs.Common.{rules}
use Rattle.heap.specs.Orders.{before_by}
use Rattle.measures.specs.contracts.values.TicksOrd.TheImpl as ticks_ord
use Rattle.measures.specs.contracts.values.TicksChargeOrd.TheImpl as ticks_charge_ord
use Rattle.measures.specs.Weights.{fewer_ticks, fewer_ticks_charge}

-- that of `Ticks`
pub fewer_ticks_is : before_by ticks_ord.ghosts.cmp ≡ fewer_ticks
fewer_ticks_is = search rules

-- that of `TicksCharge`
pub fewer_ticks_charge_is : before_by ticks_charge_ord.ghosts.cmp ≡ fewer_ticks_charge
fewer_ticks_charge_is = search rules
