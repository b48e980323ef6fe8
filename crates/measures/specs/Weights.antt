-- The two measures: the value of no points, a value with one point more, and the order, as a test whether v is less than w.
use Rattle.std.specs.Prelude.{◌≡◌, ◌+◌, Bool, true, false, cond, nat_lt}
use Rattle.heap.specs.Orders.{nat_lt_asym, nat_lt_chain, lexical_asym, lexical_chain}
use Rattle.tasks.specs.declared.points.Point.{Point}
use Rattle.measures.specs.declared.values.Ticks.{Ticks}
use Rattle.measures.specs.declared.values.TicksCharge.{TicksCharge}

-- ---- ticks alone

abbrev pub no_ticks : Ticks
no_ticks = record { ticks = 0 }

abbrev pub join_ticks : Ticks → Point → Ticks
join_ticks v p = record { ticks = v.ticks + p.ticks }

abbrev pub fewer_ticks : Ticks → Ticks → Bool
fewer_ticks v w = nat_lt v.ticks w.ticks

-- of two values at most one is less
pub fewer_ticks_asym : (v w : Ticks) → fewer_ticks v w ≡ true → fewer_ticks w v ≡ false
fewer_ticks_asym v w = nat_lt_asym v.ticks w.ticks

-- "is not less" goes on
pub fewer_ticks_chain : (u v w : Ticks) → fewer_ticks u v ≡ false → fewer_ticks v w ≡ false → fewer_ticks u w ≡ false
fewer_ticks_chain u v w = nat_lt_chain u.ticks v.ticks w.ticks

-- ---- ticks, then charge

abbrev pub no_ticks_charge : TicksCharge
no_ticks_charge = record { ticks = 0; charge = 0 }

abbrev pub join_ticks_charge : TicksCharge → Point → TicksCharge
join_ticks_charge v p = record { ticks = v.ticks + p.ticks; charge = v.charge + p.charge }

abbrev pub fewer_ticks_charge : TicksCharge → TicksCharge → Bool
fewer_ticks_charge v w = cond (nat_lt v.ticks w.ticks) true (cond (nat_lt w.ticks v.ticks) false (nat_lt v.charge w.charge))

-- of two values at most one is less
pub fewer_ticks_charge_asym : (v w : TicksCharge) → fewer_ticks_charge v w ≡ true → fewer_ticks_charge w v ≡ false
fewer_ticks_charge_asym v w = lexical_asym nat_lt nat_lt nat_lt_asym nat_lt_asym (v.ticks, v.charge) (w.ticks, w.charge)

-- "is not less" goes on
pub fewer_ticks_charge_chain : (u v w : TicksCharge) → fewer_ticks_charge u v ≡ false → fewer_ticks_charge v w ≡ false → fewer_ticks_charge u w ≡ false
fewer_ticks_charge_chain u v w = lexical_chain nat_lt nat_lt nat_lt_asym nat_lt_chain nat_lt_chain (u.ticks, u.charge) (v.ticks, v.charge) (w.ticks, w.charge)
