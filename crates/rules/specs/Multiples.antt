-- The order of the multiples: by moment, then by task.
use Rattle.std.specs.Prelude.{◌≡◌, Bool, true, false, cond, nat_lt}
use Rattle.std.proofs.Common.{rules}
use Rattle.heap.specs.Orders.{before_by}
use Rattle.rules.specs.contracts.multiple.MultipleOrd.TheImpl as ord
use Rattle.rules.specs.declared.multiple.Multiple.{Multiple}

abbrev pub sooner : Multiple → Multiple → Bool
sooner a b = cond (nat_lt a.at b.at) true (cond (nat_lt b.at a.at) false (nat_lt a.task b.task))

-- of two multiples at most one is sooner
pub sooner_asym : (x y : Multiple) → sooner x y ≡ true → sooner y x ≡ false
sooner_asym x y = search rules

-- "is not sooner" goes on
pub sooner_chain : (x y z : Multiple) → sooner x y ≡ false → sooner y z ≡ false → sooner x z ≡ false
sooner_chain x y z = search rules

-- the derived order is that one
pub sooner_is : (x y : Multiple) → before_by ord.ghosts.cmp x y ≡ sooner x y
sooner_is x y = search rules
