use Rattle.std.proofs.Common.{◌≤◌, ap, length, arith, rules}
use borrow.Author.Tests.{tests}
use Rattle.std.proofs.lemmas.Iterator.{YieldsList-from_slice, YieldsList-from_zip}
use Rattle.std.proofs.lemmas.Iterator.Search.{find_from_yields_List}
use Rattle.listing.proofs.Tables.{reaches_itself, first_cycle_is}
use Rattle.listing.proofs.cost.first_cycle.Goals as goal

pub returns : goal.returns
returns c =
    let few : length c.args.routines.now ≤ length c.args.rows.now = omega (arith, ap length c.as_slice.ensures.is, c.as_slice.ensures.few, c.told-rows) in
    first_cycle_is c.args.rows.now _ c.args.routines.now few c.find.result c.map.result
    (find_from_yields_List reaches_itself c.find.new.self _ c.find.result c.find.ensures.ran (YieldsList-from_zip (YieldsList-from_slice c.args.routines.now cc) (YieldsList-from_slice c.args.rows.now cc)) (λ x b q k. search (rules, tests))) c.map.ensures.cases (λ x h k. search rules)
