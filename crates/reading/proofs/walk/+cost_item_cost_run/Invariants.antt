use Rattle.std.proofs.Common.{◌≡◌, ◌+◌, ◌-◌, ◌*◌, ◌≤◌, length}
use Rattle.commands.specs.declared.table.Command.TheVariants.{Either}
use Rattle.reading.specs.Runs.{run_at, cost_of_code}
use Rattle.reading.proofs.Turns.{Going, Arming, item_at}
use Rattle.reading.proofs.walk.+cost_item_cost_run.Given as goal

abbrev pub decreases-cost_item : goal.decreases-cost_item
decreases-cost_item l = 2 * l.depth + 1

abbrev pub decreases-cost_run : goal.decreases-cost_run
decreases-cost_run l = 2 * l.depth

abbrev pub invariant-cost_run-items : goal.invariant-cost_run-items
invariant-cost_run-items l = (l.reader.bytes.now ≡ l.initial.reader.bytes.now) × (l.initial.reader.at ≤ l.reader.at) × (l.total ≤ 1000001) × Going (cost_of_code l.costs) (l.depth - 1) l.initial.reader.bytes.now l.total l.reader.at (run_at l.depth l.initial.reader.bytes.now l.opener l.initial.reader.at)

abbrev pub decreases-cost_run-items : goal.decreases-cost_run-items
decreases-cost_run-items l = length l.reader.bytes.now - l.reader.at

abbrev pub invariant-cost_item-arms : goal.invariant-cost_item-arms
invariant-cost_item-arms l = (l.reader.bytes.now ≡ l.initial.reader.bytes.now) × (l.initial.reader.at ≤ l.reader.at) × (l.best ≤ 1000001) × Arming (cost_of_code l.costs) l.depth l.initial.reader.bytes.now l.at l.best l.reader.at (item_at l.depth l.initial.reader.bytes.now l.at Either l.initial.reader.at)

abbrev pub decreases-cost_item-arms : goal.decreases-cost_item-arms
decreases-cost_item-arms l = length l.reader.bytes.now - l.reader.at
