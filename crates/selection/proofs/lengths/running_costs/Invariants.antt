use Rattle.std.proofs.Common.{◌≡◌, ℕ, ◌≤◌, length, get_or}
use Rattle.tasks.specs.Tasks.{cost_of_block}
use Rattle.selection.specs.Running.{cost_before}
use Rattle.selection.proofs.lengths.running_costs.Given as goal

abbrev pub invariant-loop-i : goal.invariant-loop-i
invariant-loop-i l = (length l.costs ≡ 65) × ((k : ℕ) → k ≤ l.i → get_or l.costs k 0 ≡ cost_before (cost_of_block l.task) k)
