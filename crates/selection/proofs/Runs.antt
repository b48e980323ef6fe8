-- Running costs of a task's blocks.
use Rattle.std.proofs.Common.{ℕ, zero, suc, ◌+◌, ◌*◌, ◌≤◌, arith}
use Rattle.tasks.specs.declared.model.Task.{Task}
use Rattle.tasks.specs.Tasks.{point_count, cost_of_block}
use Rattle.tasks.proofs.Fits.{cost_fits_lem}
use Rattle.selection.specs.Running.{cost_before}

pub running_small : (t : Task) (k : ℕ) → k ≤ point_count t + 1 → cost_before (cost_of_block t) k ≤ k * 1000000
running_small t zero h = omega arith
running_small t (suc k) h = omega (arith, running_small t k (omega arith), cost_fits_lem t k (omega arith))
