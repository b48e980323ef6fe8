use Rattle.std.proofs.Common.{◌≡◌, ℕ, suc, ◌+◌, ◌<◌, ◌≤◌, List, length, get_or, vec_items, ap, ap₂, arith}
use Rattle.tasks.specs.declared.blocks.Block.{Block}
use Rattle.tasks.specs.declared.model.Task.{Task}
use Rattle.tasks.specs.Tasks.{cost_of_block, point_count}
use Rattle.selection.specs.Running.{cost_before}
use Rattle.selection.proofs.Runs.{running_small}
use Rattle.selection.proofs.lengths.running_costs.Goals as goal

-- the block that a turn adds
module _ (t : Task) (i : ℕ) (costs : List ℕ) (blocks : List Block) (are : blocks ≡ vec_items t.blocks) (lt : i < length blocks) where
  inside : i ≤ point_count t
  inside = omega (arith, ap length are, t.blocks.ok.0, t.count)

  added : get_or costs i 0 ≡ cost_before (cost_of_block t) i → get_or costs i 0 + (get_or blocks i (record { cost = 0 })).cost ≡ cost_before (cost_of_block t) (suc i)
  added e = ap₂ ◌+◌ e (ap (λ (bs : List Block). (get_or bs i (record { cost = 0 })).cost) are)

pub overflow_add-costs : goal.overflow_add-costs
overflow_add-costs c =
    let t = c.args.task.now in
    let l = c.loop-i in
    let in' = inside t l.i l.costs c.blocks-block-items.result.now c.blocks-block-items.ensures c.loop-i-test.true in
    let more = added t l.i l.costs c.blocks-block-items.result.now c.blocks-block-items.ensures c.loop-i-test.true (l.invariant.1 l.i (omega arith)) in
    omega (arith, running_small t (suc l.i) (omega arith), t.count)
