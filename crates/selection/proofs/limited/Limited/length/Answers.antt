use Rattle.std.proofs.Common.{◌+◌, arith}
use Rattle.tasks.specs.Tasks.{cost_of_block}
use Rattle.selection.proofs.Law.{rises}
use Rattle.selection.proofs.Runs.{running_small}
use Rattle.selection.proofs.limited.Limited.length.Goals as goal

pub overflow_sub-blocks : goal.overflow_sub-blocks
overflow_sub-blocks c =
    let t = c.args.self.now.task.now in
    let p = c.requires in
    omega (arith, c.args.self.now.running c.args.start (omega (arith, p)), c.args.self.now.running (c.args.end + 1) (omega (arith, p)), rises (cost_of_block t) c.args.start (c.args.end + 1) (omega (arith, p)))

pub overflow_add-result : goal.overflow_add-result
overflow_add-result c =
    let t = c.args.self.now.task.now in
    let p = c.requires in
    omega (arith, c.ticks.ensures, c.index-points-start.result.small.0, c.args.self.now.running (c.args.end + 1) (omega (arith, p)), running_small t (c.args.end + 1) (omega (arith, p)), p, t.count)
