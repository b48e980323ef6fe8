use Rattle.std.proofs.Common.{sym, refl, ◌∙◌}
use Rattle.listing.proofs.MarkedTasks.{block_found, block_none}
use Rattle.listing.proofs.blocks.marked_block.Goals as goal

pub returns-in-Some : goal.returns-in-Some
returns-in-Some c ts e all =
    sym (block_found c.args.bytes.now ts _ (c.as_slice-task-items.ensures.is ∙ e) all c.loop-task.task-index c.loop-task-test.true _ refl c.args.marks.now _ c.in-Some.ensures _ refl) ∙ c.loop-task.invariant ts e all

pub loop-task-preserved : goal.loop-task-preserved
loop-task-preserved c ts e all =
    block_none c.args.bytes.now ts _ (c.as_slice-task-items.ensures.is ∙ e) all c.loop-task.task-index c.loop-task-test.true _ refl c.args.marks.now _ c.in_default.ensures refl ∙ c.loop-task.invariant ts e all
