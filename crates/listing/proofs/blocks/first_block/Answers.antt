use Rattle.std.proofs.Common.{◌<◌, ◌≤◌, length, sym, ap, ◌∙◌, arith}
use Rattle.commands.specs.declared.table.Context.TheVariants.{BlockDue, AfterBlock}
use Rattle.commands.specs.Commands.{answer, after}
use Rattle.reading.specs.Steps.{block_of, point_of}
use Rattle.listing.proofs.Marked.{walking, no_first, marked, last_one, step_on}
use Rattle.listing.proofs.blocks.first_block.Goals as goal

pub steps-init : goal.steps-init
steps-init c = (c.next.ensures.same, λ b q e. walking _ _ _ _ _ _ c.next.ensures.moved e)

pub returns-in_err-head : goal.returns-in_err-head
returns-in_err-head c b q e =
    rw c.from_residual.ensures (no_first _ _ _ _ (c.steps.invariant.1 b q e) (sym (c.in_err-head.ensures.told ∙ ap (λ x. block_of (answer BlockDue x c.steps.reader.at)) c.steps.invariant.0)))

pub returns-then-has : goal.returns-then-has
returns-then-has c b q e =
    marked _ _ _ _ (c.steps.invariant.1 b q e) _ (sym (c.in_ok-head.ensures.told ∙ ap (λ x. block_of (answer BlockDue x c.steps.reader.at)) c.steps.invariant.0)) (sym c.if-has.ensures)

pub steps-preserved : goal.steps-preserved
steps-preserved c =
    let n = c.in_ok-head.ensures in
    let m = c.in_ok-next_point.ensures in
    let bs = c.steps.invariant.0 in
    let on = n.moved ∙ ap (λ x. after BlockDue x c.steps.reader.at) bs in
    let long = ap length bs in
    let first : (c.in_ok-head.head.code < 256) × (c.steps.reader.at < c.next_block.new.reader.at) × (c.next_block.new.reader.at ≤ length c.steps.reader.bytes.now) = n.forth in
    let second : (c.next_block.new.reader.at < c.next_point.new.reader.at) × (c.next_point.new.reader.at ≤ length c.next_block.new.reader.bytes.now) = m.forth in (
      m.same ∙ n.same ∙ bs,
      λ b q e.
          step_on _ _ _ _ (c.steps.invariant.1 b q e) _ (sym (n.told ∙ ap (λ x. block_of (answer BlockDue x c.steps.reader.at)) bs)) (sym c.if-has.ensures) _ _ (sym (m.told ∙ (λ i. point_of (answer AfterBlock ((n.same ∙ bs) i) (on i)))))
          (m.moved ∙ (λ i. after AfterBlock ((n.same ∙ bs) i) (on i))) (omega arith) (omega arith),
    )

pub returns-in_err-next_point : goal.returns-in_err-next_point
returns-in_err-next_point c b q e =
    let n = c.in_ok-head.ensures in
    let m = c.in_err-next_point.ensures in
    let bs = c.steps.invariant.0 in
    let on = n.moved ∙ ap (λ x. after BlockDue x c.steps.reader.at) bs in
    rw c.from_residual-in_err-next_point.ensures
    (last_one _ _ _ _ (c.steps.invariant.1 b q e) _ (sym (n.told ∙ ap (λ x. block_of (answer BlockDue x c.steps.reader.at)) bs)) (sym c.if-has.ensures) (sym (m.told ∙ (λ i. point_of (answer AfterBlock ((n.same ∙ bs) i) (on i))))))
