use Rattle.std.proofs.Common.{◌≡◌, ◌<◌, ◌≤◌, [], ◌∷◌, ◌++◌, length, get_or, vec_items, sym, refl, ap, ◌∙◌, subst, arith, le-leb}
use borrow.Author.Tests.{both_ways}
use Rattle.std.proofs.lemmas.Result.{IfOk-at_ok}
use Rattle.faults.specs.declared.fault.LoadFault.{LoadFault}
use Rattle.tasks.specs.declared.blocks.Block.{Block}
use Rattle.commands.specs.declared.table.Context.TheVariants.{BlockDue, AfterBlock}
use Rattle.commands.specs.Commands.{answer, after}
use Rattle.listing.specs.Loading.{Made}
use Rattle.reading.specs.Runs.{cost_of_code}
use Rattle.reading.specs.Steps.{block_of, point_of}
use Rattle.listing.proofs.Built.{Building, building, no_block, last_block, one_more, ticks_fit}
use Rattle.listing.proofs.Still.{still_ok}
use Rattle.listing.proofs.load.Loader.parts.Goals as goal

pub steps-init : goal.steps-init
steps-init c = (refl, λ b q e p. building _ _ b q _ _ _ c.new-records.ensures.items c.new-points.ensures.items e p)

pub returns-in_err-head : goal.returns-in_err-head
returns-in_err-head c b q e p =
    no_block _ _ _ _ _ _ (c.steps.invariant.1 b q e p) (sym (sym c.in_err-head.ensures.ok_part ∙ c.next_block.ensures.told ∙ ap (λ x. block_of (answer BlockDue x c.steps.reader.at)) c.steps.invariant.0))

pub returns-in_default : goal.returns-in_default
returns-in_default c b q e p =
    let n = c.next_block.ensures in
    let bs = c.steps.invariant.0 in
    let on = n.moved ∙ ap (λ x. after BlockDue x c.steps.reader.at) bs in
    let is = sym (sym c.in_ok-head.ensures.ok_part ∙ n.told ∙ ap (λ x. block_of (answer BlockDue x c.steps.reader.at)) bs) in
    let then = sym (c.in_default.ensures.told ∙ (λ i. point_of (answer AfterBlock ((n.same ∙ bs) i) (on i)))) in
    subst (λ l. Made (cost_of_code c.args.self.now.costs.now) b l (vec_items c.steps.points)) (sym c.in_ok-push.ensures.items)
    (last_block _ _ _ _ _ _ (c.steps.invariant.1 b q e p) c.in_ok-head.head is (record { cost = get_or c.args.self.now.costs.now c.from.result 0 }) (ap (λ k. get_or c.args.self.now.costs.now k 0) c.from.ensures) then)

pub returns-in_err-point : goal.returns-in_err-point
returns-in_err-point c b q e p =
    let n = c.next_block.ensures in
    let m = c.in-Some.ensures in
    let bs = c.steps.invariant.0 in
    let on = n.moved ∙ ap (λ x. after BlockDue x c.steps.reader.at) bs in
    let then = sym (m.told ∙ (λ i. point_of (answer AfterBlock ((n.same ∙ bs) i) (on i)))) in
    let fits = le-leb _ _ (ticks_fit c.args.self.now.bytes.now _ _ _ then) in
    absurd (both_ways _ (sym (c.in_err-point.ensures.variant ∙ c.new.ensures.test)) fits)

pub steps-preserved : goal.steps-preserved
steps-preserved c =
    let n = c.next_block.ensures in
    let m = c.in-Some.ensures in
    let bs = c.steps.invariant.0 in
    let on = n.moved ∙ ap (λ x. after BlockDue x c.steps.reader.at) bs in
    let is = sym (sym c.in_ok-head.ensures.ok_part ∙ n.told ∙ ap (λ x. block_of (answer BlockDue x c.steps.reader.at)) bs) in
    let then = sym (m.told ∙ (λ i. point_of (answer AfterBlock ((n.same ∙ bs) i) (on i)))) in
    let long = ap length bs in
    let first : (c.in_ok-head.head.code < 256) × (c.steps.reader.at < c.next_block.new.reader.at) × (c.next_block.new.reader.at ≤ length c.steps.reader.bytes.now) = rw c.in_ok-head.ensures.ok_part at n.forth in
    let second : (c.next_block.new.reader.at < c.next_point.new.reader.at) × (c.next_point.new.reader.at ≤ length c.next_block.new.reader.bytes.now) = m.forth in
    let of = cost_of_code c.args.self.now.costs.now in
    let bs-now = c.args.self.now.bytes.now in
    let block : Block = record { cost = get_or c.args.self.now.costs.now c.from.result 0 } in
    let made : (c.in_ok-point.point.ticks ≡ c.in-Some.ticks) × (c.in_ok-point.point.charge ≡ c.in-Some.charge) = IfOk-at_ok _ (still_ok LoadFault _ _ c.in_ok-point.ensures.cases) c.new.ensures.made in (
      m.same ∙ n.same ∙ bs,
      λ b q e p.
          subst (λ l. Building bs-now of b l (vec_items c.push-in-steps.new.self) c.next_point.new.reader.at) (sym c.in_ok-push.ensures.items)
          (subst (λ l. Building bs-now of b (vec_items c.steps.records ++ block ∷ []) l c.next_point.new.reader.at) (sym c.in_ok-push-2.ensures.items)
          (one_more _ _ _ _ _ _ (c.steps.invariant.1 b q e p) c.in_ok-head.head is block (ap (λ k. get_or c.args.self.now.costs.now k 0) c.from.ensures) c.in-Some.ticks c.in-Some.charge c.in_ok-point.point c.next_point.new.reader.at then made.0 made.1
          (m.moved ∙ (λ i. after AfterBlock ((n.same ∙ bs) i) (on i))) (omega arith) (omega arith))),
    )
