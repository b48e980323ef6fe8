use Rattle.std.proofs.Common.{◌<◌, ◌≤◌, length, Ok, Err, sym, refl, ap, ◌∙◌, arith, rules}
use Rattle.std.proofs.lemmas.Result.{err_from_is_err_and}
use Rattle.commands.specs.declared.table.Context.TheVariants.{Body}
use Rattle.faults.specs.declared.fault.ReadFault.TheVariants.{Open}
use Rattle.commands.specs.Commands.{answer, after}
use Rattle.commands.proofs.Decoded.{read_there}
use Rattle.reading.proofs.Turns.{run_err, item_err, told_there, item_there, item_by, start, at_open, at_fault, at_end, at_item_fault, at_item, too_deep, first_arm, arm_fault, arm_last, arm_none, arm_next, turns_last}
use Rattle.reading.proofs.walk.+cost_item_cost_run.Goals as goal

pub cost_run-returns-then-depth-eq0-clause-told : goal.cost_run-returns-then-depth-eq0-clause-told
cost_run-returns-then-depth-eq0-clause-told t c = too_deep _ _ _ _ _ _ c.if-depth-eq0.true

pub cost_run-items-init : goal.cost_run-items-init
cost_run-items-init t c = (refl, omega arith, omega arith, start _ _ _ _ _ (omega arith))

pub cost_run-returns-in_err-at-clause-told : goal.cost_run-returns-in_err-at-clause-told
cost_run-returns-in_err-at-clause-told t c =
    let p = err_from_is_err_and c.from_residual.result c.from_residual.ensures.1 in
    let n = c.in_err-at.ensures in
    let bs = c.items.invariant.0 in
    rw (p.1, p.2) (run_err _ _ _ _ (at_fault _ _ _ _ _ _ c.items.invariant.3 (sym (n.told ∙ ap (λ b. answer Body b c.items.reader.at) bs))))

pub cost_run-returns-in_default-clause-told : goal.cost_run-returns-in_default-clause-told
cost_run-returns-in_default-clause-told t c =
    let n = c.in_ok-at.ensures in
    let bs = c.items.invariant.0 in
    run_err _ _ _ _ (at_open _ _ _ _ _ _ c.items.invariant.3 (sym (n.told ∙ ap (λ b. answer Body b c.items.reader.at) bs) ∙ ap Ok c.in_default.is) ∙ ap (λ b. Err (Open (length b))) (sym (n.same ∙ bs)))

pub cost_run-returns-then-ends_run-clause-told : goal.cost_run-returns-then-ends_run-clause-told
cost_run-returns-then-ends_run-clause-told t c =
    let n = c.in_ok-at.ensures in
    let bs = c.items.invariant.0 in
    let e = read_there _ _ c.args.reader.now.bytes.now _ _ _ _ n.told bs c.in-Some.is in
    at_end _ _ _ _ _ _ c.items.invariant.3 _ _ e (sym c.if-ends_run.ensures) _ (n.moved ∙ ap (λ b. after Body b c.items.reader.at) bs)

pub cost_run-returns-in_err-cost-clause-told : goal.cost_run-returns-in_err-cost-clause-told
cost_run-returns-in_err-cost-clause-told t c =
    let p = err_from_is_err_and c.from_residual-in_err-cost.result c.from_residual-in_err-cost.ensures.1 in
    let n = c.in_ok-at.ensures in
    let i = c.in_err-cost.ensures in
    let bs = c.items.invariant.0 in
    let e = read_there _ _ c.args.reader.now.bytes.now _ _ _ _ n.told bs c.in-Some.is in
    let on = n.moved ∙ ap (λ b. after Body b c.items.reader.at) bs in
    rw (p.1, p.2) (run_err _ _ _ _ (at_item_fault _ _ _ _ _ _ c.items.invariant.3 _ _ e (sym c.if-ends_run.ensures) _ _ (item_there _ _ _ _ _ _ _ _ _ _ (n.same ∙ bs) on i.told)))

pub cost_run-items-preserved : goal.cost_run-items-preserved
cost_run-items-preserved t c =
    let n = c.in_ok-at.ensures in
    let i = c.in_ok-cost.ensures in
    let bs = c.items.invariant.0 in
    let e = read_there _ _ c.args.reader.now.bytes.now _ _ _ _ n.told bs c.in-Some.is in
    let on = n.moved ∙ ap (λ b. after Body b c.items.reader.at) bs in
    let long = ap length bs in
    let forth : (c.items.reader.at < c.next.new.self.at) × (c.next.new.self.at ≤ length c.items.reader.bytes.now) = search rules in (
      i.same ∙ n.same ∙ bs,
      omega (arith, i.within, c.items.invariant.1),
      omega (arith, c.added-total.ensures),
      rw c.added-total.ensures
          (at_item _ _ _ _ _ _ c.items.invariant.3 _ _ e (sym c.if-ends_run.ensures) _ _ (item_there _ _ _ _ _ _ _ _ _ _ (n.same ∙ bs) on i.told) (omega (arith, i.within)) (omega arith)),
    )

pub cost_item-arms-init : goal.cost_item-arms-init
cost_item-arms-init t c = (refl, omega arith, omega arith, first_arm _ _ _ _ _)

pub cost_item-returns-in_err-ran-in-Either-clause-told : goal.cost_item-returns-in_err-ran-in-Either-clause-told
cost_item-returns-in_err-ran-in-Either-clause-told t c =
    let p = err_from_is_err_and c.from_residual-in_err-ran-in-Either.result c.from_residual-in_err-ran-in-Either.ensures.1 in
    let n = c.in_err-ran-in-Either.ensures in
    let bs = c.arms.invariant.0 in
    rw (p.1, p.2) (item_by _ _ _ _ _ _ _ _ _ c.in-Either.is (item_err _ _ _ _ (arm_fault _ _ _ _ _ _ _ c.arms.invariant.3 _ _ (told_there _ _ _ _ _ _ _ _ _ bs refl n.told))))

pub cost_item-arms-preserved : goal.cost_item-arms-preserved
cost_item-arms-preserved t c =
    let n = c.in_ok-ran-in-Either.ensures in
    let bs = c.arms.invariant.0 in
    let long = ap length bs in (
      n.same ∙ bs,
      omega (arith, n.within, c.arms.invariant.1),
      omega (arith, n.within, c.max-best.ensures, c.arms.invariant.2),
      rw c.max-best.ensures (arm_next _ _ _ _ _ _ _ c.arms.invariant.3 _ _ (told_there _ _ _ _ _ _ _ _ _ bs refl n.told) c.in-Or.is n.within.1 (omega (arith, n.within))),
    )

pub cost_item-returns-in-EndEither-clause-told : goal.cost_item-returns-in-EndEither-clause-told
cost_item-returns-in-EndEither-clause-told t c =
    let n = c.in_ok-ran-in-Either.ensures in
    let bs = c.arms.invariant.0 in
    item_by _ _ _ _ _ _ _ _ _ c.in-Either.is (rw c.max-best.ensures (arm_last _ _ _ _ _ _ _ c.arms.invariant.3 _ _ (told_there _ _ _ _ _ _ _ _ _ bs refl n.told) c.in-EndEither.is))

pub cost_item-returns-in_default-last-2-clause-told : goal.cost_item-returns-in_default-last-2-clause-told
cost_item-returns-in_default-last-2-clause-told t c =
    let n = c.in_ok-ran-in-Either.ensures in
    let bs = c.arms.invariant.0 in
    item_by _ _ _ _ _ _ _ _ _ c.in-Either.is (item_err _ _ _ _ (arm_none _ _ _ _ _ _ _ c.arms.invariant.3 _ _ (told_there _ _ _ _ _ _ _ _ _ bs refl n.told) c.in_default-last-2.not-Or c.in_default-last-2.not-EndEither))

pub cost_item-returns-in-EndRepeat-clause-told : goal.cost_item-returns-in-EndRepeat-clause-told
cost_item-returns-in-EndRepeat-clause-told t c =
    turns_last _ _ _ _ _ _ _ c.in-Repeat.is _ _ c.in_ok-ran-in-Repeat.ensures.told _ c.in-EndRepeat.is (rw (c.from-in-EndRepeat.ensures, c.from-in-EndRepeat-2.ensures) at c.capped-in-EndRepeat.ensures)
