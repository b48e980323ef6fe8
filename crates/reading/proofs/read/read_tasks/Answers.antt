use Rattle.std.proofs.Common.{◌<◌, ◌≤◌, length, Ok, sym, refl, ap, ◌∙◌, arith, rules}
use Rattle.std.proofs.lemmas.Result.{err_from_is_err_and}
use Rattle.commands.specs.declared.table.Context.TheVariants.{Tasks}
use Rattle.commands.specs.Commands.{answer, after}
use Rattle.commands.proofs.Decoded.{stays, read_there, read_as}
use Rattle.reading.proofs.Gathered.{tasking_as, first_task, no_more_tasks, not_a_task, task_fault, task_refused, task_blocks_fault, task_done, blocks_there}
use Rattle.reading.proofs.read.read_tasks.Goals as goal

pub tasks-init : goal.tasks-init
tasks-init c = (refl, tasking_as _ _ _ _ _ (sym c.new-heads.ensures) (first_task _ _))

pub returns-in_err-at-clause-told : goal.returns-in_err-at-clause-told
returns-in_err-at-clause-told c =
    let p = err_from_is_err_and c.from_residual.result c.from_residual.ensures.1 in
    let bs = c.tasks.invariant.0 in
    rw (p.1, p.2) (sym (task_fault _ _ _ _ c.tasks.invariant.1 (sym (c.in_err-at.ensures.told ∙ ap (λ b. answer Tasks b c.tasks.reader.at) bs))))

pub returns-in_default-command-clause-told : goal.returns-in_default-command-clause-told
returns-in_default-command-clause-told c =
    let e = read_there _ _ c.args.reader.now.bytes.now _ _ _ _ c.in_ok-at.ensures.told c.tasks.invariant.0 c.in-Some.is in
    sym (not_a_task _ _ _ _ c.tasks.invariant.1 _ _ e c.in_default-command.not-Task)

pub returns-in_err-admit-clause-told : goal.returns-in_err-admit-clause-told
returns-in_err-admit-clause-told c =
    let p = err_from_is_err_and c.from_residual-in_err-admit.result c.from_residual-in_err-admit.ensures.1 in
    let e = read_as _ _ _ _ _ _ (read_there _ _ c.args.reader.now.bytes.now _ _ _ _ c.in_ok-at.ensures.told c.tasks.invariant.0 c.in-Some.is) c.in-Task.is in
    rw (p.1, p.2) (sym (task_refused _ _ _ _ c.tasks.invariant.1 _ _ _ _ e c.in_err-admit.ensures))

pub returns-in_err-read_blocks-clause-told : goal.returns-in_err-read_blocks-clause-told
returns-in_err-read_blocks-clause-told c =
    let p = err_from_is_err_and c.from_residual-in_err-read_blocks.result c.from_residual-in_err-read_blocks.ensures.1 in
    let n = c.in_ok-at.ensures in
    let bs = c.tasks.invariant.0 in
    let e = read_as _ _ _ _ _ _ (read_there _ _ c.args.reader.now.bytes.now _ _ _ _ n.told bs c.in-Some.is) c.in-Task.is in
    let on = n.moved ∙ ap (λ b. after Tasks b c.tasks.reader.at) bs in
    rw (p.1, p.2) (sym (task_blocks_fault _ _ _ _ c.tasks.invariant.1 _ _ _ _ e c.in_ok-admit.ensures _ (blocks_there _ _ _ _ _ (n.same ∙ bs) on c.in_err-read_blocks.ensures.told)))

pub tasks-preserved : goal.tasks-preserved
tasks-preserved c =
    let n = c.in_ok-at.ensures in
    let bs = c.tasks.invariant.0 in
    let e = read_as _ _ _ _ _ _ (read_there _ _ c.args.reader.now.bytes.now _ _ _ _ n.told bs c.in-Some.is) c.in-Task.is in
    let i = c.in_ok-read_blocks.ensures in
    let on = n.moved ∙ ap (λ b. after Tasks b c.tasks.reader.at) bs in
    let long = ap length bs in
    let forth : (c.tasks.reader.at < c.next.new.self.at) × (c.next.new.self.at ≤ length c.tasks.reader.bytes.now) = search rules in (
      i.same ∙ n.same ∙ bs,
      tasking_as _ _ _ _ _ (sym c.add.ensures) (task_done _ _ _ _ c.tasks.invariant.1 _ _ _ _ e c.in_ok-admit.ensures _ (blocks_there _ _ _ _ _ (n.same ∙ bs) on i.told) (omega (arith, i.forth)) (omega arith)),
    )

pub returns-clause-told : goal.returns-clause-told
returns-clause-told c =
    let n = c.in_ok-at.ensures in
    let bs = c.tasks.invariant.0 in
    let e = sym (n.told ∙ ap (λ b. answer Tasks b c.tasks.reader.at) bs) ∙ ap Ok c.in_default.is in
    let on = n.moved ∙ ap (λ b. after Tasks b c.tasks.reader.at) bs ∙ stays _ _ _ e in
    ap (λ p. Ok (c.tasks.heads, p)) on ∙ sym (no_more_tasks _ _ _ _ c.tasks.invariant.1 e)
