use Rattle.std.proofs.Common.{◌<◌, ◌≤◌, length, Ok, sym, refl, ap, ◌∙◌, arith, rules}
use Rattle.std.proofs.lemmas.Result.{err_from_is_err_and}
use Rattle.commands.specs.declared.table.Context.TheVariants.{Top}
use Rattle.commands.specs.Commands.{answer, after}
use Rattle.commands.proofs.Decoded.{stays, here, read_there, read_as}
use Rattle.reading.proofs.Turns.{told_there}
use Rattle.reading.proofs.Gathered.{gathered_as, first_routine, no_more, past_routines, routine_fault, routine_refused, body_fault, body_open, body_closed}
use Rattle.reading.proofs.read.read_routines.Goals as goal

pub routines-init : goal.routines-init
routines-init c = (refl, gathered_as _ _ _ _ _ (sym c.new-heads.ensures) (first_routine _ _))

pub returns-in_err-at-clause-told : goal.returns-in_err-at-clause-told
returns-in_err-at-clause-told c =
    let p = err_from_is_err_and c.from_residual.result c.from_residual.ensures.1 in
    let bs = c.routines.invariant.0 in
    rw (p.1, p.2) (sym (routine_fault _ _ _ _ c.routines.invariant.1 (sym (c.in_err-at.ensures.told ∙ ap (λ b. answer Top b c.routines.reader.at) bs))))

pub returns-in_default-command-clause-told : goal.returns-in_default-command-clause-told
returns-in_default-command-clause-told c =
    let e = read_there _ _ c.args.reader.now.bytes.now _ _ _ _ c.in_ok-at.ensures.told c.routines.invariant.0 c.in-Some.is in
    ap (λ p. Ok (c.routines.heads, p)) (here _ _ _ _ _ e) ∙ sym (past_routines _ _ _ _ c.routines.invariant.1 _ _ e c.in_default-command.not-Routine)

pub returns-in_err-admit-clause-told : goal.returns-in_err-admit-clause-told
returns-in_err-admit-clause-told c =
    let p = err_from_is_err_and c.from_residual-in_err-admit.result c.from_residual-in_err-admit.ensures.1 in
    let e = read_as _ _ _ _ _ _ (read_there _ _ c.args.reader.now.bytes.now _ _ _ _ c.in_ok-at.ensures.told c.routines.invariant.0 c.in-Some.is) c.in-Routine.is in
    rw (p.1, p.2) (sym (routine_refused _ _ _ _ c.routines.invariant.1 _ _ e c.in_err-admit.ensures))

pub returns-in_err-ran-clause-told : goal.returns-in_err-ran-clause-told
returns-in_err-ran-clause-told c =
    let p = err_from_is_err_and c.from_residual-in_err-ran.result c.from_residual-in_err-ran.ensures.1 in
    let n = c.in_ok-at.ensures in
    let bs = c.routines.invariant.0 in
    let e = read_as _ _ _ _ _ _ (read_there _ _ c.args.reader.now.bytes.now _ _ _ _ n.told bs c.in-Some.is) c.in-Routine.is in
    let on = n.moved ∙ ap (λ b. after Top b c.routines.reader.at) bs in
    rw (p.1, p.2) (sym (body_fault _ _ _ _ c.routines.invariant.1 _ _ e c.in_ok-admit.ensures _ _ _ (told_there _ _ _ _ _ _ _ _ _ (n.same ∙ bs) on c.in_err-ran.ensures.told)))

pub returns-in_default-last-clause-told : goal.returns-in_default-last-clause-told
returns-in_default-last-clause-told c =
    let n = c.in_ok-at.ensures in
    let bs = c.routines.invariant.0 in
    let e = read_as _ _ _ _ _ _ (read_there _ _ c.args.reader.now.bytes.now _ _ _ _ n.told bs c.in-Some.is) c.in-Routine.is in
    let on = n.moved ∙ ap (λ b. after Top b c.routines.reader.at) bs in
    sym (body_open _ _ _ _ c.routines.invariant.1 _ _ e c.in_ok-admit.ensures _ _ _ (told_there _ _ _ _ _ _ _ _ _ (n.same ∙ bs) on c.in_ok-ran.ensures.told) c.in_default-last.not-EndRoutine)

pub routines-preserved : goal.routines-preserved
routines-preserved c =
    let n = c.in_ok-at.ensures in
    let bs = c.routines.invariant.0 in
    let e = read_as _ _ _ _ _ _ (read_there _ _ c.args.reader.now.bytes.now _ _ _ _ n.told bs c.in-Some.is) c.in-Routine.is in
    let i = c.in_ok-ran.ensures in
    let on = n.moved ∙ ap (λ b. after Top b c.routines.reader.at) bs in
    let long = ap length bs in
    let forth : (c.routines.reader.at < c.next.new.self.at) × (c.next.new.self.at ≤ length c.routines.reader.bytes.now) = search rules in (
      i.same ∙ n.same ∙ bs,
      gathered_as _ _ _ _ _ (sym c.add.ensures) (body_closed _ _ _ _ c.routines.invariant.1 _ _ e c.in_ok-admit.ensures _ _ _ (told_there _ _ _ _ _ _ _ _ _ (n.same ∙ bs) on i.told) c.in-EndRoutine.is (omega (arith, i.within)) (omega arith)),
    )

pub returns-clause-told : goal.returns-clause-told
returns-clause-told c =
    let n = c.in_ok-at.ensures in
    let bs = c.routines.invariant.0 in
    let e = sym (n.told ∙ ap (λ b. answer Top b c.routines.reader.at) bs) ∙ ap Ok c.in_default.is in
    let on = n.moved ∙ ap (λ b. after Top b c.routines.reader.at) bs ∙ stays _ _ _ e in
    ap (λ p. Ok (c.routines.heads, p)) on ∙ sym (no_more _ _ _ _ c.routines.invariant.1 e)
