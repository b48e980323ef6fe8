use Rattle.std.proofs.Common.{◌∙◌}
use Rattle.std.proofs.lemmas.Result.{err_from_is_err_and}
use Rattle.reading.proofs.Gathered.{too_long, routines_fault, tasks_fault, all_read}
use Rattle.faults.specs.declared.fault.ReadFault.TheVariants.{TooLong}
use Rattle.reading.proofs.Fitted.{accepts_tree, refuses_none}
use Rattle.reading.proofs.read.read.Goals as goal

pub returns-then-bytes-gt-LONGEST : goal.returns-then-bytes-gt-LONGEST
returns-then-bytes-gt-LONGEST c = let e = too_long c.args.bytes.now c.if-bytes-gt-LONGEST.true in record { told = e; accepted = refuses_none c.args.bytes.now TooLong e }

pub returns-in_err-routines : goal.returns-in_err-routines
returns-in_err-routines c =
    let p = err_from_is_err_and c.from_residual.result c.from_residual.ensures.1 in
    let e = routines_fault c.args.bytes.now _ _ c.if-bytes-gt-LONGEST.false c.new-reader.ensures.0 c.new-reader.ensures.1 c.in_err-routines.field-0.0 c.in_err-routines.ensures.told in
    rw (p.1, p.2) (record { told = e; accepted = refuses_none c.args.bytes.now c.in_err-routines.field-0.0 e })

pub returns-in_err-tasks : goal.returns-in_err-tasks
returns-in_err-tasks c =
    let p = err_from_is_err_and c.from_residual-in_err-tasks.result c.from_residual-in_err-tasks.ensures.1 in
    let r = c.in_ok-routines.ensures in
    let e = tasks_fault c.args.bytes.now _ _ c.if-bytes-gt-LONGEST.false c.new-reader.ensures.0 c.new-reader.ensures.1 _ _ r.told _ (r.same ∙ c.new-reader.ensures.0) c.in_err-tasks.field-0.0 c.in_err-tasks.ensures.told in
    rw (p.1, p.2) (record { told = e; accepted = refuses_none c.args.bytes.now c.in_err-tasks.field-0.0 e })

pub returns : goal.returns
returns c =
    let r = c.in_ok-routines.ensures in
    let e = all_read _ _ _ c.if-bytes-gt-LONGEST.false c.new-reader.ensures.0 c.new-reader.ensures.1 _ _ r.told _ (r.same ∙ c.new-reader.ensures.0) _ _ c.in_ok-tasks.ensures.told in
    record { told = e; accepted = accepts_tree c.args.bytes.now (λ i. (c.type_inv.bytes i).fits) (record { routines = c.in_ok-routines.routines; tasks = c.in_ok-tasks.tasks }) e }
