use Rattle.std.proofs.Common.{Ok, Err, sym, ap, ◌∙◌}
use Rattle.std.proofs.lemmas.Result.{err_from_is_err_and}
use Rattle.faults.specs.declared.fault.CostFault.TheVariants.{Unknown, Cycle, TooDear}
use Rattle.reading.specs.Outlines.{Outline}
use Rattle.listing.proofs.Costed.{outlined_as, read_fault, call_told, block_told, cycle_told, dear_told, all_told, both}
use Rattle.listing.proofs.cost.cost.Goals as goal

pub returns-in_err-outline-clause-told : goal.returns-in_err-outline-clause-told
returns-in_err-outline-clause-told c =
    let p = err_from_is_err_and c.from_residual.result c.from_residual.ensures.1 in
    rw (p.1, p.2) (read_fault _ _ c.in_err-outline.ensures.told)

pub returns-in_err-calls : goal.returns-in_err-calls
returns-in_err-calls c =
    let x = outlined_as c.args.bytes.now _ _ c.outline.view_is c.in_ok-outline.ensures.told in
    let p = err_from_is_err_and c.from_residual-in_err-calls.result c.from_residual-in_err-calls.ensures.1 in
    let h = c.in_err-calls.ensures in
    let told = ap Err h.2 ∙ call_told c.args.bytes.now _ x h.0 h.1 in
    let b = both c.args.bytes.now _ x c.in_ok-outline.ensures.accepted (Err c.in_err-calls.field-0.0) told in
    rw (p.1, p.2) (record { told = b.0; cycles = b.1; places = b.2; only = b.3 })

pub returns-in-Some : goal.returns-in-Some
returns-in-Some c =
    let x = outlined_as c.args.bytes.now _ _ c.outline.view_is c.in_ok-outline.ensures.told in
    let b = both c.args.bytes.now _ x c.in_ok-outline.ensures.accepted (Err (Unknown c.in-Some.block.at c.in-Some.block.code)) (block_told c.args.bytes.now _ x c.in_ok-outline.ensures.accepted c.in_ok-calls.calls c.in_ok-calls.ensures c.unlisted-strange.result c.unlisted-strange.ensures (c.in-Some.field-0-0, c.in-Some.block) c.in-Some.ensures) in
    record { told = b.0; cycles = b.1; places = b.2; only = b.3 }

pub returns-in-Some-first_cycle : goal.returns-in-Some-first_cycle
returns-in-Some-first_cycle c =
    let x = outlined_as c.args.bytes.now _ _ c.outline.view_is c.in_ok-outline.ensures.told in
    let b = both c.args.bytes.now _ x c.in_ok-outline.ensures.accepted (Err (Cycle c.in-Some-first_cycle.head.at c.in-Some-first_cycle.head.code)) (cycle_told c.args.bytes.now _ x c.in_ok-outline.ensures.accepted c.in_ok-calls.calls c.in_ok-calls.ensures c.unlisted-strange.result c.unlisted-strange.ensures c.in_default.ensures c.reached-rows.result c.reached-rows.ensures c.in-Some-first_cycle.head c.in-Some-first_cycle.ensures) in
    record { told = b.0; cycles = b.1; places = b.2; only = b.3 }

pub returns-in-Some-first_dear : goal.returns-in-Some-first_dear
returns-in-Some-first_dear c =
    let x = outlined_as c.args.bytes.now _ _ c.outline.view_is c.in_ok-outline.ensures.told in
    let b = both c.args.bytes.now _ x c.in_ok-outline.ensures.accepted (Err (TooDear c.in-Some-first_dear.head.at c.in-Some-first_dear.head.code)) (dear_told c.args.bytes.now _ x c.in_ok-outline.ensures.accepted c.in_ok-calls.calls c.in_ok-calls.ensures c.unlisted-strange.result c.unlisted-strange.ensures c.in_default.ensures c.reached-rows.result c.reached-rows.ensures c.in_default-first_cycle.ensures c.settled-by_code.result c.settled-by_code.ensures c.in-Some-first_dear.head c.in-Some-first_dear.ensures) in
    record { told = b.0; cycles = b.1; places = b.2; only = b.3 }

pub returns : goal.returns
returns c =
    let x = outlined_as c.args.bytes.now _ _ c.outline.view_is c.in_ok-outline.ensures.told in
    let b = both c.args.bytes.now _ x c.in_ok-outline.ensures.accepted (Ok (record { outline = c.in_ok-outline.outline; by_code = c.settled-by_code.result })) (ap (λ (q : Outline). Ok (q.routines, q.tasks, c.settled-by_code.result)) (sym c.outline.view_is) ∙ all_told c.args.bytes.now _ x c.in_ok-outline.ensures.accepted c.in_ok-calls.calls c.in_ok-calls.ensures c.unlisted-strange.result c.unlisted-strange.ensures c.in_default.ensures c.reached-rows.result c.reached-rows.ensures c.in_default-first_cycle.ensures c.settled-by_code.result c.settled-by_code.ensures c.in_default-first_dear.ensures) in
    record { told = b.0; cycles = b.1; places = b.2; only = b.3 }
