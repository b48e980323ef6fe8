use Rattle.std.proofs.lemmas.Result.{err_from_is_err_and}
use Rattle.listing.proofs.Finished.{costed_as, cost_fault, free_told, free_place, no_place, only_loaded, tasks_read, tasks_priced, finish}
use Rattle.listing.proofs.load.load.Goals as goal

pub returns-in_err-outline-clause-told : goal.returns-in_err-outline-clause-told
returns-in_err-outline-clause-told c =
    let p = err_from_is_err_and c.from_residual.result c.from_residual.ensures.1 in
    rw (p.1, p.2) (cost_fault _ _ c.in_err-outline.ensures.told)

pub returns-in-Some : goal.returns-in-Some
returns-in-Some c =
    let x = costed_as c.args.bytes.now _ _ _ c.outline.view_is _ c.outline-2.view_is c.in_ok-outline.ensures.told in
    record {
      told = free_told c.args.bytes.now _ x c.free_codes-free.result c.free_codes-free.ensures (c.in-Some.task, c.in-Some.block) c.in-Some.ensures;
      places = free_place c.args.bytes.now _ x c.free_codes-free.result c.free_codes-free.ensures (c.in-Some.task, c.in-Some.block) c.in-Some.ensures;
      only = tt;
    }

pub returns : goal.returns
returns c =
    let x = costed_as c.args.bytes.now _ _ _ c.outline.view_is _ c.outline-2.view_is c.in_ok-outline.ensures.told in
    let t = c.tasks.ensures x.it.tasks x.tasks_are (tasks_read c.args.bytes.now _ x) (tasks_priced c.args.bytes.now _ x c.free_codes-free.result c.free_codes-free.ensures c.in_default.ensures) in
    record {
      told = finish c.args.bytes.now _ x c.free_codes-free.result c.free_codes-free.ensures c.in_default.ensures c.tasks.result (λ i. (c.type_inv.bytes i).fits) c.in_ok-outline.ensures.cycles t;
      places = no_place c.args.bytes.now _ _ c.tasks.result t;
      only = only_loaded c.args.bytes.now c.in_ok-outline.field-0 c.in_ok-outline.ensures.cycles c.in_ok-outline.ensures.only c.tasks.result;
    }
