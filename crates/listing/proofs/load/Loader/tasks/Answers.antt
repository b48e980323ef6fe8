use Rattle.std.proofs.Common.{◌+◌, take, vec_items, sym, refl, ◌∙◌, subst}
use Rattle.std.proofs.lemmas.Result.{err_from_is_err_and}
use Rattle.listing.specs.Loading.{Are}
use Rattle.reading.specs.Runs.{cost_of_code}
use Rattle.listing.proofs.Loaded.{the_task, the_read, the_priced, the_place, load_more}
use Rattle.listing.proofs.load.Loader.tasks.Goals as goal

pub returns-in_err-task : goal.returns-in_err-task
returns-in_err-task c ts e all p =
    let f = err_from_is_err_and c.from_residual.result c.from_residual.ensures.1 in
    let is = c.as_slice-head-items.ensures.is ∙ e in
    let of = cost_of_code c.args.self.now.costs.now in
    let inside = c.loop-head-test.true in
    rw (f.1, f.2) (c.in_err-task.ensures (the_task c.args.self.now.bytes.now of ts _ is all p c.loop-head.head-index inside) (the_place c.args.self.now.bytes.now of ts _ is all p c.loop-head.head-index inside _ refl) (the_read c.args.self.now.bytes.now of ts _ is all p c.loop-head.head-index inside) (the_priced c.args.self.now.bytes.now of ts _ is all p c.loop-head.head-index inside))

pub loop-head-preserved : goal.loop-head-preserved
loop-head-preserved c ts e all p =
    let is = c.as_slice-head-items.ensures.is ∙ e in
    let of = cost_of_code c.args.self.now.costs.now in
    let inside = c.loop-head-test.true in
    let one = c.in_ok-task.ensures (the_task c.args.self.now.bytes.now of ts _ is all p c.loop-head.head-index inside) (the_place c.args.self.now.bytes.now of ts _ is all p c.loop-head.head-index inside _ refl) (the_read c.args.self.now.bytes.now of ts _ is all p c.loop-head.head-index inside) (the_priced c.args.self.now.bytes.now of ts _ is all p c.loop-head.head-index inside) in
    subst (λ l. Are of l (take (c.loop-head.head-index + 1) ts)) (sym c.in_ok-push.ensures.items) (load_more c.args.self.now.bytes.now of ts _ is all p c.loop-head.head-index inside (vec_items c.loop-head.tasks) c.in_ok-task.task (c.loop-head.invariant ts e all p) one)
