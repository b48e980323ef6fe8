use Rattle.std.proofs.Common.{◌≡◌, ◌+◌, ◌<◌, true, ◌∷◌, List, length, get_or, is_ok, refl, ap, ◌∙◌, arith, rules, get_or-take}
use Rattle.std.proofs.lemmas.List.{get_or_read, length-take-le}
use Rattle.std.specs.List.Sorted.{IsPermutation}
use Rattle.heap.specs.Held.{size, held}
use Rattle.tasks.specs.declared.timings.Timing.{Timing}
use Rattle.rules.specs.declared.multiple.Multiple.{Multiple}
use Rattle.rules.specs.Tables.{no_timing}
use Rattle.rules.proofs.Steps.{carried_small, puts}
use Rattle.rules.proofs.exact.release.Goals as goal

pub overflow_add-first : goal.overflow_add-first
overflow_add-first c =
    let l = c.loop-i in
    let q = c.args.question in
    let all = length-take-le q.place q.tasks.now q.asked.last in
    let items = ap length c.tasks_down-task-items.ensures in
    let small = carried_small q.tasks.now l.i 0 (held l.heap) (omega (arith, q.asked.few, q.asked.last)) (omega arith) l.invariant.holds in
    omega (arith, l.invariant.demand, small, c.task-item.result.work.1)

pub loop-i-preserved : goal.loop-i-preserved
loop-i-preserved c =
    let l = c.loop-i in
    let q = c.args.question in
    let ts = q.tasks.now in
    let item = c.task-item.result in
    let all = length-take-le q.place ts q.asked.last in
    let items = ap length c.tasks_down-task-items.ensures in
    let below : l.i < q.place = omega arith in
    let there : l.i < length ts = omega (arith, q.asked.last) in
    let read = get_or_read ts l.i item there (c.task-item.is ∙ ap (λ (xs : List Timing). get_or xs l.i item) c.tasks_down-task-items.ensures ∙ get_or-take q.place ts l.i item below) no_timing in
    let x : Multiple = record { at = c.period.result; task = l.i } in
    let p = c.push.ensures in
    let ok : is_ok c.push.result ≡ true = search rules in
    let old = held l.heap in
    let new = c.push.new.self in
    let moved : IsPermutation (x ∷ old) (held new) = search rules in
    let more : size new ≡ size l.heap + 1 = search rules in
    let period = c.period.ensures ∙ ap (λ (y : Timing). y.period) read in
    let cost = c.from-first.ensures ∙ c.cost.ensures ∙ ap (λ (y : Timing). y.cost) read in
    let put = puts ts l.i x old (held new) there refl period moved l.invariant.holds in
    record { size = omega (arith, more, l.invariant.size); room = p.room ∙ l.invariant.room; holds = put.0; demand = omega (arith, put.1, l.invariant.demand, cost) }
