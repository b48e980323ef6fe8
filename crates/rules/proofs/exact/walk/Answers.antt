use Rattle.std.proofs.Common.{◌≡◌, ◌+◌, ◌<◌, ◌≤◌, cond, length, pos, ◌-ℤ◌, ◌≤ℤ◌, ◌<ℤ◌, Some, sym, refl, ap, ◌∙◌, subst, arith, w64, rules}
use lib.Signed.{lt_z}
use Rattle.std.proofs.lemmas.List.Elements.{All-contains, All-from_recursion}
use Rattle.std.proofs.ByRecursion.{All-weaker}
use Rattle.std.proofs.lemmas.List.{get_or_read}
use Rattle.std.proofs.lemmas.Option.{MatchOption-at_some}
use Rattle.std.proofs.lemmas.Int.{to_z-of_z}
use Rattle.heap.specs.Held.{held}
use Rattle.tasks.specs.declared.timings.Timing.{Timing}
use Rattle.rules.specs.declared.multiple.Multiple.{Multiple}
use Rattle.rules.specs.Tables.{no_timing, deadline_at}
use Rattle.rules.specs.Walks.{Next, task_of}
use Rattle.rules.proofs.Judging.{Walked, sum_small, walk_starts, walk_meets, walk_ends, walk_stops}
use Rattle.rules.proofs.Steps.{carried_small, least_at}
use Rattle.rules.proofs.exact.walk.Goals as goal
use Rattle.rules.proofs.exact.walk.Goals.{After-replace_top}

pub left-requires : goal.left-requires
left-requires c =
    omega (arith, carried_small c.args.question.tasks.now c.args.question.place 0 (held c.args.heap.now) (omega (arith, c.args.question.asked.few, c.args.question.asked.last)) (omega arith) c.requires.holds, c.requires.demand)

pub loop-best-init : goal.loop-best-init
loop-best-init c =
    let is = to_z-of_z w64 c.left.result (record { sfits = c.left.type_inv }) ∙ c.left.ensures in
    let walked = walk_starts c.args.question.tasks.now c.args.question.place (held c.args.heap.now) c.args.first _ c.requires.holds c.requires.demand is in
    record { size = c.requires.size; small = sum_small c.args.question.tasks.now c.args.question.place _ _ _ _ 0 c.args.question.asked walked; walked = (0, walked) }

pub returns-then-deadline-next : goal.returns-then-deadline-next
returns-then-deadline-next c =
    let ts = c.args.question.tasks.now in
    let p = c.args.question.place in
    let l = c.loop-best in
    let d = c.deadline-deadline.result in
    let by = c.deadline-deadline.ensures in
    let least = least_at c.in-Some.next (held l.heap) c.in-Some.ensures.cases.1 in
    let far = All-weaker (λ (z : Multiple). c.in-Some.next.at ≤ z.at) (λ (z : Multiple). deadline_at ts p ≤ z.at) (λ z h. omega (arith, h, by, c.if-deadline-next.true)) (held l.heap) least in
    let slack = ap (λ t. pos t -ℤ pos l.demand) by in
    let more : l.best.tolerance <ℤ c.left-in-loop-best.result = search rules in
    let ends = walk_ends ts p (held l.heap) l.demand l.best.tolerance l.best.moment l.invariant.walked.0 far (subst (λ v. l.best.tolerance <ℤ v) (c.left-in-loop-best.ensures ∙ slack) more) l.invariant.walked.1 in
    let is = to_z-of_z w64 c.left-then-deadline-next.result (record { sfits = c.left-then-deadline-next.type_inv }) ∙ c.left-then-deadline-next.ensures ∙ slack in
    record { tolerance = is ∙ ends.1; moment = by ∙ ends.0 }

next_there : (c : After-replace_top) → c.in-Some.next.task < length c.args.question.tasks.now
next_there c =
    let w = c.loop-best.invariant.walked.1 in
    let there = Next c.args.question.tasks.now c.args.question.place c.loop-best.invariant.walked.0 in
    let at = All-contains there (held c.loop-best.heap) c.in-Some.next (All-from_recursion there (held c.loop-best.heap) w.holds.each) c.in-Some.ensures.cases.0 in
    omega (arith, at.there, c.args.question.asked.last)

task_is : (c : After-replace_top) → c.index-question-next.result ≡ task_of c.args.question.tasks.now c.in-Some.next
task_is c = get_or_read c.args.question.tasks.now c.in-Some.next.task c.index-question-next.result (next_there c) c.index-question-next.is no_timing

cost_is : (c : After-replace_top) → c.from-demand.result ≡ (task_of c.args.question.tasks.now c.in-Some.next).cost
cost_is c = let same = ap (λ (y : Timing). y.cost) (task_is c) in search rules

pub loop-best-preserved : goal.loop-best-preserved
loop-best-preserved c =
    let ts = c.args.question.tasks.now in
    let p = c.args.question.place in
    let l = c.loop-best in
    let x = c.in-Some.next in
    let top = c.in-Some.ensures in
    let r = c.replace_top.ensures in
    let y : Multiple = record { at = x.at + c.period.result; task = x.task } in
    let gave : c.replace_top.result ≡ Some x = r.value ∙ sym top.value in
    let moved = (MatchOption-at_some _ _ x gave r.held).1 in
    let period : c.period.result ≡ (task_of ts x).period = let same = ap (λ (z : Timing). z.period) (task_is c) in search rules in
    let step = ap (λ n. x.at + n) period in
    let early : x.at < deadline_at ts p = omega (arith, c.deadline-deadline.ensures, c.if-deadline-next.false) in
    let v = to_z-of_z w64 c.left-in-loop-best-2.result (record { sfits = c.left-in-loop-best-2.type_inv }) ∙ c.left-in-loop-best-2.ensures in
    let t = c.judged-best.ensures.tolerance ∙ ap (λ z. cond (lt_z l.best.tolerance z) z l.best.tolerance) v in
    let m = c.judged-best.ensures.moment ∙ ap (λ z. cond (lt_z l.best.tolerance z) x.at l.best.moment) v in
    let walked = walk_meets ts p x y (held l.heap) (held c.replace_top.new.self) l.demand l.best.tolerance l.best.moment l.invariant.walked.0 _ _ top.cases.0 (least_at x (held l.heap) top.cases.1) early refl step moved t m l.invariant.walked.1 in
    let now = subst (λ n. Walked ts p (held c.replace_top.new.self) (l.demand + n) c.judged-best.result.tolerance c.judged-best.result.moment x.at) (sym (cost_is c)) walked in
    record { size = r.size ∙ l.invariant.size; small = sum_small ts p _ _ _ _ x.at c.args.question.asked now; walked = (x.at, now) }

pub returns : goal.returns
returns c =
    let ts = c.args.question.tasks.now in
    let p = c.args.question.place in
    let l = c.loop-best in
    let by = c.deadline-deadline.ensures in
    let slack = ap (λ t. pos t -ℤ pos l.demand) by in
    let no : c.left-in-loop-best.result ≤ℤ l.best.tolerance = search rules in
    let stops = walk_stops ts p (held l.heap) l.demand l.best.tolerance l.best.moment l.invariant.walked.0 (subst (λ v. v ≤ℤ l.best.tolerance) (c.left-in-loop-best.ensures ∙ slack) no) l.invariant.walked.1 in
    record { tolerance = stops.1; moment = stops.0 }
