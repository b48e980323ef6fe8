use Rattle.std.proofs.Common.{◌≡◌, rules, None, Some, suc, ◌+◌, ◌<◌, length, sym, ap, ◌∙◌, add-one, arith, length-set}
use Rattle.std.specs.Prelude.{MatchOption}
use Rattle.heap.specs.Orders.{before_asym, before_by, before_chain}
use Rattle.selection.specs.Linked.{value_of, selected}
use Rattle.selection.proofs.Steps as steps
use Rattle.selection.proofs.limited.Limited.link.Goals as goal

pub loop-end-preserved : goal.loop-end-preserved
loop-end-preserved g c =
    let before = before_by g.M.Ord.cmp in
    let none = g.M.Measure.none in
    let join = g.M.Measure.join in
    let t = c.args.self.now.task.now in
    let limit = c.args.self.now.limit in
    let l = c.loop-end in
    let k = l.end in
    let r = c.advance-picked.ensures in
    let room : k < length l.starts = omega (arith, c.loop-end-test.true, c.block_count-end-end.ensures, t.count, l.invariant.2) in
    let next : selected before none join t limit (k + 1) ≡ selected before none join t limit (suc k) = ap (selected before none join t limit) (add-one k) in
    let o = c.advance-picked.result in
    let a : MatchOption o (c.map_or.result ≡ 0) (λ x. c.map_or.result ≡ x.start) = search rules in
    let b : MatchOption o (c.map-value.result ≡ None) (λ x. c.map-value.result ≡ Some x.value) = search rules in
    let step = steps.linked_step before none join t limit (before_asym g.met.M.Ord.total) (before_chain g.met.M.Ord.total) k l.starts c.advance-picked.result c.map_or.result c.map-value.result room l.invariant.5 r.picked a b in (
      omega (arith, r.room, l.invariant.0),
      omega (arith, r.size, l.invariant.1),
      length-set l.starts k c.map_or.result ∙ l.invariant.2,
      r.holds,
      step.0 ∙ ap value_of (sym next),
      step.1,
    )
