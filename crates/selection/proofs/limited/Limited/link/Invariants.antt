use Rattle.std.proofs.Common.{◌≡◌, ◌≤◌, length}
use Rattle.heap.specs.Held.{size, room, held}
use Rattle.heap.specs.Orders.{before_by}
use Rattle.selection.specs.Linked.{value_of, selected, Holds, Linked}
use Rattle.selection.proofs.limited.Limited.link.Given as goal

abbrev pub invariant-loop-end : goal.invariant-loop-end
invariant-loop-end g l =
    (65 ≤ room l.heap)
    × (size l.heap ≤ l.end)
    × (length l.starts ≡ 64)
    × Holds (before_by g.M.Ord.cmp) g.M.Measure.none g.M.Measure.join l.self.task.now l.self.limit l.end l.end (held l.heap)
    × (l.value ≡ value_of (selected (before_by g.M.Ord.cmp) g.M.Measure.none g.M.Measure.join l.self.task.now l.self.limit l.end))
    × Linked (before_by g.M.Ord.cmp) g.M.Measure.none g.M.Measure.join l.self.task.now l.self.limit l.end l.starts
