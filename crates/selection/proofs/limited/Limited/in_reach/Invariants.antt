use Rattle.std.proofs.Common.{◌≡◌, ◌≤◌, false, ◌⊎◌}
use Rattle.std.specs.List.{Contains}
use Rattle.heap.specs.Held.{size, room, held}
use Rattle.selection.specs.declared.candidate.Candidate.{Candidate}
use Rattle.selection.specs.Linked.{reaches}
use Rattle.selection.proofs.limited.Limited.in_reach.Given as goal

abbrev pub invariant-loop-top : goal.invariant-loop-top
invariant-loop-top g l =
    ((x : Candidate g.row.M.Denot) → Contains (held l.heap) x → Contains (held l.initial.heap) x)
    × ((x : Candidate g.row.M.Denot) → Contains (held l.initial.heap) x → Contains (held l.heap) x ⊎ (reaches l.self.task.now l.self.limit l.end x.start ≡ false))
    × (room l.heap ≡ room l.initial.heap)
    × (size l.heap ≤ size l.initial.heap)

abbrev pub decreases-loop-top : goal.decreases-loop-top
decreases-loop-top g l = size l.heap
