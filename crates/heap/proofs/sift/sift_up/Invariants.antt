use Rattle.std.proofs.Common.{◌<◌, length}
use Rattle.std.specs.List.Sorted.{IsPermutation}
use Rattle.heap.proofs.Steps.{Rising}
use Rattle.heap.proofs.sift.sift_up.Given as goal

abbrev pub invariant-loop-j : goal.invariant-loop-j
invariant-loop-j g l = (l.j < length l.initial.s) × IsPermutation l.initial.s l.s × Rising g.T.Ord.cmp l.s l.j (length l.initial.s)

abbrev pub decreases-loop-j : goal.decreases-loop-j
decreases-loop-j g l = l.j
