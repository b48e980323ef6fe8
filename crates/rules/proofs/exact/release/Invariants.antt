use Rattle.std.proofs.Common.{◌≡◌, sum_by}
use Rattle.heap.specs.Held.{size, room, held}
use Rattle.rules.specs.Walks.{Holds, carried}
use Rattle.rules.proofs.exact.release.Given as goal

abbrev pub invariant-loop-i : goal.invariant-loop-i
invariant-loop-i l = record {
  size : size l.heap ≡ l.i;
  room : room l.heap ≡ 32;
  holds : Holds l.fn.question.tasks.now l.i 0 (held l.heap);
  demand : l.first ≡ sum_by (carried l.fn.question.tasks.now) (held l.heap);
}
