use Rattle.std.proofs.Common.{◌≡◌, ℕ, ◌-◌, ◌≤◌}
use Rattle.heap.specs.Held.{size, held}
use Rattle.rules.proofs.Judging.{Walked}
use Rattle.rules.proofs.exact.walk.Given as goal

abbrev pub invariant-loop-best : goal.invariant-loop-best
invariant-loop-best l = record {
  size : size l.heap ≡ l.question.place;
  small : l.demand ≤ 406400000000000;
  walked : (met : ℕ) × Walked l.question.tasks.now l.question.place (held l.heap) l.demand l.best.tolerance l.best.moment met;
}

-- each multiple adds a cost to what is carried, which stays below 10^15
abbrev pub decreases-loop-best : goal.decreases-loop-best
decreases-loop-best l = 1000000000000000 - l.demand
