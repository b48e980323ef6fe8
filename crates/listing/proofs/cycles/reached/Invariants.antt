use Rattle.listing.specs.Cycles.{entry, closed, code_at, Tabled}
use Rattle.listing.proofs.cycles.reached.Given as goal

abbrev pub invariant-loop-k : goal.invariant-loop-k
invariant-loop-k l = Tabled l.rows (closed (entry l.calls) (code_at l.routines) l.k)
