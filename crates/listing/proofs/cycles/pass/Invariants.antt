use Rattle.std.proofs.Common.{◌≡◌, ℕ, ◌<◌, [], length, get_or}
use Rattle.listing.specs.Cycles.{entry, through, RowSays}
use Rattle.listing.proofs.cycles.pass.Given as goal

abbrev pub invariant-loop-i : goal.invariant-loop-i
invariant-loop-i l = (length l.next ≡ 32) × ((j : ℕ) → j < l.i → RowSays (get_or l.next j []) (through (entry l.rows) l.k l.code j))
