use Rattle.std.proofs.Common.{◌≡◌, suc, ◌-◌, [], length}
use Rattle.reading.specs.Listings.{routines_from, routine_heads}
use Rattle.reading.proofs.Gathered.{Gathering}
use Rattle.reading.proofs.read.read_routines.Given as goal

abbrev pub invariant-routines : goal.invariant-routines
invariant-routines l = (l.reader.bytes.now ≡ l.initial.reader.bytes.now) × Gathering l.initial.reader.bytes.now (l.heads) l.reader.at (routine_heads (routines_from l.initial.reader.bytes.now (suc (length l.initial.reader.bytes.now)) [] l.initial.reader.at))

abbrev pub decreases-routines : goal.decreases-routines
decreases-routines l = length l.reader.bytes.now - l.reader.at
