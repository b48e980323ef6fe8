use Rattle.std.proofs.Common.{◌≡◌, ◌-◌, length}
use Rattle.listing.specs.Calls.{calls_at}
use Rattle.listing.proofs.Noted.{Noting}
use Rattle.listing.proofs.calls.Calls.of.Given as goal

abbrev pub invariant-commands : goal.invariant-commands
invariant-commands l = (l.reader.bytes.now ≡ l.bytes) × Noting l.known (calls_at l.bytes l.at) l.bytes l.calls l.reader.at

abbrev pub decreases-commands : goal.decreases-commands
decreases-commands l = length l.reader.bytes.now - l.reader.at
