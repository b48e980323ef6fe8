use Rattle.std.proofs.Common.{◌≡◌, suc, ◌-◌, ◌≤◌, length}
use Rattle.reading.specs.Listings.{blocks_from, blocks_end}
use Rattle.reading.proofs.Blocked.{Blocking}
use Rattle.reading.proofs.read.read_blocks.Given as goal

abbrev pub invariant-turns : goal.invariant-turns
invariant-turns l = (l.reader.bytes.now ≡ l.initial.reader.bytes.now) × (l.initial.reader.at ≤ l.reader.at) × Blocking l.initial.reader.bytes.now l.count l.reader.at (blocks_end (blocks_from l.initial.reader.bytes.now (suc (length l.initial.reader.bytes.now)) 0 l.initial.reader.at))

abbrev pub decreases-turns : goal.decreases-turns
decreases-turns l = length l.reader.bytes.now - l.reader.at
