use Rattle.std.proofs.Common.{length}
use Rattle.commands.proofs.table.+number.Given as goal

abbrev pub decreases-number : goal.decreases-number
decreases-number l = length l.bytes.now
