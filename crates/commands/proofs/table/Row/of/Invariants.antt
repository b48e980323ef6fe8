use Rattle.std.proofs.Common.{◌≡◌, drop}
use Rattle.commands.specs.Commands.{row_of, rows}
use Rattle.commands.proofs.table.Row.of.Given as goal

abbrev pub invariant-loop-row : goal.invariant-loop-row
invariant-loop-row l = row_of (drop l.row-index rows) l.byte ≡ row_of rows l.byte
