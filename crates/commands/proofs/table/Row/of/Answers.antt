use Rattle.std.proofs.Common.{sym, ◌∙◌}
use Rattle.commands.specs.Commands.{rows}
use Rattle.commands.proofs.Rows.{hit, miss, past}
use Rattle.commands.proofs.table.Row.of.Goals as goal

pub returns : goal.returns
returns c = sym (past rows _ _ c.loop-row-test.false) ∙ c.loop-row.invariant

pub returns-then-row-byte : goal.returns-then-row-byte
returns-then-row-byte c = sym (hit rows _ _ _ c.loop-row-test.true c.if-row-byte.true) ∙ c.loop-row.invariant

pub loop-row-preserved : goal.loop-row-preserved
loop-row-preserved c = miss rows _ _ _ c.loop-row-test.true c.if-row-byte.false ∙ c.loop-row.invariant
