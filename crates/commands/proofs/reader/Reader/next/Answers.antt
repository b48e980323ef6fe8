use Rattle.std.proofs.Common.{sym, ◌∙◌}
use Rattle.commands.proofs.Rows.{ranged}
use Rattle.commands.proofs.reader.Reader.next.Goals as goal

pub made-requires : goal.made-requires
made-requires c =
    let e = ranged _ _ _ (sym c.decode.ensures ∙ c.in_ok-row.ensures.ok_part) _ (sym c.if-not-holds.ensures) in
    (e.first, e.second)
