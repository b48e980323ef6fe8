use Rattle.std.proofs.Common.{◌≡◌, false, ltb, sym, ◌∙◌, arith}
use Rattle.std.proofs.lemmas.Bool.Decides.{nat_tests}
use Rattle.tasks.proofs.Words.{told_short}
use Rattle.tasks.proofs.choices.is_chosen.Goals as goal

pub returns-else-index-lt64 : goal.returns-else-index-lt64
returns-else-index-lt64 c =
    let past : ltb c.args.index 64 ≡ false = grind (arith, nat_tests) in
    past ∙ sym (told_short c.args.word 64 c.ranges.word.fits c.args.index (omega arith))
