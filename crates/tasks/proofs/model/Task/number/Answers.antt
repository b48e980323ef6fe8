use Rattle.std.proofs.Common.{◌^◌, ◌<◌, sym, ◌∙◌, arith}
use Rattle.std.proofs.lemmas.Bool.Decides.{nat_tests}
use Rattle.tasks.specs.Tasks.{point_count}
use Rattle.tasks.proofs.Answering.{answered, was_admitted}
use Rattle.tasks.proofs.Words.{ones_rising}
use Rattle.tasks.proofs.model.Task.number.Goals as goal

pub returns : goal.returns
returns c =
    let t = c.args.self.now in
    let h = was_admitted t c.args.word (sym c.in_ok-admit.was ∙ c.admit.ensures) in
    let small : c.args.word < 2 ^ point_count t = grind (arith, nat_tests) in
    answered t c.args.word _ _ h (ones_rising c.args.word (point_count t) small)
