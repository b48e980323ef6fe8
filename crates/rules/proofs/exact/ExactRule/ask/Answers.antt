use Rattle.std.proofs.Common.{sym, subst}
use Rattle.rules.specs.Slacks.{slack_at}
use Rattle.rules.specs.Tables.{deadline_at}
use Rattle.rules.specs.Tolerances.{exact_moment, FirstGreatest}
use Rattle.rules.specs.Demands.{deadline_first}
use Rattle.rules.specs.PeaksLemmas.{peak_from, peak_within, peak_most, peak_first}
use Rattle.rules.proofs.exact.ExactRule.ask.Goals as goal

pub returns-clause-greatest : goal.returns-clause-greatest
returns-clause-greatest c =
    let ts = c.args.question.tasks.now in
    let p = c.args.question.place in
    let f = slack_at ts p in
    let d = deadline_at ts p in
    let told : FirstGreatest ts p (exact_moment ts p) = record { from = peak_from f d; to = peak_within f d (deadline_first ts p); greatest = peak_most f d; first = peak_first f d } in
    subst (FirstGreatest ts p) (sym c.walk.ensures.moment) told
