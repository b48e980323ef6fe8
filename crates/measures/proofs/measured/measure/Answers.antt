use Rattle.std.proofs.Common.{◌≤◌, length, sym, ap, subst, arith}
use Rattle.tasks.specs.Choices.{told}
use Rattle.tasks.specs.Tasks.{point_at}
use Rattle.measures.specs.Joins.{Reached}
use Rattle.measures.proofs.Reach.{reached_measured, reached_weak}
use Rattle.measures.proofs.measured.measure.Goals as goal

pub join-value-requires : goal.join-value-requires
join-value-requires g c =
    let t = c.args.task.now in
    let i = c.loop-i.i in
    let few : i ≤ 62 = omega (arith, c.loop-i-test.true, ap length c.points-p-items.ensures, t.points.ok.0, t.count) in
    reached_weak i 62 c.loop-i.value (subst (Reached g.M.Measure.none g.M.Measure.join i) (sym c.loop-i.invariant) (reached_measured (point_at t) (told c.args.word) i)) few
