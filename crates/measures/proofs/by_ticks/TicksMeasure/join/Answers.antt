use Rattle.std.proofs.Common.{refl, arith}
use Rattle.measures.proofs.Reach.{bounded}
use Rattle.measures.proofs.by_ticks.TicksMeasure.join.Goals as goal

pub overflow_add-result : goal.overflow_add-result
overflow_add-result c = omega (arith, bounded (λ v. v.ticks) refl (λ v p. omega (arith, p.small.0)) 62 c.args.self c.requires, c.args.p.small.0)
