use Rattle.std.proofs.Common.{◌-◌, ◌/◌, length, arith}
use Rattle.std.proofs.lemmas.List.Sorted.{IsPermutation-refl, IsPermutation-trans}
use Rattle.heap.proofs.Steps as steps
use Rattle.heap.proofs.sift.sift_up.Goals as goal

pub loop-j-init : goal.loop-j-init
loop-j-init g c = (omega arith, IsPermutation-refl c.args.s.now, steps.rising_begins g.T.Ord.cmp c.args.s.now (length c.args.s.now) c.requires.heaped)

pub loop-j-preserved : goal.loop-j-preserved
loop-j-preserved g c =
    let l = c.loop-j in
    let t = c.swap.ensures in (
      omega arith,
      IsPermutation-trans _ _ _ l.invariant.1 t.permutation,
      steps.rises g.T.Ord.cmp g.met.T.Ord.total l.s c.swap.new.self ((l.j - 1) / 2) l.j (length c.args.s.now) (omega arith) (omega arith) (omega arith) (t.by_index.0, t.by_index.1, t.by_index.2) c.if-not-precedes.ensures l.invariant.2,
    )

pub returns-then-not-precedes-clause-heaped : goal.returns-then-not-precedes-clause-heaped
returns-then-not-precedes-clause-heaped g c = let l = c.loop-j in steps.rising_rests g.T.Ord.cmp l.s l.j (length c.args.s.now) c.if-not-precedes.ensures l.auto.s l.invariant.2

pub returns-clause-heaped : goal.returns-clause-heaped
returns-clause-heaped g c = let l = c.loop-j in steps.rising_tops g.T.Ord.cmp l.s l.j (length c.args.s.now) (omega arith) l.auto.s l.invariant.2
