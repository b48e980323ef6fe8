use Rattle.std.proofs.Common.{length, arith}
use Rattle.std.proofs.lemmas.List.Sorted.{IsPermutation-refl, IsPermutation-trans}
use Rattle.heap.proofs.Steps as steps
use Rattle.heap.proofs.sift.sift_down.Goals as goal

pub loop-j-init : goal.loop-j-init
loop-j-init g c = (IsPermutation-refl c.args.s.now, steps.sinking_begins g.T.Ord.cmp c.args.s.now c.requires)

pub loop-j-preserved : goal.loop-j-preserved
loop-j-preserved g c =
    let l = c.loop-j in
    let t = c.swap.ensures in
    let child = c.first_child-child in (
      IsPermutation-trans _ _ _ l.invariant.0 t.permutation,
      steps.sinks g.T.Ord.cmp g.met.T.Ord.total l.s c.swap.new.self l.j child.result (length c.args.s.now) (omega arith) (omega arith) (omega arith) (t.by_index.0, t.by_index.1, t.by_index.2) c.if-not-precedes.ensures child.ensures.first l.auto.s l.invariant.1,
    )

pub returns-then-not-precedes-clause-heaped : goal.returns-then-not-precedes-clause-heaped
returns-then-not-precedes-clause-heaped g c =
    let l = c.loop-j in
    steps.sinking_rests g.T.Ord.cmp g.met.T.Ord.total l.s l.j c.first_child-child.result (length c.args.s.now) c.if-not-precedes.ensures c.first_child-child.ensures.first l.auto.s l.invariant.1

pub returns-clause-heaped : goal.returns-clause-heaped
returns-clause-heaped g c = let l = c.loop-j in steps.sinking_ends g.T.Ord.cmp l.s l.j (length c.args.s.now) (omega arith) l.auto.s l.invariant.1
