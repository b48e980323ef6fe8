use Rattle.std.proofs.Common.{refl, arith}
use Rattle.heap.proofs.Steps as steps
use Rattle.heap.proofs.sift.first_child.Goals as goal
use Rattle.heap.proofs.sift.first_child.Goals.{else-right-s-via-then-right-s+else-precedes, else-right-s-via-else-right-s}

pub returns-then-precedes-clause-first : goal.returns-then-precedes-clause-first
returns-then-precedes-clause-first g c = steps.right_child g.T.Ord.cmp g.met.T.Ord.total c.args.s.now c.args.j _ refl c.if-precedes.ensures

pub returns-else-right-s-clause-first : goal.returns-else-right-s-clause-first
returns-else-right-s-clause-first g c =
    elim c.else-right-s.branch [
      | else-right-s-via-then-right-s+else-precedes w ↦ steps.left_child g.T.Ord.cmp g.met.T.Ord.total c.args.s.now c.args.j _ refl w.if-precedes.ensures
      | else-right-s-via-else-right-s w ↦ steps.only_child g.T.Ord.cmp g.met.T.Ord.total c.args.s.now c.args.j _ refl (omega arith)
    ]
