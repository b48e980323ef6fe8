use Rattle.std.proofs.Common.{◌≡◌, ◌-◌, take, ap, ◌∙◌, arith}
use Rattle.std.specs.Prelude.{slice_get}
use Rattle.heap.specs.Held.{held}
use Rattle.heap.proofs.Steps as steps
use Rattle.heap.proofs.Heap.peek.Goals as goal

pub returns-clause-cases : goal.returns-clause-cases
returns-clause-cases g c =
    let h = c.args.self.now in
    let all : h.len - 0 ≡ h.len = omega arith in
    steps.first_of g.T.Ord.cmp g.met.T.Ord.total (held h) c.copied.result (c.copied.ensures ∙ c.first.ensures.value ∙ ap (λ n. slice_get (take n h.slots.now) 0) all) h.heaped
