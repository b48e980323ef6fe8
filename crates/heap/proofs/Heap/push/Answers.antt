use Rattle.std.proofs.Common.{◌+◌, ◌-◌, ◌<◌, ◌≤◌, List, ◌∷◌, length, take, set, ◌∙◌, subst, arith, length-set}
use Rattle.std.specs.List.Sorted.{IsPermutation}
use Rattle.heap.specs.Orders.{before_by}
use Rattle.heap.proofs.Slots as slots
use Rattle.heap.proofs.Heap.push.Goals as goal

pub sift_up-requires-clause-heaped : goal.sift_up-requires-clause-heaped
sift_up-requires-clause-heaped g c =
    let h = c.args.self.now in
    slots.push_heaped h.slots.now h.len c.args.x (omega (arith, h.within)) (before_by g.T.Ord.cmp) _ (omega arith) h.heaped

pub returns-clause-held : goal.returns-clause-held
returns-clause-held g c =
    let h = c.args.self.now in
    let xs = h.slots.now in
    let n = h.len in
    let x = c.args.x in
    let zs = c.sift_up.new.s in
    let some : n < length xs = omega (arith, h.within) in
    let within : n + 1 ≤ length (set xs n x) = omega (arith, length-set xs n x) in
    let sifted = c.sift_up.ensures.shuffled in
    subst (λ (l : List _). IsPermutation (x ∷ take n xs) l) (slots.sifted_held (set xs n x) zs (n + 1 - 0) (n + 1) (omega arith) within sifted _)
    (slots.push_held xs n x some zs (slots.sifted_shuffled (set xs n x) zs (n + 1 - 0) (n + 1) (omega arith) within sifted))

pub returns-clause-rest : goal.returns-clause-rest
returns-clause-rest g c =
    let h = c.args.self.now in
    let xs = h.slots.now in
    let n = h.len in
    let x = c.args.x in
    slots.sifted_rest (set xs n x) c.sift_up.new.s (n + 1 - 0) (n + 1) (omega arith) (omega (arith, length-set xs n x, h.within)) c.sift_up.ensures.shuffled ∙ slots.push_rest xs n x (omega (arith, h.within))
