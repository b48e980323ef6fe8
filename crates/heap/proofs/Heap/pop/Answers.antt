use Rattle.std.proofs.Common.{◌≡◌, ◌+◌, ◌-◌, ◌≤◌, List, ◌∷◌, length, get_or, take, sym, ap, ◌∙◌, subst, arith, get_or-take}
use Rattle.std.specs.List.Sorted.{IsPermutation}
use Rattle.heap.specs.Orders.{before_by}
use Rattle.heap.proofs.Steps as steps
use Rattle.heap.proofs.Slots as slots
use Rattle.heap.proofs.Heap.pop.Goals as goal

pub sift_down-requires : goal.sift_down-requires
sift_down-requires g c =
    let h = c.args.self.now in
    slots.pop_heaped h.slots.now c.swap.new.self h.len (h.len - 1) _ (omega arith) h.within c.index-self-0.is (c.swap.ensures.by_index.3 _) (before_by g.T.Ord.cmp) _ (omega arith) h.heaped

pub returns-clause-held : goal.returns-clause-held
returns-clause-held g c =
    let h = c.args.self.now in
    let xs = h.slots.now in
    let ys = c.swap.new.self in
    let zs = c.sift_down.new.s in
    let n = h.len in
    let m = n - 1 in
    let x = get_or xs 0 c.index-self-0.result in
    let first : x ≡ get_or xs 0 x = ap (λ d. get_or xs 0 d) c.index-self-0.is in
    let one : n ≡ m + 1 = omega arith in
    let within : m ≤ length ys = omega (arith, c.swap.ensures.len, h.within) in
    let sifted = c.sift_down.ensures.shuffled in (
      steps.first_least g.T.Ord.cmp g.met.T.Ord.total (take n xs) x (first ∙ sym (get_or-take n xs 0 x (omega arith))) h.heaped,
      subst (λ (l : List _). IsPermutation (take n xs) (x ∷ l)) (slots.sifted_held ys zs (m - 0) m (omega arith) within sifted _)
          (slots.pop_held xs ys n m x one h.within first (c.swap.ensures.by_index.3 x) zs (slots.sifted_shuffled ys zs (m - 0) m (omega arith) within sifted)),
    )
