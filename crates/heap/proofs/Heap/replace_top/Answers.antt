use Rattle.std.proofs.Common.{◌≡◌, ◌-◌, ◌<◌, ◌≤◌, List, ◌∷◌, length, get_or, take, set, sym, ap, ◌∙◌, subst, arith, length-set, get_or-take}
use Rattle.std.specs.List.Sorted.{IsPermutation}
use Rattle.heap.specs.Orders.{before_by}
use Rattle.heap.proofs.Steps as steps
use Rattle.heap.proofs.Slots as slots
use Rattle.heap.proofs.Heap.replace_top.Goals as goal

pub sift_down-requires : goal.sift_down-requires
sift_down-requires g c = let h = c.args.self.now in slots.replace_heaped h.slots.now h.len c.args.x _ (omega arith) h.within c.index-self-0.is (before_by g.T.Ord.cmp) _ (omega arith) h.heaped

pub returns-clause-held : goal.returns-clause-held
returns-clause-held g c =
    let h = c.args.self.now in
    let xs = h.slots.now in
    let n = h.len in
    let x = c.args.x in
    let ys = set xs 0 x in
    let zs = c.sift_down.new.s in
    let y = get_or xs 0 c.index-self-0.result in
    let first : y ≡ get_or xs 0 y = ap (λ d. get_or xs 0 d) c.index-self-0.is in
    let some : 0 < n = omega arith in
    let within : n ≤ length ys = omega (arith, length-set xs 0 x, h.within) in
    let sifted = c.sift_down.ensures.shuffled in (
      steps.first_least g.T.Ord.cmp g.met.T.Ord.total (take n xs) y (first ∙ sym (get_or-take n xs 0 y some)) h.heaped,
      subst (λ (l : List _). IsPermutation (x ∷ take n xs) (y ∷ l)) (slots.sifted_held ys zs (n - 0) n (omega arith) within sifted _)
          (slots.replace_held xs n x y some h.within first zs (slots.sifted_shuffled ys zs (n - 0) n (omega arith) within sifted)),
    )
