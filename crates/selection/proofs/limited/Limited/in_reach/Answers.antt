use Rattle.std.proofs.Common.{◌≡◌, [], ◌∷◌, false, Some, sym, ◌∙◌, subst, inl, inr, ⊎_elim, arith}
use Rattle.std.proofs.lemmas.Option.{MatchOption-at_some}
use Rattle.std.proofs.lemmas.List.Sorted.{IsPermutation-sym, Contains-permutation}
use Rattle.std.proofs.lemmas.List.Elements.{Contains-append_right}
use Rattle.std.proofs.ByRecursion.{All-weaker}
use Rattle.heap.specs.Held.{held}
use Rattle.heap.specs.Orders.{before_by}
use Rattle.selection.specs.Candidates.{sooner, sooner_is}
use Rattle.selection.specs.Linked.{reaches}
use Rattle.selection.proofs.Items.{Contains-cons_cases}
use Rattle.selection.proofs.limited.Limited.in_reach.Goals as goal

pub reaches-requires : goal.reaches-requires
reaches-requires g c =
    let top = c.in-Some.top in
    (omega (arith, c.requires.starts top (c.loop-top.invariant.0 top c.in-Some.ensures.cases.0)), c.requires.end)

pub loop-top-preserved : goal.loop-top-preserved
loop-top-preserved g c =
    let l = c.loop-top in
    let top = c.in-Some.top in
    let old = held l.heap in
    let new = held c.pop.new.self in
    let gave : c.pop.result ≡ Some top = c.pop.ensures.value ∙ sym c.in-Some.ensures.value in
    let moved = (MatchOption-at_some _ _ top gave c.pop.ensures.held).1 in
    let far : reaches c.args.self.now.task.now c.args.self.now.limit c.args.end top.start ≡ false = sym c.reaches.ensures ∙ c.if-reaches.false in (
      λ x h. l.invariant.0 x (Contains-permutation _ _ x (IsPermutation-sym _ _ moved) (Contains-append_right (top ∷ []) new x h)),
      λ x h. ⊎_elim
          (λ k. ⊎_elim (λ e. inr (subst (λ y. reaches c.args.self.now.task.now c.args.self.now.limit c.args.end y.start ≡ false) e far)) inl (Contains-cons_cases top x new (Contains-permutation _ _ x moved k)))
          inr (l.invariant.1 x h),
      c.pop.ensures.room ∙ l.invariant.2,
      omega (arith, c.pop.ensures.size, l.invariant.3),
    )

pub returns-then-reaches-clause-cleared : goal.returns-then-reaches-clause-cleared
returns-then-reaches-clause-cleared g c =
    let l = c.loop-top in
    let top = c.in-Some.top in
    record {
      kept = l.invariant.0;
      gone = l.invariant.1;
      first = (
        c.in-Some.ensures.cases.0,
        sym c.reaches.ensures ∙ c.if-reaches.true,
        All-weaker _ (λ y. sooner (before_by g.M.Ord.cmp) y top ≡ false) (λ y h. sym (sooner_is g.met.M.Ord.total y top) ∙ h) (held l.heap) c.in-Some.ensures.cases.1,
      );
    }
