use Rattle.std.proofs.Common.{◌≡◌, ℕ, ◌+◌, ◌-◌, ◌*◌, ◌%◌, ◌^◌, ◌<◌, ◌≤◌, max, length, get_or, Some, None, Option, sym, ap, ◌∙◌, subst, ap₂, add-one, arith, pow_mono}
use lib.Count.{ones}
use Rattle.std.proofs.lemmas.Nat.{one_shl}
use Rattle.heap.specs.Orders.{before_asym, before_by, before_chain}
use Rattle.tasks.specs.Choices.{told}
use Rattle.tasks.specs.Tasks.{cost_of_block, point_count, cost_of, longest_of}
use Rattle.measures.specs.Joins.{Reached}
use Rattle.selection.specs.Answers.{BestWithin}
use Rattle.selection.specs.Running.{cost_before}
use Rattle.selection.specs.Linked.{selected, Linked}
use Rattle.selection.specs.Selections.{Chosen, selection_of}
use Rattle.selection.proofs.Runs.{running_small}
use Rattle.selection.proofs.Steps as steps
use Rattle.selection.proofs.Walk as walk
use Rattle.selection.proofs.Whole as whole
use Rattle.selection.proofs.selecting.select.Given as given
use Rattle.selection.proofs.selecting.select.Goals as goal
use Rattle.selection.proofs.selecting.select.Goals.{At-loop-end}

-- the selection for all blocks, whose value was found
chosen : (g : given.Over) (c : At-loop-end g) → (s : Chosen g.row.M.Denot) × (selected (before_by g.M.Ord.cmp) g.M.Measure.none g.M.Measure.join c.args.task.now c.args.limit (point_count c.args.task.now + 1) ≡ Some s) × (s.value ≡ c.in-Some.value)
chosen g c = steps.value_some (before_by g.M.Ord.cmp) g.M.Measure.none g.M.Measure.join c.args.task.now c.args.limit (before_asym g.met.M.Ord.total) (before_chain g.met.M.Ord.total) (selected (before_by g.M.Ord.cmp) g.M.Measure.none g.M.Measure.join c.args.task.now c.args.limit (point_count c.args.task.now + 1)) c.in-Some.value (sym c.link-links.ensures.value ∙ c.in-Some.is)

-- a turn of the walk
module _ (g : given.Over) (c : At-loop-end g) where
  Turns : Type 0
  Turns = (limit : Option ℕ) (s : Chosen g.row.M.Denot)
      → selected (before_by g.M.Ord.cmp) g.M.Measure.none g.M.Measure.join c.args.task.now limit (point_count c.args.task.now + 1) ≡ Some s
      → Linked (before_by g.M.Ord.cmp) g.M.Measure.none g.M.Measure.join c.args.task.now limit (point_count c.args.task.now + 1) c.link-links.result.starts
      → walk.Turn (before_by g.M.Ord.cmp) g.M.Measure.none g.M.Measure.join c.args.task.now limit (before_asym g.met.M.Ord.total) (before_chain g.met.M.Ord.total) s c.loop-end.points c.loop-end.longest c.loop-end.end (get_or c.link-links.result.starts (c.loop-end.end - 1) 0)

  turned : 0 < c.loop-end.end → Turns
  unfolding Turns
  turned pos limit s e linked = walk.turn (before_by g.M.Ord.cmp) g.M.Measure.none g.M.Measure.join c.args.task.now limit (before_asym g.met.M.Ord.total) (before_chain g.met.M.Ord.total) s c.link-links.result.starts c.loop-end.points c.loop-end.longest c.loop-end.end e linked pos c.loop-end.invariant.0 (c.loop-end.invariant.1 limit s e linked)

-- the turn towards that selection
its : (g : given.Over) (c : At-loop-end g) → 0 < c.loop-end.end → walk.Turn (before_by g.M.Ord.cmp) g.M.Measure.none g.M.Measure.join c.args.task.now c.args.limit (before_asym g.met.M.Ord.total) (before_chain g.met.M.Ord.total) (chosen g c).0 c.loop-end.points c.loop-end.longest c.loop-end.end (get_or c.link-links.result.starts (c.loop-end.end - 1) 0)
unfolding Turns
its g c pos = turned g c pos c.args.limit (chosen g c).0 (chosen g c).1 c.link-links.ensures.linked

pub loop-end-init : goal.loop-end-init
loop-end-init g c =
    let t = c.args.task.now in
    let all : c.block_count-blocks.result ≡ point_count t + 1 = c.block_count-blocks.ensures in (
      omega (arith, all),
      λ limit s e linked. (
        s,
        ap (selected (before_by g.M.Ord.cmp) g.M.Measure.none g.M.Measure.join t limit) all ∙ e,
        omega arith,
        ap (λ n. max 0 (walk.longest_in t n s.word)) (all ∙ add-one (point_count t)) ∙ omega arith,
      ),
    )

pub length-requires : goal.length-requires
length-requires g c = let w = its g (goal.at.length-requires g c).At-loop-end c.loop-end-test.true in (omega (arith, w.falls), omega (arith, c.loop-end.invariant.0))

pub overflow_shl-points : goal.overflow_shl-points
overflow_shl-points g c = let w = its g (goal.at.overflow_shl-points g c).At-loop-end c.loop-end-test.true in omega (arith, w.falls, c.loop-end.invariant.0, c.args.task.now.count)

-- the bit that the code marks
bit : (start points : ℕ) → 0 < start → start ≤ 64 → points + (1 * 2 ^ (start - 1)) % 2 ^ 64 ≡ points + walk.mark start
bit start points h l = ap (λ b. points + b) (one_shl (start - 1) 64 (omega arith) ∙ sym (walk.mark_is start h))

pub overflow_add-points : goal.overflow_add-points
overflow_add-points g c =
    let w = its g (goal.at.overflow_add-points g c).At-loop-end c.loop-end-test.true in
    let t = c.args.task.now in
    let b = bit (get_or c.link-links.result.starts (c.loop-end.end - 1) 0) c.loop-end.points c.if-start-gt0.true (omega (arith, w.falls, c.loop-end.invariant.0, t.count)) in
    omega (arith, b, w.word, w.small, pow_mono {i = point_count t} {j = 64} (omega (arith, t.count)))

pub loop-end-smaller-then-start-gt0 : goal.loop-end-smaller-then-start-gt0
loop-end-smaller-then-start-gt0 g c = (its g (goal.at.loop-end-smaller-then-start-gt0 g c).At-loop-end c.loop-end-test.true).falls

pub loop-end-preserved-then-start-gt0 : goal.loop-end-preserved-then-start-gt0
unfolding Turns
loop-end-preserved-then-start-gt0 g c =
    let at = (goal.at.loop-end-preserved-then-start-gt0 g c).At-loop-end in
    let w = its g at c.loop-end-test.true in
    let t = c.args.task.now in
    let start = get_or c.link-links.result.starts (c.loop-end.end - 1) 0 in
    let b = bit start c.loop-end.points c.if-start-gt0.true (omega (arith, w.falls, c.loop-end.invariant.0, t.count)) in
    let m = c.max-longest.ensures ∙ ap (max c.loop-end.longest) c.length.ensures in (
      omega (arith, w.falls, c.loop-end.invariant.0),
      λ limit s e linked.
          let u = turned g at c.loop-end-test.true limit s e linked in
          (u.v, u.chosen, ap (λ p. p + u.v.word) b ∙ u.word, ap (λ x. max x (walk.longest_in t start u.v.word)) m ∙ u.top),
    )

pub loop-end-preserved : goal.loop-end-preserved
unfolding Turns
loop-end-preserved g c =
    let at = (goal.at.loop-end-preserved g c).At-loop-end in
    let w = its g at c.loop-end-test.true in
    let t = c.args.task.now in
    let start = get_or c.link-links.result.starts (c.loop-end.end - 1) 0 in
    let first : start ≡ 0 = omega (arith, c.if-start-gt0.false) in
    let none-marked : walk.mark start ≡ 0 = ap walk.mark first in
    let m = c.max-longest.ensures ∙ ap (max c.loop-end.longest) c.length.ensures in (
      omega (arith, w.falls, c.loop-end.invariant.0),
      λ limit s e linked.
          let u = turned g at c.loop-end-test.true limit s e linked in
          (u.v, u.chosen, omega (arith, u.word, none-marked), ap (λ x. max x (walk.longest_in t start u.v.word)) m ∙ u.top),
    )

-- the selection by its definition
selection_is : (g : given.Over) (c : At-loop-end g) → selection_of (before_by g.M.Ord.cmp) g.M.Measure.none g.M.Measure.join c.args.task.now c.args.limit ≡ Some (chosen g c).0
selection_is g c = ap (selected (before_by g.M.Ord.cmp) g.M.Measure.none g.M.Measure.join c.args.task.now c.args.limit) (sym (add-one (point_count c.args.task.now))) ∙ (chosen g c).1

pub returns-in_default-clause-best : goal.returns-in_default-clause-best
returns-in_default-clause-best g c =
    let t = c.args.task.now in
    let before = before_by g.M.Ord.cmp in
    let none = g.M.Measure.none in
    let join = g.M.Measure.join in
    let is : selection_of before none join t c.args.limit ≡ None = ap (selected before none join t c.args.limit) (sym (add-one (point_count t))) ∙ steps.value_none (selected before none join t c.args.limit (point_count t + 1)) (sym c.link-links.ensures.value ∙ c.in_default.is) in
    whole.best_within before none join t c.args.limit (before_asym g.met.M.Ord.total) (before_chain g.met.M.Ord.total) g.met.M.Measure.keeps None is

pub ticks-requires : goal.ticks-requires
ticks-requires g c =
    let at = (goal.at.ticks-requires g c).At-loop-end in
    subst (Reached g.M.Measure.none g.M.Measure.join 63) (chosen g at).2 (whole.reached (before_by g.M.Ord.cmp) g.M.Measure.none g.M.Measure.join c.args.task.now c.args.limit (before_asym g.met.M.Ord.total) (before_chain g.met.M.Ord.total) (chosen g at).0 (selection_is g at))

pub overflow_add-result : goal.overflow_add-result
overflow_add-result g c =
    let at = (goal.at.overflow_add-result g c).At-loop-end in
    let t = c.args.task.now in
    let small = whole.costs_small (before_by g.M.Ord.cmp) g.M.Measure.none g.M.Measure.join t c.args.limit (before_asym g.met.M.Ord.total) (before_chain g.met.M.Ord.total) g.M.Measure.ticks g.met.M.Measure.nothing g.met.M.Measure.adds (chosen g at).0 (selection_is g at) in
    let all = c.block_count-blocks.ensures in
    omega (arith, small, ap g.M.Measure.ticks (chosen g at).2, c.ticks.ensures, c.running_costs.ensures c.block_count-blocks.result (omega (arith, all)), running_small t c.block_count-blocks.result (omega (arith, all)), all, t.count)

pub returns : goal.returns
returns g c =
    let at = (goal.at.returns g c).At-loop-end in
    let t = c.args.task.now in
    let limit = c.args.limit in
    let before = before_by g.M.Ord.cmp in
    let none = g.M.Measure.none in
    let join = g.M.Measure.join in
    let asym = before_asym g.met.M.Ord.total in
    let chain = before_chain g.met.M.Ord.total in
    let s = (chosen g at).0 in
    let is = selection_is g at in
    let l = c.loop-end in
    let end : l.end ≡ 0 = omega (arith, c.loop-end-test.false) in
    let last = l.invariant.1 limit s (chosen g at).1 c.link-links.ensures.linked in
    let empty : last.0.word ≡ 0 = walk.word_none before none join t limit last.0 (ap (selected before none join t limit) (sym end) ∙ last.1) in
    let word : l.points ≡ s.word = omega (arith, last.2, empty) in
    let bare : walk.longest_in t l.end last.0.word ≡ 0 = ap (λ n. walk.longest_in t n last.0.word) end in
    let longest : l.longest ≡ longest_of t (told s.word) = omega (arith, last.3, bare) in
    let all = c.block_count-blocks.ensures in
    let cost : get_or c.running_costs.result c.block_count-blocks.result 0 + c.ticks.result ≡ cost_of t (told s.word) =
    ap₂ ◌+◌ (c.running_costs.ensures c.block_count-blocks.result (omega (arith, all)) ∙ ap (cost_before (cost_of_block t)) (all ∙ add-one (point_count t))) (c.ticks.ensures ∙ ap g.M.Measure.ticks (sym (chosen g at).2))
    ∙ whole.costs before none join t limit asym chain g.M.Measure.ticks g.met.M.Measure.nothing g.met.M.Measure.adds s is in
    let same = whole.told_same before none join t limit s l.points (ones l.points) c.in-Some.value _ l.longest word (ap ones word ∙ whole.numbered before none join t limit asym chain s is) (sym (chosen g at).2) cost longest in
    record {
      answer = whole.answered before none join t limit (length c.args.places.now) (Some s) _ c.if-places-lt65.false is same;
      best = subst (BestWithin before none join t limit) (sym same) (whole.best_within before none join t limit asym chain g.met.M.Measure.keeps (Some s) is);
    }
