use Rattle.std.proofs.Common.{◌≡◌, suc, true, cond, ◌∷◌, is_ok, sym, ◌∙◌, subst, add-one, arith}
use Rattle.std.proofs.lemmas.Bool.Decides.{nat_tests}
use Rattle.std.specs.List.Sorted.{IsPermutation}
use Rattle.heap.specs.Held.{held}
use Rattle.heap.specs.Orders.{before_asym, before_by, before_chain}
use Rattle.selection.specs.Linked.{Holds}
use Rattle.selection.proofs.Steps as steps
use Rattle.selection.proofs.limited.Limited.advance.Given as given
use Rattle.selection.proofs.limited.Limited.advance.Goals as goal
use Rattle.selection.proofs.limited.Limited.advance.Goals.{Joined-value, After-in_reach, in-Some, in_default}

-- the heap with the candidate of the new start
grown : (g : given.Over) (c : Joined-value g) → Holds (before_by g.M.Ord.cmp) g.M.Measure.none g.M.Measure.join c.args.self.now.task.now c.args.self.now.limit (suc c.args.end) c.args.end (held c.match-value.heap)
grown g c =
    let before = before_by g.M.Ord.cmp in
    let none = g.M.Measure.none in
    let join = g.M.Measure.join in
    let asym = before_asym g.met.M.Ord.total in
    let chain = before_chain g.met.M.Ord.total in
    let t = c.args.self.now.task.now in
    let limit = c.args.self.now.limit in
    let h = c.args.heap.now in
    elim c.match-value.branch [
      | in-Some w ↦
          let p = w.push.ensures in
          let ok : is_ok w.push.result ≡ true = let a = p.test in let b = c.requires.space in grind (arith, nat_tests) in
          let x = w.candidate.result in
          let new = w.push.new.self in
          let moved : IsPermutation (x ∷ held h) (held new) = subst (λ b. IsPermutation (cond b (x ∷ held h) (held h)) (held new)) ok p.held in
          subst (λ z. Holds before none join t limit (suc c.args.end) c.args.end (held z)) (sym w.heap-is) (steps.put before none join t limit asym chain c.args.end w.in-Some.v x (held h) (held new) (sym c.requires.value ∙ w.in-Some.is) w.candidate.ensures.start w.candidate.ensures.value moved c.requires.holds)
      | in_default w ↦
          subst (λ z. Holds before none join t limit (suc c.args.end) c.args.end (held z)) (sym w.heap-is) (steps.put_none before none join t limit asym chain c.args.end (held h) (sym c.requires.value ∙ w.in_default.is) c.requires.holds)
    ]

pub candidate-requires-clause-reached : goal.candidate-requires-clause-reached
candidate-requires-clause-reached g c = steps.value_reached (before_by g.M.Ord.cmp) g.M.Measure.none g.M.Measure.join c.args.self.now.task.now c.args.self.now.limit (before_asym g.met.M.Ord.total) (before_chain g.met.M.Ord.total) c.args.end c.in-Some.v c.requires.end (sym c.requires.value ∙ c.in-Some.is)

pub in_reach-requires-clause-starts : goal.in_reach-requires-clause-starts
in_reach-requires-clause-starts g c = λ x h. omega (arith, ((grown g (goal.at.in_reach-requires-clause-starts g c).Joined-value).sound x h).0)

-- what is left once those out of reach are taken off the top
left : (g : given.Over) (c : After-in_reach g) → Holds (before_by g.M.Ord.cmp) g.M.Measure.none g.M.Measure.join c.args.self.now.task.now c.args.self.now.limit (suc c.args.end) (suc c.args.end) (held c.in_reach.new.heap)
left g c =
    let m = grown g (goal.at.returns-clause-holds g c).Joined-value in
    steps.clears (before_by g.M.Ord.cmp) g.M.Measure.none g.M.Measure.join c.args.self.now.task.now c.args.self.now.limit (before_asym g.met.M.Ord.total) (before_chain g.met.M.Ord.total) c.args.end (held c.match-value.heap) (held c.in_reach.new.heap) c.in_reach.result c.in_reach.ensures.cleared m

pub returns-clause-holds : goal.returns-clause-holds
returns-clause-holds g c = subst (λ n. Holds (before_by g.M.Ord.cmp) g.M.Measure.none g.M.Measure.join c.args.self.now.task.now c.args.self.now.limit n n (held c.in_reach.new.heap)) (sym (add-one c.args.end)) (left g c)

pub returns-clause-picked : goal.returns-clause-picked
returns-clause-picked g c = steps.picks (before_by g.M.Ord.cmp) g.M.Measure.none g.M.Measure.join c.args.self.now.task.now c.args.self.now.limit (before_asym g.met.M.Ord.total) (before_chain g.met.M.Ord.total) c.args.end (held c.in_reach.new.heap) c.in_reach.result (left g c) c.in_reach.ensures.cleared.first
