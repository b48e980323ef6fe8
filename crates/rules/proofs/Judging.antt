-- The best answer of the walk, as far as it has come.
use Rattle.std.proofs.Common.{◌≡◌, ℕ, suc, ◌+◌, ◌<◌, ◌≤◌, Bool, true, false, cond, List, ◌∷◌, ℤ, pos, ◌-ℤ◌, ◌≤ℤ◌, ◌<ℤ◌, sum_by, sym, refl, ap, ◌∙◌, subst, ap₂, ⊎_elim, arith}
use lib.Signed.{lt_z}
use Rattle.std.proofs.lemmas.List.Elements.{All-contains, All-from_recursion}
use Rattle.std.proofs.ByRecursion.{All-weaker}
use Rattle.std.proofs.lemmas.Int.{ints}
use Rattle.std.proofs.lemmas.Bool.{cases_lt, cond-true, cond-false}
use Rattle.std.specs.List.Sorted.{IsPermutation}
use Rattle.std.specs.List.{Contains, AllByRecursion}
use Rattle.tasks.specs.declared.timings.Timing.{Timing}
use Rattle.rules.specs.declared.multiple.Multiple.{Multiple}
use Rattle.rules.specs.Peaks.{better, peak}
use Rattle.rules.specs.Slacks.{slack_at}
use Rattle.rules.specs.Tables.{Asked, deadline_at}
use Rattle.rules.specs.Walks.{task_of, Next, carried, Holds}
use Rattle.rules.specs.Demands.{deadline_small, deadline_first}
use Rattle.rules.specs.PeaksLemmas.{lt_lt_z, le_lt_z, peak_most, peak_stays, peak_rises}
use Rattle.rules.proofs.Steps.{carried_demand, carried_small, demand_carried, replaces}

cond_inside : {X Y : Type 0} (f : X → Y) (b : Bool) (x y : X) → cond b (f x) (f y) ≡ f (cond b x y)
cond_inside f true x y = refl
cond_inside f false x y = refl

-- the walk has met the multiples up to `met`: the heap holds the next ones, and the answer is the best of the moments 1 to `met`
pub record Walked (ts : List Timing) (p : ℕ) (xs : List Multiple) (sum : ℕ) (tolerance : ℤ) (moment met : ℕ) : Type 0 where
  pub holds : Holds ts p met xs
  pub carries : sum ≡ sum_by (carried ts) xs
  pub early : met < deadline_at ts p
  pub first : moment ≡ peak (slack_at ts p) met
  pub most : tolerance ≡ slack_at ts p (peak (slack_at ts p) met)

module _ (ts : List Timing) (p : ℕ) where
  -- past met the slack is no more than the moment less what is carried
  slack_under : (met t : ℕ) (xs : List Multiple) (sum : ℕ) → Holds ts p met xs → sum ≡ sum_by (carried ts) xs → met < t → slack_at ts p t ≤ℤ (pos t -ℤ pos sum)
  unfolding slack_at
  slack_under met t xs sum a e h = let d = carried_demand ts p met t xs h a in omega (arith, ints)

  -- up to the least multiple it is no less
  slack_over : (met t : ℕ) (xs : List Multiple) (sum : ℕ) → Holds ts p met xs → sum ≡ sum_by (carried ts) xs → AllByRecursion (λ x. t ≤ x.at) xs → (pos t -ℤ pos sum) ≤ℤ slack_at ts p t
  unfolding slack_at
  slack_over met t xs sum a e h = let d = demand_carried ts p met t xs h a in omega (arith, ints)

  pub sum_small : (xs : List Multiple) (sum : ℕ) (tolerance : ℤ) (moment met : ℕ) → Asked ts p → Walked ts p xs sum tolerance moment met → sum ≤ 406400000000000
  sum_small xs sum tolerance moment met q w =
      omega (arith, carried_small ts p met xs (omega (arith, q.few, q.last)) (omega (arith, w.early, deadline_small ts p)) w.holds, w.carries)

  pub walk_starts : (xs : List Multiple) (sum : ℕ) (tolerance : ℤ) → Holds ts p 0 xs → sum ≡ sum_by (carried ts) xs → tolerance ≡ (pos 1 -ℤ pos sum) → Walked ts p xs sum tolerance 1 0
  unfolding peak
  walk_starts xs sum tolerance a e h =
      let under = slack_under 0 1 xs sum a e (omega arith) in
      let over = slack_over 0 1 xs sum a e (All-weaker (Next ts p 0) (λ x. 1 ≤ x.at) (λ x n. n.some) xs a.each) in
      record { holds = a; carries = e; early = omega (arith, deadline_first ts p); first = refl; most = omega (arith, ints) }

  -- between the multiples the slack rises, and at the last moment of the stretch it is the moment less what is carried
  rises : (met m : ℕ) (xs : List Multiple) (sum : ℕ) → Holds ts p met xs → sum ≡ sum_by (carried ts) xs → AllByRecursion (λ x. m ≤ x.at) xs → (t : ℕ) → met < t → t < m → slack_at ts p t <ℤ slack_at ts p (suc t)
  rises met m xs sum a e least t l h =
      let under = slack_under met t xs sum a e l in
      let over = slack_over met (suc t) xs sum a e (All-weaker (λ x. m ≤ x.at) (λ x. suc t ≤ x.at) (λ x k. omega arith) xs least) in
      omega (arith, ints)

  slack_there : (met m : ℕ) (xs : List Multiple) (sum : ℕ) → Holds ts p met xs → sum ≡ sum_by (carried ts) xs → AllByRecursion (λ x. m ≤ x.at) xs → met < m → (pos m -ℤ pos sum) ≡ slack_at ts p m
  slack_there met m xs sum a e least h = let over = slack_over met m xs sum a e least in let under = slack_under met m xs sum a e h in omega (arith, ints)

  -- one multiple more
  pub walk_meets : (x y : Multiple) (xs ys : List Multiple) (sum : ℕ) (tolerance : ℤ) (moment met : ℕ) (tolerance' : ℤ) (moment' : ℕ) → Contains xs x → AllByRecursion (λ z. x.at ≤ z.at) xs → x.at < deadline_at ts p → y.task ≡ x.task → y.at ≡ x.at + (task_of ts x).period → IsPermutation (y ∷ xs) (x ∷ ys) → tolerance' ≡ cond (lt_z tolerance (pos x.at -ℤ pos sum)) (pos x.at -ℤ pos sum) tolerance → moment' ≡ cond (lt_z tolerance (pos x.at -ℤ pos sum)) x.at moment → Walked ts p xs sum tolerance moment met → Walked ts p ys (sum + (task_of ts x).cost) tolerance' moment' x.at
  walk_meets x y xs ys sum tolerance moment met tolerance' moment' has least early e h moved more later w =
      let f = slack_at ts p in
      let m = x.at in
      let at = All-contains (Next ts p met) xs x (All-from_recursion (Next ts p met) xs w.holds.each) has in
      let moves = replaces ts p met x y xs ys has least e h moved w.holds in
      let best = judges at.after at.some in
      record { holds = moves.0; carries = omega (arith, moves.1, w.carries); early = early; first = best.0; most = best.1 }
    where
      judges : met ≤ x.at → 1 ≤ x.at → (moment' ≡ peak (slack_at ts p) x.at) × (tolerance' ≡ slack_at ts p (peak (slack_at ts p) x.at))
      judges after some =
          let f = slack_at ts p in
          let m = x.at in
          let b = peak f met in
          ⊎_elim
          (λ (further : met < m).
          let there = slack_there met m xs sum w.holds w.carries least further in
          let test : lt_z tolerance (pos m -ℤ pos sum) ≡ lt_z (f b) (f m) = ap₂ lt_z w.most there in
          let moves : peak f m ≡ better f b m = peak_rises f met m further (rises met m xs sum w.holds w.carries least) in
          let new : moment' ≡ better f b m = later ∙ ap (λ t. cond t m moment) test ∙ ap (λ k. cond (lt_z (f b) (f m)) m k) w.first in
          let value : tolerance' ≡ f (better f b m) = more ∙ ap (λ t. cond t (pos m -ℤ pos sum) tolerance) test ∙ ap₂ (λ u v. cond (lt_z (f b) (f m)) u v) there w.most ∙ cond_inside f (lt_z (f b) (f m)) m b in
          (new ∙ sym moves, value ∙ ap f (sym moves)))
          (λ (same : m ≤ met).
          let is : met ≡ m = omega arith in
          let over = slack_over met m xs sum w.holds w.carries least in
          let no : (pos m -ℤ pos sum) ≤ℤ tolerance = let top = peak_most f met m some same in let t = w.most in omega (arith, ints) in
          let test = le_lt_z tolerance (pos m -ℤ pos sum) no in
          (later ∙ cond-false _ m moment test ∙ w.first ∙ ap (peak f) is, more ∙ cond-false _ (pos m -ℤ pos sum) tolerance test ∙ w.most ∙ ap (λ k. f (peak f k)) is))
          (cases_lt met m)

  -- no multiple below the deadline is left, and the deadline has more
  pub walk_ends : (xs : List Multiple) (sum : ℕ) (tolerance : ℤ) (moment met : ℕ) → AllByRecursion (λ z. deadline_at ts p ≤ z.at) xs → tolerance <ℤ (pos (deadline_at ts p) -ℤ pos sum) → Walked ts p xs sum tolerance moment met → (deadline_at ts p ≡ peak (slack_at ts p) (deadline_at ts p)) × ((pos (deadline_at ts p) -ℤ pos sum) ≡ slack_at ts p (peak (slack_at ts p) (deadline_at ts p)))
  walk_ends xs sum tolerance moment met least h w =
      let f = slack_at ts p in
      let d = deadline_at ts p in
      let there = slack_there met d xs sum w.holds w.carries least w.early in
      let more : f (peak f met) <ℤ f d = subst (λ v. f (peak f met) <ℤ v) there (subst (λ v. v <ℤ (pos d -ℤ pos sum)) w.most h) in
      let moves = peak_rises f met d w.early (rises met d xs sum w.holds w.carries least) ∙ cond-true _ d (peak f met) (lt_lt_z (f (peak f met)) (f d) more) in
      (sym moves, there ∙ ap f (sym moves))

  -- not even the deadline could have more
  pub walk_stops : (xs : List Multiple) (sum : ℕ) (tolerance : ℤ) (moment met : ℕ) → (pos (deadline_at ts p) -ℤ pos sum) ≤ℤ tolerance → Walked ts p xs sum tolerance moment met → (moment ≡ peak (slack_at ts p) (deadline_at ts p)) × (tolerance ≡ slack_at ts p (peak (slack_at ts p) (deadline_at ts p)))
  walk_stops xs sum tolerance moment met h w =
      let f = slack_at ts p in
      let d = deadline_at ts p in
      let early = w.early in
      let stays = peak_stays f met d (omega arith) (λ t l k. let under = slack_under met t xs sum w.holds w.carries l in let most = w.most in omega (arith, ints)) in
      (w.first ∙ sym stays, w.most ∙ ap f (sym stays))
