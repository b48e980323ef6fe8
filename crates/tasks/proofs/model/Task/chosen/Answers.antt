use Rattle.std.proofs.Common.{◌≡◌, ℕ, ◌+◌, ◌-◌, ◌*◌, ◌%◌, ◌^◌, ◌<◌, true, false, [], ◌∷◌, ◌++◌, vec_items, sym, ap, ◌∙◌, ap₂, ⊎_elim, add-one, arith}
use lib.Count.{count_trailing_zeros}
use Rattle.std.proofs.lemmas.Nat.{one_shl}
use Rattle.std.proofs.lemmas.List.{append_assoc, append-nil}
use Rattle.std.proofs.lemmas.Bool.{cases_lt}
use Rattle.std.proofs.lemmas.Bool.Decides.{nat_tests}
use Rattle.tasks.specs.Choices.{told, rising}
use Rattle.tasks.specs.Tasks.{point_count}
use Rattle.tasks.proofs.Answering.{was_admitted}
use Rattle.tasks.proofs.Words.{trailing_low, trailing_set, has_le, cleared_at, cleared_else, rising_first, rising_none, told_short}
use Rattle.tasks.proofs.model.Task.chosen.Goals as goal

module _ (c : goal.In_ok-push) where
  at : ℕ
  at = count_trailing_zeros 64 c.loop-rest.rest

  small : c.loop-rest.rest < 2 ^ point_count c.args.self.now
  small =
      let h = was_admitted c.args.self.now c.args.word (sym c.in_ok-admit.was ∙ c.admit.ensures) in
      let w : c.args.word < 2 ^ point_count c.args.self.now = grind (arith, nat_tests) in
      omega (arith, c.loop-rest.invariant.1)

  set : told c.loop-rest.rest at ≡ true
  unfolding at
  set = trailing_set 64 c.loop-rest.rest (omega arith) (omega (arith, c.ranges.word.fits, c.loop-rest.invariant.1))

  -- the lowest bit lies below the number of points
  within : at < point_count c.args.self.now
  within = ⊎_elim (λ h. h) (λ h. absurd (never (told_short c.loop-rest.rest _ small at h) set)) (cases_lt at (point_count c.args.self.now))
    where
      never : told c.loop-rest.rest at ≡ false → told c.loop-rest.rest at ≡ true → ⊥
      never p q = grind arith

  one_bit : (1 * 2 ^ at) % 2 ^ 64 ≡ 2 ^ at
  one_bit = one_shl at 64 (omega (arith, within, c.args.self.now.count))

pub overflow_sub-rest : goal.overflow_sub-rest
unfolding at
overflow_sub-rest c = omega (arith, one_bit c, has_le c.loop-rest.rest (at c) (set c))

pub loop-rest-preserved : goal.loop-rest-preserved
unfolding at
loop-rest-preserved c =
    let t = c.args.self.now in
    let l = c.loop-rest in
    let i = at c in
    let bit : (1 * 2 ^ i) % 2 ^ 64 ≡ 2 ^ i = one_bit c in
    let first : rising (told l.rest) (point_count t) ≡ (i + 1) ∷ rising (told (l.rest - 2 ^ i)) (point_count t) =
    rising_first (told l.rest) (told (l.rest - 2 ^ i)) i (point_count t) (within c) (trailing_low 64 l.rest) (set c) (cleared_at l.rest i (set c)) (cleared_else l.rest i (set c)) ∙ ap (λ n. n ∷ rising (told (l.rest - 2 ^ i)) (point_count t)) (sym (add-one i)) in (
      ap₂ (λ xs b. xs ++ rising (told (l.rest - b)) (point_count t)) c.in_ok-push.ensures.items bit ∙ append_assoc (vec_items l.list) ((i + 1) ∷ []) _ ∙ ap (λ r. vec_items l.list ++ r) (sym first) ∙ l.invariant.0,
      omega (arith, bit, l.invariant.1),
    )

pub returns : goal.returns
returns c =
    let t = c.args.self.now in
    let l = c.loop-rest in
    let none = rising_none (told l.rest) (point_count t) (λ i h. ap (λ w. told w i) c.loop-rest-test.false ∙ told_short 0 0 (omega arith) i (omega arith)) in (
      was_admitted t c.args.word (sym c.in_ok-admit.was ∙ c.admit.ensures),
      sym (append-nil _) ∙ ap (λ r. vec_items l.list ++ r) (sym none) ∙ l.invariant.0,
    )
