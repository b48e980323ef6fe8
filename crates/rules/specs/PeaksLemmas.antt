-- The first moment of the greatest value: what it is, and when it moves.
use Rattle.std.specs.Prelude.{◌≡◌, ℕ, zero, suc, ◌<◌, ◌≤◌, true, false, cond, ℤ, ◌≤ℤ◌, ◌<ℤ◌, int_lt, refl}
use Rattle.std.proofs.Common.{sym, ap₂, ◌∙◌, subst}
use Rattle.std.proofs.Math.Path.{ap}
use Rattle.std.proofs.Math.Logic.{⊎_elim}
use native.Mathlib.Omega.{arith}
use Rattle.std.proofs.lemmas.Int.{ints, by_lt_z}
use Rattle.std.proofs.lemmas.Bool.{cond-true, cond-false, cases_lt}
use Rattle.rules.specs.Peaks.{better, peak}

pub lt_lt_z : (a b : ℤ) → a <ℤ b → int_lt a b ≡ true
lt_lt_z a b h = grind (arith, ints)

pub le_lt_z : (a b : ℤ) → b ≤ℤ a → int_lt a b ≡ false
le_lt_z a b h = grind (arith, ints)

module _ (f : ℕ → ℤ) where
  -- one of the two, with a value that is no less than either's, and the later one only where it has more
  better_cases : (P : ℕ → Type 0) (a b : ℕ) → (f a <ℤ f b → P b) → (f b ≤ℤ f a → P a) → P (better f a b)
  better_cases P a b more less =
      by_lt_z (f a) (f b)
      (λ h. subst P (sym (cond-true (int_lt (f a) (f b)) b a (lt_lt_z (f a) (f b) h))) (more h))
      (λ h. subst P (sym (cond-false (int_lt (f a) (f b)) b a (le_lt_z (f a) (f b) h))) (less h))

  pub peak_from : (n : ℕ) → 1 ≤ peak f n
  unfolding peak
  peak_from zero = omega arith
  peak_from (suc n) = better_cases (λ b. 1 ≤ b) (peak f n) (suc n) (λ h. omega arith) (λ h. peak_from n)

  pub peak_within : (n : ℕ) → 1 ≤ n → peak f n ≤ n
  unfolding peak
  peak_within zero h = absurd (omega (arith, h))
  peak_within (suc zero) h = better_cases (λ b. b ≤ 1) 1 1 (λ h. omega arith) (λ h. omega arith)
  peak_within (suc (suc n)) h = better_cases (λ b. b ≤ suc (suc n)) (peak f (suc n)) (suc (suc n)) (λ h. omega arith) (λ h. omega (arith, peak_within (suc n) (omega arith)))

  pub peak_most : (n t : ℕ) → 1 ≤ t → t ≤ n → f t ≤ℤ f (peak f n)
  unfolding peak
  peak_most zero t l h = absurd (omega (arith, l, h))
  peak_most (suc n) t l h =
      let below = peak f n in
      ⊎_elim
      (λ (old : t < suc n).
      let m = peak_most n t l (omega arith) in
      better_cases (λ b. f t ≤ℤ f b) below (suc n) (λ more. omega (arith, ints)) (λ more. m))
      (λ (new : suc n ≤ t).
      let same : t ≡ suc n = omega arith in
      better_cases (λ b. f t ≤ℤ f b) below (suc n) (λ more. let e = ap f same in omega (arith, ints)) (λ less. let e = ap f same in omega (arith, ints)))
      (cases_lt t (suc n))

  pub peak_first : (n t : ℕ) → 1 ≤ t → t < peak f n → f t <ℤ f (peak f n)
  unfolding peak
  peak_first zero t l h = absurd (omega (arith, l, h))
  peak_first (suc n) t l h =
      better_cases (λ b. t < b → f t <ℤ f b) (peak f n) (suc n)
      (λ more lt. let m = peak_most n t l (omega arith) in omega (arith, ints))
      (λ less lt. peak_first n t l lt)
      h

  -- where no later moment has more, it stays
  pub peak_stays : (m n : ℕ) → m ≤ n → ((t : ℕ) → m < t → t ≤ n → f t ≤ℤ f (peak f m)) → peak f n ≡ peak f m
  unfolding peak
  peak_stays m zero h less = let same : 0 ≡ m = omega arith in ap (peak f) same
  peak_stays m (suc n) h less =
      ⊎_elim
      (λ (old : m < suc n).
      let stays = peak_stays m n (omega arith) (λ t l k. less t l (omega arith)) in
      let no = less (suc n) old (omega arith) in
      cond-false (int_lt (f (peak f n)) (f (suc n))) (suc n) (peak f n) (le_lt_z (f (peak f n)) (f (suc n)) (subst (λ b. f (suc n) ≤ℤ f b) (sym stays) no)) ∙ stays)
      (λ (new : suc n ≤ m). let same : suc n ≡ m = omega arith in ap (peak f) same)
      (cases_lt m (suc n))

  better_twice : (a b c : ℕ) → f b <ℤ f c → better f (better f a b) c ≡ better f a c
  better_twice a b c h =
      better_cases (λ x. better f x c ≡ better f a c) a b
      (λ more. let n : f a <ℤ f c = omega (arith, ints) in cond-true _ _ _ (lt_lt_z (f b) (f c) h) ∙ sym (cond-true _ _ _ (lt_lt_z (f a) (f c) n)))
      (λ less. refl)

  -- where the values rise from m on, only the last of them counts
  pub peak_rises : (m n : ℕ) → m < n → ((t : ℕ) → m < t → t < n → f t <ℤ f (suc t)) → peak f n ≡ better f (peak f m) n
  unfolding peak
  peak_rises m zero h rises = absurd (omega (arith, h))
  peak_rises m (suc n) h rises =
      ⊎_elim
      (λ (old : m < n). ap (λ b. better f b (suc n)) (peak_rises m n old (λ t l k. rises t l (omega arith))) ∙ better_twice (peak f m) n (suc n) (rises n old (omega arith)))
      (λ (new : n ≤ m). let same : n ≡ m = omega arith in ap (λ k. better f (peak f k) (suc n)) same)
      (cases_lt m n)

pub peak_same : (f g : ℕ → ℤ) → ((t : ℕ) → f t ≡ g t) → (n : ℕ) → peak f n ≡ peak g n
unfolding peak
peak_same f g h zero = refl
peak_same f g h (suc n) =
    let same = peak_same f g h n in
    ap (λ b. better f b (suc n)) same ∙ ap₂ (λ u v. cond (int_lt u v) (suc n) (peak g n)) (h (peak g n)) (h (suc n))
