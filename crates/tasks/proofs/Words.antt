-- The bits of a word, and the choice that it tells.
use Rattle.std.proofs.Common.{◌≡◌, ℕ, zero, suc, ◌+◌, ◌-◌, ◌*◌, ◌/◌, ◌%◌, ◌^◌, ◌<◌, ◌≤◌, Bool, true, false, cond, eqb, [], ◌∷◌, ◌++◌, length, sym, refl, ap, ◌∙◌, subst, ap₂, ⊎_elim, add-zero, suc-mul, add_comm, pow-suc, div-one, one-add, arith, length-append, pow_mono}
use lib.Bits.{block_half, block_odd}
use lib.Count.{ones, ones_in, ones_cat, count_trailing_zeros, under}
use Rattle.std.proofs.Permutation.{which}
use Rattle.std.proofs.lemmas.Bool.{cases_lt}
use Rattle.std.proofs.lemmas.Nat.{shr-shr, shr_split, shr_below, div-mul-add, div_below, mod_below, pow_pos}
use Rattle.std.proofs.lemmas.Bool.Decides.{nat_tests}
use Rattle.tasks.specs.Choices.{Choice, told, rising}

pub told_zero : (w : ℕ) → told w 0 ≡ eqb (w % 2) 1
told_zero w = ap (λ x. eqb (x % 2) 1) (div-one w)

pub told_suc : (w i : ℕ) → told w (suc i) ≡ told (w / 2) i
told_suc w i = ap (λ x. eqb (x % 2) 1) (ap (λ e. w / 2 ^ e) (sym (one-add i)) ∙ sym (shr-shr w 1 i))

-- the bits of r below, and those of a above
pub told_below : (k a r i : ℕ) → i < k → told (a * 2 ^ k + r) i ≡ told r i
told_below zero a r i h = absurd (omega arith)
told_below (suc k) a r zero h = told_zero (a * 2 ^ suc k + r) ∙ ap (λ x. eqb x 1) (block_odd a k r) ∙ sym (told_zero r)
told_below (suc k) a r (suc i) h = told_suc (a * 2 ^ suc k + r) i ∙ ap (λ x. told x i) (block_half a k r) ∙ told_below k a (r / 2) i (omega arith) ∙ sym (told_suc r i)

pub told_above : (k a r j : ℕ) → r < 2 ^ k → told (a * 2 ^ k + r) (k + j) ≡ told a j
told_above k a r j h = ap (λ x. eqb (x % 2) 1) (sym (shr-shr (a * 2 ^ k + r) k j) ∙ ap (λ x. x / 2 ^ j) (div-mul-add a (2 ^ k) r h))

-- no bits at k or above in what is below 2 ^ k
pub told_short : (w k : ℕ) → w < 2 ^ k → (i : ℕ) → k ≤ i → told w i ≡ false
told_short w k h i l = let z : w / 2 ^ i ≡ 0 = omega (arith, div_below w (2 ^ i) 1 (pow_pos i) (omega (arith, pow_mono l))) in ap (λ x. eqb (x % 2) 1) z

-- a word of the k lowest bits and one more at k
pub told_top : (k r : ℕ) → r < 2 ^ k → told (r + 2 ^ k) k ≡ true
told_top k r h = ap (λ x. told x k) one_above ∙ ap (told (1 * 2 ^ k + r)) (sym (add-zero k)) ∙ told_above k 1 r 0 h
  where
    one_above : r + 2 ^ k ≡ 1 * 2 ^ k + r
    one_above = omega arith

pub told_under : (k r i : ℕ) → i < k → told (r + 2 ^ k) i ≡ told r i
told_under k r i h = ap (λ x. told x i) one_above ∙ told_below k 1 r i h
  where
    one_above : r + 2 ^ k ≡ 1 * 2 ^ k + r
    one_above = omega arith

-- a word without the bit at i, which it has
module _ (w i : ℕ) (has : told w i ≡ true) where
  odd : w / 2 ^ i % 2 ≡ 1
  odd = grind (arith, nat_tests)

  split : w - 2 ^ i ≡ (w / 2 ^ i - 1) * 2 ^ i + w % 2 ^ i
  split =
      let a = w / 2 ^ i in
      let o = odd in
      let e : (a - 1) * 2 ^ i + 2 ^ i ≡ a * 2 ^ i = sym (suc-mul (a - 1) (2 ^ i)) ∙ ap (λ x. x * 2 ^ i) (omega arith) in
      omega (arith, shr_split w i)

  pub has_le : 2 ^ i ≤ w
  has_le =
      let a = w / 2 ^ i in
      let o = odd in
      let e : (a - 1) * 2 ^ i + 2 ^ i ≡ a * 2 ^ i = sym (suc-mul (a - 1) (2 ^ i)) ∙ ap (λ x. x * 2 ^ i) (omega arith) in
      omega (arith, shr_split w i)

  low : w % 2 ^ i < 2 ^ i
  low = mod_below w (2 ^ i) (pow_pos i)

  pub cleared_at : told (w - 2 ^ i) i ≡ false
  cleared_at =
      let o = odd in
      ap (λ x. told x i) split ∙ ap (told _) (sym (add-zero i)) ∙ told_above i (w / 2 ^ i - 1) (w % 2 ^ i) 0 low ∙ told_zero (w / 2 ^ i - 1) ∙ grind (arith, nat_tests)

  below : (j : ℕ) → j < i → told (w - 2 ^ i) j ≡ told w j
  below j h = ap (λ x. told x j) split ∙ told_below i (w / 2 ^ i - 1) (w % 2 ^ i) j h ∙ sym (ap (λ x. told x j) (sym (shr_split w i)) ∙ told_below i (w / 2 ^ i) (w % 2 ^ i) j h)

  above : (j : ℕ) → told (w - 2 ^ i) (i + suc j) ≡ told w (i + suc j)
  above j =
      let o = odd in
      let a = w / 2 ^ i in
      let halves : (a - 1) / 2 ≡ a / 2 = omega arith in
      ap (λ x. told x (i + suc j)) split ∙ told_above i (a - 1) (w % 2 ^ i) (suc j) low ∙ told_suc (a - 1) j ∙ ap (λ x. told x j) halves ∙ sym (told_suc a j)
      ∙ sym (ap (λ x. told x (i + suc j)) (sym (shr_split w i)) ∙ told_above i a (w % 2 ^ i) (suc j) low)

  pub cleared_else : (j : ℕ) → (j ≡ i → ⊥) → told (w - 2 ^ i) j ≡ told w j
  cleared_else j ne = ⊎_elim (below j) (λ h. let e : j ≡ i + suc (j - i - 1) = omega arith in ap (told (w - 2 ^ i)) e ∙ above (j - i - 1) ∙ ap (told w) (sym e)) (cases_lt j i)

-- ---- the lowest set bit

low_at : (k n m : ℕ) → n % 2 ≡ m → ((j : ℕ) → j < count_trailing_zeros k (n / 2) → told (n / 2) j ≡ false) → (j : ℕ) → j < under m (count_trailing_zeros k (n / 2)) → told n j ≡ false
low_at k n zero e rest zero h = told_zero n ∙ ap (λ x. eqb x 1) e
low_at k n zero e rest (suc j) h = told_suc n j ∙ rest j (omega arith)
low_at k n (suc m) e rest j h = absurd (omega arith)

pub trailing_low : (k n j : ℕ) → j < count_trailing_zeros k n → told n j ≡ false
unfolding count_trailing_zeros
trailing_low zero n j h = absurd (omega arith)
trailing_low (suc k) n j h = low_at k n (n % 2) refl (trailing_low k (n / 2)) j h

set_at : (k n m : ℕ) → n % 2 ≡ m → 0 < n → ((0 < n / 2) → told (n / 2) (count_trailing_zeros k (n / 2)) ≡ true) → told n (under m (count_trailing_zeros k (n / 2))) ≡ true
set_at k n zero e p rest = told_suc n (count_trailing_zeros k (n / 2)) ∙ rest (omega arith)
set_at k n (suc m) e p rest = told_zero n ∙ grind (arith, nat_tests)

pub trailing_set : (k n : ℕ) → 0 < n → n < 2 ^ k → told n (count_trailing_zeros k n) ≡ true
unfolding count_trailing_zeros
trailing_set zero n p h = absurd (omega arith)
trailing_set (suc k) n p h = set_at k n (n % 2) refl p (λ q. trailing_set k (n / 2) q (omega (arith, pow-suc 2 k)))

-- ---- the chosen points

pub rising_same : (c d : Choice) (k : ℕ) → ((i : ℕ) → i < k → c i ≡ d i) → rising c k ≡ rising d k
rising_same c d zero h = refl
rising_same c d (suc k) h = ap₂ (λ l b. l ++ cond b (suc k ∷ []) []) (rising_same c d k (λ i l. h i (omega arith))) (h k (omega arith))

pub rising_none : (c : Choice) (k : ℕ) → ((i : ℕ) → i < k → c i ≡ false) → rising c k ≡ []
rising_none c zero h = refl
rising_none c (suc k) h = ap₂ (λ l b. l ++ cond b (suc k ∷ []) []) (rising_none c k (λ i l. h i (omega arith))) (h k (omega arith))

-- the first chosen point, and then the others
pub rising_first : (c d : Choice) (i k : ℕ) → i < k → ((j : ℕ) → j < i → c j ≡ false) → c i ≡ true → d i ≡ false → ((j : ℕ) → (j ≡ i → ⊥) → d j ≡ c j) → rising c k ≡ suc i ∷ rising d k
rising_first c d i zero l low at gone else = absurd (omega arith)
rising_first c d i (suc k) l low at gone else = ⊎_elim
    (λ e.
    ap₂ (λ x b. x ++ cond b (suc k ∷ []) []) (rising_none c k (λ j h. low j (omega arith))) (ap c e ∙ at)
    ∙ ap (λ x. suc x ∷ []) e
    ∙ sym (ap₂ (λ x b. suc i ∷ (x ++ cond b (suc k ∷ []) [])) (rising_none d k (λ j h. else j (omega arith) ∙ low j (omega arith))) (ap d e ∙ gone)))
    (λ ne. ap₂ (λ x b. x ++ cond b (suc k ∷ []) []) (rising_first c d i k (omega arith) low at gone else) (sym (else k ne)))
    (which k i)

length-cond : (b : Bool) (x : ℕ) → length (cond b (x ∷ []) []) ≡ cond b 1 0
length-cond true x = refl
length-cond false x = refl

ones_bit : (a : ℕ) → a < 2 → ones a ≡ cond (told a 0) 1 0
unfolding ones ones_in
ones_bit a h = ⊎_elim (λ e. subst (λ x. ones x ≡ cond (told x 0) 1 0) (sym e) refl) (λ ne. let e : a ≡ 1 = omega arith in subst (λ x. ones x ≡ cond (told x 0) 1 0) (sym e) refl) (which a 0)

-- as many bits as chosen points
pub ones_rising : (w k : ℕ) → w < 2 ^ k → ones w ≡ length (rising (told w) k)
unfolding ones ones_in
ones_rising w zero h = let e : w ≡ 0 = omega arith in ap ones e
ones_rising w (suc k) h =
    let a = w / 2 ^ k in
    let r = w % 2 ^ k in
    let low : r < 2 ^ k = mod_below w (2 ^ k) (pow_pos k) in
    let small : a < 2 = shr_below w 1 k (subst (λ x. w < 2 ^ x) (sym (one-add k)) h) in
    let is : a * 2 ^ k + r ≡ w = shr_split w k in
    let top : told w k ≡ told a 0 = ap (told w) (sym (add-zero k)) ∙ ap (λ x. told x (k + 0)) (sym is) ∙ told_above k a r 0 low in
    let same : rising (told w) k ≡ rising (told r) k = rising_same (told w) (told r) k (λ i l. ap (λ x. told x i) (sym is) ∙ told_below k a r i l) in
    ap ones (sym is) ∙ ones_cat k a r low ∙ ap₂ ◌+◌ (ones_bit a small) (ones_rising r k low) ∙ add_comm _ _
    ∙ sym (length-append (rising (told w) k) _ ∙ ap₂ ◌+◌ (ap length same) (length-cond (told w k) (suc k) ∙ ap (λ b. cond b 1 0) top))
