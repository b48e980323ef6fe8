-- What each step of a sift keeps. n is the number of items.
use Rattle.std.proofs.Common.{◌≡◌, ℕ, zero, suc, ◌+◌, ◌-◌, ◌*◌, ◌/◌, ◌<◌, ◌≤◌, Bool, true, false, List, length, get_or, sym, refl, ap, ◌∙◌, subst, ⊎_elim, arith}
use Rattle.std.proofs.Permutation.{which}
use Rattle.std.proofs.ByRecursion.{All-from_get_or}
use Rattle.std.specs.Prelude.{slice_get, Option, MatchOption, [], ◌∷◌}
use Rattle.std.specs.List.{Contains}
use Rattle.std.specs.Cmp.{IsTotalOrder}
use Rattle.std.specs.declared.cmp.Ordering.{Ordering}
use Rattle.heap.specs.Heaps.{HeapedWithin, NoChildBefore, Heaped, Least}
use Rattle.heap.specs.Orders.{before_by, before_asym, before_chain}

-- ys is xs with the items at i and j exchanged
abbrev pub Swapped : {X : Type 0} → List X → List X → ℕ → ℕ → Type 0
Swapped {X} xs ys i j = ((d : X) → get_or ys i d ≡ get_or xs j d) × ((d : X) → get_or ys j d ≡ get_or xs i d) × ((k : ℕ) (d : X) → (k ≡ i → ⊥) → (k ≡ j → ⊥) → get_or ys k d ≡ get_or xs k d)

module _ {X : Type 0} (cmp : X → X → Ordering) where
  abbrev before : X → X → Bool
  before = before_by cmp

  -- at equal items
  along : {a b x y : X} → a ≡ x → b ≡ y → before y x ≡ false → before b a ≡ false
  along p q h = (λ k. before (q k) (p k)) ∙ h

  -- ---- the item at j rises

  -- only the item at j may come before its parent, and no child of it comes before that parent
  pub record Rising (xs : List X) (j n : ℕ) : Type 0 where
    pub others : (p k : ℕ) (d : X) → p * 2 + 1 ≤ k → k ≤ p * 2 + 2 → k < n → (k ≡ j → ⊥) → before (get_or xs k d) (get_or xs p d) ≡ false
    pub around : (p k : ℕ) (d : X) → p * 2 + 1 ≤ j → j ≤ p * 2 + 2 → j * 2 + 1 ≤ k → k ≤ j * 2 + 2 → k < n → before (get_or xs k d) (get_or xs p d) ≡ false

  pub rising_begins : (xs : List X) (n : ℕ) → HeapedWithin before xs 0 (n - 1) → Rising xs (n - 1) n
  unfolding HeapedWithin
  rising_begins xs n h = record { others = λ p k d a b f u. h p k d (omega arith) a b (omega arith); around = λ p k d a b f g i. absurd (omega arith) }

  rising_ends : (xs : List X) (j n : ℕ) → ((p : ℕ) (d : X) → p * 2 + 1 ≤ j → j ≤ p * 2 + 2 → before (get_or xs j d) (get_or xs p d) ≡ false) → Rising xs j n → HeapedWithin before xs 0 n
  unfolding HeapedWithin
  rising_ends xs j n over h = λ p k d _ a b f. ⊎_elim
      (λ e. along refl (ap (λ m. get_or xs m d) e) (over p d (omega arith) (omega arith)))
      (h.others p k d a b f) (which k j)

  pub rising_tops : (xs : List X) (j n : ℕ) → j ≤ 0 → length xs ≡ n → Rising xs j n → Heaped before xs
  rising_tops xs j n z e h = subst (HeapedWithin before xs 0) (sym e) (rising_ends xs j n (λ p d a b. absurd (omega arith)) h)

  pub rising_rests : (xs : List X) (j n : ℕ) → ((d : X) → false ≡ before (get_or xs j d) (get_or xs ((j - 1) / 2) d)) → length xs ≡ n → Rising xs j n → Heaped before xs
  rising_rests xs j n t e h = subst (HeapedWithin before xs 0) (sym e) (rising_ends xs j n (λ p d a b. let q : p ≡ (j - 1) / 2 = omega arith in along (ap (λ m. get_or xs m d) q) refl (sym (t d))) h)

  -- ---- the item at j sinks

  -- only the item at j may have a child that comes before it, and no child of it comes before its parent
  pub record Sinking (xs : List X) (j n : ℕ) : Type 0 where
    pub others : (p k : ℕ) (d : X) → p * 2 + 1 ≤ k → k ≤ p * 2 + 2 → k < n → (p ≡ j → ⊥) → before (get_or xs k d) (get_or xs p d) ≡ false
    pub around : (p k : ℕ) (d : X) → p * 2 + 1 ≤ j → j ≤ p * 2 + 2 → j * 2 + 1 ≤ k → k ≤ j * 2 + 2 → k < n → before (get_or xs k d) (get_or xs p d) ≡ false

  pub sinking_begins : (xs : List X) → HeapedWithin before xs 1 (length xs) → Sinking xs 0 (length xs)
  unfolding HeapedWithin
  sinking_begins xs h = record { others = λ p k d a b f u. h p k d (omega arith) a b f; around = λ p k d a b f g i. absurd (omega arith) }

  pub sinking_ends : (xs : List X) (j n : ℕ) → n / 2 ≤ j → length xs ≡ n → Sinking xs j n → Heaped before xs
  unfolding HeapedWithin
  sinking_ends xs j n l e h = subst (HeapedWithin before xs 0) (sym e) (λ p k d _ a b f. h.others p k d a b f (omega arith))

  module _ (total : IsTotalOrder cmp) where
    asym : (x y : X) → before x y ≡ true → before y x ≡ false
    asym = before_asym total

    chain : (x y z : X) → before x y ≡ false → before y z ≡ false → before x z ≡ false
    chain = before_chain total

    -- from c to its parent j, which it comes before
    pub rises : (xs ys : List X) (j c n : ℕ) → j * 2 + 1 ≤ c → c ≤ j * 2 + 2 → c < n → Swapped xs ys j c → ((d : X) → true ≡ before (get_or xs c d) (get_or xs j d)) → Rising xs c n → Rising ys j n
    rises xs ys j c n from to in' s t h = record {
      others = λ p k d a b f u. ⊎_elim
          (λ e. ⊎_elim
          (λ v. along (ap (λ m. get_or ys m d) e ∙ s.0 d) (ap (λ m. get_or ys m d) v ∙ s.1 d) (asym _ _ (sym (t d))))
          (λ v. along (ap (λ m. get_or ys m d) e ∙ s.0 d) (s.2 k d u v) (chain _ _ _ (h.others j k d (omega arith) (omega arith) f v) (asym _ _ (sym (t d))))) (which k c))
          (λ w. let z : k ≡ c → ⊥ = omega arith in ⊎_elim
          (λ v. along (ap (λ m. get_or ys m d) v ∙ s.1 d) (s.2 k d u z) (h.around j k d from to (omega arith) (omega arith) f))
          (λ v. along (s.2 p d w v) (s.2 k d u z) (h.others p k d a b f z)) (which p c)) (which p j);
      around = λ p k d a b f g i.
          let over = h.others p j d a b (omega arith) (omega arith) in
          let same = s.2 p d (omega arith) (omega arith) in
          ⊎_elim
          (λ e. along same (ap (λ m. get_or ys m d) e ∙ s.1 d) over)
          (λ w. along same (s.2 k d (omega arith) w) (chain _ _ _ (h.others j k d f g i w) over)) (which k c);
    }

    irrefl : (x : X) (b : Bool) → before x x ≡ b → before x x ≡ false
    irrefl x true e = asym x x e
    irrefl x false e = e

    itself : (xs : List X) (j k : ℕ) (d : X) → k ≡ j → before (get_or xs k d) (get_or xs j d) ≡ false
    itself xs j k d e = along refl (ap (λ m. get_or xs m d) e) (irrefl (get_or xs j d) _ refl)

    pub only_child : (xs : List X) (j c : ℕ) → c ≡ j * 2 + 1 → length xs ≤ c + 1 → NoChildBefore before xs j c
    unfolding NoChildBefore
    only_child xs j c e l = λ k d a b f. itself xs c k d (omega arith)

    pub left_child : (xs : List X) (j c : ℕ) → c ≡ j * 2 + 1 → ((d : X) → false ≡ before (get_or xs (c + 1) d) (get_or xs c d)) → NoChildBefore before xs j c
    unfolding NoChildBefore
    left_child xs j c e t = λ k d a b f. ⊎_elim (itself xs c k d) (λ u. let p : k ≡ c + 1 = omega arith in along refl (ap (λ m. get_or xs m d) p) (sym (t d))) (which k c)

    pub right_child : (xs : List X) (j c : ℕ) → c ≡ j * 2 + 1 → ((d : X) → true ≡ before (get_or xs (c + 1) d) (get_or xs c d)) → NoChildBefore before xs j (c + 1)
    unfolding NoChildBefore
    right_child xs j c e t = λ k d a b f. ⊎_elim (itself xs (c + 1) k d) (λ u. let p : k ≡ c = omega arith in along refl (ap (λ m. get_or xs m d) p) (asym _ _ (sym (t d)))) (which k (c + 1))

    pub sinking_rests : (xs : List X) (j c n : ℕ) → ((d : X) → false ≡ before (get_or xs c d) (get_or xs j d)) → NoChildBefore before xs j c → length xs ≡ n → Sinking xs j n → Heaped before xs
    unfolding HeapedWithin NoChildBefore
    sinking_rests xs j c n t first e h = subst (HeapedWithin before xs 0) (sym e) (λ p k d _ a b f. ⊎_elim
        (λ s. along (ap (λ m. get_or xs m d) s) refl (chain _ _ _ (first k d (omega arith) (omega arith) (omega arith)) (sym (t d))))
        (λ u. h.others p k d a b f u) (which p j))

    -- from j to its first child c, which comes before it
    pub sinks : (xs ys : List X) (j c n : ℕ) → j * 2 + 1 ≤ c → c ≤ j * 2 + 2 → c < n → Swapped xs ys j c → ((d : X) → true ≡ before (get_or xs c d) (get_or xs j d)) → NoChildBefore before xs j c → length xs ≡ n → Sinking xs j n → Sinking ys c n
    unfolding NoChildBefore
    sinks xs ys j c n from to in' s t first eq h = record {
      others = λ p k d a b f u. ⊎_elim
          (λ e. ⊎_elim
          (λ v. along (ap (λ m. get_or ys m d) e ∙ s.0 d) (ap (λ m. get_or ys m d) v ∙ s.1 d) (asym _ _ (sym (t d))))
          (λ v. along (ap (λ m. get_or ys m d) e ∙ s.0 d) (s.2 k d (omega arith) v) (first k d (omega arith) (omega arith) (omega arith))) (which k c))
          (λ w. ⊎_elim
          (λ v. along (s.2 p d w u) (ap (λ m. get_or ys m d) v ∙ s.0 d) (h.around p c d (omega arith) (omega arith) from to in'))
          (λ v. let z : k ≡ c → ⊥ = omega arith in along (s.2 p d w u) (s.2 k d v z) (h.others p k d a b f w)) (which k j)) (which p j);
      around = λ p k d a b f g i. let e : p ≡ j = omega arith in along (ap (λ m. get_or ys m d) e ∙ s.0 d) (s.2 k d (omega arith) (omega arith)) (h.others c k d f g i (omega arith));
    }

    -- ---- the first item of a heap

    top : (xs : List X) (n : ℕ) (d : X) → HeapedWithin before xs 0 n → (fuel k : ℕ) → k ≤ fuel → k < n → before (get_or xs k d) (get_or xs 0 d) ≡ false
    unfolding HeapedWithin
    top xs n d h zero k a b = itself xs 0 k d (omega arith)
    top xs n d h (suc fuel) k a b = ⊎_elim (itself xs 0 k d)
        (λ u. chain _ _ _ (h ((k - 1) / 2) k d (omega arith) (omega arith) (omega arith) b) (top xs n d h fuel ((k - 1) / 2) (omega arith) (omega arith))) (which k 0)

    pub first_least : (xs : List X) (x : X) → x ≡ get_or xs 0 x → Heaped before xs → Least before x xs
    first_least xs x e h = All-from_get_or (λ y. before y x ≡ false) xs x (λ k b. along e refl (top xs (length xs) x h k k (omega arith) b))

    -- what is said of the first item of a heap, where it has one
    abbrev Firsts : List X → Option X → Type 0
    Firsts xs r = MatchOption r (xs ≡ []) (λ x. Contains xs x × Least before x xs)

    pub first_of : (xs : List X) (r : Option X) → r ≡ slice_get xs 0 → Heaped before xs → Firsts xs r
    first_of [] r e h = subst (Firsts []) (sym e) refl
    first_of (x ∷ xs) r e h = subst (Firsts (x ∷ xs)) (sym e) ((0, omega arith, refl), first_least (x ∷ xs) x refl h)
