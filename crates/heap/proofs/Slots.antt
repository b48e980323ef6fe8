-- From what a sift says of the first slots to what the heap holds after it.
-- xs is what the slots held at the call, of which n were in use; ys is what they hold as the sift begins; zs is what the sifted part holds after it.
use Rattle.std.proofs.Common.{◌≡◌, ℕ, ◌+◌, ◌-◌, ◌<◌, ◌≤◌, Bool, List, [], ◌∷◌, ◌++◌, length, get_or, take, drop, set, sym, refl, ap, ◌∙◌, subst, arith, length-set, length-take-le, get_or-set_other, get_or-take, get_or-set_same, drop-drop, take_at, drop-set-lt}
use lib.Seq.{take-set-lt}
use Rattle.std.specs.List.Sorted.{IsPermutation}
use Rattle.std.proofs.lemmas.List.Edits.{swap_is}
use Rattle.std.proofs.lemmas.List.{take_more, take_more_set, drop_more}
use Rattle.std.proofs.lemmas.Slice.{drop-append-drop}
use Rattle.std.proofs.lemmas.List.Sorted.{IsPermutation-sym, IsPermutation-trans, IsPermutation-cons, IsPermutation-swap, IsPermutation-to_front, length_permutation}
use Rattle.heap.specs.Heaps.{HeapedWithin, Heaped}

-- a heap stays one where its items stay
pub heaped_kept : {X : Type 0} (before : X → X → Bool) (xs ys : List X) (low end : ℕ) → end ≤ length xs → ((i : ℕ) (d : X) → low ≤ i → i < end → get_or ys i d ≡ get_or xs i d) → Heaped before xs → HeapedWithin before ys low end
unfolding HeapedWithin
heaped_kept before xs ys low end within same h = λ p k d l a b f. (λ z. before (same k d (omega arith) f z) (same p d l (omega arith) z)) ∙ h p k d (omega arith) a b (omega arith)

-- the first k slots are sifted
module _ {X : Type 0} (ys zs : List X) (k n : ℕ) (e : k ≡ n) (within : n ≤ length ys) (s : IsPermutation (take k ys) zs) where
  long : length zs ≡ k
  long = length_permutation _ zs s ∙ length-take-le k ys (omega arith)

  pub sifted_shuffled : IsPermutation (take n ys) zs
  sifted_shuffled = subst (λ i. IsPermutation (take i ys) zs) e s

  pub sifted_held : (post : List X) → zs ≡ take n (zs ++ post)
  sifted_held post = sym (take_at zs post n (long ∙ e))

  pub sifted_rest : drop n (zs ++ drop k ys) ≡ drop n ys
  sifted_rest = drop-append-drop k ys zs n (omega arith) long

-- x is put into the slot past the items
module _ {X : Type 0} (xs : List X) (n : ℕ) (x : X) (some : n < length xs) where
  pub push_heaped : (before : X → X → Bool) (k : ℕ) → k ≡ n + 1 → Heaped before (take n xs) → HeapedWithin before (take k (set xs n x)) 0 (length (take k (set xs n x)) - 1)
  push_heaped before k e =
      let long : length (take k (set xs n x)) ≡ n + 1 = length-take-le k (set xs n x) (omega (arith, length-set xs n x)) ∙ e in
      heaped_kept before (take n xs) (take k (set xs n x)) 0 _ (omega (arith, long, length-take-le n xs (omega arith)))
      (λ i d _ f. get_or-take k (set xs n x) i d (omega arith) ∙ get_or-set_other xs n i x d (omega (arith, long)) ∙ sym (get_or-take n xs i d (omega (arith, long))))

  pub push_held : (zs : List X) → IsPermutation (take (n + 1) (set xs n x)) zs → IsPermutation (x ∷ take n xs) zs
  push_held zs s = IsPermutation-trans _ _ zs (IsPermutation-sym (take n xs ++ x ∷ []) _ (IsPermutation-to_front (take n xs) x)) (subst (λ (l : List X). IsPermutation l zs) (take_more_set xs n x some) s)

  pub push_rest : drop (n + 1) (set xs n x) ≡ drop 1 (drop n xs)
  push_rest = drop-set-lt (n + 1) xs n x (omega arith) ∙ sym (drop-drop 1 n xs)

-- the first item and the last are exchanged, and the last slot is given up
module _ {X : Type 0} (xs ys : List X) (n m : ℕ) (x : X) (one : n ≡ m + 1) (within : n ≤ length xs) (first : x ≡ get_or xs 0 x) (swap : ys ≡ set (set xs 0 (get_or xs m x)) m (get_or xs 0 x)) where
  long_swap : length ys ≡ length xs
  long_swap = ap length swap ∙ length-set (set xs 0 (get_or xs m x)) m (get_or xs 0 x) ∙ length-set xs 0 (get_or xs m x)

  last : get_or ys m x ≡ x
  last = ap (λ l. get_or l m x) swap ∙ get_or-set_same (set xs 0 (get_or xs m x)) m (get_or xs 0 x) x (omega (arith, length-set xs 0 (get_or xs m x))) ∙ sym first

  pub pop_heaped : (before : X → X → Bool) (k : ℕ) → k ≡ m → Heaped before (take n xs) → HeapedWithin before (take k ys) 1 (length (take k ys))
  pop_heaped before k e =
      let long : length (take k ys) ≡ m = length-take-le k ys (omega (arith, long_swap)) ∙ e in
      heaped_kept before (take n xs) (take k ys) 1 _ (omega (arith, long, length-take-le n xs within))
      (λ i d l f. get_or-take k ys i d (omega arith)
      ∙ ap (λ l. get_or l i d) swap
      ∙ get_or-set_other (set xs 0 (get_or xs m x)) m i (get_or xs 0 x) d (omega (arith, long))
      ∙ get_or-set_other xs 0 i (get_or xs m x) d (omega arith)
      ∙ sym (get_or-take n xs i d (omega (arith, long))))

  pub pop_held : (zs : List X) → IsPermutation (take m ys) zs → IsPermutation (take n xs) (x ∷ zs)
  pop_held zs s =
      let held = take n xs in
      let long = length-take-le n xs within in
      let at : (i : ℕ) → i < n → get_or held i x ≡ get_or xs i x = λ i f. get_or-take n xs i x f in
      let exchange : take n ys ≡ set (set held 0 (get_or held m x)) m (get_or held 0 x) =
      ap (take n) swap
      ∙ take-set-lt n (set xs 0 (get_or xs m x)) m (get_or xs 0 x) (omega arith)
      ∙ ap (λ l. set l m (get_or xs 0 x)) (take-set-lt n xs 0 (get_or xs m x) (omega arith))
      ∙ sym (λ z. set (set held 0 (at m (omega arith) z)) m (at 0 (omega arith) z)) in
      let split : take n ys ≡ take m ys ++ x ∷ [] = ap (λ i. take i ys) one ∙ take_more ys m x (omega (arith, long_swap)) ∙ ap (λ y. take m ys ++ y ∷ []) last in
      IsPermutation-trans held (take n ys) (x ∷ zs)
      (IsPermutation-swap held (take n ys) 0 m (omega arith) (omega arith) (exchange ∙ swap_is held 0 m x (omega arith) (omega arith)))
      (IsPermutation-trans _ (x ∷ take m ys) (x ∷ zs)
      (subst (λ (l : List X). IsPermutation l (x ∷ take m ys)) (sym split) (IsPermutation-to_front (take m ys) x))
      (IsPermutation-cons x (take m ys) zs s))

-- x is put in the place of the first item y
module _ {X : Type 0} (xs : List X) (n : ℕ) (x y : X) (some : 0 < n) (within : n ≤ length xs) (first : y ≡ get_or xs 0 y) where
  pub replace_heaped : (before : X → X → Bool) (k : ℕ) → k ≡ n → Heaped before (take n xs) → HeapedWithin before (take k (set xs 0 x)) 1 (length (take k (set xs 0 x)))
  replace_heaped before k e =
      let long : length (take k (set xs 0 x)) ≡ n = length-take-le k (set xs 0 x) (omega (arith, length-set xs 0 x)) ∙ e in
      heaped_kept before (take n xs) (take k (set xs 0 x)) 1 _ (omega (arith, long, length-take-le n xs within))
      (λ i d l f. get_or-take k (set xs 0 x) i d (omega arith) ∙ get_or-set_other xs 0 i x d (omega arith) ∙ sym (get_or-take n xs i d (omega (arith, long))))

  pub replace_held : (zs : List X) → IsPermutation (take n (set xs 0 x)) zs → IsPermutation (x ∷ take n xs) (y ∷ zs)
  replace_held zs s =
      let held = take n xs in
      let long = length-take-le n xs within in
      let more = drop 1 held in
      let split : held ≡ y ∷ more = drop_more held 0 y (omega arith) ∙ ap (λ v. v ∷ more) (get_or-take n xs 0 y (omega arith) ∙ sym first) in
      let put : take n (set xs 0 x) ≡ x ∷ more = take-set-lt n xs 0 x (omega arith) ∙ ap (λ l. set l 0 x) split in
      subst (λ (l : List X). IsPermutation (x ∷ l) (y ∷ zs)) (sym split)
      (IsPermutation-trans (x ∷ y ∷ more) (y ∷ x ∷ more) (y ∷ zs)
      (IsPermutation-swap (x ∷ y ∷ more) (y ∷ x ∷ more) 0 1 (omega arith) (omega arith) refl)
      (IsPermutation-cons y (x ∷ more) zs (subst (λ (l : List X). IsPermutation l zs) put s)))
