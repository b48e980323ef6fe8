-- Binary heaps in a list: the children of the item at p stand at p * 2 + 1 and p * 2 + 2. `before x y` says that x comes before y.
use Rattle.std.specs.Prelude.{◌≡◌, ℕ, ◌+◌, ◌*◌, ◌<◌, ◌≤◌, Bool, false, List, length, slice_index_or}
use Rattle.std.specs.List.{AllByRecursion}
use Rattle.std.proofs.Math.Bool.{Bool-set}

-- no item at a place below `end` comes before its parent, where the parent's place is at least `low`
unfoldable pub HeapedWithin : {X : Type 0} → (X → X → Bool) → List X → ℕ → ℕ → Type 0
HeapedWithin {X} before xs low end = (p k : ℕ) (d : X) → low ≤ p → p * 2 + 1 ≤ k → k ≤ p * 2 + 2 → k < end → before (slice_index_or xs k d) (slice_index_or xs p d) ≡ false

-- it holds in one way at most
pub HeapedWithin-prop : {X : Type 0} (before : X → X → Bool) (xs : List X) (low end : ℕ) → IsProp (HeapedWithin before xs low end)
unfolding HeapedWithin
HeapedWithin-prop before xs low end = hlevel Bool-set

-- no item comes before its parent
abbrev pub Heaped : {X : Type 0} → (X → X → Bool) → List X → Type 0
Heaped before xs = HeapedWithin before xs 0 (length xs)

-- no child of the item at j comes before the item at c
unfoldable pub NoChildBefore : {X : Type 0} → (X → X → Bool) → List X → ℕ → ℕ → Type 0
NoChildBefore {X} before xs j c = (k : ℕ) (d : X) → j * 2 + 1 ≤ k → k ≤ j * 2 + 2 → k < length xs → before (slice_index_or xs k d) (slice_index_or xs c d) ≡ false

-- no item of xs comes before x
abbrev pub Least : {X : Type 0} → (X → X → Bool) → X → List X → Type 0
Least before x xs = AllByRecursion (λ y. before y x ≡ false) xs
