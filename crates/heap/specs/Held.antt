-- What a heap over lent slots holds.
use Rattle.std.specs.Prelude.{ℕ, List, [], ◌∷◌, length, take, drop, Some, None, Option}
use Rattle.std.specs.declared.cmp.Ord.{Ghosts as OrdOf}
use Rattle.std.specs.declared.cmp.PartialEq.{Ghosts as PartialEqOf}
use Rattle.std.specs.declared.cmp.PartialOrd.{Ghosts as PartialOrdOf}
use Rattle.heap.specs.declared.Heap.{Heap}

-- the first item of a list
abbrev pub first : {X : Type 0} → List X → Option X
first [] = None
first (x ∷ xs) = Some x

-- of items in any order
module _ {X : Type 0} {o : OrdOf X} {e : PartialEqOf X} {p : PartialOrdOf X} where
  -- how many items it holds
  abbrev pub size : Heap X o e p → ℕ
  size h = h.len

  -- how many slots it has
  abbrev pub room : Heap X o e p → ℕ
  room h = length h.slots.now

  -- the items that it holds, in the order of its slots
  abbrev pub held : Heap X o e p → List X
  held h = take (size h) h.slots.now

  -- the item in the first slot, which is a least one
  abbrev pub top : Heap X o e p → Option X
  top h = first (held h)

  -- what the slots past the held items hold
  abbrev pub rest : Heap X o e p → List X
  rest h = drop (size h) h.slots.now
