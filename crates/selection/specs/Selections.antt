-- The selection: the points of a task within a limit, by its definition.
-- Blocks and points are told by index, from 0: the point in front of the block at index i + 1 is the point at index i.
use Rattle.std.specs.Prelude.{ℕ, zero, suc, ◌+◌, ◌^◌, Bool, cond, List, [], ◌∷◌, length, Some, None, Option}
use Rattle.tasks.specs.declared.model.Task.{Task}
use Rattle.tasks.specs.declared.points.Point.{Point}
use Rattle.tasks.specs.Tasks.{cost_of_block, point_at, point_count}
use Rattle.selection.specs.Limits.{within}

-- chosen points: what they measure, and the word that tells them
pub record Chosen (V : Type 0) : Type 0 where
  pub value : V
  pub word : ℕ

module _ {V : Type 0} (before : V → V → Bool) (none : V) (join : V → Point → V) (cost : ℕ → ℕ) (point : ℕ → Point) (limit : Option ℕ) where
  -- the point at index i joined to what is chosen before it
  abbrev pub joined_at : ℕ → Option (Chosen V) → Option (Chosen V)
  joined_at i None = None
  joined_at i (Some s) = Some (record { value = join s.value (point i); word = s.word + 2 ^ i })

  -- What a start offers, whose blocks from there on cost `blocks`, and the blocks before which have the selection s:
  -- nothing where the stretch is not within the limit. The first block has no point in front of it.
  abbrev pub offer : ℕ → ℕ → Option (Chosen V) → Option (Chosen V)
  offer zero blocks s = cond (within limit blocks) s None
  offer (suc i) blocks s = cond (within limit ((point i).ticks + blocks)) (joined_at i s) None

  -- the lesser of two offers, and the first of them where neither value is less
  abbrev pub lesser : Option (Chosen V) → Option (Chosen V) → Option (Chosen V)
  lesser None b = b
  lesser (Some a) None = Some a
  lesser (Some a) (Some b) = cond (before b.value a.value) (Some b) (Some a)

  -- The least offer, and the one of the smallest start among equals. The list has the selections of the blocks before each start,
  -- the last start first, and `more` is the cost of the blocks behind that start's.
  abbrev pub least_offer : ℕ → List (Option (Chosen V)) → Option (Chosen V)
  least_offer more [] = None
  least_offer more (s ∷ ss) = lesser (least_offer (cost (length ss) + more) ss) (offer (length ss) (cost (length ss) + more) s)

  -- the selections for the first k blocks, the first k - 1 and so on down to no blocks, which have the empty one
  abbrev pub selections : ℕ → List (Option (Chosen V))
  selections zero = Some (record { value = none; word = 0 }) ∷ []
  selections (suc k) = least_offer 0 (selections k) ∷ selections k

  -- the selection for the first k blocks
  abbrev pub selection : ℕ → Option (Chosen V)
  selection zero = Some (record { value = none; word = 0 })
  selection (suc k) = least_offer 0 (selections k)

-- the selection for all blocks of a task
abbrev pub selection_of : {V : Type 0} → (V → V → Bool) → V → (V → Point → V) → Task → Option ℕ → Option (Chosen V)
selection_of before none join t limit = selection before none join (cost_of_block t) (point_at t) limit (suc (point_count t))
