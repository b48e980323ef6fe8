-- What the heap of candidates and the chosen starts say of the selections.
use Rattle.std.specs.Prelude.{◌≡◌, ℕ, zero, suc, ◌<◌, ◌≤◌, Bool, true, false, ◌⊎◌, List, [], Some, None, Option, MatchOption, slice_index}
use Rattle.std.specs.List.{Contains}
use Rattle.heap.specs.Heaps.{Least}
use Rattle.tasks.specs.declared.model.Task.{Task}
use Rattle.tasks.specs.declared.points.Point.{Point}
use Rattle.tasks.specs.Tasks.{cost_of_block, point_at}
use Rattle.selection.specs.declared.candidate.Candidate.{Candidate}
use Rattle.selection.specs.Candidates.{sooner}
use Rattle.selection.specs.Limits.{within}
use Rattle.selection.specs.Running.{run, stretch_from}
use Rattle.selection.specs.Selections.{Chosen, joined_at, offer, selection}

-- the value of what is chosen
abbrev pub value_of : {V : Type 0} → Option (Chosen V) → Option V
value_of None = None
value_of (Some s) = Some s.value

-- a value with the point in front of a block, by the block's index
abbrev pub with_point : {V : Type 0} → (V → Point → V) → Task → ℕ → V → V
with_point join t zero v = v
with_point join t (suc i) v = join v (point_at t i)

-- whether the stretch from block j to block k is within the limit
abbrev pub reaches : Task → Option ℕ → ℕ → ℕ → Bool
reaches t limit k j = within limit (stretch_from (cost_of_block t) (point_at t) k j)

module _ {V : Type 0} (before : V → V → Bool) (none : V) (join : V → Point → V) (t : Task) (limit : Option ℕ) where
  -- the selection for the first k blocks
  abbrev pub selected : ℕ → Option (Chosen V)
  selected k = selection before none join (cost_of_block t) (point_at t) limit k

  -- what a start offers for the blocks up to index k
  abbrev pub offered : ℕ → ℕ → Option (Chosen V)
  offered k j = offer before none join (cost_of_block t) (point_at t) limit j (run (cost_of_block t) k j) (selected j)

  -- what a start offers wherever its stretch is within the limit
  abbrev pub proposed : ℕ → Option (Chosen V)
  proposed zero = selected zero
  proposed (suc i) = joined_at before none join (cost_of_block t) (point_at t) limit i (selected (suc i))

  -- The heap holds what the starts below n propose, and of these all but some that are out of reach from the end on.
  pub record Holds (n end : ℕ) (held : List (Candidate V)) : Type 0 where
    pub sound : (x : Candidate V) → Contains held x → (x.start < n) × (value_of (proposed x.start) ≡ Some x.value)
    pub complete : (j : ℕ) (s : Chosen V) → j < n → proposed j ≡ Some s → Contains held (record { value = s.value; start = j }) ⊎ ((k : ℕ) → end ≤ suc k → reaches t limit k j ≡ false)

  -- the candidate of the selection for the blocks up to index k
  abbrev pub Picked : ℕ → Option (Candidate V) → Type 0
  Picked k None = selected (suc k) ≡ None
  Picked k (Some x) = (s : Chosen V) × (selected (suc k) ≡ Some s) × (s.value ≡ x.value) × (x.start < suc k) × (offered k x.start ≡ Some s)

  -- for each k below n, where the blocks up to index k have a selection, the start told there offers it
  abbrev pub Linked : ℕ → List ℕ → Type 0
  Linked n starts = (k : ℕ) (s : Chosen V) → k < n → selected (suc k) ≡ Some s → (slice_index starts k < suc k) × (offered k (slice_index starts k) ≡ Some s)

-- What is left of the candidates once those out of reach are taken off the top: the top is within reach and a first one, or none is left.
pub record Cleared {V : Type 0} (before : V → V → Bool) (t : Task) (limit : Option ℕ) (k : ℕ) (old new : List (Candidate V)) (top : Option (Candidate V)) : Type 0 where
  pub kept : (x : Candidate V) → Contains new x → Contains old x
  pub gone : (x : Candidate V) → Contains old x → Contains new x ⊎ (reaches t limit k x.start ≡ false)
  pub first : MatchOption top (new ≡ []) (λ x. Contains new x × (reaches t limit k x.start ≡ true) × Least (sooner before) x new)
