-- Worked figures of one task, over the definitions.
use Rattle.std.specs.Prelude.{◌≡◌, ℕ, Bool, List, [], ◌∷◌, Some, None, Option, slice_index, slice_index_or}
use Rattle.std.proofs.Common.{lit≤}
use Rattle.tasks.specs.declared.points.Point.{Point}
use Rattle.tasks.specs.Choices.{told, stretches, total, rising, greatest}
use Rattle.tasks.specs.Tasks.{no_point}
use Rattle.measures.specs.declared.values.Ticks.{Ticks}
use Rattle.measures.specs.declared.values.TicksCharge.{TicksCharge}
use Rattle.measures.specs.Weights.{no_ticks, join_ticks, fewer_ticks, no_ticks_charge, join_ticks_charge, fewer_ticks_charge}
use Rattle.selection.specs.Selections.{Chosen, selection}

-- six blocks of 2, 2, 2, 1, 2 and 3 ticks
abbrev cost : ℕ → ℕ
cost i = slice_index (2 ∷ 2 ∷ 2 ∷ 1 ∷ 2 ∷ 3 ∷ []) i

-- and the points between them: ticks 1, 2, 3, 3 and 1, charges 7, 0, 0, 0 and 3
abbrev point : ℕ → Point
point i = slice_index_or (
    record { ticks = 1; charge = 7; small = (lit≤ tt, lit≤ tt) }
    ∷ record { ticks = 2; charge = 0; small = (lit≤ tt, lit≤ tt) }
    ∷ record { ticks = 3; charge = 0; small = (lit≤ tt, lit≤ tt) }
    ∷ record { ticks = 3; charge = 0; small = (lit≤ tt, lit≤ tt) }
    ∷ record { ticks = 1; charge = 3; small = (lit≤ tt, lit≤ tt) }
    ∷ []) i no_point

-- a selection's cost, points and longest stretch
abbrev figures : {V : Type 0} → Option (Chosen V) → Option (ℕ × List ℕ × ℕ)
figures None = None
figures (Some s) = Some (total cost point (told s.word) 5, rising (told s.word) 5, greatest (stretches cost point (told s.word) 5 0))

abbrev by_ticks : (Ticks → Ticks → Bool) → ℕ → Option (ℕ × List ℕ × ℕ)
by_ticks before limit = figures (selection before no_ticks join_ticks cost point (Some limit) 6)

abbrev by_ticks_charge : (TicksCharge → TicksCharge → Bool) → ℕ → Option (ℕ × List ℕ × ℕ)
by_ticks_charge before limit = figures (selection before no_ticks_charge join_ticks_charge cost point (Some limit) 6)

-- the figures, where `before` and `before_charge` are the orders of the two measures
pub record FiguresBy (before : Ticks → Ticks → Bool) (before_charge : TicksCharge → TicksCharge → Bool) : Type 0 where
  pub eight : by_ticks before 8 ≡ Some (14, 1 ∷ 5 ∷ [], 8)
  pub five : by_ticks before 5 ≡ Some (18, 2 ∷ 4 ∷ 5 ∷ [], 5)
  pub four : by_ticks before 4 ≡ None
  pub twelve : by_ticks before 12 ≡ Some (12, [], 12)
  pub eleven : by_ticks before 11 ≡ Some (13, 1 ∷ [], 11)
  pub charge : by_ticks_charge before_charge 11 ≡ Some (13, 5 ∷ [], 9)

-- the figures, by the named orders
abbrev pub Figures : Type 0
Figures = FiguresBy fewer_ticks fewer_ticks_charge
