-- What is answered of a selection, and the law of one task.
use Rattle.std.specs.Prelude.{◌≡◌, ℕ, Bool, false, cond, length, Some, None, Ok, Err, Option, Result, nat_lt}
use Rattle.tasks.specs.declared.model.Task.{Task}
use Rattle.tasks.specs.declared.points.Point.{Point}
use Rattle.tasks.specs.declared.refusals.Refusal.{Refusal}
use Rattle.tasks.specs.declared.refusals.Refusal.TheVariants.{TooSmall}
use Rattle.tasks.specs.Choices.{Choice, told}
use Rattle.tasks.specs.Tasks.{cost_of, longest_of, points_of}
use Rattle.measures.specs.Measuring.{measure_of}
use Rattle.selection.specs.declared.answer.Selection.{Selection}
use Rattle.selection.specs.Limits.{Fits}
use Rattle.selection.specs.Selections.{Chosen, selection_of}

-- a selection told with its number of points, its cost and its longest stretch
abbrev pub told_of : {V : Type 0} → Task → Option (Chosen V) → Option (Selection V)
told_of t None = None
told_of t (Some s) = Some (record { points = s.word; number = length (points_of t (told s.word)); value = s.value; cost = cost_of t (told s.word); longest = longest_of t (told s.word) })

-- the answer, which wants 65 working places
abbrev pub answer_of : {V : Type 0} → (V → V → Bool) → V → (V → Point → V) → Task → Option ℕ → ℕ → Result (Option (Selection V)) Refusal
answer_of before none join t limit places = cond (nat_lt places 65) (Err TooSmall) (Ok (told_of t (selection_of before none join t limit)))

-- The law of one task. Where there is an answer, its points fit the limit and have the value told, and every choice that fits measures at
-- least as much. Where there is none, no choice fits.
abbrev pub BestWithin : {V : Type 0} → (V → V → Bool) → V → (V → Point → V) → Task → Option ℕ → Option (Selection V) → Type 0
BestWithin before none join t limit None = (c : Choice) → Fits t limit c → ⊥
BestWithin before none join t limit (Some a) =
    Fits t limit (told a.points) × (a.value ≡ measure_of none join t (told a.points)) × ((c : Choice) → Fits t limit c → before (measure_of none join t c) a.value ≡ false)
