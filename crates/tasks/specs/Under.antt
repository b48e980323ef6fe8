-- What is answered of a task under a word.
use Rattle.std.specs.Prelude.{◌≡◌, ℕ, suc, ◌^◌, Bool, true, cond, List, [], ◌∷◌, ◌++◌, map, reverse, Ok, Err, vec_items, Result, Vec, nat_lt}
use Rattle.std.specs.declared.alloc.Global.{Global}
use Rattle.tasks.specs.declared.refusals.Refusal.{Refusal}
use Rattle.tasks.specs.declared.refusals.Refusal.TheVariants.{OutOfRange, NoMemory}
use Rattle.tasks.specs.declared.choices.Stretch.{Stretch}
use Rattle.tasks.specs.declared.model.Task.{Task}
use Rattle.tasks.specs.Choices.{Choice, told}
use Rattle.tasks.specs.Tasks.{point_count, points_of, stretches_of}

-- the word has no bit past the task's last point
abbrev pub admitted : Task → ℕ → Bool
admitted t word = nat_lt word (2 ^ point_count t)

-- an answer about a task under a word: a word with a bit past the last point is outside its range
abbrev pub under : {A : Type 0} → Task → ℕ → A → Result A Refusal
under t word answer = cond (admitted t word) (Ok answer) (Err OutOfRange)

-- the list of the chosen points, where memory allows
abbrev pub ListedUnder : Task → ℕ → Result (Vec ℕ Global) Refusal → Type 0
ListedUnder t word (Ok list) = (admitted t word ≡ true) × (vec_items list ≡ points_of t (told word))
ListedUnder t word (Err e) = e ≡ cond (admitted t word) NoMemory OutOfRange

-- the stretches in their order: their lengths, and their blocks, which a chosen point k parts into those up to k and those from k + 1 on
pub record Spans (t : Task) (c : Choice) (spans : List Stretch) : Type 0 where
  pub lengths : reverse (map (λ s. s.length) spans) ≡ stretches_of t c
  pub firsts : map (λ s. s.first) spans ≡ 1 ∷ map suc (points_of t c)
  pub lasts : map (λ s. s.last) spans ≡ points_of t c ++ suc (point_count t) ∷ []

abbrev pub StretchesUnder : Task → ℕ → Result (Vec Stretch Global) Refusal → Type 0
StretchesUnder t word (Ok list) = (admitted t word ≡ true) × Spans t (told word) (vec_items list)
StretchesUnder t word (Err e) = e ≡ cond (admitted t word) NoMemory OutOfRange
