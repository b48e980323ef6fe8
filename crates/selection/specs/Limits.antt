-- Limits on the length of a stretch.
use Rattle.std.specs.Prelude.{◌≡◌, ℕ, Bool, true, List, Some, None, Option, nat_le}
use Rattle.std.specs.List.{AllByRecursion}
use Rattle.tasks.specs.declared.model.Task.{Task}
use Rattle.tasks.specs.Choices.{Choice}
use Rattle.tasks.specs.Tasks.{stretches_of}

-- with no limit nothing is too long
abbrev pub within : Option ℕ → ℕ → Bool
within None length = true
within (Some limit) length = nat_le length limit

abbrev pub AllWithin : Option ℕ → List ℕ → Type 0
AllWithin limit lengths = AllByRecursion (λ length. within limit length ≡ true) lengths

-- every stretch of the task under the choice is within the limit
abbrev pub Fits : Task → Option ℕ → Choice → Type 0
Fits t limit c = AllWithin limit (stretches_of t c)
