-- The refusals, each with its number in the one table and the place that is told with it.
use Rattle.std.specs.Prelude.{ℕ}
use Rattle.tasks.specs.declared.refusals.Refusal.{Refusal}
use Rattle.tasks.specs.declared.refusals.Refusal.TheVariants.{OutOfRange, NoSuch, TooSmall, NoMemory}

abbrev pub number : Refusal → ℕ
number OutOfRange = 4
number NoSuch = 11
number TooSmall = 15
number NoMemory = 0

abbrev pub place : Refusal → ℕ
place OutOfRange = 0
place NoSuch = 0
place TooSmall = 0
place NoMemory = 0
