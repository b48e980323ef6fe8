-- What the heap of the next multiples says of the demand.
use Rattle.std.specs.Prelude.{◌≡◌, ℕ, ◌+◌, ◌*◌, ◌/◌, ◌<◌, ◌≤◌, List, take, sum_by, slice_index_or}
use Rattle.std.specs.List.{AllByRecursion}
use Rattle.tasks.specs.declared.timings.Timing.{Timing}
use Rattle.rules.specs.declared.multiple.Multiple.{Multiple}
use Rattle.rules.specs.Slacks.{load, demand}
use Rattle.rules.specs.Tables.{no_timing}

module _ (ts : List Timing) where
  abbrev pub task_of : Multiple → Timing
  task_of x = slice_index_or ts x.task no_timing

  -- x is a multiple of its task's period, and the next one from the moment `met` on
  pub record Next (n met : ℕ) (x : Multiple) : Type 0 where
    pub there : x.task < n
    pub some : 1 ≤ x.at
    pub multiple : x.at / (task_of x).period * (task_of x).period ≡ x.at
    pub after : met ≤ x.at
    pub next : x.at ≤ met + (task_of x).period

  -- what its task asks for at each moment after the multiple before x and up to x
  unfoldable pub carried : Multiple → ℕ
  carried x = (task_of x).cost * (x.at / (task_of x).period)

  -- the next multiples of the first n tasks, one for each task
  pub record Holds (n met : ℕ) (xs : List Multiple) : Type 0 where
    pub each : AllByRecursion (Next n met) xs
    pub all : (t : ℕ) → sum_by (λ x. load t (task_of x)) xs ≡ demand (take n ts) t
