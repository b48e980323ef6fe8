-- The table that a rule is asked over: the tasks by falling priority. Place p is the task at index p - 1.
use Rattle.std.specs.Prelude.{◌≡◌, ℕ, ◌-◌, ◌≤◌, List, length, take, slice_index_or}
use Rattle.std.proofs.Common.{lit≤}
use Rattle.std.specs.List.{AllZip}
use Rattle.tasks.specs.declared.timings.Timing.{Timing}

-- what a rule may be asked: at most 32 tasks, and a place of the table
pub record Asked (ts : List Timing) (p : ℕ) : Type 0 where
  pub few : length ts ≤ 32
  pub first : 1 ≤ p
  pub last : p ≤ length ts

-- what is read past the end of a table
abbrev pub no_timing : Timing
no_timing = record { period = 10; deadline = 1; cost = 1; clock = (lit≤ tt, lit≤ tt, lit≤ tt, lit≤ tt); work = (lit≤ tt, lit≤ tt) }

abbrev pub deadline_at : List Timing → ℕ → ℕ
deadline_at ts p = (slice_index_or ts (p - 1) no_timing).deadline

-- two tables agree down to place p
abbrev pub Agree : ℕ → List Timing → List Timing → Type 0
Agree p ts us = take p ts ≡ take p us

-- a task with the same period and deadline and no smaller cost
abbrev pub NoSmaller : Timing → Timing → Type 0
NoSmaller t u = (t.period ≡ u.period) × (t.deadline ≡ u.deadline) × (t.cost ≤ u.cost)

-- down to place p, periods and deadlines agree and no cost of the second table is smaller
abbrev pub Heavier : ℕ → List Timing → List Timing → Type 0
Heavier p ts us = AllZip NoSmaller (take p ts) (take p us)
