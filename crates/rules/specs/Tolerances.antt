-- What the two rules mean.
use Rattle.std.specs.Prelude.{ℕ, ◌<◌, ◌≤◌, List, ℤ, ◌≤ℤ◌, ◌<ℤ◌}
use Rattle.tasks.specs.declared.timings.Timing.{Timing}
use Rattle.rules.specs.Peaks.{peak}
use Rattle.rules.specs.Slacks.{slack_at}
use Rattle.rules.specs.Tables.{deadline_at}

-- exact: the first of the moments 1 to the deadline that has the greatest slack, and that slack
abbrev pub exact_moment : List Timing → ℕ → ℕ
exact_moment ts p = peak (slack_at ts p) (deadline_at ts p)

abbrev pub exact_tolerance : List Timing → ℕ → ℤ
exact_tolerance ts p = slack_at ts p (exact_moment ts p)

-- deadline: the slack there
abbrev pub deadline_tolerance : List Timing → ℕ → ℤ
deadline_tolerance ts p = slack_at ts p (deadline_at ts p)

-- m is a moment from 1 to the deadline; no moment of these has more slack, and each earlier one has less
pub record FirstGreatest (ts : List Timing) (p m : ℕ) : Type 0 where
  pub from : 1 ≤ m
  pub to : m ≤ deadline_at ts p
  pub greatest : (t : ℕ) → 1 ≤ t → t ≤ deadline_at ts p → slack_at ts p t ≤ℤ slack_at ts p m
  pub first : (t : ℕ) → 1 ≤ t → t < m → slack_at ts p t <ℤ slack_at ts p m
