-- The slack of a place at a moment.
use Rattle.std.specs.Prelude.{ℕ, ◌+◌, ◌-◌, ◌*◌, ◌/◌, List, take, ℤ, pos, ◌-ℤ◌, sum_by}
use Rattle.tasks.specs.declared.timings.Timing.{Timing}

-- how often a task of that period is released before moment t: t / period, rounded up
abbrev pub releases : ℕ → ℕ → ℕ
releases period t = (t + period - 1) / period

-- what a task asks for up to moment t
unfoldable pub load : ℕ → Timing → ℕ
load t x = x.cost * releases x.period t

-- what the tasks together ask for up to moment t
abbrev pub demand : List Timing → ℕ → ℕ
demand ts t = sum_by (load t) ts

-- the moment less what the tasks down to place p ask for up to it
unfoldable pub slack_at : List Timing → ℕ → ℕ → ℤ
slack_at ts p t = pos t -ℤ pos (demand (take p ts) t)
