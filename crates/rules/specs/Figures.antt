-- Worked figures.
use Rattle.std.specs.Prelude.{◌≡◌, List, [], ◌∷◌, pos, negsuc}
use Rattle.std.proofs.Common.{lit≤}
use Rattle.tasks.specs.declared.timings.Timing.{Timing}
use Rattle.rules.specs.Tolerances.{exact_moment, exact_tolerance, deadline_tolerance}

-- periods and deadlines 85, 92, 127 and 925, costs 29, 14, 29 and 32
abbrev pub four : List Timing
four =
    record { period = 85; deadline = 85; cost = 29; clock = (lit≤ tt, lit≤ tt, lit≤ tt, lit≤ tt); work = (lit≤ tt, lit≤ tt) }
    ∷ record { period = 92; deadline = 92; cost = 14; clock = (lit≤ tt, lit≤ tt, lit≤ tt, lit≤ tt); work = (lit≤ tt, lit≤ tt) }
    ∷ record { period = 127; deadline = 127; cost = 29; clock = (lit≤ tt, lit≤ tt, lit≤ tt, lit≤ tt); work = (lit≤ tt, lit≤ tt) }
    ∷ record { period = 925; deadline = 925; cost = 32; clock = (lit≤ tt, lit≤ tt, lit≤ tt, lit≤ tt); work = (lit≤ tt, lit≤ tt) }
    ∷ []

-- periods and deadlines 10 and 12, cost 6 each: more than there is time for
abbrev pub overloaded : List Timing
overloaded =
    record { period = 10; deadline = 10; cost = 6; clock = (lit≤ tt, lit≤ tt, lit≤ tt, lit≤ tt); work = (lit≤ tt, lit≤ tt) }
    ∷ record { period = 12; deadline = 12; cost = 6; clock = (lit≤ tt, lit≤ tt, lit≤ tt, lit≤ tt); work = (lit≤ tt, lit≤ tt) }
    ∷ []

pub record Figures : Type 0 where
  pub exact : (exact_tolerance four 1 ≡ pos 56) × (exact_tolerance four 2 ≡ pos 42) × (exact_tolerance four 3 ≡ pos 13) × (exact_tolerance four 4 ≡ pos 197)
  pub moment : exact_moment four 4 ≡ 920
  pub deadline : (deadline_tolerance four 1 ≡ pos 56) × (deadline_tolerance four 2 ≡ pos 20) × (deadline_tolerance four 3 ≡ pos 12) × (deadline_tolerance four 4 ≡ pos 188)
  pub negative : exact_tolerance overloaded 2 ≡ negsuc 1
