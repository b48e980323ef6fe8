-- What every rule shows of its slack, its tolerance and the moment that it tells.
use Rattle.std.specs.Prelude.{◌≡◌, ℕ, List, ℤ, pos, ◌≤ℤ◌}
use Rattle.tasks.specs.declared.timings.Timing.{Timing}
use Rattle.rules.specs.Tables.{Asked, Agree, Heavier}
use Rattle.rules.specs.Layers.{lowest}

module _ {R : Type 0} where
  -- the tolerance is the slack at the moment told
  abbrev pub TellsMoment : (R → List Timing → ℕ → ℕ → ℤ) → (R → List Timing → ℕ → ℤ) → (R → List Timing → ℕ → ℕ) → Type 0
  TellsMoment slack tolerance moment = (s : R) (ts : List Timing) (p : ℕ) → tolerance s ts p ≡ slack s ts p (moment s ts p)

  -- all three are fixed by the tasks down to the place
  abbrev pub FixedAbove : (R → List Timing → ℕ → ℕ → ℤ) → (R → List Timing → ℕ → ℤ) → (R → List Timing → ℕ → ℕ) → Type 0
  FixedAbove slack tolerance moment =
      (s : R) (ts us : List Timing) (p : ℕ) → Asked ts p → Asked us p → Agree p ts us → ((t : ℕ) → slack s ts p t ≡ slack s us p t) × (tolerance s ts p ≡ tolerance s us p) × (moment s ts p ≡ moment s us p)

  -- larger costs leave no greater tolerance
  abbrev pub Monotone : (R → List Timing → ℕ → ℤ) → Type 0
  Monotone tolerance = (s : R) (ts us : List Timing) (p : ℕ) → Asked ts p → Asked us p → Heavier p ts us → tolerance s us p ≤ℤ tolerance s ts p

  -- a tolerance lies between -10^15 and 1,000,000
  abbrev pub Bounded : (R → List Timing → ℕ → ℤ) → Type 0
  Bounded tolerance = (s : R) (ts : List Timing) (p : ℕ) → Asked ts p → (lowest ≤ℤ tolerance s ts p) × (tolerance s ts p ≤ℤ pos 1000000)
