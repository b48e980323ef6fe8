-- Loads, demands and slacks: their bounds, and what two tables share.
use Rattle.std.specs.Prelude.{◌≡◌, ℕ, ◌+◌, ◌-◌, ◌*◌, ◌/◌, ◌<◌, ◌≤◌, List, [], ◌∷◌, length, get_or, take, pos, ◌-ℤ◌, ◌≤ℤ◌, slice_index_or}
use Rattle.std.proofs.Common.{ap, ◌∙◌, sym, subst, mul-le-mul, mul-le-mul_right, div-lt_iff_lt-mul, le_refl, arith, get_or-take}
use Rattle.std.proofs.lemmas.List.Elements.{AllZip-get_or}
use Rattle.std.proofs.ByRecursion.{All-from_get_or, sum_by_le}
use Rattle.std.proofs.lemmas.List.{length-take-le}
use Rattle.std.proofs.lemmas.Int.{ints}
use Rattle.std.proofs.lemmas.List.Sums.{sum_by-cons}
use Rattle.std.specs.List.{AllZip}
use Rattle.tasks.specs.declared.timings.Timing.{Timing}
use Rattle.rules.specs.Layers.{lowest}
use Rattle.rules.specs.Slacks.{releases, load, demand, slack_at}
use Rattle.rules.specs.Tables.{Asked, Agree, NoSmaller, Heavier, no_timing, deadline_at}

-- a period of 10 or more is released at most 100,000 times
pub releases_few : (t : ℕ) (x : Timing) → t ≤ 1000000 → releases x.period t ≤ 100000
releases_few t x h =
    let long : 10 ≤ x.period = x.clock.0 in
    let some : 0 < x.period = omega arith in
    let below : (t + x.period - 1) / x.period < 100001 = (div-lt_iff_lt-mul some).1 (omega arith) in
    omega arith

pub load_small : (t : ℕ) (x : Timing) → t ≤ 1000000 → load t x ≤ 12700000000000
unfolding load
load_small t x h = mul-le-mul x.work.1 (releases_few t x h)

pub demand_small : (t : ℕ) (xs : List Timing) → t ≤ 1000000 → demand xs t ≤ length xs * 12700000000000
demand_small t xs h = sum_by_le (load t) 12700000000000 xs (All-from_get_or (λ x. load t x ≤ 12700000000000) xs no_timing (λ i l. load_small t (slice_index_or xs i no_timing) h))

load_more : (t : ℕ) (x y : Timing) → NoSmaller x y → load t x ≤ load t y
unfolding load
load_more t x y h =
    let same = ap (λ n. releases n t) h.0 in
    subst (λ n. x.cost * releases x.period t ≤ y.cost * n) same (mul-le-mul_right (releases x.period t) h.2)

demand_more : (t : ℕ) (xs ys : List Timing) → AllZip NoSmaller xs ys → demand xs t ≤ demand ys t
demand_more t [] [] h = le_refl _
demand_more t [] (y ∷ ys) h = absurd h
demand_more t (x ∷ xs) [] h = absurd h
demand_more t (x ∷ xs) (y ∷ ys) h = omega (arith, sum_by-cons (load t) x xs, sum_by-cons (load t) y ys, load_more t x y h.0, demand_more t xs ys h.1)

pub deadline_first : (ts : List Timing) (p : ℕ) → 1 ≤ deadline_at ts p
deadline_first ts p = (get_or ts (p - 1) no_timing).clock.2

pub deadline_small : (ts : List Timing) (p : ℕ) → deadline_at ts p ≤ 1000000
deadline_small ts p = let x = get_or ts (p - 1) no_timing in omega (arith, x.clock.1, x.clock.3)

deadline_take : (ts : List Timing) (p : ℕ) → 1 ≤ p → (get_or (take p ts) (p - 1) no_timing).deadline ≡ deadline_at ts p
deadline_take ts p h = ap (λ (x : Timing). x.deadline) (get_or-take p ts (p - 1) no_timing (omega arith))

pub deadline_agrees : (ts us : List Timing) (p : ℕ) → 1 ≤ p → Agree p ts us → deadline_at ts p ≡ deadline_at us p
deadline_agrees ts us p h e = sym (deadline_take ts p h) ∙ ap (λ (l : List Timing). (get_or l (p - 1) no_timing).deadline) e ∙ deadline_take us p h

pub deadline_kept : (ts us : List Timing) (p : ℕ) → Asked ts p → Heavier p ts us → deadline_at ts p ≡ deadline_at us p
deadline_kept ts us p a h =
    let first = a.first in
    let there : p - 1 < length (take p ts) = omega (arith, length-take-le p ts a.last) in
    sym (deadline_take ts p first) ∙ (AllZip-get_or NoSmaller (take p ts) (take p us) (p - 1) no_timing no_timing h there).1 ∙ deadline_take us p first

pub slack_agrees : (ts us : List Timing) (p t : ℕ) → Agree p ts us → slack_at ts p t ≡ slack_at us p t
unfolding slack_at
slack_agrees ts us p t e = ap (λ (l : List Timing). pos t -ℤ pos (demand l t)) e

pub slack_falls : (ts us : List Timing) (p t : ℕ) → Heavier p ts us → slack_at us p t ≤ℤ slack_at ts p t
unfolding slack_at
slack_falls ts us p t h = let more = demand_more t (take p ts) (take p us) h in omega (arith, ints)

pub slack_low : (ts : List Timing) (p t : ℕ) → Asked ts p → t ≤ 1000000 → lowest ≤ℤ slack_at ts p t
unfolding slack_at
slack_low ts p t a h =
    let most = demand_small t (take p ts) h in
    let count = length-take-le p ts a.last in
    let few = a.few in
    let last = a.last in
    omega (arith, ints)

pub slack_high : (ts : List Timing) (p t : ℕ) → t ≤ 1000000 → slack_at ts p t ≤ℤ pos 1000000
unfolding slack_at
slack_high ts p t h = omega (arith, ints)
