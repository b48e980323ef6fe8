-- The heap of the next multiples: what one step does to it and to the demand that is carried.
use Rattle.std.proofs.Common.{◌≡◌, ℕ, suc, ◌+◌, ◌-◌, ◌*◌, ◌/◌, ◌<◌, ◌≤◌, false, List, [], ◌∷◌, length, get_or, take, sum_by, sym, ap, ◌∙◌, le_refl, div-lt_iff_lt-mul, add-mul, mul-le-mul_left, one-mul, le-div_iff_mul-le, mul-one, mul-add, arith}
use native.Mathlib.Nat.{div_self, add-div_right}
use Rattle.std.proofs.lemmas.List.Elements.{All-contains, All-from_recursion}
use Rattle.std.proofs.ByRecursion.{All-weaker, all_shuffled}
use Rattle.std.proofs.lemmas.List.{length-take}
use Rattle.std.proofs.lemmas.List.Sorted.{sum_by-IsPermutation}
use Rattle.std.proofs.lemmas.List.Sums.{sum_by-cons, sum_by_more}
use Rattle.std.proofs.lemmas.Bool.Decides.{nat_tests}
use Rattle.std.specs.List.Sorted.{IsPermutation}
use Rattle.std.specs.List.{Contains, AllByRecursion}
use Rattle.heap.specs.Heaps.{Least}
use Rattle.heap.specs.Orders.{before_by}
use Rattle.tasks.specs.declared.timings.Timing.{Timing}
use Rattle.rules.specs.declared.multiple.Multiple.{Multiple}
use Rattle.rules.specs.contracts.multiple.MultipleOrd.TheImpl as ord
use Rattle.rules.specs.Multiples.{sooner_is}
use Rattle.rules.specs.Slacks.{load, demand}
use Rattle.rules.specs.Tables.{no_timing}
use Rattle.rules.specs.Walks.{task_of, Next, carried, Holds}
use Rattle.rules.specs.Demands.{demand_small}

sums_le : {X : Type 0} (f g : X → ℕ) (xs : List X) → AllByRecursion (λ x. f x ≤ g x) xs → sum_by f xs ≤ sum_by g xs
sums_le f g [] h = le_refl _
sums_le f g (x ∷ xs) h = omega (arith, sum_by-cons f x xs, sum_by-cons g x xs, h.0, sums_le f g xs h.1)

no_sooner : (x y : Multiple) → before_by ord.ghosts.cmp y x ≡ false → x.at ≤ y.at
no_sooner x y h = let k = sym (sooner_is y x) ∙ h in grind (arith, nat_tests)

pub least_at : (x : Multiple) (xs : List Multiple) → Least (before_by ord.ghosts.cmp) x xs → AllByRecursion (λ y. x.at ≤ y.at) xs
least_at x xs h = All-weaker (λ y. before_by ord.ghosts.cmp y x ≡ false) (λ y. x.at ≤ y.at) (no_sooner x) xs h

module _ (ts : List Timing) where
  long : (x : Multiple) → 0 < (task_of ts x).period
  long x = omega (arith, (task_of ts x).clock.0)

  -- past the moment met, a task asks for no less than what is carried
  carried_asked : (n met t : ℕ) (x : Multiple) → met < t → Next ts n met x → carried ts x ≤ load t (task_of ts x)
  unfolding carried load
  carried_asked n met t x h a =
      let p = (task_of ts x).period in
      let k = x.at / p in
      let l = long x in
      let m = a.multiple in
      let u = a.next in
      mul-le-mul_left (task_of ts x).cost ((le-div_iff_mul-le l).1 (omega arith))

  -- up to its multiple, a task asks for no more than what is carried
  asked_carried : (n met t : ℕ) (x : Multiple) → t ≤ x.at → Next ts n met x → load t (task_of ts x) ≤ carried ts x
  unfolding carried load
  asked_carried n met t x h a =
      let p = (task_of ts x).period in
      let k = x.at / p in
      let l = long x in
      let m = a.multiple in
      let e = add-mul k 1 p in
      let few : (t + p - 1) / p < k + 1 = (div-lt_iff_lt-mul l).1 (omega (arith, one-mul p)) in
      mul-le-mul_left (task_of ts x).cost (omega arith)

  pub carried_demand : (n met t : ℕ) (xs : List Multiple) → met < t → Holds ts n met xs → sum_by (carried ts) xs ≤ demand (take n ts) t
  carried_demand n met t xs h a =
      omega (arith, a.all t, sums_le (carried ts) (λ x. load t (task_of ts x)) xs (All-weaker (Next ts n met) (λ x. carried ts x ≤ load t (task_of ts x)) (λ x. carried_asked n met t x h) xs a.each))

  pub demand_carried : (n met t : ℕ) (xs : List Multiple) → AllByRecursion (λ x. t ≤ x.at) xs → Holds ts n met xs → demand (take n ts) t ≤ sum_by (carried ts) xs
  demand_carried n met t xs h a =
      omega (arith, a.all t, sums_le (λ x. load t (task_of ts x)) (carried ts) xs (both xs h a.each))
    where
      both : (ys : List Multiple) → AllByRecursion (λ x. t ≤ x.at) ys → AllByRecursion (Next ts n met) ys → AllByRecursion (λ x. load t (task_of ts x) ≤ carried ts x) ys
      both [] h a = tt
      both (y ∷ ys) h a = (asked_carried n met t y h.0 a.0, both ys h.1 a.1)

  pub carried_small : (n met : ℕ) (xs : List Multiple) → n ≤ 32 → met < 1000000 → Holds ts n met xs → sum_by (carried ts) xs ≤ 406400000000000
  carried_small n met xs few early a = omega (arith, carried_demand n met (suc met) xs (omega arith) a, demand_small (suc met) (take n ts) (omega arith), length-take n ts)

  next_first : (n : ℕ) (x : Multiple) → x.task ≡ n → x.at ≡ (task_of ts x).period → Next ts (n + 1) 0 x
  next_first n x e h =
      let l = long x in
      let one = ap (λ k. k / (task_of ts x).period * (task_of ts x).period) h ∙ ap (λ k. k * (task_of ts x).period) (div_self l) ∙ one-mul (task_of ts x).period ∙ sym h in
      record { there = omega arith; some = omega arith; multiple = one; after = omega arith; next = omega arith }

  next_further : (n : ℕ) (x : Multiple) → Next ts n 0 x → Next ts (n + 1) 0 x
  next_further n x a = record { there = omega (arith, a.there); some = a.some; multiple = a.multiple; after = a.after; next = a.next }

  carried_first : (x : Multiple) → x.at ≡ (task_of ts x).period → carried ts x ≡ (task_of ts x).cost
  unfolding carried
  carried_first x h = ap (λ k. (task_of ts x).cost * (k / (task_of ts x).period)) h ∙ ap (λ k. (task_of ts x).cost * k) (div_self (long x)) ∙ mul-one (task_of ts x).cost

  -- one task more
  pub puts : (n : ℕ) (x : Multiple) (xs ys : List Multiple) → n < length ts → x.task ≡ n → x.at ≡ (task_of ts x).period → IsPermutation (x ∷ xs) ys → Holds ts n 0 xs → Holds ts (n + 1) 0 ys × (sum_by (carried ts) ys ≡ sum_by (carried ts) xs + (task_of ts x).cost)
  puts n x xs ys l e h moved a = (
    record {
      each = all_shuffled (Next ts (n + 1) 0) (x ∷ xs) ys moved (next_first n x e h, All-weaker (Next ts n 0) (Next ts (n + 1) 0) (next_further n) xs a.each);
      all = λ t.
          let g : Multiple → ℕ = λ y. load t (task_of ts y) in
          let at = ap (λ k. load t (get_or ts k no_timing)) e in
          omega (arith, sum_by-IsPermutation g (x ∷ xs) ys moved, sum_by-cons g x xs, a.all t, at, sum_by_more (load t) ts n no_timing l);
    },
    omega (arith, sum_by-IsPermutation (carried ts) (x ∷ xs) ys moved, sum_by-cons (carried ts) x xs, carried_first x h),
  )

  next_again : (n met m : ℕ) (x : Multiple) → met ≤ m → m ≤ x.at → Next ts n met x → Next ts n m x
  next_again n met m x h k a = record { there = a.there; some = a.some; multiple = a.multiple; after = k; next = omega (arith, a.next) }

  module _ (x y : Multiple) (e : y.task ≡ x.task) (h : y.at ≡ x.at + (task_of ts x).period) where
    same_task : task_of ts y ≡ task_of ts x
    same_task = ap (λ k. get_or ts k no_timing) e

    count_more : y.at / (task_of ts y).period ≡ x.at / (task_of ts x).period + 1
    count_more = ap (λ (z : Timing). y.at / z.period) same_task ∙ ap (λ k. k / (task_of ts x).period) h ∙ add-div_right x.at (long x)

    carried_more : carried ts y ≡ carried ts x + (task_of ts x).cost
    unfolding carried
    carried_more =
        ap (λ (z : Timing). z.cost * (y.at / (task_of ts y).period)) same_task ∙ ap (λ k. (task_of ts x).cost * k) count_more ∙ mul-add (task_of ts x).cost (x.at / (task_of ts x).period) 1 ∙ ap (λ k. (task_of ts x).cost * (x.at / (task_of ts x).period) + k) (mul-one (task_of ts x).cost)

    next_more : (n met : ℕ) → Next ts n met x → Next ts n x.at y
    next_more n met a =
        let p = (task_of ts x).period in
        let k = x.at / p in
        let same = ap (λ (z : Timing). z.period) same_task in
        record {
          there = omega (arith, a.there);
          some = omega (arith, a.some);
          multiple = ap (λ j. j * (task_of ts y).period) count_more ∙ ap (λ j. (k + 1) * j) same ∙ add-mul k 1 p ∙ omega (arith, a.multiple, one-mul p);
          after = omega arith;
          next = omega arith;
        }

  -- the least multiple gives way to the next one of its task
  pub replaces : (n met : ℕ) (x y : Multiple) (xs ys : List Multiple) → Contains xs x → AllByRecursion (λ z. x.at ≤ z.at) xs → y.task ≡ x.task → y.at ≡ x.at + (task_of ts x).period → IsPermutation (y ∷ xs) (x ∷ ys) → Holds ts n met xs → Holds ts n x.at ys × (sum_by (carried ts) ys ≡ sum_by (carried ts) xs + (task_of ts x).cost)
  replaces n met x y xs ys has least e h moved a =
      let at = All-contains (Next ts n met) xs x (All-from_recursion (Next ts n met) xs a.each) has in
      let old = later xs least a.each at.after in (
        record {
          each = (all_shuffled (Next ts n x.at) (y ∷ xs) (x ∷ ys) moved (next_more x y e h n met at, old)).1;
          all = λ t.
              let g : Multiple → ℕ = λ z. load t (task_of ts z) in
              omega (arith, sum_by-IsPermutation g (y ∷ xs) (x ∷ ys) moved, sum_by-cons g y xs, sum_by-cons g x ys, a.all t, ap (load t) (same_task x y e h));
        },
        omega (arith, sum_by-IsPermutation (carried ts) (y ∷ xs) (x ∷ ys) moved, sum_by-cons (carried ts) y xs, sum_by-cons (carried ts) x ys, carried_more x y e h),
      )
    where
      later : (zs : List Multiple) → AllByRecursion (λ z. x.at ≤ z.at) zs → AllByRecursion (Next ts n met) zs → met ≤ x.at → AllByRecursion (Next ts n x.at) zs
      later [] l b k = tt
      later (z ∷ zs) l b k = (next_again n met x.at z k l.0 b.0, later zs l.1 b.1 k)
