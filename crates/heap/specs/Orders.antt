-- An order as a test: x comes before y where `cmp` answers `Less`.
use Rattle.std.specs.Prelude.{◌≡◌, ℕ, Bool, true, false, cond, nat_lt}
use Rattle.std.specs.declared.cmp.Ordering.{Ordering}
use Rattle.std.specs.declared.cmp.Ordering.TheVariants.{Less, Equal, Greater}
use Rattle.std.specs.Ordering.{is_lt, is_gt, ordering_reverse, ordering_then, nat_cmp}
use Rattle.std.specs.Cmp.{IsTotalOrder, upto}
use Rattle.std.proofs.Common.{refl, sym, ap, ◌∙◌, rules, arith}

abbrev pub before_by : {X : Type 0} → (X → X → Ordering) → X → X → Bool
before_by cmp x y = is_lt (cmp x y)

lt_reverse : (r : Ordering) → is_lt (ordering_reverse r) ≡ is_gt r
lt_reverse Less = refl
lt_reverse Equal = refl
lt_reverse Greater = refl

not_both : (r : Ordering) → is_lt r ≡ true → is_gt r ≡ false
not_both Less e = refl
not_both Equal e = refl
not_both Greater e = sym e

-- what an order answers whose tests are a, that the first item comes before the second, and b, the other way round
abbrev pub answer_by : Bool → Bool → Ordering
answer_by a b = cond a Less (cond b Greater Equal)

told_by_tests : (r : Ordering) → r ≡ answer_by (is_lt r) (is_gt r)
told_by_tests Less = refl
told_by_tests Equal = refl
told_by_tests Greater = refl

module _ {X : Type 0} {cmp : X → X → Ordering} (total : IsTotalOrder cmp) where
  -- y comes before x exactly where x comes after y
  pub before_turned : (x y : X) → before_by cmp y x ≡ is_gt (cmp x y)
  before_turned x y = ap is_lt (total.antisymm y x) ∙ lt_reverse (cmp x y)

  -- `cmp` answers by the test alone
  pub before_says : (x y : X) → cmp x y ≡ answer_by (before_by cmp x y) (before_by cmp y x)
  before_says x y = told_by_tests (cmp x y) ∙ ap (answer_by (before_by cmp x y)) (sym (before_turned x y))

  -- of two items at most one comes before the other
  pub before_asym : (x y : X) → before_by cmp x y ≡ true → before_by cmp y x ≡ false
  before_asym x y e = before_turned x y ∙ not_both (cmp x y) e

  -- "does not come before" goes on from one pair of items to the next
  pub before_chain : (x y z : X) → before_by cmp x y ≡ false → before_by cmp y z ≡ false → before_by cmp x z ≡ false
  before_chain x y z p q = before_turned z x ∙ upto total z y x (sym (before_turned z y) ∙ q) (sym (before_turned y x) ∙ p)

-- ---- orders that are given as tests

-- pairs: the first part decides, then the second
abbrev pub lexical : {X Y : Type 0} → (X → X → Bool) → (Y → Y → Bool) → X × Y → X × Y → Bool
lexical first second x y = cond (first x.0 y.0) true (cond (first y.0 x.0) false (second x.1 y.1))

-- numbers: of two at most one is less
pub nat_lt_asym : (x y : ℕ) → nat_lt x y ≡ true → nat_lt y x ≡ false
nat_lt_asym x y = search rules

-- numbers: "is not less" goes on
pub nat_lt_chain : (x y z : ℕ) → nat_lt x y ≡ false → nat_lt y z ≡ false → nat_lt x z ≡ false
nat_lt_chain x y z = search rules

-- pairs: of two at most one comes before the other
pub lexical_asym : {X Y : Type 0} (first : X → X → Bool) (second : Y → Y → Bool)
    → ((x y : X) → first x y ≡ true → first y x ≡ false) → ((x y : Y) → second x y ≡ true → second y x ≡ false)
    → (x y : X × Y) → lexical first second x y ≡ true → lexical first second y x ≡ false
lexical_asym first second f s x y = grind (arith, f, s)

-- pairs: "does not come before" goes on
pub lexical_chain : {X Y : Type 0} (first : X → X → Bool) (second : Y → Y → Bool)
    → ((x y : X) → first x y ≡ true → first y x ≡ false)
    → ((x y z : X) → first x y ≡ false → first y z ≡ false → first x z ≡ false)
    → ((x y z : Y) → second x y ≡ false → second y z ≡ false → second x z ≡ false)
    → (x y z : X × Y) → lexical first second x y ≡ false → lexical first second y z ≡ false → lexical first second x z ≡ false
lexical_chain first second f c s x y z = grind (arith, f, c, s)

pub answer_by_then : (a b c d : Bool) → (a ≡ true → b ≡ false) → ordering_then (answer_by a b) (answer_by c d) ≡ answer_by (cond a true (cond b false c)) (cond b true (cond a false d))
answer_by_then true true c d asym = let e : true ≡ false = asym refl in cc
answer_by_then true false c d asym = refl
answer_by_then false true c d asym = refl
answer_by_then false false c d asym = refl

-- pairs: the parts' answers, the second where the first is `Equal`
pub lexical_says : {X Y : Type 0} (first : X → X → Bool) (second : Y → Y → Bool) (x y : X × Y) (p q r : Ordering)
    → (first x.0 y.0 ≡ true → first y.0 x.0 ≡ false)
    → p ≡ answer_by (first x.0 y.0) (first y.0 x.0) → q ≡ answer_by (second x.1 y.1) (second y.1 x.1) → r ≡ ordering_then p q
    → r ≡ answer_by (lexical first second x y) (lexical first second y x)
lexical_says first second x y p q r asym a b e =
    e ∙ (λ i. ordering_then (a i) (b i)) ∙ answer_by_then (first x.0 y.0) (first y.0 x.0) (second x.1 y.1) (second y.1 x.1) asym

-- numbers: what their comparison answers
pub nat_cmp_says : (x y : ℕ) → nat_cmp x y ≡ answer_by (nat_lt x y) (nat_lt y x)
nat_cmp_says x y = search rules

-- numbers: the test of their order
pub nat_before : (x y : ℕ) → before_by nat_cmp x y ≡ nat_lt x y
nat_before x y = search rules

by_parts : (p q : Ordering) → is_lt (ordering_then p q) ≡ cond (is_lt p) true (cond (is_gt p) false (is_lt q))
by_parts Less q = refl
by_parts Equal q = refl
by_parts Greater q = refl

-- pairs: the test of their order, by those of their parts
pub lexical_before : {X Y : Type 0} {first : X → X → Ordering} → IsTotalOrder first → (second : Y → Y → Ordering) (x y : X × Y)
    → is_lt (ordering_then (first x.0 y.0) (second x.1 y.1)) ≡ lexical (before_by first) (before_by second) x y
lexical_before {first = first} total second x y =
    by_parts (first x.0 y.0) (second x.1 y.1) ∙ ap (λ t. cond (before_by first x.0 y.0) true (cond t false (before_by second x.1 y.1))) (sym (before_turned total x.0 y.0))
