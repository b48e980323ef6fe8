-- The order of the candidates: by value, then by start.
use Rattle.std.specs.Prelude.{◌≡◌, Bool, true, false, cond, nat_lt, Option, Some}
use Rattle.std.proofs.Common.{ap, ◌∙◌}
use Rattle.std.specs.declared.cmp.Ordering.{Ordering}
use Rattle.std.specs.Ordering.{is_lt, ordering_then, partial_ordering_then, nat_cmp}
use Rattle.std.specs.Cmp.{IsTotalOrder, Some-then}
use Rattle.heap.specs.Orders.{before_by, nat_lt_asym, nat_lt_chain, nat_before, lexical_asym, lexical_chain, lexical_before, answer_by, answer_by_then, nat_cmp_says}
use Rattle.selection.specs.declared.candidate.Candidate.{Candidate}

abbrev pub sooner : {V : Type 0} → (V → V → Bool) → Candidate V → Candidate V → Bool
sooner before a b = cond (before a.value b.value) true (cond (before b.value a.value) false (nat_lt a.start b.start))

-- of two candidates at most one is sooner
pub sooner_asym : {V : Type 0} (before : V → V → Bool) → ((v w : V) → before v w ≡ true → before w v ≡ false) → (a b : Candidate V) → sooner before a b ≡ true → sooner before b a ≡ false
sooner_asym before asym a b = lexical_asym before nat_lt asym nat_lt_asym (a.value, a.start) (b.value, b.start)

-- "is not sooner" goes on
pub sooner_chain : {V : Type 0} (before : V → V → Bool) → ((v w : V) → before v w ≡ true → before w v ≡ false) → ((u v w : V) → before u v ≡ false → before v w ≡ false → before u w ≡ false)
    → (a b c : Candidate V) → sooner before a b ≡ false → sooner before b c ≡ false → sooner before a c ≡ false
sooner_chain before asym chain a b c = lexical_chain before nat_lt asym chain nat_lt_chain (a.value, a.start) (b.value, b.start) (c.value, c.start)

-- the fields' comparisons, one after the other, answer by `sooner`
pub sooner_compared : {V : Type 0} (before : V → V → Bool) (compared : V → V → Option Ordering) (a b : Candidate V)
    → (before a.value b.value ≡ true → before b.value a.value ≡ false)
    → compared a.value b.value ≡ Some (answer_by (before a.value b.value) (before b.value a.value))
    → partial_ordering_then (compared a.value b.value) (Some (nat_cmp a.start b.start)) ≡ Some (answer_by (sooner before a b) (sooner before b a))
sooner_compared before compared a b asym e =
    let values = answer_by (before a.value b.value) (before b.value a.value) in
    ap (λ o. partial_ordering_then o (Some (nat_cmp a.start b.start))) e
    ∙ Some-then values (nat_cmp a.start b.start)
    ∙ ap (λ o. Some (ordering_then values o)) (nat_cmp_says a.start b.start)
    ∙ ap Some (answer_by_then (before a.value b.value) (before b.value a.value) (nat_lt a.start b.start) (nat_lt b.start a.start) asym)

-- the order that is derived for the candidates, by value and then by start, is that one
pub sooner_is : {V : Type 0} {cmp : V → V → Ordering} (total : IsTotalOrder cmp) (a b : Candidate V) → is_lt (ordering_then (cmp a.value b.value) (nat_cmp a.start b.start)) ≡ sooner (before_by cmp) a b
sooner_is {cmp = cmp} total a b =
    lexical_before total nat_cmp (a.value, a.start) (b.value, b.start)
    ∙ ap (λ t. cond (before_by cmp a.value b.value) true (cond (before_by cmp b.value a.value) false t)) (nat_before a.start b.start)
