-- Results whose error is turned into another. Assumes nothing.
use Rattle.std.proofs.Common.{◌≡◌, true, Ok, Err, Result, refl}
use borrow.Author.Tests.{both_ways}
use Rattle.std.specs.Result.{MatchResult, IsErrAnd, IfOk, is_ok}

-- an Ok that is left was one before
pub still_ok : {T E : Type 0} (D : Type 0) (r : Result T E) (x : T) → MatchResult r (λ y. ◌≡◌ {A = Result T D} (Ok x) (Ok y)) (λ _. ⊥) → r ≡ Ok x
still_ok D (Ok y) x m = cc
still_ok D (Err e) x m = absurd m

-- an Ok before is still there
pub is_still : {T E D : Type 0} (r : Result T E) (s : Result T D) (P : T → Type 0) (Q : E → D → Type 0) → is_ok r ≡ true → IfOk r P → MatchResult r (λ y. s ≡ Ok y) (λ e. IsErrAnd s (Q e)) → (x : T) × (s ≡ Ok x) × P x
is_still (Ok x) s P Q o p m = (x, m, p)
is_still (Err e) s P Q o p m = absurd (both_ways _ refl o)
