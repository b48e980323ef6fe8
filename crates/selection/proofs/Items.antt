-- What a list with one more item contains.
use Rattle.std.proofs.Common.{◌≡◌, zero, suc, ◌⊎◌, List, ◌∷◌, inl, inr, arith}
use Rattle.std.specs.List.{Contains}

pub Contains-cons_cases : {X : Type 0} (y x : X) (xs : List X) → Contains (y ∷ xs) x → (y ≡ x) ⊎ Contains xs x
Contains-cons_cases y x xs (zero, l, at) = inl at
Contains-cons_cases y x xs (suc k, l, at) = inr (k, omega arith, at)
