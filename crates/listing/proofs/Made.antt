-- What an array that is made by a function has at each place. Assumes nothing.
use Rattle.std.proofs.Common.{◌≡◌, ℕ, zero, suc, ◌+◌, ◌<◌, ◌≤◌, List, get_or, sym, subst, ⊎_elim, arith}
use Rattle.std.proofs.lemmas.Bool.{cases_lt}
use Rattle.std.specs.Array.{IsFromFnResult, IsFromFnResultFrom}
use Rattle.std.specs.Fn.{Called}
use denote.Param.Members.{Mut}

-- each call leaves the function as it was, and gives what P says
module _ {F B : Type 0} (g : Mut F (ℕ × Unit {0}) B) (f : F) (P : ℕ → B → Type 0) (each : (x : ℕ) (y : B) (q : F) → Called g f (x, tt) y q → (q ≡ f) × P x y) (ys : List B) where
  made_from : (i n : ℕ) → IsFromFnResultFrom g f ys i n → (k : ℕ) (d : B) → i ≤ k → k < i + n → P k (get_or ys k d)
  made_from i zero h k d a b = absurd (omega arith)
  made_from i (suc n) h k d a b =
      let e = each i h.1 h.0 h.3 in
      ⊎_elim
      (λ later. made_from (i + 1) n (subst (λ p. IsFromFnResultFrom g p ys (i + 1) n) e.0 h.4) k d (omega arith) (omega arith))
      (λ here. let same : i ≡ k = omega arith in subst (λ m. P m (get_or ys m d)) same (subst (P i) (sym (h.2.1 d)) e.1))
      (cases_lt i k)

pub made : {F B : Type 0} {g : Mut F (ℕ × Unit {0}) B} {f : F} {ys : List B} {n : ℕ} (P : ℕ → B → Type 0) → IsFromFnResult g f ys n → ((x : ℕ) (y : B) (q : F) → Called g f (x, tt) y q → (q ≡ f) × P x y) → (k : ℕ) (d : B) → k < n → P k (get_or ys k d)
made {F} {B} {g} {f} {ys} {n} P r each k d h = made_from g f P each ys 0 n r.each k d (omega arith) (omega arith)
