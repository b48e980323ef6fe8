-- From a word that is admitted to what is answered under it.
use Rattle.std.proofs.Common.{◌≡◌, ℕ, Bool, true, false, cond, Ok, Err, refl, sym, ap, ◌∙◌}
use Rattle.std.specs.Prelude.{Result}
use Rattle.tasks.specs.declared.refusals.Refusal.{Refusal}
use Rattle.tasks.specs.declared.refusals.Refusal.TheVariants.{OutOfRange}
use Rattle.tasks.specs.declared.model.Task.{Task}
use Rattle.tasks.specs.Under.{admitted, under}

taken : (b : Bool) (e : Refusal) → ◌≡◌ {A = Result (Unit {0}) Refusal} (Ok tt) (cond b (Ok tt) (Err e)) → b ≡ true
taken true e h = refl
taken false e h = cc

-- the call did not refuse the word
pub was_admitted : (t : Task) (word : ℕ) → ◌≡◌ {A = Result (Unit {0}) Refusal} (Ok tt) (under t word tt) → admitted t word ≡ true
was_admitted t word h = taken (admitted t word) OutOfRange h

pub answered : {A : Type 0} (t : Task) (word : ℕ) (x y : A) → admitted t word ≡ true → x ≡ y → ◌≡◌ (Ok x) (under t word y)
answered t word x y h e = ap Ok e ∙ ap (λ b. cond b (Ok y) (Err OutOfRange)) (sym h)
