-- What going through one more routine keeps. Assumes nothing.
use Rattle.std.proofs.Common.{ℕ, ◌+◌, ◌<◌, Bool, ◌&&◌, ◌||◌, List, sym, refl, ◌∙◌, subst, add-one}
use Rattle.listing.specs.Cycles.{Table, entry, through, closed, Tabled}

pub start_closed : (rows : List (List Bool)) (code : ℕ → ℕ) → Tabled rows (closed (entry rows) code 0)
unfolding closed
start_closed rows code = record { says = λ i c h k. refl }

module _ (rows next : List (List Bool)) (t : Table) (code : ℕ → ℕ) (k : ℕ) (few : k < 32) (small : code k < 256) where
  pub pass_closed : Tabled rows (closed t code k) → Tabled next (through (entry rows) k (code k)) → Tabled next (closed t code (k + 1))
  unfolding closed
  pass_closed before now =
      subst (λ n. Tabled next (closed t code n)) (sym (add-one k))
      (record {
        says = λ i c h j. now.says i c h j ∙ (λ x. before.says i c h j x || (before.says i (code k) h small x && before.says k c few j x));
      })
