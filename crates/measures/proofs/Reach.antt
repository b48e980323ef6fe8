-- Values that are reached by joining points.
use Rattle.std.proofs.Common.{◌≡◌, ℕ, zero, suc, ◌+◌, ◌*◌, ◌≤◌, Bool, true, false, cond, List, [], ◌∷◌, length, refl, ap, subst, add-one, arith}
use Rattle.tasks.specs.declared.points.Point.{Point}
use Rattle.tasks.specs.Choices.{Choice}
use Rattle.measures.specs.Joins.{joined, Reached, measured}

module _ {V : Type 0} {none : V} {join : V → Point → V} where
  pub reached_none : (n : ℕ) (v : V) → v ≡ none → Reached none join n v
  reached_none n v e = record { points = []; many = omega arith; is = e }

  pub reached_more : (n m : ℕ) (v w : V) (p : Point) → Reached none join n v → n + 1 ≤ m → w ≡ join v p → Reached none join m w
  reached_more n m v w p r h e = record { points = p ∷ r.points; many = omega (arith, r.many); is = subst (λ u. w ≡ join u p) r.is e }

  pub reached_weak : (n m : ℕ) (v : V) → Reached none join n v → n ≤ m → Reached none join m v
  reached_weak n m v r h = record { points = r.points; many = omega (arith, r.many); is = r.is }

  -- what grows by a million at most at each point
  module _ (size : V → ℕ) (zero-at : size none ≡ 0) (more : (v : V) (p : Point) → size (join v p) ≤ size v + 1000000) where
    below : (ps : List Point) → size (joined none join ps) ≤ length ps * 1000000
    below [] = omega (arith, zero-at)
    below (p ∷ ps) = omega (arith, below ps, more (joined none join ps) p)

    pub bounded : (n : ℕ) (v : V) → Reached none join n v → size v ≤ n * 1000000
    bounded n v r = omega (arith, below r.points, r.many, ap size r.is)

  -- a choice's points before block k are k at most
  pub reached_measured : (point : ℕ → Point) (c : Choice) (k : ℕ) → Reached none join k (measured none join point c k)
  reached_measured point c zero = reached_none 0 none refl
  reached_measured point c (suc k) = by_choice (c k) (reached_measured point c k)
    where
      by_choice : (b : Bool) → Reached none join k (measured none join point c k) → Reached none join (suc k) (cond b (join (measured none join point c k) (point k)) (measured none join point c k))
      by_choice true r = reached_more k (suc k) (measured none join point c k) _ (point k) r (omega arith) refl
      by_choice false r = reached_weak k (suc k) (measured none join point c k) r (omega arith)

pub measured_more : {V : Type 0} (none : V) (join : V → Point → V) (point : ℕ → Point) (c : Choice) (k : ℕ) → measured none join point c (k + 1) ≡ cond (c k) (join (measured none join point c k) (point k)) (measured none join point c k)
measured_more none join point c k = ap (measured none join point c) (add-one k)
