-- The least of some offers, told by a function of the start.
use Rattle.std.proofs.Common.{◌≡◌, ℕ, zero, suc, ◌<◌, Bool, true, false, cond, ◌⊎◌, Some, None, Option, sym, refl, ap, ◌∙◌, ap₂, inl, inr, ⊎_elim, arith}
use Rattle.std.proofs.Permutation.{which}
use Rattle.tasks.specs.declared.points.Point.{Point}
use Rattle.selection.specs.Selections.{Chosen, lesser}

module _ {V : Type 0} (before : V → V → Bool) (none : V) (join : V → Point → V) (cost : ℕ → ℕ) (point : ℕ → Point) (limit : Option ℕ)
    (asym : (x y : V) → before x y ≡ true → before y x ≡ false)
    (chain : (x y z : V) → before x y ≡ false → before y z ≡ false → before x z ≡ false)
  where
    abbrev less : Option (Chosen V) → Option (Chosen V) → Option (Chosen V)
    less = lesser before none join cost point limit

    -- the least of the offers of the starts below m
    abbrev pub best_of : (ℕ → Option (Chosen V)) → ℕ → Option (Chosen V)
    best_of off zero = None
    best_of off (suc m) = less (best_of off m) (off m)

    pub best_of_same : (f g : ℕ → Option (Chosen V)) (m : ℕ) → ((j : ℕ) → j < m → f j ≡ g j) → best_of f m ≡ best_of g m
    best_of_same f g zero h = refl
    best_of_same f g (suc m) h = ap₂ less (best_of_same f g m (λ j l. h j (omega arith))) (h m (omega arith))

    pub best_of_none : (off : ℕ → Option (Chosen V)) (m : ℕ) → ((j : ℕ) → j < m → off j ≡ None) → best_of off m ≡ None
    best_of_none off zero h = refl
    best_of_none off (suc m) h = ap₂ less (best_of_none off m (λ j l. h j (omega arith))) (h m (omega arith))

    irrefl : (x : V) → before x x ≡ false
    irrefl x = by (before x x) refl
      where
        by : (b : Bool) → before x x ≡ b → before x x ≡ false
        by true e = asym x x e
        by false e = e

    -- it is one of them
    from_less : (a b : Option (Chosen V)) (s : Chosen V) → less a b ≡ Some s → (a ≡ Some s) ⊎ (b ≡ Some s)
    from_less None b s e = inr e
    from_less (Some a) None s e = inl e
    from_less (Some a) (Some b) s e = by (before b.value a.value) e
      where
        by : (t : Bool) → cond t (Some b) (Some a) ≡ Some s → (◌≡◌ (Some a) (Some s)) ⊎ (◌≡◌ (Some b) (Some s))
        by true h = inr h
        by false h = inl h

    pub best_of_from : (off : ℕ → Option (Chosen V)) (m : ℕ) (s : Chosen V) → best_of off m ≡ Some s → (j : ℕ) × (j < m) × (off j ≡ Some s)
    best_of_from off zero s e = absurd (let z : ◌≡◌ {A = ℕ} 0 1 = cc in omega arith)
    best_of_from off (suc m) s e = ⊎_elim
        (λ h. let r = best_of_from off m s h in (r.0, omega (arith, r.1), r.2))
        (λ h. (m, omega arith, h))
        (from_less (best_of off m) (off m) s e)

    -- none of them is less
    less_left : (a : Chosen V) (b : Option (Chosen V)) → (s : Chosen V) × (less (Some a) b ≡ Some s) × (before a.value s.value ≡ false)
    less_left a None = (a, refl, irrefl a.value)
    less_left a (Some b) = by (before b.value a.value) refl
      where
        by : (t : Bool) → before b.value a.value ≡ t → (s : Chosen V) × (cond t (Some b) (Some a) ≡ Some s) × (before a.value s.value ≡ false)
        by true e = (b, refl, asym b.value a.value e)
        by false e = (a, refl, irrefl a.value)

    less_right : (a : Option (Chosen V)) (b : Chosen V) → (s : Chosen V) × (less a (Some b) ≡ Some s) × (before b.value s.value ≡ false)
    less_right None b = (b, refl, irrefl b.value)
    less_right (Some a) b = by (before b.value a.value) refl
      where
        by : (t : Bool) → before b.value a.value ≡ t → (s : Chosen V) × (cond t (Some b) (Some a) ≡ Some s) × (before b.value s.value ≡ false)
        by true e = (b, refl, irrefl b.value)
        by false e = (a, refl, e)

    pub best_of_least : (off : ℕ → Option (Chosen V)) (m j : ℕ) (u : Chosen V) → j < m → off j ≡ Some u → (s : Chosen V) × (best_of off m ≡ Some s) × (before u.value s.value ≡ false)
    best_of_least off zero j u l e = absurd (omega arith)
    best_of_least off (suc m) j u l e = ⊎_elim
        (λ is. let r = less_right (best_of off m) u in (r.0, ap (less (best_of off m)) (ap off (sym is) ∙ e) ∙ r.1, r.2))
        (λ ne.
        let h = best_of_least off m j u (omega arith) e in
        let r = less_left h.0 (off m) in
        (r.0, ap (λ a. less a (off m)) h.1 ∙ r.1, chain u.value h.0.value r.0.value h.2 r.2))
        (which j m)

    -- what comes from a start that no other start's offer is less than, and whose offer is less than those of all smaller starts
    pub best_of_is : (off : ℕ → Option (Chosen V)) (m j : ℕ) (s : Chosen V) → j < m → off j ≡ Some s
        → ((i : ℕ) (u : Chosen V) → i < m → off i ≡ Some u → before u.value s.value ≡ false)
        → ((i : ℕ) (u : Chosen V) → i < j → off i ≡ Some u → before s.value u.value ≡ true)
        → best_of off m ≡ Some s
    best_of_is off zero j s l e least first = absurd (omega arith)
    best_of_is off (suc m) j s l e least first = ⊎_elim
        (λ is. ap (less (best_of off m)) (ap off (sym is) ∙ e) ∙ last (best_of off m) refl is)
        (λ ne. ap (λ a. less a (off m)) (best_of_is off m j s (omega arith) e (λ i u h. least i u (omega arith)) first) ∙ kept (off m) refl)
        (which j m)
      where
        last : (a : Option (Chosen V)) → best_of off m ≡ a → j ≡ m → less a (Some s) ≡ Some s
        last None h is = refl
        last (Some a) h is = let r = best_of_from off m a h in ap (λ t. cond t (Some s) (Some a)) (first r.0 a (omega (arith, r.1)) r.2)

        kept : (b : Option (Chosen V)) → off m ≡ b → less (Some s) b ≡ Some s
        kept None h = refl
        kept (Some b) h = ap (λ t. cond t (Some b) (Some s)) (least m b (omega arith) h)
