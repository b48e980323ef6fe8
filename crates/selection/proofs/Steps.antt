-- One block more for the heap of candidates.
use Rattle.std.proofs.Common.{◌≡◌, ℕ, zero, suc, ◌+◌, ◌<◌, ◌≤◌, Bool, true, false, cond, ltb, List, [], ◌∷◌, length, get_or, set, Some, None, Option, sym, refl, ap, ◌∙◌, subst, ap₂, inl, inr, ⊎_elim, arith, get_or-set_other, get_or-set_same, MatchOption}
use Rattle.std.specs.List.{Contains}
use Rattle.std.specs.List.Sorted.{IsPermutation}
use Rattle.std.proofs.Permutation.{which}
use Rattle.std.proofs.lemmas.List.Elements.{All-contains, All-from_recursion, Contains-append_right}
use Rattle.std.proofs.lemmas.List.Sorted.{IsPermutation-sym, Contains-permutation}
use Rattle.std.proofs.lemmas.Bool.Decides.{nat_tests}
use Rattle.heap.specs.Heaps.{Least}
use Rattle.tasks.specs.declared.model.Task.{Task}
use Rattle.tasks.specs.declared.points.Point.{Point}
use Rattle.tasks.specs.Choices.{told}
use Rattle.tasks.specs.Tasks.{cost_of_block, point_at, point_count}
use Rattle.measures.specs.Joins.{Reached}
use Rattle.measures.proofs.Reach.{reached_none, reached_weak, reached_measured}
use Rattle.selection.specs.declared.candidate.Candidate.{Candidate}
use Rattle.selection.specs.Candidates.{sooner}
use Rattle.selection.specs.Limits.{within}
use Rattle.selection.specs.Linked.{value_of, with_point, reaches, selected, offered, proposed, Holds, Picked, Linked, Cleared}
use Rattle.selection.specs.Running.{stretch_from}
use Rattle.selection.specs.Selections.{Chosen, joined_at}
use Rattle.selection.proofs.Best as best
use Rattle.selection.proofs.Items.{Contains-cons_cases}
use Rattle.selection.proofs.Law as law

pub value_none : {V : Type 0} (x : Option (Chosen V)) → value_of x ≡ None → x ≡ None
value_none None e = refl
value_none (Some s) e = absurd (let z : ◌≡◌ {A = ℕ} 0 1 = cc in omega arith)

-- a stretch only grows with its end
pub grows : (t : Task) (limit : Option ℕ) (k m j : ℕ) → k ≤ m → reaches t limit k j ≡ false → reaches t limit m j ≡ false
grows t limit k m j h e = longer limit (lengths j) e
  where
    lengths : (i : ℕ) → stretch_from (cost_of_block t) (point_at t) k i ≤ stretch_from (cost_of_block t) (point_at t) m i
    lengths zero = omega (arith, law.rises (cost_of_block t) (suc k) (suc m) (omega arith))
    lengths (suc i) = omega (arith, law.rises (cost_of_block t) (suc k) (suc m) (omega arith))

    longer : (l : Option ℕ) → stretch_from (cost_of_block t) (point_at t) k j ≤ stretch_from (cost_of_block t) (point_at t) m j → within l (stretch_from (cost_of_block t) (point_at t) k j) ≡ false → within l (stretch_from (cost_of_block t) (point_at t) m j) ≡ false
    longer None le f = f
    longer (Some x) le f = grind (arith, nat_tests)

module _ {V : Type 0} (before : V → V → Bool) (none : V) (join : V → Point → V) (t : Task) (limit : Option ℕ)
    (asym : (x y : V) → before x y ≡ true → before y x ≡ false)
    (chain : (x y z : V) → before x y ≡ false → before y z ≡ false → before x z ≡ false)
  where
    offered_is : (k j : ℕ) → offered before none join t limit k j ≡ cond (reaches t limit k j) (proposed before none join t limit j) None
    offered_is k zero = refl
    offered_is k (suc i) = refl

    pub value_some : (x : Option (Chosen V)) (v : V) → value_of x ≡ Some v → (s : Chosen V) × (x ≡ Some s) × (s.value ≡ v)
    value_some None v e = absurd (let z : ◌≡◌ {A = ℕ} 0 1 = cc in omega arith)
    value_some (Some s) v e = (s, refl, cc)

    -- what a start proposes, from what the blocks before it have
    proposes : (k : ℕ) (v : V) → value_of (selected before none join t limit k) ≡ Some v → value_of (proposed before none join t limit k) ≡ Some (with_point join t k v)
    proposes zero v e = e
    proposes (suc i) v e = let r = value_some (selected before none join t limit (suc i)) v e in ap (λ x. value_of (joined_at before none join (cost_of_block t) (point_at t) limit i x)) r.1 ∙ ap (λ u. Some (join u (point_at t i))) r.2

    proposes_none : (k : ℕ) → value_of (selected before none join t limit k) ≡ None → proposed before none join t limit k ≡ None
    proposes_none zero e = absurd (let z : ◌≡◌ {A = ℕ} 0 1 = cc in omega arith)
    proposes_none (suc i) e = ap (joined_at before none join (cost_of_block t) (point_at t) limit i) (value_none (selected before none join t limit (suc i)) e)

    -- ---- the candidate of block k is put among the others, or there is none

    pub put : (k : ℕ) (v : V) (x : Candidate V) (old new : List (Candidate V)) → value_of (selected before none join t limit k) ≡ Some v → x.start ≡ k → x.value ≡ with_point join t k v → IsPermutation (x ∷ old) new
        → Holds before none join t limit k k old → Holds before none join t limit (suc k) k new
    put k v x old new e at is moved h = record {
      sound = λ y g. ⊎_elim
          (λ same. subst (λ z. (z.start < suc k) × (value_of (proposed before none join t limit z.start) ≡ Some z.value)) same (omega (arith, at), ap (λ i. value_of (proposed before none join t limit i)) at ∙ proposes k v e ∙ ap Some (sym is)))
          (λ was. let r = h.sound y was in (omega (arith, r.0), r.1))
          (Contains-cons_cases x y old (Contains-permutation new (x ∷ old) y (IsPermutation-sym (x ∷ old) new moved) g));
      complete = λ j s l p. ⊎_elim
          (λ same. inl (Contains-permutation (x ∷ old) new _ moved (subst (λ z. Contains (x ∷ old) z) (the_same j s same p) (0, omega arith, refl))))
          (λ ne. ⊎_elim (λ g. inl (Contains-permutation (x ∷ old) new _ moved (Contains-append_right (x ∷ []) old _ g))) inr (h.complete j s (omega arith) p))
          (which j k);
    }
      where
        the_same : (j : ℕ) (s : Chosen V) → j ≡ k → proposed before none join t limit j ≡ Some s → x ≡ record { value = s.value; start = j }
        the_same j s same p =
            let q : ◌≡◌ {A = Option V} (Some s.value) (Some x.value) = sym (ap value_of p) ∙ ap (λ i. value_of (proposed before none join t limit i)) same ∙ proposes k v e ∙ ap Some (sym is) in
            let values : x.value ≡ s.value = cc in
            let starts : x.start ≡ j = at ∙ sym same in
            ap₂ (λ a b. record { value = a; start = b }) values starts

    pub put_none : (k : ℕ) (old : List (Candidate V)) → value_of (selected before none join t limit k) ≡ None → Holds before none join t limit k k old → Holds before none join t limit (suc k) k old
    put_none k old e h = record {
      sound = λ y g. let r = h.sound y g in (omega (arith, r.0), r.1);
      complete = λ j s l p. ⊎_elim
          (λ same. let q : proposed before none join t limit j ≡ None = ap (proposed before none join t limit) same ∙ proposes_none k e in absurd (let z : ◌≡◌ {A = ℕ} 0 1 = cc in omega arith))
          (λ ne. h.complete j s (omega arith) p)
          (which j k);
    }

    -- ---- those out of reach are taken off the top

    pub clears : (k : ℕ) (old new : List (Candidate V)) (top : Option (Candidate V)) → Cleared before t limit k old new top → Holds before none join t limit (suc k) k old → Holds before none join t limit (suc k) (suc k) new
    clears k old new top c h = record {
      sound = λ y g. h.sound y (c.kept y g);
      complete = λ j s l p. ⊎_elim
          (λ g. ⊎_elim inl (λ f. inr (λ m b. grows t limit k m j (omega arith) f)) (c.gone _ g))
          (λ f. inr (λ m b. f m (omega arith)))
          (h.complete j s l p);
    }

    -- ---- the first one that is left is the selection's

    either : (b : Bool) → ◌≡◌ {A = Option (Chosen V)} (cond b None None) None
    either true = refl
    either false = refl

    unreached : (k j : ℕ) (new : List (Candidate V)) → new ≡ [] → Holds before none join t limit (suc k) (suc k) new → j < suc k → (x : Option (Chosen V)) → proposed before none join t limit j ≡ x → offered before none join t limit k j ≡ None
    unreached k j new e h l None p = offered_is k j ∙ ap (λ x. cond (reaches t limit k j) x None) p ∙ either (reaches t limit k j)
    unreached k j new e h l (Some s) p = ⊎_elim
        (λ g. absurd (let none = subst (λ xs. Contains xs (record { value = s.value; start = j })) e g in omega (arith, none.1)))
        (λ f. offered_is k j ∙ ap (λ b. cond b (proposed before none join t limit j) None) (f k (omega arith)))
        (h.complete j s l p)

    not_sooner : (a b : V) (i j : ℕ) → sooner before (record { value = a; start = i }) (record { value = b; start = j }) ≡ false → (before a b ≡ false) × (i < j → before b a ≡ true)
    not_sooner a b i j e = by (before a b) (before b a) refl refl e
      where
        by : (p q : Bool) → before a b ≡ p → before b a ≡ q → cond p true (cond q false (ltb i j)) ≡ false → (before a b ≡ false) × (i < j → before b a ≡ true)
        by true q f g h = absurd (let z : ◌≡◌ {A = ℕ} 0 1 = cc in omega arith)
        by false true f g h = (f, λ l. g)
        by false false f g h = (f, λ l. absurd (let less : ltb i j ≡ true = grind (arith, nat_tests) in let z : ◌≡◌ {A = ℕ} 0 1 = cc in omega arith))

    module _ (k : ℕ) (new : List (Candidate V)) (h : Holds before none join t limit (suc k) (suc k) new) (x : Candidate V) (least : Least (sooner before) x new) where
      -- what any start offers is in the heap, so it does not come before x
      rival : (i : ℕ) (u : Chosen V) → i < suc k → offered before none join t limit k i ≡ Some u → sooner before (record { value = u.value; start = i }) x ≡ false
      rival i u l e =
          let r = law.some_cond (reaches t limit k i) (proposed before none join t limit i) u (sym (offered_is k i) ∙ e) in
          ⊎_elim
          (λ g. All-contains (λ y. sooner before y x ≡ false) new _ (All-from_recursion (λ y. sooner before y x ≡ false) new least) g)
          (λ f. absurd (let no = f k (omega arith) in let yes = r.0 in let z : ◌≡◌ {A = ℕ} 0 1 = cc in omega arith))
          (h.complete i u l r.1)

    pub picks : (k : ℕ) (new : List (Candidate V)) (top : Option (Candidate V)) → Holds before none join t limit (suc k) (suc k) new
        → MatchOption top (new ≡ []) (λ x. Contains new x × (reaches t limit k x.start ≡ true) × Least (sooner before) x new)
        → Picked before none join t limit k top
    picks k new None h first = law.selection_is before none join (cost_of_block t) (point_at t) limit asym chain k ∙ best.best_of_none before none join (cost_of_block t) (point_at t) limit asym chain (offered before none join t limit k) (suc k) (λ j l. unreached k j new first h l (proposed before none join t limit j) refl)
    picks k new (Some x) h first =
        let at = h.sound x first.0 in
        let p = value_some (proposed before none join t limit x.start) x.value at.1 in
        let s = p.0 in
        let is : offered before none join t limit k x.start ≡ Some s = offered_is k x.start ∙ ap₂ (λ b y. cond b y None) first.1 p.1 in
        let best' = best.best_of_is before none join (cost_of_block t) (point_at t) limit asym chain (offered before none join t limit k) (suc k) x.start s at.0 is
        (λ i u l e. ap (before u.value) p.2 ∙ (not_sooner u.value x.value i x.start (rival k new h x first.2 i u l e)).0)
        (λ i u l e. ap (λ v. before v u.value) p.2 ∙ (not_sooner u.value x.value i x.start (rival k new h x first.2 i u (omega (arith, at.0)) e)).1 l) in
        (s, law.selection_is before none join (cost_of_block t) (point_at t) limit asym chain k ∙ best', p.2, at.0, is)

    -- ---- the values that are joined are reached by few points

    pub value_reached : (k : ℕ) (v : V) → k ≤ point_count t → value_of (selected before none join t limit k) ≡ Some v → Reached none join 62 v
    value_reached zero v l e = let q : v ≡ none = cc in reached_none 62 v q
    value_reached (suc i) v l e =
        let r = value_some (selected before none join t limit (suc i)) v e in
        let o = law.own before none join (cost_of_block t) (point_at t) limit asym chain i r.0 r.1 in
        reached_weak i 62 v (subst (Reached none join i) (sym o.value ∙ r.2) (reached_measured (point_at t) (told r.0.word) i)) (omega (arith, t.count))

    -- ---- the starts that are noted

    pub linked_more : (k : ℕ) (starts : List ℕ) (x : Candidate V) → k < length starts → Linked before none join t limit k starts → Picked before none join t limit k (Some x) → Linked before none join t limit (k + 1) (set starts k x.start)
    linked_more k starts x room h p j s l e = ⊎_elim
        (λ same.
        let here : get_or (set starts k x.start) j 0 ≡ x.start = ap (λ i. get_or (set starts k x.start) i 0) same ∙ get_or-set_same starts k x.start 0 room in
        let u = p.0 in
        let q : ◌≡◌ {A = Option (Chosen V)} (Some u) (Some s) = sym p.1 ∙ ap (λ i. selected before none join t limit (suc i)) (sym same) ∙ e in
        (omega (arith, here, p.3), ap₂ (offered before none join t limit) same here ∙ p.4 ∙ q))
        (λ ne. let r = h j s (omega arith) e in let there = get_or-set_other starts k j x.start 0 ne in (omega (arith, there, r.0), ap (offered before none join t limit j) there ∙ r.1))
        (which j k)

    pub linked_none : (k : ℕ) (starts : List ℕ) → Linked before none join t limit k starts → Picked before none join t limit k None → Linked before none join t limit (k + 1) starts
    linked_none k starts h p j s l e = ⊎_elim
        (λ same. let q : selected before none join t limit (suc j) ≡ None = ap (λ i. selected before none join t limit (suc i)) same ∙ p in absurd (let z : ◌≡◌ {A = ℕ} 0 1 = cc in omega arith))
        (λ ne. h j s (omega arith) e)
        (which j k)

    -- a start put at k changes none before
    pub linked_put : (k : ℕ) (starts : List ℕ) (x : ℕ) → Linked before none join t limit k starts → Linked before none join t limit k (set starts k x)
    linked_put k starts x h j s l e = let r = h j s l e in let there = get_or-set_other starts k j x 0 (omega arith) in (omega (arith, there, r.0), ap (offered before none join t limit j) there ∙ r.1)

    -- one end more, by what is picked there
    pub linked_step : (k : ℕ) (starts : List ℕ) (o : Option (Candidate V)) (start : ℕ) (value : Option V) → k < length starts → Linked before none join t limit k starts → Picked before none join t limit k o
        → MatchOption o (start ≡ 0) (λ x. start ≡ x.start) → MatchOption o (value ≡ None) (λ x. value ≡ Some x.value)
        → (value ≡ value_of (selected before none join t limit (suc k))) × Linked before none join t limit (k + 1) (set starts k start)
    linked_step k starts None start value room h p a b = (b ∙ ap value_of (sym p), linked_none k (set starts k start) (linked_put k starts start h) p)
    linked_step k starts (Some x) start value room h p a b =
        (b ∙ ap Some (sym p.2) ∙ ap value_of (sym p.1), subst (λ n. Linked before none join t limit (k + 1) (set starts k n)) (sym a) (linked_more k starts x room h p))
