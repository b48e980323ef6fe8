-- The law of one task, over the definitions.
use Rattle.std.proofs.Common.{◌≡◌, ℕ, zero, suc, ◌+◌, ◌^◌, ◌<◌, ◌≤◌, Bool, true, false, cond, [], ◌∷◌, length, Some, None, Option, sym, refl, ap, ◌∙◌, subst, ap₂, ⊎_elim, pow-suc, arith, pow_pos, pow_mono}
use Rattle.std.proofs.lemmas.Bool.{cases_lt}
use Rattle.tasks.specs.declared.points.Point.{Point}
use Rattle.tasks.specs.Choices.{Choice, told, stretches}
use Rattle.tasks.proofs.Words.{told_top, told_under, told_short}
use Rattle.measures.specs.Joins.{Reached, measured}
use Rattle.measures.proofs.Reach.{reached_measured, reached_weak}
use Rattle.selection.specs.Limits.{within, AllWithin}
use Rattle.selection.specs.Running.{cost_before, run}
use Rattle.selection.specs.Selections.{Chosen, joined_at, offer, lesser, least_offer, selections, selection}
use Rattle.selection.proofs.Best as best

-- ---- the cost of a run of blocks

module _ (cost : ℕ → ℕ) where
  pub rises : (j k : ℕ) → j ≤ k → cost_before cost j ≤ cost_before cost k
  rises j zero h = let e : j ≡ 0 = omega arith in omega (arith, ap (cost_before cost) e)
  rises j (suc k) h = ⊎_elim (λ l. omega (arith, rises j k (omega arith))) (λ l. let e : j ≡ suc k = omega arith in omega (arith, ap (cost_before cost) e)) (cases_lt j (suc k))

  pub run_more : (k j : ℕ) → j ≤ k → run cost k j ≡ cost j + run cost k (suc j)
  run_more k j h = omega (arith, rises (suc j) (suc k) (omega arith))

  pub run_none : (k : ℕ) → run cost k (suc k) ≡ 0
  run_none k = omega arith

-- ---- a choice that takes no point from i on, up to block k

module _ (cost : ℕ → ℕ) (point : ℕ → Point) (c : Choice) where
  pub stretches_passed : (i k more : ℕ) → i ≤ k → ((j : ℕ) → i ≤ j → j < k → c j ≡ false) → stretches cost point c k more ≡ stretches cost point c i (run cost k (suc i) + more)
  stretches_passed i zero more l h = let e : i ≡ 0 = omega arith in ap₂ (stretches cost point c) (sym e) (omega (arith, run_none cost 0, ap (λ x. cost_before cost (suc x)) e))
  stretches_passed i (suc k) more l h = ⊎_elim
      (λ lt.
      ap (λ b. cond b (((point k).ticks + (cost (suc k) + more)) ∷ stretches cost point c k 0) (stretches cost point c k (cost (suc k) + more))) (h k (omega arith) (omega arith))
      ∙ stretches_passed i k (cost (suc k) + more) (omega arith) (λ j a b. h j a (omega arith))
      ∙ ap (stretches cost point c i) (omega (arith, rises cost (suc i) (suc k) (omega arith))))
      (λ ge. let e : i ≡ suc k = omega arith in ap₂ (stretches cost point c) (sym e) (omega (arith, run_none cost (suc k), ap (λ x. cost_before cost (suc x)) e)))
      (cases_lt i (suc k))

module _ {V : Type 0} (none : V) (join : V → Point → V) (point : ℕ → Point) where
  pub measured_passed : (c : Choice) (i k : ℕ) → i ≤ k → ((j : ℕ) → i ≤ j → j < k → c j ≡ false) → measured none join point c k ≡ measured none join point c i
  measured_passed c i zero l h = let e : i ≡ 0 = omega arith in ap (measured none join point c) (sym e)
  measured_passed c i (suc k) l h = ⊎_elim
      (λ lt. ap (λ b. cond b (join (measured none join point c k) (point k)) (measured none join point c k)) (h k (omega arith) (omega arith)) ∙ measured_passed c i k (omega arith) (λ j a b. h j a (omega arith)))
      (λ ge. let e : i ≡ suc k = omega arith in ap (measured none join point c) (sym e))
      (cases_lt i (suc k))

  pub measured_same : (c d : Choice) (k : ℕ) → ((j : ℕ) → j < k → c j ≡ d j) → measured none join point c k ≡ measured none join point d k
  measured_same c d zero h = refl
  measured_same c d (suc k) h = ap₂ (λ b v. cond b (join v (point k)) v) (h k (omega arith)) (measured_same c d k (λ j l. h j (omega arith)))

pub stretches_same : (cost : ℕ → ℕ) (point : ℕ → Point) (c d : Choice) (k more : ℕ) → ((j : ℕ) → j < k → c j ≡ d j) → stretches cost point c k more ≡ stretches cost point d k more
stretches_same cost point c d zero more h = refl
stretches_same cost point c d (suc k) more h =
    ap (λ b. cond b (((point k).ticks + (cost (suc k) + more)) ∷ stretches cost point c k 0) (stretches cost point c k (cost (suc k) + more))) (h k (omega arith))
    ∙ ap₂ (λ x y. cond (d k) (((point k).ticks + (cost (suc k) + more)) ∷ x) y) (stretches_same cost point c d k 0 (λ j l. h j (omega arith))) (stretches_same cost point c d k (cost (suc k) + more) (λ j l. h j (omega arith)))

-- ---- a word with one point more, behind which none is taken

module _ {V : Type 0} (none : V) (join : V → Point → V) (cost : ℕ → ℕ) (point : ℕ → Point) where
  pub bare_stretches : (k : ℕ) → stretches cost point (told 0) k 0 ≡ run cost k 0 ∷ []
  bare_stretches k = stretches_passed cost point (told 0) 0 k 0 (omega arith) (λ j a b. told_short 0 0 (omega arith) j (omega arith)) ∙ ap (λ x. x ∷ []) (omega (arith, run_more cost k 0 (omega arith)))

  pub bare_measured : (k : ℕ) → measured none join point (told 0) k ≡ none
  bare_measured k = measured_passed none join point (told 0) 0 k (omega arith) (λ j a b. told_short 0 0 (omega arith) j (omega arith))

  module _ (w i k : ℕ) (small : w < 2 ^ i) (lt : i < k) where
    pub word_small : w + 2 ^ i < 2 ^ k
    word_small = omega (arith, pow-suc 2 i, pow_mono {i = suc i} {j = k} lt)

    none_behind : (j : ℕ) → suc i ≤ j → j < k → told (w + 2 ^ i) j ≡ false
    none_behind j a b = told_short (w + 2 ^ i) (suc i) (omega (arith, pow-suc 2 i)) j a

    pub extended_stretches : stretches cost point (told (w + 2 ^ i)) k 0 ≡ ((point i).ticks + run cost k (suc i)) ∷ stretches cost point (told w) i 0
    extended_stretches =
        let c = told (w + 2 ^ i) in
        let more = run cost k (suc (suc i)) + 0 in
        stretches_passed cost point c (suc i) k 0 lt none_behind
        ∙ ap (λ b. cond b (((point i).ticks + (cost (suc i) + more)) ∷ stretches cost point c i 0) (stretches cost point c i (cost (suc i) + more))) (told_top i w small)
        ∙ ap₂ (λ x l. x ∷ l) (omega (arith, run_more cost k (suc i) lt)) (stretches_same cost point c (told w) i 0 (λ j l. told_under i w j l))

    pub extended_measured : measured none join point (told (w + 2 ^ i)) k ≡ join (measured none join point (told w) i) (point i)
    extended_measured =
        let c = told (w + 2 ^ i) in
        measured_passed none join point c (suc i) k lt none_behind
        ∙ ap (λ b. cond b (join (measured none join point c i) (point i)) (measured none join point c i)) (told_top i w small)
        ∙ ap (λ v. join v (point i)) (measured_same none join point c (told w) i (λ j l. told_under i w j l))

-- ---- the selection as the least of what the starts offer

pub some_cond : {A : Type 0} (b : Bool) (x : Option A) (s : A) → cond b x None ≡ Some s → (b ≡ true) × (x ≡ Some s)
some_cond true x s e = (refl, e)
some_cond false x s e = absurd (let z : ◌≡◌ {A = ℕ} 0 1 = cc in omega arith)

module _ {V : Type 0} (before : V → V → Bool) (none : V) (join : V → Point → V) (cost : ℕ → ℕ) (point : ℕ → Point) (limit : Option ℕ) where
  abbrev pub sel : ℕ → Option (Chosen V)
  sel = selection before none join cost point limit

  -- what start j offers to the blocks up to index k
  abbrev pub off : ℕ → ℕ → Option (Chosen V)
  off k j = offer before none join cost point limit j (run cost k j) (sel j)

  length-selections : (k : ℕ) → length (selections before none join cost point limit k) ≡ suc k
  length-selections zero = refl
  length-selections (suc k) = ap suc (length-selections k)

  pub some_joined : (i : ℕ) (x : Option (Chosen V)) (s : Chosen V) → joined_at before none join cost point limit i x ≡ Some s → (u : Chosen V) × (x ≡ Some u) × (s ≡ record { value = join u.value (point i); word = u.word + 2 ^ i })
  some_joined i None s e = absurd (let z : ◌≡◌ {A = ℕ} 0 1 = cc in omega arith)
  some_joined i (Some u) s e = (u, refl, cc)

  module _ (asym : (x y : V) → before x y ≡ true → before y x ≡ false) (chain : (x y z : V) → before x y ≡ false → before y z ≡ false → before x z ≡ false) where
    abbrev best_of : (ℕ → Option (Chosen V)) → ℕ → Option (Chosen V)
    best_of = best.best_of before none join cost point limit asym chain

    table : (k m more : ℕ) → m ≤ k → more ≡ run cost k (suc m) → least_offer before none join cost point limit more (selections before none join cost point limit m) ≡ best_of (off k) (suc m)
    table k zero more h e = ap (λ x. offer before none join cost point limit 0 x (sel 0)) (omega (arith, run_more cost k 0 h))
    table k (suc m) more h e =
        ap (λ n. lesser before none join cost point limit (least_offer before none join cost point limit (cost n + more) (selections before none join cost point limit m)) (offer before none join cost point limit n (cost n + more) (sel (suc m)))) (length-selections m)
        ∙ ap₂ (lesser before none join cost point limit) (table k m (cost (suc m) + more) (omega arith) (omega (arith, run_more cost k (suc m) h))) (ap (λ x. offer before none join cost point limit (suc m) x (sel (suc m))) (omega (arith, run_more cost k (suc m) h)))

    pub selection_is : (k : ℕ) → sel (suc k) ≡ best_of (off k) (suc k)
    selection_is k = table k k 0 (omega arith) (omega (arith, run_none cost k))

    -- a start that offers the selection
    pub offered : (k : ℕ) (s : Chosen V) → sel (suc k) ≡ Some s → (j : ℕ) × (j < suc k) × (off k j ≡ Some s)
    offered k s e = best.best_of_from before none join cost point limit asym chain (off k) (suc k) s (sym (selection_is k) ∙ e)

    -- ---- what is selected fits, and has the value of its word

    pub record Own (k : ℕ) (s : Chosen V) : Type 0 where
      pub small : s.word < 2 ^ k
      pub value : s.value ≡ measured none join point (told s.word) k
      pub fits : AllWithin limit (stretches cost point (told s.word) k 0)

    own_of : (k j : ℕ) (s : Chosen V) → j < suc k → off k j ≡ Some s → ((i : ℕ) (u : Chosen V) → i < k → sel (suc i) ≡ Some u → Own i u) → Own k s
    own_of k zero s l e rest =
        let r = some_cond (within limit (run cost k 0)) (sel 0) s e in
        subst (Own k) (cc r.1) (record {
          small = pow_pos k;
          value = sym (bare_measured none join cost point k);
          fits = subst (AllWithin limit) (sym (bare_stretches none join cost point k)) (r.0, tt);
        })
    own_of k (suc i) s l e rest =
        let r = some_cond (within limit ((point i).ticks + run cost k (suc i))) (joined_at before none join cost point limit i (sel (suc i))) s e in
        let q = some_joined i (sel (suc i)) s r.1 in
        let u = q.0 in
        let was = rest i u (omega arith) q.1 in
        subst (Own k) (sym q.2) (record {
          small = word_small none join cost point u.word i k was.small (omega arith);
          value = ap (λ v. join v (point i)) was.value ∙ sym (extended_measured none join cost point u.word i k was.small (omega arith));
          fits = subst (AllWithin limit) (sym (extended_stretches none join cost point u.word i k was.small (omega arith))) (r.0, was.fits);
        })

    own_below : (fuel k : ℕ) (s : Chosen V) → k < fuel → sel (suc k) ≡ Some s → Own k s
    own_below zero k s l e = absurd (omega arith)
    own_below (suc fuel) k s l e = let o = offered k s e in own_of k o.0 s o.1 o.2 (λ i u h. own_below fuel i u (omega arith))

    pub own : (k : ℕ) (s : Chosen V) → sel (suc k) ≡ Some s → Own k s
    own k s e = own_below (suc k) k s (omega arith) e

    -- ---- every choice that fits measures at least as much

    module _ (keeps : (v w : V) (p : Point) → Reached none join 62 v → Reached none join 62 w → before w v ≡ false → before (join w p) (join v p) ≡ false) where
      abbrev Beaten : Choice → ℕ → ℕ → Type 0
      Beaten c m k = (s : Chosen V) × (sel (suc k) ≡ Some s) × (before (measured none join point c m) s.value ≡ false)

      by_offer : (k j : ℕ) (u : Chosen V) → j ≤ k → off k j ≡ Some u → (s : Chosen V) × (sel (suc k) ≡ Some s) × (before u.value s.value ≡ false)
      by_offer k j u l e = let r = best.best_of_least before none join cost point limit asym chain (off k) (suc k) j u (omega arith) e in (r.0, selection_is k ∙ r.1, r.2)

      taken : (c : Choice) (i k : ℕ) → i < k → k ≤ 63 → within limit ((point i).ticks + (cost (suc i) + run cost k (suc (suc i)))) ≡ true → Beaten c i i → (s : Chosen V) × (sel (suc k) ≡ Some s) × (before (join (measured none join point c i) (point i)) s.value ≡ false)
      taken c i k l few h b =
          let u = b.0 in
          let o = own i u b.1 in
          let reach = reached_weak i 62 u.value (subst (Reached none join i) (sym o.value) (reached_measured point (told u.word) i)) (omega arith) in
          let rival = reached_weak i 62 (measured none join point c i) (reached_measured point c i) (omega arith) in
          let v : Chosen V = record { value = join u.value (point i); word = u.word + 2 ^ i } in
          let is : off k (suc i) ≡ Some v = ap₂ (λ t x. cond t (joined_at before none join cost point limit i x) None) (ap (λ x. within limit ((point i).ticks + x)) (run_more cost k (suc i) l) ∙ h) b.1 in
          let r = by_offer k (suc i) v l is in
          (r.0, r.1, chain _ _ _ (keeps u.value (measured none join point c i) (point i) reach rival b.2) r.2)

      beaten : (c : Choice) (m k : ℕ) → m ≤ k → k ≤ 63 → AllWithin limit (stretches cost point c m (run cost k (suc m))) → Beaten c m k
      beaten c zero k l few h =
          let v : Chosen V = record { value = none; word = 0 } in
          by_offer k 0 v l (ap (λ t. cond t (Some v) None) (ap (within limit) (run_more cost k 0 l) ∙ h.0))
      beaten c (suc i) k l few h = by_choice (c i) h (λ g. beaten c i i (omega arith) (omega arith) (subst (λ x. AllWithin limit (stretches cost point c i x)) (sym (run_none cost i)) g)) (λ g. beaten c i k (omega arith) few (subst (λ x. AllWithin limit (stretches cost point c i x)) (sym (run_more cost k (suc i) l)) g))
        where
          by_choice : (b : Bool)
              → AllWithin limit (cond b (((point i).ticks + (cost (suc i) + run cost k (suc (suc i)))) ∷ stretches cost point c i 0) (stretches cost point c i (cost (suc i) + run cost k (suc (suc i)))))
              → (AllWithin limit (stretches cost point c i 0) → Beaten c i i)
              → (AllWithin limit (stretches cost point c i (cost (suc i) + run cost k (suc (suc i)))) → Beaten c i k)
              → (s : Chosen V) × (sel (suc k) ≡ Some s) × (before (cond b (join (measured none join point c i) (point i)) (measured none join point c i)) s.value ≡ false)
          by_choice true g here further = taken c i k l few g.0 (here g.1)
          by_choice false g here further = further g

      -- the law for the blocks up to index k
      pub least : (c : Choice) (k : ℕ) → k ≤ 63 → AllWithin limit (stretches cost point c k 0) → Beaten c k k
      least c k few h = beaten c k k (omega arith) few (subst (λ x. AllWithin limit (stretches cost point c k x)) (sym (run_none cost k)) h)
