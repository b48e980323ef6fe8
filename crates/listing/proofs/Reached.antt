-- The table of reached codes is the relation, and where no routine calls itself every cost is settled. Assumes nothing.
use Rattle.std.proofs.Common.{◌≡◌, ℕ, zero, suc, ◌+◌, ◌*◌, ◌<◌, ◌≤◌, max, Bool, true, false, cond, ◌&&◌, ◌||◌, eqb, ◌⊎◌, List, [], ◌∷◌, ◌++◌, map, length, get_or, Some, None, Ok, Err, Option, Result, sym, refl, ap, ◌∙◌, subst, inl, inr, ⊎_elim, add-zero, zero-add, arith, eq-eqb, ne_eqb}
use borrow.Author.Tests.{both_ways}
use Rattle.std.proofs.lemmas.List.{length-map}
use Rattle.std.proofs.lemmas.List.Folds.{list_any-append}
use Rattle.std.proofs.lemmas.Bool.{cases_Bool, cond-true, cond-false, cases_eq, cases_lt, or_cases, or_left, or_right, and_parts, and_from, false_from_ne_true}
use Rattle.faults.specs.declared.fault.CostFault.{CostFault}
use Rattle.faults.specs.declared.fault.CostFault.TheVariants.{Read, Unknown, Cycle, TooDear}
use Rattle.reading.specs.declared.heads.Head.{Head}
use Rattle.listing.specs.Values.{Costs}
use Rattle.reading.specs.Heads.{head, used}
use Rattle.reading.specs.Trees.{Item, work, call, either, repeat, Run, done, next, Arms, one, more, Routine, Listing, item_cost, run_cost, cost_arms, calls_item, calls_run, calls_arms}
use Rattle.reading.specs.Listings.{listing, routine_head}
use Rattle.listing.specs.Cycles.{Table, closed}
use Rattle.listing.specs.Costing.{call_lists, table_of, reach_table, cycle_from, dear_from, cost_by, cost_in, unless, judged_after, costing}
use Rattle.listing.specs.Costed.{cost_told, costs_of}
use Rattle.listing.specs.Reach.{code_of, Reaches, calls, through as via, Cyclic, TrueCosts, FirstCycle, CostedAll, CycleTold, OnlyCosts, OnlyTold}
use Rattle.reading.proofs.Stepped.{nothing}

module _ (t : Table) (code : ℕ → ℕ) where
  -- what is reached stays so
  grows : (k i c : ℕ) → t i c ≡ true → closed t code k i c ≡ true
  unfolding closed
  grows zero i c e = e
  grows (suc k) i c e = or_left (closed t code k i c) (closed t code k i (code k) && closed t code k k c) (grows k i c e)

  module _ (k : ℕ) where
    old : Table
    old = closed t code k

    new_from_old : (i c : ℕ) → old i c ≡ true → closed t code (suc k) i c ≡ true
    unfolding closed old
    new_from_old i c e = or_left (old i c) (old i (code k) && old k c) e

    new_through : (i c : ℕ) → old i (code k) ≡ true → old k c ≡ true → closed t code (suc k) i c ≡ true
    unfolding closed old
    new_through i c a b = or_right (old i c) (old i (code k) && old k c) (and_from (old i (code k)) (old k c) a b)

    new_cases : (i c : ℕ) → closed t code (suc k) i c ≡ true → (old i c ≡ true) ⊎ ((old i (code k) ≡ true) × (old k c ≡ true))
    unfolding closed old
    new_cases i c e = ⊎_elim (λ x. inl x) (λ x. inr (and_parts (old i (code k)) (old k c) x)) (or_cases (old i c) (old i (code k) && old k c) e)

    -- to the last routine, and from it
    to_last : (i : ℕ) → closed t code (suc k) i (code k) ≡ true → old i (code k) ≡ true
    to_last i e = ⊎_elim (λ x. x) (λ x. x.0) (new_cases i (code k) e)

    from_last : (c : ℕ) → closed t code (suc k) k c ≡ true → old k c ≡ true
    from_last c e = ⊎_elim (λ x. x) (λ x. x.1) (new_cases k c e)

    chain_step : ((i j c : ℕ) → j < k → old i (code j) ≡ true → old j c ≡ true → old i c ≡ true) → (i j c : ℕ) → j < suc k → closed t code (suc k) i (code j) ≡ true → closed t code (suc k) j c ≡ true → closed t code (suc k) i c ≡ true
    chain_step ih i j c h a b =
        ⊎_elim
        (λ below.
        ⊎_elim
        (λ x. ⊎_elim (λ y. new_from_old i c (ih i j c below x y)) (λ y. new_through i c (ih i j (code k) below x y.0) y.1) (new_cases j c b))
        (λ x. ⊎_elim (λ y. new_through i c x.0 (ih k j c below x.1 y)) (λ y. new_through i c x.0 y.1) (new_cases j c b))
        (new_cases i (code j) a))
        (λ above.
        let same : j ≡ k = omega arith in
        new_through i c (to_last i (ap (λ m. closed t code (suc k) i (code m)) (sym same) ∙ a)) (from_last c (ap (λ m. closed t code (suc k) m c) (sym same) ∙ b)))
        (cases_lt j k)

  -- what is reached through a routine that was gone through is reached
  chains : (k i j c : ℕ) → j < k → closed t code k i (code j) ≡ true → closed t code k j c ≡ true → closed t code k i c ≡ true
  unfolding old
  chains zero i j c h a b = absurd (omega arith)
  chains (suc k) i j c h a b = chain_step k (chains k) i j c h a b

module _ (rs : List Routine) where
  sound : (k : ℕ) → k ≤ length rs → (i c : ℕ) → closed (table_of (call_lists rs)) (code_of rs) k i c ≡ true → Reaches rs i c
  unfolding closed old
  sound zero h i c e = calls e
  sound (suc k) h i c e =
      ⊎_elim
      (λ x. sound k (omega arith) i c x)
      (λ x. via {j = k} (omega arith) (sound k (omega arith) i (code_of rs k) x.0) (sound k (omega arith) k c x.1))
      (new_cases (table_of (call_lists rs)) (code_of rs) k i c e)

  complete : {i c : ℕ} → Reaches rs i c → reach_table rs i c ≡ true
  complete (calls {i} {c} e) = grows (table_of (call_lists rs)) (code_of rs) (length rs) i c e
  complete (via {i} {j} {c} h p q) = chains (table_of (call_lists rs)) (code_of rs) (length rs) i j c h (complete p) (complete q)

  pub not_cyclic : (i : ℕ) → reach_table rs i (code_of rs i) ≡ false → Cyclic rs i → ⊥
  not_cyclic i e p = both_ways _ e (complete p)

  pub is_cyclic : (i : ℕ) → reach_table rs i (code_of rs i) ≡ true → Cyclic rs i
  is_cyclic i e = sound (length rs) (omega arith) i (code_of rs i) e

earlier : (t : Table) (k : ℕ) (x : Head) (xs : List Head) → t k x.code ≡ false → (n : ℕ) → ((j : ℕ) → j < n → t ((k + 1) + j) (get_or xs j (head 0 0)).code ≡ false) → (j : ℕ) → j < suc n → t (k + j) (get_or (x ∷ xs) j (head 0 0)).code ≡ false
earlier t k x xs m n all zero h = ap (λ i. t i x.code) (add-zero k) ∙ m
earlier t k x xs m n all (suc j) h = let same : k + suc j ≡ (k + 1) + j = omega arith in ap (λ i. t i (get_or xs j (head 0 0)).code) same ∙ all j (omega arith)

-- the first of a list that a table marks, by its index
record First (t : Table) (k : ℕ) (hs : List Head) (h : Head) : Type 0 where
  index : ℕ
  inside : index < length hs
  told : get_or hs index (head 0 0) ≡ h
  marked : t (k + index) h.code ≡ true
  before : (j : ℕ) → j < index → t (k + j) (get_or hs j (head 0 0)).code ≡ false

first_of : (t : Table) (k : ℕ) (hs : List Head) (h : Head) → cycle_from t k hs ≡ Some h → First t k hs h
first_of t k [] h e = nothing e
first_of t k (x ∷ xs) h e =
    ⊎_elim
    (λ m.
    let same : x ≡ h = let f = sym (cond-true (t k x.code) (Some x) (cycle_from t (k + 1) xs) m) ∙ e in cc in
    record { index = 0; inside = omega arith; told = same; marked = ap (λ n. t n h.code) (add-zero k) ∙ ap (λ (y : Head). t k y.code) (sym same) ∙ m; before = λ j l. absurd (omega arith) })
    (λ m.
    let f = first_of t (k + 1) xs h (sym (cond-false _ _ _ m) ∙ e) in
    record {
      index = suc f.index;
      inside = omega (arith, f.inside);
      told = f.told;
      marked = let same : k + suc f.index ≡ (k + 1) + f.index = omega arith in ap (λ n. t n h.code) same ∙ f.marked;
      before = earlier t k x xs m f.index f.before;
    })
    (cases_Bool (t k x.code))

none_of : (t : Table) (k : ℕ) (hs : List Head) → cycle_from t k hs ≡ None → (j : ℕ) → j < length hs → t (k + j) (get_or hs j (head 0 0)).code ≡ false
none_of t k [] e j h = absurd (omega arith)
none_of t k (x ∷ xs) e j h =
    ⊎_elim
    (λ m. nothing (sym (sym (cond-true _ _ _ m) ∙ e)))
    (λ m. earlier t k x xs m (length xs) (none_of t (k + 1) xs (sym (cond-false _ _ _ m) ∙ e)) j h)
    (cases_Bool (t k x.code))

-- how many codes a routine reaches
abbrev count : (ℕ → Bool) → ℕ → ℕ
count p zero = 0
count p (suc n) = cond (p n) 1 0 + count p n

count_le : (p q : ℕ → Bool) (n : ℕ) → ((m : ℕ) → m < n → p m ≡ true → q m ≡ true) → count p n ≤ count q n
count_le p q zero h = omega arith
count_le p q (suc n) h =
    let less = count_le p q n (λ m l. h m (omega arith)) in
    ⊎_elim
    (λ e. let x = cond-true {A = ℕ} (p n) 1 0 e in let y = cond-true {A = ℕ} (q n) 1 0 (h n (omega arith) e) in omega arith)
    (λ e. let x = cond-false {A = ℕ} (p n) 1 0 e in omega arith)
    (cases_Bool (p n))

count_lt : (p q : ℕ → Bool) (n m : ℕ) → ((j : ℕ) → j < n → p j ≡ true → q j ≡ true) → m < n → p m ≡ false → q m ≡ true → count p n < count q n
count_lt p q zero m h l a b = absurd (omega arith)
count_lt p q (suc n) m h l a b =
    ⊎_elim
    (λ below.
    let less = count_lt p q n m (λ j k. h j (omega arith)) below a b in
    ⊎_elim
    (λ e. let x = cond-true {A = ℕ} (p n) 1 0 e in let y = cond-true {A = ℕ} (q n) 1 0 (h n (omega arith) e) in omega arith)
    (λ e. let x = cond-false {A = ℕ} (p n) 1 0 e in omega arith)
    (cases_Bool (p n)))
    (λ above.
    let same : m ≡ n = omega arith in
    let less = count_le p q n (λ j k. h j (omega arith)) in
    let x = cond-false {A = ℕ} (p n) 1 0 (ap p (sym same) ∙ a) in
    let y = cond-true {A = ℕ} (q n) 1 0 (ap q (sym same) ∙ b) in
    omega arith)
    (cases_lt m n)

count_all : (n : ℕ) → count (λ _. true) n ≡ n
count_all zero = refl
count_all (suc n) = omega (arith, count_all n)

-- a run's cost hangs on the costs of its calls alone
used_left : (c : ℕ) (xs ys : List Head) → used c xs ≡ true → used c (xs ++ ys) ≡ true
used_left c xs ys e = list_any-append (λ (h : Head). eqb h.code c) xs ys ∙ or_left (used c xs) (used c ys) e

used_right : (c : ℕ) (xs ys : List Head) → used c ys ≡ true → used c (xs ++ ys) ≡ true
used_right c xs ys e = list_any-append (λ (h : Head). eqb h.code c) xs ys ∙ or_right (used c xs) (used c ys) e

module _ (of by : ℕ → ℕ) where
  mutual
    same_item : (i : Item) → ((c : ℕ) → used c (calls_item i) ≡ true → of c ≡ by c) → item_cost of i ≡ item_cost by i
    same_item (work t) h = refl
    same_item (call at c) h = h c (ap (λ b. b || false) (eq-eqb c c refl))
    same_item (either a) h = same_arms a h
    same_item (repeat k r) h = ap (λ n. k * n) (same_run r h)

    same_run : (r : Run) → ((c : ℕ) → used c (calls_run r) ≡ true → of c ≡ by c) → run_cost of r ≡ run_cost by r
    same_run done h = refl
    same_run (next i r) h = (λ j. same_item i (λ c e. h c (used_left c (calls_item i) (calls_run r) e)) j + same_run r (λ c e. h c (used_right c (calls_item i) (calls_run r) e)) j)

    same_arms : (a : Arms) → ((c : ℕ) → used c (calls_arms a) ≡ true → of c ≡ by c) → cost_arms of a ≡ cost_arms by a
    same_arms (one r) h = same_run r h
    same_arms (more r a) h = (λ j. max (same_run r (λ c e. h c (used_left c (calls_run r) (calls_arms a) e)) j) (same_arms a (λ c e. h c (used_right c (calls_run r) (calls_arms a) e)) j))

-- the routine that gives a code its cost, if there is one
record Gives (rs : List Routine) (c : ℕ) : Type 0 where
  index : ℕ
  inside : index < length rs
  code_is : code_of rs index ≡ c
  body : Run
  calls_are : get_or (call_lists rs) index [] ≡ calls_run body
  cost_is : (of : ℕ → ℕ) → cost_by of rs c ≡ run_cost of body

gives : (rs : List Routine) (c : ℕ) → ((of : ℕ → ℕ) → cost_by of rs c ≡ 0) ⊎ Gives rs c
gives [] c = inl (λ of. refl)
gives (r ∷ rs) c =
    ⊎_elim
    (λ e. inr (record { index = 0; inside = omega arith; code_is = e; body = r.body; calls_are = refl; cost_is = λ of. cond-true _ _ _ (eq-eqb _ c e) }))
    (λ e.
    ⊎_elim
    (λ z. inl (λ of. cond-false _ _ _ (ne_eqb _ c e) ∙ z of))
    (λ (g : Gives rs c). inr (record { index = suc g.index; inside = omega (arith, g.inside); code_is = g.code_is; body = g.body; calls_are = g.calls_are; cost_is = λ of. cond-false _ _ _ (ne_eqb _ c e) ∙ g.cost_is of }))
    (gives rs c))
    (cases_eq r.code c)

module _ (rs : List Routine) (acyclic : (i : ℕ) → i < length rs → reach_table rs i (code_of rs i) ≡ false) where
  rank : ℕ → ℕ
  rank i = count (λ j. reach_table rs i (code_of rs j)) (length rs)

  falls : (i j : ℕ) → i < length rs → j < length rs → table_of (call_lists rs) i (code_of rs j) ≡ true → rank j < rank i
  unfolding rank
  falls i j h k e =
      let t = table_of (call_lists rs) in
      let direct = grows t (code_of rs) (length rs) i (code_of rs j) e in
      count_lt (λ m. reach_table rs j (code_of rs m)) (λ m. reach_table rs i (code_of rs m)) (length rs) j (λ m l x. chains t (code_of rs) (length rs) i j (code_of rs m) k direct x) k (acyclic j k) direct

  low : (i : ℕ) → i < length rs → rank i < length rs
  unfolding rank
  low i h =
      let less = count_lt (λ m. reach_table rs i (code_of rs m)) (λ _. true) (length rs) i (λ m l x. refl) h (acyclic i h) refl in
      omega (arith, count_all (length rs))

  -- costs by passes, from costs at which a code that no routine has costs nothing
  record ByPasses (a : ℕ → ℕ → ℕ) : Type 0 where
    first : (c : ℕ) → ((of : ℕ → ℕ) → cost_by of rs c ≡ 0) → a 0 c ≡ 0
    more : (k c : ℕ) → a (suc k) c ≡ cost_by (a k) rs c

  -- wherever passes begin, they agree on a routine after more of them than its rank
  agree : (a b : ℕ → ℕ → ℕ) → ByPasses a → ByPasses b → (k c : ℕ) → ((g : Gives rs c) → rank g.index < k) → a k c ≡ b k c
  agree a b x y zero c h = ⊎_elim (λ z. x.first c z ∙ sym (y.first c z)) (λ g. absurd (omega (arith, h g))) (gives rs c)
  agree a b x y (suc k) c h =
      ⊎_elim
      (λ z. x.more k c ∙ z (a k) ∙ sym (y.more k c ∙ z (b k)))
      (λ (g : Gives rs c).
      x.more k c
      ∙ g.cost_is (a k)
      ∙ same_run (a k) (b k) g.body
      (λ d e. agree a b x y k d (λ (f : Gives rs d).
      let made : table_of (call_lists rs) g.index (code_of rs f.index) ≡ true = ap (λ l. used (code_of rs f.index) l) g.calls_are ∙ ap (λ n. used n (calls_run g.body)) f.code_is ∙ e in
      omega (arith, h g, falls g.index f.index g.inside f.inside made)))
      ∙ sym (y.more k c ∙ g.cost_is (b k)))
      (gives rs c)

  passes : ByPasses (cost_in rs)
  unfolding cost_in
  passes = record { first = λ c z. refl; more = λ k c. refl }

  later : ByPasses (λ k. cost_in rs (suc k))
  unfolding cost_in
  later = record { first = λ c z. z (cost_in rs 0); more = λ k c. refl }

  module _ (few : length rs ≤ 32) where
    low_32 : (c : ℕ) (g : Gives rs c) → rank g.index < 32
    low_32 c g = omega (arith, low g.index g.inside)

    pub true_costs : TrueCosts rs (cost_in rs 32)
    unfolding cost_in
    true_costs c = agree (cost_in rs) (λ k. cost_in rs (suc k)) passes later 32 c (low_32 c)

    pub only_costs : (of : ℕ → ℕ) → TrueCosts rs of → (c : ℕ) → of c ≡ cost_in rs 32 c
    only_costs of e c = agree (λ k. of) (cost_in rs) (record { first = λ d z. e d ∙ z of; more = λ k d. e d }) passes 32 c (low_32 c)

-- what costing tells of cycles
module _ (bs : List ℕ) (l : Listing) (is : listing bs ≡ Ok l) (few : length l.routines ≤ 32) where
  rs : List Routine
  rs = l.routines

  settled : cycle_from (reach_table rs) 0 (map routine_head rs) ≡ None → CostedAll rs
  unfolding rs
  settled e =
      let free : (i : ℕ) → i < length rs → reach_table rs i (code_of rs i) ≡ false = λ i h. ap (λ n. reach_table rs n (code_of rs i)) (sym (zero-add i)) ∙ none_of (reach_table rs) 0 (map routine_head rs) e i (omega (arith, length-map rs routine_head)) in
      record { acyclic = λ i h p. not_cyclic rs i (free i h) p; costs = true_costs rs free few }

  told_first : (h : Head) (at c : ℕ) → cycle_from (reach_table rs) 0 (map routine_head rs) ≡ Some h → at ≡ h.at → c ≡ h.code → FirstCycle rs at c
  unfolding rs
  told_first h at c e x y =
      let f = first_of (reach_table rs) 0 (map routine_head rs) h e in
      let code_is : code_of rs f.index ≡ h.code = ap (λ (z : Head). z.code) f.told in
      record {
        index = f.index;
        inside = omega (arith, f.inside, length-map rs routine_head);
        told = f.told ∙ (λ i. head (sym y i) (sym x i));
        cyclic = is_cyclic rs f.index (ap (λ n. reach_table rs n (code_of rs f.index)) (sym (zero-add f.index)) ∙ ap (λ n. reach_table rs (0 + f.index) n) code_is ∙ f.marked);
        first = λ j k p. not_cyclic rs j (ap (λ n. reach_table rs n (code_of rs j)) (sym (zero-add j)) ∙ f.before j k) p;
      }

  by_dear : (o : Option Head) (r : Result Costs CostFault) → cycle_from (reach_table rs) 0 (map routine_head rs) ≡ None → cost_told r ≡ costs_of (unless o TooDear (Ok l)) → CycleTold bs r
  unfolding rs
  by_dear o (Ok k) n e = (l, is, settled n)
  by_dear o (Err (Read f)) n e = tt
  by_dear o (Err (Unknown at c)) n e = tt
  by_dear None (Err (Cycle at c)) n e = cc
  by_dear (Some h) (Err (Cycle at c)) n e = cc
  by_dear o (Err (TooDear at c)) n e = (l, is, settled n)

  by_cycle : (o : Option Head) (r : Result Costs CostFault) → cycle_from (reach_table rs) 0 (map routine_head rs) ≡ o → cost_told r ≡ costs_of (unless o Cycle (unless (dear_from (cost_in rs 32) (map routine_head rs)) TooDear (Ok l))) → CycleTold bs r
  unfolding rs
  by_cycle None r n e = by_dear _ r n e
  by_cycle (Some h) (Ok k) n e = cc
  by_cycle (Some h) (Err (Read f)) n e = tt
  by_cycle (Some h) (Err (Unknown at c)) n e = tt
  by_cycle (Some h) (Err (Cycle at c)) n e =
      let x : at ≡ h.at = cc in
      let y : c ≡ h.code = cc in
      (l, is, told_first h at c n x y)
  by_cycle (Some h) (Err (TooDear at c)) n e = cc

  by_unknown : (o : Option Head) (r : Result Costs CostFault) → cost_told r ≡ costs_of (unless o Unknown (unless (cycle_from (reach_table rs) 0 (map routine_head rs)) Cycle (unless (dear_from (cost_in rs 32) (map routine_head rs)) TooDear (Ok l)))) → CycleTold bs r
  unfolding rs
  by_unknown None r e = by_cycle _ r refl e
  by_unknown (Some h) (Ok k) e = cc
  by_unknown (Some h) (Err (Read f)) e = tt
  by_unknown (Some h) (Err (Unknown at c)) e = tt
  by_unknown (Some h) (Err (Cycle at c)) e = cc
  by_unknown (Some h) (Err (TooDear at c)) e = cc

  pub cycles_told : (r : Result Costs CostFault) → cost_told r ≡ costs_of (costing bs) → CycleTold bs r
  unfolding rs costing
  cycles_told r e = by_unknown _ r (e ∙ ap (λ x. costs_of (judged_after x)) is)

  -- where no routine calls itself, no other costs are true
  only_true : (m : Listing) × (listing bs ≡ Ok m) × CostedAll m.routines → (m : Listing) × (listing bs ≡ Ok m) × OnlyCosts m.routines
  unfolding rs
  only_true t =
      let same : t.0 ≡ l = let e = sym t.1 ∙ is in cc in
      let all = subst (λ (m : Listing). CostedAll m.routines) same t.2 in
      (l, is, only_costs rs (λ i h. false_from_ne_true _ (λ e. all.acyclic i h (is_cyclic rs i e))) few)

  pub only_told : (r : Result Costs CostFault) → CycleTold bs r → OnlyTold bs r
  only_told (Ok k) t = only_true t
  only_told (Err (Read f)) t = tt
  only_told (Err (Unknown at c)) t = tt
  only_told (Err (Cycle at c)) t = tt
  only_told (Err (TooDear at c)) t = only_true t
