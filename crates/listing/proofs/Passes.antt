-- Costs by passes, at most 1,000,001. Assumes nothing.
use Rattle.std.proofs.Common.{◌≡◌, ℕ, zero, suc, ◌+◌, ◌-◌, ◌*◌, ◌<◌, ◌≤◌, min, ◌≢◌, List, [], ◌∷◌, map, length, get_or, drop, set, replicate, Ok, sym, refl, ap, ◌∙◌, ⊎_elim, add-one, arith, length-set, get_or-set_other, get_or-set_same, eq-eqb, ne_eqb}
use Rattle.std.proofs.lemmas.List.{at_drop_more, at_drop_all, get_or-map, get_or_past, length-map}
use Rattle.std.proofs.lemmas.Bool.{cond-true, cond-false, cases_eq, cases_lt}
use Rattle.std.proofs.ByRecursion.{All-get_or}
use Rattle.std.specs.List.{AllByRecursion}
use Rattle.reading.specs.declared.heads.Head.{Head}
use Rattle.commands.specs.declared.table.Context.TheVariants.{Top}
use Rattle.commands.specs.Commands.{after}
use Rattle.reading.specs.Heads.{head}
use Rattle.reading.specs.Trees.{Item, work, call, either, repeat, Run, done, next, Arms, one, more, Routine, item_cost, run_cost, cost_arms}
use Rattle.reading.specs.Listings.{routine_head}
use Rattle.reading.specs.Runs.{Ended, run_at, cost_of_code}
use Rattle.reading.specs.Bodies.{BodyRead}
use Rattle.listing.specs.Costing.{Capped}
use Rattle.listing.specs.Costing.{cost_by, cost_in}
use Rattle.reading.proofs.Turns.{cap_product}
use Rattle.commands.proofs.Inverted.{small_routine}

-- costs that agree up to the cap give costs that agree up to it
module _ (of of' : ℕ → ℕ) (same : (c : ℕ) → of' c ≡ min (of c) 1000001) where
  times : (k x y : ℕ) → min x 1000001 ≡ min y 1000001 → min (k * x) 1000001 ≡ min (k * y) 1000001
  times k x y e = sym (cap_product k (min x 1000001) x refl) ∙ ap (λ n. min (k * n) 1000001) e ∙ cap_product k (min y 1000001) y refl

  mutual
    cap_item_lem : (i : Item) → min (item_cost of' i) 1000001 ≡ min (item_cost of i) 1000001
    cap_item_lem (work t) = refl
    cap_item_lem (call at c) = omega (arith, same c)
    cap_item_lem (either a) = cap_arms a
    cap_item_lem (repeat k r) = times k _ _ (cap_run_lem r)

    pub cap_run_lem : (r : Run) → min (run_cost of' r) 1000001 ≡ min (run_cost of r) 1000001
    cap_run_lem done = refl
    cap_run_lem (next i r) = omega (arith, cap_item_lem i, cap_run_lem r)

    cap_arms : (a : Arms) → min (cost_arms of' a) 1000001 ≡ min (cost_arms of a) 1000001
    cap_arms (one r) = cap_run_lem r
    cap_arms (more r a) = omega (arith, cap_run_lem r, cap_arms a)

  pub cap_by : (rs : List Routine) (c : ℕ) → min (cost_by of' rs c) 1000001 ≡ min (cost_by of rs c) 1000001
  cap_by [] c = refl
  cap_by (r ∷ rs) c =
      ⊎_elim
      (λ e. ap (λ n. min n 1000001) (cond-true _ _ _ (eq-eqb _ c e)) ∙ cap_run_lem r.body ∙ sym (ap (λ n. min n 1000001) (cond-true _ _ _ (eq-eqb _ c e))))
      (λ e. ap (λ n. min n 1000001) (cond-false _ _ _ (ne_eqb _ c e)) ∙ cap_by rs c ∙ sym (ap (λ n. min n 1000001) (cond-false _ _ _ (ne_eqb _ c e))))
      (cases_eq r.code c)

no_routine : Routine
no_routine = record { code = 0; at = 0; body = done }

zeros : (n c : ℕ) → ◌≡◌ {A = ℕ} (get_or (replicate n 0) c 0) 0
zeros zero c = refl
zeros (suc n) zero = refl
zeros (suc n) (suc c) = zeros n c

-- no routine is costed yet
pub none_costed : (of : ℕ → ℕ) (rs : List Routine) (n : ℕ) → length rs ≤ n → Capped (replicate 256 0) (cost_by of (drop n rs))
none_costed of rs n h =
    record { wide = refl; says = λ c _. zeros 256 c ∙ sym (ap (λ f. min f 1000001) (at_drop_all (λ l. cost_by of l c) rs n h)) }

module _ (bs : List ℕ) (of : ℕ → ℕ) (rs : List Routine) (hs : List Head) (heads_are : hs ≡ map routine_head rs) (bodies : AllByRecursion (BodyRead bs) rs) (i : ℕ) (some : 0 < i) (inside : i ≤ length hs) where
  low : i - 1 < length rs
  low = omega (arith, ap length heads_are ∙ length-map rs routine_head)

  it : Routine
  it = get_or rs (i - 1) no_routine

  it_read : BodyRead bs it
  unfolding it
  it_read = All-get_or (BodyRead bs) rs (i - 1) no_routine low bodies

  module _ (h : Head) (is : h ≡ get_or hs (i - 1) (head 0 0)) where
    head_is : h ≡ routine_head it
    unfolding it
    head_is = is ∙ ap (λ l. get_or l (i - 1) (head 0 0)) heads_are ∙ get_or-map routine_head rs (i - 1) no_routine (head 0 0) low

    -- one more routine is costed
    pub one_costed : (table : List ℕ) (cost : ℕ) → h.code < 256 → ((e : Ended) → run_at 9 bs h.at (after Top bs h.at) ≡ Ok e → cost ≡ min (run_cost of e.run) 1000001) → Capped table (cost_by of (drop i rs)) → Capped (set table h.code cost) (cost_by of (drop (i - 1) rs))
    unfolding it
    one_costed table cost small told g =
        let code_is : h.code ≡ it.code = ap (λ (x : Head). x.code) head_is in
        let at_is : h.at ≡ it.at = ap (λ (x : Head). x.at) head_is in
        let b = it_read in
        let e : Ended = b.ended in
        let cost_is : cost ≡ min (run_cost of it.body) 1000001 = told e (ap (λ p. run_at 9 bs p (after Top bs p)) at_is ∙ b.run_is) ∙ ap (λ r. min (run_cost of r) 1000001) b.body_is in
        let on : (i - 1) + 1 ≡ i = omega arith in
        let room : h.code < length table = omega (arith, g.wide) in
        let step : (c : ℕ) → cost_by of (drop (i - 1) rs) c ≡ cost_by of (it ∷ drop i rs) c = λ c. at_drop_more (λ l. cost_by of l c) rs (i - 1) no_routine low ∙ ap (λ n. cost_by of (it ∷ drop n rs) c) on in
        record {
          wide = length-set table h.code cost ∙ g.wide;
          says = λ c small-c. ⊎_elim
              (λ same.
              ap (λ m. get_or (set table h.code cost) m 0) (sym same) ∙ get_or-set_same table h.code cost 0 room ∙ cost_is
              ∙ sym (ap (λ n. min n 1000001) (step c ∙ cond-true _ _ _ (eq-eqb it.code c (sym code_is ∙ same)))))
              (λ other.
              let ne : c ≢ h.code = λ q. other (sym q) in
              get_or-set_other table h.code c cost 0 ne ∙ g.says c small-c ∙ sym (ap (λ n. min n 1000001) (step c ∙ cond-false _ _ _ (ne_eqb it.code c (λ q. other (code_is ∙ q))))))
              (cases_eq h.code c);
        }

-- a routine's code is a byte
pub small_code : (bs : List ℕ) (r : Routine) → BodyRead bs r → r.code < 256
small_code bs r b = small_routine Top bs r.at r.at r.code b.command_is

no_cost : (of : ℕ → ℕ) (bs : List ℕ) (rs : List Routine) (c : ℕ) → AllByRecursion (BodyRead bs) rs → 256 ≤ c → cost_by of rs c ≡ 0
no_cost of bs [] c all h = refl
no_cost of bs (r ∷ rs) c all h =
    cond-false _ _ _ (ne_eqb r.code c (λ e. absurd (omega (arith, small_code bs r all.0)))) ∙ no_cost of bs rs c all.1 h

no_cost_in : (bs : List ℕ) (rs : List Routine) (k c : ℕ) → AllByRecursion (BodyRead bs) rs → 256 ≤ c → cost_in rs k c ≡ 0
unfolding cost_in
no_cost_in bs rs zero c all h = refl
no_cost_in bs rs (suc k) c all h = no_cost (cost_in rs k) bs rs c all h

pub first_costs : (rs : List Routine) → Capped (replicate 256 0) (cost_in rs 0)
unfolding cost_in
first_costs rs = record { wide = refl; says = λ c _. zeros 256 c }

-- one pass more
pub pass_more : (bs : List ℕ) (rs : List Routine) (k : ℕ) (costs table : List ℕ) → AllByRecursion (BodyRead bs) rs → Capped costs (cost_in rs k) → Capped table (cost_by (cost_of_code costs) rs) → Capped table (cost_in rs (k + 1))
unfolding cost_in
pass_more bs rs k costs table all before now =
    let agree : (c : ℕ) → cost_of_code costs c ≡ min (cost_in rs k c) 1000001 = λ c. ⊎_elim
    (λ h. before.says c h)
    (λ h. get_or_past costs c 0 (omega (arith, before.wide)) ∙ sym (ap (λ n. min n 1000001) (no_cost_in bs rs k c all h)))
    (cases_lt c 256)
    in
    record { wide = now.wide; says = λ c h. now.says c h ∙ cap_by (cost_in rs k) (cost_of_code costs) agree rs c ∙ ap (λ n. min (cost_in rs n c) 1000001) (sym (add-one k)) }
