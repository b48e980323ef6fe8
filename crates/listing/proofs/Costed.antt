-- What each step of costing tells of the whole answer. Assumes nothing.
use Rattle.std.proofs.Common.{◌≡◌, ℕ, ◌+◌, ◌≤◌, Bool, not, List, [], ◌∷◌, ◌++◌, map, length, Some, None, Ok, Err, Option, Result, sym, refl, ap, ◌∙◌, subst, arith, length-append}
use Rattle.std.specs.List.{AllByRecursion, range_with_len}
use Rattle.faults.specs.declared.fault.ReadFault.{ReadFault}
use Rattle.faults.specs.declared.fault.CostFault.{CostFault}
use Rattle.faults.specs.declared.fault.CostFault.TheVariants.{Read, Unknown, Cycle, TooDear}
use Rattle.reading.specs.declared.heads.Head.{Head}
use Rattle.reading.specs.Outlines.{Outline}
use Rattle.reading.specs.Fitting.{FitsRoutines, Accepted}
use Rattle.reading.specs.Heads.{used}
use Rattle.reading.specs.Trees.{Routine, Task, Listing}
use Rattle.reading.specs.Runs.{cost_of_code}
use Rattle.reading.specs.Listings.{listing, outline_of, routine_head, task_head}
use Rattle.listing.specs.Calls.{or_else}
use Rattle.listing.specs.Cycles.{entry, closed, code_at, Tabled, RowSays}
use Rattle.listing.specs.Marks.{marked_in}
use Rattle.reading.specs.Bodies.{BodyRead, TaskRead}
use Rattle.listing.specs.Costing.{Capped}
use Rattle.listing.specs.Costing.{call_lists, block_lists, unknown_in, table_of, reach_table, cycle_from, dear_from, cost_in, calls_in, unless, judged, judged_after, costing}
use Rattle.listing.specs.Values.{Costs}
use Rattle.listing.specs.Costed.{cost_told, costs_of}
use Rattle.listing.specs.Reach.{CycleTold, OnlyTold}
use Rattle.listing.specs.Places.{PlaceTold}
use Rattle.listing.proofs.Reached.{cycles_told, only_told}
use Rattle.listing.proofs.Placed.{places_told}
use Rattle.listing.proofs.Judged.{listing_parts, calls_same, unknown_append, block_unknown, blocks_known, cycle_same, dear_same, costs_are}

fault_by : (f : ReadFault) (r : Result Listing ReadFault) → Err f ≡ outline_of r → Err (Read f) ≡ costs_of (judged_after r)
fault_by f (Ok l) e = cc
fault_by f (Err g) e = let same : f ≡ g = cc in ap (λ h. Err (Read h)) same

pub read_fault : (bs : List ℕ) (f : ReadFault) → Err f ≡ outline_of (listing bs) → Err (Read f) ≡ costs_of (costing bs)
unfolding costing
read_fault bs f e = fault_by f (listing bs) e

-- the promises of costing
abbrev CostBoth : List ℕ → Result Costs CostFault → Type 0
CostBoth bs r = (cost_told r ≡ costs_of (costing bs)) × CycleTold bs r × PlaceTold bs r × OnlyTold bs r

-- the listing of an outline
pub record Outlined (bs : List ℕ) (o : Outline) : Type 0 where
  pub it : Listing
  pub is : listing bs ≡ Ok it
  pub routines_are : o.routines ≡ map routine_head it.routines
  pub tasks_are : o.tasks ≡ map task_head it.tasks

outlined_by : (bs : List ℕ) (o : Outline) (r : Result Listing ReadFault) → listing bs ≡ r → Ok (o.routines, o.tasks) ≡ outline_of r → Outlined bs o
outlined_by bs o (Ok l) a e =
    let both : (o.routines, o.tasks) ≡ (map routine_head l.routines, map task_head l.tasks) = cc in
    record { it = l; is = a; routines_are = ap (λ (x : List Head × List Head). x.0) both; tasks_are = ap (λ (x : List Head × List Head). x.1) both }
outlined_by bs o (Err f) a e = cc

pub outlined : (bs : List ℕ) (o : Outline) → Ok (o.routines, o.tasks) ≡ outline_of (listing bs) → Outlined bs o
outlined bs o e = outlined_by bs o (listing bs) refl e

-- the same of an outline whose fields were taken out
pub outlined_as : (bs : List ℕ) (o p : Outline) → p ≡ o → Ok (o.routines, o.tasks) ≡ outline_of (listing bs) → Outlined bs p
outlined_as bs o p same e = outlined bs p (ap (λ (q : Outline). Ok (q.routines, q.tasks)) same ∙ e)

-- routines that fit are at most 32
few_routines : (seen : List ℕ) (rs : List Routine) → length seen ≤ 32 → FitsRoutines seen rs → length seen + length rs ≤ 32
few_routines seen [] h f = omega arith
few_routines seen (r ∷ rs) h f =
    let l = length-append seen (r.code ∷ []) in
    let room = f.2 in
    let more = few_routines (seen ++ r.code ∷ []) rs (omega (arith, l, room)) f.5 in
    omega (arith, l, more)

module _ (bs : List ℕ) (o : Outline) (x : Outlined bs o) where
  rs : List Routine
  rs = x.it.routines

  ts : List Task
  ts = x.it.tasks

  known : List Head
  unfolding rs
  known = map routine_head rs

  parts : AllByRecursion (BodyRead bs) rs × AllByRecursion (TaskRead bs) ts
  unfolding rs ts
  parts = listing_parts bs x.it x.is

  pub few : Accepted bs (Ok o) → length x.it.routines ≤ 32
  few a =
      let same : a.0 ≡ x.it = cc (a.1, x.is) in
      let f : FitsRoutines [] x.it.routines = subst (λ (l : Listing). FitsRoutines [] l.routines) same a.3.0 in
      omega (arith, few_routines [] x.it.routines (omega arith) f)

  pub both : Accepted bs (Ok o) → (r : Result Costs CostFault) → cost_told r ≡ costs_of (costing bs) → CostBoth bs r
  both a r e = let t = cycles_told bs x.it x.is (few a) r e in (e, t, places_told bs x.it x.is r e, only_told bs x.it x.is (few a) r t)

  whole : costs_of (costing bs) ≡ costs_of (judged x.it)
  unfolding costing
  whole = ap (λ r. costs_of (judged_after r)) x.is

  calls_are : calls_in bs o.routines ≡ call_lists rs
  unfolding rs
  calls_are = ap (calls_in bs) x.routines_are ∙ calls_same bs x.it.routines (listing_parts bs x.it x.is).0

  -- the first fault of the three
  after_unknown : {r : _} → unknown_in known (call_lists rs ++ block_lists ts) ≡ r → costs_of (costing bs) ≡ costs_of (unless r Unknown (unless (cycle_from (reach_table rs) 0 known) Cycle (unless (dear_from (cost_in rs 32) known) TooDear (Ok x.it))))
  unfolding rs ts known
  after_unknown e = whole ∙ ap (λ r. costs_of (unless r Unknown (unless (cycle_from (reach_table x.it.routines) 0 (map routine_head x.it.routines)) Cycle (unless (dear_from (cost_in x.it.routines 32) (map routine_head x.it.routines)) TooDear (Ok x.it))))) e

  known_in : (lists : List (List Head)) (r : Option Head) → unknown_in o.routines lists ≡ r → unknown_in known lists ≡ r
  unfolding rs known
  known_in lists r e = ap (λ hs. unknown_in hs lists) (sym x.routines_are) ∙ e

  pub call_told : (h : Head) → unknown_in o.routines (calls_in bs o.routines) ≡ Some h → Err (Unknown h.at h.code) ≡ costs_of (costing bs)
  call_told h e =
      let f : unknown_in known (call_lists rs) ≡ Some h = ap (unknown_in known) (sym calls_are) ∙ known_in (calls_in bs o.routines) (Some h) e in
      sym (after_unknown (unknown_append known (call_lists rs) (block_lists ts) ∙ ap (λ y. or_else y (unknown_in known (block_lists ts))) f))

  module _ (a : Accepted bs (Ok o)) (calls : List (List Bool)) (told : Tabled calls (table_of (calls_in bs o.routines)) × (unknown_in o.routines (calls_in bs o.routines) ≡ None)) (marks : List Bool) (strange : RowSays marks (λ c. not (used c o.routines))) where
    unknown_is : unknown_in known (call_lists rs ++ block_lists ts) ≡ unknown_in known (block_lists ts)
    unknown_is =
        let f : unknown_in known (call_lists rs) ≡ None = ap (unknown_in known) (sym calls_are) ∙ known_in (calls_in bs o.routines) None told.1 in
        unknown_append known (call_lists rs) (block_lists ts) ∙ ap (λ y. or_else y (unknown_in known (block_lists ts))) f

    strange_too : RowSays marks (λ c. not (used c known))
    unfolding rs known
    strange_too = subst (λ hs. RowSays marks (λ c. not (used c hs))) x.routines_are strange

    pub block_told : (y : Head × Head) → ((l : List Task) → o.tasks ≡ map task_head l → AllByRecursion (TaskRead bs) l → Some y ≡ marked_in marks l) → Err (Unknown y.1.at y.1.code) ≡ costs_of (costing bs)
    unfolding ts
    block_told y e = sym (after_unknown (unknown_is ∙ block_unknown known marks strange_too bs ts y parts.1 (e ts x.tasks_are parts.1)))

    module _ (fine : (l : List Task) → o.tasks ≡ map task_head l → AllByRecursion (TaskRead bs) l → None ≡ marked_in marks l) (rows : List (List Bool)) (reach : Tabled rows (closed (entry calls) (code_at o.routines) (length o.routines))) where
      none_unknown : unknown_in known (call_lists rs ++ block_lists ts) ≡ None
      unfolding ts
      none_unknown = unknown_is ∙ blocks_known known marks strange_too bs ts parts.1 (fine ts x.tasks_are parts.1)

      cycle_is : cycle_from (entry rows) 0 o.routines ≡ cycle_from (reach_table rs) 0 known
      unfolding rs known
      cycle_is =
          ap (cycle_from (entry rows) 0) x.routines_are
          ∙ cycle_same bs x.it.routines calls rows parts.0 (few a) (subst (λ l. Tabled calls (table_of l)) calls_are told.0) (subst (λ hs. Tabled rows (closed (entry calls) (code_at hs) (length hs))) x.routines_are reach)

      after_cycle : {r : _} → cycle_from (entry rows) 0 o.routines ≡ r → costs_of (costing bs) ≡ costs_of (unless r Cycle (unless (dear_from (cost_in rs 32) known) TooDear (Ok x.it)))
      after_cycle e = after_unknown none_unknown ∙ ap (λ r. costs_of (unless r Cycle (unless (dear_from (cost_in rs 32) known) TooDear (Ok x.it)))) (sym cycle_is ∙ e)

      pub cycle_told : (h : Head) → Some h ≡ cycle_from (entry rows) 0 o.routines → Err (Cycle h.at h.code) ≡ costs_of (costing bs)
      cycle_told h e = sym (after_cycle (sym e))

      module _ (no-cycle : None ≡ cycle_from (entry rows) 0 o.routines) (costs : List ℕ) (capped : (l : List Routine) → o.routines ≡ map routine_head l → AllByRecursion (BodyRead bs) l → Capped costs (cost_in l 32)) where
        costs_told : Capped costs (cost_in rs 32)
        unfolding rs
        costs_told = capped x.it.routines x.routines_are parts.0

        dear_is : dear_from (cost_of_code costs) o.routines ≡ dear_from (cost_in rs 32) known
        unfolding rs known
        dear_is = ap (dear_from (cost_of_code costs)) x.routines_are ∙ dear_same bs (cost_in x.it.routines 32) costs x.it.routines parts.0 costs_told

        after_dear : {r : _} → dear_from (cost_of_code costs) o.routines ≡ r → costs_of (costing bs) ≡ costs_of (unless r TooDear (Ok x.it))
        after_dear e = after_cycle (sym no-cycle) ∙ ap (λ r. costs_of (unless r TooDear (Ok x.it))) (sym dear_is ∙ e)

        pub dear_told : (h : Head) → Some h ≡ dear_from (cost_of_code costs) o.routines → Err (TooDear h.at h.code) ≡ costs_of (costing bs)
        dear_told h e = sym (after_dear (sym e))

        pub all_told : None ≡ dear_from (cost_of_code costs) o.routines → Ok (o.routines, o.tasks, costs) ≡ costs_of (costing bs)
        unfolding rs known
        all_told e =
            let c : costs ≡ map (cost_in x.it.routines 32) (range_with_len 0 256) = costs_are x.it.routines costs (sym dear_is ∙ sym e) costs_told in
            (λ i. Ok (x.routines_are i, x.tasks_are i, c i)) ∙ sym (after_dear (sym e))
