-- What loading tells of the whole answer. Assumes nothing.
use Rattle.std.proofs.Common.{◌≡◌, ℕ, zero, suc, ◌<◌, ◌≤◌, Bool, false, eqb, List, [], ◌∷◌, ◌++◌, map, length, get_or, Some, None, Ok, Err, vec_items, Option, Result, Vec, sym, refl, ap, ◌∙◌, subst, ⊎_elim, zero-add, arith}
use Rattle.std.proofs.lemmas.List.FromFn.{fill_by_all, get_or-map-range_with_len, length-map-range_with_len}
use Rattle.std.proofs.lemmas.List.{get_or_past}
use Rattle.std.proofs.lemmas.Bool.{cases_Bool, cond-true, cond-false, cases_lt, eqb-false}
use Rattle.std.specs.List.{range_with_len, AllByRecursion}
use Rattle.tasks.specs.declared.model.Task.{Task as HeldTask}
use Rattle.faults.specs.declared.fault.ReadFault.{ReadFault}
use Rattle.faults.specs.declared.fault.CostFault.{CostFault}
use Rattle.faults.specs.declared.fault.CostFault.TheVariants.{Unknown, Cycle, TooDear}
use Rattle.faults.specs.declared.fault.LoadFault.{LoadFault}
use Rattle.faults.specs.declared.fault.LoadFault.TheVariants.{Cost, FreeBlock, NoMemory}
use Rattle.reading.specs.declared.heads.Head.{Head}
use Rattle.listing.specs.Values.{Costs}
use Rattle.reading.specs.Outlines.{Outline}
use Rattle.reading.specs.Bodies.{TaskRead}
use Rattle.listing.specs.Cycles.{RowSays}
use Rattle.reading.specs.Runs.{cost_of_code}
use Rattle.reading.specs.Trees.{Task, Listing, block_heads}
use Rattle.reading.specs.Listings.{listing, routine_head, task_head}
use Rattle.listing.specs.Marks.{first_marked, marked_in, or_next}
use Rattle.listing.specs.Costing.{call_lists, block_lists, unknown_in, reach_table, cycle_from, dear_from, cost_in, unless, judged_after, costing}
use Rattle.listing.specs.Costed.{costs_of}
use Rattle.listing.specs.Loading.{Is, Are, Priced, free_marks, unless_free, loaded_after, loading, TasksTold, LoadTold, LoadOnlyTold}
use Rattle.std.proofs.ByRecursion.{All-from_get_or}
use Rattle.reading.specs.Encoding.{encode}
use Rattle.listing.specs.Reach.{TrueCosts, CostedAll, CycleTold, OnlyTold}
use Rattle.reading.proofs.Encoded.{accepted}
use Rattle.reading.proofs.Fitted.{read_fits}
use Rattle.reading.proofs.Stepped.{nothing}
use Rattle.listing.proofs.Judged.{listing_parts, small_blocks, none_dear}
use Rattle.listing.proofs.Standing.{Headed, blocks_stand, cond_has, self_has}
use Rattle.listing.specs.Places.{Stands, LoadPlaceTold}
use Rattle.commands.specs.declared.table.Command.TheVariants as command
use Rattle.commands.specs.declared.table.Context.TheVariants.{BlockDue}

-- what is left where no fault stood in the way
passed : {X : Type 0} (o : Option Head) (f : ℕ → ℕ → CostFault) (r : Result X CostFault) (x : X) → unless o f r ≡ Ok x → (o ≡ None) × (r ≡ Ok x)
passed None f r x e = (refl, e)
passed (Some h) f r x e = cc

judged_ok : (bs : List ℕ) (l : Listing) (r : Result Listing ReadFault) → listing bs ≡ r → judged_after r ≡ Ok l → (listing bs ≡ Ok l) × (dear_from (cost_in l.routines 32) (map routine_head l.routines) ≡ None)
judged_ok bs l (Err f) a e = cc
judged_ok bs l (Ok m) a e =
    let p = passed (unknown_in (map routine_head m.routines) (call_lists m.routines ++ block_lists m.tasks)) Unknown _ l e in
    let q = passed (cycle_from (reach_table m.routines) 0 (map routine_head m.routines)) Cycle _ l p.1 in
    let s = passed (dear_from (cost_in m.routines 32) (map routine_head m.routines)) TooDear (Ok m) l q.1 in
    let same : m ≡ l = let h = s.1 in cc in
    (a ∙ ap Ok same, ap (λ (x : Listing). dear_from (cost_in x.routines 32) (map routine_head x.routines)) (sym same) ∙ s.0)

pub record Costed (bs : List ℕ) (k : Costs) : Type 0 where
  pub it : Listing
  pub is : costing bs ≡ Ok it
  pub routines_are : k.outline.routines ≡ map routine_head it.routines
  pub tasks_are : k.outline.tasks ≡ map task_head it.tasks
  pub costs_are : k.by_code ≡ map (cost_in it.routines 32) (range_with_len 0 256)

costed_by : (bs : List ℕ) (k : Costs) (r : Result Listing CostFault) → costing bs ≡ r → Ok (k.outline.routines, k.outline.tasks, k.by_code) ≡ costs_of r → Costed bs k
costed_by bs k (Ok l) a e =
    let all : (k.outline.routines, k.outline.tasks, k.by_code) ≡ (map routine_head l.routines, map task_head l.tasks, map (cost_in l.routines 32) (range_with_len 0 256)) = cc in
    record {
      it = l;
      is = a;
      routines_are = ap (λ (x : List Head × List Head × List ℕ). x.0) all;
      tasks_are = ap (λ (x : List Head × List Head × List ℕ). x.1) all;
      costs_are = ap (λ (x : List Head × List Head × List ℕ). x.2) all;
    }
costed_by bs k (Err f) a e = cc

pub costed : (bs : List ℕ) (k : Costs) → Ok (k.outline.routines, k.outline.tasks, k.by_code) ≡ costs_of (costing bs) → Costed bs k
costed bs k e = costed_by bs k (costing bs) refl e

-- the same of costs whose fields were taken out, and those of the outline in them
pub costed_as : (bs : List ℕ) (k : Costs) (o : Outline) (by_code : List ℕ) → record { outline = o; by_code = by_code } ≡ k → (p : Outline) → p ≡ o → Ok (k.outline.routines, k.outline.tasks, k.by_code) ≡ costs_of (costing bs) → Costed bs (record { outline = p; by_code = by_code })
costed_as bs k o by_code same p inside e =
    costed bs _ (ap (λ (q : Outline). Ok (q.routines, q.tasks, by_code)) inside ∙ ap (λ (l : Costs). Ok (l.outline.routines, l.outline.tasks, l.by_code)) same ∙ e)

cost_fault_by : (f : CostFault) (r : Result Listing CostFault) → Err f ≡ costs_of r → loaded_after r ≡ Err (Cost f)
cost_fault_by f (Ok l) e = cc
cost_fault_by f (Err g) e = let same : g ≡ f = cc in ap (λ h. Err (Cost h)) same

pub cost_fault : (bs : List ℕ) (f : CostFault) → Err f ≡ costs_of (costing bs) → loading bs ≡ Err (Cost f)
unfolding loading
cost_fault bs f e = cost_fault_by f (costing bs) e

some_more : (n : ℕ) → (n ≡ 0 → ⊥) → 1 ≤ n
some_more zero h = absurd (h refl)
some_more (suc n) h = omega arith

next_none : (t : Head) (o : Option Head) (r : Option (Head × Head)) → or_next t o r ≡ None → (o ≡ None) × (r ≡ None)
next_none t None r e = (refl, e)
next_none t (Some h) r e = nothing (sym e)

-- blocks that are not marked as free cost something
some_cost : (of : ℕ → ℕ) (marks : List Bool) (hs : List Head) → ((c : ℕ) → c < 256 → get_or marks c false ≡ eqb (of c) 0) → ((c : ℕ) → of c ≤ 1000000) → AllByRecursion (λ (h : Head). h.code < 256) hs → first_marked marks hs ≡ None → AllByRecursion (λ (h : Head). (1 ≤ of h.code) × (of h.code ≤ 1000000)) hs
some_cost of marks [] says high small e = tt
some_cost of marks (h ∷ hs) says high small e =
    ⊎_elim
    (λ m. nothing (sym (sym (cond-true _ _ _ m) ∙ e)))
    (λ m.
    let ne = eqb-false (of h.code) 0 (sym (says h.code small.0) ∙ m) in
    let pos : 1 ≤ of h.code = some_more (of h.code) ne in
    ((pos, high h.code), some_cost of marks hs says high small.1 (sym (cond-false _ _ _ m) ∙ e)))
    (cases_Bool (get_or marks h.code false))

all_priced : (bs : List ℕ) (of : ℕ → ℕ) (marks : List Bool) (ts : List Task) → ((c : ℕ) → c < 256 → get_or marks c false ≡ eqb (of c) 0) → ((c : ℕ) → of c ≤ 1000000) → AllByRecursion (TaskRead bs) ts → marked_in marks ts ≡ None → AllByRecursion (λ (t : Task). Priced of t.blocks) ts
all_priced bs of marks [] says high all e = tt
all_priced bs of marks (t ∷ ts) says high all e =
    let p = next_none (task_head t) (first_marked marks (block_heads t.blocks)) (marked_in marks ts) e in (
      some_cost of marks (block_heads t.blocks) says high (small_blocks (suc (length bs)) bs 0 _ (t.blocks, all.0.end) all.0.blocks_are) p.0,
      all_priced bs of marks ts says high all.1 p.1,
    )

-- the same tasks at costs that agree
same_costs : (of by : ℕ → ℕ) (hs : List Head) → ((c : ℕ) → c < 256 → of c ≡ by c) → AllByRecursion (λ (h : Head). h.code < 256) hs → map (λ (h : Head). of h.code) hs ≡ map (λ (h : Head). by h.code) hs
same_costs of by [] same small = refl
same_costs of by (h ∷ hs) same small = (λ i. same h.code small.0 i ∷ same_costs of by hs same small.1 i)

same_tasks : (bs : List ℕ) (of by : ℕ → ℕ) (xs : List HeldTask) (ts : List Task) → ((c : ℕ) → c < 256 → of c ≡ by c) → AllByRecursion (TaskRead bs) ts → Are of xs ts → Are by xs ts
same_tasks bs of by [] [] same all a = tt
same_tasks bs of by [] (t ∷ ts) same all a = absurd a
same_tasks bs of by (x ∷ xs) [] same all a = absurd a
same_tasks bs of by (x ∷ xs) (t ∷ ts) same all a =
    let small = small_blocks (suc (length bs)) bs 0 _ (t.blocks, all.0.end) all.0.blocks_are in
    let one : Is of x t = a.0 in (
      record { code = one.code; period = one.period; deadline = one.deadline; blocks = one.blocks ∙ same_costs of by (block_heads t.blocks) same small; points = one.points },
      same_tasks bs of by xs ts same all.1 a.1,
    )

-- the first marked block stands where it is told
first_stands : (bs : List ℕ) (marks : List Bool) (hs : List Head) (h : Head) → AllByRecursion (Headed BlockDue command.Block bs) hs → first_marked marks hs ≡ Some h → Headed BlockDue command.Block bs h
first_stands bs marks [] h all e = nothing e
first_stands bs marks (x ∷ xs) h all e = cond_has (Headed BlockDue command.Block bs) (get_or marks x.code false) (Some x) (first_marked marks xs) h (self_has (Headed BlockDue command.Block bs) x h all.0) (first_stands bs marks xs h all.1) e

next_stands : (bs : List ℕ) (t : Head) (o : Option Head) (r : Option (Head × Head)) (y : Head × Head) → ((h : Head) → o ≡ Some h → Headed BlockDue command.Block bs h) → (r ≡ Some y → Headed BlockDue command.Block bs y.1) → or_next t o r ≡ Some y → Headed BlockDue command.Block bs y.1
next_stands bs t (Some h) r y f g e = let same : (t, h) ≡ y = cc in subst (λ (z : Head × Head). Headed BlockDue command.Block bs z.1) same (f h refl)
next_stands bs t None r y f g e = g e

marked_stands : (bs : List ℕ) (marks : List Bool) (ts : List Task) (y : Head × Head) → AllByRecursion (TaskRead bs) ts → marked_in marks ts ≡ Some y → Headed BlockDue command.Block bs y.1
marked_stands bs marks [] y all e = nothing e
marked_stands bs marks (t ∷ ts) y all e =
    next_stands bs (task_head t) (first_marked marks (block_heads t.blocks)) (marked_in marks ts) y (λ h q. first_stands bs marks (block_heads t.blocks) h (blocks_stand (suc (length bs)) bs 0 _ (t.blocks, all.0.end) all.0.blocks_are) q) (λ q. marked_stands bs marks ts y all.1 q) e

-- tasks, or want of memory, tell no place
pub no_place : {Z : Type 0} (bs : List ℕ) (of : ℕ → ℕ) (ts : List Task) (r : Result (Vec HeldTask Z) LoadFault) → TasksTold of ts r → LoadPlaceTold bs r
no_place bs of ts (Ok v) t = tt
no_place {Z} bs of ts (Err f) t = subst (λ (g : LoadFault). LoadPlaceTold {Z = Z} bs (Err g)) (sym t) tt

pub only_loaded : {Z : Type 0} (bs : List ℕ) (k : Costs) → CycleTold bs (Ok k) → OnlyTold bs (Ok k) → (r : Result (Vec HeldTask Z) LoadFault) → LoadOnlyTold bs r
only_loaded bs k c o (Ok v) =
    let same : c.0 ≡ o.0 = let e = sym c.1 ∙ o.1 in cc in
    (o.0, o.1, subst (λ (m : Listing). CostedAll m.routines) same c.2, o.2)
only_loaded bs k c o (Err f) = tt

module _ (bs : List ℕ) (k : Costs) (x : Costed bs k) where
  of : ℕ → ℕ
  of = cost_in x.it.routines 32

  read_ok : (listing bs ≡ Ok x.it) × (dear_from (cost_in x.it.routines 32) (map routine_head x.it.routines) ≡ None)
  unfolding costing
  read_ok = judged_ok bs x.it (listing bs) refl x.is

  pub tasks_read : AllByRecursion (TaskRead bs) x.it.tasks
  tasks_read = (listing_parts bs x.it read_ok.0).1

  table_is : (c : ℕ) → c < 256 → cost_of_code k.by_code c ≡ of c
  unfolding of
  table_is c h = ap (λ l. get_or l c 0) x.costs_are ∙ get_or-map-range_with_len (cost_in x.it.routines 32) 0 256 c c 0 h (zero-add c)

  high : (c : ℕ) → of c ≤ 1000000
  unfolding of cost_in
  high c =
      ⊎_elim (λ z. let free : cost_in x.it.routines 32 c ≡ 0 = z in omega arith) (λ z. z) (none_dear (cost_in x.it.routines 32) (cost_in x.it.routines 31) x.it.routines c read_ok.1)

  table_high : (c : ℕ) → cost_of_code k.by_code c ≤ 1000000
  table_high c =
      ⊎_elim
      (λ h. let e = table_is c h in omega (arith, high c))
      (λ h. let e = get_or_past k.by_code c 0 (omega (arith, ap length x.costs_are ∙ length-map-range_with_len (cost_in x.it.routines 32) 0 256)) in omega arith)
      (cases_lt c 256)

  module _ (marks : List Bool) (says : RowSays marks (λ c. eqb (cost_of_code k.by_code c) 0)) where
    marks_are : marks ≡ free_marks of
    unfolding of
    marks_are = fill_by_all (λ c. eqb (cost_in x.it.routines 32 c) 0) marks 256 false says.wide (λ c h. says.says c h ∙ ap (λ n. eqb n 0) (table_is c h))

    whole : loading bs ≡ unless_free (marked_in marks x.it.tasks) x.it
    unfolding of loading
    whole = ap loaded_after x.is ∙ ap (λ m. unless_free (marked_in m x.it.tasks) x.it) (sym marks_are)

    pub free_told : (y : Head × Head) → ((ts : List Task) → k.outline.tasks ≡ map task_head ts → AllByRecursion (TaskRead bs) ts → Some y ≡ marked_in marks ts) → loading bs ≡ Err (FreeBlock y.1.at y.0.code)
    free_told y e = whole ∙ ap (λ o. unless_free o x.it) (sym (e x.it.tasks x.tasks_are tasks_read))

    pub free_place : (y : Head × Head) → ((ts : List Task) → k.outline.tasks ≡ map task_head ts → AllByRecursion (TaskRead bs) ts → Some y ≡ marked_in marks ts) → (n : ℕ) × Stands bs (command.Block n) y.1.at
    free_place y e = (y.1.code, (BlockDue, marked_stands bs marks x.it.tasks y tasks_read (sym (e x.it.tasks x.tasks_are tasks_read))))

    module _ (none : (ts : List Task) → k.outline.tasks ≡ map task_head ts → AllByRecursion (TaskRead bs) ts → None ≡ marked_in marks ts) where
      none_free : marked_in marks x.it.tasks ≡ None
      none_free = sym (none x.it.tasks x.tasks_are tasks_read)

      pub loads : loading bs ≡ Ok x.it
      loads = whole ∙ ap (λ o. unless_free o x.it) none_free

      pub tasks_priced : AllByRecursion (λ (t : Task). Priced (cost_of_code k.by_code) t.blocks) x.it.tasks
      tasks_priced = all_priced bs (cost_of_code k.by_code) marks x.it.tasks says.says table_high tasks_read none_free

      pub true_tasks : (xs : List HeldTask) → Are (cost_of_code k.by_code) xs x.it.tasks → Are (cost_in x.it.routines 32) xs x.it.tasks
      unfolding of
      true_tasks xs a = same_tasks bs (cost_of_code k.by_code) (cost_in x.it.routines 32) xs x.it.tasks table_is tasks_read a

      same_tree : (m : Listing) → listing bs ≡ Ok m → m ≡ x.it
      same_tree m e = let f : Ok m ≡ Ok x.it = sym e ∙ read_ok.0 in cc

      pub finish : {Z : Type 0} (r : Result (Vec HeldTask Z) LoadFault) → ((i : ℕ) → get_or bs i 0 < 256) → CycleTold bs (Ok k) → TasksTold (cost_of_code k.by_code) x.it.tasks r → LoadTold bs r
      finish (Ok v) small c t =
          let b : bs ≡ encode x.it = accepted bs (All-from_get_or (λ n. n < 256) bs 0 (λ i _. small i)) x.it read_ok.0 in (
            x.it,
            loads,
            record {
              bytes = b;
              fits = read_fits bs x.it read_ok.0 b;
              costs = subst (λ (m : Listing). TrueCosts m.routines (cost_in m.routines 32)) (same_tree c.0 c.1) c.2.costs;
              tasks = true_tasks (vec_items v) t;
            },
          )
      finish (Err (Cost f)) small c t = cc
      finish (Err (FreeBlock at n)) small c t = cc
      finish (Err NoMemory) small c t = (x.it, loads)
