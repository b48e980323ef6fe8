-- From the code's tables to the definitions over the tree. Assumes nothing.
use Rattle.std.proofs.Common.{◌≡◌, ℕ, zero, suc, ◌+◌, ◌<◌, ◌≤◌, Bool, cond, not, ◌&&◌, ◌||◌, ltb, ◌⊎◌, List, [], ◌∷◌, ◌++◌, map, length, Some, None, Ok, Err, Option, Result, sym, refl, ap, ◌∙◌, subst, inl, inr, ⊎_elim, arith, le-ltb, lt-ltb, ne_eqb}
use Rattle.std.proofs.lemmas.List.{length-map}
use Rattle.std.proofs.lemmas.List.FromFn.{fill_by_all}
use Rattle.std.proofs.ByRecursion.{All-get_or}
use Rattle.std.proofs.lemmas.Bool.{cases_Bool, cond-true, cond-false, cases_eq, cases_lt, ltb-false}
use Rattle.std.specs.List.{range_with_len, AllByRecursion}
use Rattle.faults.specs.declared.fault.ReadFault.{ReadFault}
use Rattle.commands.specs.declared.table.Command.{Command}
use Rattle.commands.specs.declared.table.Command.TheVariants as command
use Rattle.commands.specs.declared.table.Context.TheVariants.{BlockDue}
use Rattle.reading.specs.declared.heads.Head.{Head}
use Rattle.commands.specs.Commands.{answer}
use Rattle.reading.specs.Heads.{head, used}
use Rattle.reading.specs.Trees.{Routine, Blocks, Task, Listing, block_heads}
use Rattle.reading.specs.Runs.{cost_of_code}
use Rattle.reading.specs.Listings.{by_command, listing, tasks_then, routines_from, tasks_from, blocks_from, routine_head, task_head}
use Rattle.listing.specs.Calls.{first_unknown, or_else}
use Rattle.listing.specs.Cycles.{Table, entry, closed, code_at, Tabled, RowSays}
use Rattle.reading.specs.Steps.{block_of}
use Rattle.listing.specs.Marks.{first_marked, marked_in, or_next}
use Rattle.reading.specs.Bodies.{BodyRead, TaskRead}
use Rattle.listing.specs.Costing.{Capped}
use Rattle.listing.specs.Costing.{call_lists, block_lists, unknown_in, table_of, cycle_from, dear_from, cost_by, cost_in, calls_in}
use Rattle.reading.proofs.Spelled.{went}
use Rattle.reading.proofs.Stepped.{refused, nothing, FirstBlock, first_block}
use Rattle.reading.proofs.Bodies.{all_bodies, all_tasks}
use Rattle.listing.proofs.Walked.{calls_are}
use Rattle.listing.proofs.Passes.{small_code}
use Rattle.commands.proofs.Inverted.{small_block}

-- a listing that is read has each routine and each task at its offset
pub listing_parts : (bs : List ℕ) (l : Listing) → listing bs ≡ Ok l → AllByRecursion (BodyRead bs) l.routines × AllByRecursion (TaskRead bs) l.tasks
unfolding listing
listing_parts bs l e =
    ⊎_elim
    (λ long. refused (sym (cond-true _ _ _ long) ∙ e))
    (λ fits.
    let w = went (tasks_then bs) (routines_from bs (suc (length bs)) [] 0) l (sym (cond-false _ _ _ fits) ∙ e) in
    let rs : List Routine × ℕ = w.0 in
    let v = went (λ (ts : List Task × ℕ). Ok (record { routines = rs.0; tasks = ts.0 })) (tasks_from bs (suc (length bs)) [] rs.1) l w.2 in
    let same : record { routines = rs.0; tasks = v.0.0 } ≡ l = let h = v.2 in cc in
    subst (λ (x : Listing). AllByRecursion (BodyRead bs) x.routines × AllByRecursion (TaskRead bs) x.tasks) same
    (all_bodies bs (suc (length bs)) [] 0 rs w.1, all_tasks bs (suc (length bs)) [] rs.1 v.0 v.1))
    (cases_Bool (ltb 32768 (length bs)))

-- the calls that are met are those of the trees
pub calls_same : (bs : List ℕ) (rs : List Routine) → AllByRecursion (BodyRead bs) rs → calls_in bs (map routine_head rs) ≡ call_lists rs
calls_same bs [] all = refl
calls_same bs (r ∷ rs) all = (λ i. calls_are bs r all.0 i ∷ calls_same bs rs all.1 i)

or_else_assoc : (x y z : Option Head) → or_else (or_else x y) z ≡ or_else x (or_else y z)
or_else_assoc (Some h) y z = refl
or_else_assoc None y z = refl

pub unknown_append : (known : List Head) (xs ys : List (List Head)) → unknown_in known (xs ++ ys) ≡ or_else (unknown_in known xs) (unknown_in known ys)
unknown_append known [] ys = refl
unknown_append known (x ∷ xs) ys = ap (or_else (first_unknown known x)) (unknown_append known xs ys) ∙ sym (or_else_assoc (first_unknown known x) (unknown_in known xs) (unknown_in known ys))

-- the codes of blocks are bytes
block_is : (a : ℕ) (k : Command) (h : Head) → by_command (λ _. None) (λ _ _ _. None) (λ n. Some (head n a)) (λ _ _. None) None None k ≡ Some h → k ≡ command.Block h.code
block_is a (command.Routine n) h e = nothing e
block_is a (command.Work n) h e = nothing e
block_is a (command.Call n) h e = nothing e
block_is a command.Either h e = nothing e
block_is a command.Or h e = nothing e
block_is a command.EndEither h e = nothing e
block_is a (command.Repeat n) h e = nothing e
block_is a command.EndRepeat h e = nothing e
block_is a command.EndRoutine h e = nothing e
block_is a (command.Task n m k) h e = nothing e
block_is a (command.Block n) h e = let same : head n a ≡ h = cc in ap (λ (x : Head). command.Block x.code) same
block_is a (command.Point n m) h e = nothing e
block_is a command.EndTask h e = nothing e
block_is a command.Sheet h e = nothing e

block_by : (bs : List ℕ) (p c at : ℕ) (r : Result (Option (ℕ × Command)) ReadFault) → answer BlockDue bs p ≡ r → block_of r ≡ Some (head c at) → c < 256
block_by bs p c at (Ok None) a e = nothing e
block_by bs p c at (Err f) a e = nothing e
block_by bs p c at (Ok (Some k)) a e = small_block BlockDue bs p k.0 c (a ∙ ap (λ x. Ok (Some (k.0, x))) (block_is k.0 k.1 (head c at) e))

block_command : (bs : List ℕ) (p c at : ℕ) → block_of (answer BlockDue bs p) ≡ Some (head c at) → c < 256
block_command bs p c at e = block_by bs p c at (answer BlockDue bs p) refl e

pub small_blocks : (n : ℕ) (bs : List ℕ) (count p : ℕ) (b : Blocks × ℕ) → blocks_from bs n count p ≡ Ok b → AllByRecursion (λ (h : Head). h.code < 256) (block_heads b.0)
unfolding blocks_from
small_blocks zero bs count p b e = refused e
small_blocks (suc n) bs count p b e =
    let f : FirstBlock bs n count p b = first_block bs n count p b e in
    let one : f.code < 256 = block_command bs p f.code f.at f.reads in
    ⊎_elim
    (λ x. subst (λ y. AllByRecursion (λ (h : Head). h.code < 256) (block_heads y)) (sym x.1) (one, tt))
    (λ x. subst (λ y. AllByRecursion (λ (h : Head). h.code < 256) (block_heads y)) (sym x.5) (one, small_blocks n bs (count + 1) _ (x.2, b.1) x.4))
    f.follows

-- marks of what is not known find the first that is not known
module _ (known : List Head) (marks : List Bool) (says : RowSays marks (λ c. not (used c known))) where
  marked_is : (hs : List Head) → AllByRecursion (λ (h : Head). h.code < 256) hs → first_marked marks hs ≡ first_unknown known hs
  marked_is [] all = refl
  marked_is (h ∷ hs) all =
      let m = says.says h.code all.0 in
      ⊎_elim
      (λ e. cond-false _ _ _ (m ∙ ap not e) ∙ marked_is hs all.1 ∙ sym (cond-true _ _ _ e))
      (λ e. cond-true _ _ _ (m ∙ ap not e) ∙ sym (cond-false _ _ _ e))
      (cases_Bool (used h.code known))

  second : Option (Head × Head) → Option Head
  second None = None
  second (Some x) = Some x.1

  second_next : (t : Head) (o : Option Head) (r : Option (Head × Head)) → second (or_next t o r) ≡ or_else o (second r)
  unfolding second
  second_next t (Some h) r = refl
  second_next t None r = refl

  blocks_unknown : (bs : List ℕ) (ts : List Task) → AllByRecursion (TaskRead bs) ts → second (marked_in marks ts) ≡ unknown_in known (block_lists ts)
  unfolding second
  blocks_unknown bs [] all = refl
  blocks_unknown bs (t ∷ ts) all =
      second_next (task_head t) (first_marked marks (block_heads t.blocks)) (marked_in marks ts)
      ∙ (λ i. or_else (marked_is (block_heads t.blocks) (small_blocks (suc (length bs)) bs 0 _ (t.blocks, all.0.end) all.0.blocks_are) i) (blocks_unknown bs ts all.1 i))

  pub block_unknown : (bs : List ℕ) (ts : List Task) (x : Head × Head) → AllByRecursion (TaskRead bs) ts → Some x ≡ marked_in marks ts → unknown_in known (block_lists ts) ≡ Some x.1
  unfolding second
  block_unknown bs ts x all e = sym (blocks_unknown bs ts all) ∙ ap second (sym e)

  pub blocks_known : (bs : List ℕ) (ts : List Task) → AllByRecursion (TaskRead bs) ts → None ≡ marked_in marks ts → unknown_in known (block_lists ts) ≡ None
  unfolding second
  blocks_known bs ts all e = sym (blocks_unknown bs ts all) ∙ ap second (sym e)

-- tables that agree stay so
closed_same : (t u : Table) (code : ℕ → ℕ) (n : ℕ) → n ≤ 32 → ((k : ℕ) → k < n → code k < 256) → ((i c : ℕ) → i < 32 → c < 256 → t i c ≡ u i c) → (i c : ℕ) → i < 32 → c < 256 → closed t code n i c ≡ closed u code n i c
unfolding closed
closed_same t u code zero few small same i c h k = same i c h k
closed_same t u code (suc n) few small same i c h k =
    let less = closed_same t u code n (omega arith) (λ j l. small j (omega arith)) same in
    (λ x. less i c h k x || (less i (code n) h (small n (omega arith)) x && less n c (omega arith) k x))

cycle_from_same : (t u : Table) (hs : List Head) (i : ℕ) → i + length hs ≤ 32 → AllByRecursion (λ (h : Head). h.code < 256) hs → ((j c : ℕ) → j < 32 → c < 256 → t j c ≡ u j c) → cycle_from t i hs ≡ cycle_from u i hs
cycle_from_same t u [] i few all same = refl
cycle_from_same t u (h ∷ hs) i few all same =
    (λ x. cond (same i h.code (omega arith) all.0 x) (Some h) (cycle_from_same t u hs (i + 1) (omega arith) all.1 same x))

small_heads : (bs : List ℕ) (rs : List Routine) → AllByRecursion (BodyRead bs) rs → AllByRecursion (λ (h : Head). h.code < 256) (map routine_head rs)
small_heads bs [] all = tt
small_heads bs (r ∷ rs) all = (small_code bs r all.0, small_heads bs rs all.1)

pub cycle_same : (bs : List ℕ) (rs : List Routine) (calls rows : List (List Bool)) → AllByRecursion (BodyRead bs) rs → length rs ≤ 32 → Tabled calls (table_of (call_lists rs)) → Tabled rows (closed (entry calls) (code_at (map routine_head rs)) (length (map routine_head rs))) → cycle_from (entry rows) 0 (map routine_head rs) ≡ cycle_from (closed (table_of (call_lists rs)) (code_at (map routine_head rs)) (length rs)) 0 (map routine_head rs)
cycle_same bs rs calls rows all few direct reach =
    let long = length-map rs routine_head in
    let small = small_heads bs rs all in
    cycle_from_same (entry rows) (closed (table_of (call_lists rs)) (code_at (map routine_head rs)) (length rs)) (map routine_head rs) 0 (omega arith) small
    (λ j c h k.
    reach.says j c h k ∙ ap (λ n. closed (entry calls) (code_at (map routine_head rs)) n j c) long
    ∙ closed_same (entry calls) (table_of (call_lists rs)) (code_at (map routine_head rs)) (length rs) few (λ m l. All-get_or (λ (x : Head). x.code < 256) (map routine_head rs) m (head 0 0) (omega (arith, long)) small) direct.says j c h k)

-- capped costs tell the same dear routine
pub dear_same : (bs : List ℕ) (of : ℕ → ℕ) (costs : List ℕ) (rs : List Routine) → AllByRecursion (BodyRead bs) rs → Capped costs of → dear_from (cost_of_code costs) (map routine_head rs) ≡ dear_from of (map routine_head rs)
dear_same bs of costs [] all g = refl
dear_same bs of costs (r ∷ rs) all g =
    let same = g.says r.code (small_code bs r all.0) in
    ⊎_elim
    (λ h. let k : 1000000 < cost_of_code costs r.code = omega arith in cond-true _ _ _ (lt-ltb _ _ k) ∙ sym (cond-true _ _ _ (lt-ltb _ _ h)))
    (λ h. let k : cost_of_code costs r.code ≤ 1000000 = omega arith in cond-false _ _ _ (le-ltb _ _ k) ∙ dear_same bs of costs rs all.1 g ∙ sym (cond-false _ _ _ (le-ltb _ _ h)))
    (cases_lt 1000000 (of r.code))

-- where none is dear, every cost is in range
pub none_dear : (of : ℕ → ℕ) (by : ℕ → ℕ) (rs : List Routine) (c : ℕ) → dear_from of (map routine_head rs) ≡ None → (cost_by by rs c ≡ 0) ⊎ (of c ≤ 1000000)
none_dear of by [] c e = inl refl
none_dear of by (r ∷ rs) c e =
    ⊎_elim
    (λ dear. nothing (sym (sym (cond-true _ _ _ dear) ∙ e)))
    (λ cheap.
    ⊎_elim
    (λ same. inr (let k = ltb-false _ _ cheap in subst (λ x. of x ≤ 1000000) same k))
    (λ other. ⊎_elim (λ z. inl (cond-false _ _ _ (ne_eqb r.code c other) ∙ z)) (λ z. inr z) (none_dear of by rs c (sym (cond-false _ _ _ cheap) ∙ e)))
    (cases_eq r.code c))
    (cases_Bool (ltb 1000000 (of r.code)))

pub costs_are : (rs : List Routine) (costs : List ℕ) → dear_from (cost_in rs 32) (map routine_head rs) ≡ None → Capped costs (cost_in rs 32) → costs ≡ map (cost_in rs 32) (range_with_len 0 256)
unfolding cost_in
costs_are rs costs e g =
    fill_by_all (cost_in rs 32) costs 256 0 g.wide
    (λ c h.
    let s = g.says c h in
    ⊎_elim (λ zero-cost. let z : cost_in rs 32 c ≡ 0 = zero-cost in omega arith) (λ cheap. omega arith) (none_dear (cost_in rs 32) (cost_in rs 31) rs c e))
