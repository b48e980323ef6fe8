-- What costing tells of a listing. Assumes nothing.
use Rattle.std.specs.Prelude.{◌≡◌, ℕ, zero, suc, ◌+◌, ◌<◌, min, Bool, cond, List, [], ◌∷◌, ◌++◌, map, length, Some, None, Ok, Err, Option, Result, ◌==◌, nat_lt, slice_index, slice_index_or}
use Rattle.std.specs.List.{find}
use Rattle.faults.specs.declared.fault.ReadFault.{ReadFault}
use Rattle.faults.specs.declared.fault.CostFault.{CostFault}
use Rattle.faults.specs.declared.fault.CostFault.TheVariants.{Read, Unknown, Cycle, TooDear}
use Rattle.reading.specs.declared.heads.Head.{Head}
use Rattle.reading.specs.Heads.{used}
use Rattle.reading.specs.Trees.{Routine, Task, Listing, run_cost, calls_run, block_heads}
use Rattle.reading.specs.Listings.{listing, routine_head}
use Rattle.listing.specs.Calls.{first_unknown, or_else, calls_at}
use Rattle.listing.specs.Cycles.{Table, closed, code_at, Tabled}

-- the calls of each routine, and the blocks of each task
abbrev pub call_lists : List Routine → List (List Head)
call_lists = map (λ (r : Routine). calls_run r.body)

abbrev pub block_lists : List Task → List (List Head)
block_lists = map (λ (t : Task). block_heads t.blocks)

-- the first code that is not known, over several lists
abbrev pub unknown_in : List Head → List (List Head) → Option Head
unknown_in known [] = None
unknown_in known (hs ∷ rest) = or_else (first_unknown known hs) (unknown_in known rest)

-- the routine at an index calls a code
abbrev pub table_of : List (List Head) → Table
table_of lists i c = used c (slice_index_or lists i [])

-- the routine at an index reaches a code, through the listed routines
abbrev pub reach_table : List Routine → Table
reach_table rs = closed (table_of (call_lists rs)) (code_at (map routine_head rs)) (length rs)

-- the first routine that reaches itself, of those from an index on
abbrev pub cycle_from : Table → ℕ → List Head → Option Head
cycle_from t i [] = None
cycle_from t i (h ∷ hs) = cond (t i h.code) (Some h) (cycle_from t (i + 1) hs)

-- a routine's cost, where the called ones cost what `of` says
abbrev pub cost_by : (ℕ → ℕ) → List Routine → ℕ → ℕ
cost_by of [] c = 0
cost_by of (r ∷ rs) c = cond (r.code == c) (run_cost of r.body) (cost_by of rs c)

-- the cost of a code by passes: each costs every routine by the pass before
unfoldable pub cost_in : List Routine → ℕ → ℕ → ℕ
cost_in rs zero c = 0
cost_in rs (suc k) c = cost_by (cost_in rs k) rs c

-- the first routine that costs more than 1,000,000
abbrev pub dear_from : (ℕ → ℕ) → List Head → Option Head
dear_from of hs = find (λ (h : Head). nat_lt 1000000 (of h.code)) hs

-- a fault where there is one, and else what comes next
abbrev pub unless : {X : Type 0} → Option Head → (ℕ → ℕ → CostFault) → Result X CostFault → Result X CostFault
unless (Some h) fault next = Err (fault h.at h.code)
unless None fault next = next

-- 7, then 8, then 9, each over the whole listing
abbrev pub judged : Listing → Result Listing CostFault
judged l =
    unless (unknown_in (map routine_head l.routines) (call_lists l.routines ++ block_lists l.tasks)) Unknown
    (unless (cycle_from (reach_table l.routines) 0 (map routine_head l.routines)) Cycle
    (unless (dear_from (cost_in l.routines 32) (map routine_head l.routines)) TooDear (Ok l)))

abbrev pub judged_after : Result Listing ReadFault → Result Listing CostFault
judged_after (Ok l) = judged l
judged_after (Err f) = Err (Read f)

-- the listing that bytes write, with every routine's cost in range, or the fault
unfoldable pub costing : List ℕ → Result Listing CostFault
costing bs = judged_after (listing bs)

-- the calls that are met in each routine
abbrev pub calls_in : List ℕ → List Head → List (List Head)
calls_in bs = map (λ (h : Head). calls_at bs h.at)

-- what the walks through all routines tell
abbrev pub TableTold : List Head → List (List Head) → Result (List (List Bool)) CostFault → Type 0
TableTold known lists (Ok rows) = Tabled rows (table_of lists) × (unknown_in known lists ≡ None)
TableTold known lists (Err f) = (h : Head) × (unknown_in known lists ≡ Some h) × (f ≡ Unknown h.at h.code)

-- costs by code, at most 1,000,001
pub record Capped (costs : List ℕ) (of : ℕ → ℕ) : Type 0 where
  pub wide : length costs ≡ 256
  pub says : (c : ℕ) → c < 256 → slice_index costs c ≡ min (of c) 1000001
