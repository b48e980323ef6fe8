-- Calls through others, and true costs. Assumes nothing.
use Rattle.std.specs.Prelude.{◌≡◌, ℕ, ◌<◌, true, List, map, length, Ok, Err, Result, slice_index_or}
use Rattle.faults.specs.declared.fault.CostFault.{CostFault}
use Rattle.faults.specs.declared.fault.CostFault.TheVariants.{Read, Unknown, Cycle, TooDear}
use Rattle.listing.specs.Values.{Costs}
use Rattle.reading.specs.Heads.{head}
use Rattle.reading.specs.Trees.{Routine, Listing}
use Rattle.reading.specs.Listings.{listing, routine_head}
use Rattle.listing.specs.Cycles.{code_at}
use Rattle.listing.specs.Costing.{call_lists, table_of, cost_by, cost_in}

-- the code of the routine at an index
abbrev pub code_of : List Routine → ℕ → ℕ
code_of rs = code_at (map routine_head rs)

-- the routine at an index calls a code, at once or through others
pub data Reaches (rs : List Routine) : ℕ → ℕ → Type 0 where
  calls : {i c : ℕ} → table_of (call_lists rs) i c ≡ true → Reaches rs i c
  through : {i j c : ℕ} → j < length rs → Reaches rs i (code_of rs j) → Reaches rs j c → Reaches rs i c

-- the routine at an index calls itself
abbrev pub Cyclic : List Routine → ℕ → Type 0
Cyclic rs i = Reaches rs i (code_of rs i)

-- costs at which each routine costs what its run does, with every call at the called routine's own cost
abbrev pub TrueCosts : List Routine → (ℕ → ℕ) → Type 0
TrueCosts rs of = (c : ℕ) → of c ≡ cost_by of rs c

-- the routine told calls itself, and none before it does
pub record FirstCycle (rs : List Routine) (at c : ℕ) : Type 0 where
  pub index : ℕ
  pub inside : index < length rs
  pub told : slice_index_or (map routine_head rs) index (head 0 0) ≡ head c at
  pub cyclic : Cyclic rs index
  pub first : (j : ℕ) → j < index → Cyclic rs j → ⊥

-- no routine calls itself, and the costs are true
pub record CostedAll (rs : List Routine) : Type 0 where
  pub acyclic : (i : ℕ) → i < length rs → Cyclic rs i → ⊥
  pub costs : TrueCosts rs (cost_in rs 32)

-- what costing tells of cycles
abbrev pub CycleTold : List ℕ → Result Costs CostFault → Type 0
CycleTold bs (Ok k) = (l : Listing) × (listing bs ≡ Ok l) × CostedAll l.routines
CycleTold bs (Err (Read f)) = Unit {0}
CycleTold bs (Err (Unknown at c)) = Unit {0}
CycleTold bs (Err (Cycle at c)) = (l : Listing) × (listing bs ≡ Ok l) × FirstCycle l.routines at c
CycleTold bs (Err (TooDear at c)) = (l : Listing) × (listing bs ≡ Ok l) × CostedAll l.routines

-- no other costs are true
abbrev pub OnlyCosts : List Routine → Type 0
OnlyCosts rs = (of : ℕ → ℕ) → TrueCosts rs of → (c : ℕ) → of c ≡ cost_in rs 32 c

-- what the public costing call tells of costs, where it has them: those of the listing that was read are the only true ones
abbrev pub OnlyTold : List ℕ → Result Costs CostFault → Type 0
OnlyTold bs (Ok k) = (l : Listing) × (listing bs ≡ Ok l) × OnlyCosts l.routines
OnlyTold bs (Err (TooDear at c)) = (l : Listing) × (listing bs ≡ Ok l) × OnlyCosts l.routines
OnlyTold bs (Err (Read f)) = Unit {0}
OnlyTold bs (Err (Unknown at c)) = Unit {0}
OnlyTold bs (Err (Cycle at c)) = Unit {0}
