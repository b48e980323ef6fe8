-- The commands at the places that refusals tell. Assumes nothing.
use Rattle.std.specs.Prelude.{◌≡◌, ℕ, ◌⊎◌, List, Some, Ok, Err, Result, Vec}
use Rattle.tasks.specs.declared.model.Task.{Task as HeldTask}
use Rattle.faults.specs.declared.fault.CostFault.{CostFault}
use Rattle.faults.specs.declared.fault.CostFault.TheVariants.{Read, Unknown, Cycle, TooDear}
use Rattle.faults.specs.declared.fault.LoadFault.{LoadFault}
use Rattle.faults.specs.declared.fault.LoadFault.TheVariants.{Cost, FreeBlock, NoMemory}
use Rattle.commands.specs.declared.table.Command.{Command}
use Rattle.commands.specs.declared.table.Command.TheVariants.{Routine, Call, Block}
use Rattle.commands.specs.declared.table.Context.{Context}
use Rattle.commands.specs.Commands.{answer}
use Rattle.listing.specs.Values.{Costs}

-- a command stands at an offset
abbrev pub Stands : List ℕ → Command → ℕ → Type 0
Stands bs command at = (context : Context) × (answer context bs at ≡ Ok (Some (at, command)))

-- at the place told stands the command that is at fault: a call or a block of the code not found, or the routine
abbrev pub FaultStands : List ℕ → CostFault → Type 0
FaultStands bs (Read f) = Unit {0}
FaultStands bs (Unknown at c) = Stands bs (Call c) at ⊎ Stands bs (Block c) at
FaultStands bs (Cycle at c) = Stands bs (Routine c) at
FaultStands bs (TooDear at c) = Stands bs (Routine c) at

abbrev pub PlaceTold : List ℕ → Result Costs CostFault → Type 0
PlaceTold bs (Ok k) = Unit {0}
PlaceTold bs (Err f) = FaultStands bs f

-- loading tells the place of costing, or that of a block
abbrev pub LoadPlaceTold : {Z : Type 0} → List ℕ → Result (Vec HeldTask Z) LoadFault → Type 0
LoadPlaceTold bs (Ok v) = Unit {0}
LoadPlaceTold bs (Err (Cost f)) = FaultStands bs f
LoadPlaceTold bs (Err (FreeBlock at c)) = (n : ℕ) × Stands bs (Block n) at
LoadPlaceTold bs (Err NoMemory) = Unit {0}
