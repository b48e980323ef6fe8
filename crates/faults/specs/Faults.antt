-- The numbers of refusals and the places that they tell. Assumes nothing.
use Rattle.std.specs.Prelude.{ℕ, List, ◌++◌, Some, None, Option, codes}
use Rattle.std.specs.Fmt.{decimal}
use Rattle.faults.specs.declared.fault.CostFault.{CostFault}
use Rattle.faults.specs.declared.fault.CostFault.TheVariants.{Read, Unknown, Cycle, TooDear}
use Rattle.faults.specs.declared.fault.LoadFault.{LoadFault}
use Rattle.faults.specs.declared.fault.LoadFault.TheVariants.{Cost, FreeBlock, NoMemory}
use Rattle.faults.specs.declared.fault.ReadFault.{ReadFault}
use Rattle.faults.specs.declared.fault.ReadFault.TheVariants.{TooLong, NotAllowed, Short, Open, OutOfRange, CodeUsed, TooMany}

abbrev pub read_number : ReadFault → ℕ
read_number TooLong = 1
read_number (NotAllowed at) = 2
read_number (Short at) = 3
read_number (Open at) = 3
read_number (OutOfRange at) = 4
read_number (CodeUsed at) = 5
read_number (TooMany at) = 6

abbrev pub read_place : ReadFault → ℕ
read_place TooLong = 0
read_place (NotAllowed at) = at
read_place (Short at) = at
read_place (Open at) = at
read_place (OutOfRange at) = at
read_place (CodeUsed at) = at
read_place (TooMany at) = at

abbrev pub cost_number : CostFault → ℕ
cost_number (Read f) = read_number f
cost_number (Unknown at c) = 7
cost_number (Cycle at c) = 8
cost_number (TooDear at c) = 9

abbrev pub cost_place : CostFault → ℕ
cost_place (Read f) = read_place f
cost_place (Unknown at c) = at
cost_place (Cycle at c) = at
cost_place (TooDear at c) = at

-- the code not found, or the routine's
abbrev pub cost_code : CostFault → Option ℕ
cost_code (Read f) = None
cost_code (Unknown at c) = Some c
cost_code (Cycle at c) = Some c
cost_code (TooDear at c) = Some c

abbrev pub load_number : LoadFault → ℕ
load_number (Cost f) = cost_number f
load_number (FreeBlock at c) = 10
load_number NoMemory = 0

abbrev pub load_place : LoadFault → ℕ
load_place (Cost f) = cost_place f
load_place (FreeBlock at c) = at
load_place NoMemory = 0

-- the code not found, the routine's, or the task's
abbrev pub load_code : LoadFault → Option ℕ
load_code (Cost f) = cost_code f
load_code (FreeBlock at c) = Some c
load_code NoMemory = None

-- what is shown of a fault: its number, its place, and its code where it has one
abbrev pub shown : ℕ → ℕ → Option ℕ → List ℕ
shown n at None = codes "refused " ++ decimal n ++ codes " at " ++ decimal at
shown n at (Some c) = codes "refused " ++ decimal n ++ codes " at " ++ decimal at ++ codes " code " ++ decimal c
