-- What the public costing call tells. Assumes nothing.
use Rattle.std.specs.Prelude.{ℕ, List, map, Ok, Err, Result}
use Rattle.std.specs.List.{range_with_len}
use Rattle.faults.specs.declared.fault.CostFault.{CostFault}
use Rattle.reading.specs.declared.heads.Head.{Head}
use Rattle.listing.specs.Values.{Costs}
use Rattle.reading.specs.Trees.{Listing}
use Rattle.reading.specs.Listings.{routine_head, task_head}
use Rattle.listing.specs.Costing.{cost_in}

-- the heads of the routines and of the tasks, and the cost of each code
abbrev pub cost_told : Result Costs CostFault → Result (List Head × List Head × List ℕ) CostFault
cost_told (Ok k) = Ok (k.outline.routines, k.outline.tasks, k.by_code)
cost_told (Err f) = Err f

abbrev pub costs_of : Result Listing CostFault → Result (List Head × List Head × List ℕ) CostFault
costs_of (Ok l) = Ok (map routine_head l.routines, map task_head l.tasks, map (cost_in l.routines 32) (range_with_len 0 256))
costs_of (Err f) = Err f
