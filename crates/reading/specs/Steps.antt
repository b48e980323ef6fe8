-- The steps through a task's blocks. Assumes nothing.
use Rattle.std.specs.Prelude.{ℕ, suc, List, length, Some, None, Ok, Err, Option, Result}
use Rattle.faults.specs.declared.fault.ReadFault.{ReadFault}
use Rattle.commands.specs.declared.table.Command.{Command}
use Rattle.commands.specs.declared.table.Context.TheVariants.{Tasks}
use Rattle.reading.specs.declared.heads.Head.{Head}
use Rattle.commands.specs.Commands.{after}
use Rattle.reading.specs.Heads.{head}
use Rattle.reading.specs.Trees.{Blocks}
use Rattle.reading.specs.Listings.{by_command, blocks_from}

-- the block that was read, and the point
abbrev pub block_of : Result (Option (ℕ × Command)) ReadFault → Option Head
block_of (Ok None) = None
block_of (Ok (Some c)) = by_command (λ _. None) (λ _ _ _. None) (λ n. Some (head n c.0)) (λ _ _. None) None None c.1
block_of (Err f) = None

abbrev pub point_of : Result (Option (ℕ × Command)) ReadFault → Option (ℕ × ℕ)
point_of (Ok None) = None
point_of (Ok (Some c)) = by_command (λ _. None) (λ _ _ _. None) (λ _. None) (λ t q. Some (t, q)) None None c.1
point_of (Err f) = None

-- the blocks of the task at an offset, where they are read
abbrev pub blocks_at : List ℕ → ℕ → Result (Blocks × ℕ) ReadFault
blocks_at bs at = blocks_from bs (suc (length bs)) 0 (after Tasks bs at)
