-- Routines and tasks at their offsets in the bytes. Assumes nothing.
use Rattle.std.specs.Prelude.{◌≡◌, ℕ, List, Some, Ok}
use Rattle.commands.specs.declared.table.Command.TheVariants as command
use Rattle.commands.specs.declared.table.Context.TheVariants.{Top, Tasks}
use Rattle.commands.specs.Commands.{answer, after}
use Rattle.reading.specs.Trees.{Routine, Task}
use Rattle.reading.specs.Runs.{Ended, run_at}
use Rattle.reading.specs.Steps.{blocks_at}

-- a routine's command and its body are read where its offset says
pub record BodyRead (bs : List ℕ) (r : Routine) : Type 0 where
  pub ended : Ended
  pub command_is : answer Top bs r.at ≡ Ok (Some (r.at, command.Routine r.code))
  pub run_is : run_at 9 bs r.at (after Top bs r.at) ≡ Ok ended
  pub body_is : ended.run ≡ r.body
  pub last_is : ended.last ≡ command.EndRoutine

-- a task's command and its blocks are read where its offset says
pub record TaskRead (bs : List ℕ) (t : Task) : Type 0 where
  pub end : ℕ
  pub command_is : answer Tasks bs t.at ≡ Ok (Some (t.at, command.Task t.code t.period t.deadline))
  pub blocks_are : blocks_at bs t.at ≡ Ok (t.blocks, end)
