-- Tasks and marked blocks. Assumes nothing.
use Rattle.std.specs.Prelude.{ℕ, Bool, false, cond, List, [], ◌∷◌, Some, None, Ok, Err, Option, Result, slice_index_or}
use Rattle.faults.specs.declared.fault.ReadFault.{ReadFault}
use Rattle.commands.specs.declared.table.Command.{Command}
use Rattle.tasks.specs.declared.clock.Clock.{Clock}
use Rattle.reading.specs.declared.heads.Head.{Head}
use Rattle.reading.specs.Trees.{Task, block_heads}
use Rattle.reading.specs.Listings.{by_command, task_head}

-- the task's code, period and deadline that were read
abbrev pub task_of : Result (Option (ℕ × Command)) ReadFault → Option Clock
task_of (Ok None) = None
task_of (Ok (Some c)) = by_command (λ _. None) (λ n p d. Some (record { code = n; period = p; deadline = d })) (λ _. None) (λ _ _. None) None None c.1
task_of (Err f) = None

-- the first of some heads whose code is marked
abbrev pub first_marked : List Bool → List Head → Option Head
first_marked marks [] = None
first_marked marks (h ∷ hs) = cond (slice_index_or marks h.code false) (Some h) (first_marked marks hs)

abbrev pub or_next : Head → Option Head → Option (Head × Head) → Option (Head × Head)
or_next t (Some h) o = Some (t, h)
or_next t None o = o

-- the first block of some tasks whose routine's code is marked, with its task
abbrev pub marked_in : List Bool → List Task → Option (Head × Head)
marked_in marks [] = None
marked_in marks (t ∷ ts) = or_next (task_head t) (first_marked marks (block_heads t.blocks)) (marked_in marks ts)
