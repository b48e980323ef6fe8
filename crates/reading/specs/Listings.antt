-- Whole listings, read from bytes. Assumes nothing.
use Rattle.std.specs.Prelude.{ℕ, zero, suc, ◌+◌, cond, List, [], ◌∷◌, ◌++◌, map, length, Some, None, Ok, Err, Option, Result, nat_le, nat_lt}
use Rattle.faults.specs.declared.fault.ReadFault.{ReadFault}
use Rattle.faults.specs.declared.fault.ReadFault.TheVariants.{TooLong, NotAllowed, Open, CodeUsed, TooMany}
use Rattle.commands.specs.declared.table.Command.{Command}
use Rattle.commands.specs.declared.table.Command.TheVariants as command
use Rattle.commands.specs.declared.table.Context.TheVariants.{Top, Tasks, BlockDue, AfterBlock}
use Rattle.reading.specs.declared.heads.Head.{Head}
use Rattle.reading.specs.declared.heads.Heads.{Heads}
use Rattle.reading.specs.Outlines.{Outline}
use Rattle.commands.specs.Commands.{answer, after}
use Rattle.reading.specs.Heads.{head, used}
use Rattle.reading.specs.Trees.{Run, Routine, Blocks, final, block, Task, Listing}
use Rattle.reading.specs.Runs.{Ended, then, by_last, run_at}

-- a command by what it is to a listing and its tasks: a routine, a task, a block, a point, the end of a task, or another
abbrev pub by_command : {X : Type 0} → (ℕ → X) → (ℕ → ℕ → ℕ → X) → (ℕ → X) → (ℕ → ℕ → X) → X → X → Command → X
by_command r t b p e x (command.Routine n) = r n
by_command r t b p e x (command.Work n) = x
by_command r t b p e x (command.Call n) = x
by_command r t b p e x command.Either = x
by_command r t b p e x command.Or = x
by_command r t b p e x command.EndEither = x
by_command r t b p e x (command.Repeat n) = x
by_command r t b p e x command.EndRepeat = x
by_command r t b p e x command.EndRoutine = x
by_command r t b p e x (command.Task n m k) = t n m k
by_command r t b p e x (command.Block n) = b n
by_command r t b p e x (command.Point n m) = p n m
by_command r t b p e x command.EndTask = e
by_command r t b p e x command.Sheet = x

-- go on with the command that was read, by its offset; at the end of the bytes something is open
abbrev pub onward : {X : Type 0} → List ℕ → (ℕ → Command → Result X ReadFault) → Result (Option (ℕ × Command)) ReadFault → Result X ReadFault
onward bs rule (Ok None) = Err (Open (length bs))
onward bs rule (Ok (Some c)) = rule c.0 c.1
onward bs rule (Err f) = Err f

-- one more of at most 32, with a code of its own
abbrev pub admit : {X : Type 0} → ℕ → ℕ → List Head → Result X ReadFault → Result X ReadFault
admit c at seen more = cond (used c seen) (Err (CodeUsed at)) (cond (nat_le 32 (length seen)) (Err (TooMany at)) more)

abbrev pub more_routines : ℕ → ℕ → Run → List Routine × ℕ → Result (List Routine × ℕ) ReadFault
more_routines c at r rest = Ok (record { code = c; at = at; body = r } ∷ rest.0, rest.1)

-- a routine's body ends with 28
abbrev pub closed : {X : Type 0} → (Run → ℕ → Result X ReadFault) → Ended → Result X ReadFault
closed rule e = by_last (Err (NotAllowed e.at)) (Err (NotAllowed e.at)) (Err (NotAllowed e.at)) (rule e.run e.place) (Err (NotAllowed e.at)) e.last

abbrev pub routine_turn : List ℕ → List Head → (List Head → ℕ → Result (List Routine × ℕ) ReadFault) → ℕ → ℕ → Result (Option (ℕ × Command)) ReadFault → Result (List Routine × ℕ) ReadFault
routine_turn bs seen rest place next (Ok None) = Ok ([], place)
routine_turn bs seen rest place next (Ok (Some c)) =
    by_command (λ n. admit n c.0 seen (then (closed (λ r q. then (more_routines n c.0 r) (rest (seen ++ head n c.0 ∷ []) q))) (run_at 9 bs c.0 next))) (λ _ _ _. Ok ([], place)) (λ _. Ok ([], place)) (λ _ _. Ok ([], place)) (Ok ([], place)) (Ok ([], place)) c.1
routine_turn bs seen rest place next (Err f) = Err f

-- the routines from a place on, and the place after them
unfoldable pub routines_from : List ℕ → ℕ → List Head → ℕ → Result (List Routine × ℕ) ReadFault
routines_from bs zero seen place = Err (Open (length bs))
routines_from bs (suc n) seen place = routine_turn bs seen (routines_from bs n) place (after Top bs place) (answer Top bs place)

abbrev pub more_blocks : ℕ → ℕ → ℕ → ℕ → Blocks × ℕ → Result (Blocks × ℕ) ReadFault
more_blocks at c t q rest = Ok (block at c t q rest.0, rest.1)

-- after a block: a point and the next blocks, or the end of the task
abbrev pub after_block : ℕ → ℕ → (ℕ → Result (Blocks × ℕ) ReadFault) → ℕ → ℕ → Command → Result (Blocks × ℕ) ReadFault
after_block was c rest place at =
    by_command (λ _. Err (NotAllowed at)) (λ _ _ _. Err (NotAllowed at)) (λ _. Err (NotAllowed at)) (λ t q. then (more_blocks was c t q) (rest place)) (Ok (final was c, place)) (Err (NotAllowed at))

-- a block, of which there are at most 64, and what comes after it
abbrev pub a_block : List ℕ → ℕ → (ℕ → Result (Blocks × ℕ) ReadFault) → ℕ → ℕ → Command → Result (Blocks × ℕ) ReadFault
a_block bs count rest place at =
    by_command (λ _. Err (NotAllowed at)) (λ _ _ _. Err (NotAllowed at)) (λ c. cond (nat_le 64 count) (Err (TooMany at)) (onward bs (after_block at c rest (after AfterBlock bs place)) (answer AfterBlock bs place))) (λ _ _. Err (NotAllowed at)) (Err (NotAllowed at)) (Err (NotAllowed at))

-- the blocks from a place on, after so many, and the place after the task
unfoldable pub blocks_from : List ℕ → ℕ → ℕ → ℕ → Result (Blocks × ℕ) ReadFault
blocks_from bs zero count place = Err (Open (length bs))
blocks_from bs (suc n) count place = onward bs (a_block bs count (blocks_from bs n (count + 1)) (after BlockDue bs place)) (answer BlockDue bs place)

abbrev pub more_tasks : ℕ → ℕ → ℕ → ℕ → Blocks → List Task × ℕ → Result (List Task × ℕ) ReadFault
more_tasks c at p d b rest = Ok (record { code = c; at = at; period = p; deadline = d; blocks = b } ∷ rest.0, rest.1)

abbrev pub task_turn : List ℕ → List Head → (List Head → ℕ → Result (List Task × ℕ) ReadFault) → ℕ → ℕ → Result (Option (ℕ × Command)) ReadFault → Result (List Task × ℕ) ReadFault
task_turn bs seen rest place next (Ok None) = Ok ([], place)
task_turn bs seen rest place next (Ok (Some c)) =
    by_command (λ _. Err (NotAllowed c.0)) (λ n p d. admit n c.0 seen (then (λ (b : Blocks × ℕ). then (more_tasks n c.0 p d b.0) (rest (seen ++ head n c.0 ∷ []) b.1)) (blocks_from bs (suc (length bs)) 0 next))) (λ _. Err (NotAllowed c.0)) (λ _ _. Err (NotAllowed c.0)) (Err (NotAllowed c.0)) (Err (NotAllowed c.0)) c.1
task_turn bs seen rest place next (Err f) = Err f

-- the tasks from a place on, and the place after them
unfoldable pub tasks_from : List ℕ → ℕ → List Head → ℕ → Result (List Task × ℕ) ReadFault
tasks_from bs zero seen place = Err (Open (length bs))
tasks_from bs (suc n) seen place = task_turn bs seen (tasks_from bs n) place (after Tasks bs place) (answer Tasks bs place)

-- the listing that bytes write, or the first fault in them
abbrev pub tasks_then : List ℕ → List Routine × ℕ → Result Listing ReadFault
tasks_then bs rs = then (λ (ts : List Task × ℕ). Ok (record { routines = rs.0; tasks = ts.0 })) (tasks_from bs (suc (length bs)) [] rs.1)

unfoldable pub listing : List ℕ → Result Listing ReadFault
listing bs = cond (nat_lt 32768 (length bs)) (Err TooLong) (then (tasks_then bs) (routines_from bs (suc (length bs)) [] 0))

-- the codes and offsets that a reading tells
abbrev pub routine_head : Routine → Head
routine_head r = head r.code r.at

abbrev pub task_head : Task → Head
task_head t = head t.code t.at

abbrev pub outline_of : Result Listing ReadFault → Result (List Head × List Head) ReadFault
outline_of (Ok l) = Ok (map routine_head l.routines, map task_head l.tasks)
outline_of (Err f) = Err f

abbrev pub told : Result Outline ReadFault → Result (List Head × List Head) ReadFault
told (Ok o) = Ok (o.routines, o.tasks)
told (Err f) = Err f

-- the heads of routines, or of tasks, and the place after them
abbrev pub heads_of : {X : Type 0} → (X → Head) → Result (List X × ℕ) ReadFault → Result (List Head × ℕ) ReadFault
heads_of h (Ok xs) = Ok (map h xs.0, xs.1)
heads_of h (Err f) = Err f

abbrev pub routine_heads : Result (List Routine × ℕ) ReadFault → Result (List Head × ℕ) ReadFault
routine_heads = heads_of routine_head

abbrev pub task_heads : Result (List Task × ℕ) ReadFault → Result (List Head × ℕ) ReadFault
task_heads = heads_of task_head

abbrev pub heads_at : Result Heads ReadFault → ℕ → Result (List Head × ℕ) ReadFault
heads_at (Ok hs) place = Ok (hs, place)
heads_at (Err f) place = Err f

-- the place after a task's blocks
abbrev pub blocks_end : Result (Blocks × ℕ) ReadFault → Result ℕ ReadFault
blocks_end (Ok b) = Ok b.1
blocks_end (Err f) = Err f

abbrev pub end_at : {X : Type 0} → Result X ReadFault → ℕ → Result ℕ ReadFault
end_at (Ok x) place = Ok place
end_at (Err f) place = Err f
