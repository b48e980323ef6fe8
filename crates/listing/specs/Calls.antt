-- Which routines a routine calls. Assumes nothing.
use Rattle.std.specs.Prelude.{◌≡◌, ℕ, zero, suc, ◌<◌, false, cond, List, [], ◌∷◌, length, Some, None, Ok, Err, Option, Result, slice_index_or}
use Rattle.faults.specs.declared.fault.ReadFault.{ReadFault}
use Rattle.commands.specs.declared.table.Command.{Command}
use Rattle.commands.specs.declared.table.Command.TheVariants.{Routine, Work, Call, Either, Or, EndEither, Repeat, EndRepeat, EndRoutine, Task, Block, Point, EndTask, Sheet}
use Rattle.commands.specs.declared.table.Context.TheVariants.{Body, Top}
use Rattle.reading.specs.declared.heads.Head.{Head}
use Rattle.listing.specs.Values.{Calls}
use Rattle.commands.specs.Commands.{answer, after}
use Rattle.reading.specs.Heads.{head, used}

-- a call, the end of a routine, or another command
abbrev pub by_call : {X : Type 0} → (ℕ → X) → X → X → Command → X
by_call f e x (Routine n) = x
by_call f e x (Work n) = x
by_call f e x (Call n) = f n
by_call f e x Either = x
by_call f e x Or = x
by_call f e x EndEither = x
by_call f e x (Repeat n) = x
by_call f e x EndRepeat = x
by_call f e x EndRoutine = e
by_call f e x (Task n m k) = x
by_call f e x (Block n) = x
by_call f e x (Point n m) = x
by_call f e x EndTask = x
by_call f e x Sheet = x

abbrev pub calls_turn : List Head → Result (Option (ℕ × Command)) ReadFault → List Head
calls_turn rest (Ok None) = []
calls_turn rest (Ok (Some c)) = by_call (λ k. head k c.0 ∷ rest) [] rest c.1
calls_turn rest (Err f) = []

-- the calls from a place to the end of the routine
unfoldable pub calls_from : List ℕ → ℕ → ℕ → List Head
calls_from bs zero place = []
calls_from bs (suc n) place = calls_turn (calls_from bs n (after Body bs place)) (answer Body bs place)

-- the calls of the routine at an offset
abbrev pub calls_at : List ℕ → ℕ → List Head
calls_at bs at = calls_from bs (suc (length bs)) (after Top bs at)

-- the first code that is not known
abbrev pub first_unknown : List Head → List Head → Option Head
first_unknown known [] = None
first_unknown known (h ∷ hs) = cond (used h.code known) (first_unknown known hs) (Some h)

abbrev pub or_else : Option Head → Option Head → Option Head
or_else (Some h) o = Some h
or_else None o = o

-- what is told of calls: which codes they have, and the first that is not known
pub record CallsTold (known hs : List Head) (r : Calls) : Type 0 where
  pub marks : (c : ℕ) → c < 256 → slice_index_or r.marks c false ≡ used c hs
  pub unknown : r.unknown ≡ first_unknown known hs
