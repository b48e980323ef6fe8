-- Runs of items, read from bytes. Assumes nothing.
use Rattle.std.specs.Prelude.{◌≡◌, ℕ, zero, suc, min, Bool, true, false, cond, List, length, Some, None, Ok, Err, Option, Result, slice_index}
use Rattle.faults.specs.declared.fault.ReadFault.{ReadFault}
use Rattle.faults.specs.declared.fault.ReadFault.TheVariants.{NotAllowed, Open, TooMany}
use Rattle.commands.specs.declared.table.Command.{Command}
use Rattle.commands.specs.declared.table.Command.TheVariants.{Routine, Work, Call, Either, Or, EndEither, Repeat, EndRepeat, EndRoutine, Task, Block, Point, EndTask, Sheet}
use Rattle.commands.specs.declared.table.Context.TheVariants.{Body}
use Rattle.reading.specs.declared.walk.Ran.{Ran}
use Rattle.commands.specs.Commands.{answer, after}
use Rattle.reading.specs.Trees.{Item, work, call, either, repeat, Run, done, next, Arms, one, more, item_cost, run_cost}

-- a run, the command that ends it, that command's offset, and the place after it
pub record Ended : Type 0 where
  pub run : Run
  pub last : Command
  pub at : ℕ
  pub place : ℕ

-- an item, and the place after it
pub record Parsed : Type 0 where
  pub item : Item
  pub end : ℕ

-- the arms of an either, and the place after it
pub record Armed : Type 0 where
  pub arms : Arms
  pub end : ℕ

-- go on with what an Ok holds
abbrev pub then : {X Y F : Type 0} → (X → Result Y F) → Result X F → Result Y F
then rule (Ok x) = rule x
then rule (Err e) = Err e

-- by the command that ends a run: 24, 25, 27, 28, or none of these
abbrev pub by_last : {X : Type 0} → X → X → X → X → X → Command → X
by_last o e p t x (Routine n) = x
by_last o e p t x (Work n) = x
by_last o e p t x (Call n) = x
by_last o e p t x Either = x
by_last o e p t x Or = o
by_last o e p t x EndEither = e
by_last o e p t x (Repeat n) = x
by_last o e p t x EndRepeat = p
by_last o e p t x EndRoutine = t
by_last o e p t x (Task n m k) = x
by_last o e p t x (Block n) = x
by_last o e p t x (Point n m) = x
by_last o e p t x EndTask = x
by_last o e p t x Sheet = x

-- does a command end a run
abbrev pub ends : Command → Bool
ends = by_last true true true true false

abbrev pub more_arms : Run → Armed → Result Armed ReadFault
more_arms r q = Ok (record { arms = more r q.arms; end = q.end })

-- the arms of an either: runs parted by 24, the last one ended by 25
unfoldable pub arms_by : (ℕ → Result Ended ReadFault) → List ℕ → ℕ → ℕ → Result Armed ReadFault
arms_by run bs zero place = Err (Open (length bs))
arms_by run bs (suc n) place =
    then
    (λ (e : Ended).
    by_last (then (more_arms e.run) (arms_by run bs n e.place)) (Ok (record { arms = one e.run; end = e.place })) (Err (NotAllowed e.at)) (Err (NotAllowed e.at)) (Err (NotAllowed e.at)) e.last)
    (run place)

abbrev pub an_either : Armed → Result Parsed ReadFault
an_either q = Ok (record { item = either q.arms; end = q.end })

-- a repeat: a run ended by 27
abbrev pub a_repeat : ℕ → Ended → Result Parsed ReadFault
a_repeat k e = by_last (Err (NotAllowed e.at)) (Err (NotAllowed e.at)) (Ok (record { item = repeat k e.run; end = e.place })) (Err (NotAllowed e.at)) (Err (NotAllowed e.at)) e.last

-- the item that a command at an offset begins
abbrev pub item_of : (ℕ → ℕ → Result Ended ReadFault) → List ℕ → ℕ → Command → ℕ → Result Parsed ReadFault
item_of run bs at (Routine c) place = Err (NotAllowed at)
item_of run bs at (Work t) place = Ok (record { item = work t; end = place })
item_of run bs at (Call c) place = Ok (record { item = call at c; end = place })
item_of run bs at Either place = then an_either (arms_by (run at) bs (suc (length bs)) place)
item_of run bs at Or place = Err (NotAllowed at)
item_of run bs at EndEither place = Err (NotAllowed at)
item_of run bs at (Repeat k) place = then (a_repeat k) (run at place)
item_of run bs at EndRepeat place = Err (NotAllowed at)
item_of run bs at EndRoutine place = Err (NotAllowed at)
item_of run bs at (Task c p d) place = Err (NotAllowed at)
item_of run bs at (Block c) place = Err (NotAllowed at)
item_of run bs at (Point t q) place = Err (NotAllowed at)
item_of run bs at EndTask place = Err (NotAllowed at)
item_of run bs at Sheet place = Err (NotAllowed at)

abbrev pub more_items : Item → Ended → Result Ended ReadFault
more_items i e = Ok (record { run = next i e.run; last = e.last; at = e.at; place = e.place })

abbrev pub turn : (ℕ → Command → ℕ → Result Parsed ReadFault) → (ℕ → Result Ended ReadFault) → List ℕ → ℕ → Result (Option (ℕ × Command)) ReadFault → Result Ended ReadFault
turn item rest bs place (Ok None) = Err (Open (length bs))
turn item rest bs place (Ok (Some c)) =
    cond (ends c.1) (Ok (record { run = done; last = c.1; at = c.0; place = place })) (then (λ (p : Parsed). then (more_items p.item) (rest p.end)) (item c.0 c.1 place))
turn item rest bs place (Err e) = Err e

-- a run: its items one after the other, to the command that ends it
unfoldable pub run_with : (ℕ → Command → ℕ → Result Parsed ReadFault) → List ℕ → ℕ → ℕ → Result Ended ReadFault
run_with item bs zero place = Err (Open (length bs))
run_with item bs (suc n) place = turn item (run_with item bs n) bs (after Body bs place) (answer Body bs place)

-- the run at a place, opened by the command at an offset, with so many levels allowed
unfoldable pub run_at : ℕ → List ℕ → ℕ → ℕ → Result Ended ReadFault
run_at zero bs opener place = Err (TooMany opener)
run_at (suc d) bs opener place = run_with (item_of (run_at d bs) bs) bs (suc (length bs)) place

-- what the code tells of a run: its cost, at most 1,000,001, and how it ended
abbrev pub ran : (ℕ → ℕ) → Result Ended ReadFault → Result Ran ReadFault
ran of (Ok e) = Ok (record { cost = run_cost of e.run; last = e.last; at = e.at })
ran of (Err f) = Err f

abbrev pub cap_run : Result Ran ReadFault → Result Ran ReadFault
cap_run (Ok r) = Ok (record { cost = min r.cost 1000001; last = r.last; at = r.at })
cap_run (Err f) = Err f

abbrev pub cap_item : (ℕ → ℕ) → Result Parsed ReadFault → Result ℕ ReadFault
cap_item of (Ok p) = Ok (min (item_cost of p.item) 1000001)
cap_item of (Err f) = Err f

-- where the reader stands after an Ok; after a fault it may stand anywhere
abbrev pub run_place : Result Ended ReadFault → ℕ → ℕ
run_place (Ok e) p = e.place
run_place (Err f) p = p

abbrev pub item_place : Result Parsed ReadFault → ℕ → ℕ
item_place (Ok e) p = e.end
item_place (Err f) p = p

pub record RunTold (of : ℕ → ℕ) (r : Result Ran ReadFault) (place : ℕ) (s : Result Ended ReadFault) : Type 0 where
  pub says : r ≡ cap_run (ran of s)
  pub stands : place ≡ run_place s place

pub record ItemTold (of : ℕ → ℕ) (r : Result ℕ ReadFault) (place : ℕ) (s : Result Parsed ReadFault) : Type 0 where
  pub says : r ≡ cap_item of s
  pub stands : place ≡ item_place s place

-- costs by code
abbrev pub cost_of_code : List ℕ → ℕ → ℕ
cost_of_code costs c = slice_index costs c
