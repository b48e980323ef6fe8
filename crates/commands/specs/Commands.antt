-- The commands of a listing and the bytes that write them. Assumes nothing.
use Rattle.std.specs.Prelude.{ℕ, ◌+◌, ◌*◌, ◌<◌, ◌≤◌, Bool, true, false, cond, ◌&&◌, List, [], ◌∷◌, length, take, drop, Some, None, Ok, Err, Option, Result, ◌==◌, nat_le, nat_lt}
use Rattle.std.specs.List.{find}
use Rattle.faults.specs.declared.fault.ReadFault.{ReadFault}
use Rattle.faults.specs.declared.fault.ReadFault.TheVariants.{NotAllowed, Short, OutOfRange}
use Rattle.commands.specs.declared.table.Operand.{Operand}
use Rattle.commands.specs.declared.table.Row.{Row}
use Rattle.commands.specs.declared.table.Numbers.{Numbers}
use Rattle.commands.specs.declared.table.Kind.{Kind}
use Rattle.commands.specs.declared.table.Kind.TheVariants as kind
use Rattle.commands.specs.declared.table.Context.{Context}
use Rattle.commands.specs.declared.table.Context.TheVariants.{Top, Tasks, Body, BlockDue, AfterBlock}
use Rattle.commands.specs.declared.table.Command.{Command}
use Rattle.commands.specs.declared.table.Command.TheVariants as command

abbrev pub operand : ℕ → ℕ → ℕ → Operand
operand w l t = record { width = w; low = l; top = t }

abbrev pub nothing : Operand
nothing = operand 0 0 0

abbrev pub code : Operand
code = operand 1 0 255

abbrev pub ticks : Operand
ticks = operand 4 0 1000000

abbrev pub turns : Operand
turns = operand 2 0 1000

abbrev pub period : Operand
period = operand 4 10 1000000

abbrev pub deadline : Operand
deadline = operand 4 1 1000000

abbrev pub word : Operand
word = operand 2 0 65535

abbrev pub long : Operand
long = operand 4 0 4294967295

abbrev pub row : ℕ → Kind → Operand → Operand → Operand → Row
row b k x y z = record { byte = b; kind = k; first = x; second = y; third = z }

-- the table
abbrev pub rows : List Row
rows =
    row 0x20 kind.Routine code nothing nothing
    ∷ row 0x21 kind.Work ticks nothing nothing
    ∷ row 0x22 kind.Call code nothing nothing
    ∷ row 0x23 kind.Either nothing nothing nothing
    ∷ row 0x24 kind.Or nothing nothing nothing
    ∷ row 0x25 kind.EndEither nothing nothing nothing
    ∷ row 0x26 kind.Repeat turns nothing nothing
    ∷ row 0x27 kind.EndRepeat nothing nothing nothing
    ∷ row 0x28 kind.EndRoutine nothing nothing nothing
    ∷ row 0x30 kind.Task code period deadline
    ∷ row 0x31 kind.Block code nothing nothing
    ∷ row 0x32 kind.Point ticks word nothing
    ∷ row 0x33 kind.EndTask nothing nothing nothing
    ∷ row 0x4f kind.Sheet word nothing nothing
    ∷ row 0x40 kind.Sheet code long nothing
    ∷ row 0x41 kind.Sheet code nothing nothing
    ∷ row 0x42 kind.Sheet nothing nothing nothing
    ∷ []

-- the first row with a byte
abbrev pub row_of : List Row → ℕ → Option Row
row_of rows b = find (λ (row : Row). row.byte == b) rows

-- which contexts allow a command: between routines, after a task, in a routine, where a block is due, after a block
abbrev contexts : Bool → Bool → Bool → Bool → Bool → Context → Bool
contexts a b c d e Top = a
contexts a b c d e Tasks = b
contexts a b c d e Body = c
contexts a b c d e BlockDue = d
contexts a b c d e AfterBlock = e

abbrev pub allows : Kind → Context → Bool
allows kind.Routine = contexts true false false false false
allows kind.Work = contexts false false true false false
allows kind.Call = contexts false false true false false
allows kind.Either = contexts false false true false false
allows kind.Or = contexts false false true false false
allows kind.EndEither = contexts false false true false false
allows kind.Repeat = contexts false false true false false
allows kind.EndRepeat = contexts false false true false false
allows kind.EndRoutine = contexts false false true false false
allows kind.Task = contexts true true false false false
allows kind.Block = contexts false false false true false
allows kind.Point = contexts false false false false true
allows kind.EndTask = contexts false false false false true
allows kind.Sheet = contexts false false false false false

abbrev pub allowed : Context → Option Row → Option Row
allowed context None = None
allowed context (Some row) = cond (allows row.kind context) (Some row) None

-- the row of a byte that is a command allowed in a context
unfoldable pub row_in : Context → ℕ → Option Row
row_in context b = allowed context (row_of rows b)

-- the number that bytes write, low byte first
abbrev pub low : List ℕ → ℕ
low [] = 0
low (b ∷ bs) = b + 256 * low bs

abbrev pub width_of : Row → ℕ
width_of row = row.first.width + row.second.width + row.third.width

-- the operands' numbers, from the bytes after the command's
unfoldable pub numbers_of : Row → List ℕ → Numbers
numbers_of row bs =
    record {
      first = low (take row.first.width bs);
      second = low (take row.second.width (drop row.first.width bs));
      third = low (take row.third.width (drop (row.first.width + row.second.width) bs));
    }

abbrev pub holds : Operand → ℕ → Bool
holds o n = nat_le o.low n && nat_le n o.top

-- the operands are in their ranges, and the third is at most the second
abbrev pub within : Row → Numbers → Bool
within row n = holds row.first n.first && (holds row.second n.second && (holds row.third n.third && nat_le n.third n.second))

-- an operand has at most four bytes
abbrev pub Narrow : Row → Type 0
Narrow row = (row.first.width ≤ 4) × (row.second.width ≤ 4) × (row.third.width ≤ 4)

-- the largest first operand of a kind, and the largest second one
abbrev pub top : Kind → ℕ
top kind.Routine = 255
top kind.Work = 1000000
top kind.Call = 255
top kind.Either = 0
top kind.Or = 0
top kind.EndEither = 0
top kind.Repeat = 1000
top kind.EndRepeat = 0
top kind.EndRoutine = 0
top kind.Task = 255
top kind.Block = 255
top kind.Point = 1000000
top kind.EndTask = 0
top kind.Sheet = 65535

abbrev pub top_second : Kind → ℕ
top_second kind.Routine = 0
top_second kind.Work = 0
top_second kind.Call = 0
top_second kind.Either = 0
top_second kind.Or = 0
top_second kind.EndEither = 0
top_second kind.Repeat = 0
top_second kind.EndRepeat = 0
top_second kind.EndRoutine = 0
top_second kind.Task = 1000000
top_second kind.Block = 0
top_second kind.Point = 65535
top_second kind.EndTask = 0
top_second kind.Sheet = 4294967295

abbrev pub command_of : Kind → Numbers → Command
command_of kind.Routine n = command.Routine n.first
command_of kind.Work n = command.Work n.first
command_of kind.Call n = command.Call n.first
command_of kind.Either n = command.Either
command_of kind.Or n = command.Or
command_of kind.EndEither n = command.EndEither
command_of kind.Repeat n = command.Repeat n.first
command_of kind.EndRepeat n = command.EndRepeat
command_of kind.EndRoutine n = command.EndRoutine
command_of kind.Task n = command.Task n.first n.second n.third
command_of kind.Block n = command.Block n.first
command_of kind.Point n = command.Point n.first n.second
command_of kind.EndTask n = command.EndTask
command_of kind.Sheet n = command.Sheet

-- what the front of a list of bytes is: nothing, no command that is allowed, one that is cut short, one with a
-- number outside its range, or a command and how many bytes it has
pub data Front : Type 0 where
  none : Front
  unknown : Front
  short : Front
  range : Front
  a : Command → ℕ → Front

abbrev pub front_of_numbers : Row → Numbers → Front
front_of_numbers row n = cond (within row n) (a (command_of row.kind n) (1 + width_of row)) range

abbrev pub front_of_row : Option Row → List ℕ → Front
front_of_row None bs = unknown
front_of_row (Some row) bs = cond (nat_lt (length bs) (width_of row)) short (front_of_numbers row (numbers_of row bs))

abbrev pub decode : Context → List ℕ → Front
decode context [] = none
decode context (b ∷ bs) = front_of_row (row_in context b) bs

abbrev pub answered : ℕ → Front → Result (Option (ℕ × Command)) ReadFault
answered at none = Ok None
answered at unknown = Err (NotAllowed at)
answered at short = Err (Short at)
answered at range = Err (OutOfRange at)
answered at (a k n) = Ok (Some (at, k))

abbrev pub moved : ℕ → Front → ℕ
moved at none = at
moved at unknown = at
moved at short = at
moved at range = at
moved at (a k n) = at + n

-- the command at a place, with its offset
unfoldable pub answer : Context → List ℕ → ℕ → Result (Option (ℕ × Command)) ReadFault
answer context bs at = answered at (decode context (drop at bs))

-- the place after it
unfoldable pub after : Context → List ℕ → ℕ → ℕ
after context bs at = moved at (decode context (drop at bs))

-- a command that was read lies inside the bytes
abbrev pub Forth : Result (Option (ℕ × Command)) ReadFault → ℕ → ℕ → ℕ → Type 0
Forth (Ok None) from to size = Unit {0}
Forth (Ok (Some c)) from to size = (from < to) × (to ≤ size)
Forth (Err e) from to size = Unit {0}
