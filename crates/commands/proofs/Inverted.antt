-- What a command that is read says of the bytes. Assumes nothing.
use Rattle.std.proofs.Common.{◌≡◌, ℕ, ◌+◌, ◌<◌, ◌≤◌, true, ltb, List, [], ◌∷◌, length, drop, Some, None, Ok, Option, sym, refl, ap, ◌∙◌, ⊎_elim, arith}
use Rattle.std.proofs.lemmas.Bool.{cases_Bool, cond-true, cond-false, ltb-false}
use Rattle.commands.specs.declared.table.Row.{Row}
use Rattle.commands.specs.declared.table.Numbers.{Numbers}
use Rattle.commands.specs.declared.table.Context.{Context}
use Rattle.commands.specs.declared.table.Command.{Command}
use Rattle.commands.specs.declared.table.Command.TheVariants as command
use Rattle.commands.specs.declared.table.Kind.{Kind}
use Rattle.commands.specs.declared.table.Kind.TheVariants as kind
use Rattle.commands.specs.Commands.{row_in, width_of, numbers_of, within, command_of, top, Front, none, unknown, short, range, a, front_of_row, front_of_numbers, decode, answered, moved, answer, after}
use Rattle.commands.proofs.Rows.{Ranged, ranged}

pub record Written (context : Context) (bs : List ℕ) (c : Command) (n : ℕ) : Type 0 where
  pub byte : ℕ
  pub rest : List ℕ
  pub row : Row
  pub bytes_are : bs ≡ byte ∷ rest
  pub row_is : row_in context byte ≡ Some row
  pub enough : width_of row ≤ length rest
  pub fits : within row (numbers_of row rest) ≡ true
  pub command_is : command_of row.kind (numbers_of row rest) ≡ c
  pub size_is : 1 + width_of row ≡ n

by_numbers : (context : Context) (byte : ℕ) (rest : List ℕ) (row : Row) (c : Command) (n : ℕ) → row_in context byte ≡ Some row → width_of row ≤ length rest → front_of_numbers row (numbers_of row rest) ≡ a c n → Written context (byte ∷ rest) c n
by_numbers context byte rest row c n is enough e =
    ⊎_elim
    (λ good.
    let f : a (command_of row.kind (numbers_of row rest)) (1 + width_of row) ≡ a c n = sym (cond-true _ _ _ good) ∙ e in
    record { byte = byte; rest = rest; row = row; bytes_are = refl; row_is = is; enough = enough; fits = good; command_is = cc; size_is = cc })
    (λ bad. let f : range ≡ a c n = sym (cond-false _ _ _ bad) ∙ e in cc)
    (cases_Bool (within row (numbers_of row rest)))

by_row : (context : Context) (byte : ℕ) (rest : List ℕ) (o : Option Row) (c : Command) (n : ℕ) → row_in context byte ≡ o → front_of_row o rest ≡ a c n → Written context (byte ∷ rest) c n
by_row context byte rest None c n is e = cc
by_row context byte rest (Some row) c n is e =
    ⊎_elim
    (λ cut. let f : short ≡ a c n = sym (cond-true _ _ _ cut) ∙ e in cc)
    (λ whole. by_numbers context byte rest row c n is (ltb-false _ _ whole) (sym (cond-false _ _ _ whole) ∙ e))
    (cases_Bool (ltb (length rest) (width_of row)))

pub written : (context : Context) (bs : List ℕ) (c : Command) (n : ℕ) → decode context bs ≡ a c n → Written context bs c n
written context [] c n e = cc
written context (byte ∷ rest) c n e = by_row context byte rest (row_in context byte) c n refl e

front_by : (f : Front) (p at : ℕ) (c : Command) → answered p f ≡ Ok (Some (at, c)) → (n : ℕ) × (f ≡ a c n) × (moved p f ≡ p + n)
front_by none p at c e = cc
front_by unknown p at c e = cc
front_by short p at c e = cc
front_by range p at c e = cc
front_by (a k n) p at c e = let both : (p, k) ≡ (at, c) = cc in (n, ap (λ x. a x n) (ap (λ (x : ℕ × Command). x.1) both), refl)

-- a command that is read at a place, in the bytes from there on, and the place after it
pub read_written : (context : Context) (bs : List ℕ) (p at : ℕ) (c : Command) → answer context bs p ≡ Ok (Some (at, c)) → (n : ℕ) × Written context (drop p bs) c n × (after context bs p ≡ p + n)
unfolding answer after
read_written context bs p at c e =
    let f = front_by (decode context (drop p bs)) p at c e in
    (f.0, written context (drop p bs) c f.0 f.1, f.2)

-- codes are bytes
routine_kind : (k : Kind) (n : Numbers) (c : ℕ) → command_of k n ≡ command.Routine c → n.first ≤ top k → c < 256
routine_kind kind.Routine n c e h = let same : n.first ≡ c = cc in omega arith
routine_kind kind.Work n c e h = cc
routine_kind kind.Call n c e h = cc
routine_kind kind.Either n c e h = cc
routine_kind kind.Or n c e h = cc
routine_kind kind.EndEither n c e h = cc
routine_kind kind.Repeat n c e h = cc
routine_kind kind.EndRepeat n c e h = cc
routine_kind kind.EndRoutine n c e h = cc
routine_kind kind.Task n c e h = cc
routine_kind kind.Block n c e h = cc
routine_kind kind.Point n c e h = cc
routine_kind kind.EndTask n c e h = cc
routine_kind kind.Sheet n c e h = cc

pub small_routine : (context : Context) (bs : List ℕ) (p at c : ℕ) → answer context bs p ≡ Ok (Some (at, command.Routine c)) → c < 256
small_routine context bs p at c e =
    let w = read_written context bs p at (command.Routine c) e in
    let x : Written context (drop p bs) (command.Routine c) w.0 = w.1 in
    routine_kind x.row.kind (numbers_of x.row x.rest) c x.command_is (ranged context x.byte x.row x.row_is (numbers_of x.row x.rest) x.fits).first

block_kind : (k : Kind) (n : Numbers) (c : ℕ) → command_of k n ≡ command.Block c → n.first ≤ top k → c < 256
block_kind kind.Routine n c e h = cc
block_kind kind.Work n c e h = cc
block_kind kind.Call n c e h = cc
block_kind kind.Either n c e h = cc
block_kind kind.Or n c e h = cc
block_kind kind.EndEither n c e h = cc
block_kind kind.Repeat n c e h = cc
block_kind kind.EndRepeat n c e h = cc
block_kind kind.EndRoutine n c e h = cc
block_kind kind.Task n c e h = cc
block_kind kind.Block n c e h = let same : n.first ≡ c = cc in omega arith
block_kind kind.Point n c e h = cc
block_kind kind.EndTask n c e h = cc
block_kind kind.Sheet n c e h = cc

pub small_block : (context : Context) (bs : List ℕ) (p at c : ℕ) → answer context bs p ≡ Ok (Some (at, command.Block c)) → c < 256
small_block context bs p at c e =
    let w = read_written context bs p at (command.Block c) e in
    let x : Written context (drop p bs) (command.Block c) w.0 = w.1 in
    block_kind x.row.kind (numbers_of x.row x.rest) c x.command_is (ranged context x.byte x.row x.row_is (numbers_of x.row x.rest) x.fits).first

-- the ranges of a task's numbers, and of a point's ticks
task_kind : (k : Kind) (n : Numbers) (c p d : ℕ) → command_of k n ≡ command.Task c p d → Ranged k n → (10 ≤ p) × (p ≤ 1000000) × (1 ≤ d) × (d ≤ p)
task_kind kind.Routine n c p d e r = cc
task_kind kind.Work n c p d e r = cc
task_kind kind.Call n c p d e r = cc
task_kind kind.Either n c p d e r = cc
task_kind kind.Or n c p d e r = cc
task_kind kind.EndEither n c p d e r = cc
task_kind kind.Repeat n c p d e r = cc
task_kind kind.EndRepeat n c p d e r = cc
task_kind kind.EndRoutine n c p d e r = cc
task_kind kind.Task n c p d e r = let x : n.second ≡ p = cc in let y : n.third ≡ d = cc in (omega (arith, r.second_at_least), omega (arith, r.second), omega (arith, r.third_at_least), omega (arith, r.rising))
task_kind kind.Block n c p d e r = cc
task_kind kind.Point n c p d e r = cc
task_kind kind.EndTask n c p d e r = cc
task_kind kind.Sheet n c p d e r = cc

pub task_ranges : (context : Context) (bs : List ℕ) (q at c p d : ℕ) → answer context bs q ≡ Ok (Some (at, command.Task c p d)) → (10 ≤ p) × (p ≤ 1000000) × (1 ≤ d) × (d ≤ p)
task_ranges context bs q at c p d e =
    let w = read_written context bs q at (command.Task c p d) e in
    let x : Written context (drop q bs) (command.Task c p d) w.0 = w.1 in
    task_kind x.row.kind (numbers_of x.row x.rest) c p d x.command_is (ranged context x.byte x.row x.row_is (numbers_of x.row x.rest) x.fits)

point_kind : (k : Kind) (n : Numbers) (t q : ℕ) → command_of k n ≡ command.Point t q → Ranged k n → t ≤ 1000000
point_kind kind.Routine n t q e r = cc
point_kind kind.Work n t q e r = cc
point_kind kind.Call n t q e r = cc
point_kind kind.Either n t q e r = cc
point_kind kind.Or n t q e r = cc
point_kind kind.EndEither n t q e r = cc
point_kind kind.Repeat n t q e r = cc
point_kind kind.EndRepeat n t q e r = cc
point_kind kind.EndRoutine n t q e r = cc
point_kind kind.Task n t q e r = cc
point_kind kind.Block n t q e r = cc
point_kind kind.Point n t q e r = let x : n.first ≡ t = cc in omega (arith, r.first)
point_kind kind.EndTask n t q e r = cc
point_kind kind.Sheet n t q e r = cc

pub point_ranges : (context : Context) (bs : List ℕ) (p at t q : ℕ) → answer context bs p ≡ Ok (Some (at, command.Point t q)) → t ≤ 1000000
point_ranges context bs p at t q e =
    let w = read_written context bs p at (command.Point t q) e in
    let x : Written context (drop p bs) (command.Point t q) w.0 = w.1 in
    point_kind x.row.kind (numbers_of x.row x.rest) t q x.command_is (ranged context x.byte x.row x.row_is (numbers_of x.row x.rest) x.fits)
