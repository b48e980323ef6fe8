-- What the reader's tests say of the bytes at its place. Assumes nothing.
use Rattle.std.proofs.Common.{◌≡◌, ℕ, ◌+◌, ◌-◌, ◌<◌, ◌≤◌, true, false, List, length, get_or, take, drop, Some, None, Ok, Option, sym, refl, ap, ◌∙◌, arith, le-ltb, lt-ltb}
use Rattle.std.proofs.lemmas.List.{take_rest, at_drop_more, at_drop_all}
use Rattle.std.proofs.lemmas.Bool.{cond-true, cond-false}
use Rattle.commands.specs.declared.table.Row.{Row}
use Rattle.commands.specs.declared.table.Numbers.{Numbers}
use Rattle.commands.specs.declared.table.Context.{Context}
use Rattle.commands.specs.declared.table.Command.{Command}
use Rattle.commands.proofs.Rows.{narrow, ranged}
use Rattle.commands.specs.Commands.{row_in, width_of, numbers_of, within, command_of, Front, none, unknown, short, range, a, front_of_row, front_of_numbers, decode, answered, moved, answer, after}

-- the bytes after the one at a place, as the code cuts them
abbrev pub rest : List ℕ → ℕ → List ℕ
rest bs at = take (length bs - (at + 1)) (drop (at + 1) bs)

pub at_end : (context : Context) (bs : List ℕ) (at : ℕ) → length bs ≤ at → decode context (drop at bs) ≡ none
at_end context bs at h = at_drop_all (decode context) bs at h

module _ (context : Context) (bs : List ℕ) (at : ℕ) (inside : at < length bs) where
  front : {o : _} → row_in context (get_or bs at 0) ≡ o → decode context (drop at bs) ≡ front_of_row o (rest bs at)
  front {o} e = at_drop_more (decode context) bs at 0 inside ∙ ap (λ p. front_of_row p (drop (at + 1) bs)) e ∙ ap (front_of_row o) (sym (take_rest bs (at + 1)))

  pub at_unknown : row_in context (get_or bs at 0) ≡ None → decode context (drop at bs) ≡ unknown
  at_unknown e = front e

  module _ (row : Row) (is : row_in context (get_or bs at 0) ≡ Some row) (w : ℕ) (wide : w ≡ width_of row) where
    pub at_short : length (rest bs at) < w → decode context (drop at bs) ≡ short
    at_short h = let k : length (rest bs at) < width_of row = omega arith in front is ∙ cond-true _ _ _ (lt-ltb _ _ k)

    module _ (enough : w ≤ length (rest bs at)) (n : Numbers) (reads : n ≡ numbers_of row (rest bs at)) where
      read : {g : Front} → front_of_numbers row n ≡ g → decode context (drop at bs) ≡ g
      read e = let k : width_of row ≤ length (rest bs at) = omega arith in front is ∙ cond-false _ _ _ (le-ltb _ _ k) ∙ ap (front_of_numbers row) (sym reads) ∙ e

      pub at_range : within row n ≡ false → decode context (drop at bs) ≡ range
      at_range h = read (cond-false _ _ _ h)

      pub at_command : within row n ≡ true → decode context (drop at bs) ≡ a (command_of row.kind n) (1 + w)
      at_command h = read (cond-true _ _ _ h) ∙ ap (λ k. a (command_of row.kind n) (1 + k)) (sym wide)

-- what the tests of the reader say, from its place on
pub ruleset decoding = (at_end, at_unknown, at_short, at_range, at_command, narrow, ranged)

-- the reader stays at the end of the bytes, and a command's offset is the place where it is read
stays_by : (f : Front) (at : ℕ) → answered at f ≡ Ok None → moved at f ≡ at
stays_by none at e = refl
stays_by unknown at e = cc
stays_by short at e = cc
stays_by range at e = cc
stays_by (a c n) at e = cc

pub stays : (context : Context) (bs : List ℕ) (at : ℕ) → answer context bs at ≡ Ok None → after context bs at ≡ at
unfolding answer after
stays context bs at e = stays_by (decode context (drop at bs)) at e

here_by : (f : Front) (at p : ℕ) (c : Command) → answered at f ≡ Ok (Some (p, c)) → p ≡ at
here_by none at p c e = cc
here_by unknown at p c e = cc
here_by short at p c e = cc
here_by range at p c e = cc
here_by (a k n) at p c e = let both : (at, k) ≡ (p, c) = cc in sym (ap (λ (x : ℕ × Command). x.0) both)

pub here : (context : Context) (bs : List ℕ) (at p : ℕ) (c : Command) → answer context bs at ≡ Ok (Some (p, c)) → p ≡ at
unfolding answer
here context bs at p c e = here_by (decode context (drop at bs)) at p c e

-- what was read, over the bytes as they were lent
pub read_there : (context : Context) (b bs : List ℕ) (p at : ℕ) (o : Option (ℕ × Command)) (c : Command) → Ok o ≡ answer context b p → b ≡ bs → o ≡ Some (at, c) → answer context bs p ≡ Ok (Some (at, c))
read_there context b bs p at o c t e is = sym (t ∙ ap (λ x. answer context x p) e) ∙ ap Ok is

pub read_as : (context : Context) (bs : List ℕ) (p at : ℕ) (c k : Command) → answer context bs p ≡ Ok (Some (at, c)) → c ≡ k → answer context bs p ≡ Ok (Some (at, k))
read_as context bs p at c k e is = e ∙ ap (λ x. Ok (Some (at, x))) is
