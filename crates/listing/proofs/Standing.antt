-- The commands of calls and blocks stand at their offsets. Assumes nothing.
use Rattle.std.proofs.Common.{◌≡◌, ℕ, zero, suc, ◌+◌, Bool, true, false, cond, List, [], ◌∷◌, Some, None, Ok, Err, Option, Result, sym, ap, ◌∙◌, subst, ⊎_elim}
use Rattle.std.specs.List.{AllByRecursion}
use Rattle.faults.specs.declared.fault.ReadFault.{ReadFault}
use Rattle.commands.specs.declared.table.Command.{Command}
use Rattle.commands.specs.declared.table.Command.TheVariants as command
use Rattle.commands.specs.declared.table.Context.{Context}
use Rattle.commands.specs.declared.table.Context.TheVariants.{Body, BlockDue}
use Rattle.commands.specs.Commands.{answer, after}
use Rattle.commands.proofs.Decoded.{here}
use Rattle.reading.specs.declared.heads.Head.{Head}
use Rattle.reading.specs.Heads.{head, used}
use Rattle.reading.specs.Trees.{Blocks, block_heads}
use Rattle.reading.specs.Listings.{blocks_from}
use Rattle.reading.proofs.Stepped.{refused, nothing, FirstBlock, first_block}
use Rattle.listing.specs.Calls.{by_call, calls_turn, calls_from, first_unknown, or_else}
use Rattle.listing.specs.Costing.{unknown_in}

-- what is read at a place has that place as its offset
at_offset : (context : Context) (bs : List ℕ) (p at : ℕ) (k : Command) → answer context bs p ≡ Ok (Some (at, k)) → answer context bs at ≡ Ok (Some (at, k))
at_offset context bs p at k e = ap (answer context bs) (here context bs p at k e) ∙ e

-- the command of a head, in a context
abbrev pub Headed : Context → (ℕ → Command) → List ℕ → Head → Type 0
Headed context made bs h = answer context bs h.at ≡ Ok (Some (h.at, made h.code))

turn_by : (bs : List ℕ) (rest : List Head) (at : ℕ) (k : Command) → answer Body bs at ≡ Ok (Some (at, k)) → AllByRecursion (Headed Body command.Call bs) rest → AllByRecursion (Headed Body command.Call bs) (by_call (λ n. head n at ∷ rest) [] rest k)
turn_by bs rest at (command.Routine n) e all = all
turn_by bs rest at (command.Work n) e all = all
turn_by bs rest at (command.Call n) e all = (e, all)
turn_by bs rest at command.Either e all = all
turn_by bs rest at command.Or e all = all
turn_by bs rest at command.EndEither e all = all
turn_by bs rest at (command.Repeat n) e all = all
turn_by bs rest at command.EndRepeat e all = all
turn_by bs rest at command.EndRoutine e all = tt
turn_by bs rest at (command.Task n m k) e all = all
turn_by bs rest at (command.Block n) e all = all
turn_by bs rest at (command.Point n m) e all = all
turn_by bs rest at command.EndTask e all = all
turn_by bs rest at command.Sheet e all = all

turn_stands : (bs : List ℕ) (p : ℕ) (rest : List Head) (r : Result (Option (ℕ × Command)) ReadFault) → answer Body bs p ≡ r → AllByRecursion (Headed Body command.Call bs) rest → AllByRecursion (Headed Body command.Call bs) (calls_turn rest r)
turn_stands bs p rest (Ok None) e all = tt
turn_stands bs p rest (Ok (Some c)) e all = turn_by bs rest c.0 c.1 (at_offset Body bs p c.0 c.1 e) all
turn_stands bs p rest (Err f) e all = tt

pub calls_stand : (n : ℕ) (bs : List ℕ) (p : ℕ) → AllByRecursion (Headed Body command.Call bs) (calls_from bs n p)
unfolding calls_from
calls_stand zero bs p = tt
calls_stand (suc n) bs p = turn_stands bs p (calls_from bs n (after Body bs p)) (answer Body bs p) (λ i. answer Body bs p) (calls_stand n bs (after Body bs p))

pub blocks_stand : (n : ℕ) (bs : List ℕ) (count p : ℕ) (b : Blocks × ℕ) → blocks_from bs n count p ≡ Ok b → AllByRecursion (Headed BlockDue command.Block bs) (block_heads b.0)
unfolding blocks_from
blocks_stand zero bs count p b e = refused e
blocks_stand (suc n) bs count p b e =
    let f : FirstBlock bs n count p b = first_block bs n count p b e in
    let one = at_offset BlockDue bs p f.at (command.Block f.code) f.command_is in
    ⊎_elim
    (λ x. subst (λ y. AllByRecursion (Headed BlockDue command.Block bs) (block_heads y)) (sym x.1) (one, tt))
    (λ x. subst (λ y. AllByRecursion (Headed BlockDue command.Block bs) (block_heads y)) (sym x.5) (one, blocks_stand n bs (count + 1) _ (x.2, b.1) x.4))
    f.follows

-- what holds of all heads holds of the first that is picked
either_has : (P : Head → Type 0) (a b : Option Head) (h : Head) → (a ≡ Some h → P h) → (b ≡ Some h → P h) → or_else a b ≡ Some h → P h
either_has P None b h f g e = g e
either_has P (Some x) b h f g e = f e

pub cond_has : (P : Head → Type 0) (t : Bool) (a b : Option Head) (h : Head) → (a ≡ Some h → P h) → (b ≡ Some h → P h) → cond t a b ≡ Some h → P h
cond_has P true a b h f g e = f e
cond_has P false a b h f g e = g e

pub self_has : (P : Head → Type 0) (x h : Head) → P x → Some x ≡ Some h → P h
self_has P x h p e = let same : x ≡ h = cc in subst P same p

module _ (P : Head → Type 0) (known : List Head) where
  first_has : (hs : List Head) (h : Head) → AllByRecursion P hs → first_unknown known hs ≡ Some h → P h
  first_has [] h all e = nothing e
  first_has (x ∷ xs) h all e = cond_has P (used x.code known) (first_unknown known xs) (Some x) h (first_has xs h all.1) (self_has P x h all.0) e

  pub unknown_has : (lists : List (List Head)) (h : Head) → AllByRecursion (AllByRecursion P) lists → unknown_in known lists ≡ Some h → P h
  unknown_has [] h all e = nothing e
  unknown_has (hs ∷ lists) h all e = either_has P (first_unknown known hs) (unknown_in known lists) h (first_has hs h all.0) (unknown_has lists h all.1) e
