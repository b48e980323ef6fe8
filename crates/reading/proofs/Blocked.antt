-- What one turn of reading blocks keeps. Assumes nothing.
use Rattle.std.proofs.Common.{◌≡◌, ℕ, suc, ◌+◌, ◌-◌, ◌<◌, ◌≤◌, List, length, Some, None, Ok, Err, Result, sym, refl, ap, ◌∙◌, arith, le-leb}
use borrow.Author.Tests.{lt-leb}
use Rattle.std.proofs.lemmas.Bool.{cond-true, cond-false}
use Rattle.faults.specs.declared.fault.ReadFault.{ReadFault}
use Rattle.faults.specs.declared.fault.ReadFault.TheVariants.{NotAllowed, Open, TooMany}
use Rattle.commands.specs.declared.table.Command.{Command}
use Rattle.commands.specs.declared.table.Command.TheVariants as command
use Rattle.commands.specs.declared.table.Context.TheVariants.{BlockDue, AfterBlock}
use Rattle.commands.specs.Commands.{answer, after}
use Rattle.reading.specs.Trees.{Blocks}
use Rattle.reading.specs.Runs.{then}
use Rattle.reading.specs.Listings.{by_command, onward, more_blocks, after_block, a_block, blocks_from, blocks_end}

-- a command that is no block, and one that is neither a point nor the end of a task
no_block : {X : Type 0} (c : Command) (b : ℕ → X) (x : X) → ((n : ℕ) → c ≡ command.Block n → ⊥) → by_command (λ _. x) (λ _ _ _. x) b (λ _ _. x) x x c ≡ x
no_block (command.Routine n) b x h = refl
no_block (command.Work n) b x h = refl
no_block (command.Call n) b x h = refl
no_block command.Either b x h = refl
no_block command.Or b x h = refl
no_block command.EndEither b x h = refl
no_block (command.Repeat n) b x h = refl
no_block command.EndRepeat b x h = refl
no_block command.EndRoutine b x h = refl
no_block (command.Task n m k) b x h = refl
no_block (command.Block n) b x h = absurd (h n refl)
no_block (command.Point n m) b x h = refl
no_block command.EndTask b x h = refl
no_block command.Sheet b x h = refl

no_follower : {X : Type 0} (c : Command) (p : ℕ → ℕ → X) (e x : X) → ((n m : ℕ) → c ≡ command.Point n m → ⊥) → (c ≡ command.EndTask → ⊥) → by_command (λ _. x) (λ _ _ _. x) (λ _. x) p e x c ≡ x
no_follower (command.Routine n) p e x h i = refl
no_follower (command.Work n) p e x h i = refl
no_follower (command.Call n) p e x h i = refl
no_follower command.Either p e x h i = refl
no_follower command.Or p e x h i = refl
no_follower command.EndEither p e x h i = refl
no_follower (command.Repeat n) p e x h i = refl
no_follower command.EndRepeat p e x h i = refl
no_follower command.EndRoutine p e x h i = refl
no_follower (command.Task n m k) p e x h i = refl
no_follower (command.Block n) p e x h i = refl
no_follower (command.Point n m) p e x h i = absurd (h n m refl)
no_follower command.EndTask p e x h i = absurd (i refl)
no_follower command.Sheet p e x h i = refl

end_more : (at c t q : ℕ) (s : Result (Blocks × ℕ) ReadFault) → blocks_end (then (more_blocks at c t q) s) ≡ blocks_end s
end_more at c t q (Ok b) = refl
end_more at c t q (Err f) = refl

-- so many blocks are behind a place, and the rest gives the whole
pub record Blocking (bs : List ℕ) (count place : ℕ) (whole : Result ℕ ReadFault) : Type 0 where
  pub left : ℕ
  pub enough : length bs ≤ place + left
  pub gives : whole ≡ blocks_end (blocks_from bs (suc left) count place)

pub first_block : (bs : List ℕ) (place : ℕ) → Blocking bs 0 place (blocks_end (blocks_from bs (suc (length bs)) 0 place))
first_block bs place = record { left = length bs; enough = omega arith; gives = refl }

module _ (bs : List ℕ) (count place : ℕ) (whole : Result ℕ ReadFault) (g : Blocking bs count place whole) where
  block_now : {r : _} → answer BlockDue bs place ≡ r → whole ≡ blocks_end (onward bs (a_block bs count (blocks_from bs g.left (count + 1)) (after BlockDue bs place)) r)
  unfolding blocks_from
  block_now e = g.gives ∙ ap (λ r. blocks_end (onward bs (a_block bs count (blocks_from bs g.left (count + 1)) (after BlockDue bs place)) r)) e

  pub block_open : answer BlockDue bs place ≡ Ok None → whole ≡ Err (Open (length bs))
  block_open e = block_now e

  pub block_fault : {f : ReadFault} → answer BlockDue bs place ≡ Err f → whole ≡ Err f
  block_fault e = block_now e

  pub not_a_block : (at : ℕ) (c : Command) → answer BlockDue bs place ≡ Ok (Some (at, c)) → ((n : ℕ) → c ≡ command.Block n → ⊥) → whole ≡ Err (NotAllowed at)
  not_a_block at c e h = block_now e ∙ ap blocks_end (no_block c _ _ h)

  module _ (at n : ℕ) (e : answer BlockDue bs place ≡ Ok (Some (at, command.Block n))) where
    pub block_many : 64 ≤ count → whole ≡ Err (TooMany at)
    block_many h = block_now e ∙ ap blocks_end (cond-true _ _ _ (le-leb _ _ h))

    module _ (h : count < 64) (next : ℕ) (is : next ≡ after BlockDue bs place) where
      follower : {r : _} → answer AfterBlock bs next ≡ r → whole ≡ blocks_end (onward bs (after_block at n (blocks_from bs g.left (count + 1)) (after AfterBlock bs next)) r)
      follower {r} i =
          block_now e ∙ ap blocks_end (cond-false _ _ _ (lt-leb _ _ h))
          ∙ ap (λ p. blocks_end (onward bs (after_block at n (blocks_from bs g.left (count + 1)) (after AfterBlock bs p)) (answer AfterBlock bs p))) (sym is)
          ∙ ap (λ x. blocks_end (onward bs (after_block at n (blocks_from bs g.left (count + 1)) (after AfterBlock bs next)) x)) i

      pub follower_open : answer AfterBlock bs next ≡ Ok None → whole ≡ Err (Open (length bs))
      follower_open i = follower i

      pub follower_fault : {f : ReadFault} → answer AfterBlock bs next ≡ Err f → whole ≡ Err f
      follower_fault i = follower i

      module _ (p : ℕ) (c : Command) (i : answer AfterBlock bs next ≡ Ok (Some (p, c))) where
        pub not_a_follower : ((t q : ℕ) → c ≡ command.Point t q → ⊥) → (c ≡ command.EndTask → ⊥) → whole ≡ Err (NotAllowed p)
        not_a_follower j k = follower i ∙ ap blocks_end (no_follower c _ _ _ j k)

        pub task_end : c ≡ command.EndTask → whole ≡ Ok (after AfterBlock bs next)
        task_end k = follower i ∙ ap (λ x. blocks_end (after_block at n (blocks_from bs g.left (count + 1)) (after AfterBlock bs next) p x)) k

        pub point_then : (t m : ℕ) → c ≡ command.Point t m → (q : ℕ) → q ≡ after AfterBlock bs next → place < q → place < length bs → Blocking bs (count + 1) q whole
        point_then t m k q on forth inside =
            let some : g.left ≡ suc (g.left - 1) = omega (arith, g.enough) in
            record {
              left = g.left - 1;
              enough = omega (arith, g.enough);
              gives = follower i ∙ ap (λ x. blocks_end (after_block at n (blocks_from bs g.left (count + 1)) (after AfterBlock bs next) p x)) k ∙ end_more at n t m _
                  ∙ (λ j. blocks_end (blocks_from bs (some j) (count + 1) (sym on j)));
            }
