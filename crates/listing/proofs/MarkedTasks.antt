-- Steps through the tasks: the first marked block. Assumes nothing.
use Rattle.std.proofs.Common.{◌≡◌, ℕ, ◌+◌, ◌<◌, Bool, List, map, length, get_or, drop, Some, None, Ok, Option, sym, ap, ◌∙◌, arith}
use Rattle.std.proofs.lemmas.List.{at_drop_more, get_or-map, length-map}
use Rattle.std.proofs.ByRecursion.{All-get_or}
use Rattle.std.specs.List.{AllByRecursion}
use Rattle.reading.specs.declared.heads.Head.{Head}
use Rattle.reading.specs.Heads.{head}
use Rattle.reading.specs.Trees.{Blocks, final, Task, block_heads}
use Rattle.reading.specs.Listings.{task_head}
use Rattle.listing.specs.Marks.{first_marked, marked_in, or_next}
use Rattle.reading.specs.Steps.{blocks_at}
use Rattle.reading.specs.Bodies.{TaskRead}

pub no_task : Task
no_task = record { code = 0; at = 0; period = 0; deadline = 0; blocks = final 0 0 }

module _ (bs : List ℕ) (ts : List Task) (hs : List Head) (heads_are : hs ≡ map task_head ts) (all : AllByRecursion (TaskRead bs) ts) (i : ℕ) where
  module _ (inside : i < length hs) where
    low : i < length ts
    low = omega (arith, ap length heads_are ∙ length-map ts task_head)

    pub task_at : Task
    task_at = get_or ts i no_task

    pub task_reads : TaskRead bs task_at
    unfolding task_at
    task_reads = All-get_or (TaskRead bs) ts i no_task low all

    module _ (h : Head) (is : h ≡ get_or hs i (head 0 0)) where
      pub task_head_lem : h ≡ task_head task_at
      unfolding task_at
      task_head_lem = is ∙ ap (λ l. get_or l i (head 0 0)) heads_are ∙ get_or-map task_head ts i no_task (head 0 0) low

      module _ (marks : List Bool) (o : Option Head) (told : (b : Blocks) (q : ℕ) → blocks_at bs h.at ≡ Ok (b, q) → o ≡ first_marked marks (block_heads b)) where
        found : o ≡ first_marked marks (block_heads task_at.blocks)
        found = told task_at.blocks task_reads.end (ap (λ (x : Head). blocks_at bs x.at) task_head_lem ∙ task_reads.blocks_are)

        step : marked_in marks (drop i ts) ≡ or_next h o (marked_in marks (drop (i + 1) ts))
        unfolding task_at
        step = at_drop_more (marked_in marks) ts i no_task low ∙ (λ j. or_next (sym task_head_lem j) (sym found j) (marked_in marks (drop (i + 1) ts)))

        pub block_found : (x : Head) → o ≡ Some x → marked_in marks (drop i ts) ≡ Some (h, x)
        block_found x e = step ∙ ap (λ y. or_next h y (marked_in marks (drop (i + 1) ts))) e

        pub block_none : o ≡ None → marked_in marks (drop (i + 1) ts) ≡ marked_in marks (drop i ts)
        block_none e = sym (step ∙ ap (λ y. or_next h y (marked_in marks (drop (i + 1) ts))) e)
