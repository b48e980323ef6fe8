-- What loading one task, and then all, tells. Assumes nothing.
use Rattle.std.proofs.Common.{◌≡◌, ℕ, suc, ◌+◌, ◌<◌, true, ◌&&◌, List, [], ◌∷◌, ◌++◌, map, length, get_or, take, Some, Ok, sym, ap, ◌∙◌, subst, arith, le-leb}
use Rattle.std.proofs.lemmas.List.{take_more, get_or-map, length-map}
use Rattle.std.proofs.ByRecursion.{All-get_or}
use Rattle.std.specs.List.{AllByRecursion}
use Rattle.tasks.specs.Ranges.{clock_fits}
use Rattle.tasks.specs.declared.model.Task.{Task as HeldTask}
use Rattle.commands.specs.declared.table.Context.TheVariants.{Tasks}
use Rattle.reading.specs.declared.heads.Head.{Head}
use Rattle.tasks.specs.declared.clock.Clock.{Clock}
use Rattle.reading.specs.Bodies.{TaskRead}
use Rattle.commands.specs.Commands.{answer, after}
use Rattle.reading.specs.Heads.{head}
use Rattle.reading.specs.Listings.{blocks_from, task_head}
use Rattle.listing.specs.Loading.{Is, Are, Priced}
use Rattle.listing.specs.Marks.{task_of}
use Rattle.reading.specs.Trees.{Task}
use Rattle.commands.proofs.Inverted.{task_ranges}
use Rattle.listing.proofs.MarkedTasks.{no_task}

module _ (bs : List ℕ) (t : Task) (at : ℕ) (is : t.at ≡ at) (r : TaskRead bs t) where
  pub blocks_here : (p : ℕ) → p ≡ after Tasks bs at → blocks_from bs (suc (length bs)) 0 p ≡ Ok (t.blocks, r.end)
  blocks_here p on = ap (blocks_from bs (suc (length bs)) 0) (on ∙ ap (after Tasks bs) (sym is)) ∙ r.blocks_are

  pub clock_is : (k : Clock) → Some k ≡ task_of (answer Tasks bs at) → k ≡ record { code = t.code; period = t.period; deadline = t.deadline }
  clock_is k e =
      let f : Some k ≡ Some (record { code = t.code; period = t.period; deadline = t.deadline }) = e ∙ ap (λ x. task_of (answer Tasks bs x)) (sym is) ∙ ap task_of r.command_is in
      cc

  pub clock_fits_lem : (k : Clock) → Some k ≡ task_of (answer Tasks bs at) → clock_fits k.period k.deadline ≡ true
  clock_fits_lem k e =
      let g = task_ranges Tasks bs t.at t.at t.code t.period t.deadline r.command_is in
      let c = clock_is k e in
      let a = le-leb 10 t.period g.0 in
      let b = le-leb t.period 1000000 g.1 in
      let d = le-leb 1 t.deadline g.2 in
      let f = le-leb t.deadline t.period g.3 in
      ap (λ (x : Clock). clock_fits x.period x.deadline) c ∙ (λ i. a i && b i && d i && f i)

-- one more task is loaded
Are-push : (of : ℕ → ℕ) (xs : List HeldTask) (ts : List Task) (x : HeldTask) (t : Task) → Are of xs ts → Is of x t → Are of (xs ++ x ∷ []) (ts ++ t ∷ [])
Are-push of [] [] x t a i = (i, tt)
Are-push of [] (u ∷ us) x t a i = absurd a
Are-push of (y ∷ ys) [] x t a i = absurd a
Are-push of (y ∷ ys) (u ∷ us) x t a i = (a.0, Are-push of ys us x t a.1 i)

module _ (bs : List ℕ) (of : ℕ → ℕ) (ts : List Task) (hs : List Head) (heads_are : hs ≡ map task_head ts) (all : AllByRecursion (TaskRead bs) ts) (priced : AllByRecursion (λ (t : Task). Priced of t.blocks) ts) (i : ℕ) where
  module _ (inside : i < length hs) where
    low : i < length ts
    low = omega (arith, ap length heads_are ∙ length-map ts task_head)

    pub the_task : Task
    the_task = get_or ts i no_task

    pub the_read : TaskRead bs the_task
    unfolding the_task
    the_read = All-get_or (TaskRead bs) ts i no_task low all

    pub the_priced : Priced of the_task.blocks
    unfolding the_task
    the_priced = All-get_or (λ (t : Task). Priced of t.blocks) ts i no_task low priced

    pub the_place : (h : Head) → h ≡ get_or hs i (head 0 0) → the_task.at ≡ h.at
    unfolding the_task
    the_place h is = sym (ap (λ (x : Head). x.at) (is ∙ ap (λ l. get_or l i (head 0 0)) heads_are ∙ get_or-map task_head ts i no_task (head 0 0) low))

    pub load_more : (xs : List HeldTask) (x : HeldTask) → Are of xs (take i ts) → Is of x the_task → Are of (xs ++ x ∷ []) (take (i + 1) ts)
    unfolding the_task
    load_more xs x a e = subst (Are of (xs ++ x ∷ [])) (sym (take_more ts i no_task low)) (Are-push of xs (take i ts) x (get_or ts i no_task) a e)
