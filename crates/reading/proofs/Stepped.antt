-- The tree of a task's blocks, step by step in the bytes. Assumes nothing.
use Rattle.std.proofs.Common.{◌≡◌, ℕ, suc, ◌+◌, ◌<◌, leb, ◌⊎◌, List, Some, None, Ok, Err, Option, Result, sym, refl, ap, ◌∙◌, inl, inr, ⊎_elim}
use Rattle.std.proofs.lemmas.Bool.{cases_Bool, cond-true, cond-false, leb-false}
use Rattle.faults.specs.declared.fault.ReadFault.{ReadFault}
use Rattle.commands.specs.declared.table.Command.{Command}
use Rattle.commands.specs.declared.table.Command.TheVariants as command
use Rattle.commands.specs.declared.table.Context.TheVariants.{BlockDue, AfterBlock}
use Rattle.commands.specs.Commands.{answer, after}
use Rattle.reading.specs.Heads.{head}
use Rattle.reading.specs.Trees.{Blocks, final, block}
use Rattle.reading.specs.Listings.{by_command, onward, more_blocks, after_block, a_block, blocks_from}
use Rattle.reading.specs.Steps.{block_of, point_of}
use Rattle.reading.proofs.Spelled.{went}

pub refused : {X Y : Type 0} {f : ReadFault} {x : X} → ◌≡◌ {A = Result X ReadFault} (Err f) (Ok x) → Y
refused e = cc

pub nothing : {X Y : Type 0} {x : X} → ◌≡◌ {A = Option X} None (Some x) → Y
nothing e = cc

-- the command that went on: a block; a point or the end of a task
pub block_cmd : {X : Type 0} (c : Command) (f : ℕ → Result X ReadFault) (e : ReadFault) (x : X) → by_command (λ _. Err e) (λ _ _ _. Err e) f (λ _ _. Err e) (Err e) (Err e) c ≡ Ok x → (n : ℕ) × (c ≡ command.Block n) × (f n ≡ Ok x)
block_cmd (command.Routine n) f e x h = refused h
block_cmd (command.Work n) f e x h = refused h
block_cmd (command.Call n) f e x h = refused h
block_cmd command.Either f e x h = refused h
block_cmd command.Or f e x h = refused h
block_cmd command.EndEither f e x h = refused h
block_cmd (command.Repeat n) f e x h = refused h
block_cmd command.EndRepeat f e x h = refused h
block_cmd command.EndRoutine f e x h = refused h
block_cmd (command.Task n m k) f e x h = refused h
block_cmd (command.Block n) f e x h = (n, refl, h)
block_cmd (command.Point n m) f e x h = refused h
block_cmd command.EndTask f e x h = refused h
block_cmd command.Sheet f e x h = refused h

pub follower_cmd : {X : Type 0} (c : Command) (p : ℕ → ℕ → Result X ReadFault) (d : Result X ReadFault) (e : ReadFault) (x : X) → by_command (λ _. Err e) (λ _ _ _. Err e) (λ _. Err e) p d (Err e) c ≡ Ok x → ((t q : ℕ) × (c ≡ command.Point t q) × (p t q ≡ Ok x)) ⊎ ((c ≡ command.EndTask) × (d ≡ Ok x))
follower_cmd (command.Routine n) p d e x h = refused h
follower_cmd (command.Work n) p d e x h = refused h
follower_cmd (command.Call n) p d e x h = refused h
follower_cmd command.Either p d e x h = refused h
follower_cmd command.Or p d e x h = refused h
follower_cmd command.EndEither p d e x h = refused h
follower_cmd (command.Repeat n) p d e x h = refused h
follower_cmd command.EndRepeat p d e x h = refused h
follower_cmd command.EndRoutine p d e x h = refused h
follower_cmd (command.Task n m k) p d e x h = refused h
follower_cmd (command.Block n) p d e x h = refused h
follower_cmd (command.Point n m) p d e x h = inl (n, m, refl, h)
follower_cmd command.EndTask p d e x h = inr (refl, h)
follower_cmd command.Sheet p d e x h = refused h

-- what came after a block: the end, or a point and more blocks
abbrev pub Followed : List ℕ → ℕ → ℕ → ℕ → ℕ → ℕ → Blocks × ℕ → Type 0
Followed bs n count p at c b =
    ((point_of (answer AfterBlock bs p) ≡ None) × (b.0 ≡ final at c) × (e : ℕ) × (answer AfterBlock bs p ≡ Ok (Some (e, command.EndTask))) × (b.1 ≡ after AfterBlock bs p))
    ⊎ ((t m : ℕ) × (b' : Blocks) × (point_of (answer AfterBlock bs p) ≡ Some (t, m)) × (blocks_from bs n (count + 1) (after AfterBlock bs p) ≡ Ok (b', b.1)) × (b.0 ≡ block at c t m b') × (e : ℕ) × (answer AfterBlock bs p ≡ Ok (Some (e, command.Point t m))))

pub record FirstBlock (bs : List ℕ) (n count place : ℕ) (b : Blocks × ℕ) : Type 0 where
  pub at : ℕ
  pub code : ℕ
  pub reads : block_of (answer BlockDue bs place) ≡ Some (head code at)
  pub command_is : answer BlockDue bs place ≡ Ok (Some (at, command.Block code))
  pub few : count < 64
  pub follows : Followed bs n count (after BlockDue bs place) at code b

followed : (bs : List ℕ) (n count p at c : ℕ) (b : Blocks × ℕ) (r : Result (Option (ℕ × Command)) ReadFault) → answer AfterBlock bs p ≡ r → onward bs (after_block at c (blocks_from bs n (count + 1)) (after AfterBlock bs p)) r ≡ Ok b → Followed bs n count p at c b
followed bs n count p at c b (Ok None) e h = refused h
followed bs n count p at c b (Err f) e h = refused h
followed bs n count p at c b (Ok (Some k)) e h =
    ⊎_elim
    (λ x.
    let w = went (more_blocks at c x.0 x.1) (blocks_from bs n (count + 1) (after AfterBlock bs p)) b x.3 in
    let same : (block at c x.0 x.1 w.0.0, w.0.1) ≡ b = let h = w.2 in cc in
    inr (
      x.0,
      x.1,
      w.0.0,
      ap point_of e ∙ ap (by_command _ _ _ _ _ _) x.2,
      w.1 ∙ ap (λ m. Ok (w.0.0, m)) (ap (λ (y : Blocks × ℕ). y.1) same),
      sym (ap (λ (y : Blocks × ℕ). y.0) same),
      k.0,
      e ∙ ap (λ y. Ok (Some (k.0, y))) x.2,
    ))
    (λ x.
    let same : (final at c, after AfterBlock bs p) ≡ b = let h = x.1 in cc in
    inl (ap point_of e ∙ ap (by_command _ _ _ _ _ _) x.0, sym (ap (λ (y : Blocks × ℕ). y.0) same), k.0, e ∙ ap (λ y. Ok (Some (k.0, y))) x.0, sym (ap (λ (y : Blocks × ℕ). y.1) same)))
    (follower_cmd k.1 _ _ _ b h)

first_by : (bs : List ℕ) (n count place : ℕ) (b : Blocks × ℕ) (r : Result (Option (ℕ × Command)) ReadFault) → answer BlockDue bs place ≡ r → onward bs (a_block bs count (blocks_from bs n (count + 1)) (after BlockDue bs place)) r ≡ Ok b → FirstBlock bs n count place b
first_by bs n count place b (Ok None) e h = refused h
first_by bs n count place b (Err f) e h = refused h
first_by bs n count place b (Ok (Some k)) e h =
    let x = block_cmd k.1 _ _ b h in
    ⊎_elim
    (λ many. refused (sym (cond-true _ _ _ many) ∙ x.2))
    (λ few.
    record {
      at = k.0;
      code = x.0;
      reads = ap block_of e ∙ ap (by_command _ _ _ _ _ _) x.1;
      command_is = e ∙ ap (λ y. Ok (Some (k.0, y))) x.1;
      few = leb-false 64 count few;
      follows = followed bs n count (after BlockDue bs place) k.0 x.0 b _ refl (sym (cond-false _ _ _ few) ∙ x.2);
    })
    (cases_Bool (leb 64 count))

pub first_block : (bs : List ℕ) (n count place : ℕ) (b : Blocks × ℕ) → blocks_from bs (suc n) count place ≡ Ok b → FirstBlock bs n count place b
unfolding blocks_from
first_block bs n count place b h = first_by bs n count place b _ refl h
