-- What a listing that is read says of each routine and each task. Assumes nothing.
use Rattle.std.proofs.Common.{◌≡◌, ℕ, zero, suc, ◌<◌, false, cond, leb, ◌⊎◌, List, length, Some, None, Ok, Err, Option, Result, sym, refl, ap, ◌∙◌, subst, inl, inr, ⊎_elim}
use Rattle.std.proofs.lemmas.Bool.{cases_Bool, cond-true, cond-false, leb-false}
use Rattle.std.specs.List.{AllByRecursion}
use Rattle.faults.specs.declared.fault.ReadFault.{ReadFault}
use Rattle.faults.specs.declared.fault.ReadFault.TheVariants.{CodeUsed, TooMany}
use Rattle.commands.specs.declared.table.Command.{Command}
use Rattle.commands.specs.declared.table.Command.TheVariants as command
use Rattle.commands.specs.declared.table.Context.TheVariants.{Top, Tasks}
use Rattle.reading.specs.declared.heads.Head.{Head}
use Rattle.commands.specs.Commands.{answer, after}
use Rattle.reading.specs.Heads.{used}
use Rattle.reading.specs.Trees.{Routine, Blocks, Task}
use Rattle.reading.specs.Runs.{Ended, by_last, run_at}
use Rattle.reading.specs.Listings.{by_command, admit, more_routines, routine_turn, routines_from, more_tasks, task_turn, tasks_from, blocks_from}
use Rattle.reading.specs.Bodies.{BodyRead, TaskRead}
use Rattle.commands.proofs.Decoded.{here}
use Rattle.reading.proofs.Spelled.{went}
use Rattle.reading.proofs.Stepped.{refused}

-- what went on past the tests of a code
pub admitted : {X : Type 0} (c at : ℕ) (seen : List Head) (rest : Result X ReadFault) (x : X) → admit c at seen rest ≡ Ok x → (used c seen ≡ false) × (length seen < 32) × (rest ≡ Ok x)
admitted c at seen rest x e =
    ⊎_elim
    (λ bad. refused (sym (cond-true _ _ _ bad) ∙ e))
    (λ new.
    let f = sym (cond-false (used c seen) (Err (CodeUsed at)) (cond (leb 32 (length seen)) (Err (TooMany at)) rest) new) ∙ e in
    ⊎_elim (λ bad. refused (sym (cond-true _ _ _ bad) ∙ f)) (λ few. (new, leb-false 32 (length seen) few, sym (cond-false (leb 32 (length seen)) (Err (TooMany at)) rest few) ∙ f)) (cases_Bool (leb 32 (length seen))))
    (cases_Bool (used c seen))

pub inside : {X : Type 0} {x y : X} → ◌≡◌ {A = Result X ReadFault} (Ok x) (Ok y) → x ≡ y
inside e = cc

-- the command that went on: a routine or none; a task; the end of a routine
pub routine_cmd : {X : Type 0} (c : Command) (f : ℕ → Result X ReadFault) (d : Result X ReadFault) (x : X) → by_command f (λ _ _ _. d) (λ _. d) (λ _ _. d) d d c ≡ Ok x → (d ≡ Ok x) ⊎ ((n : ℕ) × (c ≡ command.Routine n) × (f n ≡ Ok x))
routine_cmd (command.Routine n) f d x h = inr (n, refl, h)
routine_cmd (command.Work n) f d x h = inl h
routine_cmd (command.Call n) f d x h = inl h
routine_cmd command.Either f d x h = inl h
routine_cmd command.Or f d x h = inl h
routine_cmd command.EndEither f d x h = inl h
routine_cmd (command.Repeat n) f d x h = inl h
routine_cmd command.EndRepeat f d x h = inl h
routine_cmd command.EndRoutine f d x h = inl h
routine_cmd (command.Task n m k) f d x h = inl h
routine_cmd (command.Block n) f d x h = inl h
routine_cmd (command.Point n m) f d x h = inl h
routine_cmd command.EndTask f d x h = inl h
routine_cmd command.Sheet f d x h = inl h

pub task_cmd : {X : Type 0} (c : Command) (f : ℕ → ℕ → ℕ → Result X ReadFault) (e : ReadFault) (x : X) → by_command (λ _. Err e) f (λ _. Err e) (λ _ _. Err e) (Err e) (Err e) c ≡ Ok x → (n m k : ℕ) × (c ≡ command.Task n m k) × (f n m k ≡ Ok x)
task_cmd (command.Routine n) f e x h = refused h
task_cmd (command.Work n) f e x h = refused h
task_cmd (command.Call n) f e x h = refused h
task_cmd command.Either f e x h = refused h
task_cmd command.Or f e x h = refused h
task_cmd command.EndEither f e x h = refused h
task_cmd (command.Repeat n) f e x h = refused h
task_cmd command.EndRepeat f e x h = refused h
task_cmd command.EndRoutine f e x h = refused h
task_cmd (command.Task n m k) f e x h = (n, m, k, refl, h)
task_cmd (command.Block n) f e x h = refused h
task_cmd (command.Point n m) f e x h = refused h
task_cmd command.EndTask f e x h = refused h
task_cmd command.Sheet f e x h = refused h

pub closed_cmd : {X : Type 0} (c : Command) (t : Result X ReadFault) (e : ReadFault) (x : X) → by_last (Err e) (Err e) (Err e) t (Err e) c ≡ Ok x → (c ≡ command.EndRoutine) × (t ≡ Ok x)
closed_cmd (command.Routine n) t e x h = refused h
closed_cmd (command.Work n) t e x h = refused h
closed_cmd (command.Call n) t e x h = refused h
closed_cmd command.Either t e x h = refused h
closed_cmd command.Or t e x h = refused h
closed_cmd command.EndEither t e x h = refused h
closed_cmd (command.Repeat n) t e x h = refused h
closed_cmd command.EndRepeat t e x h = refused h
closed_cmd command.EndRoutine t e x h = (refl, h)
closed_cmd (command.Task n m k) t e x h = refused h
closed_cmd (command.Block n) t e x h = refused h
closed_cmd (command.Point n m) t e x h = refused h
closed_cmd command.EndTask t e x h = refused h
closed_cmd command.Sheet t e x h = refused h

module _ (bs : List ℕ) where
  routine_read : (n : ℕ) → ((seen : List Head) (p : ℕ) (rs : List Routine × ℕ) → routines_from bs n seen p ≡ Ok rs → AllByRecursion (BodyRead bs) rs.0) → (seen : List Head) (p : ℕ) (rs : List Routine × ℕ) (r : Result (Option (ℕ × Command)) ReadFault) → answer Top bs p ≡ r → routine_turn bs seen (routines_from bs n) p (after Top bs p) r ≡ Ok rs → AllByRecursion (BodyRead bs) rs.0
  routine_read n more seen p rs (Ok None) a h = subst (λ (x : List Routine × ℕ). AllByRecursion (BodyRead bs) x.0) (inside h) tt
  routine_read n more seen p rs (Err f) a h = refused h
  routine_read n more seen p rs (Ok (Some c)) a h =
      ⊎_elim
      (λ x. subst (λ (y : List Routine × ℕ). AllByRecursion (BodyRead bs) y.0) (inside x) tt)
      (λ x.
      let at_p : c.0 ≡ p = here Top bs p c.0 c.1 a in
      let w = went _ (run_at 9 bs c.0 (after Top bs p)) rs (admitted x.0 c.0 seen _ rs x.2).2 in
      let e : Ended = w.0 in
      let k = closed_cmd e.last _ _ rs w.2 in
      let v = went (more_routines x.0 c.0 e.run) _ rs k.1 in
      let rest = more _ _ v.0 v.1 in
      let one : BodyRead bs (record { code = x.0; at = c.0; body = e.run }) =
      record {
        ended = e;
        command_is = ap (λ q. answer Top bs q) at_p ∙ a ∙ ap (λ y. Ok (Some (c.0, y))) x.1;
        run_is = ap (λ q. run_at 9 bs c.0 (after Top bs q)) at_p ∙ w.1;
        body_is = refl;
        last_is = k.0;
      }
      in
      subst (λ (y : List Routine × ℕ). AllByRecursion (BodyRead bs) y.0) (inside v.2) (one, rest))
      (routine_cmd c.1 _ _ rs h)

  pub all_bodies : (n : ℕ) (seen : List Head) (p : ℕ) (rs : List Routine × ℕ) → routines_from bs n seen p ≡ Ok rs → AllByRecursion (BodyRead bs) rs.0
  unfolding routines_from
  all_bodies zero seen p rs e = refused e
  all_bodies (suc n) seen p rs e = routine_read n (all_bodies n) seen p rs (answer Top bs p) refl e

  task_read : (n : ℕ) → ((seen : List Head) (p : ℕ) (ts : List Task × ℕ) → tasks_from bs n seen p ≡ Ok ts → AllByRecursion (TaskRead bs) ts.0) → (seen : List Head) (p : ℕ) (ts : List Task × ℕ) (r : Result (Option (ℕ × Command)) ReadFault) → answer Tasks bs p ≡ r → task_turn bs seen (tasks_from bs n) p (after Tasks bs p) r ≡ Ok ts → AllByRecursion (TaskRead bs) ts.0
  task_read n more seen p ts (Ok None) a h = subst (λ (x : List Task × ℕ). AllByRecursion (TaskRead bs) x.0) (inside h) tt
  task_read n more seen p ts (Err f) a h = refused h
  task_read n more seen p ts (Ok (Some c)) a h =
      let x = task_cmd c.1 _ _ ts h in
      let at_p : c.0 ≡ p = here Tasks bs p c.0 c.1 a in
      let w = went _ (blocks_from bs (suc (length bs)) 0 (after Tasks bs p)) ts (admitted x.0 c.0 seen _ ts x.4).2 in
      let b : Blocks × ℕ = w.0 in
      let v = went (more_tasks x.0 c.0 x.1 x.2 b.0) _ ts w.2 in
      let rest = more _ _ v.0 v.1 in
      let one : TaskRead bs (record { code = x.0; at = c.0; period = x.1; deadline = x.2; blocks = b.0 }) =
      record {
        end = b.1;
        command_is = ap (λ q. answer Tasks bs q) at_p ∙ a ∙ ap (λ y. Ok (Some (c.0, y))) x.3;
        blocks_are = ap (λ q. blocks_from bs (suc (length bs)) 0 (after Tasks bs q)) at_p ∙ w.1;
      }
      in
      subst (λ (y : List Task × ℕ). AllByRecursion (TaskRead bs) y.0) (inside v.2) (one, rest)

  pub all_tasks : (n : ℕ) (seen : List Head) (p : ℕ) (ts : List Task × ℕ) → tasks_from bs n seen p ≡ Ok ts → AllByRecursion (TaskRead bs) ts.0
  unfolding tasks_from
  all_tasks zero seen p ts e = refused e
  all_tasks (suc n) seen p ts e = task_read n (all_tasks n) seen p ts (answer Tasks bs p) refl e
