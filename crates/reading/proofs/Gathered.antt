-- What one turn of reading routines, or tasks, keeps. Assumes nothing.
use Rattle.std.proofs.Common.{◌≡◌, ℕ, suc, ◌+◌, ◌-◌, ◌<◌, ◌≤◌, Bool, true, false, cond, leb, List, [], ◌∷◌, ◌++◌, map, length, Some, None, Ok, Err, Result, sym, refl, ap, ◌∙◌, subst, arith, le-ltb, lt-ltb}
use Rattle.std.proofs.lemmas.List.{append-nil, append_assoc}
use Rattle.std.proofs.lemmas.Bool.{cond-true, cond-false}
use Rattle.faults.specs.declared.fault.ReadFault.{ReadFault}
use Rattle.faults.specs.declared.fault.ReadFault.TheVariants.{TooLong, NotAllowed, CodeUsed, TooMany}
use Rattle.commands.specs.declared.table.Command.{Command}
use Rattle.commands.specs.declared.table.Command.TheVariants as command
use Rattle.commands.specs.declared.table.Context.TheVariants.{Top, Tasks}
use Rattle.reading.specs.declared.heads.Head.{Head}
use Rattle.reading.specs.declared.walk.Ran.{Ran}
use Rattle.commands.specs.Commands.{answer, after}
use Rattle.reading.specs.Heads.{head, used}
use Rattle.reading.specs.Trees.{Run, Routine, Task, Blocks}
use Rattle.reading.specs.Runs.{Ended, then, by_last, run_at, RunTold}
use Rattle.reading.specs.Listings.{by_command, admit, closed, more_routines, routine_turn, routines_from, routine_head, routine_heads, more_tasks, task_turn, tasks_from, blocks_from, task_head, task_heads, blocks_end, heads_of, outline_of, tasks_then, listing}
use Rattle.reading.proofs.Turns.{WasRun, was_run, run_fault}

abbrev pub Gathered : Type 0
Gathered = Result (List Head × ℕ) ReadFault

-- heads in front of those that are still to come
abbrev pub onto : List Head → Gathered → Gathered
onto seen (Ok hs) = Ok (seen ++ hs.0, hs.1)
onto seen (Err f) = Err f

onto_none : (g : Gathered) → onto [] g ≡ g
onto_none (Ok hs) = refl
onto_none (Err f) = refl

onto_more : (seen : List Head) (h : Head) (g : Gathered) → onto seen (onto (h ∷ []) g) ≡ onto (seen ++ h ∷ []) g
onto_more seen h (Ok hs) = ap (λ l. Ok (l, hs.1)) (sym (append_assoc seen (h ∷ []) hs.0))
onto_more seen h (Err f) = refl

onto_end : (seen : List Head) (q : ℕ) → onto seen (Ok ([], q)) ≡ Ok (seen, q)
onto_end seen q = ap (λ l. Ok (l, q)) (append-nil seen)

-- what the test of one more says
abbrev pub Admitted : Type 0
Admitted = Result (Unit {0}) ReadFault

gate_err : {X : Type 0} (a b : Bool) (e g f : ReadFault) (more : Result X ReadFault) → ◌≡◌ {A = Admitted} (Err f) (cond a (Err e) (cond b (Err g) (Ok tt))) → cond a (Err e) (cond b (Err g) more) ≡ Err f
gate_err true b e g f more h = let p : f ≡ e = cc in ap Err (sym p)
gate_err false true e g f more h = let p : f ≡ g = cc in ap Err (sym p)
gate_err false false e g f more h = cc

gate_ok : {X : Type 0} (a b : Bool) (e g : ReadFault) (more : Result X ReadFault) → ◌≡◌ {A = Admitted} (Ok tt) (cond a (Err e) (cond b (Err g) (Ok tt))) → cond a (Err e) (cond b (Err g) more) ≡ more
gate_ok true b e g more h = cc
gate_ok false true e g more h = cc
gate_ok false false e g more h = refl

admit_refuses : {X : Type 0} (c at : ℕ) (hs : List Head) (f : ReadFault) (more : Result X ReadFault) → ◌≡◌ {A = Admitted} (Err f) (admit c at hs (Ok tt)) → admit c at hs more ≡ Err f
admit_refuses c at hs f more h = gate_err (used c hs) (leb 32 (length hs)) (CodeUsed at) (TooMany at) f more h

admit_accepts : {X : Type 0} (c at : ℕ) (hs : List Head) (more : Result X ReadFault) → ◌≡◌ {A = Admitted} (Ok tt) (admit c at hs (Ok tt)) → admit c at hs more ≡ more
admit_accepts c at hs more h = gate_ok (used c hs) (leb 32 (length hs)) (CodeUsed at) (TooMany at) more h

-- a run that is not ended by 28
not_closed : {X : Type 0} (c : Command) (t x : X) → (c ≡ command.EndRoutine → ⊥) → by_last x x x t x c ≡ x
not_closed (command.Routine n) t x h = refl
not_closed (command.Work n) t x h = refl
not_closed (command.Call n) t x h = refl
not_closed command.Either t x h = refl
not_closed command.Or t x h = refl
not_closed command.EndEither t x h = refl
not_closed (command.Repeat n) t x h = refl
not_closed command.EndRepeat t x h = refl
not_closed command.EndRoutine t x h = absurd (h refl)
not_closed (command.Task n m k) t x h = refl
not_closed (command.Block n) t x h = refl
not_closed (command.Point n m) t x h = refl
not_closed command.EndTask t x h = refl
not_closed command.Sheet t x h = refl

-- a command that is no routine, and one that is no task
no_routine : {X : Type 0} (c : Command) (r : ℕ → X) (x : X) → ((n : ℕ) → c ≡ command.Routine n → ⊥) → by_command r (λ _ _ _. x) (λ _. x) (λ _ _. x) x x c ≡ x
no_routine (command.Routine n) r x h = absurd (h n refl)
no_routine (command.Work n) r x h = refl
no_routine (command.Call n) r x h = refl
no_routine command.Either r x h = refl
no_routine command.Or r x h = refl
no_routine command.EndEither r x h = refl
no_routine (command.Repeat n) r x h = refl
no_routine command.EndRepeat r x h = refl
no_routine command.EndRoutine r x h = refl
no_routine (command.Task n m k) r x h = refl
no_routine (command.Block n) r x h = refl
no_routine (command.Point n m) r x h = refl
no_routine command.EndTask r x h = refl
no_routine command.Sheet r x h = refl

one_routine : (n at : ℕ) (r : Run) (s : Result (List Routine × ℕ) ReadFault) → routine_heads (then (more_routines n at r) s) ≡ onto (head n at ∷ []) (routine_heads s)
one_routine n at r (Ok rs) = refl
one_routine n at r (Err f) = refl

-- so many routines are behind a place, and the rest gives the whole
pub record Gathering (bs : List ℕ) (seen : List Head) (place : ℕ) (whole : Gathered) : Type 0 where
  pub left : ℕ
  pub enough : length bs ≤ place + left
  pub gives : whole ≡ onto seen (routine_heads (routines_from bs (suc left) seen place))

pub first_routine : (bs : List ℕ) (place : ℕ) → Gathering bs [] place (routine_heads (routines_from bs (suc (length bs)) [] place))
first_routine bs place = record { left = length bs; enough = omega arith; gives = sym (onto_none _) }

module _ (bs : List ℕ) (seen : List Head) (place : ℕ) (whole : Gathered) (g : Gathering bs seen place whole) where
  now_is : {r : _} → answer Top bs place ≡ r → whole ≡ onto seen (routine_heads (routine_turn bs seen (routines_from bs g.left) place (after Top bs place) r))
  unfolding routines_from
  now_is e = g.gives ∙ ap (λ r. onto seen (routine_heads (routine_turn bs seen (routines_from bs g.left) place (after Top bs place) r))) e

  pub no_more : answer Top bs place ≡ Ok None → whole ≡ Ok (seen, place)
  no_more e = now_is e ∙ onto_end seen place

  pub past_routines : (at : ℕ) (c : Command) → answer Top bs place ≡ Ok (Some (at, c)) → ((n : ℕ) → c ≡ command.Routine n → ⊥) → whole ≡ Ok (seen, place)
  past_routines at c e h = now_is e ∙ ap (λ r. onto seen (routine_heads r)) (no_routine c _ _ h) ∙ onto_end seen place

  pub routine_fault : {f : ReadFault} → answer Top bs place ≡ Err f → whole ≡ Err f
  routine_fault e = now_is e

  module _ (at n : ℕ) (e : answer Top bs place ≡ Ok (Some (at, command.Routine n))) where
    body_rule : Run → ℕ → Result (List Routine × ℕ) ReadFault
    body_rule r q = then (more_routines n at r) (routines_from bs g.left (seen ++ head n at ∷ []) q)

    is_routine : whole ≡ onto seen (routine_heads (admit n at seen (then (closed body_rule) (run_at 9 bs at (after Top bs place)))))
    unfolding body_rule
    is_routine = now_is e

    pub routine_refused : {f : ReadFault} → ◌≡◌ {A = Admitted} (Err f) (admit n at seen (Ok tt)) → whole ≡ Err f
    routine_refused h = is_routine ∙ ap (λ r. onto seen (routine_heads r)) (admit_refuses n at seen _ _ h)

    module _ (h : ◌≡◌ {A = Admitted} (Ok tt) (admit n at seen (Ok tt))) where
      body_is : {r : _} → run_at 9 bs at (after Top bs place) ≡ r → whole ≡ onto seen (routine_heads (then (closed body_rule) r))
      body_is i = is_routine ∙ ap (λ r. onto seen (routine_heads r)) (admit_accepts n at seen _ h) ∙ ap (λ r. onto seen (routine_heads (then (closed body_rule) r))) i

      module _ (of : ℕ → ℕ) where
        pub body_fault : (f : ReadFault) (q : ℕ) → RunTold of (Err f) q (run_at 9 bs at (after Top bs place)) → whole ≡ Err f
        body_fault f q t = body_is (run_fault of f q _ t)

        module _ (r : Ran) (q : ℕ) (t : RunTold of (Ok r) q (run_at 9 bs at (after Top bs place))) where
          pub body_open : (r.last ≡ command.EndRoutine → ⊥) → whole ≡ Err (NotAllowed r.at)
          body_open o =
              let u : WasRun of r q (run_at 9 bs at (after Top bs place)) = was_run of r q _ t in
              body_is u.is ∙ ap (λ s. onto seen (routine_heads s)) (not_closed u.it.last _ _ (λ p. o (u.last_is ∙ p))) ∙ ap (λ m. Err (NotAllowed m)) (sym u.at_is)

          pub body_closed : r.last ≡ command.EndRoutine → place < q → place < length bs → Gathering bs (seen ++ head n at ∷ []) q whole
          unfolding body_rule
          body_closed o forth inside =
              let u : WasRun of r q (run_at 9 bs at (after Top bs place)) = was_run of r q _ t in
              let it : Ended = u.it in
              let some : g.left ≡ suc (g.left - 1) = omega (arith, g.enough) in
              let e = body_is u.is ∙ ap (λ s. onto seen (routine_heads s)) (ap (by_last _ _ _ _ _) (sym u.last_is ∙ o)) in
              record {
                left = g.left - 1;
                enough = omega (arith, g.enough);
                gives = e ∙ ap (onto seen) (one_routine n at it.run (routines_from bs g.left (seen ++ head n at ∷ []) it.place)) ∙ onto_more seen (head n at) _
                    ∙ (λ i. onto (seen ++ head n at ∷ []) (routine_heads (routines_from bs (some i) (seen ++ head n at ∷ []) (sym u.place_is i))));
              }

pub gathered_as : (bs : List ℕ) (seen seen' : List Head) (place : ℕ) (whole : Gathered) → seen ≡ seen' → Gathering bs seen place whole → Gathering bs seen' place whole
gathered_as bs seen seen' place whole e g = subst (λ s. Gathering bs s place whole) e g

-- a command that is no task
no_task : {X : Type 0} (c : Command) (t : ℕ → ℕ → ℕ → X) (x : X) → ((n m k : ℕ) → c ≡ command.Task n m k → ⊥) → by_command (λ _. x) t (λ _. x) (λ _ _. x) x x c ≡ x
no_task (command.Routine n) t x h = refl
no_task (command.Work n) t x h = refl
no_task (command.Call n) t x h = refl
no_task command.Either t x h = refl
no_task command.Or t x h = refl
no_task command.EndEither t x h = refl
no_task (command.Repeat n) t x h = refl
no_task command.EndRepeat t x h = refl
no_task command.EndRoutine t x h = refl
no_task (command.Task n m k) t x h = absurd (h n m k refl)
no_task (command.Block n) t x h = refl
no_task (command.Point n m) t x h = refl
no_task command.EndTask t x h = refl
no_task command.Sheet t x h = refl

one_task : (n at p d : ℕ) (b : Blocks) (s : Result (List Task × ℕ) ReadFault) → task_heads (then (more_tasks n at p d b) s) ≡ onto (head n at ∷ []) (task_heads s)
one_task n at p d b (Ok ts) = refl
one_task n at p d b (Err f) = refl

-- so many tasks are behind a place, and the rest gives the whole
pub record Tasking (bs : List ℕ) (seen : List Head) (place : ℕ) (whole : Gathered) : Type 0 where
  pub left : ℕ
  pub enough : length bs ≤ place + left
  pub gives : whole ≡ onto seen (task_heads (tasks_from bs (suc left) seen place))

pub first_task : (bs : List ℕ) (place : ℕ) → Tasking bs [] place (task_heads (tasks_from bs (suc (length bs)) [] place))
first_task bs place = record { left = length bs; enough = omega arith; gives = sym (onto_none _) }

pub tasking_as : (bs : List ℕ) (seen seen' : List Head) (place : ℕ) (whole : Gathered) → seen ≡ seen' → Tasking bs seen place whole → Tasking bs seen' place whole
tasking_as bs seen seen' place whole e g = subst (λ s. Tasking bs s place whole) e g

-- where a task's blocks end
pub blocks_were : (q : ℕ) (s : Result (Blocks × ℕ) ReadFault) → Ok q ≡ blocks_end s → (b : Blocks) × (s ≡ Ok (b, q))
blocks_were q (Ok b) e = let p : q ≡ b.1 = cc in (b.0, ap (λ m. Ok (b.0, m)) (sym p))
blocks_were q (Err f) e = cc

pub blocks_fault : (f : ReadFault) (s : Result (Blocks × ℕ) ReadFault) → Err f ≡ blocks_end s → s ≡ Err f
blocks_fault f (Ok b) e = cc
blocks_fault f (Err g) e = let p : g ≡ f = cc in ap Err p

module _ (bs : List ℕ) (seen : List Head) (place : ℕ) (whole : Gathered) (g : Tasking bs seen place whole) where
  task_now : {r : _} → answer Tasks bs place ≡ r → whole ≡ onto seen (task_heads (task_turn bs seen (tasks_from bs g.left) place (after Tasks bs place) r))
  unfolding tasks_from
  task_now e = g.gives ∙ ap (λ r. onto seen (task_heads (task_turn bs seen (tasks_from bs g.left) place (after Tasks bs place) r))) e

  pub no_more_tasks : answer Tasks bs place ≡ Ok None → whole ≡ Ok (seen, place)
  no_more_tasks e = task_now e ∙ onto_end seen place

  pub task_fault : {f : ReadFault} → answer Tasks bs place ≡ Err f → whole ≡ Err f
  task_fault e = task_now e

  pub not_a_task : (at : ℕ) (c : Command) → answer Tasks bs place ≡ Ok (Some (at, c)) → ((n m k : ℕ) → c ≡ command.Task n m k → ⊥) → whole ≡ Err (NotAllowed at)
  not_a_task at c e h = task_now e ∙ ap (λ r. onto seen (task_heads r)) (no_task c _ _ h)

  module _ (at n p d : ℕ) (e : answer Tasks bs place ≡ Ok (Some (at, command.Task n p d))) where
    blocks_rule : Blocks × ℕ → Result (List Task × ℕ) ReadFault
    blocks_rule b = then (more_tasks n at p d b.0) (tasks_from bs g.left (seen ++ head n at ∷ []) b.1)

    is_task : whole ≡ onto seen (task_heads (admit n at seen (then blocks_rule (blocks_from bs (suc (length bs)) 0 (after Tasks bs place)))))
    unfolding blocks_rule
    is_task = task_now e

    pub task_refused : {f : ReadFault} → ◌≡◌ {A = Admitted} (Err f) (admit n at seen (Ok tt)) → whole ≡ Err f
    task_refused h = is_task ∙ ap (λ r. onto seen (task_heads r)) (admit_refuses n at seen _ _ h)

    module _ (h : ◌≡◌ {A = Admitted} (Ok tt) (admit n at seen (Ok tt))) where
      blocks_are : {r : _} → blocks_from bs (suc (length bs)) 0 (after Tasks bs place) ≡ r → whole ≡ onto seen (task_heads (then blocks_rule r))
      blocks_are i = is_task ∙ ap (λ r. onto seen (task_heads r)) (admit_accepts n at seen _ h) ∙ ap (λ r. onto seen (task_heads (then blocks_rule r))) i

      pub task_blocks_fault : (f : ReadFault) → Err f ≡ blocks_end (blocks_from bs (suc (length bs)) 0 (after Tasks bs place)) → whole ≡ Err f
      task_blocks_fault f t = blocks_are (blocks_fault f _ t)

      pub task_done : (q : ℕ) → Ok q ≡ blocks_end (blocks_from bs (suc (length bs)) 0 (after Tasks bs place)) → place < q → place < length bs → Tasking bs (seen ++ head n at ∷ []) q whole
      unfolding blocks_rule
      task_done q t forth inside =
          let u = blocks_were q (blocks_from bs (suc (length bs)) 0 (after Tasks bs place)) t in
          let b : Blocks = u.0 in
          let some : g.left ≡ suc (g.left - 1) = omega (arith, g.enough) in
          record {
            left = g.left - 1;
            enough = omega (arith, g.enough);
            gives = blocks_are u.1 ∙ ap (onto seen) (one_task n at p d b (tasks_from bs g.left (seen ++ head n at ∷ []) q)) ∙ onto_more seen (head n at) _
                ∙ ap (λ m. onto (seen ++ head n at ∷ []) (task_heads (tasks_from bs m (seen ++ head n at ∷ []) q))) some;
          }

pub blocks_there : (b b' : List ℕ) (p p' : ℕ) (r : Result ℕ ReadFault) → b ≡ b' → p ≡ p' → r ≡ blocks_end (blocks_from b (suc (length b)) 0 p) → r ≡ blocks_end (blocks_from b' (suc (length b')) 0 p')
blocks_there b b' p p' r e f t = t ∙ (λ i. blocks_end (blocks_from (e i) (suc (length (e i))) 0 (f i)))

-- what was gathered, from its heads
pub heads_were : {X : Type 0} (h : X → Head) (hs : List Head) (q : ℕ) (s : Result (List X × ℕ) ReadFault) → Ok (hs, q) ≡ heads_of h s → (xs : List X) × (s ≡ Ok (xs, q)) × (hs ≡ map h xs)
heads_were h hs q (Ok xs) e =
    let both : (hs, q) ≡ (map h xs.0, xs.1) = cc in
    (xs.0, ap (λ m. Ok (xs.0, m)) (sym (ap (λ (x : List Head × ℕ). x.1) both)), ap (λ (x : List Head × ℕ). x.0) both)
heads_were h hs q (Err f) e = cc

pub heads_fault : {X : Type 0} (h : X → Head) (f : ReadFault) (s : Result (List X × ℕ) ReadFault) → Err f ≡ heads_of h s → s ≡ Err f
heads_fault h f (Ok xs) e = cc
heads_fault h f (Err g) e = let p : g ≡ f = cc in ap Err p

-- the whole listing
pub too_long : (bs : List ℕ) → 32768 < length bs → Err TooLong ≡ outline_of (listing bs)
unfolding listing
too_long bs h = sym (ap outline_of (cond-true _ _ _ (lt-ltb _ _ h)))

module _ (bs b : List ℕ) (p : ℕ) (short : length bs ≤ 32768) (e : b ≡ bs) (z : p ≡ 0) where
  from_start : {r : Gathered} → r ≡ routine_heads (routines_from b (suc (length b)) [] p) → r ≡ routine_heads (routines_from bs (suc (length bs)) [] 0)
  from_start t = t ∙ (λ i. routine_heads (routines_from (e i) (suc (length (e i))) [] (z i)))

  listing_is : {r : _} → routines_from bs (suc (length bs)) [] 0 ≡ r → listing bs ≡ then (tasks_then bs) r
  unfolding listing
  listing_is i = cond-false _ _ _ (le-ltb _ _ short) ∙ ap (then (tasks_then bs)) i

  pub routines_fault : (f : ReadFault) → Err f ≡ routine_heads (routines_from b (suc (length b)) [] p) → Err f ≡ outline_of (listing bs)
  routines_fault f t = sym (ap outline_of (listing_is (heads_fault routine_head f _ (from_start t))))

  module _ (rs : List Head) (q : ℕ) (t : Ok (rs, q) ≡ routine_heads (routines_from b (suc (length b)) [] p)) (d : List ℕ) (g : d ≡ bs) where
    were : (xs : List Routine) × (routines_from bs (suc (length bs)) [] 0 ≡ Ok (xs, q)) × (rs ≡ map routine_head xs)
    were = heads_were routine_head rs q (routines_from bs (suc (length bs)) [] 0) (from_start t)

    tasks_from_lem : {r : Gathered} → r ≡ task_heads (tasks_from d (suc (length d)) [] q) → r ≡ task_heads (tasks_from bs (suc (length bs)) [] q)
    tasks_from_lem u = u ∙ ap (λ x. task_heads (tasks_from x (suc (length x)) [] q)) g

    tasks_are : {r : _} → tasks_from bs (suc (length bs)) [] q ≡ r → listing bs ≡ then (λ (ts : List Task × ℕ). Ok (record { routines = were.0; tasks = ts.0 })) r
    tasks_are i = listing_is were.1 ∙ ap (then (λ (ts : List Task × ℕ). Ok (record { routines = were.0; tasks = ts.0 }))) i

    pub tasks_fault : (f : ReadFault) → Err f ≡ task_heads (tasks_from d (suc (length d)) [] q) → Err f ≡ outline_of (listing bs)
    tasks_fault f u = sym (ap outline_of (tasks_are (heads_fault task_head f _ (tasks_from_lem u))))

    pub all_read : (ts : List Head) (m : ℕ) → Ok (ts, m) ≡ task_heads (tasks_from d (suc (length d)) [] q) → Ok (rs, ts) ≡ outline_of (listing bs)
    all_read ts m u =
        let w = heads_were task_head ts m (tasks_from bs (suc (length bs)) [] q) (tasks_from_lem u) in
        (λ i. Ok (were.2 i, w.2 i)) ∙ sym (ap outline_of (tasks_are w.1))
