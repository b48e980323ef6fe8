-- The tree of a run, command by command in the bytes. Assumes nothing.
use Rattle.std.proofs.Common.{◌≡◌, ℕ, zero, suc, ◌⊎◌, List, length, Some, None, Ok, Err, Option, Result, sym, refl, ap, ◌∙◌, subst, inl, inr, ⊎_elim}
use Rattle.std.proofs.lemmas.Bool.{cases_Bool, cond-true, cond-false}
use Rattle.faults.specs.declared.fault.ReadFault.{ReadFault}
use Rattle.commands.specs.declared.table.Command.{Command}
use Rattle.commands.specs.declared.table.Command.TheVariants.{Routine, Work, Call, Either, Or, EndEither, Repeat, EndRepeat, EndRoutine, Task, Block, Point, EndTask, Sheet}
use Rattle.commands.specs.declared.table.Context.TheVariants.{Body}
use Rattle.commands.specs.Commands.{answer, after}
use Rattle.reading.specs.Trees.{Item, work, call, either, repeat, Run, done, next, Arms, one, more}
use Rattle.reading.specs.Runs.{Ended, Parsed, Armed, then, by_last, ends, more_arms, arms_by, an_either, a_repeat, item_of, more_items, turn, run_with, run_at}
use Rattle.commands.proofs.Decoded.{here}

-- a command is read at a place, and leads to another
abbrev pub Cmd : List ℕ → ℕ → Command → ℕ → Type 0
Cmd bs p c q = (answer Body bs p ≡ Ok (Some (p, c))) × (after Body bs p ≡ q)

-- an item, a run and an either's arms are read at a place, and lead to another
abbrev mutual
  pub ReadsItem : List ℕ → ℕ → Item → ℕ → Type 0
  ReadsItem bs p (work t) q = Cmd bs p (Work t) q
  ReadsItem bs p (call at c) q = (at ≡ p) × Cmd bs p (Call c) q
  ReadsItem bs p (either a) q = (m : ℕ) × Cmd bs p Either m × ReadsArms bs m a q
  ReadsItem bs p (repeat k r) q = (m n : ℕ) × Cmd bs p (Repeat k) m × ReadsRun bs m r n × Cmd bs n EndRepeat q

  pub ReadsRun : List ℕ → ℕ → Run → ℕ → Type 0
  ReadsRun bs p done q = p ≡ q
  ReadsRun bs p (next i r) q = (m : ℕ) × ReadsItem bs p i m × ReadsRun bs m r q

  pub ReadsArms : List ℕ → ℕ → Arms → ℕ → Type 0
  ReadsArms bs p (one r) q = (m : ℕ) × ReadsRun bs p r m × Cmd bs m EndEither q
  ReadsArms bs p (more r a) q = (m n : ℕ) × ReadsRun bs p r m × Cmd bs m Or n × ReadsArms bs n a q

-- a run is read, and the command that ends it
abbrev pub Reads : List ℕ → ℕ → Ended → Type 0
Reads bs p e = (m : ℕ) × ReadsRun bs p e.run m × Cmd bs m e.last e.place

-- what `then` went on with
pub went : {X Y F : Type 0} (rule : X → Result Y F) (s : Result X F) (y : Y) → then rule s ≡ Ok y → (x : X) × (s ≡ Ok x) × (rule x ≡ Ok y)
went rule (Ok x) y e = (x, refl, e)
went rule (Err f) y e = cc

never : {X Y : Type 0} {f : ReadFault} {x : X} → ◌≡◌ {A = Result X ReadFault} (Err f) (Ok x) → Y
never e = cc

inside : {X : Type 0} {x y : X} → ◌≡◌ {A = Result X ReadFault} (Ok x) (Ok y) → x ≡ y
inside e = cc

-- by how an arm ended
pub arm_by : {X : Type 0} (c : Command) (o e : Result X ReadFault) (f : ReadFault) (x : X) → by_last o e (Err f) (Err f) (Err f) c ≡ Ok x → ((c ≡ Or) × (o ≡ Ok x)) ⊎ ((c ≡ EndEither) × (e ≡ Ok x))
arm_by (Routine n) o e f x h = never h
arm_by (Work n) o e f x h = never h
arm_by (Call n) o e f x h = never h
arm_by Either o e f x h = never h
arm_by Or o e f x h = inl (refl, h)
arm_by EndEither o e f x h = inr (refl, h)
arm_by (Repeat n) o e f x h = never h
arm_by EndRepeat o e f x h = never h
arm_by EndRoutine o e f x h = never h
arm_by (Task n m k) o e f x h = never h
arm_by (Block n) o e f x h = never h
arm_by (Point n m) o e f x h = never h
arm_by EndTask o e f x h = never h
arm_by Sheet o e f x h = never h

pub repeat_by : {X : Type 0} (c : Command) (r : Result X ReadFault) (f : ReadFault) (x : X) → by_last (Err f) (Err f) r (Err f) (Err f) c ≡ Ok x → (c ≡ EndRepeat) × (r ≡ Ok x)
repeat_by (Routine n) r f x h = never h
repeat_by (Work n) r f x h = never h
repeat_by (Call n) r f x h = never h
repeat_by Either r f x h = never h
repeat_by Or r f x h = never h
repeat_by EndEither r f x h = never h
repeat_by (Repeat n) r f x h = never h
repeat_by EndRepeat r f x h = (refl, h)
repeat_by EndRoutine r f x h = never h
repeat_by (Task n m k) r f x h = never h
repeat_by (Block n) r f x h = never h
repeat_by (Point n m) r f x h = never h
repeat_by EndTask r f x h = never h
repeat_by Sheet r f x h = never h

module _ (bs : List ℕ) (d : ℕ) (inner : (opener p : ℕ) (e : Ended) → run_at d bs opener p ≡ Ok e → Reads bs p e) where
  arms_read : (n at p : ℕ) (q : Armed) → arms_by (run_at d bs at) bs n p ≡ Ok q → ReadsArms bs p q.arms q.end
  unfolding arms_by
  arms_read zero at p q e = never e
  arms_read (suc n) at p q e =
      let w = went _ (run_at d bs at p) q e in
      let x : Ended = w.0 in
      let r : Reads bs p x = inner at p x w.1 in
      ⊎_elim
      (λ more-to-come.
      let v = went (more_arms x.run) (arms_by (run_at d bs at) bs n x.place) q more-to-come.1 in
      let rest = arms_read n at x.place v.0 v.1 in
      subst (λ (y : Armed). ReadsArms bs p y.arms y.end) (inside v.2) (r.0, x.place, r.1, subst (λ c. Cmd bs r.0 c x.place) more-to-come.0 r.2, rest))
      (λ at_end. subst (λ (y : Armed). ReadsArms bs p y.arms y.end) (inside at_end.1) (r.0, r.1, subst (λ c. Cmd bs r.0 c x.place) at_end.0 r.2))
      (arm_by x.last _ _ _ q w.2)

  item_read : (p at : ℕ) (c : Command) (m : ℕ) (i : Parsed) → at ≡ p → Cmd bs p c m → item_of (run_at d bs) bs at c m ≡ Ok i → ReadsItem bs p i.item i.end
  item_read p at (Routine t) m i h k e = never e
  item_read p at (Work t) m i h k e = subst (λ (y : Parsed). ReadsItem bs p y.item y.end) (inside e) k
  item_read p at (Call t) m i h k e = subst (λ (y : Parsed). ReadsItem bs p y.item y.end) (inside e) (h, k)
  item_read p at Either m i h k e =
      let w = went an_either (arms_by (run_at d bs at) bs (suc (length bs)) m) i e in
      subst (λ (y : Parsed). ReadsItem bs p y.item y.end) (inside w.2) (m, k, arms_read (suc (length bs)) at m w.0 w.1)
  item_read p at Or m i h k e = never e
  item_read p at EndEither m i h k e = never e
  item_read p at (Repeat t) m i h k e =
      let w = went (a_repeat t) (run_at d bs at m) i e in
      let x : Ended = w.0 in
      let r : Reads bs m x = inner at m x w.1 in
      let b = repeat_by x.last _ _ i w.2 in
      subst (λ (y : Parsed). ReadsItem bs p y.item y.end) (inside b.1) (m, r.0, k, r.1, subst (λ y. Cmd bs r.0 y x.place) b.0 r.2)
  item_read p at EndRepeat m i h k e = never e
  item_read p at EndRoutine m i h k e = never e
  item_read p at (Task t u v) m i h k e = never e
  item_read p at (Block t) m i h k e = never e
  item_read p at (Point t u) m i h k e = never e
  item_read p at EndTask m i h k e = never e
  item_read p at Sheet m i h k e = never e

  module _ (n : ℕ) (more-read : (p : ℕ) (e : Ended) → run_with (item_of (run_at d bs) bs) bs n p ≡ Ok e → Reads bs p e) where
    turn_read : (p : ℕ) (e : Ended) (r : Result (Option (ℕ × Command)) ReadFault) → answer Body bs p ≡ r → turn (item_of (run_at d bs) bs) (run_with (item_of (run_at d bs) bs) bs n) bs (after Body bs p) r ≡ Ok e → Reads bs p e
    turn_read p e (Ok None) a h = never h
    turn_read p e (Err f) a h = never h
    turn_read p e (Ok (Some c)) a h =
        let at_p : c.0 ≡ p = here Body bs p c.0 c.1 a in
        let k : Cmd bs p c.1 (after Body bs p) = (a ∙ ap (λ x. Ok (Some (x, c.1))) at_p, refl) in
        ⊎_elim
        (λ end. subst (λ (y : Ended). Reads bs p y) (inside (sym (cond-true _ _ _ end) ∙ h)) (p, refl, k))
        (λ on.
        let w = went _ (item_of (run_at d bs) bs c.0 c.1 (after Body bs p)) e (sym (cond-false _ _ _ on) ∙ h) in
        let i : Parsed = w.0 in
        let v = went (more_items i.item) (run_with (item_of (run_at d bs) bs) bs n i.end) e w.2 in
        let rest : Reads bs i.end v.0 = more-read i.end v.0 v.1 in
        subst (λ (y : Ended). Reads bs p y) (inside v.2) (rest.0, (i.end, item_read p c.0 c.1 (after Body bs p) i at_p k w.1, rest.1), rest.2))
        (cases_Bool (ends c.1))

  with_read : (n p : ℕ) (e : Ended) → run_with (item_of (run_at d bs) bs) bs n p ≡ Ok e → Reads bs p e
  unfolding run_with
  with_read zero p e h = never h
  with_read (suc n) p e h = turn_read n (with_read n) p e (answer Body bs p) refl h

-- a run that is read is its tree, command by command
pub run_reads : (d : ℕ) (bs : List ℕ) (opener p : ℕ) (e : Ended) → run_at d bs opener p ≡ Ok e → Reads bs p e
unfolding run_at
run_reads zero bs opener p e h = never h
run_reads (suc d) bs opener p e h = with_read bs d (run_reads d bs) (suc (length bs)) p e h
