-- A tree that is read is within the ranges and counts. Assumes nothing.
use Rattle.std.proofs.Common.{◌≡◌, ℕ, zero, suc, ◌+◌, ◌<◌, ◌≤◌, ltb, List, [], length, get_or, drop, Some, None, Ok, Err, Option, Result, sym, refl, ap, ◌∙◌, subst, ⊎_elim, arith}
use Rattle.std.proofs.lemmas.List.{length-map}
use Rattle.std.proofs.ByRecursion.{All-from_get_or}
use Rattle.std.specs.List.{AllByRecursion}
use Rattle.std.proofs.lemmas.Bool.{cases_Bool, cond-true, cond-false, ltb-false}
use Rattle.faults.specs.declared.fault.ReadFault.{ReadFault}
use Rattle.commands.specs.declared.table.Kind.{Kind}
use Rattle.commands.specs.declared.table.Kind.TheVariants as kind
use Rattle.commands.specs.declared.table.Numbers.{Numbers}
use Rattle.commands.specs.declared.table.Command.{Command}
use Rattle.commands.specs.declared.table.Command.TheVariants as command
use Rattle.commands.specs.declared.table.Context.{Context}
use Rattle.commands.specs.declared.table.Context.TheVariants.{Top, Tasks, Body, BlockDue, AfterBlock}
use Rattle.reading.specs.declared.heads.Head.{Head}
use Rattle.commands.specs.Commands.{numbers_of, command_of, answer, after}
use Rattle.reading.specs.Heads.{head}
use Rattle.reading.specs.Trees.{Item, work, call, either, repeat, Run, done, next, Arms, one, more, Routine, Blocks, Task, Listing}
use Rattle.reading.specs.Runs.{Ended, Parsed, Armed, ends, more_arms, arms_by, an_either, a_repeat, item_of, more_items, turn, run_with, run_at}
use Rattle.reading.specs.Listings.{more_routines, routine_turn, routines_from, more_tasks, task_turn, tasks_from, blocks_from, tasks_then, listing, told, outline_of}
use Rattle.reading.specs.Encoding.{encode}
use Rattle.reading.specs.Fitting.{FitsItem, FitsRun, FitsArms, nest_item, nest_run, nest_arms, FitsRoutines, FitsBlocks, FitsTasks, Fits, Accepted}
use Rattle.reading.specs.Outlines.{Outline}
use Rattle.reading.proofs.Accepts.{accepts}
use Rattle.reading.proofs.Encoded.{accepted}
use Rattle.commands.proofs.Rows.{Ranged, ranged}
use Rattle.commands.proofs.Inverted.{Written, read_written, small_routine, small_block, task_ranges}
use Rattle.reading.proofs.Spelled.{ReadsItem, ReadsRun, ReadsArms, Reads, run_reads, went, arm_by, repeat_by}
use Rattle.reading.proofs.Stepped.{refused, FirstBlock, first_block}
use Rattle.reading.proofs.Codes.{codes, used_is, codes_push}
use Rattle.reading.proofs.Bodies.{admitted, inside, routine_cmd, task_cmd, closed_cmd}

work_kind : (k : Kind) (n : Numbers) (t : ℕ) → command_of k n ≡ command.Work t → Ranged k n → t ≤ 1000000
work_kind kind.Routine n t e r = cc
work_kind kind.Work n t e r = let x : n.first ≡ t = cc in omega (arith, r.first)
work_kind kind.Call n t e r = cc
work_kind kind.Either n t e r = cc
work_kind kind.Or n t e r = cc
work_kind kind.EndEither n t e r = cc
work_kind kind.Repeat n t e r = cc
work_kind kind.EndRepeat n t e r = cc
work_kind kind.EndRoutine n t e r = cc
work_kind kind.Task n t e r = cc
work_kind kind.Block n t e r = cc
work_kind kind.Point n t e r = cc
work_kind kind.EndTask n t e r = cc
work_kind kind.Sheet n t e r = cc

call_kind : (k : Kind) (n : Numbers) (t : ℕ) → command_of k n ≡ command.Call t → Ranged k n → t ≤ 255
call_kind kind.Routine n t e r = cc
call_kind kind.Work n t e r = cc
call_kind kind.Call n t e r = let x : n.first ≡ t = cc in omega (arith, r.first)
call_kind kind.Either n t e r = cc
call_kind kind.Or n t e r = cc
call_kind kind.EndEither n t e r = cc
call_kind kind.Repeat n t e r = cc
call_kind kind.EndRepeat n t e r = cc
call_kind kind.EndRoutine n t e r = cc
call_kind kind.Task n t e r = cc
call_kind kind.Block n t e r = cc
call_kind kind.Point n t e r = cc
call_kind kind.EndTask n t e r = cc
call_kind kind.Sheet n t e r = cc

repeat_kind : (k : Kind) (n : Numbers) (t : ℕ) → command_of k n ≡ command.Repeat t → Ranged k n → t ≤ 1000
repeat_kind kind.Routine n t e r = cc
repeat_kind kind.Work n t e r = cc
repeat_kind kind.Call n t e r = cc
repeat_kind kind.Either n t e r = cc
repeat_kind kind.Or n t e r = cc
repeat_kind kind.EndEither n t e r = cc
repeat_kind kind.Repeat n t e r = let x : n.first ≡ t = cc in omega (arith, r.first)
repeat_kind kind.EndRepeat n t e r = cc
repeat_kind kind.EndRoutine n t e r = cc
repeat_kind kind.Task n t e r = cc
repeat_kind kind.Block n t e r = cc
repeat_kind kind.Point n t e r = cc
repeat_kind kind.EndTask n t e r = cc
repeat_kind kind.Sheet n t e r = cc

point_kind : (k : Kind) (n : Numbers) (t q : ℕ) → command_of k n ≡ command.Point t q → Ranged k n → (t ≤ 1000000) × (q ≤ 65535)
point_kind kind.Routine n t q e r = cc
point_kind kind.Work n t q e r = cc
point_kind kind.Call n t q e r = cc
point_kind kind.Either n t q e r = cc
point_kind kind.Or n t q e r = cc
point_kind kind.EndEither n t q e r = cc
point_kind kind.Repeat n t q e r = cc
point_kind kind.EndRepeat n t q e r = cc
point_kind kind.EndRoutine n t q e r = cc
point_kind kind.Task n t q e r = cc
point_kind kind.Block n t q e r = cc
point_kind kind.Point n t q e r = let x : n.first ≡ t = cc in let y : n.second ≡ q = cc in (omega (arith, r.first), omega (arith, r.second))
point_kind kind.EndTask n t q e r = cc
point_kind kind.Sheet n t q e r = cc

task_code : (k : Kind) (n : Numbers) (c p d : ℕ) → command_of k n ≡ command.Task c p d → Ranged k n → c ≤ 255
task_code kind.Routine n c p d e r = cc
task_code kind.Work n c p d e r = cc
task_code kind.Call n c p d e r = cc
task_code kind.Either n c p d e r = cc
task_code kind.Or n c p d e r = cc
task_code kind.EndEither n c p d e r = cc
task_code kind.Repeat n c p d e r = cc
task_code kind.EndRepeat n c p d e r = cc
task_code kind.EndRoutine n c p d e r = cc
task_code kind.Task n c p d e r = let x : n.first ≡ c = cc in omega (arith, r.first)
task_code kind.Block n c p d e r = cc
task_code kind.Point n c p d e r = cc
task_code kind.EndTask n c p d e r = cc
task_code kind.Sheet n c p d e r = cc

ranges : (context : Context) (bs : List ℕ) (p at : ℕ) (c : Command) → answer context bs p ≡ Ok (Some (at, c)) → (k : Kind) × (n : Numbers) × (command_of k n ≡ c) × Ranged k n
ranges context bs p at c e =
    let w = read_written context bs p at c e in
    let x : Written context (drop p bs) c w.0 = w.1 in
    (x.row.kind, numbers_of x.row x.rest, x.command_is, ranged context x.byte x.row x.row_is (numbers_of x.row x.rest) x.fits)

module _ (bs : List ℕ) where
  mutual
    item_fits : (i : Item) (p q : ℕ) → ReadsItem bs p i q → FitsItem i
    item_fits (work t) p q r = let x = ranges Body bs p p (command.Work t) r.0 in work_kind x.0 x.1 t x.2 x.3
    item_fits (call at c) p q r = let x = ranges Body bs p p (command.Call c) r.1.0 in call_kind x.0 x.1 c x.2 x.3
    item_fits (either b) p q r = arms_fit b r.0 q r.2
    item_fits (repeat k b) p q r = let x = ranges Body bs p p (command.Repeat k) r.2.0 in (repeat_kind x.0 x.1 k x.2 x.3, run_fits b r.0 r.1 r.3)

    run_fits : (b : Run) (p q : ℕ) → ReadsRun bs p b q → FitsRun b
    run_fits done p q r = tt
    run_fits (next i b) p q r = (item_fits i p r.0 r.1, run_fits b r.0 q r.2)

    arms_fit : (b : Arms) (p q : ℕ) → ReadsArms bs p b q → FitsArms b
    arms_fit (one b) p q r = run_fits b p r.0 r.1
    arms_fit (more b c) p q r = (run_fits b p r.0 r.2, arms_fit c r.1 q r.4)

-- eithers and repeats are nested no deeper than is allowed
module _ (bs : List ℕ) (d : ℕ) (inner : (opener p : ℕ) (e : Ended) → run_at d bs opener p ≡ Ok e → nest_run e.run < d) where
  arms_nest : (n at p : ℕ) (q : Armed) → arms_by (run_at d bs at) bs n p ≡ Ok q → nest_arms q.arms < d
  unfolding arms_by
  arms_nest zero at p q e = refused e
  arms_nest (suc n) at p q e =
      let w = went _ (run_at d bs at p) q e in
      let x : Ended = w.0 in
      let low = inner at p x w.1 in
      ⊎_elim
      (λ y.
      let v = went (more_arms x.run) (arms_by (run_at d bs at) bs n x.place) q y.1 in
      let rest = arms_nest n at x.place v.0 v.1 in
      subst (λ (z : Armed). nest_arms z.arms < d) (inside v.2) (omega arith))
      (λ y. subst (λ (z : Armed). nest_arms z.arms < d) (inside y.1) low)
      (arm_by x.last _ _ _ q w.2)

  item_nests : (at : ℕ) (c : Command) (m : ℕ) (i : Parsed) → item_of (run_at d bs) bs at c m ≡ Ok i → nest_item i.item ≤ d
  item_nests at (command.Routine t) m i e = refused e
  item_nests at (command.Work t) m i e = subst (λ (y : Parsed). nest_item y.item ≤ d) (inside e) (omega arith)
  item_nests at (command.Call t) m i e = subst (λ (y : Parsed). nest_item y.item ≤ d) (inside e) (omega arith)
  item_nests at command.Either m i e =
      let w = went an_either (arms_by (run_at d bs at) bs (suc (length bs)) m) i e in
      subst (λ (y : Parsed). nest_item y.item ≤ d) (inside w.2) (arms_nest (suc (length bs)) at m w.0 w.1)
  item_nests at command.Or m i e = refused e
  item_nests at command.EndEither m i e = refused e
  item_nests at (command.Repeat t) m i e =
      let w = went (a_repeat t) (run_at d bs at m) i e in
      let x : Ended = w.0 in
      let b = repeat_by x.last _ _ i w.2 in
      subst (λ (y : Parsed). nest_item y.item ≤ d) (inside b.1) (inner at m x w.1)
  item_nests at command.EndRepeat m i e = refused e
  item_nests at command.EndRoutine m i e = refused e
  item_nests at (command.Task t u v) m i e = refused e
  item_nests at (command.Block t) m i e = refused e
  item_nests at (command.Point t u) m i e = refused e
  item_nests at command.EndTask m i e = refused e
  item_nests at command.Sheet m i e = refused e

  turn_nests : (n : ℕ) → ((p : ℕ) (e : Ended) → run_with (item_of (run_at d bs) bs) bs n p ≡ Ok e → nest_run e.run ≤ d) → (p : ℕ) (e : Ended) (r : Result (Option (ℕ × Command)) ReadFault) → turn (item_of (run_at d bs) bs) (run_with (item_of (run_at d bs) bs) bs n) bs (after Body bs p) r ≡ Ok e → nest_run e.run ≤ d
  turn_nests n ih p e (Ok None) h = refused h
  turn_nests n ih p e (Err f) h = refused h
  turn_nests n ih p e (Ok (Some c)) h =
      ⊎_elim
      (λ end. subst (λ (y : Ended). nest_run y.run ≤ d) (inside (sym (cond-true _ _ _ end) ∙ h)) (omega arith))
      (λ on.
      let w = went _ (item_of (run_at d bs) bs c.0 c.1 (after Body bs p)) e (sym (cond-false _ _ _ on) ∙ h) in
      let i : Parsed = w.0 in
      let v = went (more_items i.item) (run_with (item_of (run_at d bs) bs) bs n i.end) e w.2 in
      let x = item_nests c.0 c.1 (after Body bs p) i w.1 in
      let y = ih i.end v.0 v.1 in
      subst (λ (z : Ended). nest_run z.run ≤ d) (inside v.2) (omega arith))
      (cases_Bool (ends c.1))

  with_nests : (n p : ℕ) (e : Ended) → run_with (item_of (run_at d bs) bs) bs n p ≡ Ok e → nest_run e.run ≤ d
  unfolding run_with
  with_nests zero p e h = refused h
  with_nests (suc n) p e h = turn_nests n (with_nests n) p e (answer Body bs p) h

run_nests : (d : ℕ) (bs : List ℕ) (opener p : ℕ) (e : Ended) → run_at d bs opener p ≡ Ok e → nest_run e.run < d
unfolding run_at
run_nests zero bs opener p e h = refused h
run_nests (suc d) bs opener p e h = let x = with_nests bs d (run_nests d bs) (suc (length bs)) p e h in omega arith

module _ (bs : List ℕ) where
  blocks_fit : (n count p : ℕ) (b : Blocks × ℕ) → blocks_from bs n count p ≡ Ok b → FitsBlocks count b.0
  unfolding blocks_from
  blocks_fit zero count p b e = refused e
  blocks_fit (suc n) count p b e =
      let f : FirstBlock bs n count p b = first_block bs n count p b e in
      let small = small_block BlockDue bs p f.at f.code f.command_is in
      let c-fits : f.code ≤ 255 = omega arith in
      ⊎_elim
      (λ x. subst (FitsBlocks count) (sym x.1) (c-fits, f.few))
      (λ x.
      let y = ranges AfterBlock bs (after BlockDue bs p) x.6 (command.Point x.0 x.1) x.7 in
      let z = point_kind y.0 y.1 x.0 x.1 y.2 y.3 in
      subst (FitsBlocks count) (sym x.5) (c-fits, f.few, z.0, z.1, blocks_fit n (count + 1) _ (x.2, b.1) x.4))
      f.follows

  routine_fits : (n : ℕ) → ((seen : List Head) (p : ℕ) (rs : List Routine × ℕ) → routines_from bs n seen p ≡ Ok rs → FitsRoutines (codes seen) rs.0) → (seen : List Head) (p : ℕ) (rs : List Routine × ℕ) (r : Result (Option (ℕ × Command)) ReadFault) → answer Top bs p ≡ r → routine_turn bs seen (routines_from bs n) p (after Top bs p) r ≡ Ok rs → FitsRoutines (codes seen) rs.0
  routine_fits n ih seen p rs (Ok None) q h = subst (λ (x : List Routine × ℕ). FitsRoutines (codes seen) x.0) (inside h) tt
  routine_fits n ih seen p rs (Err f) q h = refused h
  routine_fits n ih seen p rs (Ok (Some c)) q h =
      ⊎_elim
      (λ x. subst (λ (y : List Routine × ℕ). FitsRoutines (codes seen) y.0) (inside x) tt)
      (λ x.
      let k = admitted x.0 c.0 seen _ rs x.2 in
      let w = went _ (run_at 9 bs c.0 (after Top bs p)) rs k.2 in
      let e : Ended = w.0 in
      let j = closed_cmd e.last _ _ rs w.2 in
      let v = went (more_routines x.0 c.0 e.run) _ rs j.1 in
      let small = small_routine Top bs p c.0 x.0 (q ∙ ap (λ y. Ok (Some (c.0, y))) x.1) in
      let low : x.0 ≤ 255 = omega arith in
      let r : Reads bs (after Top bs p) e = run_reads 9 bs c.0 (after Top bs p) e w.1 in
      let deep = run_nests 9 bs c.0 (after Top bs p) e w.1 in
      let shallow : nest_run e.run ≤ 8 = omega arith in
      let few : length (codes seen) < 32 = subst (λ m. m < 32) (sym (length-map seen (λ (z : Head). z.code))) k.1 in
      let rest = subst (λ l. FitsRoutines l v.0.0) (codes_push seen (head x.0 c.0)) (ih _ _ v.0 v.1) in
      subst (λ (y : List Routine × ℕ). FitsRoutines (codes seen) y.0) (inside v.2) (low, sym (used_is x.0 seen) ∙ k.0, few, run_fits bs e.run _ r.0 r.1, shallow, rest))
      (routine_cmd c.1 _ _ rs h)

  routines_fit : (n : ℕ) (seen : List Head) (p : ℕ) (rs : List Routine × ℕ) → routines_from bs n seen p ≡ Ok rs → FitsRoutines (codes seen) rs.0
  unfolding routines_from
  routines_fit zero seen p rs e = refused e
  routines_fit (suc n) seen p rs e = routine_fits n (routines_fit n) seen p rs (answer Top bs p) refl e

  task_fits : (n : ℕ) → ((seen : List Head) (p : ℕ) (ts : List Task × ℕ) → tasks_from bs n seen p ≡ Ok ts → FitsTasks (codes seen) ts.0) → (seen : List Head) (p : ℕ) (ts : List Task × ℕ) (r : Result (Option (ℕ × Command)) ReadFault) → answer Tasks bs p ≡ r → task_turn bs seen (tasks_from bs n) p (after Tasks bs p) r ≡ Ok ts → FitsTasks (codes seen) ts.0
  task_fits n ih seen p ts (Ok None) q h = subst (λ (x : List Task × ℕ). FitsTasks (codes seen) x.0) (inside h) tt
  task_fits n ih seen p ts (Err f) q h = refused h
  task_fits n ih seen p ts (Ok (Some c)) q h =
      let x = task_cmd c.1 _ _ ts h in
      let k = admitted x.0 c.0 seen _ ts x.4 in
      let w = went _ (blocks_from bs (suc (length bs)) 0 (after Tasks bs p)) ts k.2 in
      let b : Blocks × ℕ = w.0 in
      let v = went (more_tasks x.0 c.0 x.1 x.2 b.0) _ ts w.2 in
      let here = q ∙ ap (λ y. Ok (Some (c.0, y))) x.3 in
      let y = ranges Tasks bs p c.0 (command.Task x.0 x.1 x.2) here in
      let low = task_code y.0 y.1 x.0 x.1 x.2 y.2 y.3 in
      let z = task_ranges Tasks bs p c.0 x.0 x.1 x.2 here in
      let few : length (codes seen) < 32 = subst (λ m. m < 32) (sym (length-map seen (λ (g : Head). g.code))) k.1 in
      let rest = subst (λ l. FitsTasks l v.0.0) (codes_push seen (head x.0 c.0)) (ih _ _ v.0 v.1) in
      subst (λ (g : List Task × ℕ). FitsTasks (codes seen) g.0) (inside v.2) (low, z.0, z.1, z.2, z.3, sym (used_is x.0 seen) ∙ k.0, few, blocks_fit (suc (length bs)) 0 _ b w.1, rest)

  tasks_fit : (n : ℕ) (seen : List Head) (p : ℕ) (ts : List Task × ℕ) → tasks_from bs n seen p ≡ Ok ts → FitsTasks (codes seen) ts.0
  unfolding tasks_from
  tasks_fit zero seen p ts e = refused e
  tasks_fit (suc n) seen p ts e = task_fits n (tasks_fit n) seen p ts (answer Tasks bs p) refl e

  -- a listing that is read fits
  pub read_fits : (l : Listing) → listing bs ≡ Ok l → bs ≡ encode l → Fits l
  unfolding listing
  read_fits l e same =
      ⊎_elim
      (λ long. refused (sym (cond-true _ _ _ long) ∙ e))
      (λ fits.
      let w = went (tasks_then bs) (routines_from bs (suc (length bs)) [] 0) l (sym (cond-false _ _ _ fits) ∙ e) in
      let rs : List Routine × ℕ = w.0 in
      let v = went (λ (ts : List Task × ℕ). Ok (record { routines = rs.0; tasks = ts.0 })) (tasks_from bs (suc (length bs)) [] rs.1) l w.2 in
      let it : record { routines = rs.0; tasks = v.0.0 } ≡ l = let h = v.2 in cc in
      let short : length (encode l) ≤ 32768 = subst (λ x. length x ≤ 32768) same (ltb-false 32768 (length bs) fits) in
      let both = subst (λ (x : Listing). FitsRoutines [] x.routines × FitsTasks [] x.tasks) it (routines_fit (suc (length bs)) [] 0 rs w.1, tasks_fit (suc (length bs)) [] rs.1 v.0 v.1) in
      (both.0, both.1, short))
      (cases_Bool (ltb 32768 (length bs)))

accepted_by : (bs : List ℕ) → AllByRecursion (λ b. b < 256) bs → (o : Outline) (r : Result Listing ReadFault) → listing bs ≡ r → told (Ok o) ≡ outline_of r → Accepted bs (Ok o)
accepted_by bs all o (Ok l) e t = let same = accepted bs all l e in (l, e, same, read_fits bs l e same)
accepted_by bs all o (Err f) e t = cc

-- what is accepted is a tree that fits
pub accepts_tree : (bs : List ℕ) → ((i : ℕ) → get_or bs i 0 < 256) → (o : Outline) → told (Ok o) ≡ outline_of (listing bs) → Accepted bs (Ok o)
accepts_tree bs small o t = accepted_by bs (All-from_get_or (λ b. b < 256) bs 0 (λ i _. small i)) o (listing bs) refl t

-- and no tree that fits is refused
pub refuses_none : (bs : List ℕ) (f : ReadFault) → told (Err f) ≡ outline_of (listing bs) → Accepted bs (Err f)
refuses_none bs f t l fits same =
    let m = accepts l fits in
    let e : told (Err f) ≡ outline_of (Ok m.0) = t ∙ ap (λ x. outline_of (listing x)) same ∙ ap outline_of m.1 in
    cc
