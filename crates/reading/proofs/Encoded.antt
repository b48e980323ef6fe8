-- Bytes that are accepted are those of their tree. Assumes nothing.
use Rattle.std.proofs.Common.{◌≡◌, ℕ, zero, suc, ◌+◌, ◌*◌, ◌/◌, ◌%◌, ◌<◌, ◌≤◌, true, false, eqb, ltb, List, [], ◌∷◌, length, take, drop, Some, None, Ok, Err, Option, Result, sym, refl, ap, ◌∙◌, subst, ⊎_elim, mod-eq_of_lt, zero-add, one-add, arith, lit<, length-drop}
use native.Mathlib.Nat.{add-mul-mod_self_left, add-mul-div_left, div-eq_of_lt}
use Rattle.std.proofs.lemmas.List.{drop-drop}
use Rattle.std.proofs.ByRecursion.{All-drop}
use Rattle.std.proofs.lemmas.Bool.{cases_Bool, cond-true, cond-false, eqb-true, both_ways}
use Rattle.std.specs.List.{AllByRecursion}
use Rattle.faults.specs.declared.fault.ReadFault.{ReadFault}
use Rattle.commands.specs.declared.table.Row.{Row}
use Rattle.commands.specs.declared.table.Kind.TheVariants as kind
use Rattle.commands.specs.declared.table.Numbers.{Numbers}
use Rattle.commands.specs.declared.table.Command.{Command}
use Rattle.commands.specs.declared.table.Command.TheVariants as command
use Rattle.commands.specs.declared.table.Context.{Context}
use Rattle.commands.specs.declared.table.Context.TheVariants.{Top, Tasks, Body, BlockDue, AfterBlock}
use Rattle.reading.specs.declared.heads.Head.{Head}
use Rattle.commands.specs.Commands.{rows, row_of, row_in, allows, allowed, low, width_of, numbers_of, within, command_of, short, range, a as a-command, front_of_numbers, front_of_row, decode, answered, answer, after}
use Rattle.reading.specs.Trees.{Item, work, call, either, repeat, Run, done, next, Arms, one, more, Routine, Blocks, Task, Listing}
use Rattle.reading.specs.Runs.{Ended, run_at}
use Rattle.reading.specs.Listings.{more_routines, routine_turn, routines_from, more_tasks, task_turn, tasks_from, blocks_from, tasks_then, listing}
use Rattle.reading.specs.Encoding.{write, enc_item, enc_run, enc_arms, enc_routines, enc_blocks, enc_tasks, encode}
use Rattle.commands.proofs.Rows.{allowed_row}
use Rattle.commands.proofs.Inverted.{Written, read_written}
use Rattle.reading.proofs.Spelled.{Cmd, ReadsItem, ReadsRun, ReadsArms, Reads, run_reads, went}
use Rattle.reading.proofs.Stepped.{refused, nothing, FirstBlock, first_block}
use Rattle.reading.proofs.Bodies.{admitted, inside, routine_cmd, task_cmd, closed_cmd}

abbrev Bytes : List ℕ → Type 0
Bytes = AllByRecursion (λ b. b < 256)

-- the bytes of one command
abbrev spelled : Command → List ℕ → List ℕ
spelled (command.Routine n) after = 0x20 ∷ write 1 n after
spelled (command.Work n) after = 0x21 ∷ write 4 n after
spelled (command.Call n) after = 0x22 ∷ write 1 n after
spelled command.Either after = 0x23 ∷ after
spelled command.Or after = 0x24 ∷ after
spelled command.EndEither after = 0x25 ∷ after
spelled (command.Repeat n) after = 0x26 ∷ write 2 n after
spelled command.EndRepeat after = 0x27 ∷ after
spelled command.EndRoutine after = 0x28 ∷ after
spelled (command.Task n m k) after = 0x30 ∷ write 1 n (write 4 m (write 4 k after))
spelled (command.Block n) after = 0x31 ∷ write 1 n after
spelled (command.Point n m) after = 0x32 ∷ write 4 n (write 2 m after)
spelled command.EndTask after = 0x33 ∷ after
spelled command.Sheet after = after

-- a number that is read from bytes is written as them
write_back : (w : ℕ) (xs : List ℕ) → w ≤ length xs → Bytes xs → write w (low (take w xs)) (drop w xs) ≡ xs
write_back zero xs h all = refl
write_back (suc w) [] h all = absurd (omega arith)
write_back (suc w) (x ∷ xs) h all =
    let l = low (take w xs) in
    let small = all.0 in
    let digit : (x + 256 * l) % 256 ≡ x = add-mul-mod_self_left x 256 l ∙ mod-eq_of_lt small in
    let rest : (x + 256 * l) / 256 ≡ l = add-mul-div_left x l (lit< tt) ∙ ap (λ n. n + l) (div-eq_of_lt small) ∙ zero-add l in
    (λ i. digit i ∷ write w (rest i) (drop w xs)) ∙ ap (λ ys. x ∷ ys) (write_back w xs (omega arith) all.1)

-- what a row says of its command
abbrev Spells : Row → Type 0
Spells r = (r.kind ≡ kind.Sheet → ⊥) → (n : Numbers) (after : List ℕ) → r.byte ∷ write r.first.width n.first (write r.second.width n.second (write r.third.width n.third after)) ≡ spelled (command_of r.kind n) after

found_all : (P : Row → Type 0) (xs : List Row) (b : ℕ) (r : Row) → AllByRecursion P xs → row_of xs b ≡ Some r → P r
found_all P [] b r all e = nothing e
found_all P (x ∷ xs) b r all e =
    ⊎_elim
    (λ same. let p : x ≡ r = let f = sym (cond-true (eqb x.byte b) (Some x) (row_of xs b) same) ∙ e in cc in subst P p all.0)
    (λ other. found_all P xs b r all.1 (sym (cond-false _ _ _ other) ∙ e))
    (cases_Bool (eqb x.byte b))

found_byte : (xs : List Row) (b : ℕ) (r : Row) → row_of xs b ≡ Some r → r.byte ≡ b
found_byte [] b r e = nothing e
found_byte (x ∷ xs) b r e =
    ⊎_elim
    (λ same. let p : x ≡ r = let f = sym (cond-true (eqb x.byte b) (Some x) (row_of xs b) same) ∙ e in cc in ap (λ (y : Row). y.byte) (sym p) ∙ eqb-true x.byte b same)
    (λ other. found_byte xs b r (sym (cond-false _ _ _ other) ∙ e))
    (cases_Bool (eqb x.byte b))

spells : (b : ℕ) (r : Row) → row_of rows b ≡ Some r → Spells r
spells b r e = found_all Spells rows b r ((λ _ n after. refl), ((λ _ n after. refl), ((λ _ n after. refl), ((λ _ n after. refl), ((λ _ n after. refl), ((λ _ n after. refl), ((λ _ n after. refl), ((λ _ n after. refl), ((λ _ n after. refl), ((λ _ n after. refl), ((λ _ n after. refl), ((λ _ n after. refl), ((λ _ n after. refl), ((λ h n after. absurd (h refl)), ((λ h n after. absurd (h refl)), ((λ h n after. absurd (h refl)), ((λ h n after. absurd (h refl)), tt))))))))))))))))) e

no_sheet : (context : Context) → allows kind.Sheet context ≡ false
no_sheet Top = refl
no_sheet Tasks = refl
no_sheet Body = refl
no_sheet BlockDue = refl
no_sheet AfterBlock = refl

allowed_kind : (context : Context) (o : Option Row) (r : Row) → allowed context o ≡ Some r → allows r.kind context ≡ true
allowed_kind context None r e = nothing e
allowed_kind context (Some x) r e =
    ⊎_elim
    (λ good. let p : x ≡ r = let f = sym (cond-true (allows x.kind context) (Some x) None good) ∙ e in cc in ap (λ (y : Row). allows y.kind context) (sym p) ∙ good)
    (λ bad. nothing (sym (cond-false (allows x.kind context) (Some x) None bad) ∙ e))
    (cases_Bool (allows x.kind context))

not_sheet : (context : Context) (b : ℕ) (r : Row) → row_in context b ≡ Some r → r.kind ≡ kind.Sheet → ⊥
unfolding row_in
not_sheet context b r e s = both_ways _ (ap (λ k. allows k context) s ∙ no_sheet context) (allowed_kind context (row_of rows b) r e)

-- a command that is written is spelled in the bytes
written_bytes : (context : Context) (bs : List ℕ) (c : Command) (n : ℕ) → Bytes bs → Written context bs c n → bs ≡ spelled c (drop n bs)
unfolding numbers_of
written_bytes context bs c n all w =
    let r = w.row in
    let xs = w.rest in
    let rest-bytes : Bytes xs = (subst Bytes w.bytes_are all).1 in
    let is = allowed_row context w.byte r w.row_is in
    let w1 = r.first.width in
    let w2 = r.second.width in
    let w3 = r.third.width in
    let enough = w.enough in
    let one-back = write_back w1 xs (omega arith) rest-bytes in
    let l1 = length-drop w1 xs in
    let two_back = write_back w2 (drop w1 xs) (omega arith) (All-drop (λ b. b < 256) w1 xs rest-bytes) in
    let l2 = length-drop (w1 + w2) xs in
    let three_back = write_back w3 (drop (w1 + w2) xs) (omega arith) (All-drop (λ b. b < 256) (w1 + w2) xs rest-bytes) in
    let first_two = drop-drop w2 w1 xs in
    let All-three = drop-drop w3 (w1 + w2) xs in
    let end : drop n bs ≡ drop (width_of r) xs = ap (λ m. drop m bs) (sym w.size_is) ∙ ap (drop (1 + width_of r)) w.bytes_are ∙ ap (λ m. drop m (w.byte ∷ xs)) (one-add (width_of r)) in
    let body : xs ≡ write w1 (low (take w1 xs)) (write w2 (low (take w2 (drop w1 xs))) (write w3 (low (take w3 (drop (w1 + w2) xs))) (drop (width_of r) xs))) =
    sym one-back ∙ ap (write w1 (low (take w1 xs))) (sym two_back ∙ ap (write w2 (low (take w2 (drop w1 xs)))) (first_two ∙ sym three_back ∙ ap (write w3 (low (take w3 (drop (w1 + w2) xs)))) All-three))
    in
    w.bytes_are
    ∙ (λ i. sym (found_byte rows w.byte r is) i ∷ body i)
    ∙ spells w.byte r is (not_sheet context w.byte r w.row_is) (numbers_of r xs) (drop (width_of r) xs)
    ∙ (λ i. spelled (w.command_is i) (sym end i))

-- at the end of the bytes nothing is left
some_numbers : {Y : Type 0} (r : Row) (n : Numbers) (p : ℕ) → answered p (front_of_numbers r n) ≡ Ok None → Y
some_numbers r n p e =
    ⊎_elim
    (λ good. let f = sym (ap (answered p) (cond-true (within r n) (a-command (command_of r.kind n) (1 + width_of r)) range good)) ∙ e in cc)
    (λ bad. let f = sym (ap (answered p) (cond-false (within r n) (a-command (command_of r.kind n) (1 + width_of r)) range bad)) ∙ e in cc)
    (cases_Bool (within r n))

some_by : {Y : Type 0} (o : Option Row) (xs : List ℕ) (p : ℕ) → answered p (front_of_row o xs) ≡ Ok None → Y
some_by None xs p e = cc
some_by (Some r) xs p e =
    ⊎_elim
    (λ cut. let f = sym (ap (answered p) (cond-true (ltb (length xs) (width_of r)) short (front_of_numbers r (numbers_of r xs)) cut)) ∙ e in cc)
    (λ whole. some_numbers r (numbers_of r xs) p (sym (ap (answered p) (cond-false (ltb (length xs) (width_of r)) short (front_of_numbers r (numbers_of r xs)) whole)) ∙ e))
    (cases_Bool (ltb (length xs) (width_of r)))

end_by : (context : Context) (xs : List ℕ) (p : ℕ) → answered p (decode context xs) ≡ Ok None → xs ≡ []
end_by context [] p e = refl
end_by context (x ∷ xs) p e = some_by (row_in context x) xs p e

at_end : (context : Context) (bs : List ℕ) (p : ℕ) → answer context bs p ≡ Ok None → drop p bs ≡ []
unfolding answer
at_end context bs p e = end_by context (drop p bs) p e

module _ (bs : List ℕ) (all : Bytes bs) where
  cmd_bytes : (context : Context) (p at : ℕ) (c : Command) → answer context bs p ≡ Ok (Some (at, c)) → drop p bs ≡ spelled c (drop (after context bs p) bs)
  cmd_bytes context p at c e =
      let w = read_written context bs p at c e in
      written_bytes context (drop p bs) c w.0 (All-drop (λ b. b < 256) p bs all) w.1
      ∙ ap (spelled c) (drop-drop w.0 p bs ∙ ap (λ m. drop m bs) (sym w.2))

  here_bytes : (p : ℕ) (c : Command) (q : ℕ) → Cmd bs p c q → drop p bs ≡ spelled c (drop q bs)
  here_bytes p c q k = cmd_bytes Body p p c k.0 ∙ ap (λ m. spelled c (drop m bs)) k.1

  mutual
    item_bytes : (i : Item) (p q : ℕ) → ReadsItem bs p i q → drop p bs ≡ enc_item i (drop q bs)
    item_bytes (work t) p q r = here_bytes p (command.Work t) q r
    item_bytes (call at c) p q r = here_bytes p (command.Call c) q r.1
    item_bytes (either a) p q r = here_bytes p command.Either r.0 r.1 ∙ ap (λ l. 0x23 ∷ l) (arms_bytes a r.0 q r.2)
    item_bytes (repeat k b) p q r = here_bytes p (command.Repeat k) r.0 r.2 ∙ ap (λ l. 0x26 ∷ write 2 k l) (run_bytes b r.0 r.1 r.3 ∙ ap (enc_run b) (here_bytes r.1 command.EndRepeat q r.4))

    run_bytes : (b : Run) (p q : ℕ) → ReadsRun bs p b q → drop p bs ≡ enc_run b (drop q bs)
    run_bytes done p q r = ap (λ m. drop m bs) r
    run_bytes (next i b) p q r = item_bytes i p r.0 r.1 ∙ ap (enc_item i) (run_bytes b r.0 q r.2)

    arms_bytes : (a : Arms) (p q : ℕ) → ReadsArms bs p a q → drop p bs ≡ enc_arms a (drop q bs)
    arms_bytes (one b) p q r = run_bytes b p r.0 r.1 ∙ ap (enc_run b) (here_bytes r.0 command.EndEither q r.2)
    arms_bytes (more b a) p q r = run_bytes b p r.0 r.2 ∙ ap (enc_run b) (here_bytes r.0 command.Or r.1 r.3 ∙ ap (λ l. 0x24 ∷ l) (arms_bytes a r.1 q r.4))

  blocks_bytes : (n count p : ℕ) (b : Blocks × ℕ) → blocks_from bs n count p ≡ Ok b → drop p bs ≡ enc_blocks b.0 (drop b.1 bs)
  unfolding blocks_from
  blocks_bytes zero count p b e = refused e
  blocks_bytes (suc n) count p b e =
      let f : FirstBlock bs n count p b = first_block bs n count p b e in
      let start = cmd_bytes BlockDue p f.at (command.Block f.code) f.command_is in
      ⊎_elim
      (λ x. start ∙ ap (λ l. 0x31 ∷ write 1 f.code l) (cmd_bytes AfterBlock (after BlockDue bs p) x.2 command.EndTask x.3) ∙ (λ i. enc_blocks (sym x.1 i) (drop (sym x.4 i) bs)))
      (λ x.
      start ∙ ap (λ l. 0x31 ∷ write 1 f.code l) (cmd_bytes AfterBlock (after BlockDue bs p) x.6 (command.Point x.0 x.1) x.7 ∙ ap (λ l. 0x32 ∷ write 4 x.0 (write 2 x.1 l)) (blocks_bytes n (count + 1) (after AfterBlock bs (after BlockDue bs p)) (x.2, b.1) x.4))
      ∙ ap (λ z. enc_blocks z (drop b.1 bs)) (sym x.5))
      f.follows

  routine_bytes : (n : ℕ) → ((seen : List Head) (p : ℕ) (rs : List Routine × ℕ) → routines_from bs n seen p ≡ Ok rs → drop p bs ≡ enc_routines rs.0 (drop rs.1 bs)) → (seen : List Head) (p : ℕ) (rs : List Routine × ℕ) (r : Result (Option (ℕ × Command)) ReadFault) → answer Top bs p ≡ r → routine_turn bs seen (routines_from bs n) p (after Top bs p) r ≡ Ok rs → drop p bs ≡ enc_routines rs.0 (drop rs.1 bs)
  routine_bytes n ih seen p rs (Ok None) a h = ap (λ (x : List Routine × ℕ). enc_routines x.0 (drop x.1 bs)) (inside h)
  routine_bytes n ih seen p rs (Err f) a h = refused h
  routine_bytes n ih seen p rs (Ok (Some c)) a h =
      ⊎_elim
      (λ x. ap (λ (y : List Routine × ℕ). enc_routines y.0 (drop y.1 bs)) (inside x))
      (λ x.
      let w = went _ (run_at 9 bs c.0 (after Top bs p)) rs (admitted x.0 c.0 seen _ rs x.2).2 in
      let e : Ended = w.0 in
      let k = closed_cmd e.last _ _ rs w.2 in
      let v = went (more_routines x.0 c.0 e.run) _ rs k.1 in
      let start = cmd_bytes Top p c.0 (command.Routine x.0) (a ∙ ap (λ y. Ok (Some (c.0, y))) x.1) in
      let r : Reads bs (after Top bs p) e = run_reads 9 bs c.0 (after Top bs p) e w.1 in
      let body = run_bytes e.run (after Top bs p) r.0 r.1 in
      let close = here_bytes r.0 e.last e.place r.2 ∙ ap (λ y. spelled y (drop e.place bs)) k.0 in
      let rest = ih _ _ v.0 v.1 in
      start ∙ ap (λ l. 0x20 ∷ write 1 x.0 l) (body ∙ ap (enc_run e.run) (close ∙ ap (λ l. 0x28 ∷ l) rest)) ∙ ap (λ (y : List Routine × ℕ). enc_routines y.0 (drop y.1 bs)) (inside v.2))
      (routine_cmd c.1 _ _ rs h)

  routines_bytes : (n : ℕ) (seen : List Head) (p : ℕ) (rs : List Routine × ℕ) → routines_from bs n seen p ≡ Ok rs → drop p bs ≡ enc_routines rs.0 (drop rs.1 bs)
  unfolding routines_from
  routines_bytes zero seen p rs e = refused e
  routines_bytes (suc n) seen p rs e = routine_bytes n (routines_bytes n) seen p rs (answer Top bs p) refl e

  task_bytes : (n : ℕ) → ((seen : List Head) (p : ℕ) (ts : List Task × ℕ) → tasks_from bs n seen p ≡ Ok ts → drop p bs ≡ enc_tasks ts.0 []) → (seen : List Head) (p : ℕ) (ts : List Task × ℕ) (r : Result (Option (ℕ × Command)) ReadFault) → answer Tasks bs p ≡ r → task_turn bs seen (tasks_from bs n) p (after Tasks bs p) r ≡ Ok ts → drop p bs ≡ enc_tasks ts.0 []
  task_bytes n ih seen p ts (Ok None) a h = at_end Tasks bs p a ∙ ap (λ (x : List Task × ℕ). enc_tasks x.0 []) (inside h)
  task_bytes n ih seen p ts (Err f) a h = refused h
  task_bytes n ih seen p ts (Ok (Some c)) a h =
      let x = task_cmd c.1 _ _ ts h in
      let w = went _ (blocks_from bs (suc (length bs)) 0 (after Tasks bs p)) ts (admitted x.0 c.0 seen _ ts x.4).2 in
      let b : Blocks × ℕ = w.0 in
      let v = went (more_tasks x.0 c.0 x.1 x.2 b.0) _ ts w.2 in
      let start = cmd_bytes Tasks p c.0 (command.Task x.0 x.1 x.2) (a ∙ ap (λ y. Ok (Some (c.0, y))) x.3) in
      let body = blocks_bytes (suc (length bs)) 0 (after Tasks bs p) b w.1 in
      let rest = ih _ _ v.0 v.1 in
      start ∙ ap (λ l. 0x30 ∷ write 1 x.0 (write 4 x.1 (write 4 x.2 l))) (body ∙ ap (enc_blocks b.0) rest) ∙ ap (λ (y : List Task × ℕ). enc_tasks y.0 []) (inside v.2)

  tasks_bytes : (n : ℕ) (seen : List Head) (p : ℕ) (ts : List Task × ℕ) → tasks_from bs n seen p ≡ Ok ts → drop p bs ≡ enc_tasks ts.0 []
  unfolding tasks_from
  tasks_bytes zero seen p ts e = refused e
  tasks_bytes (suc n) seen p ts e = task_bytes n (tasks_bytes n) seen p ts (answer Tasks bs p) refl e

  -- an accepted listing's bytes are its tree's
  pub accepted : (l : Listing) → listing bs ≡ Ok l → bs ≡ encode l
  unfolding listing
  accepted l e =
      ⊎_elim
      (λ long. refused (sym (cond-true _ _ _ long) ∙ e))
      (λ fits.
      let w = went (tasks_then bs) (routines_from bs (suc (length bs)) [] 0) l (sym (cond-false _ _ _ fits) ∙ e) in
      let rs : List Routine × ℕ = w.0 in
      let v = went (λ (ts : List Task × ℕ). Ok (record { routines = rs.0; tasks = ts.0 })) (tasks_from bs (suc (length bs)) [] rs.1) l w.2 in
      let same : record { routines = rs.0; tasks = v.0.0 } ≡ l = let h = v.2 in cc in
      routines_bytes (suc (length bs)) [] 0 rs w.1 ∙ ap (enc_routines rs.0) (tasks_bytes (suc (length bs)) [] rs.1 v.0 v.1) ∙ ap encode same)
      (cases_Bool (ltb 32768 (length bs)))
