-- The bytes of a tree within the ranges are accepted. Assumes nothing.
use Rattle.std.proofs.Common.{◌≡◌, ℕ, zero, suc, ◌+◌, ◌-◌, ◌*◌, ◌/◌, ◌%◌, ◌^◌, ◌<◌, ◌≤◌, true, false, ◌&&◌, leb, List, [], ◌∷◌, ◌++◌, length, take, drop, Some, None, Ok, Result, sym, refl, ap, ◌∙◌, subst, suc-add, pow-suc, zero-add, one-add, arith, lit<, length-drop, le-ltb, le-leb}
use native.Mathlib.Nat.{mod-add-div}
use borrow.Author.Tests.{lt-leb}
use Rattle.std.proofs.lemmas.List.{drop-drop, length-map}
use Rattle.std.proofs.lemmas.Bool.{cond-true, cond-false, and_from}
use Rattle.faults.specs.declared.fault.ReadFault.{ReadFault}
use Rattle.commands.specs.declared.table.Row.{Row}
use Rattle.commands.specs.declared.table.Numbers.{Numbers}
use Rattle.commands.specs.declared.table.Kind.TheVariants as kind
use Rattle.commands.specs.declared.table.Command.{Command}
use Rattle.commands.specs.declared.table.Command.TheVariants as command
use Rattle.commands.specs.declared.table.Context.{Context}
use Rattle.commands.specs.declared.table.Context.TheVariants.{Top, Tasks, Body, BlockDue, AfterBlock}
use Rattle.reading.specs.declared.heads.Head.{Head}
use Rattle.commands.specs.Commands.{row, nothing, code, ticks, turns, period, deadline, word, row_in, low, width_of, numbers_of, holds, within, command_of, a as a-command, front_of_numbers, front_of_row, decode, answered, moved, answer, after}
use Rattle.reading.specs.Heads.{head}
use Rattle.reading.specs.Trees.{Item, work, call, either, repeat, Run, done, next, Arms, one, more, Routine, Blocks, final, block, Task, Listing}
use Rattle.reading.specs.Runs.{Ended, Parsed, Armed, then, by_last, ends, more_arms, arms_by, an_either, a_repeat, item_of, more_items, turn, run_with, run_at}
use Rattle.reading.specs.Listings.{onward, admit, more_routines, routine_turn, routines_from, more_blocks, after_block, a_block, blocks_from, more_tasks, task_turn, tasks_from, tasks_then, listing}
use Rattle.reading.specs.Encoding.{write, enc_item, enc_run, enc_arms, enc_routines, enc_blocks, enc_tasks, encode}
use Rattle.reading.proofs.Codes.{codes, used_is, codes_push}
use Rattle.reading.specs.Fitting.{FitsItem, FitsRun, FitsArms, nest_item, nest_run, nest_arms, member, FitsRoutines, FitsBlocks, FitsTasks, Fits}

-- numbers that are written are read back
long-write : (w n : ℕ) (rest : List ℕ) → length (write w n rest) ≡ w + length rest
long-write zero n rest = sym (zero-add (length rest))
long-write (suc w) n rest = ap suc (long-write w (n / 256) rest) ∙ sym (suc-add w (length rest))

past-write : (w n : ℕ) (rest : List ℕ) → drop w (write w n rest) ≡ rest
past-write zero n rest = refl
past-write (suc w) n rest = past-write w (n / 256) rest

low-write : (w n : ℕ) (rest : List ℕ) → n < 256 ^ w → low (take w (write w n rest)) ≡ n
low-write zero n rest h = let z : n ≡ 0 = omega arith in sym z
low-write (suc w) n rest h =
    let p = pow-suc 256 w in
    let d = mod-add-div n 256 in
    let q : n / 256 < 256 ^ w = omega arith in
    let e = low-write w (n / 256) rest q in
    ap (λ m. n % 256 + 256 * m) e ∙ d

-- the bytes of a row's command
abbrev row_bytes : Row → Numbers → List ℕ → List ℕ
row_bytes r n rest = write r.first.width n.first (write r.second.width n.second (write r.third.width n.third rest))

record Small (r : Row) (n : Numbers) : Type 0 where
  first : n.first < 256 ^ r.first.width
  second : n.second < 256 ^ r.second.width
  third : n.third < 256 ^ r.third.width
  fits : within r n ≡ true

numbers_back : (r : Row) (n : Numbers) (rest : List ℕ) → Small r n → numbers_of r (row_bytes r n rest) ≡ n
unfolding numbers_of
numbers_back r n rest s =
    let w1 = r.first.width in
    let w2 = r.second.width in
    let x1 = write w2 n.second (write r.third.width n.third rest) in
    let one-past : drop w1 (row_bytes r n rest) ≡ x1 = past-write w1 n.first x1 in
    let two_past : drop (w1 + w2) (row_bytes r n rest) ≡ write r.third.width n.third rest = sym (drop-drop w2 w1 (row_bytes r n rest)) ∙ ap (drop w2) one-past ∙ past-write w2 n.second _ in
    let f = low-write w1 n.first x1 s.first in
    let g = ap (λ l. low (take w2 l)) one-past ∙ low-write w2 n.second _ s.second in
    let h = ap (λ l. low (take r.third.width l)) two_past ∙ low-write r.third.width n.third rest s.third in
    (λ i. record { first = f i; second = g i; third = h i })

record Given (context : Context) (bs : List ℕ) (p : ℕ) (c : Command) (rest : List ℕ) : Type 0 where
  reads : answer context bs p ≡ Ok (Some (p, c))
  leaves : drop (after context bs p) bs ≡ rest
  on : p < after context bs p
  inside : p < length bs

row_given : (context : Context) (b : ℕ) (r : Row) (n : Numbers) (bs : List ℕ) (p : ℕ) (rest : List ℕ) → row_in context b ≡ Some r → Small r n → drop p bs ≡ b ∷ row_bytes r n rest → Given context bs p (command_of r.kind n) rest
unfolding answer after
row_given context b r n bs p rest is s e =
    let xs = row_bytes r n rest in
    let l1 = long-write r.first.width n.first (write r.second.width n.second (write r.third.width n.third rest)) in
    let l2 = long-write r.second.width n.second (write r.third.width n.third rest) in
    let l3 = long-write r.third.width n.third rest in
    let enough : width_of r ≤ length xs = omega arith in
    let d : decode context (drop p bs) ≡ a-command (command_of r.kind n) (1 + width_of r) =
    ap (decode context) e ∙ ap (λ o. front_of_row o xs) is ∙ cond-false _ _ _ (le-ltb _ _ enough) ∙ ap (front_of_numbers r) (numbers_back r n rest s) ∙ cond-true _ _ _ s.fits
    in
    let past : drop (width_of r) xs ≡ rest =
    sym (drop-drop r.third.width (r.first.width + r.second.width) xs)
    ∙ ap (drop r.third.width) (sym (drop-drop r.second.width r.first.width xs) ∙ ap (drop r.second.width) (past-write r.first.width n.first _) ∙ past-write r.second.width n.second _)
    ∙ past-write r.third.width n.third rest
    in
    let on : moved p (decode context (drop p bs)) ≡ p + (1 + width_of r) = ap (moved p) d in
    record {
      reads = ap (answered p) d;
      leaves = ap (λ m. drop m bs) on ∙ sym (drop-drop (1 + width_of r) p bs) ∙ ap (drop (1 + width_of r)) e ∙ ap (λ m. drop m (b ∷ xs)) (one-add (width_of r)) ∙ past;
      on = omega arith;
      inside = omega (arith, length-drop p bs, ap length e);
    }

numbers : ℕ → ℕ → ℕ → Numbers
numbers x y z = record { first = x; second = y; third = z }

within_range : (l n t : ℕ) → l ≤ n → n ≤ t → (leb l n && leb n t) ≡ true
within_range l n t a b = and_from (leb l n) (leb n t) (le-leb l n a) (le-leb n t b)

-- commands with one operand, or none
one_small : (r : Row) (n : ℕ) → n < 256 ^ r.first.width → r.second ≡ nothing → r.third ≡ nothing → holds r.first n ≡ true → Small r (numbers n 0 0)
unfolding numbers
one_small r n h x y f =
    let second_fits = ap (λ o. holds o 0) x in
    let third-fits = ap (λ o. holds o 0) y in
    record {
      first = h;
      second = subst (λ o. 0 < 256 ^ o.width) (sym x) (lit< tt);
      third = subst (λ o. 0 < 256 ^ o.width) (sym y) (lit< tt);
      fits = and_from _ _ f (and_from _ _ second_fits (and_from _ _ third-fits refl));
    }

module _ (bs : List ℕ) (p : ℕ) (rest : List ℕ) where
  at_code : (context : Context) (b : ℕ) (k : _) → row_in context b ≡ Some (row b k code nothing nothing) → (n : ℕ) → n ≤ 255 → drop p bs ≡ b ∷ write 1 n rest → Given context bs p (command_of k (numbers n 0 0)) rest
  unfolding numbers
  at_code context b k is n h e = row_given context b (row b k code nothing nothing) (numbers n 0 0) bs p rest is (one_small (row b k code nothing nothing) n (omega arith) refl refl (within_range 0 n 255 (omega arith) h)) e

  at_bare : (context : Context) (b : ℕ) (k : _) → row_in context b ≡ Some (row b k nothing nothing nothing) → drop p bs ≡ b ∷ rest → Given context bs p (command_of k (numbers 0 0 0)) rest
  unfolding numbers
  at_bare context b k is e = row_given context b (row b k nothing nothing nothing) (numbers 0 0 0) bs p rest is (one_small (row b k nothing nothing nothing) 0 (lit< tt) refl refl refl) e

  at_work : (n : ℕ) → n ≤ 1000000 → drop p bs ≡ 0x21 ∷ write 4 n rest → Given Body bs p (command.Work n) rest
  unfolding numbers row_in
  at_work n h e = row_given Body 0x21 (row 0x21 kind.Work ticks nothing nothing) (numbers n 0 0) bs p rest refl (one_small (row 0x21 kind.Work ticks nothing nothing) n (omega arith) refl refl (within_range 0 n 1000000 (omega arith) h)) e

  at_repeat : (n : ℕ) → n ≤ 1000 → drop p bs ≡ 0x26 ∷ write 2 n rest → Given Body bs p (command.Repeat n) rest
  unfolding numbers row_in
  at_repeat n h e = row_given Body 0x26 (row 0x26 kind.Repeat turns nothing nothing) (numbers n 0 0) bs p rest refl (one_small (row 0x26 kind.Repeat turns nothing nothing) n (omega arith) refl refl (within_range 0 n 1000 (omega arith) h)) e

  at_task : (context : Context) → row_in context 0x30 ≡ Some (row 0x30 kind.Task code period deadline) → (c t d : ℕ) → c ≤ 255 → 10 ≤ t → t ≤ 1000000 → 1 ≤ d → d ≤ t → drop p bs ≡ 0x30 ∷ write 1 c (write 4 t (write 4 d rest)) → Given context bs p (command.Task c t d) rest
  unfolding numbers
  at_task context is c t d a b f g h e =
      row_given context 0x30 (row 0x30 kind.Task code period deadline) (numbers c t d) bs p rest is
      (record {
        first = omega arith;
        second = omega arith;
        third = omega arith;
        fits = and_from _ _ (within_range 0 c 255 (omega arith) a) (and_from _ _ (within_range 10 t 1000000 b f) (and_from _ _ (within_range 1 d 1000000 g (omega arith)) (le-leb d t h)));
      })
      e

  at_point : (t q : ℕ) → t ≤ 1000000 → q ≤ 65535 → drop p bs ≡ 0x32 ∷ write 4 t (write 2 q rest) → Given AfterBlock bs p (command.Point t q) rest
  unfolding numbers row_in
  at_point t q a b e =
      row_given AfterBlock 0x32 (row 0x32 kind.Point ticks word nothing) (numbers t q 0) bs p rest refl
      (record {
        first = omega arith;
        second = omega arith;
        third = lit< tt;
        fits = and_from _ _ (within_range 0 t 1000000 (omega arith) a) (and_from _ _ (within_range 0 q 65535 (omega arith) b) (and_from _ _ refl (le-leb 0 q (omega arith))));
      })
      e

  at_call : (n : ℕ) → n ≤ 255 → drop p bs ≡ 0x22 ∷ write 1 n rest → Given Body bs p (command.Call n) rest
  unfolding numbers row_in
  at_call n h e = at_code Body 0x22 kind.Call refl n h e

  at_routine : (n : ℕ) → n ≤ 255 → drop p bs ≡ 0x20 ∷ write 1 n rest → Given Top bs p (command.Routine n) rest
  unfolding numbers row_in
  at_routine n h e = at_code Top 0x20 kind.Routine refl n h e

  at_block : (n : ℕ) → n ≤ 255 → drop p bs ≡ 0x31 ∷ write 1 n rest → Given BlockDue bs p (command.Block n) rest
  unfolding numbers row_in
  at_block n h e = at_code BlockDue 0x31 kind.Block refl n h e

  at_either : drop p bs ≡ 0x23 ∷ rest → Given Body bs p command.Either rest
  unfolding numbers row_in
  at_either e = at_bare Body 0x23 kind.Either refl e

  at_or : drop p bs ≡ 0x24 ∷ rest → Given Body bs p command.Or rest
  unfolding numbers row_in
  at_or e = at_bare Body 0x24 kind.Or refl e

  at_end_either : drop p bs ≡ 0x25 ∷ rest → Given Body bs p command.EndEither rest
  unfolding numbers row_in
  at_end_either e = at_bare Body 0x25 kind.EndEither refl e

  at_end_repeat : drop p bs ≡ 0x27 ∷ rest → Given Body bs p command.EndRepeat rest
  unfolding numbers row_in
  at_end_repeat e = at_bare Body 0x27 kind.EndRepeat refl e

  at_end_routine : drop p bs ≡ 0x28 ∷ rest → Given Body bs p command.EndRoutine rest
  unfolding numbers row_in
  at_end_routine e = at_bare Body 0x28 kind.EndRoutine refl e

  at_end_task : drop p bs ≡ 0x33 ∷ rest → Given AfterBlock bs p command.EndTask rest
  unfolding numbers row_in
  at_end_task e = at_bare AfterBlock 0x33 kind.EndTask refl e

-- an item, a run and arms that are read to where their bytes end
record Took (bs : List ℕ) (d p : ℕ) (rest : List ℕ) : Type 0 where
  command_is : Command
  parsed : Parsed
  reads : answer Body bs p ≡ Ok (Some (p, command_is))
  goes_on : ends command_is ≡ false
  item : item_of (run_at d bs) bs p command_is (after Body bs p) ≡ Ok parsed
  leaves : drop parsed.end bs ≡ rest
  on : p < parsed.end
  inside : p < length bs

record RanOn (bs : List ℕ) (s : Result Ended ReadFault) (p : ℕ) (c : Command) (rest : List ℕ) : Type 0 where
  ended : Ended
  is : s ≡ Ok ended
  last_is : ended.last ≡ c
  leaves : drop ended.place bs ≡ rest
  on : p < ended.place
  inside : p < length bs

record ArmedOn (bs : List ℕ) (s : Result Armed ReadFault) (p : ℕ) (rest : List ℕ) : Type 0 where
  armed : Armed
  is : s ≡ Ok armed
  leaves : drop armed.end bs ≡ rest
  on : p < armed.end

module _ (bs : List ℕ) where
  Closes : Command → List ℕ → List ℕ → Type 0
  Closes c tail rest = (q : ℕ) → drop q bs ≡ tail → Given Body bs q c rest

  done_took : (d n p : ℕ) (c : Command) (tail rest : List ℕ) → Closes c tail rest → ends c ≡ true → drop p bs ≡ tail → RanOn bs (run_with (item_of (run_at d bs) bs) bs (suc n) p) p c rest
  unfolding run_with Closes
  done_took d n p c tail rest close end e =
      let g = close p e in
      record {
        ended = record { run = done; last = c; at = p; place = after Body bs p };
        is = ap (turn (item_of (run_at d bs) bs) (run_with (item_of (run_at d bs) bs) bs n) bs (after Body bs p)) g.reads ∙ cond-true _ _ _ end;
        last_is = refl;
        leaves = g.leaves;
        on = g.on;
        inside = g.inside;
      }

  next_took : (i : Item) (d n p : ℕ) (c : Command) (mid rest : List ℕ) (t : Took bs d p mid) → length bs ≤ p + n → ((m : ℕ) → length bs ≤ t.parsed.end + m → RanOn bs (run_with (item_of (run_at d bs) bs) bs (suc m) t.parsed.end) t.parsed.end c rest) → RanOn bs (run_with (item_of (run_at d bs) bs) bs (suc n) p) p c rest
  unfolding run_with
  next_took i d n p c mid rest t long then-run =
      let some : suc (n - 1) ≡ n = omega (arith, t.inside) in
      let m = then-run (n - 1) (omega (arith, t.on, t.inside)) in
      let e : Ended = m.ended in
      record {
        ended = record { run = next t.parsed.item e.run; last = e.last; at = e.at; place = e.place };
        is =
            ap (turn (item_of (run_at d bs) bs) (run_with (item_of (run_at d bs) bs) bs n) bs (after Body bs p)) t.reads
            ∙ cond-false _ _ _ t.goes_on
            ∙ ap (then (λ (x : Parsed). then (more_items x.item) (run_with (item_of (run_at d bs) bs) bs n x.end))) t.item
            ∙ ap (λ k. then (more_items t.parsed.item) (run_with (item_of (run_at d bs) bs) bs k t.parsed.end)) (sym some)
            ∙ ap (then (more_items t.parsed.item)) m.is;
        last_is = m.last_is;
        leaves = m.leaves;
        on = omega (arith, m.on, t.on);
        inside = t.inside;
      }

  opened : (d at p : ℕ) (c : Command) (rest : List ℕ) → 1 ≤ d → RanOn bs (run_with (item_of (run_at (d - 1) bs) bs) bs (suc (length bs)) p) p c rest → RanOn bs (run_at d bs at p) p c rest
  unfolding run_at
  opened d at p c rest h r = let e : d ≡ suc (d - 1) = omega arith in subst (λ k. RanOn bs (run_at k bs at p) p c rest) (sym e) r

  mutual
    unfolding arms_by Closes

    item_took : (i : Item) (d p : ℕ) (rest : List ℕ) → FitsItem i → nest_item i ≤ d → drop p bs ≡ enc_item i rest → Took bs d p rest
    item_took (work t) d p rest f h e =
        let g = at_work bs p rest t f e in
        record { command_is = command.Work t; parsed = record { item = work t; end = after Body bs p }; reads = g.reads; goes_on = refl; item = refl; leaves = g.leaves; on = g.on; inside = g.inside }
    item_took (call at c) d p rest f h e =
        let g = at_call bs p rest c f e in
        record { command_is = command.Call c; parsed = record { item = call p c; end = after Body bs p }; reads = g.reads; goes_on = refl; item = refl; leaves = g.leaves; on = g.on; inside = g.inside }
    item_took (either b) d p rest f h e =
        let g = at_either bs p (enc_arms b rest) e in
        let m = arms_took b d (length bs) p (after Body bs p) rest f h g.leaves (omega arith) in
        let q : Armed = m.armed in
        record { command_is = command.Either; parsed = record { item = either q.arms; end = q.end }; reads = g.reads; goes_on = refl; item = ap (then an_either) m.is; leaves = m.leaves; on = omega (arith, m.on, g.on); inside = g.inside }
    item_took (repeat k b) d p rest f h e =
        let g = at_repeat bs p (enc_run b (0x27 ∷ rest)) k f.0 e in
        let m = opened d p (after Body bs p) command.EndRepeat rest (omega arith) (run_took b (d - 1) (length bs) (after Body bs p) command.EndRepeat (0x27 ∷ rest) rest (λ q. at_end_repeat bs q rest) refl f.1 (omega arith) g.leaves (omega arith)) in
        let x : Ended = m.ended in
        record { command_is = command.Repeat k; parsed = record { item = repeat k x.run; end = x.place }; reads = g.reads; goes_on = refl; item = ap (then (a_repeat k)) m.is ∙ ap (by_last _ _ _ _ _) m.last_is; leaves = m.leaves; on = omega (arith, m.on, g.on); inside = g.inside }

    run_took : (b : Run) (d n p : ℕ) (c : Command) (tail rest : List ℕ) → ((q : ℕ) → drop q bs ≡ tail → Given Body bs q c rest) → ends c ≡ true → FitsRun b → nest_run b ≤ d → drop p bs ≡ enc_run b tail → length bs ≤ p + n → RanOn bs (run_with (item_of (run_at d bs) bs) bs (suc n) p) p c rest
    run_took done d n p c tail rest close end f h e long = done_took d n p c tail rest close end e
    run_took (next i b) d n p c tail rest close end f h e long =
        let t = item_took i d p (enc_run b tail) f.0 (omega arith) e in
        next_took i d n p c (enc_run b tail) rest t long (λ m l. run_took b d m t.parsed.end c tail rest close end f.1 (omega arith) t.leaves l)

    arms_took : (b : Arms) (d n at p : ℕ) (rest : List ℕ) → FitsArms b → suc (nest_arms b) ≤ d → drop p bs ≡ enc_arms b rest → length bs ≤ p + n → ArmedOn bs (arms_by (run_at d bs at) bs (suc n) p) p rest
    arms_took (one b) d n at p rest f h e long =
        let m = opened d at p command.EndEither rest (omega arith) (run_took b (d - 1) (length bs) p command.EndEither (0x25 ∷ rest) rest (λ q. at_end_either bs q rest) refl f (omega arith) e (omega arith)) in
        let x : Ended = m.ended in
        record { armed = record { arms = one x.run; end = x.place }; is = ap (then _) m.is ∙ ap (by_last _ _ _ _ _) m.last_is; leaves = m.leaves; on = m.on }
    arms_took (more b c) d n at p rest f h e long =
        let m = opened d at p command.Or (enc_arms c rest) (omega arith) (run_took b (d - 1) (length bs) p command.Or (0x24 ∷ enc_arms c rest) (enc_arms c rest) (λ q. at_or bs q (enc_arms c rest)) refl f.0 (omega arith) e (omega arith)) in
        let x : Ended = m.ended in
        let some : suc (n - 1) ≡ n = omega (arith, m.inside) in
        let r = arms_took c d (n - 1) at x.place rest f.1 (omega arith) m.leaves (omega (arith, m.on)) in
        let q : Armed = r.armed in
        record { armed = record { arms = more x.run q.arms; end = q.end }; is = ap (then _) m.is ∙ ap (by_last _ _ _ _ _) m.last_is ∙ ap (λ k. then (more_arms x.run) (arms_by (run_at d bs at) bs k x.place)) (sym some) ∙ ap (then (more_arms x.run)) r.is; leaves = r.leaves; on = omega (arith, m.on, r.on) }

  -- the blocks of a task
  blocks_took : (b : Blocks) (n count p : ℕ) (rest : List ℕ) → FitsBlocks count b → drop p bs ≡ enc_blocks b rest → length bs ≤ p + n → (x : Blocks × ℕ) × (blocks_from bs (suc n) count p ≡ Ok x) × (drop x.1 bs ≡ rest) × (p < x.1)
  unfolding blocks_from
  blocks_took (final at c) n count p rest f e long =
      let g = at_block bs p (0x33 ∷ rest) c f.0 e in
      let h = at_end_task bs (after BlockDue bs p) rest g.leaves in (
        (final p c, after AfterBlock bs (after BlockDue bs p)),
        ap (onward bs (a_block bs count (blocks_from bs n (count + 1)) (after BlockDue bs p))) g.reads ∙ cond-false _ _ _ (lt-leb _ _ f.1) ∙ ap (onward bs (after_block p c (blocks_from bs n (count + 1)) (after AfterBlock bs (after BlockDue bs p)))) h.reads,
        h.leaves,
        omega (arith, g.on, h.on),
      )
  blocks_took (block at c t q b) n count p rest f e long =
      let g = at_block bs p (0x32 ∷ write 4 t (write 2 q (enc_blocks b rest))) c f.0 e in
      let h = at_point bs (after BlockDue bs p) (enc_blocks b rest) t q f.2 f.3 g.leaves in
      let end = after AfterBlock bs (after BlockDue bs p) in
      let some : suc (n - 1) ≡ n = omega (arith, g.inside) in
      let r = blocks_took b (n - 1) (count + 1) end rest f.4 h.leaves (omega (arith, g.on, h.on, g.inside)) in (
        (block p c t q r.0.0, r.0.1),
        ap (onward bs (a_block bs count (blocks_from bs n (count + 1)) (after BlockDue bs p))) g.reads ∙ cond-false _ _ _ (lt-leb _ _ f.1) ∙ ap (onward bs (after_block p c (blocks_from bs n (count + 1)) end)) h.reads
            ∙ ap (λ k. then (more_blocks p c t q) (blocks_from bs k (count + 1) end)) (sym some) ∙ ap (then (more_blocks p c t q)) r.1,
        r.2,
        omega (arith, g.on, h.on, r.3),
      )

  let_in : {X : Type 0} (c at : ℕ) (hs : List Head) (r : Result X ReadFault) → member c (codes hs) ≡ false → length (codes hs) < 32 → admit c at hs r ≡ r
  let_in c at hs r new few = cond-false _ _ _ (used_is c hs ∙ new) ∙ cond-false _ _ _ (lt-leb _ _ (subst (λ n. n < 32) (length-map hs (λ (x : Head). x.code)) few))

  nothing_left : (context : Context) (p : ℕ) → drop p bs ≡ [] → answer context bs p ≡ Ok None
  unfolding answer
  nothing_left context p e = ap (λ xs. answered p (decode context xs)) e

  in_tasks : (t : Task) (ts : List Task) (p : ℕ) (seen : List ℕ) → FitsTasks seen (t ∷ ts) → drop p bs ≡ enc_tasks (t ∷ ts) [] → Given Tasks bs p (command.Task t.code t.period t.deadline) (enc_blocks t.blocks (enc_tasks ts []))
  unfolding row_in
  in_tasks t ts p seen f e = at_task bs p (enc_blocks t.blocks (enc_tasks ts [])) Tasks refl t.code t.period t.deadline f.0 f.1 f.2 f.3 f.4 e

  tasks_took : (ts : List Task) (n : ℕ) (hs : List Head) (p : ℕ) → FitsTasks (codes hs) ts → drop p bs ≡ enc_tasks ts [] → length bs ≤ p + n → (x : List Task × ℕ) × (tasks_from bs (suc n) hs p ≡ Ok x)
  unfolding tasks_from
  tasks_took [] n hs p f e long = (([], p), ap (task_turn bs hs (tasks_from bs n) p (after Tasks bs p)) (nothing_left Tasks p e))
  tasks_took (t ∷ ts) n hs p f e long =
      let g = in_tasks t ts p (codes hs) f e in
      let b = blocks_took t.blocks (length bs) 0 (after Tasks bs p) (enc_tasks ts []) f.7 g.leaves (omega arith) in
      let some : suc (n - 1) ≡ n = omega (arith, g.inside) in
      let r = tasks_took ts (n - 1) (hs ++ head t.code p ∷ []) b.0.1 (subst (λ l. FitsTasks l ts) (sym (codes_push hs (head t.code p))) f.8) b.2 (omega (arith, g.on, b.3, g.inside)) in (
        (record { code = t.code; at = p; period = t.period; deadline = t.deadline; blocks = b.0.0 } ∷ r.0.0, r.0.1),
        ap (task_turn bs hs (tasks_from bs n) p (after Tasks bs p)) g.reads ∙ let_in t.code p hs _ f.5 f.6 ∙ ap (then _) b.1
            ∙ ap (λ k. then (more_tasks t.code p t.period t.deadline b.0.0) (tasks_from bs k (hs ++ head t.code p ∷ []) b.0.1)) (sym some) ∙ ap (then (more_tasks t.code p t.period t.deadline b.0.0)) r.1,
      )

  -- where the routines end
  past : (ts : List Task) (p : ℕ) (hs seen : List Head) (n : ℕ) → FitsTasks (codes seen) ts → drop p bs ≡ enc_tasks ts [] → routines_from bs (suc n) hs p ≡ Ok ([], p)
  unfolding routines_from row_in
  past [] p hs seen n f e = ap (routine_turn bs hs (routines_from bs n) p (after Top bs p)) (nothing_left Top p e)
  past (t ∷ ts) p hs seen n f e =
      let g = at_task bs p (enc_blocks t.blocks (enc_tasks ts [])) Top refl t.code t.period t.deadline f.0 f.1 f.2 f.3 f.4 e in
      ap (routine_turn bs hs (routines_from bs n) p (after Top bs p)) g.reads

  routines_took : (rs : List Routine) (ts : List Task) (n : ℕ) (hs : List Head) (p : ℕ) → FitsTasks [] ts → FitsRoutines (codes hs) rs → drop p bs ≡ enc_routines rs (enc_tasks ts []) → length bs ≤ p + n → (x : List Routine × ℕ) × (routines_from bs (suc n) hs p ≡ Ok x) × (drop x.1 bs ≡ enc_tasks ts [])
  unfolding routines_from
  routines_took [] ts n hs p k f e long = (([], p), past ts p hs [] n k e, e)
  routines_took (r ∷ rs) ts n hs p k f e long =
      let tail = enc_routines rs (enc_tasks ts []) in
      let g = at_routine bs p (enc_run r.body (0x28 ∷ tail)) r.code f.0 e in
      let m = opened 9 p (after Top bs p) command.EndRoutine tail (omega arith) (run_took r.body 8 (length bs) (after Top bs p) command.EndRoutine (0x28 ∷ tail) tail (λ q. at_end_routine bs q tail) refl f.3 f.4 g.leaves (omega arith)) in
      let x : Ended = m.ended in
      let some : suc (n - 1) ≡ n = omega (arith, g.inside) in
      let v = routines_took rs ts (n - 1) (hs ++ head r.code p ∷ []) x.place k (subst (λ l. FitsRoutines l rs) (sym (codes_push hs (head r.code p))) f.5) m.leaves (omega (arith, g.on, m.on, g.inside)) in (
        (record { code = r.code; at = p; body = x.run } ∷ v.0.0, v.0.1),
        ap (routine_turn bs hs (routines_from bs n) p (after Top bs p)) g.reads ∙ let_in r.code p hs _ f.1 f.2 ∙ ap (then _) m.is ∙ ap (by_last _ _ _ _ _) m.last_is
            ∙ ap (λ j. then (more_routines r.code p x.run) (routines_from bs j (hs ++ head r.code p ∷ []) x.place)) (sym some) ∙ ap (then (more_routines r.code p x.run)) v.1,
        v.2,
      )

-- the bytes of a tree that fits are accepted
pub accepts : (l : Listing) → Fits l → (m : Listing) × (listing (encode l) ≡ Ok m)
unfolding listing
accepts l f =
    let bs = encode l in
    let r = routines_took bs l.routines l.tasks (length bs) [] 0 f.1 f.0 refl (omega arith) in
    let t = tasks_took bs l.tasks (length bs) [] r.0.1 f.1 r.2 (omega arith) in (
      record { routines = r.0.0; tasks = t.0.0 },
      cond-false _ _ _ (le-ltb _ _ f.2) ∙ ap (then (tasks_then bs)) r.1 ∙ ap (then (λ (ts : List Task × ℕ). Ok (record { routines = r.0.0; tasks = ts.0 }))) t.1,
    )
