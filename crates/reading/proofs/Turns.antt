-- What one turn of a run, or of an either, keeps. Assumes nothing.
use Rattle.std.proofs.Common.{◌≡◌, ℕ, zero, suc, ◌+◌, ◌-◌, ◌*◌, ◌<◌, ◌≤◌, min, max, true, false, List, length, Some, None, Ok, Err, Option, Result, sym, refl, ap, ◌∙◌, subst, ⊎_elim, add_assoc, suc-mul, zero-add, zero-mul, arith}
use Rattle.std.specs.Option.{ok_or}
use Rattle.std.proofs.lemmas.Bool.{cases_lt, cond-true, cond-false}
use Rattle.commands.specs.declared.table.Command.{Command}
use Rattle.commands.specs.declared.table.Command.TheVariants.{Routine, Work, Call, Either, Or, EndEither, Repeat, EndRepeat, EndRoutine, Task, Block, Point, EndTask, Sheet}
use Rattle.commands.specs.declared.table.Context.TheVariants.{Body}
use Rattle.faults.specs.declared.fault.ReadFault.{ReadFault}
use Rattle.faults.specs.declared.fault.ReadFault.TheVariants.{NotAllowed, Open, TooMany}
use Rattle.reading.specs.declared.walk.Ran.{Ran}
use Rattle.commands.specs.Commands.{answer, after}
use Rattle.reading.specs.Trees.{Item, Run, one, item_cost, run_cost, cost_arms}
use Rattle.reading.specs.Runs.{Ended, Parsed, Armed, then, by_last, ends, more_arms, arms_by, an_either, a_repeat, item_of, more_items, turn, run_with, run_at, ran, cap_run, RunTold, ItemTold}

abbrev Answer : Type 0
Answer = Result Ended ReadFault

abbrev pub item_at : ℕ → List ℕ → ℕ → Command → ℕ → Result Parsed ReadFault
item_at d bs = item_of (run_at d bs) bs

-- the error that `ok_or` leaves
pub ok_or_err : {X E : Type 0} (o : Option X) (e y : E) → ◌≡◌ {A = Result X E} (Err y) (ok_or o e) → y ≡ e
ok_or_err None e y h = cc
ok_or_err (Some x) e y h = cc

-- the cost and the place after an item, and after an either's arms
abbrev Price : Type 0
Price = Result (ℕ × ℕ) ReadFault

abbrev price : (ℕ → ℕ) → Result Parsed ReadFault → Price
price of (Ok p) = Ok (item_cost of p.item, p.end)
price of (Err f) = Err f

abbrev arms_price : (ℕ → ℕ) → Result Armed ReadFault → Price
arms_price of (Ok q) = Ok (cost_arms of q.arms, q.end)
arms_price of (Err f) = Err f

-- what is told of a run, and the place after it
abbrev Gone : Type 0
Gone = Result (Ran × ℕ) ReadFault

abbrev gone : (ℕ → ℕ) → Answer → Gone
gone of (Ok e) = Ok (record { cost = run_cost of e.run; last = e.last; at = e.at }, e.place)
gone of (Err f) = Err f

abbrev plus : ℕ → Gone → Gone
plus n (Ok r) = Ok (record { cost = n + r.0.cost; last = r.0.last; at = r.0.at }, r.1)
plus n (Err f) = Err f

abbrev at_least : ℕ → Price → Price
at_least n (Ok p) = Ok (max n p.0, p.1)
at_least n (Err f) = Err f

plus_zero : (r : Gone) → plus 0 r ≡ r
plus_zero (Ok r) = ap (λ n. Ok (record { cost = n; last = r.0.last; at = r.0.at }, r.1)) (zero-add r.0.cost)
plus_zero (Err f) = refl

plus_plus : (m n : ℕ) (r : Gone) → plus m (plus n r) ≡ plus (m + n) r
plus_plus m n (Ok r) = ap (λ k. Ok (record { cost = k; last = r.0.last; at = r.0.at }, r.1)) (sym (add_assoc m n r.0.cost))
plus_plus m n (Err f) = refl

at_least_zero : (p : Price) → at_least 0 p ≡ p
at_least_zero (Ok p) = let e : max 0 p.0 ≡ p.0 = omega arith in ap (λ n. Ok (n, p.1)) e
at_least_zero (Err f) = refl

at_least_twice : (m n : ℕ) (p : Price) → at_least m (at_least n p) ≡ at_least (max m n) p
at_least_twice m n (Ok p) = let e : max m (max n p.0) ≡ max (max m n) p.0 = omega arith in ap (λ k. Ok (k, p.1)) e
at_least_twice m n (Err f) = refl

module _ (of : ℕ → ℕ) where
  items_cost : (i : Item) (s : Answer) → gone of (then (more_items i) s) ≡ plus (item_cost of i) (gone of s)
  items_cost i (Ok e) = refl
  items_cost i (Err f) = refl

  arms_cost : (r : Run) (s : Result Armed ReadFault) → arms_price of (then (more_arms r) s) ≡ at_least (run_cost of r) (arms_price of s)
  arms_cost r (Ok q) = refl
  arms_cost r (Err f) = refl

  either_cost : (s : Result Armed ReadFault) → price of (then an_either s) ≡ arms_price of s
  either_cost (Ok q) = refl
  either_cost (Err f) = refl

  -- what a run was, from what is told of it
  pub record WasRun (r : Ran) (q : ℕ) (s : Answer) : Type 0 where
    pub it : Ended
    pub is : s ≡ Ok it
    pub cost_is : r.cost ≡ min (run_cost of it.run) 1000001
    pub last_is : r.last ≡ it.last
    pub at_is : r.at ≡ it.at
    pub place_is : q ≡ it.place

  pub was_run : (r : Ran) (q : ℕ) (s : Answer) → RunTold of (Ok r) q s → WasRun r q s
  was_run r q (Ok e) t =
      let says : Ok r ≡ cap_run (ran of (Ok e)) = t.says in
      let p : r ≡ record { cost = min (run_cost of e.run) 1000001; last = e.last; at = e.at } = cc in
      record { it = e; is = refl; cost_is = ap (λ (x : Ran). x.cost) p; last_is = ap (λ (x : Ran). x.last) p; at_is = ap (λ (x : Ran). x.at) p; place_is = t.stands }
  was_run r q (Err f) t = cc

  pub run_fault : (f : ReadFault) (q : ℕ) (s : Answer) → RunTold of (Err f) q s → s ≡ Err f
  run_fault f q (Ok e) t = cc
  run_fault f q (Err g) t = let says = t.says in cc

  -- what is told of a run that went so
  pub run_err : (s : Answer) (f : ReadFault) (q : ℕ) → gone of s ≡ Err f → RunTold of (Err f) q s
  run_err (Ok e) f q p = cc
  run_err (Err g) f q p = let same : g ≡ f = cc in record { says = ap Err (sym same); stands = refl }

  pub run_ok : (s : Answer) (r x : Ran) (q m : ℕ) → gone of s ≡ Ok (x, m) → r.cost ≡ min x.cost 1000001 → r.last ≡ x.last → r.at ≡ x.at → q ≡ m → RunTold of (Ok r) q s
  run_ok (Ok e) r x q m p a b c d =
      let both : (record { cost = run_cost of e.run; last = e.last; at = e.at }, e.place) ≡ (x, m) = cc in
      let y = ap (λ (w : Ran × ℕ). w.0) both in
      let z = ap (λ (w : Ran × ℕ). w.1) both in
      record { says = (λ i. Ok (record { cost = a i; last = b i; at = c i })) ∙ ap (λ (w : Ran). Ok (record { cost = min w.cost 1000001; last = w.last; at = w.at })) (sym y); stands = d ∙ sym z }
  run_ok (Err f) r x q m p a b c d = cc

  -- an item's cost and place after it, from what is told
  pub item_was : (r q : ℕ) (s : Result Parsed ReadFault) → ItemTold of (Ok r) q s → (p : Parsed) × (s ≡ Ok p) × (r ≡ min (item_cost of p.item) 1000001) × (q ≡ p.end)
  item_was r q (Ok p) t = let says = t.says in (p, refl, cc, t.stands)
  item_was r q (Err f) t = cc

  pub item_fault : (f : ReadFault) (q : ℕ) (s : Result Parsed ReadFault) → ItemTold of (Err f) q s → s ≡ Err f
  item_fault f q (Ok p) t = cc
  item_fault f q (Err g) t = let says = t.says in cc

  pub item_ok : (s : Result Parsed ReadFault) (r q n m : ℕ) → price of s ≡ Ok (n, m) → r ≡ min n 1000001 → q ≡ m → ItemTold of (Ok r) q s
  item_ok (Ok p) r q n m e a b =
      let both : (item_cost of p.item, p.end) ≡ (n, m) = cc in
      let x = ap (λ (w : ℕ × ℕ). w.0) both in
      let y = ap (λ (w : ℕ × ℕ). w.1) both in
      record { says = ap Ok (a ∙ ap (λ k. min k 1000001) (sym x)); stands = b ∙ sym y }
  item_ok (Err f) r q n m e a b = cc

  pub item_err : (s : Result Parsed ReadFault) (f : ReadFault) (q : ℕ) → price of s ≡ Err f → ItemTold of (Err f) q s
  item_err (Ok p) f q e = cc
  item_err (Err g) f q e = let same : g ≡ f = cc in record { says = ap Err (sym same); stands = refl }

-- a cap before a product changes nothing under the same cap
pub cap_product : (k c x : ℕ) → c ≡ min x 1000001 → min (k * c) 1000001 ≡ min (k * x) 1000001
cap_product zero c x e = rw (zero-mul c, zero-mul x)
cap_product (suc k) c x e =
    ⊎_elim
    (λ under. let p : c ≡ x = omega arith in ap (λ n. min (suc k * n) 1000001) p)
    (λ over. let p : c ≡ 1000001 = omega arith in omega (arith, suc-mul k c, suc-mul k x))
    (cases_lt x 1000001)

-- so much of the run is behind a place, and the rest gives the whole
pub record Going (of : ℕ → ℕ) (d : ℕ) (bs : List ℕ) (total place : ℕ) (whole : Answer) : Type 0 where
  pub left : ℕ
  pub true_total : ℕ
  pub enough : length bs ≤ place + left
  pub paid : total ≡ min true_total 1000001
  pub gives : gone of whole ≡ plus true_total (gone of (run_with (item_at d bs) bs (suc left) place))

pub too_deep : (of : ℕ → ℕ) (d opener at q : ℕ) (bs : List ℕ) → d ≡ 0 → RunTold of (Err (TooMany opener)) q (run_at d bs opener at)
unfolding run_at
too_deep of d opener at q bs e = run_err of _ _ _ (ap (λ k. gone of (run_at k bs opener at)) e)

pub start : (of : ℕ → ℕ) (d opener at : ℕ) (bs : List ℕ) → 0 < d → Going of (d - 1) bs 0 at (run_at d bs opener at)
unfolding run_at
start of d opener at bs h =
    let e : d ≡ suc (d - 1) = omega arith in
    record { left = length bs; true_total = 0; enough = omega arith; paid = refl; gives = ap (λ k. gone of (run_at k bs opener at)) e ∙ sym (plus_zero _) }

module _ (of : ℕ → ℕ) (d : ℕ) (bs : List ℕ) (total place : ℕ) (whole : Answer) (g : Going of d bs total place whole) where
  now_is : {r : _} → answer Body bs place ≡ r → gone of whole ≡ plus g.true_total (gone of (turn (item_at d bs) (run_with (item_at d bs) bs g.left) bs (after Body bs place) r))
  unfolding run_with
  now_is e = g.gives ∙ ap (λ r. plus g.true_total (gone of (turn (item_at d bs) (run_with (item_at d bs) bs g.left) bs (after Body bs place) r))) e

  pub at_open : answer Body bs place ≡ Ok None → gone of whole ≡ Err (Open (length bs))
  at_open e = now_is e

  pub at_fault : {f : ReadFault} → answer Body bs place ≡ Err f → gone of whole ≡ Err f
  at_fault e = now_is e

  module _ (at : ℕ) (c : Command) (e : answer Body bs place ≡ Ok (Some (at, c))) where
    pub at_end : ends c ≡ true → (q : ℕ) → q ≡ after Body bs place → RunTold of (Ok (record { cost = total; last = c; at = at })) q whole
    at_end h q is =
        let e = now_is e ∙ ap (λ s. plus g.true_total (gone of s)) (cond-true _ _ _ h) in
        run_ok of whole _ _ q _ e (omega (arith, g.paid)) refl refl is

    module _ (h : ends c ≡ false) where
      goes : {r : _} → item_at d bs at c (after Body bs place) ≡ r → gone of whole ≡ plus g.true_total (gone of (then (λ (p : Parsed). then (more_items p.item) (run_with (item_at d bs) bs g.left p.end)) r))
      goes i =
          now_is e ∙ ap (λ s. plus g.true_total (gone of s)) (cond-false _ _ _ h)
          ∙ ap (λ r. plus g.true_total (gone of (then (λ (p : Parsed). then (more_items p.item) (run_with (item_at d bs) bs g.left p.end)) r))) i

      pub at_item_fault : (f : ReadFault) (q : ℕ) → ItemTold of (Err f) q (item_at d bs at c (after Body bs place)) → gone of whole ≡ Err f
      at_item_fault f q t = goes (item_fault of f q _ t)

      pub at_item : (r q : ℕ) → ItemTold of (Ok r) q (item_at d bs at c (after Body bs place)) → place < q → place < length bs → Going of d bs (min (total + r) 1000001) q whole
      at_item r q t forth inside =
          let u = item_was of r q (item_at d bs at c (after Body bs place)) t in
          let p : Parsed = u.0 in
          let some : g.left ≡ suc (g.left - 1) = omega (arith, g.enough) in
          record {
            left = g.left - 1;
            true_total = g.true_total + item_cost of p.item;
            enough = omega (arith, g.enough);
            paid = omega (arith, g.paid, u.2);
            gives = goes u.1 ∙ ap (plus g.true_total) (items_cost of p.item (run_with (item_at d bs) bs g.left p.end)) ∙ plus_plus g.true_total (item_cost of p.item) _
                ∙ (λ i. plus (g.true_total + item_cost of p.item) (gone of (run_with (item_at d bs) bs (some i) (sym u.3 i))));
          }

-- so many arms of an either are behind a place, and the rest gives the whole
pub record Arming (of : ℕ → ℕ) (d : ℕ) (bs : List ℕ) (at best place : ℕ) (whole : Result Parsed ReadFault) : Type 0 where
  pub left : ℕ
  pub true_best : ℕ
  pub enough : length bs ≤ place + left
  pub paid : best ≡ min true_best 1000001
  pub gives : price of whole ≡ at_least true_best (arms_price of (arms_by (run_at d bs at) bs (suc left) place))

pub first_arm : (of : ℕ → ℕ) (d at place : ℕ) (bs : List ℕ) → Arming of d bs at 0 place (item_at d bs at Either place)
first_arm of d at place bs =
    record { left = length bs; true_best = 0; enough = omega arith; paid = refl; gives = either_cost of (arms_by (run_at d bs at) bs (suc (length bs)) place) ∙ sym (at_least_zero _) }

-- a command that is neither 24 nor 25
pub no_arm : {X : Type 0} (c : Command) (o e x : X) → (c ≡ Or → ⊥) → (c ≡ EndEither → ⊥) → by_last o e x x x c ≡ x
no_arm (Routine n) o e x h k = refl
no_arm (Work n) o e x h k = refl
no_arm (Call n) o e x h k = refl
no_arm Either o e x h k = refl
no_arm Or o e x h k = absurd (h refl)
no_arm EndEither o e x h k = absurd (k refl)
no_arm (Repeat n) o e x h k = refl
no_arm EndRepeat o e x h k = refl
no_arm EndRoutine o e x h k = refl
no_arm (Task n m p) o e x h k = refl
no_arm (Block n) o e x h k = refl
no_arm (Point t q) o e x h k = refl
no_arm EndTask o e x h k = refl
no_arm Sheet o e x h k = refl

module _ (of : ℕ → ℕ) (d : ℕ) (bs : List ℕ) (at best place : ℕ) (whole : Result Parsed ReadFault) (g : Arming of d bs at best place whole) where
  arm_rule : Ended → Result Armed ReadFault
  arm_rule e =
      by_last (then (more_arms e.run) (arms_by (run_at d bs at) bs g.left e.place)) (Ok (record { arms = one e.run; end = e.place })) (Err (NotAllowed e.at)) (Err (NotAllowed e.at)) (Err (NotAllowed e.at)) e.last

  arm_is : {r : _} → run_at d bs at place ≡ r → price of whole ≡ at_least g.true_best (arms_price of (then arm_rule r))
  unfolding arms_by arm_rule
  arm_is e = g.gives ∙ ap (λ r. at_least g.true_best (arms_price of (then arm_rule r))) e

  pub arm_fault : (f : ReadFault) (q : ℕ) → RunTold of (Err f) q (run_at d bs at place) → price of whole ≡ Err f
  arm_fault f q t = arm_is (run_fault of f q _ t)

  module _ (r : Ran) (q : ℕ) (t : RunTold of (Ok r) q (run_at d bs at place)) where
    pub arm_last : r.last ≡ EndEither → ItemTold of (Ok (max r.cost best)) q whole
    unfolding arm_rule
    arm_last h =
        let u : WasRun of r q (run_at d bs at place) = was_run of r q _ t in
        let e = arm_is u.is ∙ ap (λ s. at_least g.true_best (arms_price of s)) (ap (by_last _ _ _ _ _) (sym u.last_is ∙ h)) in
        item_ok of _ _ _ _ _ e (omega (arith, u.cost_is, g.paid)) u.place_is

    pub arm_none : (r.last ≡ Or → ⊥) → (r.last ≡ EndEither → ⊥) → price of whole ≡ Err (NotAllowed r.at)
    unfolding arm_rule
    arm_none h k =
        let u : WasRun of r q (run_at d bs at place) = was_run of r q _ t in
        arm_is u.is ∙ ap (λ s. at_least g.true_best (arms_price of s)) (no_arm u.it.last _ _ _ (λ p. h (u.last_is ∙ p)) (λ p. k (u.last_is ∙ p))) ∙ ap (λ n. Err (NotAllowed n)) (sym u.at_is)

    pub arm_next : r.last ≡ Or → place < q → place < length bs → Arming of d bs at (max r.cost best) q whole
    unfolding arm_rule
    arm_next h forth inside =
        let u : WasRun of r q (run_at d bs at place) = was_run of r q _ t in
        let it : Ended = u.it in
        let some : g.left ≡ suc (g.left - 1) = omega (arith, g.enough) in
        let e = arm_is u.is ∙ ap (λ s. at_least g.true_best (arms_price of s)) (ap (by_last _ _ _ _ _) (sym u.last_is ∙ h)) in
        record {
          left = g.left - 1;
          true_best = max g.true_best (run_cost of it.run);
          enough = omega (arith, g.enough);
          paid = omega (arith, u.cost_is, g.paid);
          gives = e ∙ ap (at_least g.true_best) (arms_cost of it.run (arms_by (run_at d bs at) bs g.left it.place)) ∙ at_least_twice g.true_best (run_cost of it.run) _
              ∙ (λ i. at_least (max g.true_best (run_cost of it.run)) (arms_price of (arms_by (run_at d bs at) bs (some i) (sym u.place_is i))));
        }

-- a repeat
module _ (of : ℕ → ℕ) (d : ℕ) (bs : List ℕ) (at place : ℕ) (c : Command) (k : ℕ) (is : c ≡ Repeat k) where
  turns_is : {r : _} → run_at d bs at place ≡ r → item_at d bs at c place ≡ then (a_repeat k) r
  turns_is e = ap (λ x. item_at d bs at x place) is ∙ ap (then (a_repeat k)) e

  module _ (r : Ran) (q : ℕ) (t : RunTold of (Ok r) q (run_at d bs at place)) where
    pub turns_last : (n : ℕ) → r.last ≡ EndRepeat → n ≡ min (k * r.cost) 1000001 → ItemTold of (Ok n) q (item_at d bs at c place)
    turns_last n h pays =
        let u : WasRun of r q (run_at d bs at place) = was_run of r q _ t in
        let it : Ended = u.it in
        let e = turns_is u.is ∙ ap (by_last _ _ _ _ _) (sym u.last_is ∙ h) in
        item_ok of _ _ _ _ _ (ap (price of) e) (pays ∙ cap_product k r.cost (run_cost of it.run) u.cost_is) u.place_is

-- the same bytes, the same place, the same command
pub item_there : (of : ℕ → ℕ) (d : ℕ) (b b' : List ℕ) (at : ℕ) (c : Command) (p p' q : ℕ) (r : Result ℕ ReadFault) → b ≡ b' → p ≡ p' → ItemTold of r q (item_at d b at c p) → ItemTold of r q (item_at d b' at c p')
item_there of d b b' at c p p' q r e f t = subst (λ x. ItemTold of r q (item_at d x at c p')) e (subst (λ x. ItemTold of r q (item_at d b at c x)) f t)

pub item_by : (of : ℕ → ℕ) (d : ℕ) (bs : List ℕ) (at : ℕ) (c k : Command) (p q : ℕ) (r : Result ℕ ReadFault) → c ≡ k → ItemTold of r q (item_at d bs at k p) → ItemTold of r q (item_at d bs at c p)
item_by of d bs at c k p q r is t = subst (λ x. ItemTold of r q (item_at d bs at x p)) (sym is) t

pub told_there : (of : ℕ → ℕ) (d : ℕ) (b b' : List ℕ) (at p p' q : ℕ) (r : Result Ran ReadFault) → b ≡ b' → p ≡ p' → RunTold of r q (run_at d b at p) → RunTold of r q (run_at d b' at p')
told_there of d b b' at p p' q r e f t = subst (λ x. RunTold of r q (run_at d x at p')) e (subst (λ x. RunTold of r q (run_at d b at x)) f t)
