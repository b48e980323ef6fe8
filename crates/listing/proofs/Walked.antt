-- The calls that a walk meets are those of the tree. Assumes nothing.
use Rattle.std.proofs.Common.{◌≡◌, ℕ, suc, ◌+◌, ◌-◌, ◌<◌, ◌≤◌, List, [], ◌∷◌, ◌++◌, length, drop, Some, Ok, sym, refl, ap, ◌∙◌, subst, arith, length-drop}
use Rattle.std.proofs.lemmas.List.{append-nil, append_assoc}
use Rattle.commands.specs.declared.table.Command.{Command}
use Rattle.commands.specs.declared.table.Command.TheVariants.{Work, Call, Either, Or, EndEither, Repeat, EndRepeat, EndRoutine}
use Rattle.commands.specs.declared.table.Context.TheVariants.{Body, Top}
use Rattle.reading.specs.declared.heads.Head.{Head}
use Rattle.commands.specs.Commands.{answer, after}
use Rattle.reading.specs.Heads.{head}
use Rattle.reading.specs.Trees.{Item, work, call, either, repeat, Run, done, next, Arms, one, more, Routine, calls_item, calls_run, calls_arms}
use Rattle.reading.specs.Runs.{Ended}
use Rattle.listing.specs.Calls.{by_call, calls_turn, calls_from, calls_at}
use Rattle.commands.proofs.Inverted.{Written, read_written}
use Rattle.reading.proofs.Spelled.{Cmd, ReadsItem, ReadsRun, ReadsArms, Reads, run_reads}
use Rattle.reading.specs.Bodies.{BodyRead}

-- a command takes the walk on
cmd_on : (bs : List ℕ) (p : ℕ) (c : Command) (q : ℕ) → Cmd bs p c q → (p < q) × (p < length bs)
cmd_on bs p c q k =
    let w = read_written Body bs p p c k.0 in
    let x : Written Body (drop p bs) c w.0 = w.1 in
    let l = ap length x.bytes_are in
    (omega (arith, x.size_is, w.2, k.1), omega (arith, l, length-drop p bs))

-- from a place, with fuel enough, the walk meets some calls and goes on from another place
record Goes (bs : List ℕ) (n p : ℕ) (calls : List Head) (q : ℕ) : Type 0 where
  fuel : ℕ
  enough : length bs ≤ q + fuel
  meets : calls_from bs (suc n) p ≡ calls ++ calls_from bs (suc fuel) q

goes_on : (bs : List ℕ) (n p q r : ℕ) (xs ys : List Head) (g : Goes bs n p xs q) → Goes bs g.fuel q ys r → Goes bs n p (xs ++ ys) r
goes_on bs n p q r xs ys g h =
    record { fuel = h.fuel; enough = h.enough; meets = g.meets ∙ ap (λ l. xs ++ l) h.meets ∙ sym (append_assoc xs ys _) }

cmd_goes : (bs : List ℕ) (n p : ℕ) (c : Command) (q : ℕ) (calls : List Head) → length bs ≤ p + n → Cmd bs p c q → ((rest : List Head) → by_call (λ k. head k p ∷ rest) [] rest c ≡ calls ++ rest) → Goes bs n p calls q
unfolding calls_from
cmd_goes bs n p c q calls long k rule =
    let f = cmd_on bs p c q k in
    let some : n ≡ suc (n - 1) = omega arith in
    record {
      fuel = n - 1;
      enough = omega arith;
      meets = ap (calls_turn (calls_from bs n (after Body bs p))) k.0 ∙ rule (calls_from bs n (after Body bs p)) ∙ (λ i. calls ++ calls_from bs (some i) (k.1 i));
    }

mutual
  item_goes : (i : Item) (bs : List ℕ) (n p q : ℕ) → length bs ≤ p + n → ReadsItem bs p i q → Goes bs n p (calls_item i) q
  item_goes (work t) bs n p q long r = cmd_goes bs n p (Work t) q [] long r (λ rest. refl)
  item_goes (call at c) bs n p q long r = cmd_goes bs n p (Call c) q (head c at ∷ []) long r.1 (λ rest. ap (λ x. head c x ∷ rest) (sym r.0))
  item_goes (either a) bs n p q long r =
      let g = cmd_goes bs n p Either r.0 [] long r.1 (λ rest. refl) in
      goes_on bs n p r.0 q [] (calls_arms a) g (arms_goes a bs g.fuel r.0 q g.enough r.2)
  item_goes (repeat k b) bs n p q long r =
      let g = cmd_goes bs n p (Repeat k) r.0 [] long r.2 (λ rest. refl) in
      let h = run_goes b bs g.fuel r.0 r.1 g.enough r.3 in
      let j = cmd_goes bs h.fuel r.1 EndRepeat q [] h.enough r.4 (λ rest. refl) in
      let both = goes_on bs g.fuel r.0 r.1 q (calls_run b) [] h j in
      subst (λ l. Goes bs n p l q) (append-nil (calls_run b)) (goes_on bs n p r.0 q [] (calls_run b ++ []) g both)

  run_goes : (b : Run) (bs : List ℕ) (n p q : ℕ) → length bs ≤ p + n → ReadsRun bs p b q → Goes bs n p (calls_run b) q
  run_goes done bs n p q long r = record { fuel = n; enough = omega arith; meets = ap (calls_from bs (suc n)) r }
  run_goes (next i b) bs n p q long r =
      let g = item_goes i bs n p r.0 long r.1 in
      goes_on bs n p r.0 q (calls_item i) (calls_run b) g (run_goes b bs g.fuel r.0 q g.enough r.2)

  arms_goes : (a : Arms) (bs : List ℕ) (n p q : ℕ) → length bs ≤ p + n → ReadsArms bs p a q → Goes bs n p (calls_arms a) q
  arms_goes (one b) bs n p q long r =
      let g = run_goes b bs n p r.0 long r.1 in
      let h = cmd_goes bs g.fuel r.0 EndEither q [] g.enough r.2 (λ rest. refl) in
      subst (λ l. Goes bs n p l q) (append-nil (calls_run b)) (goes_on bs n p r.0 q (calls_run b) [] g h)
  arms_goes (more b a) bs n p q long r =
      let g = run_goes b bs n p r.0 long r.2 in
      let h = cmd_goes bs g.fuel r.0 Or r.1 [] g.enough r.3 (λ rest. refl) in
      let j = arms_goes a bs h.fuel r.1 q h.enough r.4 in
      goes_on bs n p r.0 q (calls_run b) (calls_arms a) g (goes_on bs g.fuel r.0 r.1 q [] (calls_arms a) h j)

-- the calls that are met in a routine are those of its body
pub calls_are : (bs : List ℕ) (r : Routine) → BodyRead bs r → calls_at bs r.at ≡ calls_run r.body
unfolding calls_from
calls_are bs r b =
    let e : Ended = b.ended in
    let x : Reads bs (after Top bs r.at) e = run_reads 9 bs r.at (after Top bs r.at) e b.run_is in
    let g = run_goes e.run bs (length bs) (after Top bs r.at) x.0 (omega arith) x.1 in
    let last : answer Body bs x.0 ≡ Ok (Some (x.0, EndRoutine)) = x.2.0 ∙ ap (λ c. Ok (Some (x.0, c))) b.last_is in
    g.meets ∙ ap (λ a. calls_run e.run ++ calls_turn (calls_from bs g.fuel (after Body bs x.0)) a) last ∙ append-nil (calls_run e.run) ∙ ap calls_run b.body_is
