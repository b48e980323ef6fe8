-- What one turn of noting calls keeps. Assumes nothing.
use Rattle.std.proofs.Math.Bool.{or-true, or-false}
use Rattle.std.proofs.Common.{◌≡◌, ℕ, suc, ◌+◌, ◌-◌, ◌<◌, ◌≤◌, Bool, true, false, ◌||◌, ◌≢◌, List, [], ◌∷◌, length, get_or, set, replicate, Some, None, Ok, Err, Option, Result, inl, inr, ◌⊎◌, sym, refl, ap, ◌∙◌, subst, ⊎_elim, arith, length-set, get_or-set_other, get_or-set_same, eq-eqb, ne_eqb}
use Rattle.std.specs.Option.{option_flatten}
use Rattle.std.specs.Result.{result_ok}
use Rattle.std.proofs.lemmas.List.{get_or-replicate}
use Rattle.std.proofs.lemmas.Bool.{cond-true, cond-false, cases_eq, cases_Bool}
use Rattle.faults.specs.declared.fault.ReadFault.{ReadFault}
use Rattle.commands.specs.declared.table.Command.{Command}
use Rattle.commands.specs.declared.table.Command.TheVariants.{Routine, Work, Call, Either, Or, EndEither, Repeat, EndRepeat, EndRoutine, Task, Block, Point, EndTask, Sheet}
use Rattle.commands.specs.declared.table.Context.{Context}
use Rattle.commands.specs.declared.table.Context.TheVariants.{Body}
use Rattle.reading.specs.declared.heads.Head.{Head}
use Rattle.listing.specs.Values.{Calls}
use Rattle.commands.specs.Commands.{answer, after}
use Rattle.reading.specs.Heads.{head, used}
use Rattle.listing.specs.Calls.{by_call, calls_turn, calls_from, first_unknown, or_else, CallsTold}

-- neither a call nor the end of a routine
no_call : {X : Type 0} (c : Command) (f : ℕ → X) (e x : X) → ((n : ℕ) → c ≡ Call n → ⊥) → (c ≡ EndRoutine → ⊥) → by_call f e x c ≡ x
no_call (Routine n) f e x h i = refl
no_call (Work n) f e x h i = refl
no_call (Call n) f e x h i = absurd (h n refl)
no_call Either f e x h i = refl
no_call Or f e x h i = refl
no_call EndEither f e x h i = refl
no_call (Repeat n) f e x h i = refl
no_call EndRepeat f e x h i = refl
no_call EndRoutine f e x h i = absurd (i refl)
no_call (Task n m k) f e x h i = refl
no_call (Block n) f e x h i = refl
no_call (Point n m) f e x h i = refl
no_call EndTask f e x h i = refl
no_call Sheet f e x h i = refl

or_else_none : (o : Option Head) → or_else o None ≡ o
or_else_none None = refl
or_else_none (Some h) = refl

abbrev Answer : Type 0
Answer = Result (Option (ℕ × Command)) ReadFault

-- what is read where a walk stops at all else
pub flat_some : (bs b : List ℕ) (context : Context) (p at : ℕ) (c : Command) (r : Answer) → r ≡ answer context b p → b ≡ bs → Some (at, c) ≡ option_flatten (result_ok r) → answer context bs p ≡ Ok (Some (at, c))
flat_some bs b context p at c (Ok None) t e f = cc
flat_some bs b context p at c (Ok (Some x)) t e f = sym (t ∙ ap (λ y. answer context y p) e) ∙ ap Ok (sym f)
flat_some bs b context p at c (Err g) t e f = cc

flat_none : (r : Answer) → None ≡ option_flatten (result_ok r) → (r ≡ Ok None) ⊎ ((f : ReadFault) × (r ≡ Err f))
flat_none (Ok None) f = inl refl
flat_none (Ok (Some x)) f = cc
flat_none (Err g) f = inr (g, refl)

-- the calls that are noted, and those that are to come, are all
pub record Noting (known whole : List Head) (bs : List ℕ) (r : Calls) (place : ℕ) : Type 0 where
  pub left : ℕ
  pub enough : length bs ≤ place + left
  pub long : length r.marks ≡ 256
  pub marks_are : (c : ℕ) → c < 256 → (get_or r.marks c false || used c (calls_from bs (suc left) place)) ≡ used c whole
  pub unknown_is : or_else r.unknown (first_unknown known (calls_from bs (suc left) place)) ≡ first_unknown known whole

more_marks : (ms : List Bool) (k at c : ℕ) (rest : List Head) → length ms ≡ 256 → k < 256 → (get_or (set ms k true) c false || used c rest) ≡ (get_or ms c false || used c (head k at ∷ rest))
more_marks ms k at c rest long h =
    ⊎_elim
    (λ e.
    let inside : k < length ms = omega arith in
    ap (λ b. get_or (set ms k true) b false || used c rest) (sym e) ∙ ap (λ b. b || used c rest) (get_or-set_same ms k true false inside)
    ∙ sym (or-true (get_or ms c false)) ∙ ap (λ b. get_or ms c false || b) (sym (ap (λ b. b || used c rest) (eq-eqb k c e))))
    (λ e.
    let ne : c ≢ k = λ q. e (sym q) in
    ap (λ b. b || used c rest) (get_or-set_other ms k c true false ne) ∙ ap (λ b. get_or ms c false || b) (sym (ap (λ b. b || used c rest) (ne_eqb k c e))))
    (cases_eq k c)

more_unknown : (known : List Head) (o : Option Head) (h : Head) (rest : List Head) → or_else (or_else o (first_unknown known (h ∷ []))) (first_unknown known rest) ≡ or_else o (first_unknown known (h ∷ rest))
more_unknown known (Some x) h rest = refl
more_unknown known None h rest =
    ⊎_elim
    (λ e. ap (λ o. or_else o (first_unknown known rest)) (cond-true _ _ _ e) ∙ sym (cond-true _ _ _ e))
    (λ e. ap (λ o. or_else o (first_unknown known rest)) (cond-false _ _ _ e) ∙ sym (cond-false _ _ _ e))
    (cases_Bool (used h.code known))

module _ (known whole : List Head) (bs : List ℕ) (r : Calls) (place : ℕ) (g : Noting known whole bs r place) where
  rest_is : {a : _} → answer Body bs place ≡ a → calls_from bs (suc g.left) place ≡ calls_turn (calls_from bs g.left (after Body bs place)) a
  unfolding calls_from
  rest_is e = ap (calls_turn (calls_from bs g.left (after Body bs place))) e

  all_noted : calls_from bs (suc g.left) place ≡ [] → CallsTold known whole r
  all_noted e =
      record {
        marks = λ c h. sym (or-false (get_or r.marks c false)) ∙ ap (λ hs. get_or r.marks c false || used c hs) (sym e) ∙ g.marks_are c h;
        unknown = sym (or_else_none r.unknown) ∙ ap (λ hs. or_else r.unknown (first_unknown known hs)) (sym e) ∙ g.unknown_is;
      }

  pub noted_end : (a : Answer) → a ≡ answer Body bs place → None ≡ option_flatten (result_ok a) → CallsTold known whole r
  noted_end a t e =
      ⊎_elim (λ n. all_noted (rest_is (sym t ∙ n))) (λ (f : (f : ReadFault) × (a ≡ Err f)). all_noted (rest_is (sym t ∙ f.1))) (flat_none a e)

  module _ (at : ℕ) (c : Command) (e : answer Body bs place ≡ Ok (Some (at, c))) where
    pub noted_all : c ≡ EndRoutine → CallsTold known whole r
    noted_all h = all_noted (rest_is e ∙ ap (by_call _ _ _) h)

    module _ (q : ℕ) (on : q ≡ after Body bs place) (forth : place < q) (inside : place < length bs) where
      some : g.left ≡ suc (g.left - 1)
      some = omega (arith, g.enough)

      rest_on : calls_from bs g.left (after Body bs place) ≡ calls_from bs (suc (g.left - 1)) q
      rest_on i = calls_from bs (some i) (sym on i)

      pub note_other : ((n : ℕ) → c ≡ Call n → ⊥) → (c ≡ EndRoutine → ⊥) → Noting known whole bs r q
      note_other h k =
          let e : calls_from bs (suc (g.left - 1)) q ≡ calls_from bs (suc g.left) place = sym (rest_is e ∙ no_call c _ _ _ h k ∙ rest_on) in
          record {
            left = g.left - 1;
            enough = omega (arith, g.enough);
            long = g.long;
            marks_are = λ c h. ap (λ hs. get_or r.marks c false || used c hs) e ∙ g.marks_are c h;
            unknown_is = ap (λ hs. or_else r.unknown (first_unknown known hs)) e ∙ g.unknown_is;
          }

      pub note_call : (k : ℕ) → c ≡ Call k → k < 256 → (s : Calls) → s.marks ≡ set r.marks k true → s.unknown ≡ or_else r.unknown (first_unknown known (head k at ∷ [])) → Noting known whole bs s q
      note_call k h small s marks-now unknown-now =
          let e : head k at ∷ calls_from bs (suc (g.left - 1)) q ≡ calls_from bs (suc g.left) place = sym (rest_is e ∙ ap (by_call _ _ _) h ∙ ap (λ hs. head k at ∷ hs) rest_on) in
          record {
            left = g.left - 1;
            enough = omega (arith, g.enough);
            long = ap length marks-now ∙ length-set r.marks k true ∙ g.long;
            marks_are = λ c h. ap (λ ms. get_or ms c false || used c (calls_from bs (suc (g.left - 1)) q)) marks-now ∙ more_marks r.marks k at c _ g.long small ∙ ap (λ hs. get_or r.marks c false || used c hs) e ∙ g.marks_are c h;
            unknown_is = ap (λ o. or_else o (first_unknown known (calls_from bs (suc (g.left - 1)) q))) unknown-now ∙ more_unknown known r.unknown (head k at) _ ∙ ap (λ hs. or_else r.unknown (first_unknown known hs)) e ∙ g.unknown_is;
          }

pub noting : (known : List Head) (bs : List ℕ) (place q : ℕ) (r : Calls) → q ≡ place → r.marks ≡ replicate 256 false → r.unknown ≡ None → Noting known (calls_from bs (suc (length bs)) place) bs r q
noting known bs place q r on m u = subst (λ p. Noting known (calls_from bs (suc (length bs)) place) bs r p) (sym on) (record {
  left = length bs;
  enough = omega arith;
  long = ap length m;
  marks_are = λ c h. ap (λ b. b || used c (calls_from bs (suc (length bs)) place)) (ap (λ ms. get_or ms c false) m ∙ get_or-replicate 256 c false false h);
  unknown_is = ap (λ o. or_else o (first_unknown known (calls_from bs (suc (length bs)) place))) u;
})
