-- What is known of a row that is found. Assumes nothing.
use Rattle.std.proofs.Common.{◌≡◌, ℕ, ◌+◌, ◌<◌, ◌≤◌, Bool, true, ◌&&◌, eqb, leb, List, [], ◌∷◌, length, get_or, drop, Some, None, Option, sym, refl, ap, ◌∙◌, ⊎_elim, arith, eq-eqb, ne_eqb}
use Rattle.std.specs.List.{list_all}
use Rattle.std.proofs.lemmas.List.{at_drop_more, at_drop_all}
use Rattle.std.proofs.lemmas.Bool.{cond-true, cond-false, cases_Bool, and_parts, leb-true}
use Rattle.commands.specs.declared.table.Row.{Row}
use Rattle.commands.specs.declared.table.Kind.{Kind}
use Rattle.commands.specs.declared.table.Kind.TheVariants as kind
use Rattle.commands.specs.declared.table.Numbers.{Numbers}
use Rattle.commands.specs.declared.table.Context.{Context}
use Rattle.commands.specs.Commands.{row_of, rows, row_in, allowed, allows, holds, within, top, top_second, Narrow}

-- the row at a place of the table has the byte, or the search goes on
pub hit : (xs : List Row) (i b : ℕ) (d : Row) → i < length xs → (get_or xs i d).byte ≡ b → row_of (drop i xs) b ≡ Some (get_or xs i d)
hit xs i b d h e = at_drop_more (λ l. row_of l b) xs i d h ∙ cond-true _ _ _ (eq-eqb _ b e)

pub miss : (xs : List Row) (i b : ℕ) (d : Row) → i < length xs → ((get_or xs i d).byte ≡ b → ⊥) → row_of (drop (i + 1) xs) b ≡ row_of (drop i xs) b
miss xs i b d h e = sym (at_drop_more (λ l. row_of l b) xs i d h ∙ cond-false _ _ _ (ne_eqb _ b e))

pub past : (xs : List Row) (i b : ℕ) → length xs ≤ i → row_of (drop i xs) b ≡ None
past xs i b h = at_drop_all (λ l. row_of l b) xs i h

-- the row that is found passes a test that each row of a table passes
pub found : (p : Row → Bool) (xs : List Row) (b : ℕ) (r : Row) → list_all p xs ≡ true → row_of xs b ≡ Some r → p r ≡ true
found p [] b r all e = cc
found p (x ∷ xs) b r all e =
    let parts = and_parts (p x) (list_all p xs) all in
    ⊎_elim
    (λ same. let q : x ≡ r = cc (sym (cond-true (eqb x.byte b) (Some x) (row_of xs b) same) ∙ e) in ap p (sym q) ∙ parts.0)
    (λ other. found p xs b r parts.1 (sym (cond-false _ _ _ other) ∙ e))
    (cases_Bool (eqb x.byte b))

by_row : (context : Context) (o : Option Row) (r : Row) → allowed context o ≡ Some r → o ≡ Some r
by_row context None r e = cc
by_row context (Some x) r e =
    ⊎_elim
    (λ same. sym (cond-true (allows x.kind context) (Some x) None same) ∙ e)
    (λ other. let f = sym (cond-false (allows x.kind context) (Some x) None other) ∙ e in cc)
    (cases_Bool (allows x.kind context))

-- an allowed row is a row of the table
pub allowed_row : (context : Context) (b : ℕ) (r : Row) → row_in context b ≡ Some r → row_of rows b ≡ Some r
unfolding row_in
allowed_row context b r e = by_row context (row_of rows b) r e

-- the least second and third operands of a kind
abbrev pub least_second : Kind → ℕ
least_second kind.Routine = 0
least_second kind.Work = 0
least_second kind.Call = 0
least_second kind.Either = 0
least_second kind.Or = 0
least_second kind.EndEither = 0
least_second kind.Repeat = 0
least_second kind.EndRepeat = 0
least_second kind.EndRoutine = 0
least_second kind.Task = 10
least_second kind.Block = 0
least_second kind.Point = 0
least_second kind.EndTask = 0
least_second kind.Sheet = 0

abbrev pub least_third : Kind → ℕ
least_third kind.Routine = 0
least_third kind.Work = 0
least_third kind.Call = 0
least_third kind.Either = 0
least_third kind.Or = 0
least_third kind.EndEither = 0
least_third kind.Repeat = 0
least_third kind.EndRepeat = 0
least_third kind.EndRoutine = 0
least_third kind.Task = 1
least_third kind.Block = 0
least_third kind.Point = 0
least_third kind.EndTask = 0
least_third kind.Sheet = 0

-- each row's operands have at most four bytes, and the ranges of its kind
abbrev narrows : Row → Bool
narrows r = leb r.first.width 4 && (leb r.second.width 4 && leb r.third.width 4)

abbrev ranges : Row → Bool
ranges r = leb r.first.top (top r.kind) && (leb r.second.top (top_second r.kind) && (leb (least_second r.kind) r.second.low && leb (least_third r.kind) r.third.low))

three : (a b c : Bool) → (a && (b && c)) ≡ true → (a ≡ true) × (b ≡ true) × (c ≡ true)
three a b c h =
    let p = and_parts a (b && c) h in
    let q = and_parts b c p.1 in
    (p.0, q.0, q.1)

four : (a b c d : Bool) → (a && (b && (c && d))) ≡ true → (a ≡ true) × (b ≡ true) × (c ≡ true) × (d ≡ true)
four a b c d h =
    let p = and_parts a (b && (c && d)) h in
    let q = three b c d p.1 in
    (p.0, q.0, q.1, q.2)

-- numbers in the ranges of a kind
pub record Ranged (k : Kind) (n : Numbers) : Type 0 where
  pub first : n.first ≤ top k
  pub second : n.second ≤ top_second k
  pub second_at_least : least_second k ≤ n.second
  pub third_at_least : least_third k ≤ n.third
  pub rising : n.third ≤ n.second

module _ (context : Context) (b : ℕ) (r : Row) (e : row_in context b ≡ Some r) where
  pub narrow : Narrow r
  narrow =
      let p = three (leb r.first.width 4) (leb r.second.width 4) (leb r.third.width 4) (found narrows rows b r refl (allowed_row context b r e)) in
      (leb-true _ _ p.0, leb-true _ _ p.1, leb-true _ _ p.2)

  pub ranged : (n : Numbers) → within r n ≡ true → Ranged r.kind n
  ranged n h =
      let p = four (leb r.first.top (top r.kind)) (leb r.second.top (top_second r.kind)) (leb (least_second r.kind) r.second.low) (leb (least_third r.kind) r.third.low) (found ranges rows b r refl (allowed_row context b r e)) in
      let q = four (holds r.first n.first) (holds r.second n.second) (holds r.third n.third) (leb n.third n.second) h in
      let x = and_parts (leb r.first.low n.first) (leb n.first r.first.top) q.0 in
      let y = and_parts (leb r.second.low n.second) (leb n.second r.second.top) q.1 in
      let z = and_parts (leb r.third.low n.third) (leb n.third r.third.top) q.2 in
      record {
        first = omega (arith, leb-true _ _ x.1, leb-true _ _ p.0);
        second = omega (arith, leb-true _ _ y.1, leb-true _ _ p.1);
        second_at_least = omega (arith, leb-true _ _ y.0, leb-true _ _ p.2);
        third_at_least = omega (arith, leb-true _ _ z.0, leb-true _ _ p.3);
        rising = leb-true _ _ q.3;
      }
