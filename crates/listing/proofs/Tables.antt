-- Steps through the routines: their calls, the first cycle and the first dear one. Assumes nothing.
use Rattle.std.proofs.Common.{◌≡◌, ℕ, zero, suc, ◌+◌, ◌<◌, ◌≤◌, Bool, false, ◌≢◌, List, [], ◌∷◌, length, get_or, drop, set, replicate, Some, None, Option, sym, refl, ap, ◌∙◌, ⊎_elim, arith, length-set, get_or-set_other, get_or-set_same}
use Rattle.std.specs.List.{find, zip}
use Rattle.std.specs.Option.{MatchOption, IsSomeAnd, option_map}
use denote.Ref.{Bor}
use Rattle.std.proofs.lemmas.List.{at_drop_more, at_drop_all, drop_more, get_or_past}
use Rattle.std.proofs.lemmas.Bool.{cond-true, cond-false, cases_Bool, cases_lt, cases_eq}
use Rattle.reading.specs.declared.heads.Head.{Head}
use Rattle.listing.specs.Values.{Calls}
use Rattle.reading.specs.Heads.{used}
use Rattle.listing.specs.Calls.{first_unknown, or_else, CallsTold}
use Rattle.listing.specs.Cycles.{entry, Tabled}
use Rattle.listing.specs.Costing.{table_of, unknown_in, cycle_from}

-- the first that reaches itself
abbrev pub reaches_itself : Head × List Bool → Bool
reaches_itself p = get_or p.1 p.0.code false

module _ (rows : List (List Bool)) where
  cycle_by : (hs : List Head) (i : ℕ) → length hs + i ≤ length rows → cycle_from (entry rows) i hs ≡ option_map (λ p. p.0) (find reaches_itself (zip hs (drop i rows)))
  cycle_by [] i l = refl
  cycle_by (h ∷ hs) i l =
      let e = ap (λ l. option_map (λ p. p.0) (find reaches_itself (zip (h ∷ hs) l))) (drop_more rows i [] (omega arith)) in
      ⊎_elim
      (λ b. cond-true _ _ _ b ∙ sym (e ∙ ap (option_map (λ p. p.0)) (cond-true _ _ _ b)))
      (λ b. cond-false _ _ _ b ∙ cycle_by hs (i + 1) (omega arith) ∙ sym (e ∙ ap (option_map (λ p. p.0)) (cond-false _ _ _ b)))
      (cases_Bool (entry rows i h.code))

  module _ (Gives : Bor Head × Bor (List Bool) → Head → Type 0) where
    first_by : (r : Option (Bor Head × Bor (List Bool))) (o : Option Head) → MatchOption r (o ≡ None) (λ x. IsSomeAnd o (Gives x)) → ((x : Bor Head × Bor (List Bool)) (h : Head) → Gives x h → h ≡ x.0.now) → o ≡ option_map (λ (p : Head × List Bool). p.0) (option_map (λ p. (p.0.now, p.1.now)) r)
    first_by None o m gives = m
    first_by (Some x) None m gives = absurd m
    first_by (Some x) (Some h) m gives = ap Some (gives x h m)

    pub first_cycle_is : (hs : List Head) → length hs ≤ length rows → (r : Option (Bor Head × Bor (List Bool))) (o : Option Head) → option_map (λ p. (p.0.now, p.1.now)) r ≡ find reaches_itself (zip hs rows) → MatchOption r (o ≡ None) (λ x. IsSomeAnd o (Gives x)) → ((x : Bor Head × Bor (List Bool)) (h : Head) → Gives x h → h ≡ x.0.now) → o ≡ cycle_from (entry rows) 0 hs
    first_cycle_is hs l r o f m gives = first_by r o m gives ∙ ap (option_map (λ p. p.0)) f ∙ sym (cycle_by hs 0 (omega arith))

no_mark : (n c : ℕ) → get_or (replicate n false) c false ≡ false
no_mark zero c = refl
no_mark (suc n) zero = refl
no_mark (suc n) (suc c) = no_mark n c

no_row : (n j c : ℕ) → get_or (get_or (replicate n (replicate 256 false)) j []) c false ≡ false
no_row zero j c = refl
no_row (suc n) zero c = no_mark 256 c
no_row (suc n) (suc j) c = no_row n j c

-- so many rows are filled, and the others are empty
pub record Filling (known : List Head) (lists : List (List Head)) (rows : List (List Bool)) (i : ℕ) : Type 0 where
  pub long : length rows ≡ 32
  pub filled : (j c : ℕ) → j < i → c < 256 → entry rows j c ≡ table_of lists j c
  pub empty : (j c : ℕ) → i ≤ j → entry rows j c ≡ false
  pub unknown : unknown_in known (drop i lists) ≡ unknown_in known lists

module _ (known : List Head) (lists : List (List Head)) (rows : List (List Bool)) (i : ℕ) (g : Filling known lists rows i) where
  pub filled_all : length lists ≤ i → i ≤ 32 → Tabled rows (table_of lists) × (unknown_in known lists ≡ None)
  filled_all h few = (
    record {
      says = λ j c _ k. ⊎_elim (λ below. g.filled j c below k) (λ above. g.empty j c above ∙ sym (ap (used c) (get_or_past lists j [] (omega arith)))) (cases_lt j i);
    },
    sym g.unknown ∙ at_drop_all (unknown_in known) lists i h,
  )

  module _ (h : i < length lists) (few : i < 32) (hs : List Head) (is : hs ≡ get_or lists i []) (r : Calls) (t : CallsTold known hs r) where
    unknown_step : unknown_in known lists ≡ or_else (first_unknown known hs) (unknown_in known (drop (i + 1) lists))
    unknown_step = sym g.unknown ∙ at_drop_more (unknown_in known) lists i [] h ∙ ap (λ l. or_else (first_unknown known l) (unknown_in known (drop (i + 1) lists))) (sym is)

    pub unknown_found : (x : Head) → r.unknown ≡ Some x → unknown_in known lists ≡ Some x
    unknown_found x e = unknown_step ∙ ap (λ o. or_else o (unknown_in known (drop (i + 1) lists))) (sym t.unknown ∙ e)

    pub fill_more : r.unknown ≡ None → Filling known lists (set rows i r.marks) (i + 1)
    fill_more e =
        let inside : i < length rows = omega (arith, g.long) in
        record {
          long = length-set rows i r.marks ∙ g.long;
          filled = λ j c k l. ⊎_elim
              (λ same. ap (λ m. get_or (get_or (set rows i r.marks) m []) c false) same ∙ ap (λ row. get_or row c false) (get_or-set_same rows i r.marks [] inside) ∙ t.marks c l ∙ ap (used c) is ∙ ap (λ m. used c (get_or lists m [])) (sym same))
              (λ other. let ne : j ≢ i = other in let below : j < i = omega arith in ap (λ row. get_or row c false) (get_or-set_other rows i j r.marks [] ne) ∙ g.filled j c below l)
              (cases_eq j i);
          empty = λ j c k. let ne : j ≢ i = omega arith in ap (λ row. get_or row c false) (get_or-set_other rows i j r.marks [] ne) ∙ g.empty j c (omega arith);
          unknown = sym (unknown_step ∙ ap (λ o. or_else o (unknown_in known (drop (i + 1) lists))) (sym t.unknown ∙ e));
        }

pub none_filled : (known : List Head) (lists : List (List Head)) → Filling known lists (replicate 32 (replicate 256 false)) 0
none_filled known lists =
    record {
      long = refl;
      filled = λ j c k l. absurd (omega arith);
      empty = λ j c k. no_row 32 j c;
      unknown = refl;
    }
