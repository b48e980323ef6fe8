-- The selection of a whole task: what is answered of it, and the law of one task.
use Rattle.std.proofs.Common.{◌≡◌, ℕ, suc, ◌+◌, ◌≤◌, Bool, true, false, cond, ltb, length, Some, None, Ok, Err, Option, sym, ap, ◌∙◌, subst, arith}
use lib.Count.{ones}
use Rattle.std.proofs.lemmas.Bool.Decides.{nat_tests}
use Rattle.tasks.specs.declared.model.Task.{Task}
use Rattle.tasks.specs.declared.points.Point.{Point}
use Rattle.tasks.specs.declared.refusals.Refusal.TheVariants.{TooSmall}
use Rattle.tasks.specs.Choices.{told}
use Rattle.tasks.specs.Tasks.{cost_of_block, point_at, point_count, cost_of, longest_of, points_of}
use Rattle.tasks.proofs.Words.{ones_rising}
use Rattle.measures.specs.Joins.{Reached, measured}
use Rattle.measures.proofs.Reach.{reached_measured, reached_weak}
use Rattle.selection.specs.declared.answer.Selection.{Selection}
use Rattle.selection.specs.Answers.{told_of, answer_of, BestWithin}
use Rattle.selection.specs.Running.{cost_before}
use Rattle.selection.specs.Selections.{Chosen, selection_of}
use Rattle.selection.proofs.Law as law
use Rattle.selection.proofs.Walk as walk

module _ {V : Type 0} (before : V → V → Bool) (none : V) (join : V → Point → V) (t : Task) (limit : Option ℕ) where
  pub answered : (places : ℕ) (o : Option (Chosen V)) (a : Option (Selection V)) → 65 ≤ places → selection_of before none join t limit ≡ o → a ≡ told_of t o → Ok a ≡ answer_of before none join t limit places
  answered places o a room is e =
      let enough : ltb places 65 ≡ false = grind (arith, nat_tests) in
      ap Ok e ∙ ap (λ x. Ok (told_of t x)) (sym is) ∙ ap (λ b. cond b (Err TooSmall) (Ok (told_of t (selection_of before none join t limit)))) (sym enough)

  -- an answer, part by part
  pub told_same : (s : Chosen V) (p n : ℕ) (v : V) (k l : ℕ) → p ≡ s.word → n ≡ length (points_of t (told s.word)) → v ≡ s.value → k ≡ cost_of t (told s.word) → l ≡ longest_of t (told s.word)
      → ◌≡◌ {A = Option (Selection V)} (Some (record { points = p; number = n; value = v; cost = k; longest = l })) (told_of t (Some s))
  told_same s p n v k l a b c d e = λ i. Some (record { points = a i; number = b i; value = c i; cost = d i; longest = e i })

  module _ (asym : (x y : V) → before x y ≡ true → before y x ≡ false) (chain : (x y z : V) → before x y ≡ false → before y z ≡ false → before x z ≡ false) where
    pub own : (s : Chosen V) → selection_of before none join t limit ≡ Some s → law.Own before none join (cost_of_block t) (point_at t) limit asym chain (point_count t) s
    own s e = law.own before none join (cost_of_block t) (point_at t) limit asym chain (point_count t) s e

    pub reached : (s : Chosen V) → selection_of before none join t limit ≡ Some s → Reached none join 63 s.value
    reached s e = reached_weak (point_count t) 63 s.value (subst (Reached none join (point_count t)) (sym (own s e).value) (reached_measured (point_at t) (told s.word) (point_count t))) (omega (arith, t.count))

    pub numbered : (s : Chosen V) → selection_of before none join t limit ≡ Some s → ones s.word ≡ length (points_of t (told s.word))
    numbered s e = ones_rising s.word (point_count t) (own s e).small

    module _ (ticks : V → ℕ) (nothing : ticks none ≡ 0) (adds : (v : V) (p : Point) → Reached none join 62 v → ticks (join v p) ≡ ticks v + p.ticks) where
      pub costs : (s : Chosen V) → selection_of before none join t limit ≡ Some s → cost_before (cost_of_block t) (suc (point_count t)) + ticks s.value ≡ cost_of t (told s.word)
      costs s e = omega (arith, walk.total_is none join ticks (cost_of_block t) (point_at t) (told s.word) nothing adds (point_count t) (omega (arith, t.count)), ap ticks (own s e).value)

      pub costs_small : (s : Chosen V) → selection_of before none join t limit ≡ Some s → ticks s.value ≤ 63000000
      costs_small s e = omega (arith, walk.ticks_small none join ticks (cost_of_block t) (point_at t) (told s.word) nothing adds (point_count t) (omega (arith, t.count)), ap ticks (own s e).value, t.count)

    module _ (keeps : (v w : V) (p : Point) → Reached none join 62 v → Reached none join 62 w → before w v ≡ false → before (join w p) (join v p) ≡ false) where
      pub best_within : (o : Option (Chosen V)) → selection_of before none join t limit ≡ o → BestWithin before none join t limit (told_of t o)
      best_within None e = λ c fits.
          let b = law.least before none join (cost_of_block t) (point_at t) limit asym chain keeps c (point_count t) (omega (arith, t.count)) fits in
          let is = b.1 in
          let z : ◌≡◌ {A = ℕ} 0 1 = cc in
          omega arith
      best_within (Some s) e = (
        (own s e).fits,
        (own s e).value,
        λ c fits.
            let b = law.least before none join (cost_of_block t) (point_at t) limit asym chain keeps c (point_count t) (omega (arith, t.count)) fits in
            let is = b.1 in
            let same : s ≡ b.0 = cc in
            ap (λ u. before (measured none join (point_at t) c (point_count t)) u.value) same ∙ b.2,
      )
