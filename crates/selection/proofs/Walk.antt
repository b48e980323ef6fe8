-- The walk back over the chosen starts.
use Rattle.std.proofs.Common.{◌≡◌, ℕ, zero, suc, ◌+◌, ◌-◌, ◌*◌, ◌^◌, ◌<◌, ◌≤◌, max, Bool, true, false, cond, List, get_or, Some, Option, sym, ap, ◌∙◌, add_comm, add-one, arith}
use Rattle.tasks.specs.declared.model.Task.{Task}
use Rattle.tasks.specs.declared.points.Point.{Point}
use Rattle.tasks.specs.Choices.{Choice, told, stretches, total, greatest}
use Rattle.tasks.specs.Tasks.{cost_of_block, point_at, point_count}
use Rattle.measures.specs.Joins.{Reached, measured}
use Rattle.measures.proofs.Reach.{reached_measured, reached_weak}
use Rattle.selection.specs.Linked.{reaches, selected, offered, proposed, Linked}
use Rattle.selection.specs.Running.{cost_before, stretch_from}
use Rattle.selection.specs.Selections.{Chosen}
use Rattle.selection.proofs.Law as law

-- the bit of the point in front of a block, by the block's index
abbrev pub mark : ℕ → ℕ
mark zero = 0
mark (suc i) = 2 ^ i

pub mark_is : (j : ℕ) → 0 < j → mark j ≡ 2 ^ (j - 1)
mark_is zero h = absurd (omega arith)
mark_is (suc i) h = ap (λ x. 2 ^ x) (omega arith)

-- the longest stretch of the first k blocks under a word
abbrev pub longest_in : Task → ℕ → ℕ → ℕ
longest_in t zero word = 0
longest_in t (suc k) word = greatest (stretches (cost_of_block t) (point_at t) (told word) k 0)

module _ {V : Type 0} (before : V → V → Bool) (none : V) (join : V → Point → V) (t : Task) (limit : Option ℕ) where
  pub word_none : (v : Chosen V) → selected before none join t limit 0 ≡ Some v → v.word ≡ 0
  word_none v e = cc

  module _ (asym : (x y : V) → before x y ≡ true → before y x ≡ false) (chain : (x y z : V) → before x y ≡ false → before y z ≡ false → before x z ≡ false) where
    -- one stretch back: what is chosen before it, its point, and its length
    pub back : (k j : ℕ) (u : Chosen V) → j < suc k → offered before none join t limit k j ≡ Some u
        → (v : Chosen V) × (selected before none join t limit j ≡ Some v) × (u.word ≡ mark j + v.word) × (longest_in t (suc k) u.word ≡ max (stretch_from (cost_of_block t) (point_at t) k j) (longest_in t j v.word))
    back k zero u l e =
        let r = law.some_cond (reaches t limit k 0) (selected before none join t limit 0) u e in
        let empty = word_none u r.1 in
        (u, r.1, omega arith, ap (λ w. greatest (stretches (cost_of_block t) (point_at t) (told w) k 0)) empty ∙ ap greatest (law.bare_stretches none join (cost_of_block t) (point_at t) k))
    back k (suc i) u l e =
        let r = law.some_cond (reaches t limit k (suc i)) (proposed before none join t limit (suc i)) u e in
        let q = law.some_joined before none join (cost_of_block t) (point_at t) limit i (selected before none join t limit (suc i)) u r.1 in
        let v = q.0 in
        let word : u.word ≡ v.word + 2 ^ i = ap (λ x. x.word) q.2 in
        let small = (law.own before none join (cost_of_block t) (point_at t) limit asym chain i v q.1).small in
        (v, q.1, word ∙ add_comm v.word (2 ^ i), ap (λ w. greatest (stretches (cost_of_block t) (point_at t) (told w) k 0)) word ∙ ap greatest (law.extended_stretches none join (cost_of_block t) (point_at t) v.word i k small (omega arith)))

    -- One turn of the walk, from the blocks before `end` to those before the start that is noted there: what is marked and what is
    -- chosen before still make the word of s, and so for the longest stretch.
    pub record Turn (s : Chosen V) (points longest end start : ℕ) : Type 0 where
      pub falls : start < end
      pub small : s.word < 2 ^ point_count t
      pub v : Chosen V
      pub chosen : selected before none join t limit start ≡ Some v
      pub word : points + mark start + v.word ≡ s.word
      pub top : max (max longest (stretch_from (cost_of_block t) (point_at t) (end - 1) start)) (longest_in t start v.word) ≡ longest_in t (suc (point_count t)) s.word

    -- what holds between the turns
    abbrev pub Between : Chosen V → ℕ → ℕ → ℕ → Type 0
    Between s points longest end = (v : Chosen V) × (selected before none join t limit end ≡ Some v) × (points + v.word ≡ s.word) × (max longest (longest_in t end v.word) ≡ longest_in t (suc (point_count t)) s.word)

    pub turn : (s : Chosen V) (starts : List ℕ) (points longest end : ℕ) → selected before none join t limit (point_count t + 1) ≡ Some s → Linked before none join t limit (point_count t + 1) starts
        → 0 < end → end ≤ point_count t + 1 → Between s points longest end → Turn s points longest end (get_or starts (end - 1) 0)
    turn s starts points longest end e linked pos le (u, is, word, top) =
        let k = end - 1 in
        let at : end ≡ suc k = omega arith in
        let here = linked k u (omega arith) (ap (selected before none join t limit) (sym at) ∙ is) in
        let j = get_or starts k 0 in
        let b = back k j u here.0 here.1 in
        let same : longest_in t end u.word ≡ longest_in t (suc k) u.word = ap (λ n. longest_in t n u.word) at in
        record {
          falls = omega (arith, here.0);
          small = (law.own before none join (cost_of_block t) (point_at t) limit asym chain (point_count t) s (ap (selected before none join t limit) (sym (add-one (point_count t))) ∙ e)).small;
          v = b.0;
          chosen = b.1;
          word = omega (arith, b.2);
          top = omega (arith, b.3);
        }

-- ---- the cost of a choice, by the ticks that it measures

module _ {V : Type 0} (none : V) (join : V → Point → V) (ticks : V → ℕ) (cost : ℕ → ℕ) (point : ℕ → Point) (c : Choice)
    (nothing : ticks none ≡ 0)
    (adds : (v : V) (p : Point) → Reached none join 62 v → ticks (join v p) ≡ ticks v + p.ticks)
  where
    measured_ticks : (k : ℕ) → k ≤ 62 → ticks (measured none join point c (suc k)) ≡ ticks (measured none join point c k) + cond (c k) (point k).ticks 0
    measured_ticks k few = by (c k) (measured none join point c k) (reached_weak k 62 (measured none join point c k) (reached_measured point c k) few)
      where
        by : (b : Bool) (v : V) → Reached none join 62 v → ticks (cond b (join v (point k)) v) ≡ ticks v + cond b (point k).ticks 0
        by true v r = adds v (point k) r
        by false v r = omega arith

    pub total_is : (k : ℕ) → k ≤ 63 → total cost point c k ≡ cost_before cost (suc k) + ticks (measured none join point c k)
    total_is zero few = omega (arith, nothing)
    total_is (suc k) few = omega (arith, total_is k (omega arith), measured_ticks k (omega arith))

    pub ticks_small : (k : ℕ) → k ≤ 63 → ticks (measured none join point c k) ≤ k * 1000000
    ticks_small zero few = omega (arith, nothing)
    ticks_small (suc k) few = omega (arith, ticks_small k (omega arith), measured_ticks k (omega arith), by (c k))
      where
        by : (b : Bool) → cond b (point k).ticks 0 ≤ 1000000
        by true = (point k).small.0
        by false = omega arith
