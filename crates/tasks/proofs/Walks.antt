-- One block more, for what a choice makes of a task.
use Rattle.std.proofs.Common.{◌≡◌, ℕ, suc, ◌+◌, true, false, cond, List, [], ◌∷◌, ◌++◌, map, reverse, sym, ap, ◌∙◌, subst, ap₂, add-zero, add_assoc, add-one}
use Rattle.std.proofs.lemmas.List.{map_push, reverse-append, append-nil}
use Rattle.tasks.specs.declared.choices.Stretch.{Stretch}
use Rattle.tasks.specs.declared.points.Point.{Point}
use Rattle.tasks.specs.Choices.{Choice, stretches, rising}

-- ---- the stretches one by one, and which blocks they have

module _ (cost : ℕ → ℕ) (point : ℕ → Point) (c : Choice) where
  -- The stretches that are closed before block k, with the one that is open there: it begins at block `first` and has `length` ticks so far.
  pub record Open (k first length : ℕ) (closed : List Stretch) : Type 0 where
    pub lengths : (more : ℕ) → stretches cost point c k more ≡ (length + more) ∷ reverse (map (λ s. s.length) closed)
    pub firsts : map (λ s. s.first) closed ++ first ∷ [] ≡ 1 ∷ map suc (rising c k)
    pub lasts : map (λ s. s.last) closed ≡ rising c k

  -- the same of equals
  pub open_same : (k f f' n n' : ℕ) (xs ys : List Stretch) → f ≡ f' → n ≡ n' → xs ≡ ys → Open k f' n' ys → Open k f n xs
  open_same k f f' n n' xs ys a b e o = subst (λ x. Open k x n xs) (sym a) (subst (λ x. Open k f' x xs) (sym b) (subst (Open k f' n') (sym e) o))

  module _ (k first length : ℕ) (closed : List Stretch) (o : Open k first length closed) where
    -- at a chosen point the open one is closed, and another begins
    pub parts : c k ≡ true → Open (k + 1) (k + 1 + 1) ((point k).ticks + cost (k + 1)) (closed ++ record { first = first; last = k + 1; length = length } ∷ [])
    parts h =
        let s : Stretch = record { first = first; last = k + 1; length = length } in
        let next : rising c (k + 1) ≡ rising c k ++ (k + 1) ∷ [] = ap (rising c) (add-one k) ∙ ap (λ b. rising c k ++ cond b (suc k ∷ []) []) h ∙ ap (λ n. rising c k ++ n ∷ []) (sym (add-one k)) in
        record {
          lengths = λ more.
              ap (λ n. stretches cost point c n more) (add-one k)
              ∙ ap (λ b. cond b (((point k).ticks + (cost (suc k) + more)) ∷ stretches cost point c k 0) (stretches cost point c k (cost (suc k) + more))) h
              ∙ ap₂ (λ x l. x ∷ l) (ap (λ n. (point k).ticks + (cost n + more)) (sym (add-one k)) ∙ sym (add_assoc (point k).ticks (cost (k + 1)) more))
              (o.lengths 0 ∙ ap (λ x. x ∷ reverse (map (λ (z : Stretch). z.length) closed)) (add-zero length) ∙ sym (ap reverse (map_push (λ (z : Stretch). z.length) closed s) ∙ reverse-append (map (λ (z : Stretch). z.length) closed) (length ∷ [])));
          firsts = ap (λ l. l ++ (k + 1 + 1) ∷ []) (map_push (λ (z : Stretch). z.first) closed s ∙ o.firsts) ∙ ap (λ l. 1 ∷ l) (ap (λ n. map suc (rising c k) ++ n ∷ []) (add-one (k + 1)) ∙ sym (ap (map suc) next ∙ map_push suc (rising c k) (k + 1)));
          lasts = map_push (λ (z : Stretch). z.last) closed s ∙ ap (λ l. l ++ (k + 1) ∷ []) o.lasts ∙ sym next;
        }

    -- elsewhere it goes on
    pub goes_on : c k ≡ false → Open (k + 1) first (length + cost (k + 1)) closed
    goes_on h =
        let next : rising c (k + 1) ≡ rising c k = ap (rising c) (add-one k) ∙ ap (λ b. rising c k ++ cond b (suc k ∷ []) []) h ∙ append-nil (rising c k) in
        record {
          lengths = λ more.
              ap (λ n. stretches cost point c n more) (add-one k)
              ∙ ap (λ b. cond b (((point k).ticks + (cost (suc k) + more)) ∷ stretches cost point c k 0) (stretches cost point c k (cost (suc k) + more))) h
              ∙ o.lengths (cost (suc k) + more)
              ∙ ap (λ x. x ∷ reverse (map (λ (z : Stretch). z.length) closed)) (ap (λ n. length + (cost n + more)) (sym (add-one k)) ∙ sym (add_assoc length (cost (k + 1)) more));
          firsts = o.firsts ∙ ap (λ l. 1 ∷ map suc l) (sym next);
          lasts = o.lasts ∙ sym next;
        }

    -- the last one is closed by the end of the task
    pub ends : (last : ℕ) (spans : List Stretch) → last ≡ suc k → spans ≡ closed ++ record { first = first; last = last; length = length } ∷ []
        → (reverse (map (λ s. s.length) spans) ≡ stretches cost point c k 0) × (map (λ s. s.first) spans ≡ 1 ∷ map suc (rising c k)) × (map (λ s. s.last) spans ≡ rising c k ++ suc k ∷ [])
    ends last spans e is =
        let s : Stretch = record { first = first; last = last; length = length } in (
          ap (λ l. reverse (map (λ (z : Stretch). z.length) l)) is ∙ ap reverse (map_push (λ (z : Stretch). z.length) closed s) ∙ reverse-append (map (λ (z : Stretch). z.length) closed) (length ∷ []) ∙ ap (λ x. x ∷ reverse (map (λ (z : Stretch). z.length) closed)) (sym (add-zero length)) ∙ sym (o.lengths 0),
          ap (map (λ (z : Stretch). z.first)) is ∙ map_push (λ (z : Stretch). z.first) closed s ∙ o.firsts,
          ap (map (λ (z : Stretch). z.last)) is ∙ map_push (λ (z : Stretch). z.last) closed s ∙ ap₂ (λ l n. l ++ n ∷ []) o.lasts e,
        )
