-- What one turn of loading blocks keeps. Assumes nothing.
use Rattle.std.proofs.Common.{◌≡◌, ℕ, suc, ◌+◌, ◌-◌, ◌<◌, ◌≤◌, true, ◌&&◌, leb, List, [], ◌∷◌, ◌++◌, map, length, Some, None, Ok, Err, Option, Result, sym, refl, ap, ◌∙◌, subst, ⊎_elim, arith, eq-eqb, le-leb}
use Rattle.std.proofs.lemmas.List.{append-nil, append_assoc, map-append, length_push}
use Rattle.std.proofs.lemmas.Bool.{and_from, and_parts}
use Rattle.std.specs.List.{AllByRecursion}
use Rattle.tasks.specs.Ranges.{cost_fits, costs_fit, body_fits}
use Rattle.tasks.specs.declared.blocks.Block.{Block}
use Rattle.tasks.specs.declared.points.Point.{Point}
use Rattle.faults.specs.declared.fault.ReadFault.{ReadFault}
use Rattle.commands.specs.declared.table.Command.{Command}
use Rattle.commands.specs.declared.table.Command.TheVariants as command
use Rattle.commands.specs.declared.table.Context.TheVariants.{BlockDue, AfterBlock}
use Rattle.reading.specs.declared.heads.Head.{Head}
use Rattle.commands.specs.Commands.{answer, after}
use Rattle.reading.specs.Heads.{head}
use Rattle.reading.specs.Trees.{Blocks, block_heads}
use Rattle.reading.specs.Listings.{by_command, blocks_from}
use Rattle.reading.specs.Steps.{block_of, point_of}
use Rattle.listing.specs.Loading.{points_of, block_costs, Priced, Made}
use Rattle.reading.proofs.Stepped.{nothing, FirstBlock, first_block}
use Rattle.commands.proofs.Inverted.{point_ranges}

-- the ticks of a point that is read are in range
point_is : (k : Command) (t q : ℕ) → by_command {X = Option (ℕ × ℕ)} (λ _. None) (λ _ _ _. None) (λ _. None) (λ x y. Some (x, y)) None None k ≡ Some (t, q) → k ≡ command.Point t q
point_is (command.Routine n) t q e = nothing e
point_is (command.Work n) t q e = nothing e
point_is (command.Call n) t q e = nothing e
point_is command.Either t q e = nothing e
point_is command.Or t q e = nothing e
point_is command.EndEither t q e = nothing e
point_is (command.Repeat n) t q e = nothing e
point_is command.EndRepeat t q e = nothing e
point_is command.EndRoutine t q e = nothing e
point_is (command.Task n m k) t q e = nothing e
point_is (command.Block n) t q e = nothing e
point_is (command.Point n m) t q e =
    let same : ◌≡◌ {A = ℕ × ℕ} (n, m) (t, q) = cc in
    (λ i. command.Point (same i).0 (same i).1)
point_is command.EndTask t q e = nothing e
point_is command.Sheet t q e = nothing e

ticks_by : (bs : List ℕ) (p t q : ℕ) (r : Result (Option (ℕ × Command)) ReadFault) → answer AfterBlock bs p ≡ r → point_of r ≡ Some (t, q) → t ≤ 1000000
ticks_by bs p t q (Ok None) a e = nothing e
ticks_by bs p t q (Err f) a e = nothing e
ticks_by bs p t q (Ok (Some k)) a e = point_ranges AfterBlock bs p k.0 t q (a ∙ ap (λ x. Ok (Some (k.0, x))) (point_is k.1 t q e))

pub ticks_fit : (bs : List ℕ) (p t q : ℕ) → point_of (answer AfterBlock bs p) ≡ Some (t, q) → t ≤ 1000000
ticks_fit bs p t q e = ticks_by bs p t q (answer AfterBlock bs p) refl e

all_fit_push : (xs : List Block) (x : Block) → costs_fit xs ≡ true → cost_fits x.cost ≡ true → costs_fit (xs ++ x ∷ []) ≡ true
all_fit_push [] x e f = and_from (cost_fits x.cost) true f refl
all_fit_push (y ∷ ys) x e f =
    let p = and_parts (cost_fits y.cost) (costs_fit ys) e in
    and_from (cost_fits y.cost) (costs_fit (ys ++ x ∷ [])) p.0 (all_fit_push ys x p.1 f)

abbrev pairs : List Point → List (ℕ × ℕ)
pairs = map (λ (p : Point). (p.ticks, p.charge))

pairs_push : (points : List Point) (p : Point) → pairs (points ++ p ∷ []) ≡ pairs points ++ (p.ticks, p.charge) ∷ []
pairs_push [] p = refl
pairs_push (q ∷ qs) p = ap (λ l. (q.ticks, q.charge) ∷ l) (pairs_push qs p)

fits_body : (xs : List Block) (n m : ℕ) → 1 ≤ n → n ≤ 64 → m + 1 ≡ n → costs_fit xs ≡ true → body_fits xs n m ≡ true
fits_body xs n m a b c d =
    let p = le-leb 1 n a in
    let q = le-leb n 64 b in
    let r = eq-eqb (m + 1) n c in
    (λ i. p i && q i && r i && d i)

abbrev costs_in : List Block → List ℕ
costs_in = map (λ (x : Block). x.cost)

-- so many blocks and points are loaded, and the rest gives the whole body
pub record Building (bs : List ℕ) (of : ℕ → ℕ) (b : Blocks) (blocks : List Block) (points : List Point) (place : ℕ) : Type 0 where
  pub left : ℕ
  pub rest : Blocks × ℕ
  pub enough : length bs ≤ place + left
  pub reads : blocks_from bs (suc left) (length blocks) place ≡ Ok rest
  pub level : length points ≡ length blocks
  pub costs : costs_in blocks ++ block_costs of rest.0 ≡ block_costs of b
  pub between : pairs points ++ points_of rest.0 ≡ points_of b
  pub fit : costs_fit blocks ≡ true
  pub priced : Priced of rest.0

pub building : (bs : List ℕ) (of : ℕ → ℕ) (b : Blocks) (q place : ℕ) (blocks : List Block) (points : List Point) → blocks ≡ [] → points ≡ [] → blocks_from bs (suc (length bs)) 0 place ≡ Ok (b, q) → Priced of b → Building bs of b blocks points place
building bs of b q place blocks points x y e p =
    subst (λ bl. Building bs of b bl points place) (sym x)
    (subst (λ pl. Building bs of b [] pl place) (sym y) (record { left = length bs; rest = (b, q); enough = omega arith; reads = e; level = refl; costs = refl; between = refl; fit = refl; priced = p }))

module _ (bs : List ℕ) (of : ℕ → ℕ) (b : Blocks) (blocks : List Block) (points : List Point) (place : ℕ) (g : Building bs of b blocks points place) where
  step : FirstBlock bs g.left (length blocks) place g.rest
  step = first_block bs g.left (length blocks) place g.rest g.reads

  pub no_block : {Y : Type 0} → block_of (answer BlockDue bs place) ≡ None → Y
  no_block e = nothing (sym e ∙ step.reads)

  module _ (h : Head) (is : block_of (answer BlockDue bs place) ≡ Some h) (x : Block) (cost : x.cost ≡ of h.code) where
    head_is : head step.code step.at ≡ h
    head_is = let e = sym step.reads ∙ is in cc

    cost_is : of step.code ≡ x.cost
    cost_is = ap (λ (y : Head). of y.code) head_is ∙ sym cost

    first_priced : Priced of g.rest.0 → (tail : List Head) → block_heads g.rest.0 ≡ head step.code step.at ∷ tail → cost_fits x.cost ≡ true
    first_priced p tail e =
        let q = subst (λ l. AllByRecursion (λ (y : Head). (1 ≤ of y.code) × (of y.code ≤ 1000000)) l) e p in
        let low = q.0.0 in
        let high = q.0.1 in
        and_from (leb 1 x.cost) (leb x.cost 1000000) (le-leb _ _ (omega (arith, cost_is, low))) (le-leb _ _ (omega (arith, cost_is, high)))

    tail_priced : (z : Head) (zs : List Head) → AllByRecursion (λ (y : Head). (1 ≤ of y.code) × (of y.code ≤ 1000000)) (z ∷ zs) → AllByRecursion (λ (y : Head). (1 ≤ of y.code) × (of y.code ≤ 1000000)) zs
    tail_priced z zs all = all.1

    pub last_block : point_of (answer AfterBlock bs (after BlockDue bs place)) ≡ None → Made of b (blocks ++ x ∷ []) points
    last_block e =
        ⊎_elim
        (λ y.
        let long = length_push blocks x in
        let fit = first_priced g.priced [] (ap block_heads y.1) in
        record {
          costs = map-append (λ (z : Block). z.cost) blocks (x ∷ []) ∙ ap (λ n. costs_in blocks ++ n ∷ []) (sym cost_is) ∙ ap (λ z. costs_in blocks ++ block_costs of z) (sym y.1) ∙ g.costs;
          between = sym (append-nil (pairs points)) ∙ ap (λ z. pairs points ++ points_of z) (sym y.1) ∙ g.between;
          fits = fits_body (blocks ++ x ∷ []) (length (blocks ++ x ∷ [])) (length points) (omega arith) (omega (arith, step.few)) (omega (arith, g.level)) (all_fit_push blocks x g.fit fit);
        })
        (λ y. nothing (sym e ∙ y.3))
        step.follows

    pub one_more : (t m : ℕ) (p : Point) (q : ℕ) → point_of (answer AfterBlock bs (after BlockDue bs place)) ≡ Some (t, m) → p.ticks ≡ t → p.charge ≡ m → q ≡ after AfterBlock bs (after BlockDue bs place) → place < q → place < length bs → Building bs of b (blocks ++ x ∷ []) (points ++ p ∷ []) q
    one_more t m p q e ticks-are charge-is on forth inside =
        ⊎_elim
        (λ y. nothing (sym y.0 ∙ e))
        (λ y.
        let some : suc (g.left - 1) ≡ g.left = omega (arith, g.enough) in
        let long = length_push blocks x in
        let same : ◌≡◌ {A = ℕ × ℕ} (y.0, y.1) (t, m) = let f = sym y.3 ∙ e in cc in
        let fit = first_priced g.priced (block_heads y.2) (ap block_heads y.5) in
        record {
          left = g.left - 1;
          rest = (y.2, g.rest.1);
          enough = omega (arith, g.enough);
          reads = (λ i. blocks_from bs (some i) (long i) (on i)) ∙ y.4;
          level = length_push points p ∙ ap (λ n. n + 1) g.level ∙ sym long;
          costs = ap (λ l. l ++ block_costs of y.2) (map-append (λ (z : Block). z.cost) blocks (x ∷ [])) ∙ append_assoc (costs_in blocks) (x.cost ∷ []) (block_costs of y.2) ∙ ap (λ n. costs_in blocks ++ n ∷ block_costs of y.2) (sym cost_is) ∙ ap (λ z. costs_in blocks ++ block_costs of z) (sym y.5) ∙ g.costs;
          between = ap (λ l. l ++ points_of y.2) (pairs_push points p) ∙ append_assoc (pairs points) ((p.ticks, p.charge) ∷ []) (points_of y.2) ∙ (λ i. pairs points ++ (ticks-are i, charge-is i) ∷ points_of y.2) ∙ (λ i. pairs points ++ sym same i ∷ points_of y.2) ∙ ap (λ z. pairs points ++ points_of z) (sym y.5) ∙ g.between;
          fit = all_fit_push blocks x g.fit fit;
          priced = tail_priced (head step.code step.at) (block_heads y.2) (subst (λ l. AllByRecursion (λ (z : Head). (1 ≤ of z.code) × (of z.code ≤ 1000000)) l) (ap block_heads y.5) g.priced);
        })
        step.follows
