-- On blocks whose costs are in range.
use Rattle.std.proofs.Common.{◌≡◌, ℕ, zero, suc, ◌<◌, ◌≤◌, Bool, true, false, ◌&&◌, List, [], ◌∷◌, length, get_or, set, vec_items, refl, ap, ◌∙◌, arith}
use Rattle.std.proofs.lemmas.Bool.Decides.{nat_tests}
use Rattle.tasks.specs.declared.blocks.Block.{Block}
use Rattle.tasks.specs.declared.model.Task.{Task}
use Rattle.tasks.specs.declared.points.Point.{Point}
use Rattle.std.proofs.lemmas.List.{get_or_default}
use Rattle.tasks.specs.Tasks.{point_count, cost_of_block, point_at, no_point}
use Rattle.tasks.specs.Ranges.{cost_fits, costs_fit}

pub both : (a b : Bool) → (a && b) ≡ true → (a ≡ true) × (b ≡ true)
both true b h = (refl, h)
both false true h = (h, refl)
both false false h = (h, h)

pub fits_set : (bs : List Block) (i : ℕ) (b : Block) → cost_fits b.cost ≡ true → costs_fit bs ≡ true → costs_fit (set bs i b) ≡ true
fits_set [] i b f h = h
fits_set (x ∷ bs) zero b f h = ap (λ t. t && costs_fit bs) f ∙ (both _ _ h).1
fits_set (x ∷ bs) (suc i) b f h = ap (λ t. t && costs_fit (set bs i b)) (both _ _ h).0 ∙ fits_set bs i b f (both _ _ h).1

-- every block is in its range
pub fits_at : (bs : List Block) (i : ℕ) (d : Block) → costs_fit bs ≡ true → i < length bs → (1 ≤ (get_or bs i d).cost) × ((get_or bs i d).cost ≤ 1000000)
fits_at [] i d h l = absurd (omega arith)
fits_at (x ∷ bs) zero d h l = let f = (both (cost_fits x.cost) (costs_fit bs) h).0 in (grind (arith, nat_tests), grind (arith, nat_tests))
fits_at (x ∷ bs) (suc i) d h l = fits_at bs i d (both (cost_fits x.cost) (costs_fit bs) h).1 (omega arith)

pub cost_fits_lem : (t : Task) (i : ℕ) → i ≤ point_count t → (1 ≤ cost_of_block t i) × (cost_of_block t i ≤ 1000000)
cost_fits_lem t i h = fits_at (vec_items t.blocks) i (record { cost = 0 }) t.costs (omega (arith, t.blocks.ok.0, t.count))

-- the ticks of a point that is read at its index
pub ticks_read : (t : Task) (i : ℕ) (p : Point) → p ≡ get_or (vec_items t.points) i p → i < length (vec_items t.points) → p.ticks ≡ (point_at t i).ticks
ticks_read t i p e h = ap (λ q. q.ticks) (e ∙ get_or_default (vec_items t.points) i p no_point h)
