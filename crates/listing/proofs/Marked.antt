-- Steps through the blocks of a task to the first that is marked. Assumes nothing.
use Rattle.std.proofs.Common.{◌≡◌, ℕ, suc, ◌+◌, ◌-◌, ◌<◌, ◌≤◌, Bool, true, false, List, [], ◌∷◌, length, get_or, Some, None, Ok, Option, sym, refl, ap, ◌∙◌, ⊎_elim, arith}
use Rattle.std.proofs.lemmas.Bool.{cond-true, cond-false}
use Rattle.commands.specs.declared.table.Context.TheVariants.{BlockDue, AfterBlock}
use Rattle.reading.specs.declared.heads.Head.{Head}
use Rattle.commands.specs.Commands.{answer, after}
use Rattle.reading.specs.Heads.{head}
use Rattle.reading.specs.Trees.{Blocks, block_heads}
use Rattle.reading.specs.Listings.{blocks_from}
use Rattle.reading.specs.Steps.{block_of, point_of}
use Rattle.listing.specs.Marks.{first_marked}
use Rattle.reading.proofs.Stepped.{nothing, FirstBlock, first_block}

-- a walk through blocks: those from a place on have the same first marked block as all
pub record Walking (bs : List ℕ) (marks : List Bool) (place : ℕ) (target : Option Head) : Type 0 where
  pub left : ℕ
  pub count : ℕ
  pub rest : Blocks × ℕ
  pub enough : length bs ≤ place + left
  pub reads : blocks_from bs (suc left) count place ≡ Ok rest
  pub same : first_marked marks (block_heads rest.0) ≡ target

module _ (bs : List ℕ) (marks : List Bool) (place : ℕ) (target : Option Head) (g : Walking bs marks place target) where
  step : FirstBlock bs g.left g.count place g.rest
  step = first_block bs g.left g.count place g.rest g.reads

  pub no_first : {Y : Type 0} → block_of (answer BlockDue bs place) ≡ None → Y
  no_first e = nothing (sym e ∙ step.reads)

  module _ (h : Head) (is : block_of (answer BlockDue bs place) ≡ Some h) where
    head_is : head step.code step.at ≡ h
    head_is = let e = sym step.reads ∙ is in cc

    heads_are : (tail : List Head) → block_heads g.rest.0 ≡ head step.code step.at ∷ tail → target ≡ first_marked marks (h ∷ tail)
    heads_are tail e = sym g.same ∙ ap (first_marked marks) (e ∙ ap (λ x. x ∷ tail) head_is)

    some_heads : (tail : List Head) × (block_heads g.rest.0 ≡ head step.code step.at ∷ tail)
    some_heads = ⊎_elim (λ x. ([], ap block_heads x.1)) (λ x. (block_heads x.2, ap block_heads x.5)) step.follows

    pub marked : get_or marks h.code false ≡ true → Some h ≡ target
    marked m = sym (heads_are some_heads.0 some_heads.1 ∙ cond-true _ _ _ m)

    module _ (m : get_or marks h.code false ≡ false) where
      pub last_one : point_of (answer AfterBlock bs (after BlockDue bs place)) ≡ None → None ≡ target
      last_one e =
          ⊎_elim
          (λ x. sym (heads_are [] (ap block_heads x.1) ∙ cond-false _ _ _ m))
          (λ x. nothing (sym e ∙ x.3))
          step.follows

      pub step_on : (p : ℕ × ℕ) (q : ℕ) → point_of (answer AfterBlock bs (after BlockDue bs place)) ≡ Some p → q ≡ after AfterBlock bs (after BlockDue bs place) → place < q → place < length bs → Walking bs marks q target
      step_on p q e on forth inside =
          ⊎_elim
          (λ x. nothing (sym x.0 ∙ e))
          (λ x.
          let some : suc (g.left - 1) ≡ g.left = omega (arith, g.enough) in
          record {
            left = g.left - 1;
            count = g.count + 1;
            rest = (x.2, g.rest.1);
            enough = omega (arith, g.enough);
            reads = (λ i. blocks_from bs (some i) (g.count + 1) (on i)) ∙ x.4;
            same = sym (heads_are (block_heads x.2) (ap block_heads x.5) ∙ cond-false _ _ _ m);
          })
          step.follows

pub walking : (bs : List ℕ) (marks : List Bool) (place p : ℕ) (b : Blocks) (q : ℕ) → p ≡ place → blocks_from bs (suc (length bs)) 0 place ≡ Ok (b, q) → Walking bs marks p (first_marked marks (block_heads b))
walking bs marks place p b q on e =
    record { left = length bs; count = 0; rest = (b, q); enough = omega arith; reads = ap (blocks_from bs (suc (length bs)) 0) on ∙ e; same = refl }
