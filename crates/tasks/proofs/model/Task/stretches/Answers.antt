use Rattle.std.proofs.Common.{◌≡◌, ◌+◌, ◌∷◌, [], ◌++◌, length, get_or, vec_items, sym, ap, ◌∙◌, ap₂, arith}
use Rattle.tasks.specs.declared.choices.Stretch.{Stretch}
use Rattle.tasks.specs.Choices.{told}
use Rattle.tasks.specs.Tasks.{cost_of_block, point_at}
use Rattle.tasks.proofs.Fits.{ticks_read}
use Rattle.tasks.proofs.Walks as walks
use Rattle.tasks.proofs.model.Task.stretches.Goals as goal
use Rattle.tasks.proofs.model.Task.stretches.Goals.{then-is_chosen+in_ok-push, else-is_chosen}

pub loop-i-preserved : goal.loop-i-preserved
loop-i-preserved c =
    let t = c.args.self.now in
    let l = c.loop-i in
    let cost = c.cost_at-length-in-loop-i.ensures in
    let p = c.point-item.result in
    let points = c.deref-point-items.ensures.value in
    let ticks = ticks_read t l.i p (c.point-item.is ∙ ap (λ ps. get_or ps l.i p) points) (omega (arith, ap length points)) in
    elim c.if-is_chosen.branch [
      | then-is_chosen+in_ok-push w ↦
          let s : Stretch = record { first = l.first; last = l.i + 1; length = l.length } in
          let list : vec_items c.if-is_chosen.list ≡ vec_items l.list ++ s ∷ [] = ap vec_items w.list-is ∙ w.in_ok-push.ensures.items in
          let length' : c.if-is_chosen.length + c.cost_at-length-in-loop-i.result ≡ (point_at t l.i).ticks + cost_of_block t (l.i + 1) = ap₂ ◌+◌ (w.length-is ∙ w.ticks-length.ensures ∙ ticks) cost.value in (
            walks.open_same (cost_of_block t) (point_at t) (told c.args.word) (l.i + 1) _ _ _ _ _ _ w.first-is length' list (walks.parts (cost_of_block t) (point_at t) (told c.args.word) l.i l.first l.length (vec_items l.list) l.invariant.0 (sym w.if-is_chosen.ensures)),
            omega (arith, w.length-is, w.ticks-length.ensures, p.small, cost.bound, l.invariant.1),
          )
      | else-is_chosen w ↦
          let length' : c.if-is_chosen.length + c.cost_at-length-in-loop-i.result ≡ l.length + cost_of_block t (l.i + 1) = ap₂ ◌+◌ w.length-is cost.value in (
            walks.open_same (cost_of_block t) (point_at t) (told c.args.word) (l.i + 1) _ _ _ _ _ _ w.first-is length' (ap vec_items w.list-is) (walks.goes_on (cost_of_block t) (point_at t) (told c.args.word) l.i l.first l.length (vec_items l.list) l.invariant.0 (sym w.if-is_chosen.ensures)),
            omega (arith, w.length-is, cost.bound, l.invariant.1),
          )
    ]
