use Rattle.std.proofs.Common.{◌≡◌, ℕ, suc, ◌+◌, ◌≤◌, max, Some, Option}
use Rattle.heap.specs.Orders.{before_by}
use Rattle.tasks.specs.Tasks.{point_count}
use Rattle.selection.specs.Linked.{selected, Linked}
use Rattle.selection.specs.Selections.{Chosen}
use Rattle.selection.proofs.Walk.{longest_in}
use Rattle.selection.proofs.selecting.select.Given as goal

-- what is marked so far and what is chosen before make the selection's word, and so for the longest stretch
abbrev pub invariant-loop-end : goal.invariant-loop-end
invariant-loop-end g l =
    (l.end ≤ point_count l.task + 1)
    × ((limit : Option ℕ) (s : Chosen g.row.M.Denot)
    → selected (before_by g.M.Ord.cmp) g.M.Measure.none g.M.Measure.join l.task limit (point_count l.task + 1) ≡ Some s
    → Linked (before_by g.M.Ord.cmp) g.M.Measure.none g.M.Measure.join l.task limit (point_count l.task + 1) l.links.starts
    → (v : Chosen g.row.M.Denot) × (selected (before_by g.M.Ord.cmp) g.M.Measure.none g.M.Measure.join l.task limit l.end ≡ Some v)
    × (l.points + v.word ≡ s.word)
    × (max l.longest (longest_in l.task l.end v.word) ≡ longest_in l.task (suc (point_count l.task)) s.word))

abbrev pub decreases-loop-end : goal.decreases-loop-end
decreases-loop-end g l = l.end
