-- What the calls that make or change a task do.
use Rattle.std.specs.Prelude.{◌≡◌, ℕ, ◌+◌, ◌-◌, cond, ◌&&◌, Ok, Err, vec_items, Result, nat_le, slice_set}
use Rattle.tasks.specs.declared.refusals.Refusal.{Refusal}
use Rattle.tasks.specs.declared.refusals.Refusal.TheVariants.{OutOfRange, NoSuch}
use Rattle.tasks.specs.declared.model.Task.{Task}
use Rattle.tasks.specs.Ranges.{cost_fits}
use Rattle.tasks.specs.Tasks.{point_count}

-- what a recosting of a block, by its number from 1, answers: the range is looked at before the number
abbrev pub recost_answer : Task → ℕ → ℕ → Result (Unit {0}) Refusal
recost_answer t block cost = cond (cost_fits cost) (cond (nat_le 1 block && nat_le block (point_count t + 1)) (Ok tt) (Err NoSuch)) (Err OutOfRange)

-- the task after: the one block has the new cost, and all else is as it was
pub record SameBut (t : Task) (block cost : ℕ) (u : Task) : Type 0 where
  pub code : u.code ≡ t.code
  pub period : u.period ≡ t.period
  pub deadline : u.deadline ≡ t.deadline
  pub points : u.points ≡ t.points
  pub blocks : vec_items u.blocks ≡ slice_set (vec_items t.blocks) (block - 1) (record { cost = cost })

abbrev pub After : Task → ℕ → ℕ → Result (Unit {0}) Refusal → Task → Type 0
After t block cost (Ok _) u = SameBut t block cost u
After t block cost (Err e) u = u ≡ t

pub record Recosted (t : Task) (block cost : ℕ) (r : Result (Unit {0}) Refusal) (u : Task) : Type 0 where
  pub answer : r ≡ recost_answer t block cost
  pub after : After t block cost r u
