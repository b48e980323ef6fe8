-- What loading tells of a listing. Assumes nothing.
use Rattle.std.specs.Prelude.{◌≡◌, ℕ, ◌≤◌, Bool, true, List, [], ◌∷◌, map, length, Some, None, Ok, Err, vec_items, Option, Result, Vec, nat_eq}
use Rattle.std.specs.List.{range_with_len, AllByRecursion}
use Rattle.tasks.specs.declared.blocks.Block.{Block}
use Rattle.tasks.specs.declared.points.Point.{Point}
use Rattle.tasks.specs.Ranges.{body_fits}
use Rattle.tasks.specs.declared.model.Task.{Task as HeldTask}
use Rattle.faults.specs.declared.fault.CostFault.{CostFault}
use Rattle.faults.specs.declared.fault.LoadFault.{LoadFault}
use Rattle.faults.specs.declared.fault.LoadFault.TheVariants.{Cost, FreeBlock, NoMemory}
use Rattle.listing.specs.declared.parts.Parts.{Parts}
use Rattle.reading.specs.declared.heads.Head.{Head}
use Rattle.reading.specs.Trees.{Blocks, final, block, Task, Listing, block_heads}
use Rattle.listing.specs.Marks.{marked_in}
use Rattle.listing.specs.Costing.{cost_in, costing}
use Rattle.reading.specs.Encoding.{encode}
use Rattle.reading.specs.Fitting.{Fits}
use Rattle.reading.specs.Listings.{listing}
use Rattle.listing.specs.Reach.{TrueCosts, CostedAll, OnlyCosts}

-- the points between blocks: ticks and charge
abbrev pub points_of : Blocks → List (ℕ × ℕ)
points_of (final at c) = []
points_of (block at c t q b) = (t, q) ∷ points_of b

-- the costs of blocks, where each routine costs what `of` says
abbrev pub block_costs : (ℕ → ℕ) → Blocks → List ℕ
block_costs of b = map (λ (h : Head). of h.code) (block_heads b)

-- a task as it is held is one of a listing
pub record Is (of : ℕ → ℕ) (x : HeldTask) (t : Task) : Type 0 where
  pub code : x.code ≡ t.code
  pub period : x.period ≡ t.period
  pub deadline : x.deadline ≡ t.deadline
  pub blocks : map (λ (b : Block). b.cost) (vec_items x.blocks) ≡ block_costs of t.blocks
  pub points : map (λ (p : Point). (p.ticks, p.charge)) (vec_items x.points) ≡ points_of t.blocks

-- tasks as they are held are those of a listing, in its order
abbrev pub Are : (ℕ → ℕ) → List HeldTask → List Task → Type 0
Are of [] [] = Unit {0}
Are of [] (t ∷ ts) = ⊥
Are of (x ∷ xs) [] = ⊥
Are of (x ∷ xs) (t ∷ ts) = Is of x t × Are of xs ts

-- the codes of routines that cost nothing
abbrev pub free_marks : (ℕ → ℕ) → List Bool
free_marks of = map (λ c. nat_eq (of c) 0) (range_with_len 0 256)

-- 10, over the whole listing
abbrev pub unless_free : Option (Head × Head) → Listing → Result Listing LoadFault
unless_free (Some x) l = Err (FreeBlock x.1.at x.0.code)
unless_free None l = Ok l

abbrev pub loaded_after : Result Listing CostFault → Result Listing LoadFault
loaded_after (Ok l) = unless_free (marked_in (free_marks (cost_in l.routines 32)) l.tasks) l
loaded_after (Err f) = Err (Cost f)

-- the listing whose tasks are loaded, or the fault
unfoldable pub loading : List ℕ → Result Listing LoadFault
loading bs = loaded_after (costing bs)

-- every block's routine costs 1 to 1,000,000
abbrev pub Priced : (ℕ → ℕ) → Blocks → Type 0
Priced of b = AllByRecursion (λ (h : Head). (1 ≤ of h.code) × (of h.code ≤ 1000000)) (block_heads b)

-- blocks and points that make the body of a task
pub record Made (of : ℕ → ℕ) (b : Blocks) (blocks : List Block) (points : List Point) : Type 0 where
  pub costs : map (λ (x : Block). x.cost) blocks ≡ block_costs of b
  pub between : map (λ (p : Point). (p.ticks, p.charge)) points ≡ points_of b
  pub fits : body_fits blocks (length blocks) (length points) ≡ true

abbrev pub BodyTold : (ℕ → ℕ) → Blocks → Result Parts LoadFault → Type 0
BodyTold of b (Ok p) = Made of b (vec_items p.blocks) (vec_items p.points)
BodyTold of b (Err f) = f ≡ NoMemory

abbrev pub TaskTold : (ℕ → ℕ) → Task → Result HeldTask LoadFault → Type 0
TaskTold of t (Ok x) = Is of x t
TaskTold of t (Err f) = f ≡ NoMemory

abbrev pub TasksTold : {Z : Type 0} → (ℕ → ℕ) → List Task → Result (Vec HeldTask Z) LoadFault → Type 0
TasksTold of ts (Ok v) = Are of (vec_items v) ts
TasksTold of ts (Err f) = f ≡ NoMemory

-- a listing's tree, and its tasks as they are held: each block at its routine's true cost
pub record Loaded (bs : List ℕ) (l : Listing) (held : List HeldTask) : Type 0 where
  pub bytes : bs ≡ encode l
  pub fits : Fits l
  pub costs : TrueCosts l.routines (cost_in l.routines 32)
  pub tasks : Are (cost_in l.routines 32) held l.tasks

-- what the public loading call tells: the tasks, want of memory, or the fault
abbrev pub LoadTold : {Z : Type 0} → List ℕ → Result (Vec HeldTask Z) LoadFault → Type 0
LoadTold bs (Ok v) = (l : Listing) × (loading bs ≡ Ok l) × Loaded bs l (vec_items v)
LoadTold bs (Err (Cost f)) = loading bs ≡ Err (Cost f)
LoadTold bs (Err (FreeBlock at c)) = loading bs ≡ Err (FreeBlock at c)
LoadTold bs (Err NoMemory) = (l : Listing) × (loading bs ≡ Ok l)

-- where tasks are loaded, no routine calls itself, and the true costs are the only ones
abbrev pub LoadOnlyTold : {Z : Type 0} → List ℕ → Result (Vec HeldTask Z) LoadFault → Type 0
LoadOnlyTold bs (Ok v) = (l : Listing) × (listing bs ≡ Ok l) × CostedAll l.routines × OnlyCosts l.routines
LoadOnlyTold bs (Err f) = Unit {0}
