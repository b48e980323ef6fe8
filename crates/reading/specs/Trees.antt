-- A listing as a tree, and what its runs cost. Assumes nothing.
use Rattle.std.specs.Prelude.{ℕ, ◌+◌, ◌*◌, max, List, [], ◌∷◌, ◌++◌}
use Rattle.reading.specs.declared.heads.Head.{Head}
use Rattle.reading.specs.Heads.{head}

-- an item, a run of items, and the arms of an either; a call has its offset and the code
mutual
  pub data Item : Type 0 where
    work : ℕ → Item
    call : ℕ → ℕ → Item
    either : Arms → Item
    repeat : ℕ → Run → Item

  pub data Run : Type 0 where
    done : Run
    next : Item → Run → Run

  pub data Arms : Type 0 where
    one : Run → Arms
    more : Run → Arms → Arms

-- the cost, where each routine costs what `of` says
abbrev mutual
  pub item_cost : (ℕ → ℕ) → Item → ℕ
  item_cost of (work t) = t
  item_cost of (call at c) = of c
  item_cost of (either a) = cost_arms of a
  item_cost of (repeat k r) = k * run_cost of r

  pub run_cost : (ℕ → ℕ) → Run → ℕ
  run_cost of done = 0
  run_cost of (next i r) = item_cost of i + run_cost of r

  pub cost_arms : (ℕ → ℕ) → Arms → ℕ
  cost_arms of (one r) = run_cost of r
  cost_arms of (more r a) = max (run_cost of r) (cost_arms of a)

-- a routine: its code, its offset and its body
pub record Routine : Type 0 where
  pub code : ℕ
  pub at : ℕ
  pub body : Run

-- the blocks of a task: a block's offset and its routine's code, then the ticks and the charge of the point after it
pub data Blocks : Type 0 where
  final : ℕ → ℕ → Blocks
  block : ℕ → ℕ → ℕ → ℕ → Blocks → Blocks

pub record Task : Type 0 where
  pub code : ℕ
  pub at : ℕ
  pub period : ℕ
  pub deadline : ℕ
  pub blocks : Blocks

pub record Listing : Type 0 where
  pub routines : List Routine
  pub tasks : List Task

-- the calls of a run, by code and offset
abbrev mutual
  pub calls_item : Item → List Head
  calls_item (work t) = []
  calls_item (call at c) = head c at ∷ []
  calls_item (either a) = calls_arms a
  calls_item (repeat k r) = calls_run r

  pub calls_run : Run → List Head
  calls_run done = []
  calls_run (next i r) = calls_item i ++ calls_run r

  pub calls_arms : Arms → List Head
  calls_arms (one r) = calls_run r
  calls_arms (more r a) = calls_run r ++ calls_arms a

-- the routines that blocks name, by code and offset
abbrev pub block_heads : Blocks → List Head
block_heads (final at c) = head c at ∷ []
block_heads (block at c t q b) = head c at ∷ block_heads b
