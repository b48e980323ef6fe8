-- Trees within the ranges and counts. Assumes nothing.
use Rattle.std.specs.Prelude.{◌≡◌, ℕ, suc, ◌+◌, ◌<◌, ◌≤◌, max, Bool, false, List, [], ◌∷◌, ◌++◌, length, Ok, Err, Result, ◌==◌, ◌≢◌}
use Rattle.std.specs.List.{list_any}
use Rattle.faults.specs.declared.fault.ReadFault.{ReadFault}
use Rattle.reading.specs.Outlines.{Outline}
use Rattle.reading.specs.Encoding.{encode}
use Rattle.reading.specs.Listings.{listing}
use Rattle.reading.specs.Trees.{Item, work, call, either, repeat, Run, done, next, Arms, one, more, Routine, Blocks, final, block, Task, Listing}

abbrev mutual
  pub FitsItem : Item → Type 0
  FitsItem (work t) = t ≤ 1000000
  FitsItem (call at c) = c ≤ 255
  FitsItem (either a) = FitsArms a
  FitsItem (repeat k r) = (k ≤ 1000) × FitsRun r

  pub FitsRun : Run → Type 0
  FitsRun done = Unit {0}
  FitsRun (next i r) = FitsItem i × FitsRun r

  pub FitsArms : Arms → Type 0
  FitsArms (one r) = FitsRun r
  FitsArms (more r a) = FitsRun r × FitsArms a

-- how deep eithers and repeats are nested
abbrev mutual
  pub nest_item : Item → ℕ
  nest_item (work t) = 0
  nest_item (call at c) = 0
  nest_item (either a) = suc (nest_arms a)
  nest_item (repeat k r) = suc (nest_run r)

  pub nest_run : Run → ℕ
  nest_run done = 0
  nest_run (next i r) = max (nest_item i) (nest_run r)

  pub nest_arms : Arms → ℕ
  nest_arms (one r) = nest_run r
  nest_arms (more r a) = max (nest_run r) (nest_arms a)

abbrev pub member : ℕ → List ℕ → Bool
member c xs = list_any (λ x. x == c) xs

-- at most 32, each with a code of its own, after those with the codes seen
abbrev pub FitsRoutines : List ℕ → List Routine → Type 0
FitsRoutines seen [] = Unit {0}
FitsRoutines seen (r ∷ rs) = (r.code ≤ 255) × (member r.code seen ≡ false) × (length seen < 32) × FitsRun r.body × (nest_run r.body ≤ 8) × FitsRoutines (seen ++ r.code ∷ []) rs

-- at most 64 blocks, after so many
abbrev pub FitsBlocks : ℕ → Blocks → Type 0
FitsBlocks n (final at c) = (c ≤ 255) × (n < 64)
FitsBlocks n (block at c t q b) = (c ≤ 255) × (n < 64) × (t ≤ 1000000) × (q ≤ 65535) × FitsBlocks (n + 1) b

abbrev pub FitsTasks : List ℕ → List Task → Type 0
FitsTasks seen [] = Unit {0}
FitsTasks seen (t ∷ ts) = (t.code ≤ 255) × (10 ≤ t.period) × (t.period ≤ 1000000) × (1 ≤ t.deadline) × (t.deadline ≤ t.period) × (member t.code seen ≡ false) × (length seen < 32) × FitsBlocks 0 t.blocks × FitsTasks (seen ++ t.code ∷ []) ts

-- a tree within the ranges and counts, of at most 32,768 bytes
abbrev pub Fits : Listing → Type 0
Fits l = FitsRoutines [] l.routines × FitsTasks [] l.tasks × (length (encode l) ≤ 32768)

-- bytes are accepted exactly where they are those of a tree that fits, and are then read as such a tree
abbrev pub Accepted : List ℕ → Result Outline ReadFault → Type 0
Accepted bs (Ok o) = (l : Listing) × (listing bs ≡ Ok l) × (bs ≡ encode l) × Fits l
Accepted bs (Err f) = (l : Listing) → Fits l → bs ≢ encode l
