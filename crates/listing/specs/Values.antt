-- What the calls of a routine, and the costs of a listing, are to those who are given them. Assumes nothing.
use Rattle.std.specs.Prelude.{ℕ, Bool, List, Option}
use Rattle.reading.specs.declared.heads.Head.{Head}
use Rattle.reading.specs.Outlines.{Outline}

-- a mark for each code that is called, and the first call of a code that no routine has
pub record Calls : Type 0 where
  pub marks : List Bool
  pub unknown : Option Head

-- the outline, and what each code costs
pub record Costs : Type 0 where
  pub outline : Outline
  pub by_code : List ℕ
