-- What an outline is to those who are given one. Assumes nothing.
use Rattle.std.specs.Prelude.{List}
use Rattle.reading.specs.declared.heads.Head.{Head}

-- the heads of the routines, and of the tasks
pub record Outline : Type 0 where
  pub routines : List Head
  pub tasks : List Head
