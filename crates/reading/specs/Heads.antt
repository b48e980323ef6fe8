-- Codes and offsets. Assumes nothing.
use Rattle.std.specs.Prelude.{ℕ, Bool, List, ◌==◌}
use Rattle.std.specs.List.{list_any}
use Rattle.reading.specs.declared.heads.Head.{Head}

abbrev pub head : ℕ → ℕ → Head
head c at = record { code = c; at = at }

-- is a code among them
abbrev pub used : ℕ → List Head → Bool
used c hs = list_any (λ (h : Head). h.code == c) hs
