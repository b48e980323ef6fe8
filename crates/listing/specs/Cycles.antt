-- Which codes a routine reaches by calls. Assumes nothing.
use Rattle.std.specs.Prelude.{◌≡◌, ℕ, zero, suc, ◌<◌, Bool, false, ◌&&◌, ◌||◌, List, [], length, get_or, slice_index_or}
use Rattle.reading.specs.declared.heads.Head.{Head}
use Rattle.reading.specs.Heads.{head}

-- a table of codes by routine: the routine at an index reaches a code
abbrev pub Table : Type 0
Table = ℕ → ℕ → Bool

abbrev pub entry : List (List Bool) → Table
entry rows i c = slice_index_or (slice_index_or rows i []) c false

-- one more routine to go through, at an index and with a code
abbrev pub through : Table → ℕ → ℕ → Table
through t k code i c = t i c || (t i code && t k c)

-- the routines below an index to go through, by their codes
unfoldable pub closed : Table → (ℕ → ℕ) → ℕ → Table
closed t code zero = t
closed t code (suc k) = through (closed t code k) k (code k)

-- 32 rows of 256 codes say what a table says
pub record Tabled (rows : List (List Bool)) (t : Table) : Type 0 where
  pub says : (i c : ℕ) → i < 32 → c < 256 → entry rows i c ≡ t i c

pub record RowSays (row : List Bool) (f : ℕ → Bool) : Type 0 where
  pub wide : length row ≡ 256
  pub says : (c : ℕ) → c < 256 → slice_index_or row c false ≡ f c

-- the code of the routine at an index
abbrev pub code_at : List Head → ℕ → ℕ
code_at hs i = (get_or hs i (head 0 0)).code
