-- Codes seen, as heads and as numbers. Assumes nothing.
use Rattle.std.proofs.Common.{◌≡◌, ℕ, ◌||◌, eqb, List, [], ◌∷◌, ◌++◌, map, refl, ap}
use Rattle.std.proofs.lemmas.List.{map-append}
use Rattle.reading.specs.declared.heads.Head.{Head}
use Rattle.reading.specs.Heads.{used}
use Rattle.reading.specs.Fitting.{member}

abbrev pub codes : List Head → List ℕ
codes = map (λ (h : Head). h.code)

pub used_is : (c : ℕ) (hs : List Head) → used c hs ≡ member c (codes hs)
used_is c [] = refl
used_is c (h ∷ hs) = ap (λ b. eqb h.code c || b) (used_is c hs)

pub codes_push : (hs : List Head) (h : Head) → codes (hs ++ h ∷ []) ≡ codes hs ++ h.code ∷ []
codes_push hs h = map-append (λ (x : Head). x.code) hs (h ∷ [])
