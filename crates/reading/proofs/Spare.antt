-- The empty places behind the heads that are held. Assumes nothing.
use Rattle.std.proofs.Common.{◌≡◌, ℕ, ◌+◌, ◌-◌, ◌<◌, List, drop, set, sym, ap, ◌∙◌, arith}
use Rattle.std.proofs.Math.ListN.{replicate}
use Rattle.std.proofs.lemmas.List.{drop-set-lt, drop-drop, drop-replicate}
use Rattle.reading.specs.declared.heads.Head.{Head}
use Rattle.reading.specs.Heads.{head}

abbrev pub spare : ℕ → List Head
spare n = replicate n (head 0 0)

-- one more takes the first of the empty places
pub spare_less : (hs : List Head) (n : ℕ) (h : Head) → n < 32 → drop n hs ≡ spare (32 - n) → drop (n + 1) (set hs n h) ≡ spare (32 - (n + 1))
spare_less hs n h l s =
    let k : 32 - n - 1 ≡ 32 - (n + 1) = omega arith in
    drop-set-lt (n + 1) hs n h (omega arith) ∙ sym (drop-drop 1 n hs) ∙ ap (drop 1) s ∙ drop-replicate 1 (32 - n) (head 0 0) ∙ ap spare k
