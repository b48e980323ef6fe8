-- Numbers that bytes write. Assumes nothing.
use Rattle.std.proofs.Common.{◌≡◌, ℕ, ◌+◌, ◌-◌, ◌*◌, ◌^◌, ◌<◌, ◌≤◌, List, length, take, drop, sym, ap, ◌∙◌, arith, length-drop, pow_mono, pow-add}
use Rattle.std.proofs.lemmas.List.{take_rest}

abbrev pub tail : List ℕ → List ℕ
tail xs = take (length xs - 1) (drop 1 xs)

pub tail_length : (xs : List ℕ) → 0 < length xs → length (tail xs) + 1 ≡ length xs
tail_length xs h = rw (take_rest xs 1) (omega (arith, length-drop 1 xs))

pub small : (n r : ℕ) → n ≤ 3 → r < 2 ^ (8 * n) → r < 16777216
small n r h l = let m : 8 * n ≤ 24 = omega arith in omega (arith, pow_mono m)

pub wider : (m n b r : ℕ) → n + 1 ≡ m → b < 256 → r < 2 ^ (8 * n) → b + 256 * r < 2 ^ (8 * m)
wider m n b r e hb hr =
    let s : 8 + 8 * n ≡ 8 * m = omega arith in
    let p = sym (ap (λ k. 2 ^ k) s) ∙ pow-add 2 8 (8 * n) in
    omega (arith, p)
