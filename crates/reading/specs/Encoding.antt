-- The bytes of a tree. Assumes nothing.
use Rattle.std.specs.Prelude.{ℕ, zero, suc, ◌/◌, ◌%◌, List, [], ◌∷◌}
use Rattle.reading.specs.Trees.{Item, work, call, either, repeat, Run, done, next, Arms, one, more, Routine, Blocks, final, block, Task, Listing}

-- a number in so many bytes, low byte first, and then what comes after
abbrev pub write : ℕ → ℕ → List ℕ → List ℕ
write zero n after = after
write (suc w) n after = n % 256 ∷ write w (n / 256) after

abbrev mutual
  pub enc_item : Item → List ℕ → List ℕ
  enc_item (work t) after = 0x21 ∷ write 4 t after
  enc_item (call at c) after = 0x22 ∷ write 1 c after
  enc_item (either a) after = 0x23 ∷ enc_arms a after
  enc_item (repeat k r) after = 0x26 ∷ write 2 k (enc_run r (0x27 ∷ after))

  pub enc_run : Run → List ℕ → List ℕ
  enc_run done after = after
  enc_run (next i r) after = enc_item i (enc_run r after)

  pub enc_arms : Arms → List ℕ → List ℕ
  enc_arms (one r) after = enc_run r (0x25 ∷ after)
  enc_arms (more r a) after = enc_run r (0x24 ∷ enc_arms a after)

abbrev pub enc_routines : List Routine → List ℕ → List ℕ
enc_routines [] after = after
enc_routines (r ∷ rs) after = 0x20 ∷ write 1 r.code (enc_run r.body (0x28 ∷ enc_routines rs after))

abbrev pub enc_blocks : Blocks → List ℕ → List ℕ
enc_blocks (final at c) after = 0x31 ∷ write 1 c (0x33 ∷ after)
enc_blocks (block at c t q b) after = 0x31 ∷ write 1 c (0x32 ∷ write 4 t (write 2 q (enc_blocks b after)))

abbrev pub enc_tasks : List Task → List ℕ → List ℕ
enc_tasks [] after = after
enc_tasks (t ∷ ts) after = 0x30 ∷ write 1 t.code (write 4 t.period (write 4 t.deadline (enc_blocks t.blocks (enc_tasks ts after))))

-- the bytes of a listing
abbrev pub encode : Listing → List ℕ
encode l = enc_routines l.routines (enc_tasks l.tasks [])
