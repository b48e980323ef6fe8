use Rattle.std.proofs.Common.{◌≡◌, ℕ, ◌-◌, length, Ok}
use Rattle.reading.specs.Trees.{Blocks, block_heads}
use Rattle.reading.specs.Steps.{blocks_at}
use Rattle.listing.specs.Marks.{first_marked}
use Rattle.listing.proofs.Marked.{Walking}
use Rattle.listing.proofs.blocks.first_block.Given as goal

abbrev pub invariant-steps : goal.invariant-steps
invariant-steps l = (l.reader.bytes.now ≡ l.bytes) × ((b : Blocks) (q : ℕ) → blocks_at l.bytes l.at ≡ Ok (b, q) → Walking l.bytes l.marks l.reader.at (first_marked l.marks (block_heads b)))

abbrev pub decreases-steps : goal.decreases-steps
decreases-steps l = length l.reader.bytes.now - l.reader.at
