use Rattle.std.proofs.Common.{◌≡◌, ℕ, suc, ◌-◌, length, Ok, vec_items}
use Rattle.reading.specs.Listings.{blocks_from}
use Rattle.listing.specs.Loading.{Priced}
use Rattle.reading.specs.Runs.{cost_of_code}
use Rattle.reading.specs.Trees.{Blocks}
use Rattle.listing.proofs.Built.{Building}
use Rattle.listing.proofs.load.Loader.parts.Given as goal

abbrev pub invariant-steps : goal.invariant-steps
invariant-steps l = (l.reader.bytes.now ≡ l.self.bytes.now) × ((b : Blocks) (q : ℕ) → blocks_from l.self.bytes.now (suc (length l.self.bytes.now)) 0 l.place ≡ Ok (b, q) → Priced (cost_of_code l.self.costs.now) b → Building l.self.bytes.now (cost_of_code l.self.costs.now) b (vec_items l.records) (vec_items l.points) l.reader.at)

abbrev pub decreases-steps : goal.decreases-steps
decreases-steps l = length l.reader.bytes.now - l.reader.at
