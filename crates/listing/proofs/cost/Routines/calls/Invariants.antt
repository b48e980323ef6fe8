use Rattle.listing.proofs.Tables.{Filling}
use Rattle.listing.specs.Costing.{calls_in}
use Rattle.listing.proofs.cost.Routines.calls.Given as goal

abbrev pub invariant-loop-i : goal.invariant-loop-i
invariant-loop-i l = Filling l.self.heads.now (calls_in l.self.bytes.now l.self.heads.now) l.rows l.i
