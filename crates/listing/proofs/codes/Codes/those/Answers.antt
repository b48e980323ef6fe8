use Rattle.std.proofs.Common.{rules}
use Rattle.listing.proofs.Made.{made}
use Rattle.listing.proofs.codes.Codes.those.Goals as goal

pub returns-clause-says : goal.returns-clause-says
returns-clause-says g c = λ k h. made (λ x y. goal.F-post g c.args.test x y) c.from_fn.ensures.items (λ x y q e. search rules) k _ h
