use Rattle.std.proofs.Common.{rules}
use borrow.Author.Tests.{tests}
use Rattle.listing.proofs.load.free_codes.Goals as goal

pub returns : goal.returns
returns c = record { wide = c.those.ensures.wide; says = λ k h. search (rules, tests, c.those.ensures.says k h) }
