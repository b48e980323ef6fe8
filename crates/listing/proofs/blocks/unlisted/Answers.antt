use Rattle.std.proofs.Common.{rules}
use Rattle.listing.proofs.blocks.unlisted.Goals as goal

pub returns : goal.returns
returns c = record { wide = c.those.ensures.wide; says = λ k h. search (rules, c.those.ensures.says k h) }
