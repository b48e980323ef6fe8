use Rattle.std.proofs.Common.{rules}
use Rattle.listing.proofs.codes.Codes.through.Goals as goal

pub returns-then-self-from : goal.returns-then-self-from
returns-then-self-from c = record { wide = c.those.ensures.wide; says = λ k h. search (rules, c.those.ensures.says k h) }
