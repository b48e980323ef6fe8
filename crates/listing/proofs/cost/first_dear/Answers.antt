use Rattle.std.proofs.Common.{ltb, ◌∙◌, rules}
use borrow.Author.Tests.{tests}
use Rattle.std.proofs.lemmas.Iterator.{YieldsList-from_slice}
use Rattle.std.proofs.lemmas.Iterator.Search.{find_from_yields_List}
use Rattle.reading.specs.declared.heads.Head.{Head}
use Rattle.reading.specs.Runs.{cost_of_code}
use Rattle.listing.proofs.cost.first_dear.Goals as goal

pub returns : goal.returns
returns c = c.copied.ensures ∙ find_from_yields_List (λ (h : Head). ltb 1000000 (cost_of_code c.args.costs.now h.code)) _ _ _ c.find.ensures.ran (YieldsList-from_slice c.args.routines.now cc) (λ x b q k. search (rules, tests))
