use Rattle.std.proofs.Common.{◌<◌, ◌≤◌, length, refl, ap, ◌∙◌, arith, rules}
use Rattle.commands.specs.declared.table.Context.TheVariants.{Body}
use Rattle.commands.specs.Commands.{answer, after}
use Rattle.std.specs.Option.{option_flatten}
use Rattle.listing.proofs.Noted.{noting, flat_some, noted_end, noted_all, note_other, note_call}
use Rattle.listing.proofs.calls.Calls.of.Goals as goal

pub commands-init : goal.commands-init
commands-init c =
    (c.next.ensures.same, noting _ _ _ _ _ c.next.ensures.moved c.none.ensures refl)

pub returns : goal.returns
returns c =
    let n = c.next-in-commands.ensures in
    noted_end _ _ _ _ _ c.commands.invariant.1 _ (n.told ∙ ap (λ b. answer Body b c.commands.reader.at) c.commands.invariant.0) (c.in_default.ensures ∙ ap option_flatten c.ok.ensures.value)

pub commands-preserved-in-Call : goal.commands-preserved-in-Call
commands-preserved-in-Call c =
    let n = c.next-in-commands.ensures in
    let bs = c.commands.invariant.0 in
    let e = flat_some c.args.bytes.now _ _ _ _ _ _ n.told bs (c.in-Some.ensures ∙ ap option_flatten c.ok.ensures.value) in
    let on = n.moved ∙ ap (λ b. after Body b c.commands.reader.at) bs in
    let long = ap length bs in
    let forth : (c.commands.reader.at < c.next-in-commands.new.self.at) × (c.next-in-commands.new.self.at ≤ length c.commands.reader.bytes.now) = search rules in
    let small : c.in-Call.code < 256 = search rules in
    (n.same ∙ bs, note_call _ _ _ _ _ c.commands.invariant.1 _ _ e _ on (omega arith) (omega arith) _ c.in-Call.is small _ c.note.ensures.marks c.note.ensures.unknown)

pub returns-in-EndRoutine : goal.returns-in-EndRoutine
returns-in-EndRoutine c =
    let n = c.next-in-commands.ensures in
    let bs = c.commands.invariant.0 in
    let e = flat_some c.args.bytes.now _ _ _ _ _ _ n.told bs (c.in-Some.ensures ∙ ap option_flatten c.ok.ensures.value) in
    noted_all _ _ _ _ _ c.commands.invariant.1 _ _ e c.in-EndRoutine.is

pub commands-preserved : goal.commands-preserved
commands-preserved c =
    let n = c.next-in-commands.ensures in
    let bs = c.commands.invariant.0 in
    let e = flat_some c.args.bytes.now _ _ _ _ _ _ n.told bs (c.in-Some.ensures ∙ ap option_flatten c.ok.ensures.value) in
    let on = n.moved ∙ ap (λ b. after Body b c.commands.reader.at) bs in
    let long = ap length bs in
    let forth : (c.commands.reader.at < c.next-in-commands.new.self.at) × (c.next-in-commands.new.self.at ≤ length c.commands.reader.bytes.now) = search rules in
    (n.same ∙ bs, note_other _ _ _ _ _ c.commands.invariant.1 _ _ e _ on (omega arith) (omega arith) c.in_default-command.not-Call c.in_default-command.not-EndRoutine)
