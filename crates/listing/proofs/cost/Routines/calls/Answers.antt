use Rattle.std.proofs.Common.{◌<◌, List, [], length, get_or, replicate, sym, refl, ap, ◌∙◌, subst, arith}
use Rattle.std.proofs.lemmas.List.{length-map, get_or-map}
use Rattle.reading.specs.declared.heads.Head.{Head}
use Rattle.reading.specs.Heads.{head}
use Rattle.listing.specs.Calls.{calls_at, CallsTold}
use Rattle.listing.specs.Costing.{calls_in}
use Rattle.listing.proofs.Tables.{Filling, none_filled, filled_all, unknown_found, fill_more}
use Rattle.listing.proofs.cost.Routines.calls.Goals as goal

pub loop-i-init : goal.loop-i-init
loop-i-init c = subst (λ x. Filling c.args.self.now.heads.now (calls_in c.args.self.now.bytes.now c.args.self.now.heads.now) (replicate 32 x) 0) (sym c.none-rows.ensures) (none_filled _ _)

pub returns-in-Some : goal.returns-in-Some
returns-in-Some c =
    let hs = c.args.self.now.heads.now in
    let s = c.as_slice-head-items.ensures in
    let at : Head → List Head = λ (h : Head). calls_at c.args.self.now.bytes.now h.at in
    let here : c.loop-i.i < length hs = omega (arith, ap length s.is, c.loop-i-test.true) in
    let same = ap (λ l. at (get_or l c.loop-i.i (head 0 0))) s.is ∙ sym (get_or-map at hs c.loop-i.i (head 0 0) [] here) in
    (c.in-Some.call, unknown_found _ _ _ _ c.loop-i.invariant (simp length-map here) (omega (arith, s.few, c.loop-i-test.true)) _ same _ (subst (CallsTold hs _) (sym c.calls.view_is) c.of-calls.ensures) _ c.in-Some.is, refl)

pub loop-i-preserved : goal.loop-i-preserved
loop-i-preserved c =
    let hs = c.args.self.now.heads.now in
    let s = c.as_slice-head-items.ensures in
    let at : Head → List Head = λ (h : Head). calls_at c.args.self.now.bytes.now h.at in
    let here : c.loop-i.i < length hs = omega (arith, ap length s.is, c.loop-i-test.true) in
    let same = ap (λ l. at (get_or l c.loop-i.i (head 0 0))) s.is ∙ sym (get_or-map at hs c.loop-i.i (head 0 0) [] here) in
    fill_more _ _ _ _ c.loop-i.invariant (simp length-map here) (omega (arith, s.few, c.loop-i-test.true)) _ same _ (subst (CallsTold hs _) (sym c.calls.view_is) c.of-calls.ensures) c.in_default.is

pub returns : goal.returns
returns c =
    let s = c.as_slice-head-items.ensures in
    filled_all _ _ _ _ c.loop-i.invariant (simp length-map (omega (arith, ap length s.is, c.loop-i-test.false))) (omega (arith, s.few, c.loop-i.auto.i-end))
