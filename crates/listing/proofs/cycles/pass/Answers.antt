use Rattle.std.proofs.Common.{◌<◌, ◌≢◌, false, ◌&&◌, ◌||◌, [], length, get_or, ◌∙◌, arith, length-set, get_or-set_other, get_or-set_same, below_more}
use Rattle.std.proofs.lemmas.List.{get_or_default}
use Rattle.listing.proofs.cycles.pass.Goals as goal

pub loop-i-preserved : goal.loop-i-preserved
loop-i-preserved c =
    let rows = c.args.rows.now in
    let code = c.args.code in
    let inside : c.loop-i.i < length c.loop-i.next = omega (arith, c.loop-i.invariant.0) in
    let row = get_or_default rows c.loop-i.i c.index-rows-i.result [] (omega (arith, c.loop-i-test.true, c.type_inv.rows)) in
    let others = get_or_default rows c.args.k c.index-rows-k.result [] (omega (arith, c.requires, c.type_inv.rows)) in (
      simp length-set c.loop-i.invariant.0,
      below_more _ _
          (λ j h. let ne : j ≢ c.loop-i.i = omega arith in rw get_or-set_other (c.loop-i.invariant.1 j h))
          (rw get_or-set_same (record {
            wide = c.through.ensures.wide;
            says = λ d h. c.through.ensures.says d h ∙ (λ x. get_or (row x) d false || (get_or (row x) code false && get_or (others x) d false));
          })),
    )

pub returns-clause-told : goal.returns-clause-told
returns-clause-told c = record { says = λ i d h k. (c.loop-i.invariant.1 i (omega (arith, c.loop-i-test.false))).says d k }
