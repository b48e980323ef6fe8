use Rattle.std.proofs.Common.{◌≡◌, true, map, vec_items, vec_len, sym, ap, ◌∙◌}
use Rattle.std.proofs.lemmas.Bool.{and_from}
use Rattle.tasks.specs.Ranges.{body_fits}
use Rattle.tasks.specs.declared.blocks.Block.{Block}
use Rattle.tasks.specs.declared.points.Point.{Point}
use Rattle.tasks.specs.declared.clock.Clock.{Clock}
use Rattle.listing.proofs.Loaded.{blocks_here, clock_is, clock_fits_lem}
use Rattle.listing.proofs.Still.{is_still}
use Rattle.listing.proofs.load.Loader.task.Goals as goal

pub returns : goal.returns
returns c t e r p =
    let m = c.in_ok-blocks.ensures t.blocks r.end (blocks_here c.args.self.now.bytes.now t c.args.at e r c.next_task.new.reader.at c.next_task.ensures.moved) p in
    let told = sym c.in_ok-clock.ensures.ok_part ∙ c.next_task.ensures.told in
    let k = clock_is c.args.self.now.bytes.now t c.args.at e r c.in_ok-clock.clock told in
    let bl = c.in_ok-blocks.field-0.blocks in
    let pl = c.in_ok-blocks.field-0.points in
    let fits : body_fits (vec_items bl) (vec_len bl) (vec_len pl) ≡ true = (λ i. body_fits (vec_items bl) (bl.ok.0 i) (pl.ok.0 i)) ∙ m.fits in
    let x = is_still _ _ _ _ (c.new.ensures.test ∙ and_from _ _ (clock_fits_lem c.args.self.now.bytes.now t c.args.at e r c.in_ok-clock.clock told) fits) c.new.ensures.made c.map_err.ensures.cases in
    rw x.1
    (record {
      code = x.2.0 ∙ ap (λ (y : Clock). y.code) k;
      period = x.2.1 ∙ ap (λ (y : Clock). y.period) k;
      deadline = x.2.2 ∙ ap (λ (y : Clock). y.deadline) k;
      blocks = ap (λ v. map (λ (b : Block). b.cost) (vec_items v)) x.2.3 ∙ m.costs;
      points = ap (λ v. map (λ (q : Point). (q.ticks, q.charge)) (vec_items v)) x.2.4 ∙ m.between;
    })
