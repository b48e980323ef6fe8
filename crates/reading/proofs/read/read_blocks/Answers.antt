use Rattle.std.proofs.Common.{◌<◌, ◌≤◌, length, Ok, Err, sym, ap, ◌∙◌, arith, rules}
use Rattle.std.proofs.lemmas.Result.{err_from_is_err_and}
use Rattle.faults.specs.declared.fault.ReadFault.TheVariants.{Open}
use Rattle.commands.specs.declared.table.Context.TheVariants.{BlockDue, AfterBlock}
use Rattle.commands.specs.Commands.{answer, after}
use Rattle.commands.proofs.Decoded.{read_there, read_as}
use Rattle.reading.proofs.Turns.{ok_or_err}
use Rattle.reading.proofs.Blocked.{block_open, block_fault, not_a_block, block_many, follower_open, follower_fault, not_a_follower, task_end, point_then}
use Rattle.reading.proofs.read.read_blocks.Goals as goal

pub returns-in_err-next-clause-told : goal.returns-in_err-next-clause-told
returns-in_err-next-clause-told c =
    let p = err_from_is_err_and c.from_residual.result c.from_residual.ensures.1 in
    let n = c.in_err-next.ensures in
    let bs = c.turns.invariant.0 in
    rw (p.1, p.2) (sym (block_fault _ _ _ _ c.turns.invariant.2 (sym (n.told ∙ ap (λ b. answer BlockDue b c.turns.reader.at) bs))))

pub returns-in_err-at-clause-told : goal.returns-in_err-at-clause-told
returns-in_err-at-clause-told c =
    let p = err_from_is_err_and c.from_residual-in_err-at.result c.from_residual-in_err-at.ensures.1 in
    let n = c.in_ok-next.ensures in
    let bs = c.turns.invariant.0 in
    let o = c.in_err-at.ensures in
    let e = sym (n.told ∙ ap (λ b. answer BlockDue b c.turns.reader.at) bs) ∙ ap Ok o.ok_part in
    rw (p.1, p.2) (ap Err (ok_or_err _ _ _ o.value) ∙ ap (λ b. Err (Open (length b))) (n.same ∙ bs) ∙ sym (block_open _ _ _ _ c.turns.invariant.2 e))

pub returns-in_default-clause-told : goal.returns-in_default-clause-told
returns-in_default-clause-told c =
    let e = read_there _ _ c.args.reader.now.bytes.now _ _ _ _ c.in_ok-next.ensures.told c.turns.invariant.0 c.in_ok-at.ensures.ok_part in
    sym (not_a_block _ _ _ _ c.turns.invariant.2 _ _ e c.in_default.not-Block)

pub returns-then-count-ge64-clause-told : goal.returns-then-count-ge64-clause-told
returns-then-count-ge64-clause-told c =
    let e = read_as _ _ _ _ _ _ (read_there _ _ c.args.reader.now.bytes.now _ _ _ _ c.in_ok-next.ensures.told c.turns.invariant.0 c.in_ok-at.ensures.ok_part) c.in-Block.is in
    sym (block_many _ _ _ _ c.turns.invariant.2 _ _ e c.if-count-ge64.true)

pub returns-in_err-next-2-clause-told : goal.returns-in_err-next-2-clause-told
returns-in_err-next-2-clause-told c =
    let p = err_from_is_err_and c.from_residual-in_err-next-2.result c.from_residual-in_err-next-2.ensures.1 in
    let n = c.in_ok-next.ensures in
    let bs = c.turns.invariant.0 in
    let e = read_as _ _ _ _ _ _ (read_there _ _ c.args.reader.now.bytes.now _ _ _ _ n.told bs c.in_ok-at.ensures.ok_part) c.in-Block.is in
    let i = c.in_err-next-2.ensures in
    let on = n.moved ∙ ap (λ b. after BlockDue b c.turns.reader.at) bs in
    rw (p.1, p.2) (sym (follower_fault _ _ _ _ c.turns.invariant.2 _ _ e c.if-count-ge64.false _ on (sym (i.told ∙ ap (λ b. answer AfterBlock b c.next.new.self.at) (n.same ∙ bs)))))

pub returns-in_err-place-clause-told : goal.returns-in_err-place-clause-told
returns-in_err-place-clause-told c =
    let p = err_from_is_err_and c.from_residual-in_err-place.result c.from_residual-in_err-place.ensures.1 in
    let n = c.in_ok-next.ensures in
    let bs = c.turns.invariant.0 in
    let e = read_as _ _ _ _ _ _ (read_there _ _ c.args.reader.now.bytes.now _ _ _ _ n.told bs c.in_ok-at.ensures.ok_part) c.in-Block.is in
    let i = c.in_ok-next-2.ensures in
    let on = n.moved ∙ ap (λ b. after BlockDue b c.turns.reader.at) bs in
    let o = c.in_err-place.ensures in
    let f = sym (i.told ∙ ap (λ b. answer AfterBlock b c.next.new.self.at) (n.same ∙ bs)) ∙ ap Ok o.ok_part in
    rw (p.1, p.2) (ap Err (ok_or_err _ _ _ o.value) ∙ ap (λ b. Err (Open (length b))) (i.same ∙ n.same ∙ bs) ∙ sym (follower_open _ _ _ _ c.turns.invariant.2 _ _ e c.if-count-ge64.false _ on f))

pub turns-preserved : goal.turns-preserved
turns-preserved c =
    let n = c.in_ok-next.ensures in
    let bs = c.turns.invariant.0 in
    let e = read_as _ _ _ _ _ _ (read_there _ _ c.args.reader.now.bytes.now _ _ _ _ n.told bs c.in_ok-at.ensures.ok_part) c.in-Block.is in
    let i = c.in_ok-next-2.ensures in
    let on = n.moved ∙ ap (λ b. after BlockDue b c.turns.reader.at) bs in
    let f = read_there _ _ c.args.reader.now.bytes.now _ _ _ _ i.told (n.same ∙ bs) c.in_ok-place.ensures.ok_part in
    let long = ap length bs in
    let first : (c.turns.reader.at < c.next.new.self.at) × (c.next.new.self.at ≤ length c.turns.reader.bytes.now) = search rules in
    let second : (c.next.new.self.at < c.next-in-turns.new.self.at) × (c.next-in-turns.new.self.at ≤ length c.next.new.self.bytes.now) = search rules in (
      i.same ∙ n.same ∙ bs,
      omega (arith, c.turns.invariant.1),
      point_then _ _ _ _ c.turns.invariant.2 _ _ e c.if-count-ge64.false _ on _ _ f _ _ c.in-Point.is _ (i.moved ∙ ap (λ b. after AfterBlock b c.next.new.self.at) (n.same ∙ bs)) (omega arith) (omega arith),
    )

pub returns-in-EndTask-clause-told : goal.returns-in-EndTask-clause-told
returns-in-EndTask-clause-told c =
    let n = c.in_ok-next.ensures in
    let bs = c.turns.invariant.0 in
    let e = read_as _ _ _ _ _ _ (read_there _ _ c.args.reader.now.bytes.now _ _ _ _ n.told bs c.in_ok-at.ensures.ok_part) c.in-Block.is in
    let i = c.in_ok-next-2.ensures in
    let on = n.moved ∙ ap (λ b. after BlockDue b c.turns.reader.at) bs in
    let f = read_there _ _ c.args.reader.now.bytes.now _ _ _ _ i.told (n.same ∙ bs) c.in_ok-place.ensures.ok_part in
    ap Ok (i.moved ∙ ap (λ b. after AfterBlock b c.next.new.self.at) (n.same ∙ bs)) ∙ sym (task_end _ _ _ _ c.turns.invariant.2 _ _ e c.if-count-ge64.false _ on _ _ f c.in-EndTask.is)

pub returns-in_default-follower-clause-told : goal.returns-in_default-follower-clause-told
returns-in_default-follower-clause-told c =
    let n = c.in_ok-next.ensures in
    let bs = c.turns.invariant.0 in
    let e = read_as _ _ _ _ _ _ (read_there _ _ c.args.reader.now.bytes.now _ _ _ _ n.told bs c.in_ok-at.ensures.ok_part) c.in-Block.is in
    let on = n.moved ∙ ap (λ b. after BlockDue b c.turns.reader.at) bs in
    let f = read_there _ _ c.args.reader.now.bytes.now _ _ _ _ c.in_ok-next-2.ensures.told (n.same ∙ bs) c.in_ok-place.ensures.ok_part in
    sym (not_a_follower _ _ _ _ c.turns.invariant.2 _ _ e c.if-count-ge64.false _ on _ _ f c.in_default-follower.not-Point c.in_default-follower.not-EndTask)
