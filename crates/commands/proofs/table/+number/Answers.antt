use Rattle.std.proofs.Common.{◌<◌, length, arith, rules}
use Rattle.commands.proofs.Low.{tail_length, small, wider}
use Rattle.commands.proofs.table.+number.Goals as goal

pub overflow_mul-result : goal.overflow_mul-result
overflow_mul-result t c =
    let h : 0 < length c.args.bytes.now = search rules in
    let r = small _ _ (omega (arith, tail_length c.args.bytes.now h)) c.number.ensures.fits in
    search rules

pub overflow_add-result : goal.overflow_add-result
overflow_add-result t c =
    let h : 0 < length c.args.bytes.now = search rules in
    let r = small _ _ (omega (arith, tail_length c.args.bytes.now h)) c.number.ensures.fits in
    let b : c.from.result < 256 = rw c.from.ensures (c.type_inv.bytes 0).fits in
    search rules

pub returns-in-len1-up-clause-fits : goal.returns-in-len1-up-clause-fits
returns-in-len1-up-clause-fits t c =
    let h : 0 < length c.args.bytes.now = search rules in
    let b : c.from.result < 256 = rw c.from.ensures (c.type_inv.bytes 0).fits in
    wider _ _ _ _ (tail_length _ h) b c.number.ensures.fits
