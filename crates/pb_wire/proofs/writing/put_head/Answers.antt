use Rattle.std.proofs.Common.{◌≡◌, ◌+◌, ◌*◌}
use Rattle.std.proofs.lemmas.Result.{err_from_is_err_and}
use Rattle.pb_wire.specs.Varint.{varint}
use Rattle.list_laws.proofs.Fronts.{gains_before}
use Rattle.pb_wire.proofs.writing.put_head.Goals as goal

pub returns-in_err-put_varint-clause-err : goal.returns-in_err-put_varint-clause-err
returns-in_err-put_varint-clause-err c =
    let p = err_from_is_err_and c.from_residual.result c.from_residual.ensures.1 in
    let number : c.args.number ≡ c.from.result = cc in
    rw (p.1, number) (gains_before (varint (8 * c.from.result + 2)) (varint c.args.len) _ _ c.in_err-put_varint.ensures.err)
