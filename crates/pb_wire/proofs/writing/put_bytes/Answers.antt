use Rattle.std.proofs.Common.{length}
use Rattle.std.proofs.lemmas.Result.{err_from_is_err_and}
use Rattle.pb_wire.specs.Spelling.{head}
use Rattle.list_laws.proofs.Fronts.{gains_before}
use Rattle.pb_wire.proofs.writing.put_bytes.Goals as goal

pub returns-in_err-put_head-clause-err : goal.returns-in_err-put_head-clause-err
returns-in_err-put_head-clause-err c =
    let p = err_from_is_err_and c.from_residual.result c.from_residual.ensures.1 in
    rw p.1 (gains_before (head c.args.number (length c.args.bytes.now)) c.args.bytes.now _ _ c.in_err-put_head.ensures.err)
