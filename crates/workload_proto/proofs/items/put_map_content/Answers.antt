use Rattle.pb_wire.specs.Spelling.{field}
use Rattle.list_laws.proofs.Fronts.{gains_before}
use Rattle.workload_proto.specs.Spelling.{spell_map_item}
use Rattle.workload_proto.proofs.Faults.{on_err}
use Rattle.workload_proto.proofs.items.put_map_content.Goals as goal

pub returns-in_err-put_bytes-clause-err : goal.returns-in_err-put_bytes-clause-err
unfolding spell_map_item
returns-in_err-put_bytes-clause-err c = on_err c.from_residual.result (gains_before (field 1 c.args.key.now) (field 2 c.args.value.now) _ _ c.in_err-put_bytes.ensures.err)
