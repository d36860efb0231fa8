use Rattle.std.proofs.Common.{◌≡◌, length, length-append, arith, append_assoc, refl}
use Rattle.workload_proto.specs.declared.message.MapItem.{MapItem}
use Rattle.pb_wire.specs.Spelling.{head}
use Rattle.workload_proto.specs.Spelling.{spell_map_item, map_field}
use Rattle.list_laws.proofs.Fronts.{gains_before}
use Rattle.workload_proto.proofs.Faults.{on_err}
use Rattle.workload_proto.proofs.items.put_map_item.Goals as goal

pub returns : goal.returns
unfolding map_field
returns c =
    let item : MapItem = record { key = c.args.key.now; value = c.args.value.now } in
    let size = c.map_content_size-size.ensures item.key refl in
    let exact : c.map_content_size-size.result ≡ length (spell_map_item item) = omega (arith, length-append (head c.args.number (length (spell_map_item item))) (spell_map_item item)) in
    let written = rw exact at c.in_ok-put_head.ensures.ok in
    grind (arith, append_assoc)

pub returns-in_err-put_head-clause-err : goal.returns-in_err-put_head-clause-err
unfolding map_field
returns-in_err-put_head-clause-err c =
    let item : MapItem = record { key = c.args.key.now; value = c.args.value.now } in
    let size = c.map_content_size-size.ensures item.key refl in
    let exact : c.map_content_size-size.result ≡ length (spell_map_item item) = omega (arith, size, c.requires.size, length-append (head c.args.number (length (spell_map_item item))) (spell_map_item item)) in
    on_err c.from_residual.result (gains_before (head c.args.number (length (spell_map_item item))) (spell_map_item item) _ _ (rw exact at c.in_err-put_head.ensures.err))
