use Rattle.std.proofs.Common.{◌≡◌, ◌++◌, take}
use Rattle.std.specs.List.{flat_map}
use Rattle.pb_wire.specs.Spelling.{field}
use Rattle.workload_proto.specs.declared.field_number.TheConstants.{JWT_REQUEST_AUDIENCE}
use Rattle.wl_control.proofs.call.put_audiences.Given as goal

abbrev pub invariant-loop-audience : goal.invariant-loop-audience
invariant-loop-audience l = l.out.items ≡ l.fn.out.items ++ flat_map (field JWT_REQUEST_AUDIENCE) (take l.audience-index l.audiences)
