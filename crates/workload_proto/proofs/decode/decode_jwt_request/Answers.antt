use Rattle.std.proofs.Common.{subst, arith, Result}
use Rattle.pb_wire.specs.declared.fault.FieldFault.{FieldFault}
use Rattle.pb_wire.specs.Strings.{Gives}
use Rattle.pb_wire.proofs.Strings.{message_is_found, message_again}
use Rattle.workload_proto.specs.declared.message.JwtRequest.{JwtRequest}
use Rattle.workload_proto.specs.Requests.{is_jwt_field, asked_in, nothing_asked, jwt_request_of}
use Rattle.workload_proto.proofs.decode.decode_jwt_request.Goals as goal

pub returns-clause-found : goal.returns-clause-found
unfolding jwt_request_of
returns-clause-found c =
    let bytes = c.args.bytes.now in
    message_is_found is_jwt_field (asked_in bytes nothing_asked) bytes c.decode_jwt_request_inner.result (λ i. omega (arith, c.type_inv.bytes i)) c.decode_jwt_request_inner.ensures

pub returns-clause-only : goal.returns-clause-only
unfolding jwt_request_of
returns-clause-only c = λ m s.
    let bytes = c.args.bytes.now in
    subst (λ (said : Result JwtRequest FieldFault). Gives c.decode_jwt_request_inner.result said) (message_again is_jwt_field (asked_in bytes nothing_asked) bytes m (λ i. omega (arith, c.type_inv.bytes i)) s) c.decode_jwt_request_inner.ensures
