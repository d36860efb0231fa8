use Rattle.std.proofs.Common.{subst, arith, Result}
use Rattle.pb_wire.specs.declared.fault.FieldFault.{FieldFault}
use Rattle.pb_wire.specs.Strings.{Gives}
use Rattle.wl_client.specs.declared.response.JwtResponse.{JwtResponse}
use Rattle.wl_client.specs.Messages.{jwt_wrong, jwt_more, no_jwt, jwt_of}
use Rattle.wl_client.proofs.Fields.{message_is_found, message_again}
use Rattle.wl_client.proofs.decode.decode_jwt.Goals as goal

pub returns-clause-found : goal.returns-clause-found
unfolding jwt_of
returns-clause-found c =
    let bytes = c.args.bytes.now in
    message_is_found (jwt_wrong bytes) (jwt_more bytes) no_jwt bytes c.read_jwt.result (λ i. omega (arith, c.type_inv.bytes i)) c.read_jwt.ensures

pub returns-clause-only : goal.returns-clause-only
unfolding jwt_of
returns-clause-only c = λ m s.
    let bytes = c.args.bytes.now in
    subst (λ (said : Result JwtResponse FieldFault). Gives c.read_jwt.result said) (message_again (jwt_wrong bytes) (jwt_more bytes) no_jwt m bytes (λ i. omega (arith, c.type_inv.bytes i)) s) c.read_jwt.ensures
