use Rattle.std.proofs.Common.{subst, arith, Result}
use Rattle.pb_wire.specs.declared.fault.FieldFault.{FieldFault}
use Rattle.pb_wire.specs.Strings.{Gives}
use Rattle.wl_client.specs.declared.response.JwtBundlesResponse.{JwtBundlesResponse}
use Rattle.wl_client.specs.Messages.{jwt_bundles_wrong, jwt_bundles_more, no_jwt_bundles, jwt_bundles_of}
use Rattle.wl_client.proofs.Fields.{message_is_found, message_again}
use Rattle.wl_client.proofs.decode.decode_jwt_bundles.Goals as goal

pub returns-clause-found : goal.returns-clause-found
unfolding jwt_bundles_of
returns-clause-found c =
    let bytes = c.args.bytes.now in
    message_is_found (jwt_bundles_wrong bytes) (jwt_bundles_more bytes) no_jwt_bundles bytes c.read_jwt_bundles.result (λ i. omega (arith, c.type_inv.bytes i)) c.read_jwt_bundles.ensures

pub returns-clause-only : goal.returns-clause-only
unfolding jwt_bundles_of
returns-clause-only c = λ m s.
    let bytes = c.args.bytes.now in
    subst (λ (said : Result JwtBundlesResponse FieldFault). Gives c.read_jwt_bundles.result said) (message_again (jwt_bundles_wrong bytes) (jwt_bundles_more bytes) no_jwt_bundles m bytes (λ i. omega (arith, c.type_inv.bytes i)) s) c.read_jwt_bundles.ensures
