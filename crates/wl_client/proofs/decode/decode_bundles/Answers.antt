use Rattle.std.proofs.Common.{subst, arith, Result}
use Rattle.pb_wire.specs.declared.fault.FieldFault.{FieldFault}
use Rattle.pb_wire.specs.Strings.{Gives}
use Rattle.wl_client.specs.declared.response.BundlesResponse.{BundlesResponse}
use Rattle.wl_client.specs.Messages.{bundles_wrong, bundles_more, no_bundles, bundles_of}
use Rattle.wl_client.proofs.Fields.{message_is_found, message_again}
use Rattle.wl_client.proofs.decode.decode_bundles.Goals as goal

pub returns-clause-found : goal.returns-clause-found
unfolding bundles_of
returns-clause-found c =
    let bytes = c.args.bytes.now in
    message_is_found (bundles_wrong bytes) (bundles_more bytes) no_bundles bytes c.read_bundles.result (λ i. omega (arith, c.type_inv.bytes i)) c.read_bundles.ensures

pub returns-clause-only : goal.returns-clause-only
unfolding bundles_of
returns-clause-only c = λ m s.
    let bytes = c.args.bytes.now in
    subst (λ (said : Result BundlesResponse FieldFault). Gives c.read_bundles.result said) (message_again (bundles_wrong bytes) (bundles_more bytes) no_bundles m bytes (λ i. omega (arith, c.type_inv.bytes i)) s) c.read_bundles.ensures
