use Rattle.std.proofs.Common.{subst, arith, Result}
use Rattle.pb_wire.specs.declared.fault.FieldFault.{FieldFault}
use Rattle.pb_wire.specs.Strings.{Gives}
use Rattle.wl_client.specs.declared.response.X509Response.{X509Response}
use Rattle.wl_client.specs.Messages.{x509_wrong, x509_more, no_x509, x509_of}
use Rattle.wl_client.proofs.Fields.{message_is_found, message_again}
use Rattle.wl_client.proofs.decode.decode_x509.Goals as goal

pub returns-clause-found : goal.returns-clause-found
unfolding x509_of
returns-clause-found c =
    let bytes = c.args.bytes.now in
    message_is_found (x509_wrong bytes) (x509_more bytes) no_x509 bytes c.read_x509.result (λ i. omega (arith, c.type_inv.bytes i)) c.read_x509.ensures

pub returns-clause-only : goal.returns-clause-only
unfolding x509_of
returns-clause-only c = λ m s.
    let bytes = c.args.bytes.now in
    subst (λ (said : Result X509Response FieldFault). Gives c.read_x509.result said) (message_again (x509_wrong bytes) (x509_more bytes) no_x509 m bytes (λ i. omega (arith, c.type_inv.bytes i)) s) c.read_x509.ensures
