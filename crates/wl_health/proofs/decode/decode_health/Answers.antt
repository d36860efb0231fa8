use Rattle.std.proofs.Common.{subst, arith, Result, List, [], ℕ}
use Rattle.pb_wire.specs.declared.fault.FieldFault.{FieldFault}
use Rattle.pb_wire.specs.Strings.{Gives}
use Rattle.pb_wire.proofs.Strings.{message_is_found, message_again}
use Rattle.wl_health.specs.Messages.{is_service_field, asked_in, service_of}
use Rattle.wl_health.proofs.decode.decode_health.Goals as goal

pub returns-clause-found : goal.returns-clause-found
unfolding service_of
returns-clause-found c =
    let bytes = c.args.bytes.now in
    message_is_found is_service_field (asked_in bytes []) bytes c.decode_health_inner.result (λ i. omega (arith, c.type_inv.bytes i)) c.decode_health_inner.ensures

pub returns-clause-only : goal.returns-clause-only
unfolding service_of
returns-clause-only c = λ service s.
    let bytes = c.args.bytes.now in
    subst (λ (said : Result (List ℕ) FieldFault). Gives c.decode_health_inner.result said) (message_again is_service_field (asked_in bytes []) bytes service (λ i. omega (arith, c.type_inv.bytes i)) s) c.decode_health_inner.ensures
