-- The two messages (grpc.health.v1, `health.proto`; proto3). Own rules: groups and a known field of another wire type are
-- refused.
use Rattle.std.specs.Prelude.{ℕ, ◌==◌, Bool, List, [], ◌++◌, Result}
use Rattle.wl_health.specs.declared.field_number.TheConstants as field_number
use Rattle.pb_wire.specs.declared.fault.FieldFault.{FieldFault}
use Rattle.pb_wire.specs.declared.field.Field.{Field}
use Rattle.pb_wire.specs.Varint.{varint}
use Rattle.pb_wire.specs.Message.{texts_in, last_of}
use Rattle.pb_wire.specs.Strings.{Spells, message_of}

-- `HealthCheckResponse`: the status, a varint
unfoldable pub spell_state : ℕ → List ℕ
spell_state state = varint field_number.RESPONSE_STATUS_TAG ++ varint state

-- `HealthCheckRequest`: the service, a string; of its texts the last one is the value
abbrev pub is_service_field : ℕ → Bool
is_service_field number = number == field_number.REQUEST_SERVICE

unfoldable pub asked_in : List ℕ → List ℕ → List Field → List ℕ
asked_in bytes before fs = last_of before (texts_in field_number.REQUEST_SERVICE bytes fs)

-- the grammar
abbrev pub SpellsService : List ℕ → List ℕ → Type 0
SpellsService bytes service = Spells is_service_field (asked_in bytes []) bytes service

-- the first fault in the bytes, or else the service
unfoldable pub service_of : List ℕ → Result (List ℕ) FieldFault
service_of bytes = message_of is_service_field (asked_in bytes []) bytes
