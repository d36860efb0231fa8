-- What a step of reading a request gives.
use Rattle.std.specs.Prelude.{◌≡◌, ℕ, List, ◌++◌, Option, Some}
use Rattle.pb_wire.specs.declared.field.Field.{Field}
use Rattle.pb_wire.specs.declared.fault.FieldFault.{FieldFault}
use Rattle.pb_wire.specs.declared.fault.FieldFault.TheVariants.{Wire, FieldKind, NotUtf8, Memory}
use Rattle.pb_wire.specs.Message.{text_in, last_of}
use Rattle.workload_proto.specs.declared.message.JwtRequest.{JwtRequest}

-- a step fails as this fault says, or since memory ran out
abbrev pub StepFails : FieldFault → Option FieldFault → Type 0
StepFails Memory fault = Unit {0}
StepFails (Wire e) fault = fault ≡ Some (Wire e)
StepFails (FieldKind number) fault = fault ≡ Some (FieldKind number)
StepFails (NotUtf8 number) fault = fault ≡ Some (NotUtf8 number)

-- one more field
unfoldable pub asked_more : List ℕ → JwtRequest → Field → JwtRequest
asked_more bytes before f = record {
  audience = before.audience ++ text_in 1 bytes f;
  spiffe_id = last_of before.spiffe_id (text_in 2 bytes f);
}
