-- What the requests say (SPIFFE Workload API, `workload.proto`; proto3). Own rules: groups and a known field of another
-- wire type are refused.
use Rattle.std.specs.Prelude.{ℕ, ◌==◌, ◌||◌, Bool, false, List, [], ◌++◌, Result}
use Rattle.workload_proto.specs.declared.field_number.TheConstants as field_number
use Rattle.pb_wire.specs.declared.fault.FieldFault.{FieldFault}
use Rattle.pb_wire.specs.declared.fault.FieldFault.TheVariants.{Wire, FieldKind, NotUtf8, Memory}
use Rattle.pb_wire.specs.declared.field.Field.{Field}
use Rattle.pb_wire.specs.Message.{AreFields, texts_in, last_of}
use Rattle.pb_wire.specs.Strings.{Spells, message_of}
use Rattle.workload_proto.specs.declared.message.JwtRequest.{JwtRequest}

-- ---- `JWTSVIDRequest`: audience and spiffe_id, both of them strings

abbrev pub is_jwt_field : ℕ → Bool
is_jwt_field number =
    (number == field_number.JWT_REQUEST_AUDIENCE) || (number == field_number.JWT_REQUEST_SPIFFE_ID)

-- a request without audiences and without an id
abbrev pub nothing_asked : JwtRequest
nothing_asked = record { audience = []; spiffe_id = [] }

-- of the texts of audience all, in their order; of those of spiffe_id the last
unfoldable pub asked_in : List ℕ → JwtRequest → List Field → JwtRequest
asked_in bytes before fs = record {
  audience = before.audience ++ texts_in field_number.JWT_REQUEST_AUDIENCE bytes fs;
  spiffe_id = last_of before.spiffe_id (texts_in field_number.JWT_REQUEST_SPIFFE_ID bytes fs);
}

-- the grammar
abbrev pub SpellsJwtRequest : List ℕ → JwtRequest → Type 0
SpellsJwtRequest bytes m = Spells is_jwt_field (asked_in bytes nothing_asked) bytes m

-- the first fault in the bytes, or else what they say
unfoldable pub jwt_request_of : List ℕ → Result JwtRequest FieldFault
jwt_request_of bytes = message_of is_jwt_field (asked_in bytes nothing_asked) bytes

-- ---- a request of which no field is known

-- bytes that are fields, and no more
pub record SpellsEmpty (bytes : List ℕ) : Type 0 where
  pub fields : List Field
  pub are_fields : AreFields 0 bytes fields

abbrev pub is_no_field : ℕ → Bool
is_no_field number = false

abbrev pub says_nothing : List Field → Unit {0}
says_nothing fs = tt

unfoldable pub empty_of : List ℕ → Result (Unit {0}) FieldFault
empty_of bytes = message_of is_no_field says_nothing bytes

-- a fault of the fields themselves
abbrev pub IsWire : FieldFault → Type 0
IsWire (Wire fault) = Unit {0}
IsWire (FieldKind number) = ⊥
IsWire (NotUtf8 number) = ⊥
IsWire Memory = ⊥
