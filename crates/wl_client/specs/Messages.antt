-- The messages that a client reads (SPIFFE Workload API, `workload.proto`; grpc.health.v1, `health.proto`; proto3). Own
-- rules: groups and a known field of another wire type are refused, and so is a string that isn't UTF-8; the number of a
-- hint. A field that is not known is skipped.
use Rattle.std.specs.Prelude.{◌≡◌, ℕ, ◌==◌, ◌||◌, if◌then◌else◌, List, [], ◌∷◌, ◌++◌, Option, Some, None, Result, Ok, Err}
use Rattle.std.specs.List.{AllByRecursion}
use Rattle.list_laws.specs.Results.{◌>>=◌}
use Rattle.pb_wire.specs.declared.fault.WireFault.{WireFault}
use Rattle.pb_wire.specs.declared.fault.FieldFault.{FieldFault}
use Rattle.pb_wire.specs.declared.fault.FieldFault.TheVariants.{Wire, FieldKind, NotUtf8, Memory}
use Rattle.pb_wire.specs.declared.field.Field.{Field}
use Rattle.pb_wire.specs.declared.field.Value.{Value}
use Rattle.pb_wire.specs.declared.field.Value.TheVariants.{Varint, Eight, Span, Four}
use Rattle.pb_wire.specs.Message.{AreFields, fields_from, content_of, text_of, first_fault, unless_fault}
use Rattle.pb_wire.specs.Strings.{fault_of}
use Rattle.workload_proto.specs.declared.field_number.TheConstants as field_number
use Rattle.wl_client.specs.declared.items.TheConstants.{X509_RESPONSE_CRL, X509_BUNDLES_CRL}
use Rattle.wl_client.specs.declared.decode.TheConstants.{HEALTH_RESPONSE_STATUS}
use Rattle.wl_client.specs.declared.response.X509Response.{X509Response}
use Rattle.wl_client.specs.declared.response.X509Item.{X509Item}
use Rattle.wl_client.specs.declared.response.MapItem.{MapItem}
use Rattle.wl_client.specs.declared.response.BundlesResponse.{BundlesResponse}
use Rattle.wl_client.specs.declared.response.JwtBundlesResponse.{JwtBundlesResponse}
use Rattle.wl_client.specs.declared.response.JwtResponse.{JwtResponse}
use Rattle.wl_client.specs.declared.response.JwtItem.{JwtItem}

-- ---- a message by its fields

-- what the fields make of a message, one after another, where `more` is what one of them does
abbrev pub after_fields : {M : Type 0} → (M → Field → M) → M → List Field → M
after_fields more m [] = m
after_fields more m (f ∷ fs) = after_fields more (more m f) fs

-- a field has no fault
abbrev pub IsRight : (Field → Option FieldFault) → Field → Type 0
IsRight wrong f = wrong f ≡ None

-- The grammar: the bytes are fields, none of them is wrong, and the message is what they make of the empty one.
pub record Spells {M : Type 0} (wrong : Field → Option FieldFault) (more : M → Field → M) (nothing : M) (bytes : List ℕ) (m : M) : Type 0 where
  pub fields : List Field
  pub are_fields : AreFields 0 bytes fields
  pub are_right : AllByRecursion (IsRight wrong) fields
  pub says : m ≡ after_fields more nothing fields

-- the first fault in fields that were read, and after them, or else what they make
abbrev pub said_by : {M : Type 0} → (Field → Option FieldFault) → (M → Field → M) → M → List Field × Option WireFault → Result M FieldFault
said_by wrong more m read = unless_fault (first_fault wrong read.0 read.1) (after_fields more m read.0)

-- the first fault in the bytes, or else what their fields make
unfoldable pub message_of : {M : Type 0} → (Field → Option FieldFault) → (M → Field → M) → M → List ℕ → Result M FieldFault
message_of wrong more nothing bytes = said_by wrong more nothing (fields_from bytes 0)

-- ---- a value

-- bytes of any kind have wire type 2
abbrev pub any_bytes : ℕ → Option (List ℕ) → Result (List ℕ) FieldFault
any_bytes number None = Err (FieldKind number)
any_bytes number (Some content) = Ok content

unfoldable pub bytes_of : List ℕ → Field → Result (List ℕ) FieldFault
bytes_of bytes f = any_bytes f.number (content_of bytes f.value)

-- a message in a message; its own places count from its start
unfoldable pub inner_of : {M : Type 0} → (List ℕ → Result M FieldFault) → List ℕ → Field → Result M FieldFault
inner_of read bytes f = bytes_of bytes f >>= read

-- proto3: of a field that is not repeated the last value stands, and the values of one that is are in their order
abbrev pub replaced : List ℕ → Result (List ℕ) FieldFault → List ℕ
replaced before (Ok value) = value
replaced before (Err e) = before

abbrev pub with_more : {X : Type 0} → List X → Result X FieldFault → List X
with_more before (Ok value) = before ++ value ∷ []
with_more before (Err e) = before

-- ---- `X509SVID`

abbrev pub no_x509_item : X509Item
no_x509_item = record { spiffe_id = []; chain = []; key = []; bundle = []; hint = [] }

unfoldable pub x509_item_wrong : List ℕ → Field → Option FieldFault
x509_item_wrong bytes f =
    if (f.number == field_number.X509_SVID_SPIFFE_ID) || (f.number == field_number.X509_SVID_HINT) then fault_of (text_of bytes f)
    else if (f.number == field_number.X509_SVID_CHAIN) || (f.number == field_number.X509_SVID_KEY) || (f.number == field_number.X509_SVID_BUNDLE) then fault_of (bytes_of bytes f)
    else None

unfoldable pub x509_item_more : List ℕ → X509Item → Field → X509Item
x509_item_more bytes m f =
    if f.number == field_number.X509_SVID_SPIFFE_ID then record m { spiffe_id = replaced m.spiffe_id (text_of bytes f) }
    else if f.number == field_number.X509_SVID_CHAIN then record m { chain = replaced m.chain (bytes_of bytes f) }
    else if f.number == field_number.X509_SVID_KEY then record m { key = replaced m.key (bytes_of bytes f) }
    else if f.number == field_number.X509_SVID_BUNDLE then record m { bundle = replaced m.bundle (bytes_of bytes f) }
    else if f.number == field_number.X509_SVID_HINT then record m { hint = replaced m.hint (text_of bytes f) }
    else m

unfoldable pub x509_item_of : List ℕ → Result X509Item FieldFault
x509_item_of bytes = message_of (x509_item_wrong bytes) (x509_item_more bytes) no_x509_item bytes

-- ---- an item of a map

abbrev pub no_map_item : MapItem
no_map_item = record { key = []; value = [] }

unfoldable pub map_item_wrong : List ℕ → Field → Option FieldFault
map_item_wrong bytes f =
    if f.number == field_number.MAP_ITEM_KEY then fault_of (text_of bytes f)
    else if f.number == field_number.MAP_ITEM_VALUE then fault_of (bytes_of bytes f)
    else None

unfoldable pub map_item_more : List ℕ → MapItem → Field → MapItem
map_item_more bytes m f =
    if f.number == field_number.MAP_ITEM_KEY then record m { key = replaced m.key (text_of bytes f) }
    else if f.number == field_number.MAP_ITEM_VALUE then record m { value = replaced m.value (bytes_of bytes f) }
    else m

unfoldable pub map_item_of : List ℕ → Result MapItem FieldFault
map_item_of bytes = message_of (map_item_wrong bytes) (map_item_more bytes) no_map_item bytes

-- ---- `X509SVIDResponse`; the values of crl are dropped

abbrev pub no_x509 : X509Response
no_x509 = record { svids = []; federated = [] }

unfoldable pub x509_wrong : List ℕ → Field → Option FieldFault
x509_wrong bytes f =
    if f.number == field_number.X509_RESPONSE_SVIDS then fault_of (inner_of x509_item_of bytes f)
    else if f.number == X509_RESPONSE_CRL then fault_of (bytes_of bytes f)
    else if f.number == field_number.X509_RESPONSE_FEDERATED_BUNDLES then fault_of (inner_of map_item_of bytes f)
    else None

unfoldable pub x509_more : List ℕ → X509Response → Field → X509Response
x509_more bytes m f =
    if f.number == field_number.X509_RESPONSE_SVIDS then record m { svids = with_more m.svids (inner_of x509_item_of bytes f) }
    else if f.number == field_number.X509_RESPONSE_FEDERATED_BUNDLES then record m { federated = with_more m.federated (inner_of map_item_of bytes f) }
    else m

unfoldable pub x509_of : List ℕ → Result X509Response FieldFault
x509_of bytes = message_of (x509_wrong bytes) (x509_more bytes) no_x509 bytes

abbrev pub SpellsX509 : List ℕ → X509Response → Type 0
SpellsX509 bytes m = Spells (x509_wrong bytes) (x509_more bytes) no_x509 bytes m

-- ---- `X509BundlesResponse`; the values of crl are dropped

abbrev pub no_bundles : BundlesResponse
no_bundles = record { bundles = [] }

unfoldable pub bundles_wrong : List ℕ → Field → Option FieldFault
bundles_wrong bytes f =
    if f.number == X509_BUNDLES_CRL then fault_of (bytes_of bytes f)
    else if f.number == field_number.X509_BUNDLES_BUNDLES then fault_of (inner_of map_item_of bytes f)
    else None

unfoldable pub bundles_more : List ℕ → BundlesResponse → Field → BundlesResponse
bundles_more bytes m f = if f.number == field_number.X509_BUNDLES_BUNDLES then record m { bundles = with_more m.bundles (inner_of map_item_of bytes f) } else m

unfoldable pub bundles_of : List ℕ → Result BundlesResponse FieldFault
bundles_of bytes = message_of (bundles_wrong bytes) (bundles_more bytes) no_bundles bytes

abbrev pub SpellsBundles : List ℕ → BundlesResponse → Type 0
SpellsBundles bytes m = Spells (bundles_wrong bytes) (bundles_more bytes) no_bundles bytes m

-- ---- `JWTBundlesResponse`

abbrev pub no_jwt_bundles : JwtBundlesResponse
no_jwt_bundles = record { bundles = [] }

unfoldable pub jwt_bundles_wrong : List ℕ → Field → Option FieldFault
jwt_bundles_wrong bytes f = if f.number == field_number.JWT_BUNDLES_BUNDLES then fault_of (inner_of map_item_of bytes f) else None

unfoldable pub jwt_bundles_more : List ℕ → JwtBundlesResponse → Field → JwtBundlesResponse
jwt_bundles_more bytes m f = if f.number == field_number.JWT_BUNDLES_BUNDLES then record m { bundles = with_more m.bundles (inner_of map_item_of bytes f) } else m

unfoldable pub jwt_bundles_of : List ℕ → Result JwtBundlesResponse FieldFault
jwt_bundles_of bytes = message_of (jwt_bundles_wrong bytes) (jwt_bundles_more bytes) no_jwt_bundles bytes

abbrev pub SpellsJwtBundles : List ℕ → JwtBundlesResponse → Type 0
SpellsJwtBundles bytes m = Spells (jwt_bundles_wrong bytes) (jwt_bundles_more bytes) no_jwt_bundles bytes m

-- ---- `JWTSVID`

abbrev pub no_jwt_item : JwtItem
no_jwt_item = record { spiffe_id = []; svid = []; hint = [] }

unfoldable pub jwt_item_wrong : List ℕ → Field → Option FieldFault
jwt_item_wrong bytes f =
    if (f.number == field_number.JWT_SVID_SPIFFE_ID) || (f.number == field_number.JWT_SVID_SVID) || (f.number == field_number.JWT_SVID_HINT) then fault_of (text_of bytes f)
    else None

unfoldable pub jwt_item_more : List ℕ → JwtItem → Field → JwtItem
jwt_item_more bytes m f =
    if f.number == field_number.JWT_SVID_SPIFFE_ID then record m { spiffe_id = replaced m.spiffe_id (text_of bytes f) }
    else if f.number == field_number.JWT_SVID_SVID then record m { svid = replaced m.svid (text_of bytes f) }
    else if f.number == field_number.JWT_SVID_HINT then record m { hint = replaced m.hint (text_of bytes f) }
    else m

unfoldable pub jwt_item_of : List ℕ → Result JwtItem FieldFault
jwt_item_of bytes = message_of (jwt_item_wrong bytes) (jwt_item_more bytes) no_jwt_item bytes

-- ---- `JWTSVIDResponse`

abbrev pub no_jwt : JwtResponse
no_jwt = record { svids = [] }

unfoldable pub jwt_wrong : List ℕ → Field → Option FieldFault
jwt_wrong bytes f = if f.number == field_number.JWT_RESPONSE_SVIDS then fault_of (inner_of jwt_item_of bytes f) else None

unfoldable pub jwt_more : List ℕ → JwtResponse → Field → JwtResponse
jwt_more bytes m f = if f.number == field_number.JWT_RESPONSE_SVIDS then record m { svids = with_more m.svids (inner_of jwt_item_of bytes f) } else m

unfoldable pub jwt_of : List ℕ → Result JwtResponse FieldFault
jwt_of bytes = message_of (jwt_wrong bytes) (jwt_more bytes) no_jwt bytes

abbrev pub SpellsJwt : List ℕ → JwtResponse → Type 0
SpellsJwt bytes m = Spells (jwt_wrong bytes) (jwt_more bytes) no_jwt bytes m

-- ---- `HealthCheckResponse`: its status is a varint, which is 0 where it is not there

abbrev pub number_in : ℕ → Value → Result ℕ FieldFault
number_in number (Varint n) = Ok n
number_in number (Eight n) = Err (FieldKind number)
number_in number (Span start len) = Err (FieldKind number)
number_in number (Four n) = Err (FieldKind number)

unfoldable pub state_wrong : Field → Option FieldFault
state_wrong f = if f.number == HEALTH_RESPONSE_STATUS then fault_of (number_in HEALTH_RESPONSE_STATUS f.value) else None

abbrev pub state_by : ℕ → Result ℕ FieldFault → ℕ
state_by before (Ok n) = n
state_by before (Err e) = before

unfoldable pub state_more : ℕ → Field → ℕ
state_more before f = if f.number == HEALTH_RESPONSE_STATUS then state_by before (number_in HEALTH_RESPONSE_STATUS f.value) else before

unfoldable pub state_of : List ℕ → Result ℕ FieldFault
state_of bytes = message_of state_wrong state_more 0 bytes

abbrev pub SpellsState : List ℕ → ℕ → Type 0
SpellsState bytes n = Spells state_wrong state_more 0 bytes n

-- ---- what a step answers

-- a field was taken, and then it is not wrong, or its fault was answered, or out of memory
abbrev pub Takes : {M : Type 0} → Result (Unit {0}) FieldFault → Option FieldFault → M → M → Type 0
Takes (Ok done) wrong due m = (wrong ≡ None) × (m ≡ due)
Takes (Err Memory) wrong due m = Unit {0}
Takes (Err (Wire fault)) wrong due m = wrong ≡ Some (Wire fault)
Takes (Err (FieldKind number)) wrong due m = wrong ≡ Some (FieldKind number)
Takes (Err (NotUtf8 number)) wrong due m = wrong ≡ Some (NotUtf8 number)
