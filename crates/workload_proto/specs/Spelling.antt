-- The one output encoding of a message (SPIFFE Workload API, `workload.proto`; proto3): fields by ascending number, empty
-- ones left out but inside items of a map, items of lists and maps in their order, shortest varints.
use Rattle.std.specs.Prelude.{ℕ, min, List, ◌++◌}
use Rattle.std.specs.List.{flat_map}
use Rattle.workload_proto.specs.declared.field_number.TheConstants as field_number
use Rattle.pb_wire.specs.Spelling.{field, optional_field}
use Rattle.workload_proto.specs.declared.message.X509Response.{X509Response}
use Rattle.workload_proto.specs.declared.message.X509Item.{X509Item}
use Rattle.workload_proto.specs.declared.message.MapItem.{MapItem}
use Rattle.workload_proto.specs.declared.message.BundlesResponse.{BundlesResponse}
use Rattle.workload_proto.specs.declared.message.JwtBundlesResponse.{JwtBundlesResponse}
use Rattle.workload_proto.specs.declared.message.JwtResponse.{JwtResponse}
use Rattle.workload_proto.specs.declared.message.JwtItem.{JwtItem}

-- `X509SVID`: all fields that are not empty
unfoldable pub spell_x509_item : X509Item → List ℕ
spell_x509_item s =
    optional_field field_number.X509_SVID_SPIFFE_ID s.spiffe_id
    ++ (optional_field field_number.X509_SVID_CHAIN s.chain
    ++ (optional_field field_number.X509_SVID_KEY s.key
    ++ (optional_field field_number.X509_SVID_BUNDLE s.bundle ++ optional_field field_number.X509_SVID_HINT s.hint)))

-- an item of a map: key and value, both of them whether empty or not
unfoldable pub spell_map_item : MapItem → List ℕ
spell_map_item i = field field_number.MAP_ITEM_KEY i.key ++ field field_number.MAP_ITEM_VALUE i.value

-- `JWTSVID`: all fields that are not empty
unfoldable pub spell_jwt_item : JwtItem → List ℕ
spell_jwt_item s =
    optional_field field_number.JWT_SVID_SPIFFE_ID s.spiffe_id
    ++ (optional_field field_number.JWT_SVID_SVID s.svid ++ optional_field field_number.JWT_SVID_HINT s.hint)

-- an item of a list of SVIDs, and an item of the map with this field number
unfoldable pub x509_field : X509Item → List ℕ
x509_field s = field field_number.X509_RESPONSE_SVIDS (spell_x509_item s)

unfoldable pub jwt_field : JwtItem → List ℕ
jwt_field s = field field_number.JWT_RESPONSE_SVIDS (spell_jwt_item s)

unfoldable pub map_field : ℕ → MapItem → List ℕ
map_field number i = field number (spell_map_item i)

-- `X509SVIDResponse`: svids and federated_bundles; crl is always empty
unfoldable pub spell_x509 : X509Response → List ℕ
spell_x509 m = flat_map x509_field m.svids ++ flat_map (map_field field_number.X509_RESPONSE_FEDERATED_BUNDLES) m.federated

-- `X509BundlesResponse`: bundles; crl is always empty
unfoldable pub spell_bundles : BundlesResponse → List ℕ
spell_bundles m = flat_map (map_field field_number.X509_BUNDLES_BUNDLES) m.bundles

-- `JWTBundlesResponse`
unfoldable pub spell_jwt_bundles : JwtBundlesResponse → List ℕ
spell_jwt_bundles m = flat_map (map_field field_number.JWT_BUNDLES_BUNDLES) m.bundles

-- `JWTSVIDResponse`
unfoldable pub spell_jwt : JwtResponse → List ℕ
spell_jwt m = flat_map jwt_field m.svids

-- a count of 64 bits stands still at its end
abbrev pub capped : ℕ → ℕ
capped n = min n 18446744073709551615
