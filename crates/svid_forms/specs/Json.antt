-- The messages of the Workload API as JSON (RFC 8259): one object, without spaces. Its members have the names that
-- `workload.proto` gives them, in the order of their numbers; bytes are base64 (RFC 4648, with padding), as the JSON mapping of
-- proto3 has them. Own rules: an empty value is written too; `crl` isn't; where a map has a key twice, so has the object.
use Rattle.std.specs.Prelude.{ℕ, suc, ◌+◌, ◌/◌, ◌%◌, ◌==◌, nat_lt, if◌then◌else◌, List, [], ◌∷◌, ◌++◌, codes}
use Rattle.std.specs.List.{flat_map}
use Rattle.base64.specs.Engines.{standard}
use Rattle.base64.specs.GeneralPurpose.{encode_of}
use Rattle.wl_client.specs.declared.response.X509Response.{X509Response}
use Rattle.wl_client.specs.declared.response.X509Item.{X509Item}
use Rattle.wl_client.specs.declared.response.MapItem.{MapItem}
use Rattle.wl_client.specs.declared.response.BundlesResponse.{BundlesResponse}
use Rattle.wl_client.specs.declared.response.JwtBundlesResponse.{JwtBundlesResponse}
use Rattle.wl_client.specs.declared.response.JwtResponse.{JwtResponse}
use Rattle.wl_client.specs.declared.response.JwtItem.{JwtItem}
use Rattle.svid_forms.specs.declared.names.Name.{Name}
use Rattle.svid_forms.specs.declared.names.Name.TheVariants as names

-- ---- texts (RFC 8259, section 7)

abbrev pub hex_digit : ℕ → ℕ
hex_digit n = if nat_lt n 10 then 48 + n else 87 + n

-- a quotation mark and a backslash after a backslash, a control character by its number, each other byte as it is
unfoldable pub escaped_byte : ℕ → List ℕ
escaped_byte b =
    if b == 34 then 92 ∷ 34 ∷ []
    else if b == 92 then 92 ∷ 92 ∷ []
    else if nat_lt b 32 then codes "\\u00" ++ hex_digit (b / 16) ∷ hex_digit (b % 16) ∷ []
    else b ∷ []

unfoldable pub escaped : List ℕ → List ℕ
escaped text = flat_map escaped_byte text

-- ---- members

abbrev pub name_text : Name → List ℕ
name_text names.SpiffeId = codes "spiffe_id"
name_text names.X509Svid = codes "x509_svid"
name_text names.X509SvidKey = codes "x509_svid_key"
name_text names.Bundle = codes "bundle"
name_text names.Hint = codes "hint"
name_text names.Svid = codes "svid"
name_text names.Svids = codes "svids"
name_text names.Bundles = codes "bundles"
name_text names.FederatedBundles = codes "federated_bundles"
name_text names.Head = codes "head"
name_text names.Claims = codes "claims"
name_text names.SignatureVerified = codes "signature_verified"

unfoldable pub text_value : List ℕ → List ℕ
text_value text = 34 ∷ escaped text ++ 34 ∷ []

unfoldable pub bytes_value : List ℕ → List ℕ
bytes_value bytes = 34 ∷ encode_of standard bytes ++ 34 ∷ []

-- `{` or `,`, and a name
unfoldable pub opening : ℕ → Name → List ℕ
opening lead name = lead ∷ 34 ∷ name_text name ++ 34 ∷ 58 ∷ []

unfoldable pub text_member : ℕ → Name → List ℕ → List ℕ
text_member lead name text = opening lead name ++ text_value text

unfoldable pub bytes_member : ℕ → Name → List ℕ → List ℕ
bytes_member lead name bytes = opening lead name ++ bytes_value bytes

-- ---- lists and maps

-- items after a comma, except the first of all
abbrev pub items_from : {X : Type 0} → (X → List ℕ) → ℕ → List X → List ℕ
items_from item at [] = []
items_from item at (x ∷ xs) = (if at == 0 then [] else 44 ∷ []) ++ item x ++ items_from item (at + 1) xs

unfoldable pub x509_item : X509Item → List ℕ
x509_item s =
    text_member 123 names.SpiffeId s.spiffe_id ++ bytes_member 44 names.X509Svid s.chain ++ bytes_member 44 names.X509SvidKey s.key
    ++ bytes_member 44 names.Bundle s.bundle ++ text_member 44 names.Hint s.hint ++ 125 ∷ []

unfoldable pub jwt_members : JwtItem → List ℕ
jwt_members s = text_member 123 names.SpiffeId s.spiffe_id ++ text_member 44 names.Svid s.svid ++ text_member 44 names.Hint s.hint

unfoldable pub jwt_item : JwtItem → List ℕ
jwt_item s = jwt_members s ++ 125 ∷ []

unfoldable pub map_item : MapItem → List ℕ
map_item b = text_value b.key ++ 58 ∷ bytes_value b.value

unfoldable pub list_member : {X : Type 0} → (X → List ℕ) → ℕ → Name → List X → List ℕ
list_member item lead name xs = opening lead name ++ 91 ∷ items_from item 0 xs ++ 93 ∷ []

unfoldable pub map_member : ℕ → Name → List MapItem → List ℕ
map_member lead name bundles = opening lead name ++ 123 ∷ items_from map_item 0 bundles ++ 125 ∷ []

-- ---- messages, each with the end of its line

unfoldable pub x509_json : X509Response → List ℕ
x509_json m = list_member x509_item 123 names.Svids m.svids ++ map_member 44 names.FederatedBundles m.federated ++ 125 ∷ 10 ∷ []

unfoldable pub bundles_json : BundlesResponse → List ℕ
bundles_json m = map_member 123 names.Bundles m.bundles ++ 125 ∷ 10 ∷ []

unfoldable pub jwt_bundles_json : JwtBundlesResponse → List ℕ
jwt_bundles_json m = map_member 123 names.Bundles m.bundles ++ 125 ∷ 10 ∷ []

unfoldable pub jwt_json : JwtResponse → List ℕ
jwt_json m = list_member jwt_item 123 names.Svids m.svids ++ 125 ∷ 10 ∷ []
