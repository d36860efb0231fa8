-- A `JWTSVIDResponse` as JSON with what its tokens say (own rules): each item has the members `head` and `claims` besides, and
-- `signature_verified`, which is false. Where a token can't be decoded, head and claims are null.
use Rattle.std.specs.Prelude.{ℕ, List, [], ◌∷◌, ◌++◌, codes, Option, Some, None}
use Rattle.jws_text.specs.declared.said.Said.{Said}
use Rattle.jws_text.specs.Tokens.{said_in}
use Rattle.wl_client.specs.declared.response.JwtResponse.{JwtResponse}
use Rattle.wl_client.specs.declared.response.JwtItem.{JwtItem}
use Rattle.svid_forms.specs.declared.names.Name.{Name}
use Rattle.svid_forms.specs.declared.names.Name.TheVariants as names
use Rattle.svid_forms.specs.Json.{opening, jwt_members, list_member}

-- a member whose value is this text of JSON
unfoldable pub raw_member : Name → List ℕ → List ℕ
raw_member name text = opening 44 name ++ text

unfoldable pub part_members : List ℕ → List ℕ → List ℕ
part_members head claims = raw_member names.Head head ++ raw_member names.Claims claims

abbrev pub said_members : Option Said → List ℕ
said_members None = part_members (codes "null") (codes "null")
said_members (Some s) = part_members s.head s.claims

unfoldable pub decoded_item : JwtItem → List ℕ
decoded_item s = jwt_members s ++ said_members (said_in s.svid) ++ raw_member names.SignatureVerified (codes "false") ++ 125 ∷ []

unfoldable pub decoded_json : JwtResponse → List ℕ
decoded_json m = list_member decoded_item 123 names.Svids m.svids ++ 125 ∷ 10 ∷ []
