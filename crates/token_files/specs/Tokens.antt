-- The files of answers of FetchJWTSVID and FetchJWTBundles (own rules): `jwt.AUDIENCE-K.token` has the Kth token for an audience,
-- as it came and nothing more; `jwks.json` has the JWT bundle of the caller's own trust domain.
use Rattle.std.specs.Prelude.{ℕ, ◌+◌, ◌==◌, ◌&&◌, nat_le, if◌then◌else◌, Bool, true, false, List, [], ◌∷◌, length, take, codes, position, Option, Some, None, Result, Ok, Err}
use Rattle.std.specs.Str.{bytes_eq}
use Rattle.std.specs.List.{list_all}
use Rattle.pb_wire.specs.declared.fault.FieldFault.{FieldFault}
use Rattle.wl_client.specs.declared.response.JwtResponse.{JwtResponse}
use Rattle.wl_client.specs.declared.response.JwtItem.{JwtItem}
use Rattle.wl_client.specs.declared.response.JwtBundlesResponse.{JwtBundlesResponse}
use Rattle.wl_client.specs.declared.response.MapItem.{MapItem}
use Rattle.wl_client.specs.Messages.{jwt_of, jwt_bundles_of}
use Rattle.file_sets.specs.declared.set.File.{File}
use Rattle.svid_files.specs.Names.{domain_of}
use Rattle.token_files.specs.declared.answers.TokenAnswer.{TokenAnswer}
use Rattle.token_files.specs.Names.{token_name}

-- ---- tokens

unfoldable pub token_file : List ℕ → ℕ → JwtItem → File
token_file audience at s = record { name = token_name audience at; is_secret = true; bytes = s.svid }

abbrev pub tokens_from : List ℕ → ℕ → List JwtItem → List File
tokens_from audience at [] = []
tokens_from audience at (s ∷ more) = token_file audience at s ∷ tokens_from audience (at + 1) more

abbrev pub tokens_by : List ℕ → Result JwtResponse FieldFault → List File
tokens_by audience (Ok m) = tokens_from audience 0 m.svids
tokens_by audience (Err fault) = []

-- the files of an answer
unfoldable pub tokens_of : TokenAnswer → List File
tokens_of a = tokens_by a.audience (jwt_of a.message)

abbrev pub is_token : JwtItem → Bool
is_token s = nat_le 1 (length s.svid)

-- at least one token, and none is empty
abbrev pub are_tokens : Result JwtResponse FieldFault → Bool
are_tokens (Ok m) = nat_le 1 (length m.svids) && list_all is_token m.svids
are_tokens (Err fault) = false

unfoldable pub has_tokens : TokenAnswer → Bool
has_tokens a = are_tokens (jwt_of a.message)

-- ---- the own JWT bundle

abbrev pub is_slash : ℕ → Bool
is_slash b = b == 47

abbrev pub cut_at : List ℕ → Option ℕ → List ℕ
cut_at text None = text
cut_at text (Some at) = take at text

-- the trust domain of a SPIFFE ID (SPIFFE-ID, section 2): what stands after the scheme, up to the path
unfoldable pub trust_domain : List ℕ → List ℕ
trust_domain id = cut_at (domain_of id) (position is_slash (domain_of id))

-- the bundle of this trust domain, the first where there are more
abbrev pub bundle_for : List ℕ → List MapItem → Option (List ℕ)
bundle_for domain [] = None
bundle_for domain (b ∷ more) = if bytes_eq (domain_of b.key) domain then Some b.value else bundle_for domain more

abbrev pub jwks_by : List ℕ → Result JwtBundlesResponse FieldFault → Option (List ℕ)
jwks_by domain (Ok m) = bundle_for domain m.bundles
jwks_by domain (Err fault) = None

-- the JWT bundle of this id's trust domain in a message
unfoldable pub jwks_of : List ℕ → List ℕ → Option (List ℕ)
jwks_of id message = jwks_by (trust_domain id) (jwt_bundles_of message)

unfoldable pub jwks_name : List ℕ
jwks_name = codes "jwks.json"

unfoldable pub jwks_file : List ℕ → File
jwks_file jwks = record { name = jwks_name; is_secret = false; bytes = jwks }
