-- What the streaming calls of the Workload API are answered on a view (SPIFFE Workload API; own rules).
use Rattle.std.specs.Prelude.{ℕ, ◌+◌, ◌<◌, ◌≤◌, ◌==◌, Bool, true, false, not, nat_lt, if◌then◌else◌, List, [], ◌∷◌, ◌++◌, length, filter, map, codes, Option, Some, None}
use Rattle.std.specs.Str.{bytes_eq}
use Rattle.std.specs.List.{flat_map}
use Rattle.grpc_wire.specs.declared.prefix.TheConstants.{PREFIX_LEN}
use Rattle.grpc_wire.specs.Messages.{framed}
use Rattle.workload_proto.specs.declared.message.X509Response.{X509Response}
use Rattle.workload_proto.specs.declared.message.X509Item.{X509Item}
use Rattle.workload_proto.specs.declared.message.MapItem.{MapItem}
use Rattle.workload_proto.specs.declared.message.BundlesResponse.{BundlesResponse}
use Rattle.workload_proto.specs.declared.message.JwtBundlesResponse.{JwtBundlesResponse}
use Rattle.workload_proto.specs.declared.limits.TheConstants.{MAX_RESPONSE_LEN}
use Rattle.workload_proto.specs.Spelling.{spell_x509, spell_bundles, spell_jwt_bundles, capped}
use Rattle.sorted_lists.specs.Keys.{item_at}
use Rattle.wl_entry.specs.Asks.{ask_of}
use Rattle.wl_entry.specs.Keys.{bundle_key}
use Rattle.wl_entry.specs.declared.entries.Entry.{Entry}
use Rattle.wl_entry.specs.declared.signing.Svid.{Svid}
use Rattle.wl_entry.specs.declared.bundles.Bundle.{Bundle}
use Rattle.wl_snapshot.specs.Views.{ViewModel, is_whole}
use Rattle.wl_snapshot.specs.declared.views.Held.{Held}
use Rattle.wl_snapshot.specs.declared.answers.Answer.{Answer}
use Rattle.wl_snapshot.specs.declared.answers.Answer.TheVariants.{Denied, Wait, TooLong, Message}
use Rattle.wl_snapshot.specs.declared.answers.Method3.{Method3}
use Rattle.wl_snapshot.specs.declared.answers.Method3.TheVariants.{X509Svid, X509Bundles, JwtBundles}
use Rattle.wl_snapshot.specs.declared.token_asks.Wanted.{Wanted}

-- ---- the messages

-- the X.509 bundle of a domain, empty where there is none
abbrev pub x509_part : Option Bundle → List ℕ
x509_part None = []
x509_part (Some b) = b.x509

unfoldable pub x509_bundle : ViewModel → List ℕ → List ℕ
x509_bundle v domain = x509_part (item_at bundle_key v.bundles domain)

-- one `X509SVID` per entry: the id, the chain, the key, the own domain's X.509 bundle and the entry's hint
abbrev pub x509_item : List ℕ → Entry → Option Svid → List X509Item
x509_item own e None = []
x509_item own e (Some s) = record { spiffe_id = e.spiffe_id; chain = s.signed.chain; key = s.signed.key; bundle = own; hint = e.hint } ∷ []

unfoldable pub x509_items : List ℕ → Held → List X509Item
x509_items own h = x509_item own h.entry h.svid

-- an item of a map from the ids of domains, left out where the value is empty
abbrev pub map_item : List ℕ → List ℕ → List MapItem
map_item domain [] = []
map_item domain (b ∷ bytes) = record { key = codes "spiffe://" ++ domain; value = b ∷ bytes } ∷ []

-- a foreign domain's X.509 bundle
unfoldable pub federated_item : List ℕ → Bundle → List MapItem
federated_item own b = if bytes_eq b.domain own then [] else map_item b.domain b.x509

unfoldable pub x509_map_item : Bundle → List MapItem
x509_map_item b = map_item b.domain b.x509

unfoldable pub jwks_map_item : Bundle → List MapItem
jwks_map_item b = map_item b.domain b.jwks

unfoldable pub x509_message : ViewModel → X509Response
x509_message v = record { svids = flat_map (x509_items (x509_bundle v v.domain)) v.held; federated = flat_map (federated_item v.domain) v.bundles }

unfoldable pub bundles_message : ViewModel → BundlesResponse
bundles_message v = record { bundles = flat_map x509_map_item v.bundles }

unfoldable pub jwt_bundles_message : ViewModel → JwtBundlesResponse
jwt_bundles_message v = record { bundles = flat_map jwks_map_item v.bundles }

-- a method's message in its encoding
unfoldable pub message_of : Method3 → ViewModel → List ℕ
message_of X509Svid v = spell_x509 (x509_message v)
message_of X509Bundles v = spell_bundles (bundles_message v)
message_of JwtBundles v = spell_jwt_bundles (jwt_bundles_message v)

-- ---- the answer

-- a FetchX509SVID call waits until every entry has its SVID
abbrev pub waits : Method3 → ViewModel → Bool
waits X509Svid v = not (is_whole v)
waits X509Bundles v = false
waits JwtBundles v = false

-- a message within its limit
abbrev pub within_limit : List ℕ → Answer
within_limit m = if nat_lt MAX_RESPONSE_LEN (capped (length m)) then TooLong (capped (length m)) else Message m

-- the first that applies: nothing is seen; it waits; its message is too long; its message
unfoldable pub answer_of : Method3 → ViewModel → Answer
answer_of method v = if length v.held == 0 then Denied else if waits method v then Wait else within_limit (message_of method v)

-- a message is within its limit
abbrev pub IsShort : Answer → Type 0
IsShort Denied = Unit {0}
IsShort Wait = Unit {0}
IsShort (TooLong n) = MAX_RESPONSE_LEN < n
IsShort (Message m) = length m ≤ MAX_RESPONSE_LEN

-- the same answer, with a message after its gRPC prefix
abbrev pub with_prefix : Answer → Answer
with_prefix Denied = Denied
with_prefix Wait = Wait
with_prefix (TooLong n) = TooLong n
with_prefix (Message m) = Message (framed m)

-- a message after its prefix is within its limit
abbrev pub IsFramed : Answer → Type 0
IsFramed Denied = Unit {0}
IsFramed Wait = Unit {0}
IsFramed (TooLong n) = MAX_RESPONSE_LEN < n
IsFramed (Message m) = (PREFIX_LEN ≤ length m) × (length m ≤ PREFIX_LEN + MAX_RESPONSE_LEN)

-- ---- the tokens that a FetchJWTSVID call asks for

-- the entry is meant: no id is named, or it is the entry's
abbrev pub is_meant : Option (List ℕ) → Held → Bool
is_meant None h = true
is_meant (Some id) h = bytes_eq h.entry.spiffe_id id

abbrev pub wanted_of : Held → Wanted
wanted_of h = record { ask = ask_of h.entry; hint = h.entry.hint }

-- one ask for each entry, or for each of the id that is named, by ascending entry id, each with its entry's hint
unfoldable pub asks_of : Option (List ℕ) → ViewModel → List Wanted
asks_of id v = map wanted_of (filter (is_meant id) v.held)
