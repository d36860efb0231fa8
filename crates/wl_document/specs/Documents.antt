-- The state of a document (own rules): the checks in their order over the value that the document's JSON is
-- (RFC 8259, the last of equal members); the first that fails is the fault.
use Rattle.std.specs.Prelude.{ℕ, ◌||◌, ◌==◌, List, length, codes, Bool, true, false, not, nat_lt, if◌then◌else◌, Option, Some, None, Result, Ok, Err}
use Rattle.std.specs.Str.{bytes_eq}
use Rattle.serde_json.specs.Data.{Data}
use Rattle.wl_entry.specs.declared.bundles.Bundle.{Bundle}
use Rattle.list_laws.specs.Results.{◌>>=◌}
use Rattle.wl_entry.specs.declared.limits.TheConstants.{MAX_ENTRIES, MAX_BUNDLES}
use Rattle.json_members.specs.Members.{or_fault, object_at}
use Rattle.json_members.specs.Texts.{value_of}
use Rattle.wl_document.specs.Places.{at_top}
use Rattle.wl_document.specs.Members.{number_of, number_or_zero, domain_of, list_of, list_or_empty}
use Rattle.wl_document.specs.Bundles.{bundles_of}
use Rattle.sorted_lists.specs.Keys.{item_at}
use Rattle.wl_entry.specs.Keys.{bundle_key}
use Rattle.wl_document.specs.Entries.{entries_of}
use Rattle.wl_document.specs.Svids.{svids_of}
use Rattle.wl_document.specs.States.{State}
use Rattle.wl_document.specs.declared.fault.DocFault.{DocFault}
use Rattle.wl_document.specs.declared.limits.TheConstants.{DOCUMENT_LIMIT, MAX_SVIDS}
use Rattle.wl_document.specs.declared.fault.DocFault.TheVariants.{NotJson, Version, Kind, ForeignDomain, NoOwnBundle, TooLong}

unfoldable pub version_of : Data → Result ℕ DocFault
version_of d = do
  n ← number_of (at_top 1) (codes "version") d
  if (n == 1) || (n == 2) then Ok n else Err Version

-- the own domain that was given, if any, is this one
abbrev pub is_own : Option (List ℕ) → List ℕ → Bool
is_own None domain = true
is_own (Some own) domain = bytes_eq domain own

unfoldable pub top_domain_of : Data → Result (List ℕ) DocFault
top_domain_of d = domain_of (at_top 2) (codes "trust_domain") d

unfoldable pub own_domain_of : Option (List ℕ) → Data → Result (List ℕ) DocFault
own_domain_of own d = do
  domain ← top_domain_of d
  if is_own own domain then Ok domain else Err (ForeignDomain (at_top 2))

pub record Lists : Type 0 where
  pub bundles : List Data
  pub entries : List Data
  pub svids : List Data

-- the three arrays, within their limits
unfoldable pub lists_of : Data → Result Lists DocFault
lists_of d = do
  bundles ← list_of MAX_BUNDLES (at_top 3) (codes "bundles") d
  entries ← list_of MAX_ENTRIES (at_top 4) (codes "entries") d
  svids ← list_or_empty MAX_SVIDS (at_top 5) (codes "svids") d
  Ok (record { bundles = bundles; entries = entries; svids = svids })

-- the second since which identities and tokens have to be signed
unfoldable pub renew_before_of : Data → Result ℕ DocFault
renew_before_of d = number_or_zero (at_top 6) (codes "renew_before") d

-- the own domain has an X.509 bundle that is not empty
abbrev pub has_x509 : Option Bundle → Bool
has_x509 None = false
has_x509 (Some b) = not (length b.x509 == 0)

unfoldable pub own_bundles_of : List ℕ → List Data → Result (List Bundle) DocFault
own_bundles_of own ds = do
  bundles ← bundles_of ds
  if has_x509 (item_at bundle_key bundles own) then Ok bundles else Err NoOwnBundle

-- the members of the top, all of which are judged before the first bundle
pub record Top : Type 0 where
  pub version : ℕ
  pub domain : List ℕ
  pub bundles : List Data
  pub entries : List Data
  pub svids : List Data
  pub renew_before : ℕ

unfoldable pub top_of : Option (List ℕ) → Data → Result Top DocFault
top_of own d = do
  object ← object_at (Kind (at_top 0)) d
  version ← version_of d
  domain ← own_domain_of own d
  lists ← lists_of d
  renew_before ← renew_before_of d
  Ok (record { version = version; domain = domain; bundles = lists.bundles; entries = lists.entries; svids = lists.svids; renew_before = renew_before })

-- the state that a value's members name
unfoldable pub state_of : Option (List ℕ) → Data → Result State DocFault
state_of own d = do
  top ← top_of own d
  bundles ← own_bundles_of top.domain top.bundles
  entries ← entries_of top.domain top.version top.entries
  svids ← svids_of top.svids
  Ok (record { domain = top.domain; bundles = bundles; entries = entries; svids = svids; renew_before = top.renew_before })

-- the state of a document, where an own domain may be given
unfoldable pub document_state : Option (List ℕ) → List ℕ → Result State DocFault
document_state own document = if nat_lt DOCUMENT_LIMIT (length document) then Err (TooLong (at_top 0) (length document)) else (or_fault NotJson (value_of document) >>= state_of own)
