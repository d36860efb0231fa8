-- The bundles of a document (own rules). An empty part is an absent one.
use Rattle.std.specs.Prelude.{ℕ, List, [], codes, Bool, if◌then◌else◌, Result, Ok, Err}
use Rattle.serde_json.specs.Data.{Data}
use Rattle.serde_json.specs.Find.{get}
use Rattle.wl_entry.specs.declared.bundles.Bundle.{Bundle}
use Rattle.wl_entry.specs.Keys.{bundle_key}
use Rattle.list_laws.specs.Results.{◌>>=◌}
use Rattle.wl_entry.specs.declared.limits.TheConstants.{MAX_PART_LEN}
use Rattle.wl_document.specs.Places.{at_bundle}
use Rattle.json_members.specs.Arrays.{each_from, at_end}
use Rattle.json_members.specs.Members.{optional, object_at}
use Rattle.wl_document.specs.Arrays.{was_given, ascending}
use Rattle.wl_document.specs.Members.{domain_of, base64_at, at_most, text_or_empty}
use Rattle.wl_document.specs.declared.fault.Place.{Place}
use Rattle.wl_document.specs.declared.fault.DocFault.{DocFault}
use Rattle.wl_document.specs.declared.fault.DocFault.TheVariants.{Kind, Duplicate}

-- bytes in base64, within their limit
unfoldable pub x509_at : Place → Data → Result (List ℕ) DocFault
x509_at p d = base64_at p d >>= at_most MAX_PART_LEN p

unfoldable pub x509_of : Place → Data → Result (List ℕ) DocFault
x509_of p d = optional (x509_at p) [] (get (codes "x509") d)

unfoldable pub bundle_name_of : ℕ → Data → Result (List ℕ) DocFault
bundle_name_of i d = do
  object ← object_at (Kind (at_bundle i 0)) d
  domain_of (at_bundle i 1) (codes "trust_domain") d

-- a domain that no bundle before it has
unfoldable pub bundle_domain_of : ℕ → (List ℕ → Bool) → Data → Result (List ℕ) DocFault
bundle_domain_of i given d = do
  domain ← bundle_name_of i d
  if given domain then Err (Duplicate (at_bundle i 1)) else Ok domain

-- the bundle at this index, where these domains were given before
unfoldable pub bundle_of : ℕ → (List ℕ → Bool) → Data → Result Bundle DocFault
bundle_of i given d = do
  domain ← bundle_domain_of i given d
  x509 ← x509_of (at_bundle i 2) d
  jwks ← text_or_empty MAX_PART_LEN (at_bundle i 3) (codes "jwks") d
  Ok (record { domain = domain; x509 = x509; jwks = jwks })

-- the bundles of an array as they stand there, each read beside the domains of those before it
unfoldable pub read_bundles : List Data → Result (List Bundle) DocFault
read_bundles ds = each_from (λ i before d. bundle_of i (was_given bundle_key before) d) at_end 0 [] ds

-- the same by ascending domain
unfoldable pub bundles_of : List Data → Result (List Bundle) DocFault
bundles_of ds = read_bundles ds >>= λ bundles. Ok (ascending bundle_key bundles)
