-- What the code keeps while it walks the arrays of a document. proofs/Plain.antt shows that it comes to the lists of the document.
use Rattle.std.specs.Prelude.{ℕ, List, [], if◌then◌else◌, Option, Result, Ok, Err}
use Rattle.std.specs.Map.{values_of}
use Rattle.serde_json.specs.Data.{Data}
use Rattle.wl_entry.specs.declared.bundles.Bundle.{Bundle}
use Rattle.wl_entry.specs.declared.entries.Entry.{Entry}
use Rattle.list_laws.specs.Results.{◌>>=◌}
use Rattle.json_members.specs.Arrays.{each_from}
use Rattle.wl_document.specs.Bundles.{bundle_of}
use Rattle.wl_document.specs.Entries.{entry_of}
use Rattle.wl_document.specs.Svids.{svid_of}
use Rattle.wl_document.specs.States.{State}
use Rattle.wl_document.specs.Documents.{has_x509, top_of}
use Rattle.wl_document.specs.Kept.{Kept, kept_has, put, kept_at}
use Rattle.wl_document.specs.declared.fault.DocFault.{DocFault}
use Rattle.wl_document.specs.declared.fault.DocFault.TheVariants.{NoOwnBundle}
use Rattle.wl_document.specs.declared.state.DocSvid.{DocSvid}

unfoldable pub bundle_beside : ℕ → Kept Bundle → Data → Result Bundle DocFault
bundle_beside i kept d = bundle_of i (kept_has kept) d

abbrev pub put_bundle : Kept Bundle → Bundle → Kept Bundle
put_bundle kept b = put kept b.domain b

unfoldable pub kept_bundles : List Data → Result (Kept Bundle) DocFault
kept_bundles ds = each_from bundle_beside put_bundle 0 [] ds

unfoldable pub kept_own_bundles : List ℕ → List Data → Result (Kept Bundle) DocFault
kept_own_bundles own ds = do
  bundles ← kept_bundles ds
  if has_x509 (kept_at bundles own) then Ok bundles else Err NoOwnBundle

unfoldable pub entry_beside : List ℕ → ℕ → ℕ → Kept Entry → Data → Result Entry DocFault
entry_beside own version i kept d = entry_of own version i (kept_has kept) d

abbrev pub put_entry : Kept Entry → Entry → Kept Entry
put_entry kept e = put kept e.id e

unfoldable pub kept_entries : List ℕ → ℕ → List Data → Result (Kept Entry) DocFault
kept_entries own version ds = each_from (entry_beside own version) put_entry 0 [] ds

unfoldable pub svid_beside : ℕ → Kept DocSvid → Data → Result DocSvid DocFault
svid_beside i kept d = svid_of i (kept_has kept) d

abbrev pub put_svid : Kept DocSvid → DocSvid → Kept DocSvid
put_svid kept s = put kept s.entry_id s

unfoldable pub kept_svids : List Data → Result (Kept DocSvid) DocFault
kept_svids ds = each_from svid_beside put_svid 0 [] ds

unfoldable pub kept_state : Option (List ℕ) → Data → Result State DocFault
kept_state own d = do
  top ← top_of own d
  bundles ← kept_own_bundles top.domain top.bundles
  entries ← kept_entries top.domain top.version top.entries
  svids ← kept_svids top.svids
  Ok (record { domain = top.domain; bundles = values_of bundles; entries = values_of entries; svids = values_of svids; renew_before = top.renew_before })
