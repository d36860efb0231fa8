-- The signed identities of a document (own rules).
use Rattle.std.specs.Prelude.{ℕ, List, [], codes, Bool, if◌then◌else◌, Result, Ok, Err}
use Rattle.serde_json.specs.Data.{Data}
use Rattle.list_laws.specs.Results.{◌>>=◌}
use Rattle.wl_document.specs.Places.{at_svid}
use Rattle.json_members.specs.Arrays.{each_from, at_end}
use Rattle.json_members.specs.Members.{object_at}
use Rattle.wl_document.specs.Arrays.{was_given, ascending}
use Rattle.wl_document.specs.Members.{number_of, name_of, base64_of}
use Rattle.wl_document.specs.declared.fault.DocFault.{DocFault}
use Rattle.wl_document.specs.declared.fault.DocFault.TheVariants.{Kind, Duplicate}
use Rattle.wl_document.specs.declared.state.DocSvid.{DocSvid}

-- an entry's id that no signed identity before it has
unfoldable pub svid_name_of : ℕ → (List ℕ → Bool) → Data → Result (List ℕ) DocFault
svid_name_of i given d = do
  object ← object_at (Kind (at_svid i 0)) d
  id ← name_of (at_svid i 1) (codes "entry") d
  if given id then Err (Duplicate (at_svid i 1)) else Ok id

-- the signed identity at this index, where these ids were given before
unfoldable pub svid_of : ℕ → (List ℕ → Bool) → Data → Result DocSvid DocFault
svid_of i given d = do
  id ← svid_name_of i given d
  chain ← base64_of (at_svid i 2) (codes "chain") d
  key ← base64_of (at_svid i 3) (codes "key") d
  not_before ← number_of (at_svid i 4) (codes "not_before") d
  not_after ← number_of (at_svid i 5) (codes "not_after") d
  Ok (record { entry_id = id; signed = record { chain = chain; key = key; not_before = not_before; not_after = not_after } })

abbrev pub doc_svid_key : DocSvid → List ℕ
doc_svid_key s = s.entry_id

-- the signed identities of an array as they stand there, each read beside the ids of those before it
unfoldable pub read_svids : List Data → Result (List DocSvid) DocFault
read_svids ds = each_from (λ i before d. svid_of i (was_given doc_svid_key before) d) at_end 0 [] ds

-- the same by ascending id
unfoldable pub svids_of : List Data → Result (List DocSvid) DocFault
svids_of ds = read_svids ds >>= λ svids. Ok (ascending doc_svid_key svids)
