-- The publication of a document alone: of its signed identities those are kept whose entry is there and which are fit
-- at their own first second (own rule).
use Rattle.std.specs.Prelude.{Bool, if◌then◌else◌, List, [], ◌∷◌, Option, Some, None, is_none}
use Rattle.std.specs.List.{flat_map}
use Rattle.sorted_lists.specs.Keys.{item_at}
use Rattle.wl_entry.specs.Asks.{ask_of}
use Rattle.wl_entry.specs.Fitness.{signed_unfit}
use Rattle.wl_entry.specs.Keys.{entry_key}
use Rattle.wl_entry.specs.declared.entries.Entry.{Entry}
use Rattle.wl_entry.specs.declared.signing.Svid.{Svid}
use Rattle.wl_entry.specs.declared.signing.Signed.{Signed}
use Rattle.wl_document.specs.declared.state.DocSvid.{DocSvid}
use Rattle.wl_document.specs.States.{State}
use Rattle.wl_snapshot.specs.Snapshots.{Publication}

abbrev pub is_fit : Signed → Bool
is_fit s = is_none (signed_unfit s.not_before s)

-- the SVID that is kept of an identity, fit or not, for this entry
abbrev pub kept_for : Bool → Signed → Option Entry → List Svid
kept_for fit signed None = []
kept_for fit signed (Some e) = if fit then record { ask = ask_of e; signed = signed } ∷ [] else []

unfoldable pub kept_of : List Entry → DocSvid → List Svid
kept_of entries s = kept_for (is_fit s.signed) s.signed (item_at entry_key entries s.entry_id)

unfoldable pub kept_in : List Entry → List DocSvid → List Svid
kept_in entries svids = flat_map (kept_of entries) svids

-- publication 0 of a document, with these SVIDs
unfoldable pub publication_of : State → Publication
publication_of s = record { number = 0; domain = s.domain; entries = s.entries; svids = kept_in s.entries s.svids; bundles = s.bundles }
