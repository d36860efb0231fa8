-- Places in words: the members of documents and configurations, by the numbers of their fields (own rule).
use Rattle.std.specs.Prelude.{ℕ, ◌==◌, if◌then◌else◌, List, [], ◌∷◌, ◌++◌, codes, get_or}
use Rattle.std.specs.Fmt.{decimal}
use Rattle.fault_lines.specs.declared.places.Place.{Place}

-- the members of a document, by their fields from 0 on: what has no name is a `?`
unfoldable pub document_member : ℕ → List ℕ
document_member field =
    get_or
    (codes "document" ∷ codes "version" ∷ codes "trust_domain" ∷ codes "bundles" ∷ codes "entries"
    ∷ codes "svids" ∷ codes "renew_before" ∷ [])
    field (codes "?")

unfoldable pub bundle_member : ℕ → List ℕ
bundle_member field =
    get_or
    ([] ∷ codes ".trust_domain" ∷ codes ".x509" ∷ codes ".jwks" ∷ [])
    field (codes ".?")

unfoldable pub entry_member : ℕ → List ℕ
entry_member field =
    get_or
    ([] ∷ codes ".id" ∷ codes ".spiffe_id" ∷ codes ".selectors" ∷ codes ".federates_with"
    ∷ codes ".dns_names" ∷ codes ".ttl" ∷ codes ".hint" ∷ [])
    field (codes ".?")

unfoldable pub svid_member : ℕ → List ℕ
svid_member field =
    get_or
    ([] ∷ codes ".entry" ∷ codes ".chain" ∷ codes ".key" ∷ codes ".not_before" ∷ codes ".not_after" ∷ [])
    field (codes ".?")

-- the members of a configuration
unfoldable pub config_member : ℕ → List ℕ
config_member field =
    get_or
    (codes "configuration" ∷ codes "version" ∷ codes "upstream or document" ∷ codes "signer"
    ∷ codes "poll_seconds" ∷ codes "sockets" ∷ codes "signers" ∷ codes "log" ∷ codes "metrics"
    ∷ codes "threads" ∷ codes "stall_seconds" ∷ codes "opening_seconds" ∷ codes "memory_mib" ∷ [])
    field (codes "?")

unfoldable pub socket_member : ℕ → List ℕ
socket_member field =
    get_or
    ([] ∷ codes ".path or tcp" ∷ codes ".workers" ∷ codes ".selectors" ∷ codes ".owner" ∷ codes ".group"
    ∷ codes ".mode" ∷ codes ".uids" ∷ codes ".connections" ∷ codes ".tcp" ∷ codes ".connections_per_uid"
    ∷ [])
    field (codes ".?")

-- `NAME[INDEX]` and a member of that item
abbrev pub item_name : List ℕ → ℕ → List ℕ → List ℕ
item_name array index member = array ++ codes "[" ++ decimal index ++ codes "]" ++ member

unfoldable pub document_place : Place → List ℕ
document_place p =
    if p.part == 0 then document_member p.field
    else if p.part == 1 then item_name (codes "bundles") p.index (bundle_member p.field)
    else if p.part == 2 then item_name (codes "entries") p.index (entry_member p.field)
    else if p.part == 3 then item_name (codes "svids") p.index (svid_member p.field)
    else codes "?"

unfoldable pub config_place : Place → List ℕ
config_place p =
    if p.part == 0 then config_member p.field
    else if p.part == 4 then item_name (codes "sockets") p.index (socket_member p.field)
    else codes "?"
