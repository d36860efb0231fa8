-- The entries of a document (own rules).
use Rattle.std.specs.Prelude.{ℕ, ◌||◌, ◌==◌, List, [], length, codes, Bool, nat_lt, if◌then◌else◌, Result, Ok, Err}
use Rattle.serde_json.specs.Data.{Data}
use Rattle.serde_json.specs.Find.{get}
use Rattle.wl_selector.specs.Selectors.{selector_fault, sorted_texts}
use Rattle.wl_entry.specs.declared.entries.Entry.{Entry}
use Rattle.wl_entry.specs.Keys.{entry_key}
use Rattle.list_laws.specs.Results.{◌>>=◌}
use Rattle.wl_entry.specs.declared.limits.TheConstants.{MAX_SELECTORS, MAX_FEDERATED, MAX_DNS_NAMES, MAX_HINT_LEN}
use Rattle.wl_document.specs.declared.limits.TheConstants.{MAX_DNS_NAME_LEN, MAX_TTL, DEFAULT_TTL}
use Rattle.wl_document.specs.Checks.{no_selector_fault}
use Rattle.wl_document.specs.Places.{at_entry, item_at}
use Rattle.json_members.specs.Arrays.{each_from, at_end}
use Rattle.json_members.specs.Members.{optional, object_at, text_at, number_at}
use Rattle.wl_document.specs.Arrays.{was_given, ascending}
use Rattle.wl_document.specs.Members.{list_of, list_or_empty, domain_at, id_of, name_of, text_or_empty}
use Rattle.wl_document.specs.declared.fault.Place.{Place}
use Rattle.wl_document.specs.declared.fault.DocFault.{DocFault}
use Rattle.wl_document.specs.declared.fault.DocFault.TheVariants.{Kind, Duplicate, NoSelectors}

-- `type:value` in UTF-8
unfoldable pub selector_of : Place → ℕ → Data → Result (List ℕ) DocFault
selector_of p k d = text_at (Kind (item_at p k)) d >>= λ text. no_selector_fault (item_at p k) text (selector_fault text)

unfoldable pub selector_list_of : Place → List Data → Result (List (List ℕ)) DocFault
selector_list_of p ds = each_from (λ k before d. selector_of p k d) at_end 0 [] ds

-- One selector at least. Repeated ones count once in the set and each in the length.
unfoldable pub selectors_of : Place → Data → Result (List (List ℕ)) DocFault
selectors_of p d = do
  items ← list_of MAX_SELECTORS p (codes "selectors") d
  if length items == 0 then Err (NoSelectors p) else do
    texts ← selector_list_of p items
    Ok (sorted_texts texts)

unfoldable pub federated_of : Place → ℕ → Data → Result (List ℕ) DocFault
federated_of p k d = domain_at (item_at p k) d

unfoldable pub federates_of : Place → List Data → Result (List (List ℕ)) DocFault
federates_of p ds = each_from (λ k before d. federated_of p k d) at_end 0 [] ds

unfoldable pub federated_list_of : ℕ → Data → Result (List Data) DocFault
federated_list_of i d = list_or_empty MAX_FEDERATED (at_entry i 4) (codes "federates_with") d

-- domain names, within their limit
unfoldable pub federates_with_of : ℕ → Data → Result (List (List ℕ)) DocFault
federates_with_of i d = federated_list_of i d >>= federates_of (at_entry i 4)

-- a text that is not empty, within its limit
unfoldable pub dns_name_of : Place → ℕ → Data → Result (List ℕ) DocFault
dns_name_of p k d = do
  text ← text_at (Kind (item_at p k)) d
  if (length text == 0) || nat_lt MAX_DNS_NAME_LEN (length text) then Err (Kind (item_at p k)) else Ok text

unfoldable pub dns_names_of : Place → List Data → Result (List (List ℕ)) DocFault
dns_names_of p ds = each_from (λ k before d. dns_name_of p k d) at_end 0 [] ds

-- DNS names, within their limit
unfoldable pub dns_names_in : ℕ → Data → Result (List (List ℕ)) DocFault
dns_names_in i d = list_or_empty MAX_DNS_NAMES (at_entry i 5) (codes "dns_names") d >>= dns_names_of (at_entry i 5)

-- a whole number from 1 to the limit
unfoldable pub ttl_at : Place → Data → Result ℕ DocFault
ttl_at p d = do
  n ← number_at (Kind p) d
  if (n == 0) || nat_lt MAX_TTL n then Err (Kind p) else Ok n

-- the default, where it is absent
unfoldable pub ttl_of : Place → Data → Result ℕ DocFault
ttl_of p d = optional (ttl_at p) DEFAULT_TTL (get (codes "ttl") d)

-- In version 2 alone, within its limit; in version 1 the member is an unknown one.
unfoldable pub hint_of : ℕ → Place → Data → Result (List ℕ) DocFault
hint_of version p d = if version == 2 then text_or_empty MAX_HINT_LEN p (codes "hint") d else Ok []

-- the fields that have a default
pub record Extras : Type 0 where
  pub federates_with : List (List ℕ)
  pub dns_names : List (List ℕ)
  pub ttl : ℕ
  pub hint : List ℕ

unfoldable pub extras_of : ℕ → ℕ → Data → Result Extras DocFault
extras_of version i d = do
  federates_with ← federates_with_of i d
  dns_names ← dns_names_in i d
  ttl ← ttl_of (at_entry i 6) d
  hint ← hint_of version (at_entry i 7) d
  Ok (record { federates_with = federates_with; dns_names = dns_names; ttl = ttl; hint = hint })

-- an id that no entry before it has
unfoldable pub entry_name_of : ℕ → (List ℕ → Bool) → Data → Result (List ℕ) DocFault
entry_name_of i given d = do
  object ← object_at (Kind (at_entry i 0)) d
  id ← name_of (at_entry i 1) (codes "id") d
  if given id then Err (Duplicate (at_entry i 1)) else Ok id

-- the entry at this index, where these ids were given before
unfoldable pub entry_of : List ℕ → ℕ → ℕ → (List ℕ → Bool) → Data → Result Entry DocFault
entry_of own version i given d = do
  id ← entry_name_of i given d
  spiffe_id ← id_of own (at_entry i 2) (codes "spiffe_id") d
  selectors ← selectors_of (at_entry i 3) d
  extras ← extras_of version i d
  Ok (record { id = id; spiffe_id = spiffe_id; selectors = selectors; federates_with = extras.federates_with; dns_names = extras.dns_names; ttl = extras.ttl; hint = extras.hint })

-- the entries of an array as they stand there, each read beside the ids of those before it
unfoldable pub read_entries : List ℕ → ℕ → List Data → Result (List Entry) DocFault
read_entries own version ds = each_from (λ i before d. entry_of own version i (was_given entry_key before) d) at_end 0 [] ds

-- the same by ascending id
unfoldable pub entries_of : List ℕ → ℕ → List Data → Result (List Entry) DocFault
entries_of own version ds = read_entries own version ds >>= λ entries. Ok (ascending entry_key entries)
