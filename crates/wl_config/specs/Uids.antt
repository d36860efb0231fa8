-- The uids of a socket (own rules): numbers and ranges of them, as texts.
use Rattle.std.specs.Prelude.{ℕ, ◌+◌, ◌-◌, ◌<◌, ◌==◌, List, [], length, take, drop, codes, position, flat_map, nat_lt, nat_le, if◌then◌else◌, Option, Some, None, Result, Ok, Err, ⊤}
use Rattle.std.specs.List.{range_with_len}
use Rattle.serde_json.specs.Data.{Data}
use Rattle.list_laws.specs.Results.{◌>>=◌}
use Rattle.json_members.specs.Members.{or_fault, text_at}
use Rattle.json_members.specs.Arrays.{each_from, at_end}
use Rattle.decimal_text.specs.Decimals.{number_up_to}
use Rattle.wl_document.specs.declared.fault.Place.{Place}
use Rattle.wl_document.specs.Places.{item_at}
use Rattle.wl_config.specs.Places.{at_socket}
use Rattle.wl_config.specs.Members.{list_of}
use Rattle.wl_config.specs.declared.uids.UidRange.{UidRange}
use Rattle.wl_config.specs.declared.fault.ConfigFault.{ConfigFault}
use Rattle.wl_config.specs.declared.fault.ConfigFault.TheVariants.{Kind, TooMany}
use Rattle.wl_config.specs.declared.limits.TheConstants.{MAX_ID, MAX_SOCKETS}

-- the numbers from the first to the last, where they are that way round
abbrev pub range_between : Option ℕ → Option ℕ → Option UidRange
range_between None last = None
range_between (Some first) None = None
range_between (Some first) (Some last) = if nat_le first last then Some (record { first = first; end = last + 1 }) else None

-- one number, or two with a `-` between them
abbrev pub range_by : List ℕ → Option ℕ → Option UidRange
range_by text None = range_between (number_up_to MAX_ID text) (number_up_to MAX_ID text)
range_by text (Some at) = range_between (number_up_to MAX_ID (take at text)) (number_up_to MAX_ID (drop (at + 1) text))

-- `33` or `1000-1999`
unfoldable pub range_of : List ℕ → Option UidRange
range_of text = range_by text (position (λ b. b == 45) text)

-- it has a number
abbrev pub IsRange : UidRange → Type 0
IsRange range = range.first < range.end

-- each number of a range
abbrev pub numbers_of : UidRange → List ℕ
numbers_of range = range_with_len range.first (range.end - range.first)

unfoldable pub range_at : Place → ℕ → Data → Result UidRange ConfigFault
range_at p k d = text_at (Kind (item_at p k)) d >>= λ text. or_fault (Kind (item_at p k)) (range_of text)

unfoldable pub ranges_at : Place → List Data → Result (List UidRange) ConfigFault
ranges_at p ds = each_from (λ k before d. range_at p k d) at_end 0 [] ds

-- there is room for so many sockets more, beside those that there are
unfoldable pub room_for : Place → ℕ → ℕ → Result ⊤ ConfigFault
room_for p count more = if nat_lt MAX_SOCKETS (count + more) then Err (TooMany p (count + more)) else Ok tt

-- the uids of the socket at this index, where those before it are so many
unfoldable pub uids_of : ℕ → ℕ → Data → Result (List ℕ) ConfigFault
uids_of i count d = do
  items ← list_of MAX_SOCKETS (at_socket i 7) (codes "uids") d
  ranges ← ranges_at (at_socket i 7) items
  room ← room_for (at_socket i 7) count (length (flat_map numbers_of ranges))
  Ok (flat_map numbers_of ranges)
