-- Who may open a socket's file (own rules): the uid and the group that own it, and its permission bits (chmod of POSIX).
use Rattle.std.specs.Prelude.{ℕ, ◌+◌, ◌*◌, ◌/◌, ◌%◌, ◌&&◌, ◌||◌, List, length, codes, Bool, not, nat_lt, nat_le, if◌then◌else◌, Option, Some, None, option_map, Result, Ok, Err, ⊤}
use Rattle.std.specs.List.{list_any}
use Rattle.serde_json.specs.Data.{Data}
use Rattle.serde_json.specs.Find.{get}
use Rattle.list_laws.specs.Results.{◌>>=◌}
use Rattle.json_members.specs.Members.{or_fault, optional, number_at, text_at}
use Rattle.decimal_text.specs.Decimals.{number_up_to}
use Rattle.wl_document.specs.declared.fault.Place.{Place}
use Rattle.wl_config.specs.Places.{at_socket}
use Rattle.wl_config.specs.declared.config.SocketGuard.{SocketGuard}
use Rattle.wl_config.specs.declared.fault.ConfigFault.{ConfigFault}
use Rattle.wl_config.specs.declared.fault.ConfigFault.TheVariants.{Kind}
use Rattle.wl_config.specs.declared.limits.TheConstants.{MAX_ID, DEFAULT_MODE}

-- `0` to `7`
abbrev pub is_octal : ℕ → Bool
is_octal b = nat_le 48 b && nat_le b 55

-- The bits that three octal digits stand for, of the owner, of the group and of others, where n has them as its decimal
-- digits.
abbrev pub bits_of : ℕ → ℕ
bits_of n = 64 * (n / 100) + 8 * (n / 10 % 10) + n % 10

-- a mode in one to four octal digits, with none of the bits above 0o777
unfoldable pub mode_of : List ℕ → Option ℕ
mode_of text =
    if nat_lt 4 (length text) || list_any (λ b. not (is_octal b)) text then None
    else option_map bits_of (number_up_to 777 text)

-- the number of a user or a group
unfoldable pub id_at : Place → Data → Result (Option ℕ) ConfigFault
id_at p d = number_at (Kind p) d >>= λ n. if nat_lt MAX_ID n then Err (Kind p) else Ok (Some n)

unfoldable pub id_of : Place → List ℕ → Data → Result (Option ℕ) ConfigFault
id_of p name d = optional (id_at p) None (get name d)

unfoldable pub mode_at : Place → Data → Result ℕ ConfigFault
mode_at p d = text_at (Kind p) d >>= λ text. or_fault (Kind p) (mode_of text)

-- the default, where it is absent
unfoldable pub mode_in : ℕ → Data → Result ℕ ConfigFault
mode_in i d = optional (mode_at (at_socket i 6)) DEFAULT_MODE (get (codes "mode") d)

-- the guard that the members of a socket name
unfoldable pub guard_of : ℕ → Data → Result SocketGuard ConfigFault
guard_of i d = do
  owner ← id_of (at_socket i 4) (codes "owner") d
  group ← id_of (at_socket i 5) (codes "group") d
  mode ← mode_in i d
  Ok (record { owner = owner; group = group; mode = mode })

-- a member that may not be there
abbrev pub no_value : Place → Option Data → Result ⊤ ConfigFault
no_value p None = Ok tt
no_value p (Some d) = Err (Kind p)

unfoldable pub absent : Place → List ℕ → Data → Result ⊤ ConfigFault
absent p name d = no_value p (get name d)

-- a socket whose guard is its uid has none of its own
unfoldable pub no_guard_of : ℕ → Data → Result ⊤ ConfigFault
no_guard_of i d = do
  owner ← absent (at_socket i 4) (codes "owner") d
  group ← absent (at_socket i 5) (codes "group") d
  absent (at_socket i 6) (codes "mode") d
