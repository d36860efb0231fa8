-- The files of a path (own rules): one with a guard of its own, or one for each uid.
use Rattle.std.specs.Prelude.{ℕ, ◌+◌, List, [], ◌∷◌, ◌++◌, map, take, drop, codes, decimal, nat_eq, if◌then◌else◌, Some, None, Result, Ok, Err, ⊤}
use Rattle.std.specs.List.{starts_with}
use Rattle.serde_json.specs.Data.{Data}
use Rattle.list_laws.specs.Results.{◌>>=◌}
use Rattle.wl_document.specs.Places.{at_top}
use Rattle.wl_config.specs.Places.{at_socket}
use Rattle.wl_config.specs.Members.{path_at}
use Rattle.wl_config.specs.Guards.{guard_of, absent, no_guard_of}
use Rattle.wl_config.specs.Uids.{room_for, uids_of}
use Rattle.wl_config.specs.declared.config.SocketPlace.TheVariants.{Path}
use Rattle.wl_config.specs.declared.endpoints.Endpoint.{Endpoint}
use Rattle.wl_config.specs.declared.fault.ConfigFault.{ConfigFault}
use Rattle.wl_config.specs.declared.fault.ConfigFault.TheVariants.{Kind}
use Rattle.wl_config.specs.declared.limits.TheConstants.{DEFAULT_MODE}

-- ---- `{uid}` in a path

-- where it begins in these bytes of a path, which are those from k on
abbrev pub marks_from : ℕ → List ℕ → List ℕ
marks_from k [] = []
marks_from k (b ∷ bytes) = (if starts_with nat_eq (b ∷ bytes) (codes "{uid}") then k ∷ [] else []) ++ marks_from (k + 1) bytes

-- where it begins in a path, each time
unfoldable pub marks_of : List ℕ → List ℕ
marks_of path = marks_from 0 path

-- the file of a uid: its decimal number in place of the `{uid}` that begins there, and nobody else may open it
abbrev pub uid_file : List ℕ → ℕ → ℕ → Endpoint
uid_file path at uid = record {
  place = Path (take at path ++ decimal uid ++ drop (at + 5) path) (record { owner = Some uid; group = None; mode = DEFAULT_MODE });
  uid = Some uid;
}

-- ---- the files of the socket at this index, where those before it are so many

-- one, with the guard that its members name
unfoldable pub own_file_of : ℕ → ℕ → List ℕ → Data → Result (List Endpoint) ConfigFault
own_file_of i count path d = do
  uids ← absent (at_socket i 7) (codes "uids") d
  guard ← guard_of i d
  room ← room_for (at_top 5) count 1
  Ok (record { place = Path path guard; uid = None } ∷ [])

-- one for each uid
unfoldable pub uid_files_of : ℕ → ℕ → List ℕ → ℕ → Data → Result (List Endpoint) ConfigFault
uid_files_of i count path at d = do
  guard ← no_guard_of i d
  uids ← uids_of i count d
  Ok (map (uid_file path at) uids)

-- by the places of `{uid}`, of which there is one at most
abbrev pub paths_for : ℕ → ℕ → List ℕ → List ℕ → Data → Result (List Endpoint) ConfigFault
paths_for i count path [] d = own_file_of i count path d
paths_for i count path (at ∷ []) d = uid_files_of i count path at d
paths_for i count path (at ∷ next ∷ more) d = Err (Kind (at_socket i 1))

-- the kernel names no uid of a caller
unfoldable pub no_uid_limit_of : ℕ → Data → Result ⊤ ConfigFault
no_uid_limit_of i d = absent (at_socket i 10) (codes "connections_per_uid") d

-- those of the path that this member is
unfoldable pub files_of : ℕ → ℕ → Data → Data → Result (List Endpoint) ConfigFault
files_of i count member d = do
  path ← path_at (at_socket i 1) member
  connections_per_uid ← no_uid_limit_of i d
  paths_for i count path (marks_of path) d
