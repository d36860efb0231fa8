-- A configuration (own rules): the checks in their order over the value that its JSON is (RFC 8259, the last of equal
-- members); the first that fails is the fault.
use Rattle.std.specs.Prelude.{◌≡◌, ℕ, ◌<◌, ◌≤◌, ◌==◌, List, length, codes, true, nat_eq, nat_lt, if◌then◌else◌, Option, Some, None, IfSome, option_map, Result, Ok, Err}
use Rattle.std.specs.List.{starts_with}
use Rattle.std.specs.Str.{bytes_eq}
use Rattle.serde_json.specs.Data.{Data}
use Rattle.serde_json.specs.Find.{get}
use Rattle.list_laws.specs.Results.{◌>>=◌}
use Rattle.json_members.specs.Members.{or_fault, required, optional, object_at, number_at, text_at}
use Rattle.json_members.specs.Texts.{value_of}
use Rattle.wl_document.specs.Places.{at_top}
use Rattle.wl_config.specs.Members.{number_or, path_at, list_of}
use Rattle.wl_config.specs.Loopbacks.{loopback_of, IsLoopbackEnd}
use Rattle.wl_config.specs.Sockets.{sockets_of, SocketsWithin}
use Rattle.wl_config.specs.declared.config.ConnectionLimits.{ConnectionLimits}
use Rattle.wl_config.specs.declared.config.SocketFact.{SocketFact}
use Rattle.wl_config.specs.declared.config.DocumentSource.{DocumentSource}
use Rattle.wl_config.specs.declared.config.DocumentSource.TheVariants.{Socket, File}
use Rattle.wl_config.specs.declared.config.MetricsPlace.{MetricsPlace}
use Rattle.wl_config.specs.declared.config.MetricsPlace.TheVariants as place
use Rattle.wl_config.specs.declared.config.LogLevel.{LogLevel}
use Rattle.wl_config.specs.declared.config.LogLevel.TheVariants as level
use Rattle.wl_config.specs.declared.fault.ConfigFault.{ConfigFault}
use Rattle.wl_config.specs.declared.fault.ConfigFault.TheVariants.{NotJson, Version, Missing, Kind, TooLong}
use Rattle.wl_config.specs.declared.limits.TheConstants.{CONFIG_LIMIT, MAX_SOCKETS, MAX_SOCKET_ITEMS, MAX_POLL_SECONDS, DEFAULT_POLL_SECONDS, MAX_SIGNERS, DEFAULT_SIGNERS, MAX_THREADS, DEFAULT_THREADS, MAX_LIMIT_SECONDS, DEFAULT_STALL_SECONDS, DEFAULT_OPENING_SECONDS, MIN_MEMORY_MIB, MAX_MEMORY_MIB, DEFAULT_MEMORY_MIB}

-- the path of a socket or of a file
abbrev pub path_in : DocumentSource → List ℕ
path_in (Socket path) = path
path_in (File path) = path

pub record Configuration : Type 0 where
  pub documents : DocumentSource
  pub signer : Option (List ℕ)
  pub poll_seconds : ℕ
  pub signers : ℕ
  pub log : LogLevel
  pub metrics : Option MetricsPlace
  pub threads : ℕ
  pub limits : ConnectionLimits
  pub sockets : List SocketFact

-- a path from the root, or a loopback address with a port
abbrev pub MetricsWithin : MetricsPlace → Type 0
MetricsWithin (place.Path path) = starts_with nat_eq path (codes "/") ≡ true
MetricsWithin (place.Loopback address) = IsLoopbackEnd address

-- the limits of connections are within these
pub record LimitsWithin (l : ConnectionLimits) : Type 0 where
  pub some_stall : 0 < l.stall_seconds
  pub few_stall : l.stall_seconds ≤ MAX_LIMIT_SECONDS
  pub some_opening : 0 < l.opening_seconds
  pub few_opening : l.opening_seconds ≤ MAX_LIMIT_SECONDS
  pub some_memory : MIN_MEMORY_MIB ≤ l.memory_mib
  pub few_memory : l.memory_mib ≤ MAX_MEMORY_MIB

-- the facts that every configuration has
pub record Within (c : Configuration) : Type 0 where
  pub documents : 0 < length (path_in c.documents)
  pub signer : IfSome c.signer (λ path. 0 < length path)
  pub some_seconds : 0 < c.poll_seconds
  pub few_seconds : c.poll_seconds ≤ MAX_POLL_SECONDS
  pub some_signers : 0 < c.signers
  pub few_signers : c.signers ≤ MAX_SIGNERS
  pub metrics : IfSome c.metrics MetricsWithin
  pub some_threads : 0 < c.threads
  pub few_threads : c.threads ≤ MAX_THREADS
  pub limits : LimitsWithin c.limits
  pub some_sockets : 0 < length c.sockets
  pub few_sockets : length c.sockets ≤ MAX_SOCKETS
  pub sockets : SocketsWithin c.sockets

unfoldable pub version_of : Data → Result ℕ ConfigFault
version_of d = do
  member ← required (Missing (at_top 1)) (codes "version") d
  n ← number_at (Kind (at_top 1)) member
  if n == 1 then Ok n else Err Version

-- exactly one of the two is there: the socket of an authority, or a file
abbrev pub source_by : Option Data → Option Data → Result DocumentSource ConfigFault
source_by (Some socket) None = path_at (at_top 2) socket >>= λ path. Ok (Socket path)
source_by None (Some file) = path_at (at_top 2) file >>= λ path. Ok (File path)
source_by None None = Err (Missing (at_top 2))
source_by (Some socket) (Some file) = Err (Missing (at_top 2))

unfoldable pub source_of : Data → Result DocumentSource ConfigFault
source_of d = source_by (get (codes "upstream") d) (get (codes "document") d)

-- the signer's socket, which may be left out
unfoldable pub signer_of : Data → Result (Option (List ℕ)) ConfigFault
signer_of d = optional (λ member. path_at (at_top 3) member >>= λ path. Ok (Some path)) None (get (codes "signer") d)

-- where documents and identities come from
pub record Suppliers : Type 0 where
  pub documents : DocumentSource
  pub signer : Option (List ℕ)

-- an object of version 1 with its suppliers
unfoldable pub suppliers_of : Data → Result Suppliers ConfigFault
suppliers_of d = do
  object ← object_at (Kind (at_top 0)) d
  version ← version_of d
  documents ← source_of d
  signer ← signer_of d
  Ok (record { documents = documents; signer = signer })

-- the default, where it is absent
unfoldable pub poll_seconds_of : Data → Result ℕ ConfigFault
poll_seconds_of d = number_or DEFAULT_POLL_SECONDS 1 MAX_POLL_SECONDS (at_top 4) (codes "poll_seconds") d

-- how many asks are under way at once: the default, where it is absent
unfoldable pub signers_of : Data → Result ℕ ConfigFault
signers_of d = number_or DEFAULT_SIGNERS 1 MAX_SIGNERS (at_top 6) (codes "signers") d

unfoldable pub level_of : List ℕ → Option LogLevel
level_of text =
    if bytes_eq text (codes "error") then Some level.Error
    else if bytes_eq text (codes "warn") then Some level.Warn
    else if bytes_eq text (codes "info") then Some level.Info
    else if bytes_eq text (codes "debug") then Some level.Debug
    else None

unfoldable pub level_at : Data → Result LogLevel ConfigFault
level_at d = text_at (Kind (at_top 7)) d >>= λ text. or_fault (Kind (at_top 7)) (level_of text)

-- which events the log has: those of `info`, where it is absent
unfoldable pub log_of : Data → Result LogLevel ConfigFault
log_of d = optional level_at level.Info (get (codes "log") d)

-- a text that begins with `/` is a path, any other has to be a loopback address with a port
unfoldable pub metrics_by : List ℕ → Option MetricsPlace
metrics_by text =
    if starts_with nat_eq text (codes "/") then Some (place.Path text)
    else option_map place.Loopback (loopback_of text)

unfoldable pub metrics_at : Data → Result MetricsPlace ConfigFault
metrics_at d = path_at (at_top 8) d >>= λ text. or_fault (Kind (at_top 8)) (metrics_by text)

-- the place of the agent's figures, which may be left out
unfoldable pub metrics_of : Data → Result (Option MetricsPlace) ConfigFault
metrics_of d = optional (λ member. metrics_at member >>= λ found. Ok (Some found)) None (get (codes "metrics") d)

-- how many threads serve the sockets: the default, where it is absent
unfoldable pub threads_of : Data → Result ℕ ConfigFault
threads_of d = number_or DEFAULT_THREADS 1 MAX_THREADS (at_top 9) (codes "threads") d

-- the limits of connections: the default of each that is absent
unfoldable pub stall_seconds_of : Data → Result ℕ ConfigFault
stall_seconds_of d = number_or DEFAULT_STALL_SECONDS 1 MAX_LIMIT_SECONDS (at_top 10) (codes "stall_seconds") d

unfoldable pub opening_seconds_of : Data → Result ℕ ConfigFault
opening_seconds_of d = number_or DEFAULT_OPENING_SECONDS 1 MAX_LIMIT_SECONDS (at_top 11) (codes "opening_seconds") d

unfoldable pub memory_mib_of : Data → Result ℕ ConfigFault
memory_mib_of d = number_or DEFAULT_MEMORY_MIB MIN_MEMORY_MIB MAX_MEMORY_MIB (at_top 12) (codes "memory_mib") d

unfoldable pub limits_of : Data → Result ConnectionLimits ConfigFault
limits_of d = do
  stall_seconds ← stall_seconds_of d
  opening_seconds ← opening_seconds_of d
  memory_mib ← memory_mib_of d
  Ok (record { stall_seconds = stall_seconds; opening_seconds = opening_seconds; memory_mib = memory_mib })

-- how the agent runs
pub record Manner : Type 0 where
  pub poll_seconds : ℕ
  pub signers : ℕ
  pub log : LogLevel
  pub metrics : Option MetricsPlace
  pub threads : ℕ
  pub limits : ConnectionLimits

unfoldable pub manner_of : Data → Result Manner ConfigFault
manner_of d = do
  poll_seconds ← poll_seconds_of d
  signers ← signers_of d
  log ← log_of d
  metrics ← metrics_of d
  threads ← threads_of d
  limits ← limits_of d
  Ok (record { poll_seconds = poll_seconds; signers = signers; log = log; metrics = metrics; threads = threads; limits = limits })

-- at least one socket
unfoldable pub config_sockets_of : Data → Result (List SocketFact) ConfigFault
config_sockets_of d = list_of MAX_SOCKET_ITEMS (at_top 5) (codes "sockets") d >>= sockets_of

-- the configuration that a value's members name
unfoldable pub config_of : Data → Result Configuration ConfigFault
config_of d = do
  suppliers ← suppliers_of d
  manner ← manner_of d
  sockets ← config_sockets_of d
  Ok (record {
    documents = suppliers.documents;
    signer = suppliers.signer;
    poll_seconds = manner.poll_seconds;
    signers = manner.signers;
    log = manner.log;
    metrics = manner.metrics;
    threads = manner.threads;
    limits = manner.limits;
    sockets = sockets;
  })

-- the configuration that these bytes are
unfoldable pub configuration_of : List ℕ → Result Configuration ConfigFault
configuration_of bytes = if nat_lt CONFIG_LIMIT (length bytes) then Err (TooLong (length bytes)) else (or_fault NotJson (value_of bytes) >>= config_of)
