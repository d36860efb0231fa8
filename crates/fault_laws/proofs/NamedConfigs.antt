-- The first fault of a configuration is at a member that has a name.
use Rattle.std.specs.Prelude.{◌≡◌, ℕ, ◌+◌, ◌==◌, ◌||◌, Bool, nat_lt, List, [], ◌∷◌, ◌++◌, length, flat_map, codes, Option, Some, None, Result, Ok, Err}
use Rattle.std.proofs.Common.{refl, subst}
use Rattle.fault_laws.proofs.Common.{Data, get, or_fault, required, object_at, text_at, number_at, array_at, Place, ConfigFault, AreBounded, config_numbers, IsNamed, config_says}
use Rattle.wl_selector.specs.declared.faults.SelectorFault.{SelectorFault}
use Rattle.wl_selector.specs.Selectors.{selector_fault}
use Rattle.list_laws.specs.Results.{◌>>=◌}
use Rattle.json_members.specs.Arrays.{at_end}
use Rattle.json_members.specs.Texts.{value_of}
use Rattle.wl_document.specs.Places.{at_top, item_at}
use Rattle.wl_config.specs.declared.config.SocketFact.{SocketFact}
use Rattle.wl_config.specs.declared.config.DocumentSource.TheVariants.{Socket, File}
use Rattle.wl_config.specs.declared.config.LogLevel.TheVariants as log
use Rattle.wl_config.specs.declared.fault.ConfigFault.TheVariants as fault
use Rattle.wl_config.specs.declared.limits.TheConstants.{CONFIG_LIMIT, MAX_SOCKETS, MAX_SOCKET_ITEMS, MAX_POLL_SECONDS, DEFAULT_POLL_SECONDS, MAX_SIGNERS, DEFAULT_SIGNERS, MAX_THREADS, DEFAULT_THREADS, MAX_LIMIT_SECONDS, DEFAULT_STALL_SECONDS, DEFAULT_OPENING_SECONDS, MIN_MEMORY_MIB, MAX_MEMORY_MIB, DEFAULT_MEMORY_MIB, MAX_SOCKET_SELECTORS, MAX_CONNECTIONS, DEFAULT_CONNECTIONS, DEFAULT_MODE, MAX_ID}
use Rattle.wl_config.specs.Places.{at_socket}
use Rattle.wl_config.specs.Checks.{no_selector_fault}
use Rattle.wl_config.specs.Members.{number_within, number_or, path_at, list_at, list_of}
use Rattle.wl_config.specs.Guards.{mode_of, id_at, id_of, mode_at, mode_in, guard_of, no_value, absent, no_guard_of}
use Rattle.wl_config.specs.Uids.{range_of, numbers_of, range_at, ranges_at, room_for, uids_of}
use Rattle.wl_config.specs.Loopbacks.{loopback_of}
use Rattle.wl_config.specs.Files.{marks_of, own_file_of, uid_files_of, paths_for, no_uid_limit_of, files_of}
use Rattle.wl_config.specs.Endpoints.{loopback_place_of, tcp_endpoint_of, endpoints_by, are_new, naming_field, endpoints_of}
use Rattle.wl_config.specs.Sockets.{says_workers, connections_of, selector_of, selector_list_of, texts_of, some_plain, socket_of, sockets_of}
use Rattle.wl_config.specs.Configs.{Configuration, version_of, source_by, source_of, signer_of, suppliers_of, poll_seconds_of, signers_of, threads_of, stall_seconds_of, opening_seconds_of, memory_mib_of, limits_of, level_of, level_at, log_of, metrics_by, metrics_at, metrics_of, manner_of, config_sockets_of, config_of, configuration_of}
use Rattle.fault_lines.specs.Names.{config_place, config_member, socket_member}
use Rattle.fault_laws.proofs.Steps.{FailsBy, next, either, needed, maybe, each, member, object, text, number, array}
use Rattle.fault_laws.proofs.NoQuestionMarks.{item_named}
use Rattle.fault_laws.proofs.NamedFaults.{InConfig, ConfigurationFault, config_named}

abbrev Fails : {A : Type 0} → Result A ConfigFault → Type 0
Fails r = FailsBy ConfigurationFault r

-- ---- a member at a place

selector_checked : (p : Place) (text : List ℕ) (o : Option SelectorFault) → InConfig p → Fails (no_selector_fault p text o)
selector_checked p text None sited = tt
selector_checked p text (Some e) sited = sited

module _ (p : Place) (sited : InConfig p) where
  number_maybe : (x m n : ℕ) (name : List ℕ) (d : Data) → Fails (number_or x m n p name d)
  unfolding number_or number_within
  number_maybe x m n name d = maybe ConfigurationFault (number_within m n p) x (get name d)
      (λ v. next ConfigurationFault (number_at (fault.Kind p) v) _ (number ConfigurationFault (fault.Kind p) sited v) (λ k. either ConfigurationFault (nat_lt k m || nat_lt n k) (Err (fault.Kind p)) (Ok k) sited tt))

  path : (d : Data) → Fails (path_at p d)
  unfolding path_at text_at
  path d = next ConfigurationFault (text_at (fault.Kind p) d) _ (text ConfigurationFault (fault.Kind p) sited d) (λ t. either ConfigurationFault (length t == 0) (Err (fault.EmptyText p)) (Ok t) sited tt)

  list : (n : ℕ) (d : Data) → Fails (list_at n p d)
  unfolding list_at
  list n d = next ConfigurationFault (array_at (fault.Kind p) d) _ (array ConfigurationFault (fault.Kind p) sited d)
      (λ items. either ConfigurationFault (length items == 0) (Err (fault.Kind p)) _ sited (either ConfigurationFault (nat_lt n (length items)) (Err (fault.TooMany p (length items))) (Ok items) sited tt))

  list_member : (n : ℕ) (name : List ℕ) (d : Data) → Fails (list_of n p name d)
  unfolding list_of
  list_member n name d = next ConfigurationFault (required (fault.Missing p) name d) (list_at n p) (member ConfigurationFault (fault.Missing p) sited name d) (list n)

  selector : (k : ℕ) (d : Data) → Fails (selector_of p k d)
  unfolding selector_of text_at config_place
  selector k d = next ConfigurationFault (text_at (fault.Kind (item_at p k)) d) _ (text ConfigurationFault (fault.Kind (item_at p k)) sited d) (λ t. selector_checked (item_at p k) t (selector_fault t) sited)

  selector_list : (ds : List Data) → Fails (selector_list_of p ds)
  unfolding selector_list_of
  selector_list ds = each ConfigurationFault (λ k before d. selector_of p k d) at_end 0 [] ds (λ k before d. selector k d)

  texts : (must : Bool) (d : Data) → Fails (texts_of must p d)
  unfolding texts_of
  texts must d = either ConfigurationFault must _ _
      (next ConfigurationFault (list_of MAX_SOCKET_SELECTORS p (codes "selectors") d) (selector_list_of p) (list_member MAX_SOCKET_SELECTORS (codes "selectors") d) selector_list)
      (maybe ConfigurationFault (λ v. list_at MAX_SOCKET_SELECTORS p v >>= selector_list_of p) [] (get (codes "selectors") d)
      (λ v. next ConfigurationFault (list_at MAX_SOCKET_SELECTORS p v) (selector_list_of p) (list MAX_SOCKET_SELECTORS v) selector_list))

  id_maybe : (name : List ℕ) (d : Data) → Fails (id_of p name d)
  unfolding id_of id_at
  id_maybe name d = maybe ConfigurationFault (id_at p) None (get name d)
      (λ v. next ConfigurationFault (number_at (fault.Kind p) v) _ (number ConfigurationFault (fault.Kind p) sited v) (λ n. either ConfigurationFault (nat_lt MAX_ID n) (Err (fault.Kind p)) (Ok (Some n)) sited tt))

  mode : (d : Data) → Fails (mode_at p d)
  unfolding mode_at
  mode d = next ConfigurationFault (text_at (fault.Kind p) d) _ (text ConfigurationFault (fault.Kind p) sited d) (λ t. needed ConfigurationFault (fault.Kind p) (mode_of t) sited)

  not_there : (name : List ℕ) (d : Data) → Fails (absent p name d)
  unfolding absent
  not_there name d = by (get name d)
    where
      by : (o : Option Data) → Fails (no_value p o)
      by None = tt
      by (Some v) = sited

  room : (count more : ℕ) → Fails (room_for p count more)
  unfolding room_for
  room count more = either ConfigurationFault (nat_lt MAX_SOCKETS (count + more)) (Err (fault.TooMany p (count + more))) (Ok tt) sited tt

  range : (k : ℕ) (d : Data) → Fails (range_at p k d)
  unfolding range_at text_at config_place
  range k d = next ConfigurationFault (text_at (fault.Kind (item_at p k)) d) _ (text ConfigurationFault (fault.Kind (item_at p k)) sited d) (λ t. needed ConfigurationFault (fault.Kind (item_at p k)) (range_of t) sited)

  ranges : (ds : List Data) → Fails (ranges_at p ds)
  unfolding ranges_at
  ranges ds = each ConfigurationFault (λ k before d. range_at p k d) at_end 0 [] ds (λ k before d. range k d)

-- ---- places

top : (field : ℕ) → IsNamed (config_member field) → InConfig (at_top field)
unfolding config_place
top field named fits = named

socket : (i field : ℕ) → IsNamed (socket_member field) → InConfig (at_socket i field)
unfolding config_place
socket i field named fits = item_named (codes "sockets") (socket_member field) i refl named fits

-- ---- sockets

guard : (i : ℕ) (d : Data) → Fails (guard_of i d)
unfolding guard_of mode_in socket_member
guard i d = next ConfigurationFault (id_of (at_socket i 4) (codes "owner") d) _ (id_maybe (at_socket i 4) (socket i 4 refl) (codes "owner") d)
    (λ o. next ConfigurationFault (id_of (at_socket i 5) (codes "group") d) _ (id_maybe (at_socket i 5) (socket i 5 refl) (codes "group") d)
    (λ g. next ConfigurationFault (mode_in i d) _ (maybe ConfigurationFault (mode_at (at_socket i 6)) DEFAULT_MODE (get (codes "mode") d) (mode (at_socket i 6) (socket i 6 refl))) (λ m. tt)))

no_guard : (i : ℕ) (d : Data) → Fails (no_guard_of i d)
unfolding no_guard_of socket_member
no_guard i d = next ConfigurationFault (absent (at_socket i 4) (codes "owner") d) _ (not_there (at_socket i 4) (socket i 4 refl) (codes "owner") d)
    (λ _. next ConfigurationFault (absent (at_socket i 5) (codes "group") d) _ (not_there (at_socket i 5) (socket i 5 refl) (codes "group") d)
    (λ _. not_there (at_socket i 6) (socket i 6 refl) (codes "mode") d))

uids : (i count : ℕ) (d : Data) → Fails (uids_of i count d)
unfolding uids_of socket_member
uids i count d = next ConfigurationFault (list_of MAX_SOCKETS (at_socket i 7) (codes "uids") d) _ (list_member (at_socket i 7) (socket i 7 refl) MAX_SOCKETS (codes "uids") d)
    (λ items. next ConfigurationFault (ranges_at (at_socket i 7) items) _ (ranges (at_socket i 7) (socket i 7 refl) items)
    (λ rs. next ConfigurationFault (room_for (at_socket i 7) count (length (flat_map numbers_of rs))) _ (room (at_socket i 7) (socket i 7 refl) count (length (flat_map numbers_of rs))) (λ _. tt)))

own_file : (i count : ℕ) (path : List ℕ) (d : Data) → Fails (own_file_of i count path d)
unfolding own_file_of socket_member config_member
own_file i count path d = next ConfigurationFault (absent (at_socket i 7) (codes "uids") d) _ (not_there (at_socket i 7) (socket i 7 refl) (codes "uids") d)
    (λ _. next ConfigurationFault (guard_of i d) _ (guard i d)
    (λ g. next ConfigurationFault (room_for (at_top 5) count 1) _ (room (at_top 5) (top 5 refl) count 1) (λ _. tt)))

uid_files : (i count : ℕ) (path : List ℕ) (at : ℕ) (d : Data) → Fails (uid_files_of i count path at d)
unfolding uid_files_of
uid_files i count path at d = next ConfigurationFault (no_guard_of i d) _ (no_guard i d) (λ _. next ConfigurationFault (uids_of i count d) _ (uids i count d) (λ us. tt))

for_path : (i count : ℕ) (path marks : List ℕ) (d : Data) → Fails (paths_for i count path marks d)
unfolding socket_member
for_path i count path [] d = own_file i count path d
for_path i count path (at ∷ []) d = uid_files i count path at d
for_path i count path (at ∷ more ∷ rest) d = socket i 1 refl

files : (i count : ℕ) (path_member d : Data) → Fails (files_of i count path_member d)
unfolding files_of no_uid_limit_of socket_member
files i count path_member d = next ConfigurationFault (path_at (at_socket i 1) path_member) _ (path (at_socket i 1) (socket i 1 refl) path_member)
    (λ text. next ConfigurationFault (no_uid_limit_of i d) _ (not_there (at_socket i 10) (socket i 10 refl) (codes "connections_per_uid") d)
    (λ _. for_path i count text (marks_of text) d))

-- ---- endpoints

loopback_place : (i : ℕ) (tcp d : Data) → Fails (loopback_place_of i tcp d)
unfolding loopback_place_of socket_member
loopback_place i tcp d = next ConfigurationFault (text_at (fault.Kind (at_socket i 9)) tcp) _ (text ConfigurationFault (fault.Kind (at_socket i 9)) (socket i 9 refl) tcp)
    (λ t. next ConfigurationFault (or_fault (fault.Kind (at_socket i 9)) (loopback_of t)) _ (needed ConfigurationFault (fault.Kind (at_socket i 9)) (loopback_of t) (socket i 9 refl))
    (λ a. next ConfigurationFault (no_guard_of i d) _ (no_guard i d)
    (λ _. next ConfigurationFault (absent (at_socket i 7) (codes "uids") d) _ (not_there (at_socket i 7) (socket i 7 refl) (codes "uids") d)
    (λ _. next ConfigurationFault (number_or DEFAULT_CONNECTIONS 1 MAX_CONNECTIONS (at_socket i 10) (codes "connections_per_uid") d) _
    (number_maybe (at_socket i 10) (socket i 10 refl) DEFAULT_CONNECTIONS 1 MAX_CONNECTIONS (codes "connections_per_uid") d) (λ n. tt)))))

tcp_endpoint : (i count : ℕ) (tcp d : Data) → Fails (tcp_endpoint_of i count tcp d)
unfolding tcp_endpoint_of config_member
tcp_endpoint i count tcp d = next ConfigurationFault (loopback_place_of i tcp d) _ (loopback_place i tcp d)
    (λ place. next ConfigurationFault (room_for (at_top 5) count 1) _ (room (at_top 5) (top 5 refl) count 1) (λ _. tt))

by_member : (i count : ℕ) (path_member tcp : Option Data) (d : Data) → Fails (endpoints_by i count path_member tcp d)
unfolding socket_member
by_member i count (Some path_member) None d = files i count path_member d
by_member i count None (Some tcp) d = tcp_endpoint i count tcp d
by_member i count None None d = socket i 1 refl
by_member i count (Some path_member) (Some tcp) d = socket i 1 refl

naming : (i : ℕ) (tcp : Option Data) → InConfig (at_socket i (naming_field tcp))
unfolding socket_member
naming i None = socket i 1 refl
naming i (Some tcp) = socket i 9 refl

endpoints : (i : ℕ) (before : List SocketFact) (d : Data) → Fails (endpoints_of i before d)
unfolding endpoints_of socket_member
endpoints i before d = next ConfigurationFault (object_at (fault.Kind (at_socket i 0)) d) _ (object ConfigurationFault (fault.Kind (at_socket i 0)) (socket i 0 refl) d)
    (λ _. next ConfigurationFault (endpoints_by i (length before) (get (codes "path") d) (get (codes "tcp") d) d) _ (by_member i (length before) (get (codes "path") d) (get (codes "tcp") d) d)
    (λ ends. either ConfigurationFault (are_new before ends) (Ok ends) (Err (fault.Duplicate (at_socket i (naming_field (get (codes "tcp") d))))) tt (naming i (get (codes "tcp") d))))

connections : (i : ℕ) (d : Data) → Fails (connections_of i d)
unfolding connections_of socket_member
connections i d = either ConfigurationFault (says_workers d) _ _
    (number_maybe (at_socket i 2) (socket i 2 refl) DEFAULT_CONNECTIONS 1 MAX_CONNECTIONS (codes "workers") d)
    (number_maybe (at_socket i 8) (socket i 8 refl) DEFAULT_CONNECTIONS 1 MAX_CONNECTIONS (codes "connections") d)

one_socket : (i : ℕ) (before : List SocketFact) (d : Data) → Fails (socket_of i before d)
unfolding socket_of socket_member
one_socket i before d = next ConfigurationFault (endpoints_of i before d) _ (endpoints i before d)
    (λ ends. next ConfigurationFault (connections_of i d) _ (connections i d)
    (λ n. next ConfigurationFault (texts_of (some_plain ends) (at_socket i 3) d) _ (texts (at_socket i 3) (socket i 3 refl) (some_plain ends) d) (λ ts. tt)))

-- ---- the top

version : (d : Data) → Fails (version_of d)
unfolding version_of config_member
version d = next ConfigurationFault (required (fault.Missing (at_top 1)) (codes "version") d) _ (member ConfigurationFault (fault.Missing (at_top 1)) (top 1 refl) (codes "version") d)
    (λ v. next ConfigurationFault (number_at (fault.Kind (at_top 1)) v) _ (number ConfigurationFault (fault.Kind (at_top 1)) (top 1 refl) v) (λ n. either ConfigurationFault (n == 1) (Ok n) (Err fault.Version) tt tt))

source : (socket file : Option Data) → Fails (source_by socket file)
unfolding config_member
source (Some socket) None = next ConfigurationFault (path_at (at_top 2) socket) (λ path. Ok (Socket path)) (path (at_top 2) (top 2 refl) socket) (λ path. tt)
source None (Some file) = next ConfigurationFault (path_at (at_top 2) file) (λ path. Ok (File path)) (path (at_top 2) (top 2 refl) file) (λ path. tt)
source None None = top 2 refl
source (Some socket) (Some file) = top 2 refl

signer : (d : Data) → Fails (signer_of d)
unfolding signer_of config_member
signer d = maybe ConfigurationFault (λ member. path_at (at_top 3) member >>= λ path. Ok (Some path)) None (get (codes "signer") d)
    (λ v. next ConfigurationFault (path_at (at_top 3) v) (λ path. Ok (Some path)) (path (at_top 3) (top 3 refl) v) (λ path. tt))

suppliers : (d : Data) → Fails (suppliers_of d)
unfolding suppliers_of source_of config_member
suppliers d = next ConfigurationFault (object_at (fault.Kind (at_top 0)) d) _ (object ConfigurationFault (fault.Kind (at_top 0)) (top 0 refl) d)
    (λ _. next ConfigurationFault (version_of d) _ (version d)
    (λ v. next ConfigurationFault (source_of d) _ (source (get (codes "upstream") d) (get (codes "document") d))
    (λ s. next ConfigurationFault (signer_of d) _ (signer d) (λ s. tt))))

seconds : (d : Data) → Fails (poll_seconds_of d)
unfolding poll_seconds_of config_member
seconds d = number_maybe (at_top 4) (top 4 refl) DEFAULT_POLL_SECONDS 1 MAX_POLL_SECONDS (codes "poll_seconds") d

signers : (d : Data) → Fails (signers_of d)
unfolding signers_of config_member
signers d = number_maybe (at_top 6) (top 6 refl) DEFAULT_SIGNERS 1 MAX_SIGNERS (codes "signers") d

level : (d : Data) → Fails (log_of d)
unfolding log_of level_at config_member
level d = maybe ConfigurationFault level_at log.Info (get (codes "log") d)
    (λ v. next ConfigurationFault (text_at (fault.Kind (at_top 7)) v) _ (text ConfigurationFault (fault.Kind (at_top 7)) (top 7 refl) v) (λ t. needed ConfigurationFault (fault.Kind (at_top 7)) (level_of t) (top 7 refl)))

metrics : (d : Data) → Fails (metrics_of d)
unfolding metrics_of metrics_at config_member
metrics d = maybe ConfigurationFault (λ member. metrics_at member >>= λ found. Ok (Some found)) None (get (codes "metrics") d)
    (λ v. next ConfigurationFault (metrics_at v) (λ found. Ok (Some found))
    (next ConfigurationFault (path_at (at_top 8) v) _ (path (at_top 8) (top 8 refl) v) (λ t. needed ConfigurationFault (fault.Kind (at_top 8)) (metrics_by t) (top 8 refl)))
    (λ found. tt))

threads : (d : Data) → Fails (threads_of d)
unfolding threads_of config_member
threads d = number_maybe (at_top 9) (top 9 refl) DEFAULT_THREADS 1 MAX_THREADS (codes "threads") d

limits : (d : Data) → Fails (limits_of d)
unfolding limits_of stall_seconds_of opening_seconds_of memory_mib_of config_member
limits d = next ConfigurationFault (stall_seconds_of d) _ (number_maybe (at_top 10) (top 10 refl) DEFAULT_STALL_SECONDS 1 MAX_LIMIT_SECONDS (codes "stall_seconds") d)
    (λ s. next ConfigurationFault (opening_seconds_of d) _ (number_maybe (at_top 11) (top 11 refl) DEFAULT_OPENING_SECONDS 1 MAX_LIMIT_SECONDS (codes "opening_seconds") d)
    (λ o. next ConfigurationFault (memory_mib_of d) _ (number_maybe (at_top 12) (top 12 refl) DEFAULT_MEMORY_MIB MIN_MEMORY_MIB MAX_MEMORY_MIB (codes "memory_mib") d) (λ m. tt)))

manner : (d : Data) → Fails (manner_of d)
unfolding manner_of
manner d = next ConfigurationFault (poll_seconds_of d) _ (seconds d)
    (λ n. next ConfigurationFault (signers_of d) _ (signers d)
    (λ k. next ConfigurationFault (log_of d) _ (level d)
    (λ l. next ConfigurationFault (metrics_of d) _ (metrics d)
    (λ m. next ConfigurationFault (threads_of d) _ (threads d)
    (λ t. next ConfigurationFault (limits_of d) _ (limits d) (λ ls. tt))))))

sockets : (d : Data) → Fails (config_sockets_of d)
unfolding config_sockets_of sockets_of config_member
sockets d = next ConfigurationFault (list_of MAX_SOCKET_ITEMS (at_top 5) (codes "sockets") d) sockets_of (list_member (at_top 5) (top 5 refl) MAX_SOCKET_ITEMS (codes "sockets") d) (λ ds. each ConfigurationFault socket_of (λ before more. before ++ more) 0 [] ds one_socket)

members : (d : Data) → Fails (config_of d)
unfolding config_of
members d = next ConfigurationFault (suppliers_of d) _ (suppliers d) (λ ss. next ConfigurationFault (manner_of d) _ (manner d) (λ m. next ConfigurationFault (config_sockets_of d) _ (sockets d) (λ ss. tt)))

configuration : (bytes : List ℕ) → Fails (configuration_of bytes)
unfolding configuration_of
configuration bytes = either ConfigurationFault (nat_lt CONFIG_LIMIT (length bytes)) (Err (fault.TooLong (length bytes))) _ tt
    (next ConfigurationFault (or_fault fault.NotJson (value_of bytes)) config_of (needed ConfigurationFault fault.NotJson (value_of bytes) tt) members)

pub fault_named : (bytes : List ℕ) (e : ConfigFault) → configuration_of bytes ≡ Err e → AreBounded (config_numbers e) → IsNamed (config_says e)
fault_named bytes e is fit = config_named e (subst (λ (r : Result Configuration ConfigFault). Fails r) is (configuration bytes)) fit
