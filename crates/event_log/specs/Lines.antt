-- The line of an event, in logfmt: ts, level and event first, then what the event says. Own rule.
use Rattle.std.specs.Prelude.{ℕ, true, ◌==◌, ◌&&◌, ◌^◌, Bool, nat_lt, if◌then◌else◌, List, [], ◌++◌, codes, Option, Some, None}
use Rattle.fault_lines.specs.Explanations.{explained_text}
use Rattle.event_log.specs.Texts.{escaped, word_field, number_field, text_field}
use Rattle.call_counts.specs.Names.{method_name, status_name}
use Rattle.figures.specs.Labels.{link_name, late_name}
use Rattle.event_log.specs.Events.{level_of, level_name, event_name, bind_name, reason_name, pull_name, sign_name, unfit_name, error_name, member_name}
use Rattle.event_log.specs.declared.causes.BindCause.{BindCause}
use Rattle.event_log.specs.declared.causes.BindCause.TheVariants.{Taken, NotASocket, StaleOfOtherUser, Refused}
use Rattle.event_log.specs.declared.causes.SignCause.{SignCause}
use Rattle.event_log.specs.declared.causes.SignCause.TheVariants.{NotReached, TimedOut, NotAnAnswer, NotInDocument, Unfit}
use Rattle.event_log.specs.declared.event.DocumentCounts.{DocumentCounts}
use Rattle.event_log.specs.declared.event.SocketChanges.{SocketChanges}
use Rattle.event_log.specs.declared.event.EndedCall.{EndedCall}
use Rattle.event_log.specs.declared.event.Event.{Event}
use Rattle.event_log.specs.declared.event.Event.TheVariants.{BindFailed, ConfigurationUnread, ConfigurationRefused, LaterConfigurationRefused, ConfigurationTaken, RestartWanted, SocketAdded, SocketRemoved, SocketOpenToAll, FirstDocumentRefused, NoFirstDocument, NoThread, ListenFailed, HostFailed, OutputFailed, OutOfMemory, DocumentRefused, DocumentTaken, AuthorityFailed, AuthorityBack, SigningFailed, TokenFailed, IdentityEnded, IdentityNotYetValid, CallerWaits, ConnectionBroken, LinkLate, ConnectionFailed, AttestationFailed, ConnectionsOfUidFull, SocketBoundAnew, Signed, SignerBack, Serving, Stopping, Connected, Closed, Call}

-- why a path could not be bound; with the system's reason where it refused
unfoldable pub bind_fields : BindCause → List ℕ
bind_fields Taken = word_field (codes "cause") (bind_name Taken)
bind_fields NotASocket = word_field (codes "cause") (bind_name NotASocket)
bind_fields StaleOfOtherUser = word_field (codes "cause") (bind_name StaleOfOtherUser)
bind_fields (Refused reason) = word_field (codes "cause") (bind_name (Refused reason)) ++ word_field (codes "reason") (reason_name reason)

-- why nothing was signed; with the fault of what is unfit
unfoldable pub sign_fields : SignCause → List ℕ
sign_fields NotReached = word_field (codes "cause") (sign_name NotReached)
sign_fields TimedOut = word_field (codes "cause") (sign_name TimedOut)
sign_fields NotAnAnswer = word_field (codes "cause") (sign_name NotAnAnswer)
sign_fields NotInDocument = word_field (codes "cause") (sign_name NotInDocument)
sign_fields (Unfit fault) = word_field (codes "cause") (sign_name (Unfit fault)) ++ word_field (codes "fault") (unfit_name fault)

-- what a document has, and in what it differs from the one before
unfoldable pub count_fields : DocumentCounts → List ℕ
count_fields c =
    number_field (codes "entries") c.entries ++ number_field (codes "bundles") c.bundles
    ++ number_field (codes "changed") c.changed ++ number_field (codes "removed") c.removed

-- and the publication that shows it
unfoldable pub taken_fields : ℕ → DocumentCounts → List ℕ
taken_fields publication c = number_field (codes "publication") publication ++ count_fields c

-- the user of a caller, where it is known
unfoldable pub uid_field : Option ℕ → List ℕ
uid_field (Some uid) = number_field (codes "uid") uid
uid_field None = []

-- a call that ended
unfoldable pub call_fields : EndedCall → List ℕ
call_fields c =
    number_field (codes "socket") c.socket ++ word_field (codes "method") (method_name c.method)
    ++ word_field (codes "status") (status_name c.status) ++ uid_field c.uid

-- a fault line and its sentence
unfoldable pub fault_fields : List ℕ → List ℕ
fault_fields fault = text_field (codes "fault") fault ++ text_field (codes "text") (explained_text fault)

-- how many sockets a configuration adds and removes
unfoldable pub change_fields : SocketChanges → List ℕ
change_fields c = number_field (codes "added") c.added ++ number_field (codes "removed") c.removed

-- what an event says beside its name
unfoldable pub fields : Event → List ℕ
fields (BindFailed path cause) = text_field (codes "path") path.now ++ bind_fields cause
fields ConfigurationUnread = []
fields (ConfigurationRefused fault) = fault_fields fault.now
fields (LaterConfigurationRefused fault) = fault_fields fault.now
fields (ConfigurationTaken changes) = change_fields changes
fields (RestartWanted member) = text_field (codes "member") (member_name member)
fields (SocketAdded socket path) = number_field (codes "socket") socket ++ text_field (codes "path") path.now
fields (SocketRemoved socket path) = number_field (codes "socket") socket ++ text_field (codes "path") path.now
fields (SocketOpenToAll socket path) = number_field (codes "socket") socket ++ text_field (codes "path") path.now
fields (FirstDocumentRefused fault) = fault_fields fault.now
fields NoFirstDocument = []
fields NoThread = []
fields (ListenFailed socket) = number_field (codes "socket") socket
fields HostFailed = []
fields OutputFailed = []
fields OutOfMemory = []
fields (DocumentRefused fault) = fault_fields fault.now
fields (DocumentTaken publication counts) = taken_fields publication counts
fields (AuthorityFailed cause since) = word_field (codes "cause") (pull_name cause) ++ text_field (codes "since") since.now
fields AuthorityBack = []
fields (SigningFailed ask cause) = text_field (codes "entry") ask.now.entry_id ++ sign_fields cause
fields (TokenFailed ask cause) = text_field (codes "entry") ask.now.entry_id ++ sign_fields cause
fields (IdentityEnded ask) = text_field (codes "entry") ask.now.entry_id
fields (IdentityNotYetValid ask not_before) = text_field (codes "entry") ask.now.entry_id ++ number_field (codes "not_before") not_before
fields (CallerWaits socket ask) = number_field (codes "socket") socket ++ text_field (codes "entry") ask.now.entry_id
fields (ConnectionBroken socket code) = number_field (codes "socket") socket ++ word_field (codes "code") (error_name code)
fields (LinkLate socket cause) = number_field (codes "socket") socket ++ word_field (codes "cause") (late_name cause)
fields (ConnectionFailed socket cause) = number_field (codes "socket") socket ++ word_field (codes "cause") (link_name cause)
fields (AttestationFailed socket) = number_field (codes "socket") socket
fields (ConnectionsOfUidFull socket uid) = number_field (codes "socket") socket ++ number_field (codes "uid") uid
fields (SocketBoundAnew path) = text_field (codes "path") path.now
fields (Signed ask not_after) = text_field (codes "entry") ask.now.entry_id ++ number_field (codes "not_after") not_after
fields SignerBack = []
fields (Serving sockets) = number_field (codes "sockets") sockets
fields (Stopping status) = number_field (codes "status") status
fields (Connected socket) = number_field (codes "socket") socket
fields (Closed socket) = number_field (codes "socket") socket
fields (Call call) = call_fields call

-- how many lines like it were held back before it, where there are any
unfoldable pub repeated : ℕ → List ℕ
repeated n = if n == 0 then [] else number_field (codes "repeated") n

-- what is said of an event at a time, which is given as its text
unfoldable pub said : List ℕ → Event → ℕ → List ℕ
said time event n =
    codes "ts=" ++ escaped time ++ word_field (codes "level") (level_name (level_of event))
    ++ word_field (codes "event") (event_name event) ++ fields event ++ repeated n

unfoldable pub line : List ℕ → Event → ℕ → List ℕ
line time event n = said time event n ++ codes "\n"

-- whether each number of a document has 64 bits
unfoldable pub counts_fit : DocumentCounts → Bool
counts_fit c = (nat_lt c.entries (2 ^ 64) && nat_lt c.bundles (2 ^ 64)) && (nat_lt c.changed (2 ^ 64) && nat_lt c.removed (2 ^ 64))

unfoldable pub changes_fit : SocketChanges → Bool
changes_fit c = nat_lt c.added (2 ^ 64) && nat_lt c.removed (2 ^ 64)

unfoldable pub uid_fits : Option ℕ → Bool
uid_fits (Some uid) = nat_lt uid (2 ^ 64)
uid_fits None = true

-- whether each number of a call has 64 bits
unfoldable pub call_fits : EndedCall → Bool
call_fits c = nat_lt c.socket (2 ^ 64) && uid_fits c.uid

-- whether each number of an event has 64 bits
unfoldable pub fits : Event → Bool
fits (ConfigurationTaken changes) = changes_fit changes
fits (SocketAdded socket _) = nat_lt socket (2 ^ 64)
fits (SocketRemoved socket _) = nat_lt socket (2 ^ 64)
fits (SocketOpenToAll socket _) = nat_lt socket (2 ^ 64)
fits (ListenFailed socket) = nat_lt socket (2 ^ 64)
fits (DocumentTaken publication counts) = nat_lt publication (2 ^ 64) && counts_fit counts
fits (IdentityNotYetValid _ not_before) = nat_lt not_before (2 ^ 64)
fits (CallerWaits socket _) = nat_lt socket (2 ^ 64)
fits (ConnectionBroken socket _) = nat_lt socket (2 ^ 64)
fits (LinkLate socket _) = nat_lt socket (2 ^ 64)
fits (ConnectionFailed socket _) = nat_lt socket (2 ^ 64)
fits (AttestationFailed socket) = nat_lt socket (2 ^ 64)
fits (ConnectionsOfUidFull socket uid) = nat_lt socket (2 ^ 64) && nat_lt uid (2 ^ 64)
fits (Signed _ not_after) = nat_lt not_after (2 ^ 64)
fits (Serving sockets) = nat_lt sockets (2 ^ 64)
fits (Stopping status) = nat_lt status (2 ^ 64)
fits (Connected socket) = nat_lt socket (2 ^ 64)
fits (Closed socket) = nat_lt socket (2 ^ 64)
fits (Call call) = call_fits call
fits _ = true
