-- Events: their levels, names and words. Own rule: docs/OPERATING.md has the table.
use Rattle.std.specs.Prelude.{ℕ, List, codes}
use Rattle.event_log.specs.declared.level.Level.{Level}
use Rattle.event_log.specs.declared.level.Level.TheVariants.{Error, Warn, Info, Debug}
use Rattle.event_log.specs.declared.causes.BindCause.{BindCause}
use Rattle.event_log.specs.declared.causes.BindCause.TheVariants.{Taken, NotASocket, StaleOfOtherUser, Refused}
use Rattle.event_log.specs.declared.causes.Reason.{Reason}
use Rattle.event_log.specs.declared.causes.Reason.TheVariants.{NotFound, PermissionDenied, ConnectionRefused, AddressInUse, WouldBlock, TimedOut, InvalidInput, Other}
use Rattle.event_log.specs.declared.causes.PullCause.{PullCause}
use Rattle.event_log.specs.declared.causes.PullCause.TheVariants.{Socket, File}
use Rattle.event_log.specs.declared.causes.SignCause.{SignCause}
use Rattle.event_log.specs.declared.causes.SignCause.TheVariants.{NotReached, TimedOut as NotInTime, NotAnAnswer, NotInDocument, Unfit}
use Rattle.event_log.specs.declared.causes.UnfitCause.{UnfitCause}
use Rattle.event_log.specs.declared.causes.UnfitCause.TheVariants as unfit
use Rattle.event_log.specs.declared.causes.ErrorCode.{ErrorCode}
use Rattle.event_log.specs.declared.causes.ErrorCode.TheVariants as error
use Rattle.event_log.specs.declared.restart_member.RestartMember.{RestartMember}
use Rattle.event_log.specs.declared.restart_member.RestartMember.TheVariants as member
use Rattle.event_log.specs.declared.event.Event.{Event}
use Rattle.event_log.specs.declared.event.Event.TheVariants.{BindFailed, ConfigurationUnread, ConfigurationRefused, LaterConfigurationRefused, ConfigurationTaken, RestartWanted, SocketAdded, SocketRemoved, SocketOpenToAll, FirstDocumentRefused, NoFirstDocument, NoThread, ListenFailed, HostFailed, OutputFailed, OutOfMemory, DocumentRefused, DocumentTaken, AuthorityFailed, AuthorityBack, SigningFailed, TokenFailed, IdentityEnded, IdentityNotYetValid, CallerWaits, ConnectionBroken, LinkLate, ConnectionFailed, AttestationFailed, ConnectionsOfUidFull, SocketBoundAnew, Signed, SignerBack, Serving, Stopping, Connected, Closed, Call}

unfoldable pub level_name : Level → List ℕ
level_name Error = codes "error"
level_name Warn = codes "warn"
level_name Info = codes "info"
level_name Debug = codes "debug"

-- how much is said at a level: errors alone are 0
unfoldable pub rank : Level → ℕ
rank Error = 0
rank Warn = 1
rank Info = 2
rank Debug = 3

unfoldable pub level_of : Event → Level
level_of (BindFailed _ _) = Error
level_of ConfigurationUnread = Error
level_of (ConfigurationRefused _) = Error
level_of (LaterConfigurationRefused _) = Warn
level_of (ConfigurationTaken _) = Info
level_of (RestartWanted _) = Warn
level_of (SocketAdded _ _) = Info
level_of (SocketRemoved _ _) = Info
level_of (SocketOpenToAll _ _) = Warn
level_of (FirstDocumentRefused _) = Error
level_of NoFirstDocument = Error
level_of NoThread = Error
level_of (ListenFailed _) = Error
level_of HostFailed = Error
level_of OutputFailed = Error
level_of OutOfMemory = Error
level_of (DocumentRefused _) = Warn
level_of (DocumentTaken _ _) = Info
level_of (AuthorityFailed _ _) = Warn
level_of AuthorityBack = Info
level_of (SigningFailed _ _) = Warn
level_of (TokenFailed _ _) = Warn
level_of (IdentityEnded _) = Warn
level_of (IdentityNotYetValid _ _) = Warn
level_of (CallerWaits _ _) = Warn
level_of (ConnectionBroken _ _) = Warn
level_of (LinkLate _ _) = Warn
level_of (ConnectionFailed _ _) = Debug
level_of (AttestationFailed _) = Warn
level_of (ConnectionsOfUidFull _ _) = Warn
level_of (SocketBoundAnew _) = Warn
level_of (Signed _ _) = Info
level_of SignerBack = Info
level_of (Serving _) = Info
level_of (Stopping _) = Info
level_of (Connected _) = Debug
level_of (Closed _) = Debug
level_of (Call _) = Debug

unfoldable pub event_name : Event → List ℕ
event_name (BindFailed _ _) = codes "bind_failed"
event_name ConfigurationUnread = codes "configuration_unread"
event_name (ConfigurationRefused _) = codes "configuration_refused"
event_name (LaterConfigurationRefused _) = codes "configuration_refused"
event_name (ConfigurationTaken _) = codes "configuration_taken"
event_name (RestartWanted _) = codes "restart_wanted"
event_name (SocketAdded _ _) = codes "socket_added"
event_name (SocketRemoved _ _) = codes "socket_removed"
event_name (SocketOpenToAll _ _) = codes "socket_open_to_all"
event_name (FirstDocumentRefused _) = codes "first_document_refused"
event_name NoFirstDocument = codes "no_first_document"
event_name NoThread = codes "no_thread"
event_name (ListenFailed _) = codes "listen_failed"
event_name HostFailed = codes "host_failed"
event_name OutputFailed = codes "output_failed"
event_name OutOfMemory = codes "out_of_memory"
event_name (DocumentRefused _) = codes "document_refused"
event_name (DocumentTaken _ _) = codes "document_taken"
event_name (AuthorityFailed _ _) = codes "authority_failed"
event_name AuthorityBack = codes "authority_back"
event_name (SigningFailed _ _) = codes "signing_failed"
event_name (TokenFailed _ _) = codes "token_failed"
event_name (IdentityEnded _) = codes "identity_ended"
event_name (IdentityNotYetValid _ _) = codes "identity_not_yet_valid"
event_name (CallerWaits _ _) = codes "caller_waits"
event_name (ConnectionBroken _ _) = codes "connection_broken"
event_name (LinkLate _ _) = codes "link_late"
event_name (ConnectionFailed _ _) = codes "connection_failed"
event_name (AttestationFailed _) = codes "attestation_failed"
event_name (ConnectionsOfUidFull _ _) = codes "connections_of_uid_full"
event_name (SocketBoundAnew _) = codes "socket_bound_anew"
event_name (Signed _ _) = codes "signed"
event_name SignerBack = codes "signer_back"
event_name (Serving _) = codes "serving"
event_name (Stopping _) = codes "stopping"
event_name (Connected _) = codes "connected"
event_name (Closed _) = codes "closed"
event_name (Call _) = codes "call"

unfoldable pub bind_name : BindCause → List ℕ
bind_name Taken = codes "taken"
bind_name NotASocket = codes "not_a_socket"
bind_name StaleOfOtherUser = codes "stale_of_other_user"
bind_name (Refused _) = codes "refused"

unfoldable pub reason_name : Reason → List ℕ
reason_name NotFound = codes "not_found"
reason_name PermissionDenied = codes "permission_denied"
reason_name ConnectionRefused = codes "connection_refused"
reason_name AddressInUse = codes "address_in_use"
reason_name WouldBlock = codes "would_block"
reason_name TimedOut = codes "timed_out"
reason_name InvalidInput = codes "invalid_input"
reason_name Other = codes "other"

unfoldable pub pull_name : PullCause → List ℕ
pull_name Socket = codes "socket"
pull_name File = codes "file"

unfoldable pub sign_name : SignCause → List ℕ
sign_name NotReached = codes "connect"
sign_name NotInTime = codes "timeout"
sign_name NotAnAnswer = codes "not_an_answer"
sign_name NotInDocument = codes "not_in_document"
sign_name (Unfit _) = codes "unfit"

unfoldable pub unfit_name : UnfitCause → List ℕ
unfit_name unfit.Times = codes "times"
unfit_name unfit.Expired = codes "expired"
unfit_name unfit.EmptyChain = codes "empty_chain"
unfit_name unfit.EmptyKey = codes "empty_key"
unfit_name unfit.TooLong = codes "too_long"
unfit_name unfit.NoLeaf = codes "no_leaf"
unfit_name unfit.OtherId = codes "other_id"
unfit_name unfit.OtherTimes = codes "other_times"
unfit_name unfit.EmptyToken = codes "empty_token"
unfit_name unfit.TokenByte = codes "token_byte"

-- as the configuration has them
unfoldable pub member_name : RestartMember → List ℕ
member_name member.Signer = codes "signer"
member_name member.Signers = codes "signers"
member_name member.Metrics = codes "metrics"
member_name member.Threads = codes "threads"
member_name member.StallSeconds = codes "stall_seconds"
member_name member.OpeningSeconds = codes "opening_seconds"
member_name member.MemoryMib = codes "memory_mib"

-- RFC 9113, section 7
unfoldable pub error_name : ErrorCode → List ℕ
error_name error.NoError = codes "NO_ERROR"
error_name error.ProtocolError = codes "PROTOCOL_ERROR"
error_name error.InternalError = codes "INTERNAL_ERROR"
error_name error.FlowControlError = codes "FLOW_CONTROL_ERROR"
error_name error.SettingsTimeout = codes "SETTINGS_TIMEOUT"
error_name error.StreamClosed = codes "STREAM_CLOSED"
error_name error.FrameSizeError = codes "FRAME_SIZE_ERROR"
error_name error.RefusedStream = codes "REFUSED_STREAM"
error_name error.Cancel = codes "CANCEL"
error_name error.CompressionError = codes "COMPRESSION_ERROR"
error_name error.ConnectError = codes "CONNECT_ERROR"
error_name error.EnhanceYourCalm = codes "ENHANCE_YOUR_CALM"
error_name error.InadequateSecurity = codes "INADEQUATE_SECURITY"
error_name error.Http11Required = codes "HTTP_1_1_REQUIRED"
error_name error.Unnamed = codes "unnamed"
