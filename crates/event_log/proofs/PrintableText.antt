-- What is escaped is printed, and so is each line before its newline.
use Rattle.std.proofs.Common.{ℕ, ◌+◌, ◌/◌, ◌%◌, ◌≤◌, ◌<◌, ◌^◌, ◌≡◌, ◌==◌, ◌&&◌, Bool, nat_lt, nat_le, true, false, if◌then◌else◌, List, [], ◌∷◌, ◌++◌, arith, refl, codes, Option, Some, None}
use Rattle.std.specs.Fmt.{decimal}
use Rattle.std.proofs.lemmas.Fmt.{decimal_by_steps}
use Rattle.fault_lines.specs.Explanations.{explained_text}
use Rattle.event_log.specs.Texts.{escaped, escaped_byte, hex_digit, is_printed, are_printed, word_field, number_field, text_field}
use Rattle.call_counts.specs.Names.{method_name, status_name}
use Rattle.call_counts.specs.declared.labels.CallMethod.{CallMethod}
use Rattle.call_counts.specs.declared.labels.CallMethod.TheVariants as method
use Rattle.call_counts.specs.declared.labels.CallStatus.{CallStatus}
use Rattle.call_counts.specs.declared.labels.CallStatus.TheVariants as status
use Rattle.figures.specs.Labels.{link_name, late_name}
use Rattle.figures.specs.declared.labels.LinkCause.{LinkCause}
use Rattle.figures.specs.declared.labels.LinkCause.TheVariants.{ReceiveFailed, SendFailed}
use Rattle.figures.specs.declared.labels.LateCause.{LateCause}
use Rattle.figures.specs.declared.labels.LateCause.TheVariants.{Stalled, Silent}
use Rattle.event_log.specs.Events.{level_of, level_name, event_name, bind_name, reason_name, pull_name, sign_name, unfit_name, error_name, member_name}
use Rattle.event_log.specs.Lines.{bind_fields, sign_fields, fault_fields, change_fields, count_fields, taken_fields, uid_field, call_fields, counts_fit, changes_fit, uid_fits, call_fits, fields, repeated, said, line, fits}
use Rattle.event_log.specs.declared.level.Level.{Level}
use Rattle.event_log.specs.declared.level.Level.TheVariants.{Error, Warn, Info, Debug}
use Rattle.event_log.specs.declared.causes.BindCause.{BindCause}
use Rattle.event_log.specs.declared.causes.BindCause.TheVariants.{Taken, NotASocket, StaleOfOtherUser, Refused}
use Rattle.event_log.specs.declared.causes.Reason.{Reason}
use Rattle.event_log.specs.declared.causes.Reason.TheVariants.{NotFound, PermissionDenied, ConnectionRefused, AddressInUse, WouldBlock, TimedOut, InvalidInput, Other}
use Rattle.event_log.specs.declared.causes.PullCause.{PullCause}
use Rattle.event_log.specs.declared.causes.PullCause.TheVariants.{Socket, File}
use Rattle.event_log.specs.declared.causes.SignCause.{SignCause}
use Rattle.event_log.specs.declared.causes.SignCause.TheVariants.{NotReached, TimedOut as NotInTime, NotAnAnswer, NotInDocument, Unfit}
use Rattle.event_log.specs.declared.causes.UnfitCause.{UnfitCause}
use Rattle.event_log.specs.declared.causes.UnfitCause.TheVariants as unfit
use Rattle.event_log.specs.declared.causes.ErrorCode.{ErrorCode}
use Rattle.event_log.specs.declared.causes.ErrorCode.TheVariants as error
use Rattle.event_log.specs.declared.event.DocumentCounts.{DocumentCounts}
use Rattle.event_log.specs.declared.event.SocketChanges.{SocketChanges}
use Rattle.event_log.specs.declared.event.EndedCall.{EndedCall}
use Rattle.event_log.specs.declared.event.Event.{Event}
use Rattle.event_log.specs.declared.event.Event.TheVariants.{BindFailed, ConfigurationUnread, ConfigurationRefused, LaterConfigurationRefused, ConfigurationTaken, RestartWanted, SocketAdded, SocketRemoved, SocketOpenToAll, FirstDocumentRefused, NoFirstDocument, NoThread, ListenFailed, HostFailed, OutputFailed, OutOfMemory, DocumentRefused, DocumentTaken, AuthorityFailed, AuthorityBack, SigningFailed, TokenFailed, IdentityEnded, IdentityNotYetValid, CallerWaits, ConnectionBroken, LinkLate, ConnectionFailed, AttestationFailed, ConnectionsOfUidFull, SocketBoundAnew, Signed, SignerBack, Serving, Stopping, Connected, Closed, Call}

pub printed_append : (xs ys : List ℕ) → are_printed xs ≡ true → are_printed ys ≡ true → are_printed (xs ++ ys) ≡ true
printed_append [] ys h k = k
printed_append (x ∷ xs) ys h k =
    let rest = printed_append xs ys in
    grind (arith, rest)

if_printed : (c : Bool) (xs ys : List ℕ) → (c ≡ true → are_printed xs ≡ true) → (c ≡ false → are_printed ys ≡ true) → are_printed (if c then xs else ys) ≡ true
if_printed true xs ys h k = h refl
if_printed false xs ys h k = k refl

digit_printed : (n : ℕ) → n < 16 → is_printed (hex_digit n) ≡ true
unfolding hex_digit
digit_printed n h = grind arith

pub both_true : (c d : Bool) → c ≡ true → d ≡ true → (c && (d && true)) ≡ true
both_true c d h k = grind arith

one_true : (c : Bool) → c ≡ true → (c && true) ≡ true
one_true c h = grind arith

pub byte_printed : (b : ℕ) → are_printed (escaped_byte b) ≡ true
unfolding escaped_byte
byte_printed b =
    let high : b / 16 % 16 < 16 = omega arith in
    let low : b % 16 < 16 = omega arith in
    if_printed (b == 34) _ _ (λ e. refl)
    (λ e. if_printed (b == 92) _ _ (λ e. refl)
    (λ e. if_printed (nat_le 32 b && nat_le b 126) _ _ (λ e. one_true _ e)
    (λ e. both_true _ _ (digit_printed _ high) (digit_printed _ low))))

pub text_printed : (bytes : List ℕ) → are_printed (escaped bytes) ≡ true
text_printed [] = refl
text_printed (b ∷ bytes) = printed_append (escaped_byte b) (escaped bytes) (byte_printed b) (text_printed bytes)

-- ---- numbers

one_digit : (n : ℕ) → n < 10 → are_printed ((48 + n) ∷ []) ≡ true
one_digit n h = grind arith

abbrev Digits : ℕ → List ℕ → Type 0
Digits n ds = are_printed ds ≡ true

more_digits : (n : ℕ) (ds : List ℕ) → 10 ≤ n → are_printed ds ≡ true → are_printed (ds ++ ((48 + n % 10) ∷ [])) ≡ true
more_digits n ds big h =
    let small : n % 10 < 10 = omega arith in
    printed_append ds _ h (one_digit (n % 10) small)

pub number_printed : (n : ℕ) → n < 2 ^ 64 → are_printed (decimal n) ≡ true
number_printed n small = decimal_by_steps Digits one_digit more_digits n small

-- ---- members

pub word_printed : (key word : List ℕ) → are_printed key ≡ true → are_printed word ≡ true → are_printed (word_field key word) ≡ true
unfolding word_field
word_printed key word h k = printed_append (key ++ codes "=") word (printed_append key (codes "=") h refl) k

pub number_field_printed : (key : List ℕ) (n : ℕ) → are_printed key ≡ true → n < 2 ^ 64 → are_printed (number_field key n) ≡ true
unfolding number_field
number_field_printed key n h small = printed_append (key ++ codes "=") (decimal n) (printed_append key (codes "=") h refl) (number_printed n small)

pub text_field_printed : (key text : List ℕ) → are_printed key ≡ true → are_printed (text_field key text) ≡ true
unfolding text_field
text_field_printed key text h =
    printed_append (key ++ codes "=\"" ++ escaped text) (codes "\"")
    (printed_append (key ++ codes "=\"") (escaped text) (printed_append key (codes "=\"") h refl) (text_printed text)) refl

below : (n : ℕ) → nat_lt n (2 ^ 64) ≡ true → n < 2 ^ 64
below n h = grind arith

-- ---- words

level_printed : (level : Level) → are_printed (level_name level) ≡ true
unfolding level_name
level_printed Error = refl
level_printed Warn = refl
level_printed Info = refl
level_printed Debug = refl

name_printed : (event : Event) → are_printed (event_name event) ≡ true
unfolding event_name
name_printed (BindFailed _ _) = refl
name_printed ConfigurationUnread = refl
name_printed (ConfigurationRefused _) = refl
name_printed (LaterConfigurationRefused _) = refl
name_printed (ConfigurationTaken _) = refl
name_printed (RestartWanted _) = refl
name_printed (SocketAdded _ _) = refl
name_printed (SocketRemoved _ _) = refl
name_printed (SocketOpenToAll _ _) = refl
name_printed (FirstDocumentRefused _) = refl
name_printed NoFirstDocument = refl
name_printed NoThread = refl
name_printed (ListenFailed _) = refl
name_printed HostFailed = refl
name_printed OutputFailed = refl
name_printed OutOfMemory = refl
name_printed (DocumentRefused _) = refl
name_printed (DocumentTaken _ _) = refl
name_printed (AuthorityFailed _ _) = refl
name_printed AuthorityBack = refl
name_printed (SigningFailed _ _) = refl
name_printed (TokenFailed _ _) = refl
name_printed (IdentityEnded _) = refl
name_printed (IdentityNotYetValid _ _) = refl
name_printed (CallerWaits _ _) = refl
name_printed (ConnectionBroken _ _) = refl
name_printed (LinkLate _ _) = refl
name_printed (ConnectionFailed _ _) = refl
name_printed (AttestationFailed _) = refl
name_printed (ConnectionsOfUidFull _ _) = refl
name_printed (SocketBoundAnew _) = refl
name_printed (Signed _ _) = refl
name_printed SignerBack = refl
name_printed (Serving _) = refl
name_printed (Stopping _) = refl
name_printed (Connected _) = refl
name_printed (Closed _) = refl
name_printed (Call _) = refl

reason_printed : (reason : Reason) → are_printed (reason_name reason) ≡ true
unfolding reason_name
reason_printed NotFound = refl
reason_printed PermissionDenied = refl
reason_printed ConnectionRefused = refl
reason_printed AddressInUse = refl
reason_printed WouldBlock = refl
reason_printed TimedOut = refl
reason_printed InvalidInput = refl
reason_printed Other = refl

pull_printed : (cause : PullCause) → are_printed (pull_name cause) ≡ true
unfolding pull_name
pull_printed Socket = refl
pull_printed File = refl

sign_printed : (cause : SignCause) → are_printed (sign_name cause) ≡ true
unfolding sign_name
sign_printed NotReached = refl
sign_printed NotInTime = refl
sign_printed NotAnAnswer = refl
sign_printed NotInDocument = refl
sign_printed (Unfit _) = refl

unfit_printed : (fault : UnfitCause) → are_printed (unfit_name fault) ≡ true
unfolding unfit_name
unfit_printed unfit.Times = refl
unfit_printed unfit.Expired = refl
unfit_printed unfit.EmptyChain = refl
unfit_printed unfit.EmptyKey = refl
unfit_printed unfit.TooLong = refl
unfit_printed unfit.NoLeaf = refl
unfit_printed unfit.OtherId = refl
unfit_printed unfit.OtherTimes = refl
unfit_printed unfit.EmptyToken = refl
unfit_printed unfit.TokenByte = refl

link_printed : (cause : LinkCause) → are_printed (link_name cause) ≡ true
unfolding link_name
link_printed ReceiveFailed = refl
link_printed SendFailed = refl

late_printed : (cause : LateCause) → are_printed (late_name cause) ≡ true
unfolding late_name
late_printed Stalled = refl
late_printed Silent = refl

error_printed : (code : ErrorCode) → are_printed (error_name code) ≡ true
unfolding error_name
error_printed error.NoError = refl
error_printed error.ProtocolError = refl
error_printed error.InternalError = refl
error_printed error.FlowControlError = refl
error_printed error.SettingsTimeout = refl
error_printed error.StreamClosed = refl
error_printed error.FrameSizeError = refl
error_printed error.RefusedStream = refl
error_printed error.Cancel = refl
error_printed error.CompressionError = refl
error_printed error.ConnectError = refl
error_printed error.EnhanceYourCalm = refl
error_printed error.InadequateSecurity = refl
error_printed error.Http11Required = refl
error_printed error.Unnamed = refl

method_printed : (m : CallMethod) → are_printed (method_name m) ≡ true
unfolding method_name
method_printed method.FetchX509Svid = refl
method_printed method.FetchX509Bundles = refl
method_printed method.FetchJwtSvid = refl
method_printed method.FetchJwtBundles = refl
method_printed method.Check = refl
method_printed method.Watch = refl
method_printed method.Unread = refl

status_printed : (s : CallStatus) → are_printed (status_name s) ≡ true
unfolding status_name
status_printed status.Ok = refl
status_printed status.Cancelled = refl
status_printed status.InvalidArgument = refl
status_printed status.NotFound = refl
status_printed status.PermissionDenied = refl
status_printed status.ResourceExhausted = refl
status_printed status.Unimplemented = refl
status_printed status.Internal = refl
status_printed status.Unavailable = refl
status_printed status.Http = refl

bind_printed : (cause : BindCause) → are_printed (bind_name cause) ≡ true
unfolding bind_name
bind_printed Taken = refl
bind_printed NotASocket = refl
bind_printed StaleOfOtherUser = refl
bind_printed (Refused _) = refl

-- ---- what an event says

bind_fields_printed : (cause : BindCause) → are_printed (bind_fields cause) ≡ true
unfolding bind_fields
bind_fields_printed Taken = word_printed (codes "cause") (bind_name Taken) refl (bind_printed Taken)
bind_fields_printed NotASocket = word_printed (codes "cause") (bind_name NotASocket) refl (bind_printed NotASocket)
bind_fields_printed StaleOfOtherUser = word_printed (codes "cause") (bind_name StaleOfOtherUser) refl (bind_printed StaleOfOtherUser)
bind_fields_printed (Refused reason) =
    printed_append (word_field (codes "cause") (bind_name (Refused reason))) (word_field (codes "reason") (reason_name reason))
    (word_printed (codes "cause") (bind_name (Refused reason)) refl (bind_printed (Refused reason)))
    (word_printed (codes "reason") (reason_name reason) refl (reason_printed reason))

fault_printed : (fault : List ℕ) → are_printed (fault_fields fault) ≡ true
unfolding fault_fields
fault_printed fault =
    printed_append (text_field (codes "fault") fault) (text_field (codes "text") (explained_text fault))
    (text_field_printed (codes "fault") fault refl) (text_field_printed (codes "text") (explained_text fault) refl)

cause_printed : (cause : SignCause) → are_printed (word_field (codes "cause") (sign_name cause)) ≡ true
cause_printed cause = word_printed (codes "cause") (sign_name cause) refl (sign_printed cause)

sign_fields_printed : (cause : SignCause) → are_printed (sign_fields cause) ≡ true
unfolding sign_fields
sign_fields_printed NotReached = cause_printed NotReached
sign_fields_printed NotInTime = cause_printed NotInTime
sign_fields_printed NotAnAnswer = cause_printed NotAnAnswer
sign_fields_printed NotInDocument = cause_printed NotInDocument
sign_fields_printed (Unfit fault) =
    printed_append (word_field (codes "cause") (sign_name (Unfit fault))) (word_field (codes "fault") (unfit_name fault))
    (cause_printed (Unfit fault)) (word_printed (codes "fault") (unfit_name fault) refl (unfit_printed fault))

unsigned_printed : (entry : List ℕ) (cause : SignCause) → are_printed (text_field (codes "entry") entry ++ sign_fields cause) ≡ true
unsigned_printed entry cause =
    printed_append (text_field (codes "entry") entry) (sign_fields cause)
    (text_field_printed (codes "entry") entry refl) (sign_fields_printed cause)

pub number_below : (key : List ℕ) (n : ℕ) → are_printed key ≡ true → nat_lt n (2 ^ 64) ≡ true → are_printed (number_field key n) ≡ true
number_below key n h small = number_field_printed key n h (below n small)

first_true : (c d : Bool) → (c && d) ≡ true → c ≡ true
first_true true d h = refl
first_true false d h = h

second_true : (c d : Bool) → (c && d) ≡ true → d ≡ true
second_true true d h = h
second_true false false h = h
second_true false true h = refl

two_numbers_printed : (key other : List ℕ) (n m : ℕ) → are_printed key ≡ true → are_printed other ≡ true →
    (nat_lt n (2 ^ 64) && nat_lt m (2 ^ 64)) ≡ true → are_printed (number_field key n ++ number_field other m) ≡ true
two_numbers_printed key other n m k o h =
    printed_append (number_field key n) (number_field other m)
    (number_below key n k (first_true _ _ h)) (number_below other m o (second_true _ _ h))

changes_printed : (changes : SocketChanges) → changes_fit changes ≡ true → are_printed (change_fields changes) ≡ true
unfolding change_fields changes_fit
changes_printed c h = two_numbers_printed (codes "added") (codes "removed") c.added c.removed refl refl h

socket_printed : (socket : ℕ) (path : List ℕ) → nat_lt socket (2 ^ 64) ≡ true → are_printed (number_field (codes "socket") socket ++ text_field (codes "path") path) ≡ true
socket_printed socket path h =
    printed_append (number_field (codes "socket") socket) (text_field (codes "path") path)
    (number_below (codes "socket") socket refl h) (text_field_printed (codes "path") path refl)

counts_printed : (counts : DocumentCounts) → counts_fit counts ≡ true → are_printed (count_fields counts) ≡ true
unfolding count_fields counts_fit
counts_printed c h =
    printed_append (number_field (codes "entries") c.entries ++ number_field (codes "bundles") c.bundles ++ number_field (codes "changed") c.changed) (number_field (codes "removed") c.removed)
    (printed_append (number_field (codes "entries") c.entries ++ number_field (codes "bundles") c.bundles) (number_field (codes "changed") c.changed)
    (two_numbers_printed (codes "entries") (codes "bundles") c.entries c.bundles refl refl (first_true _ _ h))
    (number_below (codes "changed") c.changed refl (first_true _ _ (second_true _ _ h))))
    (number_below (codes "removed") c.removed refl (second_true _ _ (second_true _ _ h)))

taken_printed : (publication : ℕ) (counts : DocumentCounts) → (nat_lt publication (2 ^ 64) && counts_fit counts) ≡ true → are_printed (taken_fields publication counts) ≡ true
unfolding taken_fields
taken_printed publication counts h =
    printed_append (number_field (codes "publication") publication) (count_fields counts)
    (number_below (codes "publication") publication refl (first_true (nat_lt publication (2 ^ 64)) (counts_fit counts) h))
    (counts_printed counts (second_true (nat_lt publication (2 ^ 64)) (counts_fit counts) h))

uid_printed : (uid : Option ℕ) → uid_fits uid ≡ true → are_printed (uid_field uid) ≡ true
unfolding uid_field uid_fits
uid_printed (Some uid) h = number_below (codes "uid") uid refl h
uid_printed None h = refl

call_printed : (c : EndedCall) → call_fits c ≡ true → are_printed (call_fields c) ≡ true
unfolding call_fields call_fits
call_printed c h =
    printed_append (number_field (codes "socket") c.socket ++ word_field (codes "method") (method_name c.method) ++ word_field (codes "status") (status_name c.status)) (uid_field c.uid)
    (printed_append (number_field (codes "socket") c.socket ++ word_field (codes "method") (method_name c.method)) (word_field (codes "status") (status_name c.status))
    (printed_append (number_field (codes "socket") c.socket) (word_field (codes "method") (method_name c.method))
    (number_below (codes "socket") c.socket refl (first_true _ _ h)) (word_printed (codes "method") (method_name c.method) refl (method_printed c.method)))
    (word_printed (codes "status") (status_name c.status) refl (status_printed c.status)))
    (uid_printed c.uid (second_true _ _ h))

fields_printed : (event : Event) → fits event ≡ true → are_printed (fields event) ≡ true
unfolding fields fits
fields_printed (BindFailed path cause) h =
    printed_append (text_field (codes "path") path.now) (bind_fields cause) (text_field_printed (codes "path") path.now refl) (bind_fields_printed cause)
fields_printed ConfigurationUnread h = refl
fields_printed (ConfigurationRefused fault) h = fault_printed fault.now
fields_printed (LaterConfigurationRefused fault) h = fault_printed fault.now
fields_printed (ConfigurationTaken changes) h = changes_printed changes h
fields_printed (RestartWanted member) h = text_field_printed (codes "member") (member_name member) refl
fields_printed (SocketAdded socket path) h = socket_printed socket path.now h
fields_printed (SocketRemoved socket path) h = socket_printed socket path.now h
fields_printed (SocketOpenToAll socket path) h = socket_printed socket path.now h
fields_printed (FirstDocumentRefused fault) h = fault_printed fault.now
fields_printed NoFirstDocument h = refl
fields_printed NoThread h = refl
fields_printed (ListenFailed socket) h = number_below (codes "socket") socket refl h
fields_printed HostFailed h = refl
fields_printed OutputFailed h = refl
fields_printed OutOfMemory h = refl
fields_printed (DocumentRefused fault) h = fault_printed fault.now
fields_printed (DocumentTaken publication counts) h = taken_printed publication counts h
fields_printed (AuthorityFailed cause since) h =
    printed_append (word_field (codes "cause") (pull_name cause)) (text_field (codes "since") since.now)
    (word_printed (codes "cause") (pull_name cause) refl (pull_printed cause)) (text_field_printed (codes "since") since.now refl)
fields_printed AuthorityBack h = refl
fields_printed (SigningFailed ask cause) h = unsigned_printed ask.now.entry_id cause
fields_printed (TokenFailed ask cause) h = unsigned_printed ask.now.entry_id cause
fields_printed (IdentityEnded ask) h = text_field_printed (codes "entry") ask.now.entry_id refl
fields_printed (IdentityNotYetValid ask not_before) h =
    printed_append (text_field (codes "entry") ask.now.entry_id) (number_field (codes "not_before") not_before)
    (text_field_printed (codes "entry") ask.now.entry_id refl) (number_below (codes "not_before") not_before refl h)
fields_printed (CallerWaits socket ask) h =
    printed_append (number_field (codes "socket") socket) (text_field (codes "entry") ask.now.entry_id)
    (number_below (codes "socket") socket refl h) (text_field_printed (codes "entry") ask.now.entry_id refl)
fields_printed (ConnectionBroken socket code) h =
    printed_append (number_field (codes "socket") socket) (word_field (codes "code") (error_name code))
    (number_below (codes "socket") socket refl h) (word_printed (codes "code") (error_name code) refl (error_printed code))
fields_printed (LinkLate socket cause) h =
    printed_append (number_field (codes "socket") socket) (word_field (codes "cause") (late_name cause))
    (number_below (codes "socket") socket refl h) (word_printed (codes "cause") (late_name cause) refl (late_printed cause))
fields_printed (ConnectionFailed socket cause) h =
    printed_append (number_field (codes "socket") socket) (word_field (codes "cause") (link_name cause))
    (number_below (codes "socket") socket refl h) (word_printed (codes "cause") (link_name cause) refl (link_printed cause))
fields_printed (AttestationFailed socket) h = number_below (codes "socket") socket refl h
fields_printed (ConnectionsOfUidFull socket uid) h = two_numbers_printed (codes "socket") (codes "uid") socket uid refl refl h
fields_printed (SocketBoundAnew path) h = text_field_printed (codes "path") path.now refl
fields_printed (Signed ask not_after) h =
    printed_append (text_field (codes "entry") ask.now.entry_id) (number_field (codes "not_after") not_after)
    (text_field_printed (codes "entry") ask.now.entry_id refl) (number_below (codes "not_after") not_after refl h)
fields_printed SignerBack h = refl
fields_printed (Serving sockets) h = number_below (codes "sockets") sockets refl h
fields_printed (Stopping status) h = number_below (codes "status") status refl h
fields_printed (Connected socket) h = number_below (codes "socket") socket refl h
fields_printed (Closed socket) h = number_below (codes "socket") socket refl h
fields_printed (Call call) h = call_printed call h

repeated_printed : (n : ℕ) → n < 2 ^ 64 → are_printed (repeated n) ≡ true
unfolding repeated
repeated_printed n small = if_printed (n == 0) [] (number_field (codes "repeated") n) (λ e. refl) (λ e. number_field_printed (codes "repeated") n refl small)

-- the time and the level
abbrev begun : List ℕ → Event → List ℕ
begun time event = codes "ts=" ++ escaped time ++ word_field (codes "level") (level_name (level_of event))

begun_printed : (time : List ℕ) (event : Event) → are_printed (begun time event) ≡ true
begun_printed time event =
    printed_append (codes "ts=" ++ escaped time) (word_field (codes "level") (level_name (level_of event)))
    (text_printed time) (word_printed (codes "level") (level_name (level_of event)) refl (level_printed (level_of event)))

-- and the name
abbrev named : List ℕ → Event → List ℕ
named time event = begun time event ++ word_field (codes "event") (event_name event)

named_printed : (time : List ℕ) (event : Event) → are_printed (named time event) ≡ true
named_printed time event =
    printed_append (begun time event) (word_field (codes "event") (event_name event))
    (begun_printed time event) (word_printed (codes "event") (event_name event) refl (name_printed event))

said_printed : (time : List ℕ) (event : Event) (held : ℕ) → fits event ≡ true → held < 2 ^ 64 → are_printed (said time event held) ≡ true
unfolding said
said_printed time event held h small =
    printed_append (named time event ++ fields event) (repeated held)
    (printed_append (named time event) (fields event) (named_printed time event) (fields_printed event h))
    (repeated_printed held small)

pub line_printed : (time : List ℕ) (event : Event) (held : ℕ) → fits event ≡ true → held < 2 ^ 64 →
    (line time event held ≡ said time event held ++ 10 ∷ []) × (are_printed (said time event held) ≡ true)
unfolding line
line_printed time event held h small = (refl, said_printed time event held h small)
