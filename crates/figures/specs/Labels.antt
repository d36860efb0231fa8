-- The values of labels, and how a value stands within its quotes (Prometheus, 'Text-based format', 0.0.4).
use Rattle.std.specs.Prelude.{ℕ, ◌==◌, Bool, true, false, if◌then◌else◌, List, [], ◌∷◌, ◌++◌, codes}
use Rattle.figures.specs.declared.labels.DocumentResult.{DocumentResult}
use Rattle.figures.specs.declared.labels.DocumentResult.TheVariants.{Taken, Refused, Failed}
use Rattle.figures.specs.declared.labels.SigningKind.{SigningKind}
use Rattle.figures.specs.declared.labels.SigningKind.TheVariants.{X509, Jwt}
use Rattle.figures.specs.declared.labels.SigningResult.{SigningResult}
use Rattle.figures.specs.declared.labels.SigningResult.TheVariants as asked
use Rattle.figures.specs.declared.labels.IdentityState.{IdentityState}
use Rattle.figures.specs.declared.labels.IdentityState.TheVariants.{Kept, Due, InFlight, Missing}
use Rattle.figures.specs.declared.labels.LinkCause.{LinkCause}
use Rattle.figures.specs.declared.labels.LinkCause.TheVariants.{ReceiveFailed, SendFailed}
use Rattle.figures.specs.declared.labels.LateCause.{LateCause}
use Rattle.figures.specs.declared.labels.LateCause.TheVariants.{Stalled, Silent}
use Rattle.figures.specs.declared.labels.RefusedCause.{RefusedCause}
use Rattle.figures.specs.declared.labels.RefusedCause.TheVariants.{Unattested, UidFull}
use Rattle.figures.specs.declared.labels.FaultCause.{FaultCause}
use Rattle.figures.specs.declared.labels.FaultCause.TheVariants as fault
use Rattle.figures.specs.declared.labels.Direction.{Direction}
use Rattle.figures.specs.declared.labels.Direction.TheVariants.{Received, Sent}
use Rattle.figures.specs.declared.labels.Bound.{Bound}
use Rattle.figures.specs.declared.labels.Bound.TheVariants.{TenMilliseconds, HundredMilliseconds, OneSecond, FiveSeconds, TenSeconds, NoBound}

unfoldable pub document_result : DocumentResult → List ℕ
document_result Taken = codes "taken"
document_result Refused = codes "refused"
document_result Failed = codes "failed"

unfoldable pub signing_kind : SigningKind → List ℕ
signing_kind X509 = codes "x509"
signing_kind Jwt = codes "jwt"

unfoldable pub signing_result : SigningResult → List ℕ
signing_result asked.Signed = codes "signed"
signing_result asked.Failed = codes "failed"

unfoldable pub identity_state : IdentityState → List ℕ
identity_state Kept = codes "kept"
identity_state Due = codes "due"
identity_state InFlight = codes "in_flight"
identity_state Missing = codes "missing"

unfoldable pub link_name : LinkCause → List ℕ
link_name ReceiveFailed = codes "receive_failed"
link_name SendFailed = codes "send_failed"

unfoldable pub late_name : LateCause → List ℕ
late_name Stalled = codes "stalled"
late_name Silent = codes "silent"

unfoldable pub refused_name : RefusedCause → List ℕ
refused_name Unattested = codes "unattested"
refused_name UidFull = codes "uid_full"

unfoldable pub fault_name : FaultCause → List ℕ
fault_name (fault.Failed cause) = link_name cause
fault_name fault.Protocol = codes "protocol"
fault_name (fault.Late cause) = late_name cause
fault_name (fault.Refused cause) = refused_name cause

unfoldable pub direction_name : Direction → List ℕ
direction_name Received = codes "received"
direction_name Sent = codes "sent"

-- in seconds; the last bound is that of all
unfoldable pub bound_name : Bound → List ℕ
bound_name TenMilliseconds = codes "0.01"
bound_name HundredMilliseconds = codes "0.1"
bound_name OneSecond = codes "1"
bound_name FiveSeconds = codes "5"
bound_name TenSeconds = codes "10"
bound_name NoBound = codes "+Inf"

-- a backslash, a quote and a newline are escaped; each other byte stands for itself
unfoldable pub escaped_byte : ℕ → List ℕ
escaped_byte b =
    if b == 92 then codes "\\\\"
    else if b == 34 then codes "\\\""
    else if b == 10 then codes "\\n"
    else b ∷ []

abbrev pub escaped : List ℕ → List ℕ
escaped [] = []
escaped (b ∷ bytes) = escaped_byte b ++ escaped bytes

-- no newline, no quote without its backslash, and no backslash at the end, which would escape the closing quote; the first argument says whether the byte before is a backslash that escapes
abbrev pub is_within_quotes : Bool → List ℕ → Bool
is_within_quotes true [] = false
is_within_quotes false [] = true
is_within_quotes true (b ∷ bytes) = is_within_quotes false bytes
is_within_quotes false (b ∷ bytes) = if b == 10 then false else if b == 34 then false else is_within_quotes (b == 92) bytes
