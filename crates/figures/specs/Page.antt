-- The page of figures (Prometheus, 'Text-based format', 0.0.4): of each family its help, its type and then its samples.
use Rattle.std.specs.Prelude.{ℕ, ◌+◌, ◌/◌, ◌%◌, List, [], ◌∷◌, ◌++◌, codes, Option, Some, None}
use Rattle.std.specs.Fmt.{decimal}
use Rattle.figures.specs.Families.{name_of}
use Rattle.figures.specs.Labels.{signing_kind, signing_result, bound_name}
use Rattle.figures.specs.Samples.{head, number_end, single, label_end, sample, socket_line}
use Rattle.figures.specs.Calls.{calls_part}
use Rattle.figures.specs.declared.family.Family.TheVariants as family
use Rattle.figures.specs.declared.labels.DocumentResult.TheVariants as document
use Rattle.figures.specs.declared.labels.SigningKind.{SigningKind}
use Rattle.figures.specs.declared.labels.SigningKind.TheVariants as kinds
use Rattle.figures.specs.declared.labels.SigningResult.{SigningResult}
use Rattle.figures.specs.declared.labels.SigningResult.TheVariants as asked
use Rattle.figures.specs.declared.labels.IdentityState.TheVariants as states
use Rattle.figures.specs.declared.labels.LinkCause.TheVariants.{ReceiveFailed, SendFailed}
use Rattle.figures.specs.declared.labels.LateCause.TheVariants.{Stalled, Silent}
use Rattle.figures.specs.declared.labels.RefusedCause.TheVariants.{Unattested, UidFull}
use Rattle.figures.specs.declared.labels.FaultCause.{FaultCause}
use Rattle.figures.specs.declared.labels.FaultCause.TheVariants as causes
use Rattle.figures.specs.declared.labels.Direction.TheVariants as directions
use Rattle.figures.specs.declared.sample.Counted.TheVariants as counted
use Rattle.figures.specs.declared.labels.Bound.{Bound}
use Rattle.figures.specs.declared.labels.Bound.TheVariants as bounds
use Rattle.figures.specs.declared.figures.Documents.{Documents}
use Rattle.figures.specs.declared.figures.Signings.{Signings}
use Rattle.figures.specs.declared.figures.Seconds.{Seconds}
use Rattle.figures.specs.declared.figures.Identities.{Identities}
use Rattle.figures.specs.declared.figures.SocketFigures.{SocketFigures}
use Rattle.figures.specs.declared.figures.LinkFaults.{LinkFaults}
use Rattle.figures.specs.declared.figures.Traffic.{Traffic}
use Rattle.figures.specs.declared.figures.Figures.{Figures}

-- ---- documents

unfoldable pub documents_part : Documents → List ℕ
documents_part d =
    head family.Documents ++ sample (counted.Document document.Taken) d.taken ++ sample (counted.Document document.Refused) d.refused
    ++ sample (counted.Document document.Failed) d.failed

-- nothing before the first document
unfoldable pub age_part : Option ℕ → List ℕ
age_part (Some seconds) = single family.DocumentAge seconds
age_part None = []

-- nothing before the first publication
unfoldable pub publication_part : Option ℕ → List ℕ
publication_part (Some number) = single family.Publication number
publication_part None = []

-- ---- identities

-- nothing where no entry has an identity
unfoldable pub end_part : Option ℕ → List ℕ
end_part (Some seconds) = single family.NextEnd seconds
end_part None = []

unfoldable pub identities_part : Identities → List ℕ
identities_part i =
    head family.Identities ++ sample (counted.Identity states.Kept) i.kept ++ sample (counted.Identity states.Due) i.due
    ++ sample (counted.Identity states.InFlight) i.in_flight ++ sample (counted.Identity states.Missing) i.missing
    ++ end_part i.next_end

-- ---- signings

unfoldable pub signing_line : SigningKind → SigningResult → ℕ → List ℕ
signing_line kind outcome n =
    name_of family.Signings ++ codes "{kind=\"" ++ signing_kind kind ++ codes "\",result=\"" ++ signing_result outcome ++ codes "\"}" ++ number_end n

unfoldable pub kind_lines : SigningKind → Signings → List ℕ
kind_lines kind s = signing_line kind asked.Signed s.signed ++ signing_line kind asked.Failed s.failed

unfoldable pub signings_part : Signings → Signings → List ℕ
signings_part x509 jwt = head family.Signings ++ kind_lines kinds.X509 x509 ++ kind_lines kinds.Jwt jwt

-- how many asks took at most so long
unfoldable pub bucket : Bound → ℕ → List ℕ
bucket bound n = name_of family.SigningSeconds ++ codes "_bucket" ++ label_end (codes "le") (bound_name bound) n

unfoldable pub buckets : Seconds → List ℕ
buckets s =
    bucket bounds.TenMilliseconds s.at_most_10_milliseconds ++ bucket bounds.HundredMilliseconds s.at_most_100_milliseconds
    ++ bucket bounds.OneSecond s.at_most_1_second ++ bucket bounds.FiveSeconds s.at_most_5_seconds
    ++ bucket bounds.TenSeconds s.at_most_10_seconds ++ bucket bounds.NoBound s.count

abbrev pub digit : ℕ → List ℕ
digit n = (48 + n % 10) ∷ []

-- milliseconds as seconds, with three digits after the point
unfoldable pub in_seconds : ℕ → List ℕ
in_seconds n = decimal (n / 1000) ++ codes "." ++ digit (n / 100) ++ digit (n / 10) ++ digit n

unfoldable pub sum_line : ℕ → List ℕ
sum_line n = name_of family.SigningSeconds ++ codes "_sum " ++ in_seconds n ++ codes "\n"

unfoldable pub count_line : ℕ → List ℕ
count_line n = name_of family.SigningSeconds ++ codes "_count" ++ number_end n

unfoldable pub seconds_part : Seconds → List ℕ
seconds_part s = head family.SigningSeconds ++ buckets s ++ sum_line s.milliseconds ++ count_line s.count

-- ---- connections

-- one line for each socket, in the order of the configuration
abbrev pub open_lines : List SocketFigures → List ℕ
open_lines [] = []
open_lines (s ∷ ss) = socket_line family.Connections s s.open ++ open_lines ss

abbrev pub accepted_lines : List SocketFigures → List ℕ
accepted_lines [] = []
accepted_lines (s ∷ ss) = socket_line family.ConnectionsTotal s s.accepted ++ accepted_lines ss

unfoldable pub sockets_part : List SocketFigures → List ℕ
sockets_part ss = head family.Connections ++ open_lines ss ++ head family.ConnectionsTotal ++ accepted_lines ss

unfoldable pub fault_line : FaultCause → ℕ → List ℕ
fault_line cause n = sample (counted.Fault cause) n

unfoldable pub failed_lines : LinkFaults → List ℕ
failed_lines f =
    fault_line (causes.Failed ReceiveFailed) f.receive_failed ++ fault_line (causes.Failed SendFailed) f.send_failed
    ++ fault_line causes.Protocol f.protocol

-- that ended for their time, or before they began
unfoldable pub closed_lines : LinkFaults → List ℕ
closed_lines f =
    fault_line (causes.Late Stalled) f.stalled ++ fault_line (causes.Late Silent) f.silent
    ++ fault_line (causes.Refused Unattested) f.unattested ++ fault_line (causes.Refused UidFull) f.uid_full

unfoldable pub faults_part : LinkFaults → List ℕ
faults_part f = head family.ConnectionFaults ++ failed_lines f ++ closed_lines f

unfoldable pub traffic_part : Traffic → List ℕ
traffic_part t =
    head family.Bytes ++ sample (counted.Bytes directions.Received) t.received ++ sample (counted.Bytes directions.Sent) t.sent

unfoldable pub links_part : Figures → List ℕ
links_part f = sockets_part f.sockets ++ calls_part f.sockets ++ faults_part f.faults ++ traffic_part f.traffic

-- ---- the whole

unfoldable pub document_part : Figures → List ℕ
document_part f =
    documents_part f.documents ++ age_part f.document_age ++ publication_part f.publication
    ++ single family.Entries f.entries ++ single family.Bundles f.bundles

unfoldable pub process_part : Figures → List ℕ
process_part f = single family.LinesDropped f.lines_dropped ++ single family.StartTime f.started

unfoldable pub page : Figures → List ℕ
page f =
    document_part f ++ identities_part f.identities ++ signings_part f.x509 f.jwt ++ seconds_part f.seconds
    ++ links_part f ++ process_part f
