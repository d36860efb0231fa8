-- The figures of calls: of each family its head, and then its lines by socket, in the order of the configuration. Own rule: a
-- socket has a line of ended calls, or of messages, only where the number is not 0.
use Rattle.std.specs.Prelude.{ℕ, ◌==◌, if◌then◌else◌, List, [], ◌∷◌, ◌++◌, codes}
use Rattle.call_counts.specs.Names.{method_name, status_name}
use Rattle.call_counts.specs.declared.labels.CallMethod.{CallMethod}
use Rattle.call_counts.specs.declared.labels.CallMethod.TheVariants as method
use Rattle.call_counts.specs.declared.labels.CallStatus.{CallStatus}
use Rattle.call_counts.specs.declared.labels.CallStatus.TheVariants as status
use Rattle.figures.specs.Families.{name_of}
use Rattle.figures.specs.Labels.{escaped}
use Rattle.figures.specs.Samples.{head, number_end, socket_line}
use Rattle.figures.specs.declared.family.Family.{Family}
use Rattle.figures.specs.declared.family.Family.TheVariants as family
use Rattle.figures.specs.declared.call_figures.MethodFigures.{MethodFigures}
use Rattle.figures.specs.declared.call_figures.CallFigures.{CallFigures}
use Rattle.figures.specs.declared.figures.SocketFigures.{SocketFigures}

-- how many calls of a method ended with a status
unfoldable pub ended : MethodFigures → CallStatus → ℕ
ended f status.Ok = f.ok
ended f status.Cancelled = f.cancelled
ended f status.InvalidArgument = f.invalid_argument
ended f status.NotFound = f.not_found
ended f status.PermissionDenied = f.permission_denied
ended f status.ResourceExhausted = f.resource_exhausted
ended f status.Unimplemented = f.unimplemented
ended f status.Internal = f.internal
ended f status.Unavailable = f.unavailable
ended f status.Http = f.http

-- the figures of a method
unfoldable pub figures_of : CallFigures → CallMethod → MethodFigures
figures_of c method.FetchX509Svid = c.x509_svid
figures_of c method.FetchX509Bundles = c.x509_bundles
figures_of c method.FetchJwtSvid = c.jwt_svid
figures_of c method.FetchJwtBundles = c.jwt_bundles
figures_of c method.Check = c.check
figures_of c method.Watch = c.watch
figures_of c method.Unread = c.unread

-- how a sample of a socket and a method begins; the socket's path stands within the quotes already
unfoldable pub begun_sample : Family → List ℕ → CallMethod → List ℕ
begun_sample f socket m =
    name_of f ++ codes "{socket=\"" ++ socket ++ codes "\",method=\"" ++ method_name m ++ codes "\""

-- ---- streams

abbrev pub streams_lines : List SocketFigures → List ℕ
streams_lines [] = []
streams_lines (s ∷ ss) = socket_line family.Streams s s.streams ++ streams_lines ss

-- ---- calls that ended

unfoldable pub ended_line : List ℕ → MethodFigures → CallStatus → List ℕ
ended_line begun f s =
    if ended f s == 0 then []
    else begun ++ codes ",status=\"" ++ status_name s ++ codes "\"}" ++ number_end (ended f s)

unfoldable pub ended_lines : List ℕ → MethodFigures → List ℕ
ended_lines begun f =
    ended_line begun f status.Ok ++ ended_line begun f status.Cancelled
    ++ ended_line begun f status.InvalidArgument ++ ended_line begun f status.NotFound
    ++ ended_line begun f status.PermissionDenied ++ ended_line begun f status.ResourceExhausted
    ++ ended_line begun f status.Unimplemented ++ ended_line begun f status.Internal
    ++ ended_line begun f status.Unavailable ++ ended_line begun f status.Http

unfoldable pub method_lines : List ℕ → CallFigures → CallMethod → List ℕ
method_lines socket c m = ended_lines (begun_sample family.Calls socket m) (figures_of c m)

-- of a socket whose path stands within the quotes already
unfoldable pub calls_of : List ℕ → CallFigures → List ℕ
calls_of socket c =
    method_lines socket c method.FetchX509Svid ++ method_lines socket c method.FetchX509Bundles
    ++ method_lines socket c method.FetchJwtSvid ++ method_lines socket c method.FetchJwtBundles
    ++ method_lines socket c method.Check ++ method_lines socket c method.Watch ++ method_lines socket c method.Unread

abbrev pub calls_lines : List SocketFigures → List ℕ
calls_lines [] = []
calls_lines (s ∷ ss) = calls_of (escaped s.path) s.calls ++ calls_lines ss

-- ---- messages that answered calls

unfoldable pub message_line : List ℕ → CallFigures → CallMethod → List ℕ
message_line socket c m =
    if (figures_of c m).messages == 0 then []
    else begun_sample family.Messages socket m ++ codes "}" ++ number_end (figures_of c m).messages

unfoldable pub messages_of : List ℕ → CallFigures → List ℕ
messages_of socket c =
    message_line socket c method.FetchX509Svid ++ message_line socket c method.FetchX509Bundles
    ++ message_line socket c method.FetchJwtSvid ++ message_line socket c method.FetchJwtBundles
    ++ message_line socket c method.Check ++ message_line socket c method.Watch ++ message_line socket c method.Unread

abbrev pub messages_lines : List SocketFigures → List ℕ
messages_lines [] = []
messages_lines (s ∷ ss) = messages_of (escaped s.path) s.calls ++ messages_lines ss

-- ---- the whole

unfoldable pub calls_part : List SocketFigures → List ℕ
calls_part ss =
    head family.Streams ++ streams_lines ss ++ head family.Calls ++ calls_lines ss
    ++ head family.Messages ++ messages_lines ss
