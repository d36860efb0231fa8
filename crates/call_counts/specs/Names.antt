-- Names of methods (SPIFFE Workload API, workload.proto; gRPC Health Checking Protocol) and of statuses (gRPC, 'Status codes and their use in gRPC'). `unread` and `HTTP` are own rules.
use Rattle.std.specs.Prelude.{ℕ, List, codes}
use Rattle.call_counts.specs.declared.labels.CallMethod.{CallMethod}
use Rattle.call_counts.specs.declared.labels.CallMethod.TheVariants as method
use Rattle.call_counts.specs.declared.labels.CallStatus.{CallStatus}
use Rattle.call_counts.specs.declared.labels.CallStatus.TheVariants as status

unfoldable pub method_name : CallMethod → List ℕ
method_name method.FetchX509Svid = codes "FetchX509SVID"
method_name method.FetchX509Bundles = codes "FetchX509Bundles"
method_name method.FetchJwtSvid = codes "FetchJWTSVID"
method_name method.FetchJwtBundles = codes "FetchJWTBundles"
method_name method.Check = codes "Check"
method_name method.Watch = codes "Watch"
method_name method.Unread = codes "unread"

unfoldable pub status_name : CallStatus → List ℕ
status_name status.Ok = codes "OK"
status_name status.Cancelled = codes "CANCELLED"
status_name status.InvalidArgument = codes "INVALID_ARGUMENT"
status_name status.NotFound = codes "NOT_FOUND"
status_name status.PermissionDenied = codes "PERMISSION_DENIED"
status_name status.ResourceExhausted = codes "RESOURCE_EXHAUSTED"
status_name status.Unimplemented = codes "UNIMPLEMENTED"
status_name status.Internal = codes "INTERNAL"
status_name status.Unavailable = codes "UNAVAILABLE"
status_name status.Http = codes "HTTP"
