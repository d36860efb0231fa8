-- The header lists of answers are small.
use Rattle.std.proofs.Common.{ℕ, ◌<◌, ◌≤◌, Bool, true, false, [], length, arith}
use Rattle.std.specs.Prelude.{decimal}
use Rattle.std.proofs.lemmas.Fmt.{length-decimal-le}
use Rattle.hpack.specs.Tables.{list_size}
use Rattle.wl_session.proofs.Common.{response_fields, trailer_fields, refused_fields, Refusal, NoIdentity, LongResponse, Unsigned, Unattested, UnknownService}
use Rattle.grpc_wire.specs.Answers.{percent_encoded}
use Rattle.grpc_wire.specs.declared.refusal.Refusal.TheVariants.{BadMethod, BadContent, UnknownPath, Compressed, Insecure, Flag, LongRequest, Count, Undecodable, NoAudience, BadId}

-- a status has at most three digits
short : (n : ℕ) → n < 1000 → length (decimal n) ≤ 3
short n small = length-decimal-le 3 n (omega arith) (omega (arith, small)) (omega (arith, small))

pub small_head : list_size response_fields ≤ 16384
unfolding list_size response_fields
small_head = omega arith

pub small_trailers : list_size (trailer_fields 0 [] false) ≤ 16384
unfolding list_size trailer_fields
small_trailers = omega (arith, short 0 (omega arith))

small_first : (r : Refusal) → list_size (refused_fields r true) ≤ 16384
unfolding list_size refused_fields trailer_fields response_fields percent_encoded
small_first BadMethod = omega (arith, short 405 (omega arith))
small_first BadContent = omega (arith, short 415 (omega arith))
small_first UnknownPath = omega (arith, short 12 (omega arith))
small_first Compressed = omega (arith, short 12 (omega arith))
small_first Insecure = omega (arith, short 3 (omega arith))
small_first Flag = omega (arith, short 13 (omega arith))
small_first LongRequest = omega (arith, short 8 (omega arith))
small_first Count = omega (arith, short 13 (omega arith))
small_first Undecodable = omega (arith, short 13 (omega arith))
small_first NoAudience = omega (arith, short 3 (omega arith))
small_first BadId = omega (arith, short 3 (omega arith))
small_first NoIdentity = omega (arith, short 7 (omega arith))
small_first LongResponse = omega (arith, short 8 (omega arith))
small_first Unsigned = omega (arith, short 14 (omega arith))
small_first Unattested = omega (arith, short 14 (omega arith))
small_first UnknownService = omega (arith, short 5 (omega arith))

small_later : (r : Refusal) → list_size (refused_fields r false) ≤ 16384
unfolding list_size refused_fields trailer_fields response_fields percent_encoded
small_later BadMethod = omega (arith, short 405 (omega arith))
small_later BadContent = omega (arith, short 415 (omega arith))
small_later UnknownPath = omega (arith, short 12 (omega arith))
small_later Compressed = omega (arith, short 12 (omega arith))
small_later Insecure = omega (arith, short 3 (omega arith))
small_later Flag = omega (arith, short 13 (omega arith))
small_later LongRequest = omega (arith, short 8 (omega arith))
small_later Count = omega (arith, short 13 (omega arith))
small_later Undecodable = omega (arith, short 13 (omega arith))
small_later NoAudience = omega (arith, short 3 (omega arith))
small_later BadId = omega (arith, short 3 (omega arith))
small_later NoIdentity = omega (arith, short 7 (omega arith))
small_later LongResponse = omega (arith, short 8 (omega arith))
small_later Unsigned = omega (arith, short 14 (omega arith))
small_later Unattested = omega (arith, short 14 (omega arith))
small_later UnknownService = omega (arith, short 5 (omega arith))

pub small_refusal : (r : Refusal) (alone : Bool) → list_size (refused_fields r alone) ≤ 16384
small_refusal r true = small_first r
small_refusal r false = small_later r
