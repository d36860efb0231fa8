-- The header blocks of answers are short.
use Rattle.std.proofs.Common.{◌<◌, Bool, false, [], length}
use Rattle.wl_heard.proofs.Common.{block_bytes, response_fields, trailer_fields, refused_fields, Refusal, small_head, small_trailers, small_refusal}
use Rattle.hpack.proofs.Lengths.{block_small}

pub head_short : length (block_bytes response_fields) < 16384
head_short = block_small response_fields small_head

pub last_short : length (block_bytes (trailer_fields 0 [] false)) < 16384
last_short = block_small (trailer_fields 0 [] false) small_trailers

pub refusal_short : (r : Refusal) (alone : Bool) → length (block_bytes (refused_fields r alone)) < 16384
refusal_short r alone = block_small (refused_fields r alone) (small_refusal r alone)
