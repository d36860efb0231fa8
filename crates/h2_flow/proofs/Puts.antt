-- What a loop wrote and told so far.
use Rattle.std.proofs.Common.{◌≡◌, ℕ, List, [], ◌++◌, refl, sym, append_assoc, append-nil}
use Rattle.std.proofs.lemmas.Grind.{flat_map-append}
use Rattle.list_laws.specs.Lists.{GainsFront}
use Rattle.list_laws.proofs.Fronts.{gains_before, gains_after}
use Rattle.h2_flow.proofs.Common.{Sent}
use Rattle.h2_flow.specs.Streams.{sent_bytes, ended_by}
use Rattle.h2_flow.specs.Pulls.{bytes_of, ended_of}

pub record Put (done : List Sent) (old new told tells : List ℕ) : Type 0 where
  pub bytes : new ≡ old ++ bytes_of done
  pub ended : tells ≡ told ++ ended_of done

pub put_none : (old told : List ℕ) → Put [] old old told told
put_none old told = record { bytes = sym (append-nil old); ended = sym (append-nil told) }

pub put_more : (done more : List Sent) (old mid new told toldm tells : List ℕ) → Put done old mid told toldm → new ≡ mid ++ bytes_of more → tells ≡ toldm ++ ended_of more → Put (done ++ more) old new told tells
put_more done more old mid new told toldm tells h b e = record {
  bytes = rw (flat_map-append sent_bytes done more, b, h.bytes, append_assoc) refl;
  ended = rw (flat_map-append ended_by done more, e, h.ended, append_assoc) refl;
}

-- memory ran out within what came next
pub front_bytes : (done more rest : List Sent) (old mid new told toldm : List ℕ) → Put done old mid told toldm → GainsFront (bytes_of more) mid new → GainsFront (bytes_of (done ++ (more ++ rest))) old new
front_bytes done more rest old mid new told toldm h g =
    rw (flat_map-append sent_bytes done (more ++ rest), flat_map-append sent_bytes more rest) (gains_after (bytes_of done) (bytes_of more ++ bytes_of rest) old mid new h.bytes (gains_before (bytes_of more) (bytes_of rest) mid new g))

pub front_ended : (done more rest : List Sent) (old mid told toldm tells : List ℕ) → Put done old mid told toldm → GainsFront (ended_of more) toldm tells → GainsFront (ended_of (done ++ (more ++ rest))) told tells
front_ended done more rest old mid told toldm tells h g =
    rw (flat_map-append ended_by done (more ++ rest), flat_map-append ended_by more rest) (gains_after (ended_of done) (ended_of more ++ ended_of rest) told toldm tells h.ended (gains_before (ended_of more) (ended_of rest) toldm tells g))
