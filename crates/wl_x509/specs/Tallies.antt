-- What the code keeps of the URIs that it has met: how many there were, and the first.
use Rattle.std.specs.Prelude.{ℕ, ◌+◌, ◌≤◌, ◌==◌, if◌then◌else◌, List, [], ◌∷◌, length, Result, Ok, Err}
use Rattle.wl_entry.specs.declared.unfit.CertFault.{CertFault}
use Rattle.wl_entry.specs.declared.unfit.CertFault.TheVariants.{NoUri, ManyUris}
use Rattle.wl_x509.specs.declared.values.Span.{Span}
use Rattle.wl_x509.specs.declared.names.Uris.{Uris}
use Rattle.wl_x509.specs.declared.parts.Frame.{Frame}
use Rattle.list_laws.specs.Results.{◌>>=◌}
use Rattle.wl_x509.specs.Values.{content}
use Rattle.wl_x509.specs.Leaves.{then_end, frame_of, extensions_part, signature_at}

-- none yet
abbrev pub no_uris : Uris
no_uris = record { count = 0; first = record { start = 0; next = 0 } }

-- one more
abbrev pub met : Uris → Span → Uris
met found uri = record { count = found.count + 1; first = if found.count == 0 then uri else found.first }

abbrev pub tally : Uris → List Span → Uris
tally found [] = found
tally found (uri ∷ uris) = tally (met found uri) uris

-- those that were read beside those that were met before
abbrev pub tallied : Uris → Result (List Span) CertFault → Result Uris CertFault
tallied found read = read >>= λ uris. Ok (tally found uris)

-- and nothing follows them up to the end
abbrev pub ended : Result Uris CertFault → ℕ → ℕ → Result Uris CertFault
ended read at end = read >>= λ found. then_end at end found

-- no more than places up to here, and the first lies in the bytes
pub record IsMet (bytes : List ℕ) (at : ℕ) (found : Uris) : Type 0 where
  pub few : found.count ≤ at
  pub order : found.first.start ≤ found.first.next
  pub within : found.first.next ≤ length bytes

-- the one URI, where there was one
abbrev pub chosen : List ℕ → Uris → Result (List ℕ) CertFault
chosen bytes found = if found.count == 0 then Err NoUri else if found.count == 1 then Ok (content bytes found.first) else Err (ManyUris found.count)

-- what is read of a certificate, except its URI: the frame and the URIs that were met
unfoldable pub found_in : List ℕ → Result (Frame × Uris) CertFault
found_in chain =
    frame_of chain >>= λ frame.
    tallied no_uris (extensions_part chain frame.at frame.body) >>= λ found.
    signature_at chain frame.body frame.whole >>= λ _.
    Ok (frame, found)
