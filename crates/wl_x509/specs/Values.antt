-- Reading one value of DER (ITU-T X.690, sections 8.1 and 10.1): a tag of one byte, a length and content. Places count
-- from the start of the bytes; what holds a value ends at `end`. `Encodings` has the form of a value.
use Rattle.std.specs.Prelude.{ℕ, ◌+◌, ◌*◌, ◌-◌, ◌==◌, nat_lt, nat_le, if◌then◌else◌, List, take, drop, slice_index, Result, Ok, Err}
use Rattle.list_laws.specs.Results.{◌>>=◌}
use Rattle.wl_x509.specs.declared.values.Span.{Span}
use Rattle.wl_entry.specs.declared.unfit.CertFault.{CertFault}
use Rattle.wl_entry.specs.declared.unfit.CertFault.TheVariants.{Truncated, Tag, Length}

-- the bytes of a content
abbrev pub content : List ℕ → Span → List ℕ
content bytes v = take (v.next - v.start) (drop v.start bytes)

-- Content of this length that begins at a place, where it ends in time.
unfoldable pub content_at : ℕ → ℕ → ℕ → ℕ → Result Span CertFault
content_at at end start size = if nat_lt end (start + size) then Err (Truncated at) else Ok (record { start = start; next = start + size })

-- A length of one byte more after the first one, and of two bytes more, in its shortest form: not below 128, and not
-- below 256.
unfoldable pub long_at : List ℕ → ℕ → ℕ → Result Span CertFault
long_at bytes at end =
    if nat_le end (at + 2) then Err (Truncated at)
    else if nat_lt (slice_index bytes (at + 2)) 128 then Err (Length (at + 1))
    else content_at at end (at + 3) (slice_index bytes (at + 2))

unfoldable pub longer_at : List ℕ → ℕ → ℕ → Result Span CertFault
longer_at bytes at end =
    if nat_le end (at + 3) then Err (Truncated at)
    else if slice_index bytes (at + 2) == 0 then Err (Length (at + 1))
    else content_at at end (at + 4) (256 * slice_index bytes (at + 2) + slice_index bytes (at + 3))

-- The value whose tag stands at `at`, by the first byte of its length: below 128 the length itself, 129 (one byte
-- more), or 130 (two bytes more).
unfoldable pub value_at : List ℕ → ℕ → ℕ → Result Span CertFault
value_at bytes at end =
    if nat_le end (at + 1) then Err (Truncated at)
    else if nat_lt (slice_index bytes (at + 1)) 128 then content_at at end (at + 2) (slice_index bytes (at + 1))
    else if slice_index bytes (at + 1) == 129 then long_at bytes at end
    else if slice_index bytes (at + 1) == 130 then longer_at bytes at end
    else Err (Length (at + 1))

-- A part that is due at a place, of this tag.
unfoldable pub part_at : ℕ → List ℕ → ℕ → ℕ → Result Span CertFault
part_at tag bytes at end =
    if nat_le end at then Err (Truncated end)
    else if slice_index bytes at == tag then value_at bytes at end
    else Err (Tag at)

-- A part that may be left out, of this tag: the place after it.
unfoldable pub option_at : ℕ → List ℕ → ℕ → ℕ → Result ℕ CertFault
option_at tag bytes at end =
    if nat_le end at then Ok at
    else if slice_index bytes at == tag then (value_at bytes at end >>= λ v. Ok v.next)
    else Ok at
