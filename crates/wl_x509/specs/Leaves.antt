-- The leaf of a chain: the parts of its first certificate (RFC 5280, section 4.1), read from the first byte on. What is
-- read is a value, or the fault at the first byte where the reading goes wrong. Signatures, constraints and key usage
-- are not judged, and what follows the certificate isn't looked at. `Certificates` has the form of what is read.
use Rattle.std.specs.Prelude.{◌≡◌, ℕ, zero, suc, ◌+◌, ◌-◌, ◌==◌, ◌&&◌, not, nat_lt, nat_le, if◌then◌else◌, List, [], ◌∷◌, ◌++◌, length, slice_index, Option, Some, None, Result, Ok, Err}
use Rattle.std.specs.Str.{bytes_eq}
use Rattle.wl_entry.specs.declared.unfit.CertFault.{CertFault}
use Rattle.wl_entry.specs.declared.unfit.CertFault.TheVariants.{Truncated, Tag, Length, Time, Extra, NoUri, ManyUris, Memory}
use Rattle.wl_entry.specs.declared.unfit.Unfit.{Unfit}
use Rattle.wl_entry.specs.declared.unfit.Unfit.TheVariants as unfit
use Rattle.wl_entry.specs.declared.asks.Ask.{Ask}
use Rattle.wl_entry.specs.declared.signing.Signed.{Signed}
use Rattle.wl_x509.specs.declared.values.Span.{Span}
use Rattle.wl_x509.specs.declared.leaves.Leaf.{Leaf}
use Rattle.wl_x509.specs.declared.parts.Frame.{Frame}
use Rattle.list_laws.specs.Results.{◌>>=◌}
use Rattle.wl_x509.specs.Values.{content, value_at, part_at, option_at}
use Rattle.wl_x509.specs.Times.{short_time, long_time}
use Rattle.wl_x509.specs.Encodings.{AreBytes}
use Rattle.wl_x509.specs.Certificates.{subject_alt_name, IsLeafOf}

-- nothing may follow up to the end
abbrev pub then_end : {A : Type 0} → ℕ → ℕ → A → Result A CertFault
then_end at end said = if nat_lt at end then Err (Extra at) else Ok said

-- ---- the validity (4.1.2.5)

abbrev pub told_time : ℕ → ℕ → Option ℕ → Result (ℕ × ℕ) CertFault
told_time at next (Some seconds) = Ok (seconds, next)
told_time at next None = Err (Time at)

-- a time, a UTCTime (tag 17) or a GeneralizedTime (tag 18), and the place after it
unfoldable pub time_at : List ℕ → ℕ → ℕ → Result (ℕ × ℕ) CertFault
time_at bytes at end =
    if nat_le end at then Err (Truncated end)
    else if slice_index bytes at == 0x17 then (value_at bytes at end >>= λ v. told_time at v.next (short_time (content bytes v)))
    else if slice_index bytes at == 0x18 then (value_at bytes at end >>= λ v. told_time at v.next (long_time (content bytes v)))
    else Err (Tag at)

-- two times and no more
unfoldable pub validity_at : List ℕ → ℕ → ℕ → Result (ℕ × ℕ) CertFault
validity_at bytes at end =
    time_at bytes at end >>= λ before.
    time_at bytes before.1 end >>= λ after.
    then_end after.1 end (before.0, after.0)

-- ---- the names of the subject (4.2.1.6)

-- the URIs (tag 86) among names, which may have any tag (each has two bytes or more, so there are no more of them than
-- bytes)
abbrev pub names_in : ℕ → List ℕ → ℕ → ℕ → Result (List Span) CertFault
names_in zero bytes at end = Ok []
names_in (suc k) bytes at end =
    if nat_le end at then Ok []
    else (value_at bytes at end >>= λ name.
    names_in k bytes name.next end >>= λ later.
    Ok (if slice_index bytes at == 0x86 then name ∷ later else later))

unfoldable pub names_from : List ℕ → ℕ → ℕ → Result (List Span) CertFault
names_from bytes at end = names_in (end - at) bytes at end

-- one list of names and no more
unfoldable pub alternative_names : List ℕ → Span → Result (List Span) CertFault
alternative_names bytes value =
    part_at 0x30 bytes value.start value.next >>= λ names.
    names_from bytes names.start names.next >>= λ uris.
    then_end names.next value.next uris

-- ---- extensions (4.2)

-- the URIs of an extension's value: of another extension none, whatever it is
unfoldable pub uris_of : List ℕ → Span → Span → Result (List Span) CertFault
uris_of bytes id value = if bytes_eq (content bytes id) subject_alt_name then alternative_names bytes value else Ok []

-- an extension: which one, whether it is critical, and its value
unfoldable pub extension_at : List ℕ → ℕ → ℕ → Result (List Span) CertFault
extension_at bytes at end =
    part_at 0x06 bytes at end >>= λ id.
    option_at 0x01 bytes id.next end >>= λ next.
    part_at 0x04 bytes next end >>= λ value.
    uris_of bytes id value >>= λ uris.
    then_end value.next end uris

-- those of all extensions of a list
abbrev pub extensions_in : ℕ → List ℕ → ℕ → ℕ → Result (List Span) CertFault
extensions_in zero bytes at end = Ok []
extensions_in (suc k) bytes at end =
    if nat_le end at then Ok []
    else (part_at 0x30 bytes at end >>= λ extension.
    extension_at bytes extension.start extension.next >>= λ uris.
    extensions_in k bytes extension.next end >>= λ later.
    Ok (uris ++ later))

unfoldable pub extensions_from : List ℕ → ℕ → ℕ → Result (List Span) CertFault
extensions_from bytes at end = extensions_in (end - at) bytes at end

-- one list of extensions and no more
unfoldable pub extension_list : List ℕ → ℕ → ℕ → Result (List Span) CertFault
extension_list bytes at end =
    part_at 0x30 bytes at end >>= λ list.
    extensions_from bytes list.start list.next >>= λ uris.
    then_end list.next end uris

-- the last part of the body, which may be left out
unfoldable pub extensions_part : List ℕ → ℕ → ℕ → Result (List Span) CertFault
extensions_part bytes at end =
    if nat_le end at then Ok []
    else if slice_index bytes at == 0xa3
    then (value_at bytes at end >>= λ part. extension_list bytes part.start part.next >>= λ uris. then_end part.next end uris)
    else Err (Extra at)

-- ---- the certificate (4.1)

-- version, serial number, signature algorithm and issuer, and the place after them
unfoldable pub issuing_at : List ℕ → ℕ → ℕ → Result ℕ CertFault
issuing_at bytes at end =
    option_at 0xa0 bytes at end >>= λ next.
    part_at 0x02 bytes next end >>= λ serial.
    part_at 0x30 bytes serial.next end >>= λ algorithm.
    part_at 0x30 bytes algorithm.next end >>= λ issuer.
    Ok issuer.next

-- subject, public key and two identifiers that may be left out, and the place after them
unfoldable pub subject_at : List ℕ → ℕ → ℕ → Result ℕ CertFault
subject_at bytes at end =
    part_at 0x30 bytes at end >>= λ subject.
    part_at 0x30 bytes subject.next end >>= λ key.
    option_at 0x81 bytes key.next end >>= λ next.
    option_at 0x82 bytes next end

-- the body up to its extensions, in a certificate that ends at a place
unfoldable pub body_at : List ℕ → Span → ℕ → Result Frame CertFault
body_at bytes body whole =
    issuing_at bytes body.start body.next >>= λ next.
    part_at 0x30 bytes next body.next >>= λ validity.
    validity_at bytes validity.start validity.next >>= λ times.
    subject_at bytes validity.next body.next >>= λ at.
    Ok (record { before = times.0; after = times.1; at = at; body = body.next; whole = whole })

-- the first certificate up to there
unfoldable pub frame_of : List ℕ → Result Frame CertFault
frame_of bytes =
    part_at 0x30 bytes 0 (length bytes) >>= λ whole.
    part_at 0x30 bytes whole.start whole.next >>= λ body.
    body_at bytes body whole.next

-- after the body: the signature algorithm, the signature and no more
unfoldable pub signature_at : List ℕ → ℕ → ℕ → Result ℕ CertFault
signature_at bytes at end =
    part_at 0x30 bytes at end >>= λ algorithm.
    part_at 0x03 bytes algorithm.next end >>= λ signature.
    then_end signature.next end end

-- the one URI
abbrev pub one_uri : List ℕ → List Span → Result (List ℕ) CertFault
one_uri bytes [] = Err NoUri
one_uri bytes (uri ∷ []) = Ok (content bytes uri)
one_uri bytes (uri ∷ other ∷ more) = Err (ManyUris (2 + length more))

-- the leaf of a chain (X509-SVID, section 2: one URI, the SPIFFE ID)
unfoldable pub leaf_of : List ℕ → Result Leaf CertFault
leaf_of chain =
    frame_of chain >>= λ frame.
    extensions_part chain frame.at frame.body >>= λ uris.
    signature_at chain frame.body frame.whole >>= λ _.
    one_uri chain uris >>= λ uri.
    Ok (record { uri = uri; not_before = frame.before; not_after = frame.after })

-- ---- what was read, and what a fault says

-- what is read is the leaf of the chain
abbrev pub ReadsLeaves : Type 0
ReadsLeaves = (chain : List ℕ) (leaf : Leaf) → AreBytes chain → leaf_of chain ≡ Ok leaf → IsLeafOf chain leaf

-- and each leaf of a chain is read
abbrev pub ReadsEachLeaf : Type 0
ReadsEachLeaf = (chain : List ℕ) (leaf : Leaf) → IsLeafOf chain leaf → leaf_of chain ≡ Ok leaf

-- a fault is owed what its cause says, unless memory ran out
abbrev pub Refuses : CertFault → Type 0 → Type 0
Refuses Memory due = Unit {0}
Refuses (Truncated at) due = due
Refuses (Tag at) due = due
Refuses (Length at) due = due
Refuses (Time at) due = due
Refuses (Extra at) due = due
Refuses NoUri due = due
Refuses (ManyUris n) due = due

-- ---- whether a signed identity names its ask

-- a leaf that is another's than the ask's, or has other times than the identity
abbrev pub leaf_against : Ask → Signed → Result Leaf CertFault → Option Unfit
leaf_against ask signed (Err fault) = Some (unfit.Cert fault)
leaf_against ask signed (Ok leaf) =
    if not (bytes_eq leaf.uri ask.spiffe_id) then Some (unfit.OtherId ask.spiffe_id leaf.uri)
    else if not ((leaf.not_before == signed.not_before) && (leaf.not_after == signed.not_after)) then Some (unfit.OtherTimes leaf.not_before leaf.not_after)
    else None

-- the first reason that the leaf of the chain gives against the identity
unfoldable pub leaf_reason : Ask → Signed → Option Unfit
leaf_reason ask signed = leaf_against ask signed (leaf_of signed.chain)

-- the leaf of the chain has the ask's id and the identity's times
pub record NamesAsk (ask : Ask) (signed : Signed) : Type 0 where
  pub leaf : IsLeafOf signed.chain (record { uri = ask.spiffe_id; not_before = signed.not_before; not_after = signed.not_after })
