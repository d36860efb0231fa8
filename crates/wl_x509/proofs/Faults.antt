-- No reading says that memory ran out.
use Rattle.std.specs.Prelude.{◌≡◌, ℕ, zero, suc, ◌+◌, ◌-◌, ◌*◌, ◌==◌, nat_lt, nat_le, Bool, true, false, if◌then◌else◌, List, [], ◌∷◌, ◌++◌, length, slice_index, Option, Some, None, Result, Ok, Err}
use Rattle.std.specs.Str.{bytes_eq}
use Rattle.wl_x509.proofs.Common.{CertFault, Truncated, Length, Extra, ManyUris, Span, Leaf, Frame, ◌>>=◌, content, value_at, part_at, option_at, short_time, long_time, subject_alt_name, then_end, time_at, validity_at, names_in, names_from, alternative_names, uris_of, extension_at, extensions_in, extensions_from, extension_list, extensions_part, issuing_at, subject_at, body_at, frame_of, signature_at, one_uri, leaf_of}
use Rattle.wl_entry.specs.declared.unfit.CertFault.TheVariants.{Tag, Time, NoUri, Memory}
use Rattle.wl_x509.specs.Values.{content_at, long_at, longer_at}
use Rattle.wl_x509.specs.Leaves.{told_time}

-- a fault is another one
abbrev Clear : {A : Type 0} → Result A CertFault → Type 0
Clear (Ok x) = Unit {0}
Clear (Err e) = e ≡ Memory → ⊥

bind : {A B : Type 0} (r : Result A CertFault) (f : A → Result B CertFault) → Clear r → ((x : A) → Clear (f x)) → Clear (r >>= f)
bind (Ok x) f clear next = next x
bind (Err e) f clear next = clear

choice : {A : Type 0} (b : Bool) (x y : Result A CertFault) → Clear x → Clear y → Clear (if b then x else y)
choice true x y one other = one
choice false x y one other = other

truncated : (n : ℕ) → Truncated n ≡ Memory → ⊥
truncated n is = cc is

tag : (n : ℕ) → Tag n ≡ Memory → ⊥
tag n is = cc is

wrong_length : (n : ℕ) → Length n ≡ Memory → ⊥
wrong_length n is = cc is

extra : (n : ℕ) → Extra n ≡ Memory → ⊥
extra n is = cc is

no_time : (n : ℕ) → Time n ≡ Memory → ⊥
no_time n is = cc is

no_uri : NoUri ≡ Memory → ⊥
no_uri is = cc is

many_uris : (n : ℕ) → ManyUris n ≡ Memory → ⊥
many_uris n is = cc is

-- ---- values

content_clear : (at end start size : ℕ) → Clear (content_at at end start size)
unfolding content_at
content_clear at end start size = choice (nat_lt end (start + size)) (Err (Truncated at)) _ (truncated at) tt

long_clear : (bytes : List ℕ) (at end : ℕ) → Clear (long_at bytes at end)
unfolding long_at
long_clear bytes at end = choice (nat_le end (at + 2)) _ _ (truncated at) (choice (nat_lt (slice_index bytes (at + 2)) 128) _ _ (wrong_length (at + 1)) (content_clear at end (at + 3) (slice_index bytes (at + 2))))

longer_clear : (bytes : List ℕ) (at end : ℕ) → Clear (longer_at bytes at end)
unfolding longer_at
longer_clear bytes at end = choice (nat_le end (at + 3)) _ _ (truncated at) (choice (slice_index bytes (at + 2) == 0) _ _ (wrong_length (at + 1)) (content_clear at end (at + 4) (256 * slice_index bytes (at + 2) + slice_index bytes (at + 3))))

value_clear : (bytes : List ℕ) (at end : ℕ) → Clear (value_at bytes at end)
unfolding value_at
value_clear bytes at end =
    choice (nat_le end (at + 1)) _ _ (truncated at)
    (choice (nat_lt (slice_index bytes (at + 1)) 128) _ _ (content_clear at end (at + 2) (slice_index bytes (at + 1)))
    (choice (slice_index bytes (at + 1) == 129) _ _ (long_clear bytes at end)
    (choice (slice_index bytes (at + 1) == 130) _ _ (longer_clear bytes at end) (wrong_length (at + 1)))))

part_clear : (t : ℕ) (bytes : List ℕ) (at end : ℕ) → Clear (part_at t bytes at end)
unfolding part_at
part_clear t bytes at end = choice (nat_le end at) _ _ (truncated end) (choice (slice_index bytes at == t) _ _ (value_clear bytes at end) (tag at))

option_clear : (t : ℕ) (bytes : List ℕ) (at end : ℕ) → Clear (option_at t bytes at end)
unfolding option_at
option_clear t bytes at end = choice (nat_le end at) (Ok at) _ tt (choice (slice_index bytes at == t) _ (Ok at) (bind (value_at bytes at end) _ (value_clear bytes at end) (λ v. tt)) tt)

end_clear : {A : Type 0} (at end : ℕ) (said : A) → Clear (then_end at end said)
end_clear at end said = choice (nat_lt at end) (Err (Extra at)) (Ok said) (extra at) tt

-- ---- times

told_clear : (at next : ℕ) (o : Option ℕ) → Clear (told_time at next o)
told_clear at next (Some seconds) = tt
told_clear at next None = no_time at

time_clear : (bytes : List ℕ) (at end : ℕ) → Clear (time_at bytes at end)
unfolding time_at
time_clear bytes at end =
    choice (nat_le end at) _ _ (truncated end)
    (choice (slice_index bytes at == 0x17) _ _ (bind (value_at bytes at end) _ (value_clear bytes at end) (λ v. told_clear at v.next (short_time (content bytes v))))
    (choice (slice_index bytes at == 0x18) _ _ (bind (value_at bytes at end) _ (value_clear bytes at end) (λ v. told_clear at v.next (long_time (content bytes v)))) (tag at)))

validity_clear : (bytes : List ℕ) (at end : ℕ) → Clear (validity_at bytes at end)
unfolding validity_at
validity_clear bytes at end = bind (time_at bytes at end) _ (time_clear bytes at end) (λ before. bind (time_at bytes before.1 end) _ (time_clear bytes before.1 end) (λ after. end_clear after.1 end (before.0, after.0)))

-- ---- names and extensions

names_clear : (k : ℕ) (bytes : List ℕ) (at end : ℕ) → Clear (names_in k bytes at end)
names_clear zero bytes at end = tt
names_clear (suc k) bytes at end =
    choice (nat_le end at) (Ok []) _ tt (bind (value_at bytes at end) _ (value_clear bytes at end) (λ name. bind (names_in k bytes name.next end) _ (names_clear k bytes name.next end) (λ later. tt)))

alternatives_clear : (bytes : List ℕ) (value : Span) → Clear (alternative_names bytes value)
unfolding alternative_names names_from
alternatives_clear bytes value =
    bind (part_at 0x30 bytes value.start value.next) _ (part_clear 0x30 bytes value.start value.next)
    (λ names. bind (names_in (names.next - names.start) bytes names.start names.next) _ (names_clear (names.next - names.start) bytes names.start names.next) (λ uris. end_clear names.next value.next uris))

uris_clear : (bytes : List ℕ) (id value : Span) → Clear (uris_of bytes id value)
unfolding uris_of
uris_clear bytes id value = choice (bytes_eq (content bytes id) subject_alt_name) _ (Ok []) (alternatives_clear bytes value) tt

extension_clear : (bytes : List ℕ) (at end : ℕ) → Clear (extension_at bytes at end)
unfolding extension_at
extension_clear bytes at end =
    bind (part_at 0x06 bytes at end) _ (part_clear 0x06 bytes at end) (λ id.
    bind (option_at 0x01 bytes id.next end) _ (option_clear 0x01 bytes id.next end) (λ next.
    bind (part_at 0x04 bytes next end) _ (part_clear 0x04 bytes next end) (λ value.
    bind (uris_of bytes id value) _ (uris_clear bytes id value) (λ uris. end_clear value.next end uris))))

extensions_clear : (k : ℕ) (bytes : List ℕ) (at end : ℕ) → Clear (extensions_in k bytes at end)
extensions_clear zero bytes at end = tt
extensions_clear (suc k) bytes at end =
    choice (nat_le end at) (Ok []) _ tt (bind (part_at 0x30 bytes at end) _ (part_clear 0x30 bytes at end) (λ extension.
    bind (extension_at bytes extension.start extension.next) _ (extension_clear bytes extension.start extension.next) (λ uris.
    bind (extensions_in k bytes extension.next end) _ (extensions_clear k bytes extension.next end) (λ later. tt))))

list_clear : (bytes : List ℕ) (at end : ℕ) → Clear (extension_list bytes at end)
unfolding extension_list extensions_from
list_clear bytes at end =
    bind (part_at 0x30 bytes at end) _ (part_clear 0x30 bytes at end) (λ list.
    bind (extensions_in (list.next - list.start) bytes list.start list.next) _ (extensions_clear (list.next - list.start) bytes list.start list.next) (λ uris. end_clear list.next end uris))

extensions_part_clear : (bytes : List ℕ) (at end : ℕ) → Clear (extensions_part bytes at end)
unfolding extensions_part
extensions_part_clear bytes at end =
    choice (nat_le end at) (Ok []) _ tt (choice (slice_index bytes at == 0xa3) _ _
    (bind (value_at bytes at end) _ (value_clear bytes at end) (λ part. bind (extension_list bytes part.start part.next) _ (list_clear bytes part.start part.next) (λ uris. end_clear part.next end uris))) (extra at))

-- ---- the certificate

issuing_clear : (bytes : List ℕ) (at end : ℕ) → Clear (issuing_at bytes at end)
unfolding issuing_at
issuing_clear bytes at end =
    bind (option_at 0xa0 bytes at end) _ (option_clear 0xa0 bytes at end) (λ next.
    bind (part_at 0x02 bytes next end) _ (part_clear 0x02 bytes next end) (λ serial.
    bind (part_at 0x30 bytes serial.next end) _ (part_clear 0x30 bytes serial.next end) (λ algorithm.
    bind (part_at 0x30 bytes algorithm.next end) _ (part_clear 0x30 bytes algorithm.next end) (λ issuer. tt))))

subject_clear : (bytes : List ℕ) (at end : ℕ) → Clear (subject_at bytes at end)
unfolding subject_at
subject_clear bytes at end =
    bind (part_at 0x30 bytes at end) _ (part_clear 0x30 bytes at end) (λ subject.
    bind (part_at 0x30 bytes subject.next end) _ (part_clear 0x30 bytes subject.next end) (λ key.
    bind (option_at 0x81 bytes key.next end) _ (option_clear 0x81 bytes key.next end) (λ next. option_clear 0x82 bytes next end)))

body_clear : (bytes : List ℕ) (body : Span) (whole : ℕ) → Clear (body_at bytes body whole)
unfolding body_at
body_clear bytes body whole =
    bind (issuing_at bytes body.start body.next) _ (issuing_clear bytes body.start body.next) (λ next.
    bind (part_at 0x30 bytes next body.next) _ (part_clear 0x30 bytes next body.next) (λ validity.
    bind (validity_at bytes validity.start validity.next) _ (validity_clear bytes validity.start validity.next) (λ times.
    bind (subject_at bytes validity.next body.next) _ (subject_clear bytes validity.next body.next) (λ at. tt))))

frame_clear : (bytes : List ℕ) → Clear (frame_of bytes)
unfolding frame_of
frame_clear bytes =
    bind (part_at 0x30 bytes 0 (length bytes)) _ (part_clear 0x30 bytes 0 (length bytes)) (λ whole.
    bind (part_at 0x30 bytes whole.start whole.next) _ (part_clear 0x30 bytes whole.start whole.next) (λ body. body_clear bytes body whole.next))

signature_clear : (bytes : List ℕ) (at end : ℕ) → Clear (signature_at bytes at end)
unfolding signature_at
signature_clear bytes at end =
    bind (part_at 0x30 bytes at end) _ (part_clear 0x30 bytes at end) (λ algorithm.
    bind (part_at 0x03 bytes algorithm.next end) _ (part_clear 0x03 bytes algorithm.next end) (λ signature. end_clear signature.next end end))

one_clear : (bytes : List ℕ) (uris : List Span) → Clear (one_uri bytes uris)
one_clear bytes [] = no_uri
one_clear bytes (uri ∷ []) = tt
one_clear bytes (uri ∷ other ∷ more) = many_uris (2 + length more)

leaf_clear : (chain : List ℕ) → Clear (leaf_of chain)
unfolding leaf_of
leaf_clear chain =
    bind (frame_of chain) _ (frame_clear chain) (λ frame.
    bind (extensions_part chain frame.at frame.body) _ (extensions_part_clear chain frame.at frame.body) (λ uris.
    bind (signature_at chain frame.body frame.whole) _ (signature_clear chain frame.body frame.whole) (λ after.
    bind (one_uri chain uris) _ (one_clear chain uris) (λ uri. tt))))

clear_is : {A : Type 0} (r : Result A CertFault) → Clear r → r ≡ Err Memory → ⊥
clear_is (Ok x) clear is = cc is
clear_is (Err e) clear is = clear (let same : e ≡ Memory = cc is in same)

pub never_memory : (chain : List ℕ) → leaf_of chain ≡ Err Memory → ⊥
never_memory chain is = clear_is (leaf_of chain) (leaf_clear chain) is
