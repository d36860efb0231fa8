-- The message of a request is short.
use Rattle.std.proofs.Common.{◌≡◌, ℕ, ◌+◌, ◌*◌, ◌/◌, ◌<◌, ◌≤◌, Bool, true, false, ◌&&◌, List, [], ◌∷◌, ◌++◌, length, length-append, Option, Some, None, IfSome, inl, inr, arith, refl}
use Rattle.std.proofs.lemmas.Bool.{cases_lt}
use Rattle.std.proofs.lemmas.Grind.{common_steps}
use Rattle.std.specs.List.{flat_map, list_all}
use Rattle.pb_wire.specs.Spelling.{field, optional_field}
use Rattle.pb_wire.specs.Varint.{varint}
use Rattle.pb_wire.proofs.Varints.{varint-small, varint-more}
use Rattle.wl_control.specs.declared.request.TokenAsk.{TokenAsk}
use Rattle.wl_control.specs.declared.request.Request.{Request}
use Rattle.wl_control.specs.declared.request.Request.TheVariants.{FetchX509, FetchBundles, FetchJwt, FetchJwtBundles, Watch, Keep, KeepBundles, Health, HealthWatch}
use Rattle.wl_control.specs.Words.{is_audience, IsFit}
use Rattle.wl_control.specs.Calls.{id_field, token_message, message_of}

short_varint : (n : ℕ) → n < 16384 → length (varint n) ≤ 2
short_varint n lt =
    elim (cases_lt n 128) [
      | inl small ↦ rw (varint-small n small) (omega arith)
      | inr le ↦ rw (varint-more n le, varint-small (n / 128) (omega arith)) (omega arith)
    ]

-- a field of number 1 or 2, whose key is one byte
field_most : (key : ℕ) (w : List ℕ) → key < 128 → length w < 16384 → length ((varint key ++ varint (length w)) ++ w) ≤ 3 + length w
field_most key w small short =
    rw (varint-small key small) (omega (arith, short_varint (length w) short, length-append (key ∷ varint (length w)) w))

-- a word of 1 to 200 bytes
is_short : (w : List ℕ) → is_audience w ≡ true → length w ≤ 200
is_short w is = grind (arith, common_steps)

both : (a b : Bool) → (a && b) ≡ true → (a ≡ true) × (b ≡ true)
both true b e = (refl, e)
both false b e = absurd (cc e)

audience_most : (w : List ℕ) → length w ≤ 200 → length (field 1 w) ≤ 203
audience_most w short = omega (arith, field_most 10 w (omega arith) (omega arith))

audiences_most : (ws : List (List ℕ)) → list_all is_audience ws ≡ true → length (flat_map (field 1) ws) ≤ 203 * length ws
audiences_most [] all = omega arith
audiences_most (w ∷ ws) all =
    let b = both (is_audience w) (list_all is_audience ws) all in
    omega (arith, audience_most w (is_short w b.0), audiences_most ws b.1, length-append (field 1 w) (flat_map (field 1) ws))

id_most : (id : Option (List ℕ)) → IfSome id (λ i. length i ≤ 2048) → length (id_field id) ≤ 2051
id_most None short = omega arith
id_most (Some id) short = omega (arith, field_most 18 id (omega arith) (omega arith))

token_most : (ask : TokenAsk) → IsFit (FetchJwt ask) → length (token_message ask) ≤ 16000
unfolding token_message
token_most ask fit =
    omega (arith, fit.0, audiences_most ask.audiences fit.1, id_most ask.id fit.2, length-append (flat_map (field 1) ask.audiences) (id_field ask.id))

service_most : (s : List ℕ) → length s ≤ 200 → length (optional_field 1 s) ≤ 220
service_most [] short = omega arith
service_most (b ∷ bytes) short = omega (arith, audience_most (b ∷ bytes) short)

pub message_short : (q : Request) → IsFit q → length (message_of q) ≤ 16000
unfolding message_of
message_short (FetchX509 form) fit = omega arith
message_short (FetchBundles form) fit = omega arith
message_short (FetchJwtBundles form) fit = omega arith
message_short (FetchJwt ask) fit = token_most ask fit
message_short (Watch count) fit = omega arith
message_short (Keep count) fit = omega arith
message_short (KeepBundles kind) fit = omega arith
message_short (Health service) fit = omega (arith, service_most service fit)
message_short (HealthWatch count) fit = omega arith
