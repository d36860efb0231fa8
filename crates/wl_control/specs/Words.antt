-- The words of the client program (own rules).
use Rattle.std.specs.Prelude.{◌≡◌, ◌≤◌, true, false, ℕ, ◌==◌, ◌&&◌, not, Bool, nat_le, if◌then◌else◌, List, [], ◌∷◌, length, codes, Option, Some, None, IfSome, is_some, option_map, option_and_then}
use Rattle.std.specs.Str.{bytes_eq}
use Rattle.std.specs.List.{list_all}
use Rattle.decimal_text.specs.Decimals.{number_up_to}
use Rattle.spiffe_id.specs.Faults.{id_fault}
use Rattle.spiffe_id.specs.declared.finding.TheConstants.{MAX_ID_LEN}
use Rattle.clap_words.specs.Operands.{operands}
use Rattle.wl_control.specs.Choices.{choices_from, others_from}
use Rattle.wl_control.specs.declared.choices.Place.TheVariants.{Front}
use Rattle.wl_control.specs.declared.words.TheConstants.{MAX_COUNT, ENDLESS, MAX_AUDIENCES, MAX_WORD_LEN}
use Rattle.wl_control.specs.declared.request.Form.TheVariants as form
use Rattle.wl_control.specs.declared.request.TokenForm.{TokenForm}
use Rattle.wl_control.specs.declared.request.TokenForm.TheVariants as token
use Rattle.wl_control.specs.declared.request.TokenAsk.{TokenAsk}
use Rattle.wl_control.specs.declared.request.Choice.{Choice}
use Rattle.wl_control.specs.declared.request.Choice.TheVariants.{Pem, Json, Decode, Id}
use Rattle.wl_control.specs.declared.request.Request.{Request}
use Rattle.wl_control.specs.declared.request.Request.TheVariants.{FetchX509, FetchBundles, FetchJwt, FetchJwtBundles, Watch, Keep, KeepBundles, Health, HealthWatch}

abbrev pub at_least_one : Option ℕ → Option ℕ
at_least_one None = None
at_least_one (Some n) = if n == 0 then None else Some n

-- a number from 1 to the most: an optional `+` and digits
abbrev pub count_in : List ℕ → Option ℕ
count_in [] = None
count_in (b ∷ bytes) = at_least_one (number_up_to MAX_COUNT (if b == 43 then bytes else b ∷ bytes))

-- ---- what is asked for

abbrev pub is_audience : List ℕ → Bool
is_audience w = nat_le 1 (length w) && nat_le (length w) MAX_WORD_LEN

-- `fetch jwt AUDIENCE..`
abbrev pub jwt_of : List (List ℕ) → Option Request
jwt_of ws = if nat_le 1 (length ws) && (nat_le (length ws) MAX_AUDIENCES && list_all is_audience ws) then Some (FetchJwt (record { audiences = ws; id = None; form = token.Lines; is_decoded = false })) else None

abbrev pub x509_of : List (List ℕ) → Option Request
x509_of [] = Some (FetchX509 form.Lines)
x509_of (w ∷ ws) = None

abbrev pub bundles_of : List (List ℕ) → Option Request
bundles_of [] = Some (FetchBundles form.Lines)
bundles_of (w ∷ ws) = None

abbrev pub jwt_bundles_of : List (List ℕ) → Option Request
jwt_bundles_of [] = Some (FetchJwtBundles token.Lines)
jwt_bundles_of (w ∷ ws) = None

abbrev pub fetch_of : List (List ℕ) → Option Request
fetch_of [] = None
fetch_of (w ∷ ws) =
    if bytes_eq w (codes "x509") then x509_of ws
    else if bytes_eq w (codes "bundles") then bundles_of ws
    else if bytes_eq w (codes "jwt") then jwt_of ws
    else if bytes_eq w (codes "jwt-bundles") then jwt_bundles_of ws
    else None

-- `watch COUNT`, `health-watch COUNT`
abbrev pub count_of : (ℕ → Request) → List (List ℕ) → Option Request
count_of request [] = None
count_of request (w ∷ []) = option_map request (count_in w)
count_of request (w ∷ v ∷ ws) = None

-- `watch`, which has no end, and `watch COUNT`
abbrev pub watch_of : List (List ℕ) → Option Request
watch_of [] = Some (Watch ENDLESS)
watch_of (w ∷ ws) = count_of Watch (w ∷ ws)

-- `health`, `health SERVICE`
abbrev pub health_of : List (List ℕ) → Option Request
health_of [] = Some (Health [])
health_of (w ∷ []) = if nat_le (length w) MAX_WORD_LEN then Some (Health w) else None
health_of (w ∷ v ∷ ws) = None

abbrev pub request_by : List ℕ → List (List ℕ) → Option Request
request_by w ws =
    if bytes_eq w (codes "fetch") then fetch_of ws
    else if bytes_eq w (codes "watch") then watch_of ws
    else if bytes_eq w (codes "health") then health_of ws
    else if bytes_eq w (codes "health-watch") then count_of HealthWatch ws
    else None

-- what these words ask for, among which are no options, where they fit something
unfoldable pub command_of : List (List ℕ) → Option Request
command_of [] = None
command_of (w ∷ ws) = option_and_then (request_by w) (operands ws)

-- ---- the options

-- certificates may be PEM
abbrev pub in_pem : Request → Option Request
in_pem (FetchX509 form.Lines) = Some (FetchX509 form.Pem)
in_pem (FetchBundles form.Lines) = Some (FetchBundles form.Pem)
in_pem _ = None

-- what is fetched may be JSON
abbrev pub as_json : TokenForm → Option TokenForm
as_json token.Lines = Some token.Json
as_json token.Json = None

abbrev pub in_json : Request → Option Request
in_json (FetchX509 form.Lines) = Some (FetchX509 form.Json)
in_json (FetchBundles form.Lines) = Some (FetchBundles form.Json)
in_json (FetchJwt a) = option_map (λ f. FetchJwt (record a { form = f })) (as_json a.form)
in_json (FetchJwtBundles f) = option_map FetchJwtBundles (as_json f)
in_json _ = None

-- tokens may be decoded
abbrev pub decoded : Request → Option Request
decoded (FetchJwt a) = if a.is_decoded then None else Some (FetchJwt (record a { is_decoded = true }))
decoded _ = None

-- a SPIFFE ID (SPIFFE-ID, section 2; of at most 2,048 bytes)
abbrev pub is_id : List ℕ → Bool
is_id w = not (is_some (id_fault w))

-- tokens may be asked for one id
abbrev pub of_id : List ℕ → Request → Option Request
of_id w (FetchJwt a) = if not (is_some a.id) && is_id w then Some (FetchJwt (record a { id = Some w })) else None
of_id w _ = None

abbrev pub with_choice : Choice → Request → Option Request
with_choice Pem q = in_pem q
with_choice Json q = in_json q
with_choice Decode q = decoded q
with_choice (Id w) q = of_id w q

-- each of them is chosen once at most, and at most one of PEM and JSON
abbrev pub with_choices : List Choice → Request → Option Request
with_choices [] q = Some q
with_choices (c ∷ choices) q = option_and_then (with_choices choices) (with_choice c q)

-- what these words ask for, where they fit something
unfoldable pub request_of : List (List ℕ) → Option Request
request_of ws = option_and_then (with_choices (choices_from Front ws)) (command_of (others_from Front ws))

-- a request whose words are as short as they may be
abbrev pub IsFit : Request → Type 0
IsFit (FetchX509 f) = Unit {0}
IsFit (FetchBundles f) = Unit {0}
IsFit (FetchJwtBundles f) = Unit {0}
IsFit (FetchJwt a) = (length a.audiences ≤ MAX_AUDIENCES) × (list_all is_audience a.audiences ≡ true) × IfSome a.id (λ id. length id ≤ MAX_ID_LEN)
IsFit (Watch count) = Unit {0}
IsFit (Keep count) = Unit {0}
IsFit (KeepBundles kind) = Unit {0}
IsFit (Health service) = length service ≤ MAX_WORD_LEN
IsFit (HealthWatch count) = Unit {0}
