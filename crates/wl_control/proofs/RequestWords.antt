-- The words that are a request for clap are those that fit a command, and its operands are the command's.
use Rattle.std.specs.Prelude.{◌≡◌, ◌⊎◌, ℕ, ◌&&◌, Bool, true, false, nat_le, if◌then◌else◌, List, [], ◌∷◌, length, codes, Option, Some, None, IfSome, option_map, option_and_then}
use Rattle.std.specs.Str.{bytes_eq}
use Rattle.std.specs.List.{list_all}
use Rattle.std.proofs.Common.{arith, refl, sym, ◌∙◌, ap, inl, inr}
use Rattle.clap_words.specs.Operands.{operands}
use Rattle.control_words.specs.Requests as words
use Rattle.wl_control.specs.declared.request.Request.{Request}
use Rattle.wl_control.specs.declared.request.Request.TheVariants.{FetchJwt, HealthWatch}
use Rattle.wl_control.specs.declared.request.TokenForm.TheVariants as token
use Rattle.wl_control.specs.declared.request.TokenAsk.{TokenAsk}
use Rattle.wl_control.specs.declared.request.Choice.{Choice}
use Rattle.wl_control.specs.declared.choices.Place.TheVariants.{Front}
use Rattle.clap.specs.declared.error.Error.{Error}
use Rattle.wl_control.specs.declared.words.NoRequest.{NoRequest}
use Rattle.wl_control.specs.declared.words.NoRequest.TheVariants.{Memory, Unfit}
use Rattle.wl_control.specs.Words.{is_audience, jwt_of, x509_of, bundles_of, jwt_bundles_of, fetch_of, count_of, watch_of, health_of, request_by, command_of, with_choices, request_of}
use Rattle.wl_control.specs.Choices.{choices_from, others_from}

abbrev pub Texts : Type 0
Texts = List (List ℕ)

-- ---- operands that fit are the command's

abbrev AreThese : Texts → Option Texts → Type 0
AreThese xs o = IfSome o (λ ys. ys ≡ xs)

either : (b : Bool) (xs : Texts) (x y : Option Texts) → AreThese xs x → AreThese xs y → AreThese xs (if b then x else y)
either true xs x y first second = first
either false xs x y first second = second

some_are : (b : Bool) (xs : Texts) → AreThese xs (if b then Some xs else None)
some_are true xs = refl
some_are false xs = tt

one_is : (xs : Texts) → AreThese xs (words.one_of xs)
one_is [] = tt
one_is (a ∷ []) = refl
one_is (a ∷ b ∷ xs) = tt

at_most_one_is : (xs : Texts) → AreThese xs (words.at_most_one_of xs)
at_most_one_is [] = refl
at_most_one_is (a ∷ []) = refl
at_most_one_is (a ∷ b ∷ xs) = tt

fitting_are : (w : List ℕ) (xs : Texts) → AreThese xs (words.fitting w xs)
fitting_are w xs =
    either (bytes_eq w (codes "fetch")) xs _ _ (some_are (nat_le 1 (length xs) && nat_le (length xs) 65) xs)
    (either (bytes_eq w (codes "watch")) xs _ _ (at_most_one_is xs)
    (either (bytes_eq w (codes "health")) xs _ _ (at_most_one_is xs)
    (either (bytes_eq w (codes "health-watch")) xs _ _ (one_is xs) tt)))

asked_by : (w n : List ℕ) (xs ops : Texts) (o : Option Texts) → AreThese xs o → option_map {U = List ℕ × List (List ℕ)} (λ ys. (w, ys)) o ≡ Some (n, ops) → request_by w xs ≡ request_by n ops
asked_by w n xs ops None these is = absurd (grind (arith, is))
asked_by w n xs ops (Some ys) these is =
    let name : w ≡ n = grind (arith, is) in
    let texts : ys ≡ ops = grind (arith, is) in
    ap (λ l. request_by w l) (sym these ∙ texts) ∙ ap (λ l. request_by l ops) name

fits_by : (w n : List ℕ) (ops : Texts) (o : Option Texts) → option_map {U = List ℕ × List (List ℕ)} (λ ys. (w, ys)) (option_and_then (words.fitting w) o) ≡ Some (n, ops) → option_and_then (request_by w) o ≡ request_by n ops
fits_by w n ops None is = absurd (grind (arith, is))
fits_by w n ops (Some xs) is = asked_by w n xs ops (words.fitting w xs) (fitting_are w xs) is

request_fits : (ws : Texts) (n : List ℕ) (ops : Texts) → words.request_of ws ≡ Some (n, ops) → command_of ws ≡ request_by n ops
unfolding command_of
request_fits [] n ops is = absurd (grind (arith, is))
request_fits (w ∷ ws) n ops is = fits_by w n ops (operands ws) is

-- what the command of this name makes of these operands
pub asked_for : (ws : Texts) (name n : List ℕ) (given ops : Texts) (o : Option Request) → words.request_of ws ≡ Some (name, given) → n ≡ name → ops ≡ given → o ≡ request_by n ops → command_of ws ≡ o
asked_for ws name n given ops o is same these by = request_fits ws name given is ∙ (ap (λ l. request_by l given) (sym same) ∙ (ap (λ l. request_by n l) (sym these) ∙ sym by))

-- ---- words that aren't a request fit no command

abbrev ask_for : Texts → TokenAsk
ask_for xs = record { audiences = xs; id = None; form = token.Lines; is_decoded = false }

jwt_none : (xs : Texts) → nat_le (length xs) 64 ≡ false → jwt_of xs ≡ None
jwt_none xs many = go (nat_le 1 (length xs))
  where
    go : (b : Bool) → (if b && (nat_le (length xs) 64 && list_all is_audience xs) then Some (FetchJwt (ask_for xs)) else None) ≡ None
    go false = refl
    go true = rw many refl

fetch_none : (xs : Texts) → words.some_of xs ≡ None → fetch_of xs ≡ None
fetch_none [] is = refl
fetch_none (a ∷ []) is = absurd (grind (arith, is))
fetch_none (a ∷ b ∷ xs) is = go (nat_le (length (a ∷ b ∷ xs)) 65) refl
  where
    more : nat_le (length (a ∷ b ∷ xs)) 65 ≡ false → nat_le (length (b ∷ xs)) 64 ≡ false
    more e = grind (arith, e)

    by : (c d e f : Bool) → nat_le (length (b ∷ xs)) 64 ≡ false → (if c then x509_of (b ∷ xs) else (if d then bundles_of (b ∷ xs) else (if e then jwt_of (b ∷ xs) else (if f then jwt_bundles_of (b ∷ xs) else None)))) ≡ None
    by true d e f many = refl
    by false true e f many = refl
    by false false true f many = jwt_none (b ∷ xs) many
    by false false false true many = refl
    by false false false false many = refl

    go : (t : Bool) → nat_le (length (a ∷ b ∷ xs)) 65 ≡ t → fetch_of (a ∷ b ∷ xs) ≡ None
    go true e = absurd (grind (arith, is, e))
    go false e = by (bytes_eq a (codes "x509")) (bytes_eq a (codes "bundles")) (bytes_eq a (codes "jwt")) (bytes_eq a (codes "jwt-bundles")) (more e)

count_none : (q : ℕ → Request) (xs : Texts) → words.one_of xs ≡ None → count_of q xs ≡ None
count_none q [] is = refl
count_none q (a ∷ []) is = absurd (grind (arith, is))
count_none q (a ∷ b ∷ xs) is = refl

watch_none : (xs : Texts) → words.at_most_one_of xs ≡ None → watch_of xs ≡ None
watch_none [] is = absurd (grind (arith, is))
watch_none (a ∷ []) is = absurd (grind (arith, is))
watch_none (a ∷ b ∷ xs) is = refl

health_none : (xs : Texts) → words.at_most_one_of xs ≡ None → health_of xs ≡ None
health_none [] is = absurd (grind (arith, is))
health_none (a ∷ []) is = absurd (grind (arith, is))
health_none (a ∷ b ∷ xs) is = refl

none_by : (f a h v : Bool) (xs : Texts)
    → (if f then words.some_of xs else (if a then words.at_most_one_of xs else (if h then words.at_most_one_of xs else (if v then words.one_of xs else None)))) ≡ None
    → (if f then fetch_of xs else (if a then watch_of xs else (if h then health_of xs else (if v then count_of HealthWatch xs else None)))) ≡ None
none_by true a h v xs is = fetch_none xs is
none_by false true h v xs is = watch_none xs is
none_by false false true v xs is = health_none xs is
none_by false false false true xs is = count_none HealthWatch xs is
none_by false false false false xs is = refl

no_request : (w : List ℕ) (o : Option Texts) → option_map {U = List ℕ × List (List ℕ)} (λ ys. (w, ys)) o ≡ None → o ≡ None
no_request w None is = refl
no_request w (Some ys) is = absurd (grind (arith, is))

none_fits : (w : List ℕ) (o : Option Texts) → option_and_then (words.fitting w) o ≡ None → option_and_then (request_by w) o ≡ None
none_fits w None is = refl
none_fits w (Some xs) is = none_by (bytes_eq w (codes "fetch")) (bytes_eq w (codes "watch")) (bytes_eq w (codes "health")) (bytes_eq w (codes "health-watch")) xs is

pub no_request_fits : (ws : Texts) → words.request_of ws ≡ None → command_of ws ≡ None
unfolding command_of
no_request_fits [] is = refl
no_request_fits (w ∷ ws) is = none_fits w (operands ws) (no_request w (option_and_then (words.fitting w) (operands ws)) is)

-- ---- with the options

pub chosen_by : (ws : Texts) (choices : List Choice) (others : Texts) (q : Request) (o : Option Request) → choices ≡ choices_from Front ws → others ≡ others_from Front ws → command_of others ≡ Some q → o ≡ with_choices choices q → request_of ws ≡ o
unfolding request_of
chosen_by ws choices others q o named rest is by = rw (← named, ← rest, is, by) refl

pub no_command : (ws : Texts) (others : Texts) → others ≡ others_from Front ws → command_of others ≡ None → request_of ws ≡ None
unfolding request_of
no_command ws others rest none = rw (← rest, none) refl

-- words that were refused fit nothing
pub is_unfit : (ws : Texts) (why : Option Error) (e : NoRequest) → e ≡ Unfit why → (e ≡ Memory) ⊎ (request_of ws ≡ None) → request_of ws ≡ None
is_unfit ws why e is (inl memory) = absurd (cc (is, memory))
is_unfit ws why e is (inr none) = none
