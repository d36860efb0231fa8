-- The options among the words (own rule): `--pem`, `--json`, `--decode`, and `--id ID` or `--id=ID`, wherever they stand before
-- the first `--`. The word after `--id` is its value, whatever it is.
use Rattle.std.specs.Prelude.{ℕ, ◌||◌, not, Bool, true, false, if◌then◌else◌, List, [], ◌∷◌, ◌++◌, codes, take, drop, Option, Some, None}
use Rattle.std.specs.Str.{bytes_eq}
use Rattle.wl_control.specs.declared.request.Choice.{Choice}
use Rattle.wl_control.specs.declared.request.Choice.TheVariants.{Pem, Json, Decode, Id}
use Rattle.wl_control.specs.declared.choices.Place.{Place}
use Rattle.wl_control.specs.declared.choices.Place.TheVariants.{Front, Value, Behind}

-- ---- one word

-- whether the value of `--id` is the next word
abbrev pub awaits_value : List ℕ → Bool
awaits_value w = bytes_eq w (codes "--id")

-- what a word chooses
abbrev pub choice_in : List ℕ → Option Choice
choice_in w =
    if bytes_eq w (codes "--pem") then Some Pem
    else if bytes_eq w (codes "--json") then Some Json
    else if bytes_eq w (codes "--decode") then Some Decode
    else if bytes_eq (take 5 w) (codes "--id=") then Some (Id (drop 5 w))
    else None

abbrev pub is_option : List ℕ → Bool
is_option w = bytes_eq w (codes "--pem") || (bytes_eq w (codes "--json") || (bytes_eq w (codes "--decode") || (bytes_eq (take 5 w) (codes "--id=") || awaits_value w)))

-- ---- one word in its place

abbrev pub choice_at : Place → List ℕ → Option Choice
choice_at Front w = choice_in w
choice_at Value w = Some (Id w)
choice_at Behind w = None

abbrev pub is_other : Place → List ℕ → Bool
is_other Front w = not (is_option w)
is_other Value w = false
is_other Behind w = true

-- the place of the next word
abbrev pub place_after : Place → List ℕ → Place
place_after Front w = if bytes_eq w (codes "--") then Behind else if awaits_value w then Value else Front
place_after Value w = Front
place_after Behind w = Behind

-- ---- all words

abbrev pub choices_with : Option Choice → List Choice
choices_with None = []
choices_with (Some c) = c ∷ []

abbrev pub others_with : Bool → List ℕ → List (List ℕ)
others_with other w = if other then w ∷ [] else []

-- an `--id` without a value is left with the other words, which it makes unfit
abbrev pub left_over : Place → List (List ℕ)
left_over Front = []
left_over Value = codes "--id" ∷ []
left_over Behind = []

-- what these words choose, of which the first stands in this place
abbrev pub choices_from : Place → List (List ℕ) → List Choice
choices_from place [] = []
choices_from place (w ∷ ws) = choices_with (choice_at place w) ++ choices_from (place_after place w) ws

-- the other words
abbrev pub others_from : Place → List (List ℕ) → List (List ℕ)
others_from place [] = left_over place
others_from place (w ∷ ws) = others_with (is_other place w) w ++ others_from (place_after place w) ws
