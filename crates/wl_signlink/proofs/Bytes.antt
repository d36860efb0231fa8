-- Bytes as text.
use Rattle.std.proofs.Common.{◌≡◌, ◌<◌, ℕ, List, Bool, true, false, length, get_or, Some, None, Result, Ok, Err, if◌then◌else◌, refl, sym, ◌∙◌, ap, true≢false, map, ◌∷◌, []}
use Rattle.std.specs.Prelude.{MatchResult}
use Rattle.std.proofs.lemmas.Bool.{false_from_ne_true}
use Rattle.std.specs.List.{list_all}
use Rattle.std.specs.Result.{is_ok}
use Rattle.std.specs.Str.{is_utf8, IsUtf8}
use Rattle.std.proofs.lemmas.Str.{is_utf8-from_IsUtf8, IsUtf8-from_is_utf8}
use Rattle.std.proofs.lemmas.List.Folds.{list_all_at}
use Rattle.serde_json.specs.Data.{string}
use Rattle.serde_json.specs.View.{items_of}
use Rattle.serde_json.specs.Written.{items_have_float}

-- each of a list of texts is one
pub text_at : (list : List (List ℕ)) (i : ℕ) (d : List ℕ) → list_all is_utf8 list ≡ true → i < length list → is_utf8 (get_or list i d) ≡ true
text_at list i d all within = by (is_utf8 (get_or list i d)) refl
  where
    by : (b : Bool) → is_utf8 (get_or list i d) ≡ b → is_utf8 (get_or list i d) ≡ true
    by true h = h
    by false h = absurd (true≢false (sym all ∙ list_all_at is_utf8 list i d within h))

-- texts aren't floats
pub no_floats : (list : List (List ℕ)) → items_have_float (items_of (map string list)) ≡ false
no_floats [] = refl
no_floats (t ∷ ts) = no_floats ts
