-- What is kept stays vouched for.
use Rattle.std.proofs.Common.{◌≡◌, ℕ, Bool, true, false, if◌then◌else◌, List, [], ◌∷◌, ◌++◌, Option, Some, None, IfSome, sym, subst}
use Rattle.std.specs.List.{AllByRecursion}
use Rattle.wl_selector.specs.Selectors.{has_text}
use Rattle.wl_entry.specs.declared.asks.Ask.{Ask}
use Rattle.wl_entry.specs.declared.tokens.JwtToken.{JwtToken}
use Rattle.jwt_cache.specs.declared.rings.CachedToken.{CachedToken}
use Rattle.jwt_cache.specs.History.{last_of, is_of, cached_token_of, find_among}
use Rattle.jwt_cache.specs.Rings.{tokens_for}
use Rattle.jwt_cache.proofs.EachKeep.{last_holds, found_holds}
use Rattle.wl_manager.specs.Managers.{Vouched, AllVouched}

none_or : (P : CachedToken → Type 0) (b : Bool) (history : List CachedToken) → AllByRecursion P history → AllByRecursion P (if b then [] else history)
none_or P true history all = tt
none_or P false history all = all

-- where some entries' tokens are dropped
pub fewer_vouched : (token : Ask → List (List ℕ) → JwtToken → Type 0) (ids : List (List ℕ)) (rings next : List (List ℕ × List CachedToken))
    → ((q : List ℕ) → tokens_for next q ≡ (if has_text ids q then [] else tokens_for rings q)) → AllVouched token rings → AllVouched token next
fewer_vouched token ids rings next step all =
    λ q. subst (AllByRecursion (Vouched token)) (sym (step q)) (none_or (Vouched token) (has_text ids q) (tokens_for rings q) (all q))

one_or : (P : CachedToken → Type 0) (b : Bool) (history : List CachedToken) (k : CachedToken) → AllByRecursion P history → P k → AllByRecursion P (if b then last_of 16 (history ++ k ∷ []) else history)
one_or P true history k all one = last_holds P 16 history k all one
one_or P false history k all one = all

-- where one more is kept
pub more_vouched : (token : Ask → List (List ℕ) → JwtToken → Type 0) (ask : Ask) (audience : List (List ℕ)) (t : JwtToken) (rings next : List (List ℕ × List CachedToken))
    → ((q : List ℕ) → tokens_for next q ≡ (if is_of q (cached_token_of ask audience t) then last_of 16 (tokens_for rings q ++ cached_token_of ask audience t ∷ []) else tokens_for rings q))
    → Vouched token (cached_token_of ask audience t) → AllVouched token rings → AllVouched token next
more_vouched token ask audience t rings next step one all =
    λ q. subst (AllByRecursion (Vouched token)) (sym (step q)) (one_or (Vouched token) (is_of q (cached_token_of ask audience t)) (tokens_for rings q) (cached_token_of ask audience t) (all q) one)

-- a token that is found
pub found_vouched : (token : Ask → List (List ℕ) → JwtToken → Type 0) (rings : List (List ℕ × List CachedToken)) (ask : Ask) (audience : List (List ℕ)) (since now : ℕ) (found : Option JwtToken)
    → AllVouched token rings → found ≡ find_among ask audience since now (tokens_for rings ask.entry_id) → IfSome found (token ask audience)
found_vouched token rings ask audience since now None all is = tt
found_vouched token rings ask audience since now (Some t) all is = found_holds token ask audience since now (tokens_for rings ask.entry_id) t (all ask.entry_id) (sym is)
