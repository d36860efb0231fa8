-- What an ask gets, and what is kept of it.
use Rattle.std.proofs.Common.{◌≡◌, ℕ, List, [], ◌∷◌, ◌++◌, Option, Some, None, refl, sym, ap, subst, ◌∙◌}
use Rattle.wl_entry.specs.Fitness.{token_unfit}
use Rattle.wl_entry.specs.declared.asks.Ask.{Ask}
use Rattle.wl_core.proofs.Common.{JwtToken, CachedToken, Stored, Managed, JwtAsk, JwtOutcome, SessionState, failure_in, Line, Seat, Told, outcome_told, KeptTokens, kept_token, outcome_of, answer_ask, session_lines, token_lines}
use Rattle.jwt_cache.specs.Rings as rings
use Rattle.wl_manager.specs.declared.keeping.Keeping.{Keeping}
use Rattle.wl_manager.specs.declared.keeping.Keeping.TheVariants as keeping
use Rattle.wl_session.specs.declared.asks.JwtOutcome.TheVariants as outcomes
use Rattle.wl_core.specs.Tokens.{outcome_by, history_by, history_after_token}
use Rattle.wl_core.specs.Moments.{ask_of_seat, history_answered}
use Rattle.wl_core.specs.Lines.{idle_lines, ask_lines}

-- ---- keeping

keeps : (k : Keeping) (one : CachedToken) (old new : Managed) (history : List CachedToken) → (k ≡ keeping.Kept → rings.StandsFor new.tokens (history ++ one ∷ []))
    → ((k ≡ keeping.Kept → ⊥) → new ≡ old) → rings.StandsFor old.tokens history → rings.StandsFor new.tokens (history_by k one history)
keeps keeping.Kept one old new history kept same stands = kept refl
keeps keeping.NoSuchAsk one old new history kept same stands = subst (λ (m : Managed). rings.StandsFor m.tokens history) (sym (same (λ e. absurd (cc e)))) stands
keeps (keeping.AudienceLong n) one old new history kept same stands = subst (λ (m : Managed). rings.StandsFor m.tokens history) (sym (same (λ e. absurd (cc e)))) stands
keeps (keeping.Unfit u) one old new history kept same stands = subst (λ (m : Managed). rings.StandsFor m.tokens history) (sym (same (λ e. absurd (cc e)))) stands

pub keeps_by : (k verdict : Keeping) (one : CachedToken) (old new : Managed) (history : List CachedToken) → k ≡ verdict
    → (k ≡ keeping.Kept → rings.StandsFor new.tokens (history ++ one ∷ [])) → ((k ≡ keeping.Kept → ⊥) → new ≡ old) → rings.StandsFor old.tokens history
    → rings.StandsFor new.tokens (history_by verdict one history)
keeps_by k verdict one old new history is kept same stands = subst (λ (v : Keeping). rings.StandsFor new.tokens (history_by v one history)) is (keeps k one old new history kept same stands)

-- ---- the outcome, by what was found

pub outcome_kept : (found given : Option JwtToken) (kept : JwtToken) (now : ℕ) → Some kept ≡ found → outcomes.Token kept ≡ outcome_of found given now
outcome_kept found given kept now is = ap (λ (o : Option JwtToken). outcome_of o given now) is

pub outcome_failed : (found : Option JwtToken) (now : ℕ) → None ≡ found → outcomes.Failed ≡ outcome_of found None now
outcome_failed found now is = ap (λ (o : Option JwtToken). outcome_of o None now) is

pub outcome_given : (found : Option JwtToken) (t : JwtToken) (now : ℕ) (x : JwtOutcome) → None ≡ found → x ≡ outcome_by (token_unfit now t) t → x ≡ outcome_of found (Some t) now
outcome_given found t now x is by = by ∙ ap (λ (o : Option JwtToken). outcome_of o (Some t) now) is

pub history_found : (asks : List Ask) (a : JwtAsk) (now : ℕ) (found other given : Option JwtToken) (tokens : List (List ℕ × List CachedToken)) (history : List CachedToken) → other ≡ found
    → rings.StandsFor tokens (history_after_token asks a now other given history) → rings.StandsFor tokens (history_after_token asks a now found given history)
history_found asks a now found other given tokens history is stands = subst (λ (o : Option JwtToken). rings.StandsFor tokens (history_after_token asks a now o given history)) is stands

-- ---- the first waiting ask

pub none_told : (kept : KeptTokens) (now : ℕ) (given : Option JwtToken) (seat : Seat) (o : Option JwtAsk) → None ≡ o → seat.session ≡ (answer_ask kept now given seat o).after
none_told kept now given seat o is = ap (λ (x : Option JwtAsk). (answer_ask kept now given seat x).after) is

pub none_said : (conn : ℕ) (s : SessionState) (o : Option JwtAsk) (told : Told) (said : List Line) → None ≡ o → said ≡ idle_lines conn (failure_in s) → said ≡ ask_lines conn s o told
none_said conn s o told said is says = says ∙ ap (λ (x : Option JwtAsk). ask_lines conn s x told) is

pub answers_found : (o other : Option JwtAsk) (m : Stored) (now : ℕ) (given : Option JwtToken) (tokens : List (List ℕ × List CachedToken)) (history : List CachedToken) → other ≡ o
    → rings.StandsFor tokens (history_answered other m now given history) → rings.StandsFor tokens (history_answered o m now given history)
answers_found o other m now given tokens history is stands = subst (λ (x : Option JwtAsk). rings.StandsFor tokens (history_answered x m now given history)) is stands

pub some_told : (kept : KeptTokens) (now : ℕ) (given : Option JwtToken) (seat : Seat) (o : Option JwtAsk) (a : JwtAsk) (x : JwtOutcome) (s : SessionState) → Some a ≡ o
    → x ≡ outcome_of (kept_token kept a now) given now → s ≡ (outcome_told x seat.session).after → s ≡ (answer_ask kept now given seat o).after
some_told kept now given seat o a x s is outcome told =
    told ∙ (ap (λ (y : JwtOutcome). (outcome_told y seat.session).after) outcome ∙ ap (λ (y : Option JwtAsk). (answer_ask kept now given seat y).after) is)

pub some_said : (conn : ℕ) (kept : KeptTokens) (now : ℕ) (given : Option JwtToken) (seat : Seat) (o : Option JwtAsk) (a : JwtAsk) (x : JwtOutcome) (said : List Line) → Some a ≡ o
    → x ≡ outcome_of (kept_token kept a now) given now → said ≡ session_lines conn (outcome_told x seat.session)
    → said ≡ ask_lines conn seat.session o (answer_ask kept now given seat o)
some_said conn kept now given seat o a x said is outcome says =
    says ∙ (ap (λ (y : JwtOutcome). session_lines conn (outcome_told y seat.session)) outcome
    ∙ ap (λ (y : Option JwtAsk). ask_lines conn seat.session y (answer_ask kept now given seat y)) is)

-- ---- on a connection

pub token_lines_of : (conn : ℕ) (tell : Seat → Told) (o other : Option Seat) (said : List Line) → other ≡ o → said ≡ token_lines conn tell other → said ≡ token_lines conn tell o
token_lines_of conn tell o other said is says = says ∙ ap (λ (x : Option Seat). token_lines conn tell x) is

pub token_history_of : (o other : Option Seat) (m : Stored) (now : ℕ) (given : Option JwtToken) (tokens : List (List ℕ × List CachedToken)) (history : List CachedToken) → other ≡ o
    → rings.StandsFor tokens (history_answered (ask_of_seat other) m now given history) → rings.StandsFor tokens (history_answered (ask_of_seat o) m now given history)
token_history_of o other m now given tokens history is stands = subst (λ (x : Option Seat). rings.StandsFor tokens (history_answered (ask_of_seat x) m now given history)) is stands
