-- What the ready calls of a session were attested as, and the entries whose tokens they ask for.
use Rattle.std.proofs.Common.{◌≡◌, ℕ, true, List, [], ◌∷◌, map, filter, Option, Some, None, subst}
use Rattle.std.specs.List.{AllByRecursion}
use Rattle.list_laws.proofs.Elements.{all_filter, all_map}
use Rattle.h2_frame.specs.Reading.{End, reading_from}
use Rattle.h2_conn.specs.declared.fault.ConnFault.{ConnFault}
use Rattle.wl_secrets.proofs.Common.{is_entitled, Entry, Publication, view_in, JwtAsk, SessionState, asks_in, outcome_told}
use Rattle.wl_snapshot.specs.declared.token_asks.Wanted.{Wanted}
use Rattle.wl_snapshot.specs.declared.views.Held.{Held}
use Rattle.wl_snapshot.specs.Answers.{asks_of, is_meant, wanted_of}
use Rattle.wl_snapshot.specs.Views.{held_of, view_model_of}
use Rattle.wl_session.specs.declared.asks.JwtOutcome.{JwtOutcome}
use Rattle.wl_session.specs.declared.served.Stage.{Stage}
use Rattle.wl_session.specs.declared.served.Stage.TheVariants.{Unnamed, Ready, Asking}
use Rattle.wl_session.specs.declared.served.ServedCall.{ServedCall}
use Rattle.wl_session.specs.Tokens.{first_ask}
use Rattle.wl_session.specs.Talks.{Said}
use Rattle.wl_session.specs.Sessions.{Running, Fallen, OutOfMemory, feed_said}
use Rattle.wl_session.specs.Steps.{unnamed_count, fed_by, feed_told, turn_told}
use Rattle.wl_session.proofs.CallWalk.{CallRule, IsKept, IsKeptOn, fed_each, names_each, turn_each, given_each}
use Rattle.wl_secrets.proofs.Lists.{all_pass}

-- ---- what holds

-- of selectors, and of the ids of entries
pub record Bounds : Type 1 where
  pub selectors : List (List ℕ) → Type 0
  pub ids : List ℕ → Type 0

-- a ready call has such selectors, and an asking one asks for tokens of such entries
abbrev pub StageOn : Bounds → Stage → Type 0
StageOn on (Unnamed kind) = Unit {0}
StageOn on (Ready kind sel seen headed) = on.selectors sel
StageOn on (Asking first rest got) = on.ids first.ask.entry_id × AllByRecursion (λ (w : Wanted). on.ids w.ask.entry_id) rest

abbrev pub CallsOn : Bounds → List ServedCall → Type 0
CallsOn on cs = AllByRecursion (λ c. StageOn on c.stage) cs

abbrev pub CallerOn : Bounds → Option (List (List ℕ)) → Type 0
CallerOn on None = Unit {0}
CallerOn on (Some sel) = on.selectors sel

abbrev pub SessionOn : Bounds → SessionState → Type 0
SessionOn on (Running e t shown) = CallsOn on t.served
SessionOn on (Fallen fault begun) = Unit {0}
SessionOn on OutOfMemory = Unit {0}

-- entries to which such selectors are entitled have such ids
abbrev pub CoversOn : Bounds → Publication → Type 0
CoversOn on x = (sel : List (List ℕ)) → on.selectors sel → AllByRecursion (λ e. is_entitled sel e ≡ true → on.ids e.id) x.entries

-- ---- the walk

abbrev stage_rule : Bounds → CallRule
stage_rule on n s = StageOn on s

on_kept : (on : Bounds) → IsKept (stage_rule on)
on_kept on = record { fresh = λ n kind. tt; next = λ n first w ws got more h. (h.1.0, h.1.1) }

-- the asks of a view are for its entries
asks_on : (on : Bounds) (x : Publication) (sel : List (List ℕ)) (id : Option (List ℕ)) → AllByRecursion (λ e. is_entitled sel e ≡ true → on.ids e.id) x.entries → AllByRecursion (λ (w : Wanted). on.ids w.ask.entry_id) (asks_of id (view_in x sel))
unfolding asks_of view_in view_model_of held_of
asks_on on x sel id covers =
    let entries = filter (is_entitled sel) x.entries in
    let held = map (held_of x.svids) entries in
    all_map (λ (h : Held). on.ids h.entry.id) (λ (w : Wanted). on.ids w.ask.entry_id) wanted_of (λ h is. is) (filter (is_meant id) held)
    (all_filter (λ (h : Held). on.ids h.entry.id) (is_meant id) held
    (all_map (λ (e : Entry). on.ids e.id) (λ (h : Held). on.ids h.entry.id) (held_of x.svids) (λ e is. is) entries (all_pass (is_entitled sel) (λ e. on.ids e.id) x.entries covers)))

asked_on : (on : Bounds) (x : Publication) (sel : List (List ℕ)) (id : Option (List ℕ)) (w : Wanted) (ws : List Wanted) → CoversOn on x → on.selectors sel → asks_of id (view_in x sel) ≡ w ∷ ws → AllByRecursion (λ (v : Wanted). on.ids v.ask.entry_id) (w ∷ ws)
asked_on on x sel id w ws covers is same = subst (λ (vs : List Wanted). AllByRecursion (λ (v : Wanted). on.ids v.ask.entry_id) vs) same (asks_on on x sel id (covers sel is))

on_kept_on : (on : Bounds) (x : Publication) → CoversOn on x → IsKeptOn (stage_rule on) x
on_kept_on on x covers = record {
  answered = λ n kind sel seen headed now goes h. h;
  asked = λ n audience id sel seen headed w ws is h. asked_on on x sel id w ws covers h is;
}

caller_on : (on : Bounds) (caller : Option (List (List ℕ))) (sel : List (List ℕ)) → CallerOn on caller → caller ≡ Some sel → on.selectors sel
caller_on on caller sel by same = subst (CallerOn on) same by

-- ---- bytes

fed_by_on : (on : Bounds) (fault : Option ConnFault) (e : End) (shown : Option Publication) (caller : Option (List (List ℕ))) (said : Said) → CallerOn on caller → CallsOn on said.after.served
    → SessionOn on (fed_by fault e shown caller said).after
fed_by_on on None e shown caller said by all = names_each (stage_rule on) (unnamed_count said.after) caller said.after (λ n kind sel same. caller_on on caller sel by same) all
fed_by_on on (Some fault) e shown caller said by all = tt

pub feed_on : (on : Bounds) (piece : List ℕ) (caller : Option (List (List ℕ))) (s : SessionState) → CallerOn on caller → SessionOn on s → SessionOn on (feed_told piece caller s).after
unfolding feed_told
feed_on on piece caller (Running e t shown) by all =
    let said = feed_said (reading_from e piece) t in
    fed_by_on on said.fault (reading_from e piece).ending shown caller said by (fed_each (stage_rule on) (on_kept on) (reading_from e piece) t all)
feed_on on piece caller (Fallen fault begun) by all = tt
feed_on on piece caller OutOfMemory by all = tt

-- ---- a turn

pub turn_on : (on : Bounds) (x : Publication) (s : SessionState) → CoversOn on x → SessionOn on s → SessionOn on (turn_told x s).after
unfolding turn_told
turn_on on x (Running e t shown) covers all = turn_each (stage_rule on) x (on_kept_on on x covers) t all
turn_on on x (Fallen fault begun) covers all = tt
turn_on on x OutOfMemory covers all = tt

-- ---- a token

pub outcome_on : (on : Bounds) (o : JwtOutcome) (s : SessionState) → SessionOn on s → SessionOn on (outcome_told o s).after
unfolding outcome_told
outcome_on on o (Running e t shown) all = given_each (stage_rule on) (on_kept on) o t all
outcome_on on o (Fallen fault begun) all = tt
outcome_on on o OutOfMemory all = tt

-- ---- the ask that waits

abbrev pub AskOn : Bounds → Option JwtAsk → Type 0
AskOn on None = Unit {0}
AskOn on (Some a) = on.ids a.ask.entry_id

ask_go : (on : Bounds) (n : ℕ) (s : Stage) (cs : List ServedCall) → StageOn on s → AskOn on (first_ask cs) → AskOn on (first_ask (record { stream = n; stage = s } ∷ cs))
ask_go on n (Unnamed kind) cs is rest = rest
ask_go on n (Ready kind sel seen headed) cs is rest = rest
ask_go on n (Asking first wanted got) cs is rest = is.0

calls_ask : (on : Bounds) (cs : List ServedCall) → CallsOn on cs → AskOn on (first_ask cs)
calls_ask on [] all = tt
calls_ask on (c ∷ cs) all = ask_go on c.stream c.stage cs all.0 (calls_ask on cs all.1)

pub ask_on : (on : Bounds) (s : SessionState) → SessionOn on s → AskOn on (asks_in s)
ask_on on (Running e t shown) all = calls_ask on t.served all
ask_on on (Fallen fault begun) all = tt
ask_on on OutOfMemory all = tt

-- ---- looser bounds

stage_looser : (on more : Bounds) → ((sel : List (List ℕ)) → on.selectors sel → more.selectors sel) → ((id : List ℕ) → on.ids id → more.ids id) → (s : Stage) → StageOn on s → StageOn more s
stage_looser on more sels ids (Unnamed kind) is = tt
stage_looser on more sels ids (Ready kind sel seen headed) is = sels sel is
stage_looser on more sels ids (Asking first rest got) is = (ids first.ask.entry_id is.0, go rest is.1)
  where
    go : (ws : List Wanted) → AllByRecursion (λ (w : Wanted). on.ids w.ask.entry_id) ws → AllByRecursion (λ (w : Wanted). more.ids w.ask.entry_id) ws
    go [] all = tt
    go (w ∷ ws) all = (ids w.ask.entry_id all.0, go ws all.1)

calls_looser : (on more : Bounds) → ((sel : List (List ℕ)) → on.selectors sel → more.selectors sel) → ((id : List ℕ) → on.ids id → more.ids id) → (cs : List ServedCall) → CallsOn on cs → CallsOn more cs
calls_looser on more sels ids [] all = tt
calls_looser on more sels ids (c ∷ cs) all = (stage_looser on more sels ids c.stage all.0, calls_looser on more sels ids cs all.1)

pub session_looser : (on more : Bounds) → ((sel : List (List ℕ)) → on.selectors sel → more.selectors sel) → ((id : List ℕ) → on.ids id → more.ids id) → (s : SessionState) → SessionOn on s → SessionOn more s
session_looser on more sels ids (Running e t shown) all = calls_looser on more sels ids t.served all
session_looser on more sels ids (Fallen fault begun) all = tt
session_looser on more sels ids OutOfMemory all = tt
