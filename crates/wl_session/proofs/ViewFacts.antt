-- What is so of the selectors of each ready call, and of the view that answered it last, stays so; and a turn on views that
-- were all seen.
use Rattle.std.proofs.Common.{◌≡◌, ℕ, false, List, [], ◌∷◌, Option, Some, None, Result, Ok, Err, sym, subst, refl}
use Rattle.std.proofs.lemmas.List.{append-nil}
use Rattle.std.specs.List.{list_any}
use Rattle.wl_session.proofs.Common.{End, Reading, reading_from, ConnFault, Publication, ViewModel, view_in, JwtOutcome, SessionFault, Stage, Unnamed, Ready, Asking, ServedCall, calls_turn, Talking, Said, silent, written, SessionState, Running, Fallen, feed_said, turn_said, given_said, Goes, Turns, unnamed_count, names_said, SettledOn}
use Rattle.wl_session.specs.declared.asks.SessionFault.TheVariants as faults
use Rattle.wl_session.specs.Sessions.{OutOfMemory, state_by}
use Rattle.wl_session.specs.Steps.{fed_by, feed_told, turn_told, outcome_told}
use Rattle.wl_session.specs.Settled.{is_new, WasSeenOn, WasSeen, WereSeen, IsSettled, StageIs, EachIs, EachIsIn, IsShownBy, IsShown}
use Rattle.wl_session.proofs.Agreements.{again, calls_seen}
use Rattle.wl_session.proofs.CallWalk.{CallRule, Each, IsKept, IsKeptOn, names_each, turn_each, fed_each as fed_all, given_each}
use Rattle.wl_session.proofs.SessionFacts.{seen_were, were_have}

abbrev pub Rule : Type 1
Rule = List (List ℕ) → Option ViewModel → Type 0

-- ---- a rule is one of the stages of calls

abbrev rule_of : Rule → CallRule
rule_of r n s = StageIs r s

is_each : (r : Rule) (cs : List ServedCall) → EachIs r cs → Each (rule_of r) cs
is_each r [] h = tt
is_each r (c ∷ cs) h = (h.0, is_each r cs h.1)

each_is : (r : Rule) (cs : List ServedCall) → Each (rule_of r) cs → EachIs r cs
each_is r [] h = tt
each_is r (c ∷ cs) h = (h.0, each_is r cs h.1)

rule_kept : (r : Rule) → IsKept (rule_of r)
rule_kept r = record { fresh = λ n kind. tt; next = λ n first w ws got more h. tt }

-- it stays so of a call that is answered on this publication
abbrev pub AnswerKeeps : Rule → Publication → Type 0
AnswerKeeps r x = (sel : List (List ℕ)) (seen : Option ViewModel) → r sel seen → r sel (Some (view_in x sel))

rule_kept_on : (r : Rule) (x : Publication) → AnswerKeeps r x → IsKeptOn (rule_of r) x
rule_kept_on r x keeps = record { answered = λ n kind sel seen headed now goes h. keeps sel seen h; asked = λ n audience id sel seen headed w ws is h. tt }

-- it is so of a call that is attested now
abbrev pub NewIs : Rule → Option (List (List ℕ)) → Type 0
NewIs r None = Unit {0}
NewIs r (Some sel) = r sel None

each_fed : (r : Rule) (reading : Reading) (t : Talking) → EachIs r t.served → EachIs r (feed_said reading t).after.served
each_fed r reading t is = each_is r (feed_said reading t).after.served (fed_all (rule_of r) (rule_kept r) reading t (is_each r t.served is))

each_names : (r : Rule) (n : ℕ) (caller : Option (List (List ℕ))) (t : Talking) → NewIs r caller → EachIs r t.served → EachIs r (names_said n caller t).after.served
each_names r n caller t new is = each_is r (names_said n caller t).after.served (names_each (rule_of r) n caller t (λ m kind sel same. subst (NewIs r) same new) (is_each r t.served is))

each_given : (r : Rule) (o : JwtOutcome) (t : Talking) → EachIs r t.served → EachIs r (given_said o t).after.served
each_given r o t is = each_is r (given_said o t).after.served (given_each (rule_of r) (rule_kept r) o t (is_each r t.served is))

-- ---- a session

fed_each_by : (r : Rule) (e : End) (shown : Option Publication) (caller : Option (List (List ℕ))) (said : Said) (f : Option ConnFault) → NewIs r caller → EachIs r said.after.served
    → EachIsIn r (fed_by f e shown caller said).after
fed_each_by r e shown caller said None new is = each_names r (unnamed_count said.after) caller said.after new is
fed_each_by r e shown caller said (Some f) new is = tt

pub fed_each : (r : Rule) (piece : List ℕ) (caller : Option (List (List ℕ))) (s : SessionState) → NewIs r caller → EachIsIn r s → EachIsIn r (feed_told piece caller s).after
unfolding feed_told
fed_each r piece caller (Running e t shown) new is =
    let said = feed_said (reading_from e piece) t in
    fed_each_by r (reading_from e piece).ending shown caller said said.fault new (each_fed r (reading_from e piece) t is)
fed_each r piece caller (Fallen f begun) new is = tt
fed_each r piece caller OutOfMemory new is = tt

pub turned_each : (r : Rule) (x : Publication) (s : SessionState) → AnswerKeeps r x → EachIsIn r s → EachIsIn r (turn_told x s).after
unfolding turn_told
turned_each r x (Running e t shown) keeps is = each_is r (turn_said x t).after.served (turn_each (rule_of r) x (rule_kept_on r x keeps) t (is_each r t.served is))
turned_each r x (Fallen f begun) keeps is = tt
turned_each r x OutOfMemory keeps is = tt

pub outcome_each : (r : Rule) (o : JwtOutcome) (s : SessionState) → EachIsIn r s → EachIsIn r (outcome_told o s).after
unfolding outcome_told
outcome_each r o (Running e t shown) is = each_given r o t is
outcome_each r o (Fallen f begun) is = tt
outcome_each r o OutOfMemory is = tt

-- ---- what a publication shows

abbrev pub Shows : Publication → Rule
Shows x sel seen = WasSeenOn (view_in x sel) seen

fed_shown_by : (x : Publication) (e : End) (last : Publication) (caller : Option (List (List ℕ))) (said : Said) (f : Option ConnFault) → NewIs (Shows x) caller → EachIs (Shows x) said.after.served
    → IsShown x (fed_by f e (Some last) caller said).after
fed_shown_by x e last caller said None new is = each_names (Shows x) (unnamed_count said.after) caller said.after new is
fed_shown_by x e last caller said (Some f) new is = tt

new_shown : (x : Publication) (caller : Option (List (List ℕ))) → NewIs (Shows x) caller
new_shown x None = tt
new_shown x (Some sel) = tt

fed_shown_on : (x : Publication) (piece : List ℕ) (caller : Option (List (List ℕ))) (e : End) (t : Talking) (shown : Option Publication) → IsShownBy x shown t.served → IsShown x (feed_told piece caller (Running e t shown)).after
unfolding feed_told
fed_shown_on x piece caller e t None is = absurd is
fed_shown_on x piece caller e t (Some last) is =
    let said = feed_said (reading_from e piece) t in
    fed_shown_by x (reading_from e piece).ending last caller said said.fault (new_shown x caller) (each_fed (Shows x) (reading_from e piece) t is)

-- bytes, names and tokens leave it as it was
pub fed_shown : (x : Publication) (piece : List ℕ) (caller : Option (List (List ℕ))) (s : SessionState) → IsShown x s → IsShown x (feed_told piece caller s).after
unfolding feed_told
fed_shown x piece caller (Running e t shown) is = fed_shown_on x piece caller e t shown is
fed_shown x piece caller (Fallen f begun) is = tt
fed_shown x piece caller OutOfMemory is = tt

outcome_shown_on : (x : Publication) (o : JwtOutcome) (e : End) (t : Talking) (shown : Option Publication) → IsShownBy x shown t.served → IsShownBy x shown (given_said o t).after.served
outcome_shown_on x o e t None is = absurd is
outcome_shown_on x o e t (Some last) is = each_given (Shows x) o t is

pub outcome_shown : (x : Publication) (o : JwtOutcome) (s : SessionState) → IsShown x s → IsShown x (outcome_told o s).after
unfolding outcome_told
outcome_shown x o (Running e t shown) is = outcome_shown_on x o e t shown is
outcome_shown x o (Fallen f begun) is = tt
outcome_shown x o OutOfMemory is = tt

were_stage : (x : Publication) (s : Stage) → WasSeen x s → StageIs (Shows x) s
were_stage x (Unnamed kind) was = tt
were_stage x (Ready kind sel seen headed) was = was
were_stage x (Asking first rest got) was = tt

were_each : (x : Publication) (cs : List ServedCall) → WereSeen x cs → EachIs (Shows x) cs
were_each x [] were = tt
were_each x (c ∷ cs) were = (were_stage x c.stage were.0, were_each x cs were.1)

-- after a turn on a publication it is shown that one
pub turned_shown : (x : Publication) (s : SessionState) → IsShown x (turn_told x s).after
unfolding turn_told turn_said written
turned_shown x (Running e t shown) = were_each x (calls_turn x t.served t.phase).kept (seen_were x (calls_turn x t.served t.phase).kept (calls_seen x t.served t.phase))
turned_shown x (Fallen f begun) = tt
turned_shown x OutOfMemory = tt

goes_shown : (x : Publication) (e : End) (t : Talking) (r : Result (Unit {0}) SessionFault) (old now : List ℕ) (new : SessionState) → Goes e (Some x) (turn_said x t) r old now new → IsShown x new
unfolding turn_told
goes_shown x e t (Ok done) old now new goes = subst (λ (s : SessionState). IsShown x s) (sym goes.1) (turned_shown x (Running e t None))
goes_shown x e t (Err (faults.Protocol f)) old now new goes = absurd goes
goes_shown x e t (Err faults.Memory) old now new goes = subst (λ (s : SessionState). IsShown x s) (sym goes.1) tt

pub turns_shown : (x : Publication) (s : SessionState) (r : Result (Unit {0}) SessionFault) (old now : List ℕ) (new : SessionState) → Turns x s r old now new → IsShown x new
turns_shown x (Running e t last) r old now new turns = goes_shown x e t r old now new turns
turns_shown x (Fallen f begun) r old now new turns = subst (λ (s : SessionState). IsShown x s) (sym turns.2) tt
turns_shown x OutOfMemory r old now new turns = subst (λ (s : SessionState). IsShown x s) (sym turns.2) tt

-- ---- another publication with the same views

shown_stage : (P : List (List ℕ) → Type 0) (x y : Publication) (s : Stage) → ((sel : List (List ℕ)) → P sel → view_in x sel ≡ view_in y sel)
    → StageIs (λ sel seen. P sel) s → StageIs (Shows x) s → StageIs (Shows y) s
shown_stage P x y (Unnamed kind) same are is = tt
shown_stage P x y (Ready kind sel seen headed) same are is = subst (λ (v : ViewModel). WasSeenOn v seen) (same sel are) is
shown_stage P x y (Asking first rest got) same are is = tt

shown_each : (P : List (List ℕ) → Type 0) (x y : Publication) (cs : List ServedCall) → ((sel : List (List ℕ)) → P sel → view_in x sel ≡ view_in y sel)
    → EachIs (λ sel seen. P sel) cs → EachIs (Shows x) cs → EachIs (Shows y) cs
shown_each P x y [] same are is = tt
shown_each P x y (c ∷ cs) same are is = (shown_stage P x y c.stage same are.0 is.0, shown_each P x y cs same are.1 is.1)

shown_on_by : (P : List (List ℕ) → Type 0) (x y : Publication) (shown : Option Publication) (cs : List ServedCall) → ((sel : List (List ℕ)) → P sel → view_in x sel ≡ view_in y sel)
    → EachIs (λ sel seen. P sel) cs → IsShownBy x shown cs → IsShownBy y shown cs
shown_on_by P x y None cs same are is = absurd is
shown_on_by P x y (Some last) cs same are is = shown_each P x y cs same are is

-- where the view of each caller is the same in it
pub shown_on : (P : List (List ℕ) → Type 0) (x y : Publication) (s : SessionState) → ((sel : List (List ℕ)) → P sel → view_in x sel ≡ view_in y sel)
    → EachIsIn (λ sel seen. P sel) s → IsShown x s → IsShown y s
shown_on P x y (Running e t shown) same are is = shown_on_by P x y shown t.served same are is
shown_on P x y (Fallen f begun) same are is = tt
shown_on P x y OutOfMemory same are is = tt

-- a rule that says less
stage_weaker : (q r : Rule) (s : Stage) → ((sel : List (List ℕ)) (seen : Option ViewModel) → q sel seen → r sel seen) → StageIs q s → StageIs r s
stage_weaker q r (Unnamed kind) less is = tt
stage_weaker q r (Ready kind sel seen headed) less is = less sel seen is
stage_weaker q r (Asking first rest got) less is = tt

each_weaker : (q r : Rule) (cs : List ServedCall) → ((sel : List (List ℕ)) (seen : Option ViewModel) → q sel seen → r sel seen) → EachIs q cs → EachIs r cs
each_weaker q r [] less is = tt
each_weaker q r (c ∷ cs) less is = (stage_weaker q r c.stage less is.0, each_weaker q r cs less is.1)

pub weaker : (q r : Rule) (s : SessionState) → ((sel : List (List ℕ)) (seen : Option ViewModel) → q sel seen → r sel seen) → EachIsIn q s → EachIsIn r s
weaker q r (Running e t shown) less is = each_weaker q r t.served less is
weaker q r (Fallen f begun) less is = tt
weaker q r OutOfMemory less is = tt

-- ---- a turn on it

stage_were : (x : Publication) (s : Stage) → StageIs (Shows x) s → WasSeen x s
stage_were x (Unnamed kind) is = tt
stage_were x (Ready kind sel seen headed) is = is
stage_were x (Asking first rest got) is = tt

each_were : (x : Publication) (cs : List ServedCall) → EachIs (Shows x) cs → WereSeen x cs
each_were x [] is = tt
each_were x (c ∷ cs) is = (stage_were x c.stage is.0, each_were x cs is.1)

unchanged_settles_on : (x : Publication) (shown : Option Publication) (number : Option ℕ) (t : Talking) → SettledOn shown number t → IsShownBy x shown t.served → SettledOn (Some x) (Some x.number) t
unchanged_settles_on x None number t settled is = absurd is
unchanged_settles_on x (Some last) number t settled is = (refl, settled.1, settled.2, each_were x t.served is)

shown_of : (x : Publication) (s : SessionState) (e : End) (t : Talking) (shown : Option Publication) → Running e t shown ≡ s → IsShown x s → IsShownBy x shown t.served
shown_of x s e t shown is shows = subst (λ (u : SessionState). IsShown x u) (sym is) shows

-- a session that has not failed goes on from the same talk
unchanged_on : (x : Publication) (s : SessionState) (failed : Option SessionFault) (e : End) (t : Talking) (shown : Option Publication) (number : Option ℕ)
    → state_by failed e t shown ≡ s → failed ≡ None → IsSettled failed shown number t → IsShown x s → SettledOn (Some x) (Some x.number) t
unchanged_on x s failed e t shown number view none settled shows =
    let running : Running e t shown ≡ s = subst (λ (f : Option SessionFault). state_by f e t shown ≡ s) none view in
    unchanged_settles_on x shown number t (subst (λ (f : Option SessionFault). IsSettled f shown number t) none settled) (shown_of x s e t shown running shows)

pub unchanged_settles : (x : Publication) (s : SessionState) (failed : Option SessionFault) (e : End) (t : Talking) (shown : Option Publication) (number : Option ℕ)
    → state_by failed e t shown ≡ s → failed ≡ None → IsSettled failed shown number t → IsShown x s → IsSettled failed (Some x) (Some x.number) t
unchanged_settles x s failed e t shown number view none settled shows =
    subst (λ (f : Option SessionFault). IsSettled f (Some x) (Some x.number) t) (sym none) (unchanged_on x s failed e t shown number view none settled shows)

turns_by : (x : Publication) (e : End) (t : Talking) (shown : Option Publication) (out : List ℕ) → SettledOn (Some x) (Some x.number) t → list_any is_new t.served ≡ false
    → Turns x (Running e t shown) (Ok tt) out out (Running e t (Some x))
turns_by x e t shown out settled old =
    let quiet : turn_said x t ≡ silent t = again x t (record { greeted = settled.1; quiet = settled.2 }) (were_have x t.served settled.3 old) in
    rw quiet (sym (append-nil out), refl)

-- and its turn wrote nothing
pub unchanged_turns : (x : Publication) (s : SessionState) (failed : Option SessionFault) (e : End) (t : Talking) (shown : Option Publication) (number : Option ℕ) (out : List ℕ)
    → state_by failed e t shown ≡ s → failed ≡ None → IsSettled failed shown number t → IsShown x s → list_any is_new t.served ≡ false
    → Turns x s (Ok tt) out out (state_by failed e t (Some x))
unchanged_turns x s failed e t shown number out view none settled shows old =
    let running : Running e t shown ≡ s = subst (λ (f : Option SessionFault). state_by f e t shown ≡ s) none view in
    let turns = turns_by x e t shown out (unchanged_on x s failed e t shown number view none settled shows) old in
    subst (λ (f : Option SessionFault). Turns x s (Ok tt) out out (state_by f e t (Some x))) (sym none)
    (subst (λ (u : SessionState). Turns x u (Ok tt) out out (Running e t (Some x))) running turns)
