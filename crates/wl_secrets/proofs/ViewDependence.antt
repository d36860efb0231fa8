-- What a session does hangs on the publication that its last turn read through the views of its calls alone.
use Rattle.std.proofs.Common.{◌≡◌, ℕ, List, [], ◌∷◌, map, Option, Some, None, refl, ap}
use Rattle.h2_frame.specs.Reading.{End, reading_from}
use Rattle.h2_conn.specs.declared.fault.ConnFault.{ConnFault}
use Rattle.wl_secrets.proofs.Common.{Publication, view_in, SessionState, asks_in, outcome_told, Item, feed_items}
use Rattle.wl_session.specs.declared.asks.JwtOutcome.{JwtOutcome}
use Rattle.wl_session.specs.declared.served.Stage.{Stage}
use Rattle.wl_session.specs.declared.served.Stage.TheVariants.{Unnamed, Ready, Asking}
use Rattle.wl_session.specs.declared.served.ServedCall.{ServedCall}
use Rattle.wl_session.specs.Agreeing.{SeesAlike, SeeAlike}
use Rattle.wl_session.specs.Talks.{Said}
use Rattle.wl_session.specs.Sessions.{Running, Fallen, OutOfMemory, feed_said}
use Rattle.wl_session.specs.Steps.{fed_by, feed_told, turn_told}
use Rattle.wl_session.specs.Items.{turn_items, view_where_new, stage_view, call_view, views_item}
use Rattle.wl_session.proofs.Agreements.{alike}
use Rattle.wl_secrets.proofs.Calls.{Bounds, StageOn, CallsOn, SessionOn}

-- a session without the publication that its last turn read
abbrev pub unshown : SessionState → SessionState
unshown (Running e t shown) = Running e t None
unshown (Fallen fault begun) = Fallen fault begun
unshown OutOfMemory = OutOfMemory

fed_unshown : (fault : Option ConnFault) (e : End) (shown : Option Publication) (caller : Option (List (List ℕ))) (said : Said) → unshown (fed_by fault e shown caller said).after ≡ unshown (fed_by fault e None caller said).after
fed_unshown None e shown caller said = refl
fed_unshown (Some fault) e shown caller said = refl

pub feed_unshown : (piece : List ℕ) (caller : Option (List (List ℕ))) (s : SessionState) → unshown (feed_told piece caller s).after ≡ unshown (feed_told piece caller (unshown s)).after
unfolding feed_told
feed_unshown piece caller (Running e t shown) = let said = feed_said (reading_from e piece) t in fed_unshown said.fault (reading_from e piece).ending shown caller said
feed_unshown piece caller (Fallen fault begun) = refl
feed_unshown piece caller OutOfMemory = refl

pub fed_items_unshown : (piece : List ℕ) (caller : Option (List (List ℕ))) (s : SessionState) → feed_items piece caller s ≡ feed_items piece caller (unshown s)
fed_items_unshown piece caller (Running e t shown) = refl
fed_items_unshown piece caller (Fallen fault begun) = refl
fed_items_unshown piece caller OutOfMemory = refl

pub turn_unshown : (x : Publication) (s : SessionState) → unshown (turn_told x s).after ≡ unshown (turn_told x (unshown s)).after
unfolding turn_told
turn_unshown x (Running e t shown) = refl
turn_unshown x (Fallen fault begun) = refl
turn_unshown x OutOfMemory = refl

pub turn_items_unshown : (x : Publication) (s : SessionState) (before : List Item) → turn_items x s before ≡ turn_items x (unshown s) before
turn_items_unshown x (Running e t shown) before = refl
turn_items_unshown x (Fallen fault begun) before = refl
turn_items_unshown x OutOfMemory before = refl

pub outcome_unshown : (o : JwtOutcome) (s : SessionState) → unshown (outcome_told o s).after ≡ unshown (outcome_told o (unshown s)).after
unfolding outcome_told
outcome_unshown o (Running e t shown) = refl
outcome_unshown o (Fallen fault begun) = refl
outcome_unshown o OutOfMemory = refl

pub asks_unshown : (s : SessionState) → asks_in s ≡ asks_in (unshown s)
asks_unshown (Running e t shown) = refl
asks_unshown (Fallen fault begun) = refl
asks_unshown OutOfMemory = refl

pub unshown_twice : (s : SessionState) → unshown (unshown s) ≡ unshown s
unshown_twice (Running e t shown) = refl
unshown_twice (Fallen fault begun) = refl
unshown_twice OutOfMemory = refl

-- ---- a turn on two publications

-- they show such selectors the same
abbrev pub ShowsAlike : Bounds → Publication → Publication → Type 0
ShowsAlike on x y = (sel : List (List ℕ)) → on.selectors sel → view_in x sel ≡ view_in y sel

stage_sees : (on : Bounds) (x y : Publication) (s : Stage) → ShowsAlike on x y → StageOn on s → SeesAlike x y s
stage_sees on x y (Unnamed kind) shows is = tt
stage_sees on x y (Ready kind sel seen headed) shows is = shows sel is
stage_sees on x y (Asking first rest got) shows is = tt

calls_see : (on : Bounds) (x y : Publication) (cs : List ServedCall) → ShowsAlike on x y → CallsOn on cs → SeeAlike x y cs
calls_see on x y [] shows all = tt
calls_see on x y (c ∷ cs) shows all = (stage_sees on x y c.stage shows all.0, calls_see on x y cs shows all.1)

stage_view_same : (on : Bounds) (x y : Publication) (s : Stage) → ShowsAlike on x y → StageOn on s → stage_view x s ≡ stage_view y s
stage_view_same on x y (Unnamed kind) shows is = refl
stage_view_same on x y (Ready kind sel seen headed) shows is = ap (view_where_new seen) (shows sel is)
stage_view_same on x y (Asking first rest got) shows is = refl

views_same : (on : Bounds) (x y : Publication) (cs : List ServedCall) → ShowsAlike on x y → CallsOn on cs → map (call_view x) cs ≡ map (call_view y) cs
views_same on x y [] shows all = refl
views_same on x y (c ∷ cs) shows all = λ i. stage_view_same on x y c.stage shows all.0 i ∷ views_same on x y cs shows all.1 i

pub turn_same : (on : Bounds) (x y : Publication) (s : SessionState) → ShowsAlike on x y → SessionOn on s → unshown (turn_told x s).after ≡ unshown (turn_told y s).after
unfolding turn_told
turn_same on x y (Running e t shown) shows all = ap (λ (said : Said). Running e said.after None) (alike x y t (calls_see on x y t.served shows all))
turn_same on x y (Fallen fault begun) shows all = refl
turn_same on x y OutOfMemory shows all = refl

pub turn_items_same : (on : Bounds) (x y : Publication) (s : SessionState) (before : List Item) → ShowsAlike on x y → SessionOn on s → turn_items x s before ≡ turn_items y s before
turn_items_same on x y (Running e t shown) before shows all = ap (views_item before) (views_same on x y t.served shows all)
turn_items_same on x y (Fallen fault begun) before shows all = refl
turn_items_same on x y OutOfMemory before shows all = refl
