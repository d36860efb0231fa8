-- Two runs: the kept tokens of the set and the sessions that are entitled to its entries alone stay the same.
use Rattle.std.proofs.Common.{◌≡◌, ℕ, ◌==◌, ◌<◌, ◌≤◌, ◌⊎◌, inl, inr, Bool, true, false, nat_lt, not, cond, if◌then◌else◌, List, [], ◌∷◌, filter, Option, Some, None, Result, Ok, Err, refl, sym, ap, subst, ◌∙◌, arith}
use Rattle.std.proofs.lemmas.Bool.Decides.{nat_tests}
use Rattle.wl_secrets.proofs.Common.{Signed, JwtToken, Store, Stored, JwtAsk, Item, feed_items, asks_in, CONNS, Event, Seat, joined_seat, named_seat, told_seat, feed_seat, turn_seat, tokens_of, Beginning, Moment, moment, token_seat, ask_of_seat, seat, seat_step, Attested, joined_as, named_as, attested_after, attested, Side}
use Rattle.wl_document.specs.declared.fault.DocFault.{DocFault}
use Rattle.wl_document.specs.States.{State}
use Rattle.jwt_cache.specs.declared.rings.CachedToken.{CachedToken}
use Rattle.wl_store.specs.Steps.{after_sync}
use Rattle.wl_session.specs.Items.{turn_items}
use Rattle.wl_core.specs.declared.events.Event.TheVariants as events
use Rattle.wl_core.specs.Seats.{seat_at}
use Rattle.wl_core.specs.Moments.{moment_after, reading_of, history_read, history_after_document, history_answered, store}
use Rattle.wl_core.specs.Traces.{ask_items, gain, joined_trace, trace_after, trace}
use Rattle.wl_core.proofs.SessionTraces.{equal_bytes}
use Rattle.wl_responses.proofs.Runs.{seat_next}
use Rattle.wl_secrets.specs.Runs.{Step, with_pair, first_run, second_run, is_at}
use Rattle.wl_secrets.specs.Sides.{ClosedNow, Closed}
use Rattle.wl_secrets.specs.Foreign.{FitsStep, Fits, ForeignUnseen, ForeignUntold, OthersUnseen}
use Rattle.wl_secrets.proofs.HiddenStores.{entries_alike}
use Rattle.wl_secrets.proofs.ViewModels.{AreAlike, view_same}
use Rattle.wl_secrets.proofs.ViewDependence.{ShowsAlike}
use Rattle.wl_secrets.proofs.Keeps.{KeepAlike, is_ours, kept_same, lost_alike, AskIs, answered_alike, answered_foreign}
use Rattle.wl_secrets.proofs.Seats.{vacant, bare, ask_alike, Near, step_alike, trace_alike, turn_near, turn_items_near, FoundAlike, token_near, token_items_near}
use Rattle.wl_secrets.proofs.SelectorSides.{Known, CoveredBy, bounds, on_side, side_before, covers_now, sided, ask_sided}
use Rattle.wl_secrets.proofs.TwoRuns.{reading_same, alike, skip, attested_past, side_same}

-- ---- sessions that are near

seat_known : (ours : List ℕ → Bool) (m n : Stored) (o : Option Seat) (a : Option Attested) → AreAlike ours m n → CoveredBy (on_side ours true) m.published a → Known (on_side ours true) o a
    → (bare (told_seat (turn_seat m.published) o) ≡ bare (told_seat (turn_seat n.published) o))
    × ((tr : Option (List Item)) → gain (λ s before. turn_items m.published s.session before) o tr ≡ gain (λ s before. turn_items n.published s.session before) o tr)
seat_known ours m n None a alike covers is = (refl, λ tr. refl)
seat_known ours m n (Some s) None alike covers is = absurd is
seat_known ours m n (Some s) (Some all) alike covers is =
    let shows : ShowsAlike (bounds (on_side ours true) all) m.published n.published = λ sel among. view_same ours m n sel alike (covers sel among) in
    (turn_near (bounds (on_side ours true) all) m.published n.published (Some s) shows is.1, λ tr. turn_items_near (bounds (on_side ours true) all) m.published n.published (Some s) tr shows is.1)

found_go : (ours : List ℕ → Bool) (m n : Stored) (h l : List CachedToken) (o : Option JwtAsk) → m.store.renew_before ≡ n.store.renew_before → KeepAlike ours h l → AskIs ours true o → FoundAlike (tokens_of m h) (tokens_of n l) o
found_go ours m n h l None renew keeps is = tt
found_go ours m n h l (Some a) renew keeps is = λ now. kept_same ours m n h l a now renew keeps is

near : (ours : List ℕ → Bool) (d : Beginning) (p q : List Event) (conn : ℕ) → conn < CONNS → AreAlike ours (store d p) (store d q) → KeepAlike ours (moment d p).history (moment d q).history → Side ours true d p conn
    → Near (moment d p) (moment d q) (seat d p conn)
near ours d p q conn within alike keeps side =
    let turns = seat_known ours (store d p) (store d q) (seat d p conn) (attested p conn) alike (covers_now ours true d p conn side) (sided ours true d p conn within side) in
    let found = found_go ours (store d p) (store d q) (moment d p).history (moment d q).history (ask_of_seat (seat d p conn)) (ap (λ (s : Store). s.renew_before) alike.store) keeps (ask_sided ours true d p conn within side) in
    record {
      turn = turns.0;
      turn_items = turns.1;
      token = λ now given. token_near (tokens_of (store d p) (moment d p).history) (tokens_of (store d q) (moment d q).history) now given (seat d p conn) found;
      token_items = λ now given tr. token_items_near (tokens_of (store d p) (moment d p).history) (tokens_of (store d q) (moment d q).history) now given (seat d p conn) tr found;
    }

-- ---- what two runs share

abbrev LiveAlike : Beginning → List Event → List Event → ℕ → Type 0
LiveAlike d p q conn = (bare (seat d p conn) ≡ bare (seat d q conn)) × (trace d p conn ≡ trace d q conn)

record Hid (ours : List ℕ → Bool) (out : ℕ → Bool) (d : Beginning) (p q : List Event) : Type 0 where
  keeps : KeepAlike ours (moment d p).history (moment d q).history
  lives : (conn : ℕ) → conn < CONNS → out conn ≡ false → Side ours true d p conn → LiveAlike d p q conn

-- ---- an event of both: the kept tokens

read_lost : (ours : List ℕ → Bool) (r : Result State DocFault) (m n : Stored) (h l : List CachedToken) → AreAlike ours m n → KeepAlike ours h l → KeepAlike ours (history_read r m h) (history_read r n l)
read_lost ours (Ok d) m n h l alike keeps =
    lost_alike ours m.store.entries (after_sync d m).entries n.store.entries (after_sync d n).entries h l (ap (λ (s : Store). s.entries) alike.store)
    (ap (λ (s : Store). s.entries) (entries_alike ours d.entries d.bundles d.renew_before m.store n.store alike.store)) keeps
read_lost ours (Err fault) m n h l alike keeps = keeps

document_lost : (ours : List ℕ → Bool) (document : List ℕ) (m n : Stored) (h l : List CachedToken) → AreAlike ours m n → KeepAlike ours h l → KeepAlike ours (history_after_document document m h) (history_after_document document n l)
document_lost ours document m n h l alike keeps =
    subst (λ (r : Result State DocFault). KeepAlike ours (history_read r m h) (history_after_document document n l)) (sym (reading_same ours document m n alike)) (read_lost ours (reading_of document n) m n h l alike keeps)

within_or_beyond : (conn : ℕ) → (conn < CONNS) ⊎ (CONNS ≤ conn)
within_or_beyond conn = go (nat_lt conn CONNS) refl
  where
    go : (b : Bool) → nat_lt conn CONNS ≡ b → (conn < CONNS) ⊎ (CONNS ≤ conn)
    go true is = inl (grind (arith, nat_tests, is))
    go false is = inr (grind (arith, nat_tests, is))

no_ask : (ours : List ℕ → Bool) (inside : Bool) (o : Option Seat) → o ≡ None → AskIs ours inside (ask_of_seat o)
no_ask ours inside None is = tt
no_ask ours inside (Some s) is = absurd (cc is)

-- each answer is foreign
both_foreign : (ours : List ℕ → Bool) (o r : Option JwtAsk) (m n : Stored) (now : ℕ) (given : Option JwtToken) (h l : List CachedToken) → KeepAlike ours h l → AskIs ours false o → AskIs ours false r
    → KeepAlike ours (history_answered o m now given h) (history_answered r n now given l)
both_foreign ours o r m n now given h l keeps one two = answered_foreign ours o m now given h one ∙ (keeps ∙ sym (answered_foreign ours r n now given l two))

token_keeps : (ours : List ℕ → Bool) (out : ℕ → Bool) (d : Beginning) (p q : List Event) (k now : ℕ) (given : Option JwtToken) → AreAlike ours (store d p) (store d q) → Hid ours out d p q → out k ≡ false
    → (Side ours false d p k → Side ours false d q k) → ClosedNow ours out d (events.Token k now given ∷ p)
    → KeepAlike ours (history_answered (ask_of_seat (seat d p k)) (store d p) now given (moment d p).history) (history_answered (ask_of_seat (seat d q k)) (store d q) now given (moment d q).history)
token_keeps ours out d p q k now given alike hid here moves closed = go (within_or_beyond k)
  where
    e : Event
    e = events.Token k now given

    asks : List Event → Option JwtAsk
    asks past = ask_of_seat (seat d past k)

    sides : k < CONNS → Side ours true d (e ∷ p) k ⊎ Side ours false d (e ∷ p) k
        → KeepAlike ours (history_answered (asks p) (store d p) now given (moment d p).history) (history_answered (asks q) (store d q) now given (moment d q).history)
    sides within (inl side) =
        let before = side_before ours true d e p k (λ is. is) side in
        answered_alike ours (asks p) (store d p) (store d q) now given (moment d p).history (moment d q).history (ap (λ (s : Store). s.entries) alike.store) (ap (λ (s : Store). s.renew_before) alike.store) (ask_sided ours true d p k within before) hid.keeps
        ∙ ap (λ (o : Option JwtAsk). filter (is_ours ours) (history_answered o (store d q) now given (moment d q).history)) (ask_alike (seat d p k) (seat d q k) (hid.lives k within here before).0)
    sides within (inr side) =
        let before = side_before ours false d e p k (λ is. is) side in
        both_foreign ours (asks p) (asks q) (store d p) (store d q) now given (moment d p).history (moment d q).history hid.keeps (ask_sided ours false d p k within before) (ask_sided ours false d q k within (moves before))

    go : (k < CONNS) ⊎ (CONNS ≤ k) → KeepAlike ours (history_answered (asks p) (store d p) now given (moment d p).history) (history_answered (asks q) (store d q) now given (moment d q).history)
    go (inl within) = sides within (closed k within).0
    go (inr beyond) =
        both_foreign ours (asks p) (asks q) (store d p) (store d q) now given (moment d p).history (moment d q).history hid.keeps
        (no_ask ours false (seat d p k) (vacant d p k beyond)) (no_ask ours false (seat d q k) (vacant d q k beyond))

keeps_both : (ours : List ℕ → Bool) (out : ℕ → Bool) (d : Beginning) (e : Event) (p q : List Event) → AreAlike ours (store d p) (store d q) → Hid ours out d p q → is_at out e ≡ false
    → ((k : ℕ) → out k ≡ false → Side ours false d p k → Side ours false d q k) → ClosedNow ours out d (e ∷ p) → KeepAlike ours (moment d (e ∷ p)).history (moment d (e ∷ q)).history
unfolding moment_after
keeps_both ours out d (events.Sync document) p q alike hid here moves closed = document_lost ours document (store d p) (store d q) (moment d p).history (moment d q).history alike hid.keeps
keeps_both ours out d (events.Claim now) p q alike hid here moves closed = hid.keeps
keeps_both ours out d (events.Signed ticket g now) p q alike hid here moves closed = hid.keeps
keeps_both ours out d (events.Failed ticket) p q alike hid here moves closed = hid.keeps
keeps_both ours out d (events.Join k selectors) p q alike hid here moves closed = hid.keeps
keeps_both ours out d (events.Name k caller) p q alike hid here moves closed = hid.keeps
keeps_both ours out d (events.Feed k piece) p q alike hid here moves closed = hid.keeps
keeps_both ours out d (events.Turn k) p q alike hid here moves closed = hid.keeps
keeps_both ours out d (events.Token k now given) p q alike hid here moves closed = token_keeps ours out d p q k now given alike hid here (moves k here) closed
keeps_both ours out d (events.Close k) p q alike hid here moves closed = hid.keeps

-- ---- an event of both: the sessions

-- the session ends with the event
abbrev Closes : Event → ℕ → Type 0
Closes (events.Sync document) conn = ⊥
Closes (events.Claim now) conn = ⊥
Closes (events.Signed ticket g now) conn = ⊥
Closes (events.Failed ticket) conn = ⊥
Closes (events.Join k selectors) conn = ⊥
Closes (events.Name k caller) conn = ⊥
Closes (events.Feed k piece) conn = ⊥
Closes (events.Turn k) conn = ⊥
Closes (events.Token k now given) conn = ⊥
Closes (events.Close k) conn = (k == conn) ≡ true

join_none : (b : Bool) (selectors : List (List ℕ)) (a : Option Attested) → (if b then joined_as selectors a else a) ≡ None → a ≡ None
join_none b selectors None is = refl
join_none true selectors (Some all) is = is
join_none false selectors (Some all) is = is

name_none : (b : Bool) (caller : Option (List (List ℕ))) (a : Option Attested) → (if b then named_as caller a else a) ≡ None → a ≡ None
name_none b caller None is = refl
name_none true None (Some all) is = is
name_none true (Some sel) (Some all) is = absurd (cc is)
name_none false caller (Some all) is = is

none_before : (e : Event) (conn : ℕ) (a : Option Attested) → Closes e conn ⊎ (attested_after e conn a ≡ None → a ≡ None)
none_before (events.Sync document) conn a = inr (λ is. is)
none_before (events.Claim now) conn a = inr (λ is. is)
none_before (events.Signed ticket g now) conn a = inr (λ is. is)
none_before (events.Failed ticket) conn a = inr (λ is. is)
none_before (events.Join k selectors) conn a = inr (join_none (k == conn) selectors a)
none_before (events.Name k caller) conn a = inr (name_none (k == conn) caller a)
none_before (events.Feed k piece) conn a = inr (λ is. is)
none_before (events.Turn k) conn a = inr (λ is. is)
none_before (events.Token k now given) conn a = inr (λ is. is)
none_before (events.Close k) conn a = go (k == conn) refl
  where
    go : (b : Bool) → (k == conn) ≡ b → ((k == conn) ≡ true) ⊎ ((if k == conn then None else a) ≡ None → a ≡ None)
    go true is = inl is
    go false is = inr (λ none. sym (ap (λ (b : Bool). if b then None else a) is) ∙ none)

closed_seat : (e : Event) (conn : ℕ) (m : Moment) (o : Option Seat) → Closes e conn → seat_step e conn m o ≡ None
closed_seat (events.Sync document) conn m o is = absurd is
closed_seat (events.Claim now) conn m o is = absurd is
closed_seat (events.Signed ticket g now) conn m o is = absurd is
closed_seat (events.Failed ticket) conn m o is = absurd is
closed_seat (events.Join k selectors) conn m o is = absurd is
closed_seat (events.Name k caller) conn m o is = absurd is
closed_seat (events.Feed k piece) conn m o is = absurd is
closed_seat (events.Turn k) conn m o is = absurd is
closed_seat (events.Token k now given) conn m o is = absurd is
closed_seat (events.Close k) conn m o is = ap (λ (b : Bool). if b then None else o) is

closed_trace : (e : Event) (conn : ℕ) (m : Moment) (tr : Option (List Item)) → Closes e conn → trace_after e conn m tr ≡ None
closed_trace (events.Sync document) conn m tr is = absurd is
closed_trace (events.Claim now) conn m tr is = absurd is
closed_trace (events.Signed ticket g now) conn m tr is = absurd is
closed_trace (events.Failed ticket) conn m tr is = absurd is
closed_trace (events.Join k selectors) conn m tr is = absurd is
closed_trace (events.Name k caller) conn m tr is = absurd is
closed_trace (events.Feed k piece) conn m tr is = absurd is
closed_trace (events.Turn k) conn m tr is = absurd is
closed_trace (events.Token k now given) conn m tr is = absurd is
closed_trace (events.Close k) conn m tr is = ap (λ (b : Bool). if b then None else tr) is

lives_both : (ours : List ℕ → Bool) (out : ℕ → Bool) (d : Beginning) (e : Event) (p q : List Event) (conn : ℕ) → AreAlike ours (store d p) (store d q) → Hid ours out d p q → conn < CONNS → out conn ≡ false
    → Side ours true d (e ∷ p) conn → LiveAlike d (e ∷ p) (e ∷ q) conn
lives_both ours out d e p q conn alike hid within here side = go (none_before e conn (attested p conn))
  where
    m : Moment
    m = moment d p

    n : Moment
    n = moment d q

    next : bare (seat_step e conn m (seat d p conn)) ≡ bare (seat_step e conn n (seat d q conn)) → bare (seat d (e ∷ p) conn) ≡ bare (seat d (e ∷ q) conn)
    next same = ap bare (seat_next d e p conn within) ∙ (same ∙ sym (ap bare (seat_next d e q conn within)))

    go : Closes e conn ⊎ (attested (e ∷ p) conn ≡ None → attested p conn ≡ None) → LiveAlike d (e ∷ p) (e ∷ q) conn
    go (inl closes) =
        (next (ap bare (closed_seat e conn m (seat d p conn) closes ∙ sym (closed_seat e conn n (seat d q conn) closes))), closed_trace e conn m (trace d p conn) closes ∙ sym (closed_trace e conn n (trace d q conn) closes))
    go (inr none) =
        let before = side_before ours true d e p conn none side in
        let live = hid.lives conn within here before in
        let by = near ours d p q conn within alike hid.keeps before in
        (next (step_alike e conn m n (seat d p conn) (seat d q conn) by live.0), trace_alike e conn m n (trace d p conn) (trace d q conn) by live.0 live.1)

-- ---- an event of the first run alone

seat_only : (out : ℕ → Bool) (e : Event) (conn : ℕ) (m : Moment) (o : Option Seat) → is_at out e ≡ true → out conn ≡ false → seat_step e conn m o ≡ o
seat_only out (events.Sync document) conn m o is here = refl
seat_only out (events.Claim now) conn m o is here = refl
seat_only out (events.Signed ticket g now) conn m o is here = refl
seat_only out (events.Failed ticket) conn m o is here = refl
seat_only out (events.Join k selectors) conn m o is here = skip out k conn (joined_seat selectors o) o is here
seat_only out (events.Name k caller) conn m o is here = skip out k conn (named_seat caller o) o is here
seat_only out (events.Feed k piece) conn m o is here = skip out k conn (told_seat (feed_seat piece) o) o is here
seat_only out (events.Turn k) conn m o is here = skip out k conn (told_seat (turn_seat m.stored.published) o) o is here
seat_only out (events.Token k now given) conn m o is here = skip out k conn (told_seat (token_seat (tokens_of m.stored m.history) now given) o) o is here
seat_only out (events.Close k) conn m o is here = skip out k conn None o is here

trace_only : (out : ℕ → Bool) (e : Event) (conn : ℕ) (m : Moment) (tr : Option (List Item)) → is_at out e ≡ true → out conn ≡ false → trace_after e conn m tr ≡ tr
trace_only out (events.Sync document) conn m tr is here = refl
trace_only out (events.Claim now) conn m tr is here = refl
trace_only out (events.Signed ticket g now) conn m tr is here = refl
trace_only out (events.Failed ticket) conn m tr is here = refl
trace_only out (events.Join k selectors) conn m tr is here = skip out k conn (joined_trace tr) tr is here
trace_only out (events.Name k caller) conn m tr is here = refl
trace_only out (events.Feed k piece) conn m tr is here = skip out k conn (gain (λ s before. feed_items piece s.caller s.session) (seat_at m.seats conn) tr) tr is here
trace_only out (events.Turn k) conn m tr is here = skip out k conn (gain (λ s before. turn_items m.stored.published s.session before) (seat_at m.seats conn) tr) tr is here
trace_only out (events.Token k now given) conn m tr is here = skip out k conn (gain (λ s before. ask_items (tokens_of m.stored m.history) now given (asks_in s.session)) (seat_at m.seats conn) tr) tr is here
trace_only out (events.Close k) conn m tr is here = skip out k conn None tr is here

lives_only : (ours : List ℕ → Bool) (out : ℕ → Bool) (d : Beginning) (e : Event) (p q : List Event) (conn : ℕ) → Hid ours out d p q → is_at out e ≡ true → conn < CONNS → out conn ≡ false
    → Side ours true d (e ∷ p) conn → LiveAlike d (e ∷ p) q conn
lives_only ours out d e p q conn hid is within here side =
    let before = side_before ours true d e p conn (λ none. sym (attested_past out e p conn is here) ∙ none) side in
    let live = hid.lives conn within here before in
    (ap bare (seat_next d e p conn within ∙ seat_only out e conn (moment d p) (seat d p conn) is here) ∙ live.0, trace_only out e conn (moment d p) (trace d p conn) is here ∙ live.1)

token_only : (ours : List ℕ → Bool) (out : ℕ → Bool) (d : Beginning) (p : List Event) (k now : ℕ) (given : Option JwtToken) → out k ≡ true → ClosedNow ours out d (events.Token k now given ∷ p)
    → KeepAlike ours (history_answered (ask_of_seat (seat d p k)) (store d p) now given (moment d p).history) (moment d p).history
token_only ours out d p k now given there closed = answered_foreign ours (ask_of_seat (seat d p k)) (store d p) now given (moment d p).history (go (within_or_beyond k))
  where
    go : (k < CONNS) ⊎ (CONNS ≤ k) → AskIs ours false (ask_of_seat (seat d p k))
    go (inl within) = ask_sided ours false d p k within (side_before ours false d (events.Token k now given) p k (λ is. is) ((closed k within).1 there))
    go (inr beyond) = no_ask ours false (seat d p k) (vacant d p k beyond)

keeps_only : (ours : List ℕ → Bool) (out : ℕ → Bool) (d : Beginning) (e : Event) (p : List Event) → is_at out e ≡ true → ClosedNow ours out d (e ∷ p) → KeepAlike ours (moment d (e ∷ p)).history (moment d p).history
unfolding moment_after
keeps_only ours out d (events.Sync document) p is closed = absurd (cc is)
keeps_only ours out d (events.Claim now) p is closed = absurd (cc is)
keeps_only ours out d (events.Signed ticket g now) p is closed = absurd (cc is)
keeps_only ours out d (events.Failed ticket) p is closed = absurd (cc is)
keeps_only ours out d (events.Join k selectors) p is closed = refl
keeps_only ours out d (events.Name k caller) p is closed = refl
keeps_only ours out d (events.Feed k piece) p is closed = refl
keeps_only ours out d (events.Turn k) p is closed = refl
keeps_only ours out d (events.Token k now given) p is closed = token_only ours out d p k now given is closed
keeps_only ours out d (events.Close k) p is closed = refl

-- ---- a replaced identity

replaced : (ours : List ℕ → Bool) (out : ℕ → Bool) (d : Beginning) (n : ℕ) (g h : Signed) (now : ℕ) (p q : List Event) → Hid ours out d p q → Hid ours out d (events.Signed n g now ∷ p) (events.Signed n h now ∷ q)
unfolding moment_after
replaced ours out d n g h now p q hid =
    record { keeps = hid.keeps; lives = λ conn within here side. hid.lives conn within here (side_before ours true d (events.Signed n g now) p conn (λ is. is) side) }

-- ---- the laws

hid : (ours : List ℕ → Bool) (out : ℕ → Bool) (d : Beginning) (steps : List Step) → Fits ours out d steps → Closed ours out d (first_run steps) → Hid ours out d (first_run steps) (second_run steps)
hid ours out d [] fits closed = record { keeps = refl; lives = λ conn within here side. (refl, refl) }
hid ours out d (Step.Both e ∷ steps) fits closed =
    let p = first_run steps in
    let q = second_run steps in
    let same = alike ours out d steps fits.0 in
    let before = hid ours out d steps fits.0 closed.0 in
    record {
      keeps = keeps_both ours out d e p q same before fits.1 (λ k here side. side_same ours out false d steps k fits.0 here side) closed.1;
      lives = λ conn within here side. lives_both ours out d e p q conn same before within here side;
    }
hid ours out d (Step.Replaced ticket g chain key now ∷ steps) fits closed =
    replaced ours out d ticket g (with_pair chain key g) now (first_run steps) (second_run steps) (hid ours out d steps fits.0 closed.0)
hid ours out d (Step.Only e ∷ steps) fits closed =
    let p = first_run steps in
    let q = second_run steps in
    let before = hid ours out d steps fits.0 closed.0 in
    record {
      keeps = keeps_only ours out d e p fits.1 closed.1 ∙ before.keeps;
      lives = λ conn within here side. lives_only ours out d e p q conn before fits.1 within here side;
    }

pub foreign_unseen : ForeignUnseen
foreign_unseen ours out d steps fits closed conn within here side = ((hid ours out d steps fits closed).lives conn within here side).1

pub foreign_untold : ForeignUntold
foreign_untold ours out d steps fits closed conn within here side items is =
    equal_bytes d d (first_run steps) (second_run steps) conn conn items within within is (sym (foreign_unseen ours out d steps fits closed conn within here side) ∙ is)

-- ---- the second half alone

-- what is left out happened in the first run alone
abbrev step_by : Bool → Event → Step
step_by true e = Step.Only e
step_by false e = Step.Both e

abbrev parted : (ℕ → Bool) → List Event → List Step
parted out [] = []
parted out (e ∷ past) = step_by (is_at out e) e ∷ parted out past

first_by : (b : Bool) (e : Event) (steps : List Step) → first_run (step_by b e ∷ steps) ≡ e ∷ first_run steps
first_by true e steps = refl
first_by false e steps = refl

second_by : (b : Bool) (e : Event) (steps : List Step) → second_run (step_by b e ∷ steps) ≡ cond (not b) (e ∷ second_run steps) (second_run steps)
second_by true e steps = refl
second_by false e steps = refl

first_parted : (out : ℕ → Bool) (past : List Event) → first_run (parted out past) ≡ past
first_parted out [] = refl
first_parted out (e ∷ past) = first_by (is_at out e) e (parted out past) ∙ ap (λ (es : List Event). e ∷ es) (first_parted out past)

second_parted : (out : ℕ → Bool) (past : List Event) → second_run (parted out past) ≡ filter (λ e. not (is_at out e)) past
second_parted out [] = refl
second_parted out (e ∷ past) = second_by (is_at out e) e (parted out past) ∙ ap (λ (es : List Event). cond (not (is_at out e)) (e ∷ es) es) (second_parted out past)

fits_by : (ours : List ℕ → Bool) (out : ℕ → Bool) (e : Event) (m : Stored) (b : Bool) → is_at out e ≡ b → FitsStep ours out (step_by b e) m
fits_by ours out e m true is = is
fits_by ours out e m false is = is

fits_parted : (ours : List ℕ → Bool) (out : ℕ → Bool) (d : Beginning) (past : List Event) → Fits ours out d (parted out past)
fits_parted ours out d [] = tt
fits_parted ours out d (e ∷ past) = (fits_parted ours out d past, fits_by ours out e (store d (first_run (parted out past))) (is_at out e) refl)

pub others_unseen : OthersUnseen
others_unseen ours out d past closed conn within here side =
    let steps = parted out past in
    let first = first_parted out past in
    ap (λ (es : List Event). trace d es conn) (sym first)
    ∙ (foreign_unseen ours out d steps (fits_parted ours out d past) (subst (λ (es : List Event). Closed ours out d es) (sym first) closed) conn within here (subst (λ (es : List Event). Side ours true d es conn) (sym first) side)
    ∙ ap (λ (es : List Event). trace d es conn) (second_parted out past))
