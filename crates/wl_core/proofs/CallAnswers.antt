-- What the calls of a session give is what it is to do.
use Rattle.std.proofs.Common.{◌≡◌, ℕ, List, [], ◌++◌, Option, Some, None, Ok, Err, slice_set, sym, ap, ◌∙◌, append_assoc}
use Rattle.std.proofs.lemmas.List.{append-nil, set-set}
use Rattle.std.specs.Prelude.{IsSome}
use Rattle.h2_frame.specs.Reading.{End, reading_from}
use Rattle.h2_conn.specs.declared.fault.ConnFault.{ConnFault}
use Rattle.wl_core.proofs.Common.{Publication, JwtOutcome, SessionFault, SessionState, Running, Fallen, OutOfMemory, asks_in, failure_in, Line, Seat, Told, outcome_told, seat_at, told_seat, with_told, out_lines, failure_lines, told_lines, session_lines}
use Rattle.wl_session.specs.declared.asks.SessionFault.TheVariants as faults
use Rattle.wl_session.specs.Talks.{Said, then_}
use Rattle.wl_session.specs.Sessions.{state_of_fault, state_after, feed_said, Feeds, Turns, GivesOutcome}
use Rattle.wl_session.specs.Steps.{IsTold, runs_on, all_named, names_told, fed_by, fed_to, feed_told, turn_told}

fed_on : (e : End) (shown : Option Publication) (caller : Option (List (List ℕ))) (due : Said) (old mid now : List ℕ) (s1 : SessionState)
    → due.fault ≡ None → mid ≡ old ++ due.bytes → s1 ≡ state_after e due shown → now ≡ mid ++ (names_told caller s1).bytes
    → IsTold (fed_to e shown caller due) (names_told caller s1).after old now
unfolding names_told
fed_on e shown caller due old mid now s1 none wrote is named =
    let running : s1 ≡ Running e due.after shown = is ∙ ap (λ (f : Option ConnFault). state_of_fault f e due.after shown) none in
    let went : fed_to e shown caller due ≡ runs_on e shown (then_ due (all_named caller)) = ap (λ (f : Option ConnFault). fed_by f e shown caller due) none in
    record {
      after = ap (λ (s : SessionState). (names_told caller s).after) running ∙ sym (ap (λ (t : Told). t.after) went);
      bytes = named ∙ ap (λ (s : SessionState). mid ++ (names_told caller s).bytes) running
          ∙ ap (λ (xs : List ℕ). xs ++ (all_named caller due.after).bytes) wrote
          ∙ append_assoc old due.bytes (all_named caller due.after).bytes
          ∙ sym (ap (λ (t : Told). old ++ t.bytes) went);
    }

pub fed_well : (piece : List ℕ) (caller : Option (List (List ℕ))) (s s1 : SessionState) (old mid now : List ℕ)
    → Feeds piece s (Ok tt) old mid s1 → now ≡ mid ++ (names_told caller s1).bytes
    → IsTold (feed_told piece caller s) (names_told caller s1).after old now
unfolding feed_told
fed_well piece caller (Running e t shown) s1 old mid now feeds named =
    fed_on (reading_from e piece).ending shown caller (feed_said (reading_from e piece) t) old mid now s1 feeds.0 feeds.1 feeds.2 named
fed_well piece caller (Fallen fault begun) s1 old mid now feeds named = absurd (cc feeds.0)
fed_well piece caller OutOfMemory s1 old mid now feeds named = absurd (cc feeds.0)

fallen_on : (e : End) (shown : Option Publication) (caller : Option (List (List ℕ))) (due : Said) (old now : List ℕ) (s1 : SessionState) (f : ConnFault)
    → due.fault ≡ Some f → now ≡ old ++ due.bytes → s1 ≡ state_after e due shown → IsTold (fed_to e shown caller due) s1 old now
fallen_on e shown caller due old now s1 f some wrote is =
    record {
      after = is ∙ ap (λ (g : Option ConnFault). state_of_fault g e due.after shown) some ∙ sym (ap (λ (g : Option ConnFault). (fed_by g e shown caller due).after) some);
      bytes = wrote ∙ sym (ap (λ (g : Option ConnFault). old ++ (fed_by g e shown caller due).bytes) some);
    }

pub fed_badly : (piece : List ℕ) (caller : Option (List (List ℕ))) (f : ConnFault) (s s1 : SessionState) (old now : List ℕ)
    → Feeds piece s (Err (faults.Protocol f)) old now s1 → IsTold (feed_told piece caller s) s1 old now
unfolding feed_told
fed_badly piece caller f (Running e t shown) s1 old now feeds =
    fallen_on (reading_from e piece).ending shown caller (feed_said (reading_from e piece) t) old now s1 f feeds.0 feeds.1 feeds.2
fed_badly piece caller f (Fallen fault begun) s1 old now feeds = record { after = feeds.2; bytes = feeds.1 ∙ sym (append-nil old) }
fed_badly piece caller f OutOfMemory s1 old now feeds = absurd (cc feeds.0)

pub turned_well : (p : Publication) (s s1 : SessionState) (old now : List ℕ) → Turns p s (Ok tt) old now s1 → IsTold (turn_told p s) s1 old now
unfolding turn_told
turned_well p (Running e t shown) s1 old now turns = record { after = turns.1; bytes = turns.0 }
turned_well p (Fallen fault begun) s1 old now turns = absurd (cc turns.0)
turned_well p OutOfMemory s1 old now turns = absurd (cc turns.0)

pub turned_badly : (p : Publication) (f : ConnFault) (s s1 : SessionState) (old now : List ℕ) → Turns p s (Err (faults.Protocol f)) old now s1 → IsTold (turn_told p s) s1 old now
unfolding turn_told
turned_badly p f (Running e t shown) s1 old now turns = absurd turns
turned_badly p f (Fallen fault begun) s1 old now turns = record { after = turns.2; bytes = turns.1 ∙ sym (append-nil old) }
turned_badly p f OutOfMemory s1 old now turns = absurd (cc turns.0)

pub given_well : (o : JwtOutcome) (s s1 : SessionState) (old now : List ℕ) → IsSome (asks_in s) → GivesOutcome o s (Ok tt) old now s1 → IsTold (outcome_told o s) s1 old now
unfolding outcome_told
given_well o (Running e t shown) s1 old now there gives = record { after = gives.1; bytes = gives.0 }
given_well o (Fallen fault begun) s1 old now there gives = absurd (cc there)
given_well o OutOfMemory s1 old now there gives = absurd (cc there)

-- ---- on a connection

told_is : (tell : Seat → Told) (old new : Seat) → new.caller ≡ old.caller → new.session ≡ (tell old).after → Some new ≡ told_seat tell (Some old)
told_is tell old new caller session =
    ap (λ (c : Option (List (List ℕ))). Some (record { caller = c; session = new.session })) caller
    ∙ ap (λ (s : SessionState). Some (record { caller = old.caller; session = s })) session

pub told_set : (seats : List (Option Seat)) (conn : ℕ) (tell : Seat → Told) (old new : Seat) → Some old ≡ seat_at seats conn → new.caller ≡ old.caller → new.session ≡ (tell old).after
    → slice_set (slice_set seats conn None) conn (Some new) ≡ with_told conn tell seats
told_set seats conn tell old new is caller session =
    set-set seats conn None (Some new)
    ∙ (ap (λ (o : Option Seat). slice_set seats conn o) (told_is tell old new caller session)
    ∙ ap (λ (o : Option Seat). slice_set seats conn (told_seat tell o)) is)

pub told_said : (seats : List (Option Seat)) (conn : ℕ) (tell : Seat → Told) (old : Seat) (lines : List Line) → Some old ≡ seat_at seats conn → lines ≡ session_lines conn (tell old)
    → lines ≡ told_lines conn tell (seat_at seats conn)
told_said seats conn tell old lines is said = said ∙ ap (λ (o : Option Seat). told_lines conn tell o) is

pub none_set : (seats : List (Option Seat)) (conn : ℕ) (tell : Seat → Told) → None ≡ seat_at seats conn → slice_set seats conn None ≡ with_told conn tell seats
none_set seats conn tell is = ap (λ (o : Option Seat). slice_set seats conn (told_seat tell o)) is

-- what a session wrote, and that it has failed
pub told_lines_of : (conn : ℕ) (told : Told) (s : SessionState) (out : List ℕ) (failure : Option SessionFault) (said : List Line) → IsTold told s [] out → failure ≡ failure_in s
    → said ≡ out_lines conn out ++ failure_lines conn failure → said ≡ session_lines conn told
told_lines_of conn told s out failure said is fails says =
    says ∙ (ap (λ (bytes : List ℕ). out_lines conn bytes ++ failure_lines conn failure) is.bytes
    ∙ ap (λ (f : Option SessionFault). out_lines conn told.bytes ++ failure_lines conn f) (fails ∙ ap failure_in is.after))

-- ---- what stands on a connection, and what is said of it

pub seat_set : (seats : List (Option Seat)) (conn : ℕ) (change : Option Seat → Option Seat) (old new : Option Seat) → old ≡ seat_at seats conn → new ≡ change old
    → slice_set (slice_set seats conn None) conn new ≡ slice_set seats conn (change (seat_at seats conn))
seat_set seats conn change old new is changed = set-set seats conn None new ∙ ap (λ (o : Option Seat). slice_set seats conn o) (changed ∙ ap change is)

pub seat_left : (seats : List (Option Seat)) (conn : ℕ) (change : Option Seat → Option Seat) (old : Option Seat) → old ≡ seat_at seats conn → None ≡ change old
    → slice_set seats conn None ≡ slice_set seats conn (change (seat_at seats conn))
seat_left seats conn change old is changed = ap (λ (o : Option Seat). slice_set seats conn o) (changed ∙ ap change is)

pub seat_said : (seats : List (Option Seat)) (conn : ℕ) (of : Option Seat → List Line) (old : Option Seat) (said : List Line) → old ≡ seat_at seats conn → said ≡ of old → said ≡ of (seat_at seats conn)
seat_said seats conn of old said is says = says ∙ ap of is
