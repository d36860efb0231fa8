-- Who comes and goes on a connection.
use Rattle.std.proofs.Common.{◌≡◌, ℕ, ◌+◌, List, [], ◌∷◌, ◌++◌, Option, Some, None, slice_set, replicate, refl}
use Rattle.std.proofs.lemmas.List.{replicate-append-replicate}
use Rattle.wl_core.proofs.Common.{SessionFault, SessionState, fresh_session, failure_in, Line, Seat, Told, seat_at, joined_seat, named_seat, join_lines, name_lines, told_lines, out_lines, failure_lines}
use Rattle.wl_core.specs.declared.lines.Line.TheVariants as lines
use Rattle.wl_session.specs.Steps.{IsTold}
use Rattle.wl_core.specs.Lines.{caller_line}
use Rattle.wl_core.proofs.CallAnswers.{seat_set, seat_left, seat_said, told_said, told_lines_of}

-- one connection more on which there is no session
pub one_more : (none : Option Seat) (n : ℕ) → replicate n none ++ none ∷ [] ≡ replicate (n + 1) none
one_more none n = replicate-append-replicate n 1 none

pub busy_set : (seats : List (Option Seat)) (conn : ℕ) (selectors : List (List ℕ)) (old : Seat) → Some old ≡ seat_at seats conn
    → slice_set (slice_set seats conn None) conn (Some old) ≡ slice_set seats conn (joined_seat selectors (seat_at seats conn))
busy_set seats conn selectors old is = seat_set seats conn (joined_seat selectors) (Some old) (Some old) is refl

pub busy_said : (seats : List (Option Seat)) (conn : ℕ) (old : Seat) (said : List Line) → Some old ≡ seat_at seats conn → said ≡ lines.Busy conn ∷ [] → said ≡ join_lines conn (seat_at seats conn)
busy_said seats conn old said is says = seat_said seats conn (join_lines conn) (Some old) said is says

pub new_set : (seats : List (Option Seat)) (conn : ℕ) (selectors : List (List ℕ)) → None ≡ seat_at seats conn
    → slice_set (slice_set seats conn None) conn (Some (record { caller = Some selectors; session = fresh_session })) ≡ slice_set seats conn (joined_seat selectors (seat_at seats conn))
new_set seats conn selectors is = seat_set seats conn (joined_seat selectors) None (Some (record { caller = Some selectors; session = fresh_session })) is refl

pub new_said : (seats : List (Option Seat)) (conn : ℕ) (said : List Line) → None ≡ seat_at seats conn → said ≡ lines.Joined conn ∷ [] → said ≡ join_lines conn (seat_at seats conn)
new_said seats conn said is says = seat_said seats conn (join_lines conn) None said is says

pub named_set : (seats : List (Option Seat)) (conn : ℕ) (caller : Option (List (List ℕ))) (old : Seat) → Some old ≡ seat_at seats conn
    → slice_set (slice_set seats conn None) conn (Some (record { caller = caller; session = old.session })) ≡ slice_set seats conn (named_seat caller (seat_at seats conn))
named_set seats conn caller old is = seat_set seats conn (named_seat caller) (Some old) (Some (record { caller = caller; session = old.session })) is refl

pub named_said : (seats : List (Option Seat)) (conn : ℕ) (caller : Option (List (List ℕ))) (old : Seat) (said : List Line) → Some old ≡ seat_at seats conn → said ≡ caller_line conn caller ∷ []
    → said ≡ name_lines conn caller (seat_at seats conn)
named_said seats conn caller old said is says = seat_said seats conn (name_lines conn caller) (Some old) said is says

pub unnamed_set : (seats : List (Option Seat)) (conn : ℕ) (caller : Option (List (List ℕ))) → None ≡ seat_at seats conn → slice_set seats conn None ≡ slice_set seats conn (named_seat caller (seat_at seats conn))
unnamed_set seats conn caller is = seat_left seats conn (named_seat caller) None is refl

pub unnamed_said : (seats : List (Option Seat)) (conn : ℕ) (caller : Option (List (List ℕ))) (said : List Line) → None ≡ seat_at seats conn → said ≡ lines.Absent conn ∷ []
    → said ≡ name_lines conn caller (seat_at seats conn)
unnamed_said seats conn caller said is says = seat_said seats conn (name_lines conn caller) None said is says

pub absent_said : (seats : List (Option Seat)) (conn : ℕ) (tell : Seat → Told) (said : List Line) → None ≡ seat_at seats conn → said ≡ lines.Absent conn ∷ []
    → said ≡ told_lines conn tell (seat_at seats conn)
absent_said seats conn tell said is says = seat_said seats conn (told_lines conn tell) None said is says

pub written_said : (seats : List (Option Seat)) (conn : ℕ) (tell : Seat → Told) (old : Seat) (s : SessionState) (out : List ℕ) (failure : Option SessionFault) (said : List Line)
    → Some old ≡ seat_at seats conn → IsTold (tell old) s [] out → failure ≡ failure_in s → said ≡ out_lines conn out ++ failure_lines conn failure
    → said ≡ told_lines conn tell (seat_at seats conn)
written_said seats conn tell old s out failure said is told fails says =
    told_said seats conn tell old said is (told_lines_of conn (tell old) s out failure said told fails says)
