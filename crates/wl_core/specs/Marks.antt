-- Which sessions are marked: those to whose callers a publication since their last turn may show something else (own rule).
use Rattle.std.specs.Prelude.{◌≡◌, ◌⊎◌, ◌<◌, ◌||◌, ℕ, ◌==◌, Bool, true, false, if◌then◌else◌, List, [], ◌∷◌, ◌++◌, map, length, replicate, slice_set, slice_index_or, Option, Some, None}
use Rattle.std.specs.List.{list_any}
use Rattle.wl_snapshot.specs.Snapshots.{Publication}
use Rattle.wl_subscribe.specs.Filed.{has_number}
use Rattle.wl_subscribe.specs.Subscribed.{Subscribed, nobody, with_member, without_member, affected_numbers}
use Rattle.wl_session.specs.Settled.{EachIsIn, IsShown}
use Rattle.wl_core.specs.declared.events.Event.{Event}
use Rattle.wl_core.specs.declared.events.Event.TheVariants as events
use Rattle.wl_core.specs.declared.events.TheConstants.{CONNS}
use Rattle.wl_core.specs.declared.marks.Mark.{Mark}
use Rattle.wl_core.specs.declared.seats.Seat.{Seat}
use Rattle.wl_core.specs.Seats.{seat_at}

-- the subscribers, and of each connection the numbers of its callers among them and whether its session is marked
pub record Marked : Type 0 where
  pub subscribed : Subscribed
  pub marks : List Mark

abbrev pub no_mark : Mark
no_mark = record { ids = []; is_marked = true }

abbrev pub mark_at : List Mark → ℕ → Mark
mark_at marks conn = slice_index_or marks conn no_mark

abbrev pub none_marked : Marked
none_marked = record { subscribed = nobody; marks = replicate CONNS no_mark }

abbrev pub changed_at : ℕ → (Mark → Mark) → Marked → Marked
changed_at conn change m = record m { marks = slice_set m.marks conn (change (mark_at m.marks conn)) }

-- ---- what changes

abbrev pub with_number : ℕ → Mark → Mark
with_number number mark = record { ids = mark.ids ++ number ∷ []; is_marked = mark.is_marked }

-- a caller of a connection is one subscriber more
abbrev pub with_caller : ℕ → List (List ℕ) → Marked → Marked
with_caller conn selectors m = changed_at conn (with_number m.subscribed.next) (record m { subscribed = with_member selectors m.subscribed })

-- the session is marked, or not any more
abbrev pub marked_as : Bool → ℕ → Marked → Marked
marked_as is_marked conn m = changed_at conn (λ mark. record { ids = mark.ids; is_marked = is_marked }) m

-- these subscribers leave
unfoldable pub without_members : List ℕ → Subscribed → Subscribed
without_members [] s = s
without_members (n ∷ ns) s = without_members ns (without_member n s)

-- the callers of a connection leave
abbrev pub without_callers : ℕ → Marked → Marked
without_callers conn m = record { subscribed = without_members (mark_at m.marks conn).ids m.subscribed; marks = slice_set m.marks conn no_mark }

-- a session is marked where a caller of it is one of these
abbrev pub marked_by : List ℕ → Mark → Mark
marked_by numbers mark = record { ids = mark.ids; is_marked = mark.is_marked || list_any (has_number numbers) mark.ids }

-- after a publication: those of whose callers one sees something else in it
abbrev pub marked_after : Publication → Publication → Marked → Marked
marked_after old new m = if old.number == new.number then m else record m { marks = map (marked_by (affected_numbers old new m.subscribed)) m.marks }

-- ---- an event

abbrev pub noted_join : Option Seat → ℕ → List (List ℕ) → Marked → Marked
noted_join None conn selectors m = marked_as true conn (with_caller conn selectors m)
noted_join (Some seat) conn selectors m = m

abbrev pub noted_caller : ℕ → Option (List (List ℕ)) → Marked → Marked
noted_caller conn None m = m
noted_caller conn (Some selectors) m = with_caller conn selectors m

abbrev pub noted_name : Option Seat → ℕ → Option (List (List ℕ)) → Marked → Marked
noted_name None conn caller m = m
noted_name (Some seat) conn caller m = noted_caller conn caller m

-- A session is subscribed once with the selectors of its Join and once with those of each of its Names; all of them leave at
-- its Close. It begins marked, and a turn takes the mark off.
abbrev pub noted : Event → List (Option Seat) → Marked → Marked
noted (events.Sync document) seats m = m
noted (events.Claim now) seats m = m
noted (events.Signed ticket signed now) seats m = m
noted (events.Failed ticket) seats m = m
noted (events.Join conn selectors) seats m = noted_join (seat_at seats conn) conn selectors m
noted (events.Name conn caller) seats m = noted_name (seat_at seats conn) conn caller m
noted (events.Feed conn piece) seats m = m
noted (events.Turn conn) seats m = marked_as false conn m
noted (events.Token conn now given) seats m = m
noted (events.Close conn) seats m = without_callers conn m

-- the session that takes a turn is marked; nothing is said of other events
abbrev pub IsTurnMarked : Bool → Event → List Mark → Type 0
IsTurnMarked is_marked (events.Turn conn) marks = is_marked ≡ (mark_at marks conn).is_marked
IsTurnMarked is_marked (events.Sync document) marks = Unit {0}
IsTurnMarked is_marked (events.Claim now) marks = Unit {0}
IsTurnMarked is_marked (events.Signed ticket signed now) marks = Unit {0}
IsTurnMarked is_marked (events.Failed ticket) marks = Unit {0}
IsTurnMarked is_marked (events.Join conn selectors) marks = Unit {0}
IsTurnMarked is_marked (events.Name conn caller) marks = Unit {0}
IsTurnMarked is_marked (events.Feed conn piece) marks = Unit {0}
IsTurnMarked is_marked (events.Token conn now given) marks = Unit {0}
IsTurnMarked is_marked (events.Close conn) marks = Unit {0}

-- ---- what holds between events

abbrev pub IsMember : List (ℕ × List (List ℕ)) → ℕ → List (List ℕ) → Type 0
IsMember [] number selectors = ⊥
IsMember (m ∷ ms) number selectors = (m ≡ (number, selectors)) ⊎ IsMember ms number selectors

-- these selectors are subscribed under one of these numbers
abbrev pub IsSubscribed : List (ℕ × List (List ℕ)) → List ℕ → List (List ℕ) → Type 0
IsSubscribed members ids selectors = (number : ℕ) × (has_number ids number ≡ true) × IsMember members number selectors

abbrev pub IsCaller : List (ℕ × List (List ℕ)) → List ℕ → Option (List (List ℕ)) → Type 0
IsCaller members ids None = Unit {0}
IsCaller members ids (Some selectors) = IsSubscribed members ids selectors

-- what a seat's calls are attested as is subscribed, so are those that were attested; and one that is not marked was shown
-- what this publication shows
pub record IsFollowed (p : Publication) (members : List (ℕ × List (List ℕ))) (mark : Mark) (seat : Seat) : Type 0 where
  pub caller : IsCaller members mark.ids seat.caller
  pub calls : EachIsIn (λ selectors seen. IsSubscribed members mark.ids selectors) seat.session
  pub shown : mark.is_marked ≡ false → IsShown p seat.session

abbrev pub IsFollowedAt : Publication → List (ℕ × List (List ℕ)) → Mark → Option Seat → Type 0
IsFollowedAt p members mark None = Unit {0}
IsFollowedAt p members mark (Some seat) = IsFollowed p members mark seat

-- a number is that of one connection alone, and below the next one
abbrev pub AreOwned : (ℕ → ℕ) → ℕ → List Mark → Type 0
AreOwned owner next marks = (conn number : ℕ) → has_number (mark_at marks conn).ids number ≡ true → (owner number ≡ conn) × (number < next)

pub record Follows (p : Publication) (m : Marked) (seats : List (Option Seat)) : Type 0 where
  pub room : length m.marks ≡ CONNS
  pub owned : (owner : ℕ → ℕ) × AreOwned owner m.subscribed.next m.marks
  pub each : (conn : ℕ) → IsFollowedAt p m.subscribed.members (mark_at m.marks conn) (seat_at seats conn)

-- a session that takes a turn and is not marked was shown what this publication shows
abbrev pub IsShownAt : Publication → Option Seat → Type 0
IsShownAt p None = Unit {0}
IsShownAt p (Some seat) = IsShown p seat.session

abbrev pub IsTurnShown : Publication → Event → List (Option Seat) → Type 0
IsTurnShown p (events.Turn conn) seats = IsShownAt p (seat_at seats conn)
IsTurnShown p (events.Sync document) seats = Unit {0}
IsTurnShown p (events.Claim now) seats = Unit {0}
IsTurnShown p (events.Signed ticket signed now) seats = Unit {0}
IsTurnShown p (events.Failed ticket) seats = Unit {0}
IsTurnShown p (events.Join conn selectors) seats = Unit {0}
IsTurnShown p (events.Name conn caller) seats = Unit {0}
IsTurnShown p (events.Feed conn piece) seats = Unit {0}
IsTurnShown p (events.Token conn now given) seats = Unit {0}
IsTurnShown p (events.Close conn) seats = Unit {0}
