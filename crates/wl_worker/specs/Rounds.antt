-- The trace of a served connection, round by round (own rules).
use Rattle.std.specs.Prelude.{◌≡◌, ◌⊎◌, ℕ, false, List, [], ◌∷◌, ◌++◌, Option, Some, None, IsSome}
use Rattle.h2_frame.specs.Reading.{reading_from}
use Rattle.wl_snapshot.specs.Snapshots.{Publication}
use Rattle.wl_publish.specs.Lists.{Numbered}
use Rattle.wl_edge.specs.declared.origin.Origin.{Origin}
use Rattle.wl_edge.specs.declared.link.Heard.{Heard}
use Rattle.wl_edge.specs.declared.link.Heard.TheVariants as heard
use Rattle.wl_session.specs.declared.asks.JwtAsk.{JwtAsk}
use Rattle.wl_session.specs.declared.asks.JwtOutcome.{JwtOutcome}
use Rattle.wl_session.specs.Sessions.{SessionState, Running, Fallen, OutOfMemory, fresh_session, feed_said, name_said, state_after, unnamed_in, asks_in, is_done_in, failure_in}
use Rattle.wl_session.specs.Steps.{Told, quiet, runs_on, turn_told, outcome_told}
use Rattle.wl_session.specs.Items.{Item, AttestedItem, UnattestedItem, OutcomeItem, reading_items, turn_items}

-- What a round takes from the outside: the piece that the link gave, which is empty where it was idle; what
-- the attestor answered for each call that became ready, where none is a failure, and the origin by which it was
-- asked; the publication that was read; and what became of each ask.
pub record Round : Type 0 where
  pub origin : Origin
  pub piece : List ℕ
  pub answers : List (Option (List (List ℕ)))
  pub shown : Option Publication
  pub outcomes : List JwtOutcome

-- ---- the steps of a round: what each makes of a session, and what the session writes

-- one step and then another
abbrev pub then_told : Told → (SessionState → Told) → Told
then_told first next =
    let rest = next first.after in
    record { after = rest.after; bytes = first.bytes ++ rest.bytes }

-- a piece: the frames in turn, and the fault of bytes that are none
unfoldable pub heard_told : List ℕ → SessionState → Told
heard_told piece (Running e t shown) =
    let r = reading_from e piece in
    record { after = state_after r.ending (feed_said r t) shown; bytes = (feed_said r t).bytes }
heard_told piece (Fallen fault begun) = quiet (Fallen fault begun)
heard_told piece OutOfMemory = quiet OutOfMemory

-- the first call that was not attested takes an answer
abbrev pub name_told : Option (List (List ℕ)) → SessionState → Told
name_told answer (Running e t shown) = runs_on e shown (name_said answer t)
name_told answer (Fallen fault begun) = quiet (Fallen fault begun)
name_told answer OutOfMemory = quiet OutOfMemory

abbrev pub name_told_at : Option ℕ → Option (List (List ℕ)) → SessionState → Told
name_told_at None answer s = quiet s
name_told_at (Some stream) answer s = name_told answer s

unfoldable pub answer_told : Option (List (List ℕ)) → SessionState → Told
answer_told answer s = name_told_at (unnamed_in s) answer s

-- lowest stream first, each takes the next answer
unfoldable pub answers_told : List (Option (List (List ℕ))) → SessionState → Told
answers_told [] s = quiet s
answers_told (a ∷ more) s = then_told (answer_told a s) (answers_told more)

-- a turn on the publication that was read
unfoldable pub shown_told : Option Publication → SessionState → Told
shown_told None s = quiet s
shown_told (Some p) s = turn_told p s

-- the first ask that waits gets an outcome
abbrev pub given_told_at : Option JwtAsk → JwtOutcome → SessionState → Told
given_told_at None o s = quiet s
given_told_at (Some a) o s = outcome_told o s

unfoldable pub given_told : JwtOutcome → SessionState → Told
given_told o s = given_told_at (asks_in s) o s

-- each ask gets the next outcome
unfoldable pub outcomes_told : List JwtOutcome → SessionState → Told
outcomes_told [] s = quiet s
outcomes_told (o ∷ more) s = then_told (given_told o s) (outcomes_told more)

-- after the piece; after the answers of the attestor; and after the turn
abbrev pub heard_session : Round → SessionState → SessionState
heard_session r s = (heard_told r.piece s).after

abbrev pub named_session : Round → SessionState → SessionState
named_session r s = (answers_told r.answers (heard_session r s)).after

abbrev pub turned_session : Round → SessionState → SessionState
turned_session r s = (shown_told r.shown (named_session r s)).after

-- a whole round
unfoldable pub round_told : Round → SessionState → Told
round_told r s = then_told (then_told (then_told (heard_told r.piece s) (answers_told r.answers)) (shown_told r.shown)) (outcomes_told r.outcomes)

-- ---- the items of a round

-- the frames that end in the piece, and that what came is none
abbrev pub heard_items : List ℕ → SessionState → List Item
heard_items piece (Running e t shown) = reading_items (reading_from e piece)
heard_items piece (Fallen fault begun) = []
heard_items piece OutOfMemory = []

abbrev pub answer_item : Option (List (List ℕ)) → ℕ → Item
answer_item None stream = UnattestedItem stream
answer_item (Some selectors) stream = AttestedItem stream

abbrev pub answer_item_at : Option ℕ → Option (List (List ℕ)) → List Item
answer_item_at None answer = []
answer_item_at (Some stream) answer = answer_item answer stream ∷ []

unfoldable pub answer_items : List (Option (List (List ℕ))) → SessionState → List Item
answer_items [] s = []
answer_items (a ∷ more) s = answer_item_at (unnamed_in s) a ++ answer_items more (answer_told a s).after

-- the turn, which is left out where no view is new, unless it is the first item
abbrev pub shown_items : Option Publication → SessionState → List Item → List Item
shown_items None s before = []
shown_items (Some p) s before = turn_items p s before

abbrev pub given_item_at : Option JwtAsk → JwtOutcome → List Item
given_item_at None o = []
given_item_at (Some a) o = OutcomeItem o ∷ []

unfoldable pub outcome_items : List JwtOutcome → SessionState → List Item
outcome_items [] s = []
outcome_items (o ∷ more) s = given_item_at (asks_in s) o ++ outcome_items more (given_told o s).after

-- those of a round, after the items before it
unfoldable pub round_items : Round → SessionState → List Item → List Item
round_items r s before =
    let attested = heard_items r.piece s ++ answer_items r.answers (heard_session r s) in
    (attested ++ shown_items r.shown (named_session r s) (before ++ attested)) ++ outcome_items r.outcomes (turned_session r s)

-- ---- the shape of a round

-- each answer was for a call that was not attested
unfoldable pub HaveCalls : List (Option (List (List ℕ))) → SessionState → Type 0
HaveCalls [] s = Unit {0}
HaveCalls (a ∷ more) s = IsSome (unnamed_in s) × HaveCalls more (answer_told a s).after

-- a fact of an ask, if there is one
abbrev pub IsAsk : (JwtAsk → Type 0) → Option JwtAsk → Type 0
IsAsk P None = ⊥
IsAsk P (Some a) = P a

-- each outcome was for an ask that waited, and is as P says for that ask
unfoldable pub HaveAsks : (JwtAsk → JwtOutcome → Type 0) → List JwtOutcome → SessionState → Type 0
HaveAsks P [] s = Unit {0}
HaveAsks P (o ∷ more) s = IsAsk (λ a. P a o) (asks_in s) × HaveAsks P more (given_told o s).after

abbrev pub any_outcome : JwtAsk → JwtOutcome → Type 0
any_outcome a o = Unit {0}

-- A round as far as it went: each answer has its call, a publication is read only where the talk goes on and
-- no call is left without an answer, and each outcome has its ask.
pub record IsRound (r : Round) (s : SessionState) : Type 0 where
  pub answers : HaveCalls r.answers (heard_session r s)
  pub shown : IsSome r.shown → (failure_in (named_session r s) ≡ None) × (unnamed_in (named_session r s) ≡ None)
  pub outcomes : HaveAsks any_outcome r.outcomes (turned_session r s)
  pub later : r.shown ≡ None → r.outcomes ≡ []

-- A whole round: each call that became ready has its answer, one publication is read unless the talk has
-- failed. An ask may wait on.
pub record IsWhole (r : Round) (s : SessionState) : Type 0 where
  pub round : IsRound r s
  pub named : unnamed_in (named_session r s) ≡ None
  pub read : failure_in (named_session r s) ≡ None → IsSome r.shown

-- ---- all rounds, the newest first

-- in all of them the attestor was asked by this origin
abbrev pub AskedBy : Origin → List Round → Type 0
AskedBy origin [] = Unit {0}
AskedBy origin (r ∷ past) = (r.origin ≡ origin) × AskedBy origin past

-- the session after them
abbrev pub session_after : List Round → SessionState
session_after [] = fresh_session
session_after (r ∷ past) = (round_told r (session_after past)).after

-- Rounds: the trace of all of them, in its order
abbrev pub trace : List Round → List Item
trace [] = []
trace (r ∷ past) = trace past ++ round_items r (session_after past) (trace past)

-- what was taken from the outside, each in its order: pieces, the attestor's answers, numbers read, outcomes,
-- and looks for them
abbrev pub pieces : List Round → List (List ℕ)
pieces [] = []
pieces (r ∷ past) = pieces past ++ r.piece ∷ []

abbrev pub answers : List Round → List (Option (List (List ℕ)))
answers [] = []
answers (r ∷ past) = answers past ++ r.answers

abbrev pub number_of : Option Publication → List ℕ
number_of None = []
number_of (Some p) = p.number ∷ []

abbrev pub numbers : List Round → List ℕ
numbers [] = []
numbers (r ∷ past) = numbers past ++ number_of r.shown

abbrev pub outcomes : List Round → List JwtOutcome
outcomes [] = []
outcomes (r ∷ past) = outcomes past ++ r.outcomes

-- each look for the outcome of the ask that waits: one that found it, and one that found none, at which a round stops
abbrev pub still : Option JwtAsk → List (Option JwtOutcome)
still None = []
still (Some a) = None ∷ []

abbrev pub found : List JwtOutcome → List (Option JwtOutcome)
found [] = []
found (o ∷ more) = Some o ∷ found more

unfoldable pub looks_of : Round → SessionState → List (Option JwtOutcome)
looks_of r s = found r.outcomes ++ still (asks_in (round_told r s).after)

abbrev pub looks : List Round → List (Option JwtOutcome)
looks [] = []
looks (r ∷ past) = looks past ++ looks_of r (session_after past)

-- a session goes on: its talk has not failed and is not done
abbrev pub GoesOn : SessionState → Type 0
GoesOn s = (failure_in s ≡ None) × (is_done_in s ≡ false)

-- each round was whole, and taken on a session that goes on
abbrev pub AreWhole : List Round → Type 0
AreWhole [] = Unit {0}
AreWhole (r ∷ past) = GoesOn (session_after past) × IsWhole r (session_after past) × AreWhole past

-- all of them whole but the last, which may have broken off
abbrev pub AreRounds : List Round → Type 0
AreRounds [] = Unit {0}
AreRounds (r ∷ past) = GoesOn (session_after past) × IsRound r (session_after past) × AreWhole past

-- each outcome is as P says for its ask
abbrev pub AreOutcomes : (JwtAsk → JwtOutcome → Type 0) → List Round → Type 0
AreOutcomes P [] = Unit {0}
AreOutcomes P (r ∷ past) = HaveAsks P r.outcomes (turned_session r (session_after past)) × AreOutcomes P past

-- x is in a list
abbrev pub IsIn : {A : Type 0} → A → List A → Type 0
IsIn {A} x [] = ⊥
IsIn {A} x (y ∷ ys) = (y ≡ x) ⊎ IsIn x ys

-- each publication that was read is one of these
abbrev pub IsKnown : List Publication → Option Publication → Type 0
IsKnown seen None = Unit {0}
IsKnown seen (Some p) = IsIn p seen

abbrev pub AreKnown : List Publication → List Round → Type 0
AreKnown seen [] = Unit {0}
AreKnown seen (r ∷ past) = IsKnown seen r.shown × AreKnown seen past

-- the pieces that a link gave; where it was idle, an empty one
abbrev pub pieces_given : List Heard → List (List ℕ)
pieces_given [] = []
pieces_given (heard.Piece bytes ∷ more) = bytes ∷ pieces_given more
pieces_given (heard.Idle ∷ more) = [] ∷ pieces_given more
pieces_given (heard.End ∷ more) = pieces_given more
pieces_given (heard.Failed ∷ more) = pieces_given more

-- ---- the rounds are determined (law)

-- Whole rounds that asked by the same origin and took the same pieces, answers, numbers of these publications, and looks
-- for outcomes from the outside are the same, and so is their trace.
abbrev pub RoundsAreDetermined : Type 0
RoundsAreDetermined = (seen : List Publication) (origin : Origin) (past other : List Round) → Numbered seen → AskedBy origin past → AskedBy origin other → AreWhole past → AreWhole other → AreKnown seen past → AreKnown seen other
    → pieces past ≡ pieces other → answers past ≡ answers other → numbers past ≡ numbers other → looks past ≡ looks other → past ≡ other
