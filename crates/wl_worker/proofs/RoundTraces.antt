-- A session follows the trace of its rounds, and what it wrote is the talk over it.
use Rattle.std.proofs.Common.{◌≡◌, ℕ, ◌⊎◌, inl, inr, true, List, [], ◌∷◌, ◌++◌, Option, Some, None, refl, sym, ap, subst, ◌∙◌, append_assoc}
use Rattle.wl_worker.proofs.Common.{End, ConnFault, Publication, JwtAsk, JwtOutcome, Talking, SessionState, Running, Fallen, OutOfMemory, fresh_session, unnamed_in, asks_in, talk, Round, then_told, heard_told, name_told_at, answer_told, answers_told, shown_told, given_told_at, given_told, outcomes_told, heard_session, named_session, turned_session, round_told, session_after, trace}
use Rattle.h2_frame.specs.Reading.{Reading, reading_from}
use Rattle.wl_session.specs.Tokens.{first_unnamed}
use Rattle.wl_session.specs.Talks.{fresh_talk}
use Rattle.wl_session.specs.Sessions.{feed_said, name_said, state_of_fault}
use Rattle.wl_session.specs.Steps.{Told}
use Rattle.wl_session.specs.Items.{Item, items_said, item_said, reading_items}
use Rattle.wl_session.proofs.SessionFacts.{settled_fresh, settled_feed, settled_name}
use Rattle.wl_session.proofs.WithoutSelectors.{blind, blind_said, one_item, reading_blind, name_some_blind, name_none_blind}
use Rattle.wl_session.proofs.Traces.{IsStill, Follows, FollowsOn, after_more, read_greets, name_greets, stays, turn_follows, outcome_follows}
use Rattle.wl_worker.specs.Rounds.{heard_items, answer_item, answer_item_at, answer_items, shown_items, given_item_at, outcome_items, round_items}

-- one step and then another
pub then_follows : (first : Told) (next : SessionState → Told) (items more rest : List Item) → FollowsOn first items more → FollowsOn (next first.after) (items ++ more) rest
    → FollowsOn (then_told first next) items (more ++ rest)
then_follows first next items more rest one other =
    record {
      follows = subst (λ (xs : List Item). Follows (next first.after).after xs) (append_assoc items more rest) other.follows;
      bytes =
          ap talk (sym (append_assoc items more rest))
          ∙ (other.bytes ∙ (ap (λ (xs : List ℕ). xs ++ (next first.after).bytes) one.bytes ∙ append_assoc (talk items) first.bytes (next first.after).bytes));
    }

-- ---- a piece

heard_on : (r : Reading) (e : End) (shown : Option Publication) (t : Talking) (items : List Item) (f : Option ConnFault)
    → (feed_said r t).fault ≡ f → (items_said items fresh_talk).after ≡ blind t → IsStill items t
    → FollowsOn (record { after = state_of_fault f e (feed_said r t).after shown; bytes = (feed_said r t).bytes }) items (reading_items r)
heard_on r e shown t items None is follows still =
    let more = after_more items (reading_items r) t (feed_said r t) follows (reading_blind r t) in
    record {
      follows = (more.0, record { settled = settled_feed None None r t is still.settled; greeted = read_greets r items t is still.greeted });
      bytes = more.1;
    }
heard_on r e shown t items (Some fault) is follows still =
    record {
      follows = tt;
      bytes = (after_more items (reading_items r) t (feed_said r t) follows (reading_blind r t)).1;
    }

pub heard_follows : (piece : List ℕ) (s : SessionState) (items : List Item) → Follows s items → FollowsOn (heard_told piece s) items (heard_items piece s)
unfolding heard_told
heard_follows piece (Running e t shown) items follows =
    let r = reading_from e piece in
    heard_on r r.ending shown t items (feed_said r t).fault refl follows.0 follows.1
heard_follows piece (Fallen fault begun) items follows = stays (Fallen fault begun) items follows
heard_follows piece OutOfMemory items follows = stays OutOfMemory items follows

-- ---- an answer of the attestor

named_blind : (answer : Option (List (List ℕ))) (n : ℕ) (t : Talking) → item_said (answer_item answer n) (blind t) ≡ blind_said (name_said answer t)
named_blind None n t = name_none_blind t
named_blind (Some sel) n t = name_some_blind sel t

greeted_by : (items : List Item) (t : Talking) (n : ℕ) → first_unnamed t.served ≡ Some n → ((items ≡ []) × (t ≡ fresh_talk)) ⊎ (t.greeted ≡ true) → t.greeted ≡ true
greeted_by items t n is (inr greeted) = greeted
greeted_by items t n is (inl fresh) =
    let none : first_unnamed t.served ≡ None = ap (λ (u : Talking). first_unnamed u.served) fresh.1 in
    absurd (cc (none, is))

name_at : (o : Option ℕ) (answer : Option (List (List ℕ))) (s : SessionState) (items : List Item) → unnamed_in s ≡ o → Follows s items
    → FollowsOn (name_told_at o answer s) items (answer_item_at o answer)
name_at None answer s items is follows = stays s items follows
name_at (Some n) answer (Running e t shown) items is follows =
    let more = after_more items (answer_item answer n ∷ []) t (name_said answer t) follows.0 (one_item (answer_item answer n) (blind t) ∙ named_blind answer n t) in
    let greeted = greeted_by items t n is follows.1.greeted in
    record {
      follows = (more.0, record { settled = settled_name None None answer t follows.1.settled; greeted = inr (name_greets answer t greeted) });
      bytes = more.1;
    }
name_at (Some n) answer (Fallen fault begun) items is follows = absurd (cc is)
name_at (Some n) answer OutOfMemory items is follows = absurd (cc is)

answer_follows : (answer : Option (List (List ℕ))) (s : SessionState) (items : List Item) → Follows s items → FollowsOn (answer_told answer s) items (answer_item_at (unnamed_in s) answer)
unfolding answer_told
answer_follows answer s items follows = name_at (unnamed_in s) answer s items refl follows

pub answers_follow : (answers : List (Option (List (List ℕ)))) (s : SessionState) (items : List Item) → Follows s items → FollowsOn (answers_told answers s) items (answer_items answers s)
unfolding answers_told answer_items
answers_follow [] s items follows = stays s items follows
answers_follow (a ∷ more) s items follows =
    let one = answer_follows a s items follows in
    then_follows (answer_told a s) (answers_told more) items (answer_item_at (unnamed_in s) a) (answer_items more (answer_told a s).after) one
    (answers_follow more (answer_told a s).after (items ++ answer_item_at (unnamed_in s) a) one.follows)

-- ---- a turn, and what becomes of asks

pub shown_follows : (shown : Option Publication) (s : SessionState) (items : List Item) → Follows s items → FollowsOn (shown_told shown s) items (shown_items shown s items)
unfolding shown_told
shown_follows None s items follows = stays s items follows
shown_follows (Some p) s items follows = turn_follows p s items follows

given_at : (ask : Option JwtAsk) (o : JwtOutcome) (s : SessionState) (items : List Item) → asks_in s ≡ ask → Follows s items
    → FollowsOn (given_told_at ask o s) items (given_item_at ask o)
given_at None o s items is follows = stays s items follows
given_at (Some a) o (Running e t shown) items is follows = outcome_follows o e t shown items follows
given_at (Some a) o (Fallen fault begun) items is follows = absurd (cc is)
given_at (Some a) o OutOfMemory items is follows = absurd (cc is)

given_follows : (o : JwtOutcome) (s : SessionState) (items : List Item) → Follows s items → FollowsOn (given_told o s) items (given_item_at (asks_in s) o)
unfolding given_told
given_follows o s items follows = given_at (asks_in s) o s items refl follows

pub outcomes_follow : (outcomes : List JwtOutcome) (s : SessionState) (items : List Item) → Follows s items → FollowsOn (outcomes_told outcomes s) items (outcome_items outcomes s)
unfolding outcomes_told outcome_items
outcomes_follow [] s items follows = stays s items follows
outcomes_follow (o ∷ more) s items follows =
    let one = given_follows o s items follows in
    then_follows (given_told o s) (outcomes_told more) items (given_item_at (asks_in s) o) (outcome_items more (given_told o s).after) one
    (outcomes_follow more (given_told o s).after (items ++ given_item_at (asks_in s) o) one.follows)

-- ---- a round, and all rounds

pub round_follows : (r : Round) (s : SessionState) (items : List Item) → Follows s items → FollowsOn (round_told r s) items (round_items r s items)
unfolding round_told round_items
round_follows r s items follows =
    let heard = heard_follows r.piece s items follows in
    let named = then_follows (heard_told r.piece s) (answers_told r.answers) items (heard_items r.piece s) (answer_items r.answers (heard_session r s)) heard
    (answers_follow r.answers (heard_session r s) (items ++ heard_items r.piece s) heard.follows) in
    let attested = heard_items r.piece s ++ answer_items r.answers (heard_session r s) in
    let turned = then_follows (then_told (heard_told r.piece s) (answers_told r.answers)) (shown_told r.shown) items attested (shown_items r.shown (named_session r s) (items ++ attested)) named
    (shown_follows r.shown (named_session r s) (items ++ attested) named.follows) in
    then_follows (then_told (then_told (heard_told r.piece s) (answers_told r.answers)) (shown_told r.shown)) (outcomes_told r.outcomes) items
    (attested ++ shown_items r.shown (named_session r s) (items ++ attested)) (outcome_items r.outcomes (turned_session r s)) turned
    (outcomes_follow r.outcomes (turned_session r s) (items ++ (attested ++ shown_items r.shown (named_session r s) (items ++ attested))) turned.follows)

fresh_follows : Follows fresh_session []
unfolding items_said
fresh_follows = (refl, record { settled = settled_fresh; greeted = inl (refl, refl) })

pub nothing_talked : talk [] ≡ []
unfolding items_said
nothing_talked = refl

-- a session follows the trace of its rounds
pub follows_rounds : (past : List Round) → Follows (session_after past) (trace past)
follows_rounds [] = fresh_follows
follows_rounds (r ∷ past) = (round_follows r (session_after past) (trace past) (follows_rounds past)).follows

-- and the talk over the trace grows by what the session writes
pub talk_grows : (r : Round) (past : List Round) → talk (trace (r ∷ past)) ≡ talk (trace past) ++ (round_told r (session_after past)).bytes
talk_grows r past = (round_follows r (session_after past) (trace past) (follows_rounds past)).bytes
