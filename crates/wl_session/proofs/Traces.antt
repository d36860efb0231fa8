-- A session follows its trace.
use Rattle.std.proofs.Common.{◌≡◌, ℕ, zero, suc, ◌⊎◌, inl, inr, Bool, true, false, ◌&&◌, if◌then◌else◌, List, [], ◌∷◌, ◌++◌, map, filter, Option, Some, None, is_none, refl, sym, ap, subst, ◌∙◌, append_assoc}
use Rattle.std.proofs.lemmas.List.{append-nil}
use Rattle.std.specs.List.{list_all}
use Rattle.wl_session.proofs.Common.{Frame, End, Opening, Rest, Fault, Reading, reading_from, ConnFault, Publication, ViewModel, view_in, JwtOutcome, Stage, Unnamed, Ready, Asking, ServedCall, was_seen, HasSeen, HaveSeen, SettledOn, is_unnamed, Talking, Said, then_, silent, written, frame_said, frames_said, break_said, SessionState, Running, Fallen, ended_by, feed_said, turn_said, name_said, given_said, unnamed_count, names_said}
use Rattle.wl_session.specs.Talks.{fresh_talk}
use Rattle.wl_session.specs.Sessions.{OutOfMemory}
use Rattle.wl_session.proofs.Agreements.{again, written_quiet}
use Rattle.wl_session.proofs.SessionFacts.{settled_feed, settled_name, settled_given}
use Rattle.wl_session.specs.Steps.{Told, quiet, runs_on, all_named, fed_by, feed_told, turn_told, outcome_told}
use Rattle.wl_session.specs.Items.{Item, FrameItem, TurnItem, OutcomeItem, items_said, talk, attestation, attestations, reading_items, feed_items, stage_view, call_view, views_item, turn_items, broken_items}
use Rattle.wl_session.proofs.WithoutSelectors.{blind, blind_said, items_append, one_item, reading_blind, names_blind, turn_blind, given_blind, then_blind}

-- ---- the relation

-- nothing more may be written; and this side's SETTINGS were written, unless nothing came yet
pub record IsStill (items : List Item) (t : Talking) : Type 0 where
  pub settled : SettledOn None None t
  pub greeted : ((items ≡ []) × (t ≡ fresh_talk)) ⊎ (t.greeted ≡ true)

abbrev pub Follows : SessionState → List Item → Type 0
Follows (Running e t shown) items = ((items_said items fresh_talk).after ≡ blind t) × IsStill items t
Follows (Fallen fault begun) items = Unit {0}
Follows OutOfMemory items = Unit {0}

-- a session goes on, and its trace with it
pub record FollowsOn (told : Told) (items more : List Item) : Type 0 where
  pub follows : Follows told.after (items ++ more)
  pub bytes : talk (items ++ more) ≡ talk items ++ told.bytes

-- ---- stillness

pub still_greeted : (items more : List Item) (t : Talking) → t.greeted ≡ true → SettledOn None None t → IsStill (items ++ more) t
still_greeted items more t is settled = record { settled = settled; greeted = inr is }

pub written_greets : (fault : Option ConnFault) (t : Talking) → (written fault t).after.greeted ≡ true
unfolding written
written_greets fault t = refl

pub frame_greets : (f : Frame) (t : Talking) → (frame_said f t).after.greeted ≡ true
unfolding frame_said written
frame_greets f t = refl

pub frames_greet : (fs : List Frame) (t : Talking) → t.greeted ≡ true → (frames_said fs t).after.greeted ≡ true
unfolding frames_said
frames_greet [] t is = is
frames_greet (f ∷ fs) t is = frames_greet fs (frame_said f t).after (frame_greets f t)

pub some_frames_greet : (f : Frame) (fs : List Frame) (t : Talking) → (frames_said (f ∷ fs) t).after.greeted ≡ true
unfolding frames_said
some_frames_greet f fs t = frames_greet fs (frame_said f t).after (frame_greets f t)

pub ended_greets : (e : End) (s : Said) → s.after.greeted ≡ true → (ended_by e s).after.greeted ≡ true
unfolding break_said written
ended_greets (Opening left) s is = is
ended_greets (Rest rest) s is = is
ended_greets (Fault why) s is = refl

pub feed_greets : (r : Reading) (t : Talking) → t.greeted ≡ true → (feed_said r t).after.greeted ≡ true
unfolding feed_said
feed_greets r t is = ended_greets r.ending (frames_said r.frames t) (frames_greet r.frames t is)

pub name_greets : (caller : Option (List (List ℕ))) (t : Talking) → t.greeted ≡ true → (name_said caller t).after.greeted ≡ true
unfolding name_said written
name_greets None t is = refl
name_greets (Some sel) t is = is

pub names_greet : (n : ℕ) (caller : Option (List (List ℕ))) (t : Talking) → t.greeted ≡ true → (names_said n caller t).after.greeted ≡ true
unfolding names_said
names_greet zero caller t is = is
names_greet (suc n) caller t is = names_greet n caller (name_said caller t).after (name_greets caller t is)

pub turn_greets : (x : Publication) (t : Talking) → (turn_said x t).after.greeted ≡ true
unfolding turn_said written
turn_greets x t = refl

pub given_greets : (o : JwtOutcome) (t : Talking) → (given_said o t).after.greeted ≡ true
unfolding given_said written
given_greets o t = refl

pub names_settled : (n : ℕ) (caller : Option (List (List ℕ))) (t : Talking) → SettledOn None None t → SettledOn None None (names_said n caller t).after
unfolding names_said
names_settled zero caller t settled = settled
names_settled (suc n) caller t settled = names_settled n caller (name_said caller t).after (settled_name None None caller t settled)

pub turn_settled : (x : Publication) (t : Talking) → SettledOn None None (turn_said x t).after
unfolding turn_said
turn_settled x t = (refl, (written_quiet None _).quiet)

-- a fresh talk to which no frame comes stays fresh
pub fresh_go : (e : End) → (ended_by e (silent fresh_talk)).fault ≡ None → ((broken_items e ≡ []) × ((ended_by e (silent fresh_talk)).after ≡ fresh_talk)) ⊎ ((ended_by e (silent fresh_talk)).after.greeted ≡ true)
unfolding break_said written
fresh_go (Opening left) none = inl (refl, refl)
fresh_go (Rest rest) none = inl (refl, refl)
fresh_go (Fault why) none = inr refl

pub no_frames : frames_said [] fresh_talk ≡ silent fresh_talk
unfolding frames_said
no_frames = refl

pub fresh_none : (e : End) → (ended_by e (frames_said [] fresh_talk)).fault ≡ None
    → ((broken_items e ≡ []) × ((ended_by e (frames_said [] fresh_talk)).after ≡ fresh_talk)) ⊎ ((ended_by e (frames_said [] fresh_talk)).after.greeted ≡ true)
fresh_none e =
    subst (λ (s : Said). (ended_by e s).fault ≡ None → ((broken_items e ≡ []) × ((ended_by e s).after ≡ fresh_talk)) ⊎ ((ended_by e s).after.greeted ≡ true))
    (sym no_frames) (fresh_go e)

pub fresh_frames : (fs : List Frame) (e : End) → (ended_by e (frames_said fs fresh_talk)).fault ≡ None
    → ((map FrameItem fs ++ broken_items e ≡ []) × ((ended_by e (frames_said fs fresh_talk)).after ≡ fresh_talk)) ⊎ ((ended_by e (frames_said fs fresh_talk)).after.greeted ≡ true)
fresh_frames [] e none = fresh_none e none
fresh_frames (f ∷ fs) e none = inr (ended_greets e (frames_said (f ∷ fs) fresh_talk) (some_frames_greet f fs fresh_talk))

-- ---- bytes come

-- the talk over the trace, where one follows the other
pub after_more : (items more : List Item) (t : Talking) (due : Said) → (items_said items fresh_talk).after ≡ blind t → items_said more (blind t) ≡ blind_said due
    → ((items_said (items ++ more) fresh_talk).after ≡ blind due.after) × (talk (items ++ more) ≡ talk items ++ due.bytes)
after_more items more t due is goes =
    let on = items_append items more fresh_talk in
    let went : items_said more (items_said items fresh_talk).after ≡ blind_said due = ap (items_said more) is ∙ goes in (
      ap (λ (s : Said). s.after) on ∙ ap (λ (s : Said). s.after) went,
      ap (λ (s : Said). s.bytes) on ∙ ap (λ (s : Said). (items_said items fresh_talk).bytes ++ s.bytes) went,
    )

-- what is said of bytes and of the calls that became ready with them
abbrev pub fed_all : Option ConnFault → Option (List (List ℕ)) → Said → Said
fed_all None caller due = then_ due (all_named caller)
fed_all (Some fault) caller due = due

pub fed_go : (r : Reading) (caller : Option (List (List ℕ))) (t : Talking) (f : Option ConnFault) → (feed_said r t).fault ≡ f
    → items_said (reading_items r ++ attestations f caller (feed_said r t).after) (blind t)
    ≡ blind_said (fed_all f caller (feed_said r t))
fed_go r caller t None is =
    items_append (reading_items r) (map (attestation caller) (filter is_unnamed (feed_said r t).after.served)) (blind t)
    ∙ (ap (λ (s : Said). then_ s (items_said (map (attestation caller) (filter is_unnamed (feed_said r t).after.served)))) (reading_blind r t)
    ∙ then_blind (feed_said r t) (items_said (map (attestation caller) (filter is_unnamed (feed_said r t).after.served))) (all_named caller)
    (names_blind caller (filter is_unnamed (feed_said r t).after.served) (feed_said r t).after))
fed_go r caller t (Some fault) is = ap (λ (items : List Item). items_said items (blind t)) (append-nil (reading_items r)) ∙ reading_blind r t

pub fresh_named : (caller : Option (List (List ℕ))) → (all_named caller fresh_talk).after ≡ fresh_talk
unfolding names_said
fresh_named caller = refl

pub still_named : (caller : Option (List (List ℕ))) (items more atts : List Item) (t u : Talking) → atts ≡ map (attestation caller) (filter is_unnamed u.served)
    → SettledOn None None u → ((items ++ more ≡ []) × (u ≡ fresh_talk)) ⊎ (u.greeted ≡ true)
    → IsStill (items ++ (more ++ atts)) (all_named caller u).after
still_named caller items more atts t u is settled (inr greeted) =
    record { settled = names_settled (unnamed_count u) caller u settled; greeted = inr (names_greet (unnamed_count u) caller u greeted) }
still_named caller items more atts t u is settled (inl fresh) =
    let none : atts ≡ [] = is ∙ ap (λ (v : Talking). map (attestation caller) (filter is_unnamed v.served)) fresh.1 in
    let nothing : items ++ (more ++ atts) ≡ [] = sym (append_assoc items more atts) ∙ (ap (λ (xs : List Item). items ++ more ++ xs) none ∙ (append-nil (items ++ more) ∙ fresh.0)) in
    let same : (all_named caller u).after ≡ fresh_talk = ap (λ (v : Talking). (all_named caller v).after) fresh.1 ∙ fresh_named caller in
    record { settled = names_settled (unnamed_count u) caller u settled; greeted = inl (nothing, same) }

-- the empty trace, and then what a reading adds
pub no_items : (items more : List Item) → items ≡ [] → more ≡ [] → items ++ more ≡ []
no_items items more none nothing = ap (λ (xs : List Item). xs ++ more) none ∙ nothing

pub read_fresh : (r : Reading) (items : List Item) → items ≡ [] → (feed_said r fresh_talk).fault ≡ None
    → ((items ++ reading_items r ≡ []) × ((feed_said r fresh_talk).after ≡ fresh_talk)) ⊎ ((feed_said r fresh_talk).after.greeted ≡ true)
unfolding feed_said
read_fresh r items none is = go (fresh_frames r.frames r.ending is)
  where
    go : ((reading_items r ≡ []) × ((ended_by r.ending (frames_said r.frames fresh_talk)).after ≡ fresh_talk)) ⊎ ((ended_by r.ending (frames_said r.frames fresh_talk)).after.greeted ≡ true)
        → ((items ++ reading_items r ≡ []) × ((ended_by r.ending (frames_said r.frames fresh_talk)).after ≡ fresh_talk)) ⊎ ((ended_by r.ending (frames_said r.frames fresh_talk)).after.greeted ≡ true)
    go (inl stays) = inl (no_items items (reading_items r) none stays.0, stays.1)
    go (inr greeted) = inr greeted

pub read_greets : (r : Reading) (items : List Item) (t : Talking) → (feed_said r t).fault ≡ None → ((items ≡ []) × (t ≡ fresh_talk)) ⊎ (t.greeted ≡ true)
    → ((items ++ reading_items r ≡ []) × ((feed_said r t).after ≡ fresh_talk)) ⊎ ((feed_said r t).after.greeted ≡ true)
read_greets r items t none (inr greeted) = inr (feed_greets r t greeted)
read_greets r items t none (inl fresh) =
    subst (λ (u : Talking). ((items ++ reading_items r ≡ []) × ((feed_said r u).after ≡ fresh_talk)) ⊎ ((feed_said r u).after.greeted ≡ true)) (sym fresh.1)
    (read_fresh r items fresh.0 (subst (λ (u : Talking). (feed_said r u).fault ≡ None) fresh.1 none))

pub fed_on : (r : Reading) (e : End) (shown : Option Publication) (caller : Option (List (List ℕ))) (t : Talking) (items : List Item) (f : Option ConnFault)
    → (feed_said r t).fault ≡ f → (items_said items fresh_talk).after ≡ blind t → IsStill items t
    → FollowsOn (fed_by f e shown caller (feed_said r t)) items (reading_items r ++ attestations f caller (feed_said r t).after)
fed_on r e shown caller t items None is follows still =
    let due = feed_said r t in
    let more = after_more items (reading_items r ++ attestations None caller due.after) t (then_ due (all_named caller)) follows (fed_go r caller t None is) in
    record {
      follows = (
        more.0,
        still_named caller items (reading_items r) (attestations None caller due.after) t due.after refl
            (settled_feed None None r t is still.settled) (read_greets r items t is still.greeted),
      );
      bytes = more.1;
    }
fed_on r e shown caller t items (Some fault) is follows still =
    record {
      follows = tt;
      bytes = (after_more items (reading_items r ++ []) t (feed_said r t) follows (fed_go r caller t (Some fault) is)).1;
    }

-- a session that has failed writes nothing
pub stays : (s : SessionState) (items : List Item) → Follows s items → FollowsOn (quiet s) items []
stays s items follows =
    record {
      follows = subst (λ (xs : List Item). Follows s xs) (sym (append-nil items)) follows;
      bytes = ap (λ (xs : List Item). talk xs) (append-nil items) ∙ sym (append-nil (talk items));
    }

pub feed_follows : (piece : List ℕ) (caller : Option (List (List ℕ))) (s : SessionState) (items : List Item) → Follows s items
    → FollowsOn (feed_told piece caller s) items (feed_items piece caller s)
unfolding feed_told
feed_follows piece caller (Running e t shown) items follows =
    let r = reading_from e piece in
    fed_on r r.ending shown caller t items (feed_said r t).fault refl follows.0 follows.1
feed_follows piece caller (Fallen fault begun) items follows = stays (Fallen fault begun) items follows
feed_follows piece caller OutOfMemory items follows = stays OutOfMemory items follows

-- ---- a turn

pub turned_on : (p : Publication) (e : End) (t : Talking) (items : List Item) → (items_said items fresh_talk).after ≡ blind t
    → FollowsOn (runs_on e (Some p) (turn_said p t)) items (TurnItem (map (call_view p) t.served) ∷ [])
turned_on p e t items follows =
    let more = after_more items (TurnItem (map (call_view p) t.served) ∷ []) t (turn_said p t) follows (one_item (TurnItem (map (call_view p) t.served)) (blind t) ∙ turn_blind p t) in
    record {
      follows = (more.0, record { settled = turn_settled p t; greeted = inr (turn_greets p t) });
      bytes = more.1;
    }

pub new_view : (seen : Option ViewModel) (v : ViewModel) (b : Bool) → was_seen seen v ≡ b → is_none (if b then None else Some v) ≡ true → was_seen seen v ≡ true
new_view seen v true is none = is
new_view seen v false is none = absurd (cc none)

pub stage_seen : (p : Publication) (s : Stage) → is_none (stage_view p s) ≡ true → HasSeen p s
stage_seen p (Unnamed kind) none = tt
stage_seen p (Ready kind sel seen headed) none = new_view seen (view_in p sel) (was_seen seen (view_in p sel)) refl none
stage_seen p (Asking first rest got) none = tt

pub both_true : (a b : Bool) → (a && b) ≡ true → (a ≡ true) × (b ≡ true)
both_true true b is = (refl, is)
both_true false b is = absurd (cc is)

pub calls_seen : (p : Publication) (cs : List ServedCall) → list_all is_none (map (call_view p) cs) ≡ true → HaveSeen p cs
calls_seen p [] all = tt
calls_seen p (c ∷ cs) all =
    let both = both_true (is_none (call_view p c)) (list_all is_none (map (call_view p) cs)) all in
    (stage_seen p c.stage both.0, calls_seen p cs both.1)

-- where no view is new a turn is left out
pub left_out : (p : Publication) (e : End) (t : Talking) (i : Item) (before : List Item) → (items_said (i ∷ before) fresh_talk).after ≡ blind t → IsStill (i ∷ before) t
    → list_all is_none (map (call_view p) t.served) ≡ true → FollowsOn (runs_on e (Some p) (turn_said p t)) (i ∷ before) []
left_out p e t i before follows still none =
    let greeted : t.greeted ≡ true = go still.greeted in
    let silent_turn : turn_said p t ≡ silent t = again p t (record { greeted = greeted; quiet = still.settled.1 }) (calls_seen p t.served none) in
    subst (λ (s : Said). FollowsOn (runs_on e (Some p) s) (i ∷ before) []) (sym silent_turn)
    (stays (Running e t (Some p)) (i ∷ before) (follows, still))
  where
    go : ((i ∷ before ≡ []) × (t ≡ fresh_talk)) ⊎ (t.greeted ≡ true) → t.greeted ≡ true
    go (inl fresh) = absurd (cc fresh.0)
    go (inr is) = is

pub turn_go : (p : Publication) (e : End) (t : Talking) (i : Item) (before : List Item) (b : Bool) → list_all is_none (map (call_view p) t.served) ≡ b
    → (items_said (i ∷ before) fresh_talk).after ≡ blind t → IsStill (i ∷ before) t
    → FollowsOn (runs_on e (Some p) (turn_said p t)) (i ∷ before) (if b then [] else TurnItem (map (call_view p) t.served) ∷ [])
turn_go p e t i before true none follows still = left_out p e t i before follows still none
turn_go p e t i before false none follows still = turned_on p e t (i ∷ before) follows

pub turn_by : (p : Publication) (e : End) (t : Talking) (items : List Item) → (items_said items fresh_talk).after ≡ blind t → IsStill items t
    → FollowsOn (runs_on e (Some p) (turn_said p t)) items (views_item items (map (call_view p) t.served))
turn_by p e t [] follows still = turned_on p e t [] follows
turn_by p e t (i ∷ before) follows still = turn_go p e t i before (list_all is_none (map (call_view p) t.served)) refl follows still

pub turn_follows : (p : Publication) (s : SessionState) (items : List Item) → Follows s items → FollowsOn (turn_told p s) items (turn_items p s items)
unfolding turn_told
turn_follows p (Running e t shown) items follows = turn_by p e t items follows.0 follows.1
turn_follows p (Fallen fault begun) items follows = stays (Fallen fault begun) items follows
turn_follows p OutOfMemory items follows = stays OutOfMemory items follows

-- ---- a token

pub outcome_follows : (o : JwtOutcome) (e : End) (t : Talking) (shown : Option Publication) (items : List Item) → Follows (Running e t shown) items
    → FollowsOn (outcome_told o (Running e t shown)) items (OutcomeItem o ∷ [])
unfolding outcome_told
outcome_follows o e t shown items follows =
    let more = after_more items (OutcomeItem o ∷ []) t (given_said o t) follows.0 (one_item (OutcomeItem o) (blind t) ∙ given_blind o t) in
    record {
      follows = (more.0, record { settled = settled_given None None o t follows.1.settled; greeted = inr (given_greets o t) });
      bytes = more.1;
    }
