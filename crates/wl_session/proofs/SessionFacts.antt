-- What holds of a session between its calls is kept by each.
use Rattle.std.proofs.Common.{◌≡◌, ℕ, ◌||◌, Bool, true, false, List, [], ◌∷◌, Option, Some, None, Ok, refl, sym, ap, subst, arith}
use Rattle.std.proofs.lemmas.List.{append-nil}
use Rattle.std.specs.List.{list_any}
use Rattle.wl_session.proofs.Common.{End, Opening, Rest, Fault, Reading, JwtOutcome, Turned, calls_turn, change_first, name_stage, name_on, name_first, give_first, ended_by, feed_said, with_turned, turn_said, name_said, given_said, SessionState, Running, Turns, SessionFault, FrameFault, Frame, ConnFault, Phase, Open, frame_result, flush_of, frame_fault_on, after_frame_fault, Publication, Stage, Unnamed, Ready, Asking, ServedCall, Talking, silent, written, after_frame, frame_said, frames_said, break_said, HasSeen, HaveSeen, SettledOn}
use Rattle.wl_session.specs.Tokens.{change_in}
use Rattle.wl_session.specs.Sessions.{state_by}
use Rattle.std.proofs.lemmas.Bool.Decides.{nat_tests}
use Rattle.h2_flow.specs.Outboxes.{pull_of}
use Rattle.h2_flow.specs.Pulls.{all_rounds, rounds, round}
use Rattle.h2_conn.specs.Conns.{new_state, after_pull}
use Rattle.wl_session.specs.Talks.{fresh_talk}
use Rattle.wl_session.specs.Settled.{is_new, is_new_stage, WasSeen, WereSeen, IsSettled, is_number, MayFollow, MayTurn}
use Rattle.wl_session.proofs.Agreements.{written_quiet, again, calls_seen}
use Rattle.wl_session.proofs.CallWalk.{CallRule, Each, IsKept, came_each, first_named, first_given}

-- ---- the ready calls

abbrev seen_on : Publication → CallRule
seen_on x n s = WasSeen x s

were_each : (x : Publication) (cs : List ServedCall) → WereSeen x cs → Each (seen_on x) cs
were_each x [] were = tt
were_each x (c ∷ cs) were = (were.0, were_each x cs were.1)

each_were : (x : Publication) (cs : List ServedCall) → Each (seen_on x) cs → WereSeen x cs
each_were x [] each = tt
each_were x (c ∷ cs) each = (each.0, each_were x cs each.1)

seen_kept : (x : Publication) → IsKept (seen_on x)
seen_kept x = record { fresh = λ n kind. tt; next = λ n first w ws got more was. tt }

-- ---- a frame

frame_were : (x : Publication) (f : Frame) (t : Talking) → WereSeen x t.served → WereSeen x (after_frame f t).served
frame_were x f t were = each_were x (after_frame f t).served (came_each (seen_on x) (seen_kept x) f t (were_each x t.served were))

-- what is written after an item leaves nothing to be written
pub settled_writing : (shown : Option Publication) (number : Option ℕ) (fault : Option ConnFault) (old t : Talking) → SettledOn shown number old → ((x : Publication) → WereSeen x old.served → WereSeen x t.served) → SettledOn shown number (written fault t).after
unfolding written
settled_writing None number fault old t settled were = (settled.0, (written_quiet fault t).quiet)
settled_writing (Some x) number fault old t settled were = (settled.0, refl, (written_quiet fault t).quiet, were x settled.3)

settled_frame : (shown : Option Publication) (number : Option ℕ) (f : Frame) (t : Talking) → SettledOn shown number t → SettledOn shown number (frame_said f t).after
unfolding frame_said
settled_frame shown number f t settled = settled_writing shown number (frame_result t.phase f).fault t (after_frame f t) settled (λ x were. frame_were x f t were)

pub settled_frames : (shown : Option Publication) (number : Option ℕ) (fs : List Frame) (t : Talking) → SettledOn shown number t → SettledOn shown number (frames_said fs t).after
unfolding frames_said
settled_frames shown number [] t settled = settled
settled_frames shown number (f ∷ fs) t settled = settled_frames shown number fs (frame_said f t).after (settled_frame shown number f t settled)

settled_break : (shown : Option Publication) (number : Option ℕ) (why : FrameFault) (t : Talking) → SettledOn shown number t → SettledOn shown number (break_said why t).after
unfolding break_said
settled_break shown number why t settled = settled_writing shown number (frame_fault_on why t.phase) t (record t { phase = after_frame_fault why t.phase }) settled (λ x were. were)

-- ---- a turn

seen_was : (x : Publication) (s : Stage) → HasSeen x s → WasSeen x s
seen_was x (Unnamed kind) seen = tt
seen_was x (Ready kind sel None headed) seen = tt
seen_was x (Ready kind sel (Some old) headed) seen = seen
seen_was x (Asking first rest got) seen = tt

pub seen_were : (x : Publication) (cs : List ServedCall) → HaveSeen x cs → WereSeen x cs
seen_were x [] seen = tt
seen_were x (c ∷ cs) seen = (seen_was x c.stage seen.0, seen_were x cs seen.1)

was_has : (x : Publication) (s : Stage) → WasSeen x s → is_new_stage s ≡ false → HasSeen x s
was_has x (Unnamed kind) was old = tt
was_has x (Ready kind sel None headed) was old = absurd (cc old)
was_has x (Ready kind sel (Some v) headed) was old = was
was_has x (Asking first rest got) was old = tt

none_new : (a b : Bool) → (a || b) ≡ false → (a ≡ false) × (b ≡ false)
none_new true b is = absurd (cc is)
none_new false b is = (refl, is)

-- calls that a turn answered, on a publication on which they were
pub were_have : (x : Publication) (cs : List ServedCall) → WereSeen x cs → list_any is_new cs ≡ false → HaveSeen x cs
were_have x [] were old = tt
were_have x (c ∷ cs) were old =
    let parts = none_new (is_new c) (list_any is_new cs) old in
    (was_has x c.stage were.0 parts.0, were_have x cs were.1 parts.1)

-- ---- names

were_named : (x : Publication) (sel : Option (List (List ℕ))) (cs : List ServedCall) (p : Phase) → WereSeen x cs → WereSeen x (name_first sel cs p).kept
were_named x sel cs p were = each_were x (name_first sel cs p).kept (first_named (seen_on x) sel cs p (λ n kind named is same. tt) (were_each x cs were))

-- a name does nothing to the connection
stage_phase : (sel : List (List ℕ)) (n : ℕ) (s : Stage) (p : Phase) → (name_stage (Some sel) n s p).phase ≡ p
stage_phase sel n (Unnamed kind) p = refl
stage_phase sel n (Ready kind own seen headed) p = refl
stage_phase sel n (Asking first rest got) p = refl

changed_phase : (sel : List (List ℕ)) (front rest : List ServedCall) (p : Phase) → (change_in (name_on (Some sel)) front rest p).phase ≡ p
changed_phase sel front [] p = refl
changed_phase sel front (c ∷ rest) p = stage_phase sel c.stream c.stage p

name_phase : (sel : List (List ℕ)) (cs : List ServedCall) (p : Phase) → (name_first (Some sel) cs p).phase ≡ p
unfolding name_first change_first
name_phase sel cs p = changed_phase sel _ _ p

moved_settled : (shown : Option Publication) (number : Option ℕ) (t : Talking) (r : Turned) → r.phase ≡ t.phase → ((x : Publication) → WereSeen x t.served → WereSeen x r.kept) → SettledOn shown number t → SettledOn shown number (with_turned t r)
moved_settled None number t r same were settled = (settled.0, subst (λ (p : Phase). flush_of p ≡ record { bytes = []; after = p }) (sym same) settled.1)
moved_settled (Some x) number t r same were settled = (settled.0, settled.1, subst (λ (p : Phase). flush_of p ≡ record { bytes = []; after = p }) (sym same) settled.2, were x settled.3)

pub settled_name : (shown : Option Publication) (number : Option ℕ) (sel : Option (List (List ℕ))) (t : Talking) → SettledOn shown number t → SettledOn shown number (name_said sel t).after
unfolding name_said
settled_name shown number (Some sel) t settled = moved_settled shown number t (name_first (Some sel) t.served t.phase) (name_phase sel t.served t.phase) (λ x were. were_named x (Some sel) t.served t.phase were) settled
settled_name shown number None t settled = settled_writing shown number None t (with_turned t (name_first None t.served t.phase)) settled (λ x were. were_named x None t.served t.phase were)

-- ---- tokens

were_given : (x : Publication) (o : JwtOutcome) (cs : List ServedCall) (p : Phase) → WereSeen x cs → WereSeen x (give_first o cs p).kept
were_given x o cs p were = each_were x (give_first o cs p).kept (first_given (seen_on x) (seen_kept x) o cs p (were_each x cs were))

pub settled_given : (shown : Option Publication) (number : Option ℕ) (o : JwtOutcome) (t : Talking) → SettledOn shown number t → SettledOn shown number (given_said o t).after
unfolding given_said
settled_given shown number o t settled = settled_writing shown number None t (with_turned t (give_first o t.served t.phase)) settled (λ x were. were_given x o t.served t.phase were)

-- ---- a session

-- a turn settles on its publication
pub settled_turn : (x : Publication) (t : Talking) → SettledOn (Some x) (Some x.number) (turn_said x t).after
unfolding turn_said written
settled_turn x t =
    let quiet = written_quiet None (with_turned t (calls_turn x t.served t.phase)) in
    (refl, refl, quiet.quiet, seen_were x (calls_turn x t.served t.phase).kept (calls_seen x t.served t.phase))

some_same : (a b : ℕ) (number : Option ℕ) → number ≡ Some a → number ≡ Some b → a ≡ b
some_same a b number p q = cc (p, q)

-- a turn on the last turn's publication in which no call is new writes nothing
turn_skips : (x : Publication) (number : Option ℕ) (t : Talking) → SettledOn (Some x) number t → list_any is_new t.served ≡ false → turn_said x t ≡ silent t
turn_skips x number t settled old = again x t (record { greeted = settled.1; quiet = settled.2 }) (were_have x t.served settled.3 old)

pub stays_on : (x : Publication) (shown : Option Publication) (number : Option ℕ) (e : End) (t : Talking) (out : List ℕ) → SettledOn shown number t → number ≡ Some x.number → list_any is_new t.served ≡ false → MayFollow x shown → Turns x (Running e t shown) (Ok tt) out out (Running e t shown)
stays_on x None number e t out settled is old may = absurd (cc (settled.0, is))
stays_on x (Some last) number e t out settled is old may =
    let same : last ≡ x = may.1 (some_same last.number x.number number settled.0 is) in
    rw (turn_skips x number t (subst (λ (y : Publication). SettledOn (Some y) number t) same settled) old) (sym (append-nil out), ap (λ (y : Publication). Running e t (Some y)) same)

pub settled_feed : (shown : Option Publication) (number : Option ℕ) (r : Reading) (t : Talking) → (feed_said r t).fault ≡ None → SettledOn shown number t → SettledOn shown number (feed_said r t).after
unfolding feed_said
settled_feed shown number r t none settled = go r.ending none
  where
    go : (e : End) → (ended_by e (frames_said r.frames t)).fault ≡ None → SettledOn shown number (ended_by e (frames_said r.frames t)).after
    go (Opening left) is = settled_frames shown number r.frames t settled
    go (Rest rest) is = settled_frames shown number r.frames t settled
    go (Fault why) is = settled_break shown number why (frames_said r.frames t).after (settled_frames shown number r.frames t settled)

-- a connection of which nothing came has nothing to write
pub fresh_quiet : flush_of (Open new_state) ≡ record { bytes = []; after = Open new_state }
unfolding flush_of pull_of after_pull all_rounds rounds round
fresh_quiet = refl

pub settled_fresh : SettledOn None None fresh_talk
settled_fresh = (refl, fresh_quiet)

numbered_is : (last : Option ℕ) (n : ℕ) → is_number last n ≡ true → last ≡ Some n
numbered_is None n is = absurd (cc is)
numbered_is (Some m) n is = let e : m ≡ n = grind (arith, nat_tests, is) in ap (λ (k : ℕ). Some k) e

-- a session that has not failed stays as it is at a turn on the last turn's publication in which no call is new
pub stays_here : (x : Publication) (s : SessionState) (failed : Option SessionFault) (e : End) (t : Talking) (shown : Option Publication) (number : Option ℕ) (out : List ℕ)
    → state_by failed e t shown ≡ s → failed ≡ None → IsSettled failed shown number t → is_number number x.number ≡ true → list_any is_new t.served ≡ false → MayTurn x s → Turns x s (Ok tt) out out s
stays_here x s failed e t shown number out view none settled numbered old may =
    let running : Running e t shown ≡ s = subst (λ (f : Option SessionFault). state_by f e t shown ≡ s) none view in
    let on : SettledOn shown number t = subst (λ (f : Option SessionFault). IsSettled f shown number t) none settled in
    subst (λ (u : SessionState). Turns x u (Ok tt) out out u) running
    (stays_on x shown number e t out on (numbered_is number x.number numbered) old (subst (λ (u : SessionState). MayTurn x u) (sym running) may))
