-- The steps of a session: their talk is its talk, and their bytes are its bytes.
use Rattle.std.proofs.Common.{◌≡◌, ℕ, zero, suc, List, [], ◌∷◌, ◌++◌, Option, Some, None, refl, sym, ap, subst, ◌∙◌, append-nil, append_assoc}
use Rattle.std.specs.List.{AllByRecursion}
use Rattle.wl_responses.proofs.Common.{Frame, End, reading_from, ConnFault, Publication, JwtOutcome, Talking, frame_said, break_said, SessionState, Running, Fallen, feed_said, turn_said, name_said, given_said, Told, unnamed_count, outcome_told, Step, FrameCame, BytesBroke, CallAttested, TurnTaken, OutcomeCame, step_said, talk_after, AllFit, NoneAbove, NeverFall, Move, Fed, TurnedOn, GivenTo, session_after, steps_of, numbers_turned}
use Rattle.h2_frame.specs.Reading.{Opening, Rest, Fault, Reading}
use Rattle.h2_conn.specs.Kinds.{Fits}
use Rattle.h2_conn.proofs.FrameDemands.{frames_fit}
use Rattle.wl_session.specs.Talks.{Said, then_, frames_said}
use Rattle.wl_session.specs.Sessions.{OutOfMemory, ended_by}
use Rattle.wl_session.specs.Steps.{names_said, fed_by, feed_told, turn_told}
use Rattle.wl_responses.specs.Responses.{numbers_read}
use Rattle.wl_responses.specs.Moves.{move_told, onto_frames, onto_ending, onto_names, onto_fed, onto_reading, onto_move, bytes_of_steps, HasTalk, SessionsTakeSteps, BytesAreResponses, ResponsesAreAnswers, ResponsesDiffer, replies_in, MessagesAreCut, TurnsHaveSelectors, TurnsWereTaken, number_turned, PublicationsNeverFall}
use Rattle.wl_responses.proofs.StreamReplies.{streams_have_answers}
use Rattle.wl_responses.proofs.PublicationOrder.{numbers_never_fall}
use Rattle.wl_responses.proofs.ResponseTurns.{begun_taken}
use Rattle.wl_responses.proofs.MessageCuts.{responses_cut}
use Rattle.wl_responses.proofs.CallSelectors.{begun_attested}

-- these steps take a talk to what is said, and write its bytes
pub record Leads (before after : List Step) (said : Said) : Type 0 where
  pub talk : said.after ≡ talk_after after
  pub bytes : bytes_of_steps after ≡ bytes_of_steps before ++ said.bytes

leads_both : (before mid after : List Step) (first : Said) (go_on : Talking → Said) → Leads before mid first → Leads mid after (go_on (talk_after mid)) → Leads before after (then_ first go_on)
leads_both before mid after first go_on h k = record {
  talk = ap (λ (t : Talking). (go_on t).after) h.talk ∙ k.talk;
  bytes =
      k.bytes
      ∙ (ap (λ (xs : List ℕ). xs ++ (go_on (talk_after mid)).bytes) h.bytes
      ∙ (append_assoc (bytes_of_steps before) first.bytes (go_on (talk_after mid)).bytes
      ∙ ap (λ (t : Talking). bytes_of_steps before ++ (first.bytes ++ (go_on t).bytes)) (sym h.talk)));
}

leads_step : (step : Step) (before : List Step) → Leads before (step ∷ before) (step_said step (talk_after before))
leads_step step before = record { talk = refl; bytes = refl }

frames_lead : (fs : List Frame) (before : List Step) → Leads before (onto_frames fs before) (frames_said fs (talk_after before))
unfolding frames_said
frames_lead [] before = record { talk = refl; bytes = sym (append-nil (bytes_of_steps before)) }
frames_lead (f ∷ fs) before = leads_both before (FrameCame f ∷ before) (onto_frames fs (FrameCame f ∷ before)) (frame_said f (talk_after before)) (frames_said fs) (leads_step (FrameCame f) before) (frames_lead fs (FrameCame f ∷ before))

ending_leads : (e : End) (before mid : List Step) (said : Said) → Leads before mid said → Leads before (onto_ending e mid) (ended_by e said)
ending_leads (Opening left) before mid said h = h
ending_leads (Rest rest) before mid said h = h
ending_leads (Fault why) before mid said h = leads_both before mid (BytesBroke why ∷ mid) said (break_said why) h (leads_step (BytesBroke why) mid)

pub reading_leads : (r : Reading) (before : List Step) → Leads before (onto_ending r.ending (onto_frames r.frames before)) (feed_said r (talk_after before))
unfolding feed_said
reading_leads r before = ending_leads r.ending before (onto_frames r.frames before) (frames_said r.frames (talk_after before)) (frames_lead r.frames before)

names_lead : (count : ℕ) (caller : Option (List (List ℕ))) (before : List Step) → Leads before (onto_names count caller before) (names_said count caller (talk_after before))
unfolding names_said
names_lead zero caller before = record { talk = refl; bytes = sym (append-nil (bytes_of_steps before)) }
names_lead (suc n) caller before =
    leads_both before (CallAttested caller ∷ before) (onto_names n caller (CallAttested caller ∷ before)) (name_said caller (talk_after before)) (names_said n caller) (leads_step (CallAttested caller) before) (names_lead n caller (CallAttested caller ∷ before))

-- ---- a move

-- these steps take a session to what it is to do
pub record Takes (before after : List Step) (told : Told) : Type 0 where
  pub talk : HasTalk told.after after
  pub bytes : bytes_of_steps after ≡ bytes_of_steps before ++ told.bytes

fed_takes : (fault : Option ConnFault) (e : End) (shown : Option Publication) (caller : Option (List (List ℕ))) (said : Said) (before mid : List Step) → Leads before mid said
    → Takes before (onto_fed fault (unnamed_count said.after) caller mid) (fed_by fault e shown caller said)
fed_takes None e shown caller said before mid h =
    let after = onto_names (unnamed_count said.after) caller mid in
    let all = leads_both before mid after said (names_said (unnamed_count said.after) caller) h (names_lead (unnamed_count said.after) caller mid) in
    record { talk = all.talk; bytes = all.bytes }
fed_takes (Some fault) e shown caller said before mid h = record { talk = tt; bytes = h.bytes }

feed_takes : (piece : List ℕ) (caller : Option (List (List ℕ))) (e : End) (t : Talking) (shown : Option Publication) (before : List Step) → t ≡ talk_after before
    → Takes before (onto_reading (reading_from e piece) caller t before) (feed_told piece caller (Running e t shown))
unfolding feed_told
feed_takes piece caller e t shown before is =
    let r = reading_from e piece in
    subst (λ (u : Talking). Takes before (onto_reading r caller u before) (fed_by (feed_said r u).fault r.ending shown caller (feed_said r u))) (sym is)
    (fed_takes (feed_said r (talk_after before)).fault r.ending shown caller (feed_said r (talk_after before)) before (onto_ending r.ending (onto_frames r.frames before)) (reading_leads r before))

turn_takes : (x : Publication) (e : End) (t : Talking) (shown : Option Publication) (before : List Step) → t ≡ talk_after before → Takes before (TurnTaken x ∷ before) (turn_told x (Running e t shown))
unfolding turn_told
turn_takes x e t shown before is = record { talk = ap (λ (u : Talking). (turn_said x u).after) is; bytes = ap (λ (u : Talking). bytes_of_steps before ++ (turn_said x u).bytes) (sym is) }

outcome_takes : (o : JwtOutcome) (e : End) (t : Talking) (shown : Option Publication) (before : List Step) → t ≡ talk_after before → Takes before (OutcomeCame o ∷ before) (outcome_told o (Running e t shown))
unfolding outcome_told
outcome_takes o e t shown before is = record { talk = ap (λ (u : Talking). (given_said o u).after) is; bytes = ap (λ (u : Talking). bytes_of_steps before ++ (given_said o u).bytes) (sym is) }

fallen_takes : (move : Move) (fault : ConnFault) (begun : ℕ) (before : List Step) → Takes before before (move_told move (Fallen fault begun))
unfolding feed_told turn_told outcome_told
fallen_takes (Fed piece caller) fault begun before = record { talk = tt; bytes = sym (append-nil (bytes_of_steps before)) }
fallen_takes (TurnedOn x) fault begun before = record { talk = tt; bytes = sym (append-nil (bytes_of_steps before)) }
fallen_takes (GivenTo o) fault begun before = record { talk = tt; bytes = sym (append-nil (bytes_of_steps before)) }

exhausted_takes : (move : Move) (before : List Step) → Takes before before (move_told move OutOfMemory)
unfolding feed_told turn_told outcome_told
exhausted_takes (Fed piece caller) before = record { talk = tt; bytes = sym (append-nil (bytes_of_steps before)) }
exhausted_takes (TurnedOn x) before = record { talk = tt; bytes = sym (append-nil (bytes_of_steps before)) }
exhausted_takes (GivenTo o) before = record { talk = tt; bytes = sym (append-nil (bytes_of_steps before)) }

move_takes : (move : Move) (s : SessionState) (before : List Step) → HasTalk s before → Takes before (onto_move move s before) (move_told move s)
move_takes (Fed piece caller) (Running e t shown) before is = feed_takes piece caller e t shown before is
move_takes (TurnedOn x) (Running e t shown) before is = turn_takes x e t shown before is
move_takes (GivenTo o) (Running e t shown) before is = outcome_takes o e t shown before is
move_takes (Fed piece caller) (Fallen fault begun) before is = fallen_takes (Fed piece caller) fault begun before
move_takes (TurnedOn x) (Fallen fault begun) before is = fallen_takes (TurnedOn x) fault begun before
move_takes (GivenTo o) (Fallen fault begun) before is = fallen_takes (GivenTo o) fault begun before
move_takes (Fed piece caller) OutOfMemory before is = exhausted_takes (Fed piece caller) before
move_takes (TurnedOn x) OutOfMemory before is = exhausted_takes (TurnedOn x) before
move_takes (GivenTo o) OutOfMemory before is = exhausted_takes (GivenTo o) before

pub sessions_take_steps : SessionsTakeSteps
sessions_take_steps [] = record { talk = refl; bytes = refl }
sessions_take_steps (move ∷ before) =
    let old = sessions_take_steps before in
    let now = move_takes move (session_after before) (steps_of before) old.talk in
    record { talk = now.talk; bytes = ap (λ (xs : List ℕ). xs ++ (move_told move (session_after before)).bytes) old.bytes ∙ sym now.bytes }

-- ---- frames that fit

pub frames_all_fit : (fs : List Frame) (before : List Step) → AllByRecursion Fits fs → AllFit before → AllFit (onto_frames fs before)
frames_all_fit [] before fits h = h
frames_all_fit (f ∷ fs) before fits h = frames_all_fit fs (FrameCame f ∷ before) fits.1 (h, fits.0)

pub ending_fits : (e : End) (before : List Step) → AllFit before → AllFit (onto_ending e before)
ending_fits (Opening left) before h = h
ending_fits (Rest rest) before h = h
ending_fits (Fault why) before h = (h, tt)

names_fit : (count : ℕ) (caller : Option (List (List ℕ))) (before : List Step) → AllFit before → AllFit (onto_names count caller before)
names_fit zero caller before h = h
names_fit (suc n) caller before h = names_fit n caller (CallAttested caller ∷ before) (h, tt)

fed_fits : (fault : Option ConnFault) (count : ℕ) (caller : Option (List (List ℕ))) (before : List Step) → AllFit before → AllFit (onto_fed fault count caller before)
fed_fits None count caller before h = names_fit count caller before h
fed_fits (Some fault) count caller before h = h

move_fits : (move : Move) (s : SessionState) (before : List Step) → AllFit before → AllFit (onto_move move s before)
move_fits (Fed piece caller) (Running e t shown) before h =
    let r = reading_from e piece in
    fed_fits (feed_said r t).fault (unnamed_count (feed_said r t).after) caller (onto_ending r.ending (onto_frames r.frames before)) (ending_fits r.ending (onto_frames r.frames before) (frames_all_fit r.frames before (frames_fit e piece) h))
move_fits (TurnedOn x) (Running e t shown) before h = (h, tt)
move_fits (GivenTo o) (Running e t shown) before h = (h, tt)
move_fits (Fed piece caller) (Fallen fault begun) before h = h
move_fits (TurnedOn x) (Fallen fault begun) before h = h
move_fits (GivenTo o) (Fallen fault begun) before h = h
move_fits (Fed piece caller) OutOfMemory before h = h
move_fits (TurnedOn x) OutOfMemory before h = h
move_fits (GivenTo o) OutOfMemory before h = h

pub steps_fit : (moves : List Move) → AllFit (steps_of moves)
steps_fit [] = tt
steps_fit (move ∷ before) = move_fits move (session_after before) (steps_of before) (steps_fit before)

pub bytes_are_responses : BytesAreResponses
bytes_are_responses n moves = (streams_have_answers n (steps_of moves) (steps_fit moves)).bytes

pub responses_are_answers : ResponsesAreAnswers
responses_are_answers n moves = (streams_have_answers n (steps_of moves) (steps_fit moves)).answers

pub responses_differ : ResponsesDiffer
responses_differ n moves = (streams_have_answers n (steps_of moves) (steps_fit moves)).differ

pub messages_are_cut : MessagesAreCut
messages_are_cut n moves = responses_cut (replies_in n moves) (bytes_are_responses n moves) (responses_are_answers n moves)

pub turns_have_selectors : TurnsHaveSelectors
turns_have_selectors n moves = begun_attested n (steps_of moves)

pub turns_were_taken : TurnsWereTaken
turns_were_taken n moves = begun_taken n (steps_of moves)

-- ---- numbers

-- what the steps read is what was turned on, or less
data Fewer : List ℕ → List ℕ → Type 0 where
  none : (ms : List ℕ) → Fewer [] ms
  both : (n : ℕ) (ns ms : List ℕ) → Fewer ns ms → Fewer (n ∷ ns) (n ∷ ms)
  left : (n : ℕ) (ns ms : List ℕ) → Fewer ns ms → Fewer ns (n ∷ ms)

fewer_above : (most : ℕ) (ns ms : List ℕ) → Fewer ns ms → NoneAbove most ms → NoneAbove most ns
fewer_above most _ _ (none ms) h = tt
fewer_above most _ _ (both n ns ms f) h = (h.0, fewer_above most ns ms f h.1)
fewer_above most _ _ (left n ns ms f) h = fewer_above most ns ms f h.1

fewer_fall : (ns ms : List ℕ) → Fewer ns ms → NeverFall ms → NeverFall ns
fewer_fall _ _ (none ms) h = tt
fewer_fall _ _ (both n ns ms f) h = (fewer_above n ns ms f h.0, fewer_fall ns ms f h.1)
fewer_fall _ _ (left n ns ms f) h = fewer_fall ns ms f h.1

pub frames_numbers : (fs : List Frame) (before : List Step) → numbers_read (onto_frames fs before) ≡ numbers_read before
frames_numbers [] before = refl
frames_numbers (f ∷ fs) before = frames_numbers fs (FrameCame f ∷ before)

pub ending_numbers : (e : End) (before : List Step) → numbers_read (onto_ending e before) ≡ numbers_read before
ending_numbers (Opening more) before = refl
ending_numbers (Rest rest) before = refl
ending_numbers (Fault why) before = refl

names_numbers : (count : ℕ) (caller : Option (List (List ℕ))) (before : List Step) → numbers_read (onto_names count caller before) ≡ numbers_read before
names_numbers zero caller before = refl
names_numbers (suc n) caller before = names_numbers n caller (CallAttested caller ∷ before)

fed_numbers : (fault : Option ConnFault) (count : ℕ) (caller : Option (List (List ℕ))) (before : List Step) → numbers_read (onto_fed fault count caller before) ≡ numbers_read before
fed_numbers None count caller before = names_numbers count caller before
fed_numbers (Some fault) count caller before = refl

move_read : (move : Move) (s : SessionState) (before : List Step) (ms : List ℕ) → Fewer (numbers_read before) ms → Fewer (numbers_read (onto_move move s before)) (number_turned move ms)
move_read (Fed piece caller) (Running e t shown) before ms f =
    let r = reading_from e piece in
    let mid = onto_ending r.ending (onto_frames r.frames before) in
    subst (λ (ns : List ℕ). Fewer ns ms) (sym (fed_numbers (feed_said r t).fault (unnamed_count (feed_said r t).after) caller mid ∙ (ending_numbers r.ending (onto_frames r.frames before) ∙ frames_numbers r.frames before))) f
move_read (TurnedOn x) (Running e t shown) before ms f = both x.number (numbers_read before) ms f
move_read (GivenTo o) (Running e t shown) before ms f = f
move_read (Fed piece caller) (Fallen fault begun) before ms f = f
move_read (TurnedOn x) (Fallen fault begun) before ms f = left x.number (numbers_read before) ms f
move_read (GivenTo o) (Fallen fault begun) before ms f = f
move_read (Fed piece caller) OutOfMemory before ms f = f
move_read (TurnedOn x) OutOfMemory before ms f = left x.number (numbers_read before) ms f
move_read (GivenTo o) OutOfMemory before ms f = f

all_read : (moves : List Move) → Fewer (numbers_read (steps_of moves)) (numbers_turned moves)
all_read [] = none []
all_read (move ∷ before) = move_read move (session_after before) (steps_of before) (numbers_turned before) (all_read before)

pub publications_never_fall : PublicationsNeverFall
publications_never_fall n moves falls = numbers_never_fall n (steps_of moves) (fewer_fall (numbers_read (steps_of moves)) (numbers_turned moves) (all_read moves) falls)
