-- A call for tokens waits for its asks, one after the other.
use Rattle.std.proofs.Common.{◌≡◌, inl, inr, ℕ, ◌==◌, length, Bool, true, false, nat_lt, if◌then◌else◌, List, [], ◌∷◌, ◌++◌, find, Option, Some, None, refl, sym, ap, subst, ◌∙◌, eq-eqb, eqb-true, ne_eqb}
use Rattle.std.specs.List.{AllByRecursion}
use Rattle.std.proofs.lemmas.Bool.{cases_Bool}
use Rattle.wl_responses.proofs.Common.{Phase, JwtItem, spell_jwt, capped, Publication, ViewModel, view_in, asks_of, Wanted, JwtAsk, JwtOutcome, Tokens, Stage, Ready, Asking, ServedCall, was_seen, Turned, has_ended, token_answer, call_answer, call_turn, calls_turn, change_first, is_asking, item_for, next_ask, give_call, give_on, give_first, Talking, turn_said, given_said, first_here, first_later, Step, talk_after, AllFit, AnsweringTurn, stage_on}
use Rattle.wl_session.specs.declared.asks.JwtOutcome.TheVariants as outcomes
use Rattle.wl_session.specs.Talks.{written}
use Rattle.wl_responses.specs.Completeness.{waits_for, waits_after}
use Rattle.wl_responses.proofs.OutboxStreams.{differ}
use Rattle.wl_responses.proofs.Asides.{NoneOn, Aside, over, on, turn_aside, calls_aside}
use Rattle.wl_responses.proofs.WaitingAnswers.{OneOn, SeenFits, StageFits}
use Rattle.wl_responses.proofs.Endings.{call_is, some_is, found_is}
use Rattle.wl_responses.proofs.StreamReplies.{steps_go}

-- ---- how far the call on a stream is

none_stage : (n : ℕ) (cs : List ServedCall) → NoneOn n cs → stage_on n cs ≡ None
none_stage n [] none = refl
none_stage n (c ∷ cs) none = rw (ne_eqb c.stream n (λ e. none.0 e)) (none_stage n cs none.1)

here_stage : (n : ℕ) (s : Stage) (cs : List ServedCall) → stage_on n (record { stream = n; stage = s } ∷ cs) ≡ Some s
here_stage n s cs = rw (eq-eqb n n refl) refl

-- what becomes of a call on another stream
aside_stage : (k n : ℕ) (p : Phase) (r : Turned) (cs : List ServedCall) → (k ≡ n → ⊥) → Aside k p r → stage_on n (r.kept ++ cs) ≡ stage_on n cs
aside_stage k n p _ cs other (over q stands apart) = refl
aside_stage k n p _ cs other (on stage q stands apart) = rw (ne_eqb k n (λ e. other e)) refl

-- ---- a turn

-- of the stream of a call that it answers, in front of calls on other streams
answered_stage : (n : ℕ) (headed : Bool) (audience : List (List ℕ)) (ws : List Wanted) (p : Phase) (cs : List ServedCall) → stage_on n cs ≡ None → stage_on n ((token_answer n headed audience ws p).kept ++ cs) ≡ waits_for n audience ws []
answered_stage n headed audience [] p cs none = none
answered_stage n headed audience (w ∷ ws) p cs none = here_stage n _ cs

-- no turn answered it before
unseen : (turn : Option AnsweringTurn) (audience : List (List ℕ)) (id : Option (List ℕ)) (sel : List (List ℕ)) (seen : Option ViewModel) (v : ViewModel) → SeenFits turn (Tokens audience id) sel seen → was_seen seen v ≡ false
unseen turn audience id sel None v fits = refl
unseen turn audience id sel (Some old) v fits = absurd fits.0

call_stage : (x : Publication) (n : ℕ) (c : ServedCall) (audience : List (List ℕ)) (id : Option (List ℕ)) (sel : List (List ℕ)) (seen : Option ViewModel) (headed : Bool) (p : Phase) (cs : List ServedCall) (turn : Option AnsweringTurn)
    → c.stream ≡ n → c.stage ≡ Ready (Tokens audience id) sel seen headed → StageFits turn c.stage → stage_on n cs ≡ None
    → stage_on n ((call_turn x c p).kept ++ cs) ≡ waits_for n audience (asks_of id (view_in x sel)) []
unfolding call_turn call_answer
call_stage x n c audience id sel seen headed p cs turn same is fits none =
    let seen_fits : SeenFits turn (Tokens audience id) sel seen = subst (StageFits turn) is fits in
    rw (same, is, unseen turn audience id sel seen (view_in x sel) seen_fits) (answered_stage n headed audience (asks_of id (view_in x sel)) p cs none)

pub turn_stage : (x : Publication) (n : ℕ) (cs : List ServedCall) (audience : List (List ℕ)) (id : Option (List ℕ)) (sel : List (List ℕ)) (seen : Option ViewModel) (headed : Bool) (p : Phase) (turn : Option AnsweringTurn)
    → stage_on n cs ≡ Some (Ready (Tokens audience id) sel seen headed) → OneOn n cs → AllByRecursion (λ c. c.stream ≡ n → StageFits turn c.stage) cs
    → stage_on n (calls_turn x cs p).kept ≡ waits_for n audience (asks_of id (view_in x sel)) []
unfolding calls_turn
turn_stage x n [] audience id sel seen headed p turn is one fits = absurd (cc is)
turn_stage x n (c ∷ cs) audience id sel seen headed p turn is one fits =
    elim (cases_Bool (c.stream == n)) [
      | inl here ↦
          let same : c.stream ≡ n = eqb-true c.stream n here in
          let mine : c.stage ≡ Ready (Tokens audience id) sel seen headed = some_is c.stage (Ready (Tokens audience id) sel seen headed) (rw here at is) in
          let rest = calls_turn x cs (call_turn x c p).phase in
          call_stage x n c audience id sel seen headed p rest.kept turn same mine (fits.0 same) (none_stage n rest.kept ((calls_aside x cs (call_turn x c p).phase).none n (one.0 same)))
      | inr there ↦
          let other : c.stream ≡ n → ⊥ = λ e. differ (eq-eqb c.stream n e) there in
          aside_stage c.stream n p (call_turn x c p) (calls_turn x cs (call_turn x c p).phase).kept other (turn_aside x c p)
          ∙ turn_stage x n cs audience id sel seen headed (call_turn x c p).phase turn (rw there at is) one.1 fits.1
    ]

pub turn_awaits : (x : Publication) (steps : List Step) → AllFit steps → (n : ℕ) (audience : List (List ℕ)) (id : Option (List ℕ)) (sel : List (List ℕ)) (seen : Option ViewModel) (headed : Bool)
    → stage_on n (talk_after steps).served ≡ Some (Ready (Tokens audience id) sel seen headed) → stage_on n (turn_said x (talk_after steps)).after.served ≡ waits_for n audience (asks_of id (view_in x sel)) []
unfolding turn_said written
turn_awaits x steps fit n audience id sel seen headed is =
    let known = (steps_go n steps fit).speaks.serves in
    turn_stage x n (talk_after steps).served audience id sel seen headed (talk_after steps).phase _ is known.one known.fits

-- a call that waits for tokens stays as it is
still_stage : (x : Publication) (n : ℕ) (c : ServedCall) (first : JwtAsk) (rest : List Wanted) (got : List JwtItem) (p : Phase) (cs : List ServedCall) → c.stream ≡ n → c.stage ≡ Asking first rest got
    → stage_on n ((call_turn x c p).kept ++ cs) ≡ Some (Asking first rest got)
unfolding call_turn
still_stage x n c first rest got p cs same is = rw (same, is) (here_stage n (Asking first rest got) cs)

turn_still : (x : Publication) (n : ℕ) (cs : List ServedCall) (first : JwtAsk) (rest : List Wanted) (got : List JwtItem) (p : Phase) → stage_on n cs ≡ Some (Asking first rest got) → stage_on n (calls_turn x cs p).kept ≡ Some (Asking first rest got)
unfolding calls_turn
turn_still x n [] first rest got p is = absurd (cc is)
turn_still x n (c ∷ cs) first rest got p is =
    elim (cases_Bool (c.stream == n)) [
      | inl here ↦
          let mine : c.stage ≡ Asking first rest got = some_is c.stage (Asking first rest got) (rw here at is) in
          still_stage x n c first rest got p (calls_turn x cs (call_turn x c p).phase).kept (eqb-true c.stream n here) mine
      | inr there ↦
          let other : c.stream ≡ n → ⊥ = λ e. differ (eq-eqb c.stream n e) there in
          aside_stage c.stream n p (call_turn x c p) (calls_turn x cs (call_turn x c p).phase).kept other (turn_aside x c p) ∙ turn_still x n cs first rest got (call_turn x c p).phase (rw there at is)
    ]

pub turn_stays : (x : Publication) (t : Talking) (n : ℕ) (first : JwtAsk) (rest : List Wanted) (got : List JwtItem) → stage_on n t.served ≡ Some (Asking first rest got) → stage_on n (turn_said x t).after.served ≡ Some (Asking first rest got)
unfolding turn_said written
turn_stays x t n first rest got is = turn_still x n t.served first rest got t.phase is

-- ---- a token

ended_stage : (n : ℕ) (b : Bool) (p q : Phase) (cs : List ServedCall) → stage_on n cs ≡ None → stage_on n ((if b then has_ended p else has_ended q).kept ++ cs) ≡ None
ended_stage n true p q cs none = none
ended_stage n false p q cs none = none

next_stage : (n : ℕ) (audience : List (List ℕ)) (ws : List Wanted) (got : List JwtItem) (p : Phase) (cs : List ServedCall) → stage_on n cs ≡ None → stage_on n ((next_ask n audience ws got p).kept ++ cs) ≡ waits_for n audience ws got
next_stage n audience [] got p cs none = ended_stage n (nat_lt 4194304 (capped (length (spell_jwt (record { svids = got }))))) _ _ cs none
next_stage n audience (w ∷ ws) got p cs none = here_stage n _ cs

given_stage : (n : ℕ) (first : JwtAsk) (rest : List Wanted) (got : List JwtItem) (o : JwtOutcome) (p : Phase) (cs : List ServedCall) → stage_on n cs ≡ None → stage_on n ((give_call n first rest got o p).kept ++ cs) ≡ waits_after o n first rest got
unfolding give_call
given_stage n first rest got (outcomes.Token t) p cs none = next_stage n first.audience rest (got ++ item_for first t ∷ []) p cs none
given_stage n first rest got outcomes.Failed p cs none = none
given_stage n first rest got (outcomes.Unfit why) p cs none = none

first_stage : (n : ℕ) (first : JwtAsk) (rest : List Wanted) (got : List JwtItem) (o : JwtOutcome) (cs : List ServedCall) (p : Phase) → find is_asking cs ≡ Some (record { stream = n; stage = Asking first rest got }) → OneOn n cs
    → stage_on n (change_first is_asking (give_on o) cs p).kept ≡ waits_after o n first rest got
first_stage n first rest got o [] p is one = absurd (cc is)
first_stage n first rest got o (d ∷ cs) p is one =
    elim (cases_Bool (is_asking d)) [
      | inl here ↦
          let call : ServedCall = record { stream = n; stage = Asking first rest got } in
          let same : d ≡ call = call_is d call (rw here at is) in
          let alone : NoneOn n cs = one.0 (ap (λ (e : ServedCall). e.stream) same) in
          rw (first_here is_asking (give_on o) d cs p here)
          (subst (λ (e : ServedCall). stage_on n ((give_on o e p).kept ++ cs) ≡ waits_after o n first rest got) (sym same) (given_stage n first rest got o p cs (none_stage n cs alone)))
      | inr later ↦
          let call : ServedCall = record { stream = n; stage = Asking first rest got } in
          let found : find is_asking cs ≡ Some call = rw later at is in
          let other : d.stream ≡ n → ⊥ = λ e. found_is is_asking call cs found (one.0 e) in
          rw (first_later is_asking (give_on o) d cs p later) (rw (ne_eqb d.stream n (λ e. other e)) (first_stage n first rest got o cs p found one.1))
    ]

pub outcome_awaits : (o : JwtOutcome) (steps : List Step) → AllFit steps → (n : ℕ) (first : JwtAsk) (rest : List Wanted) (got : List JwtItem) → find is_asking (talk_after steps).served ≡ Some (record { stream = n; stage = Asking first rest got })
    → stage_on n (given_said o (talk_after steps)).after.served ≡ waits_after o n first rest got
unfolding given_said written give_first
outcome_awaits o steps fit n first rest got is = first_stage n first rest got o (talk_after steps).served (talk_after steps).phase is (steps_go n steps fit).speaks.serves.one
