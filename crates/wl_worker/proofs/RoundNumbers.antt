-- One number is read in each round, except the one in which the talk fails.
use Rattle.std.proofs.Common.{◌≡◌, ◌+◌, List, [], ◌∷◌, length, Option, Some, None, refl, ap, ◌∙◌, arith, length-append}
use Rattle.std.specs.Prelude.{IsSome}
use Rattle.wl_worker.proofs.Common.{Publication, JwtAsk, JwtOutcome, SessionFault, SessionState, Running, Fallen, OutOfMemory, asks_in, failure_in, turn_told, Round, shown_told, given_told_at, given_told, outcomes_told, named_session, turned_session, round_told, session_after, pieces, number_of, AreWhole}
use Rattle.wl_session.specs.Steps.{outcome_told}
use Rattle.wl_worker.specs.Rounds.{numbers}

-- ---- what goes on, goes on

turn_goes : (p : Publication) (s : SessionState) → failure_in s ≡ None → failure_in (turn_told p s).after ≡ None
unfolding turn_told
turn_goes p (Running e t shown) is = refl
turn_goes p (Fallen fault begun) is = is
turn_goes p OutOfMemory is = is

shown_goes : (shown : Option Publication) (s : SessionState) → failure_in s ≡ None → failure_in (shown_told shown s).after ≡ None
unfolding shown_told
shown_goes None s is = is
shown_goes (Some p) s is = turn_goes p s is

outcome_goes : (o : JwtOutcome) (s : SessionState) → failure_in s ≡ None → failure_in (outcome_told o s).after ≡ None
unfolding outcome_told
outcome_goes o (Running e t shown) is = refl
outcome_goes o (Fallen fault begun) is = is
outcome_goes o OutOfMemory is = is

given_goes : (ask : Option JwtAsk) (o : JwtOutcome) (s : SessionState) → failure_in s ≡ None → failure_in (given_told_at ask o s).after ≡ None
given_goes None o s is = is
given_goes (Some a) o s is = outcome_goes o s is

outcomes_go : (os : List JwtOutcome) (s : SessionState) → failure_in s ≡ None → failure_in (outcomes_told os s).after ≡ None
unfolding outcomes_told given_told
outcomes_go [] s is = is
outcomes_go (o ∷ more) s is = outcomes_go more (given_told o s).after (given_goes (asks_in s) o s is)

-- ---- what has failed, has failed for good

turn_stays : (p : Publication) (s : SessionState) (f : SessionFault) → failure_in s ≡ Some f → failure_in (turn_told p s).after ≡ Some f
unfolding turn_told
turn_stays p (Running e t shown) f is = absurd (cc is)
turn_stays p (Fallen fault begun) f is = is
turn_stays p OutOfMemory f is = is

shown_stays : (shown : Option Publication) (s : SessionState) (f : SessionFault) → failure_in s ≡ Some f → failure_in (shown_told shown s).after ≡ Some f
unfolding shown_told
shown_stays None s f is = is
shown_stays (Some p) s f is = turn_stays p s f is

outcome_stays : (o : JwtOutcome) (s : SessionState) (f : SessionFault) → failure_in s ≡ Some f → failure_in (outcome_told o s).after ≡ Some f
unfolding outcome_told
outcome_stays o (Running e t shown) f is = absurd (cc is)
outcome_stays o (Fallen fault begun) f is = is
outcome_stays o OutOfMemory f is = is

given_stays : (ask : Option JwtAsk) (o : JwtOutcome) (s : SessionState) (f : SessionFault) → failure_in s ≡ Some f → failure_in (given_told_at ask o s).after ≡ Some f
given_stays None o s f is = is
given_stays (Some a) o s f is = outcome_stays o s f is

outcomes_stay : (os : List JwtOutcome) (s : SessionState) (f : SessionFault) → failure_in s ≡ Some f → failure_in (outcomes_told os s).after ≡ Some f
unfolding outcomes_told given_told
outcomes_stay [] s f is = is
outcomes_stay (o ∷ more) s f is = outcomes_stay more (given_told o s).after f (given_stays (asks_in s) o s f is)

round_after : (r : Round) (s : SessionState) → (round_told r s).after ≡ (outcomes_told r.outcomes (turned_session r s)).after
unfolding round_told
round_after r s = refl

-- ---- by rounds

number_go : (r : Round) (s : SessionState) (o : Option SessionFault) → failure_in (named_session r s) ≡ o → failure_in (round_told r s).after ≡ None → o ≡ None
number_go r s None is goes = refl
number_go r s (Some f) is goes =
    let later : failure_in (round_told r s).after ≡ Some f = ap failure_in (round_after r s) ∙ outcomes_stay r.outcomes (turned_session r s) f (shown_stays r.shown (named_session r s) f is) in
    absurd (cc (later, goes))

one_number : (shown : Option Publication) → IsSome shown → length (number_of shown) ≡ 1
one_number None there = absurd (cc there)
one_number (Some p) there = refl

no_number : (shown : Option Publication) → (IsSome shown → ⊥) → length (number_of shown) ≡ 0
no_number None never = refl
no_number (Some p) never = absurd (never refl)

pub all_read : (past : List Round) → AreWhole past → failure_in (session_after past) ≡ None → length (numbers past) ≡ length (pieces past)
all_read [] whole goes = refl
all_read (r ∷ past) whole goes =
    let named : failure_in (named_session r (session_after past)) ≡ None = number_go r (session_after past) (failure_in (named_session r (session_after past))) refl goes in
    omega (arith, all_read past whole.2 whole.0.0, one_number r.shown (whole.1.read named), length-append (numbers past) (number_of r.shown), length-append (pieces past) (r.piece ∷ []))

failed_named : (r : Round) (s : SessionState) (f : SessionFault) → failure_in (round_told r s).after ≡ Some f → failure_in (named_session r s) ≡ None → ⊥
failed_named r s f fails goes =
    let later : failure_in (round_told r s).after ≡ None = ap failure_in (round_after r s) ∙ outcomes_go r.outcomes (turned_session r s) (shown_goes r.shown (named_session r s) goes) in
    absurd (cc (later, fails))

pub one_unread : (past : List Round) (f : SessionFault) → AreWhole past → failure_in (session_after past) ≡ Some f → length (numbers past) + 1 ≡ length (pieces past)
one_unread [] f whole fails = absurd (cc fails)
one_unread (r ∷ past) f whole fails =
    omega (arith, all_read past whole.2 whole.0.0, no_number r.shown (λ there. failed_named r (session_after past) f fails (whole.1.round.shown there).0), length-append (numbers past) (number_of r.shown), length-append (pieces past) (r.piece ∷ []))
