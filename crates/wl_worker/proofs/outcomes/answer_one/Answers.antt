use Rattle.wl_worker.specs.Outcomes.{asker, Asker, IsOutcome}
use Rattle.std.proofs.Common.{◌≡◌, ℕ, Bool, true, false, inr, List, [], ◌∷◌, Option, Some, None, Ok, Err, sym, subst}
use Rattle.std.proofs.lemmas.Result.{err_from_is_err_and}
use Rattle.wl_octets.specs.declared.memory.Memory.{Memory}
use Rattle.ask_mail.specs.declared.mail.Delivery.{Delivery}
use Rattle.wl_session.specs.declared.asks.JwtAsk.{JwtAsk}
use Rattle.wl_session.specs.declared.asks.JwtOutcome.{JwtOutcome}
use Rattle.wl_session.specs.declared.asks.SessionFault.{SessionFault}
use Rattle.wl_session.specs.Sessions.{SessionState, asks_in, GivesOutcome}
use Rattle.wl_worker.specs.Rounds.{IsAsk, HaveAsks, outcomes_told}
use Rattle.wl_worker.specs.Stepping.{OutcomeTells, Gives}
use Rattle.wl_worker.proofs.Growth.{rose_later}
use Rattle.wl_worker.proofs.SeenPublications.{keeps_self}
use Rattle.wl_worker.proofs.Steps.{given_ok, given_none, quiet_came}
use Rattle.wl_worker.proofs.outcomes.answer_one.Goals as goal

ungiven : (vouched : Asker) (ask : JwtAsk) (s : SessionState) (out : List ℕ) (x y : Option (List Delivery)) (k n : ℕ) (t u : Option (List ℕ)) (why m : Memory)
    → OutcomeTells vouched ask x y k n t u (Err why) → Gives {A = Bool} vouched s s out out x y k n t u (Err m)
unfolding HaveAsks
ungiven vouched ask s out x y k n t u why m told =
    record {
      outcomes = [];
      signs = told.signs;
      ticks = told.ticks;
      signed_is = told.signed_is;
      clock = told.clock;
      fails = rose_later k n told.later;
      have = tt;
      keeps = keeps_self s;
      came = tt;
    }

-- the ask waits on
waiting : (vouched : Asker) (ask : JwtAsk) (s : SessionState) (out : List ℕ) (x y : Option (List Delivery)) (k n : ℕ) (t u : Option (List ℕ))
    → OutcomeTells vouched ask x y k n t u (Ok None) → Gives {A = Bool} vouched s s out out x y k n t u (Ok false)
unfolding HaveAsks outcomes_told
waiting vouched ask s out x y k n t u told =
    record {
      outcomes = [];
      signs = told.signs;
      ticks = told.ticks;
      signed_is = told.signed_is;
      clock = told.clock;
      fails = told.fails;
      have = tt;
      keeps = keeps_self s;
      came = quiet_came s out;
    }

is_ask : (P : JwtAsk → Type 0) (o : Option JwtAsk) (ask : JwtAsk) → o ≡ Some ask → P ask → IsAsk P o
is_ask P o ask is holds = subst (λ (q : Option JwtAsk). IsAsk P q) (sym is) holds

given : (vouched : Asker) (ask : JwtAsk) (s new : SessionState) (o p : List ℕ) (x y : Option (List Delivery)) (k n : ℕ) (t u : Option (List ℕ)) (w : JwtOutcome)
    → OutcomeTells vouched ask x y k n t u (Ok (Some w)) → asks_in s ≡ Some ask → GivesOutcome w s (Ok tt) o p new → Gives {A = Bool} vouched s new o p x y k n t u (Ok true)
unfolding HaveAsks
given vouched ask s new o p x y k n t u w told is gives =
    let one = given_ok w s new o p ask is gives in
    record {
      outcomes = w ∷ [];
      signs = told.signs;
      ticks = told.ticks;
      signed_is = told.signed_is;
      clock = told.clock;
      fails = told.fails;
      have = (is_ask (λ a. IsOutcome vouched told.signs told.ticks a w) (asks_in s) ask is told.outcome, tt);
      keeps = one.keeps;
      came = one.came;
    }

given_last : (vouched : Asker) (ask : JwtAsk) (s new : SessionState) (o p : List ℕ) (x y : Option (List Delivery)) (k n : ℕ) (t u : Option (List ℕ)) (w : JwtOutcome) (f : SessionFault) (m : Memory)
    → OutcomeTells vouched ask x y k n t u (Ok (Some w)) → asks_in s ≡ Some ask → GivesOutcome w s (Err f) o p new → Gives {A = Bool} vouched s new o p x y k n t u (Err m)
unfolding HaveAsks
given_last vouched ask s new o p x y k n t u w f m told is gives =
    record {
      outcomes = w ∷ [];
      signs = told.signs;
      ticks = told.ticks;
      signed_is = told.signed_is;
      clock = told.clock;
      fails = told.fails;
      have = (is_ask (λ a. IsOutcome vouched told.signs told.ticks a w) (asks_in s) ask is told.outcome, tt);
      keeps = inr (given_none w s new f o p ask is gives);
      came = tt;
    }

pub returns-in_err-outcome-in-Some-clause-gives : goal.returns-in_err-outcome-in-Some-clause-gives
returns-in_err-outcome-in-Some-clause-gives g c =
    let p = err_from_is_err_and c.from_residual.result c.from_residual.ensures.1 in
    rw p.1 (ungiven (asker c.args.caller.now.connection g.T.V.Voucher.token) c.in-Some.ask.now c.args.session.now c.args.out.now _ _ _ _ _ _ c.in_err-outcome-in-Some.field-0.0 p.0 c.in_err-outcome-in-Some.ensures.tells)

pub returns-in-Ok-clause-gives : goal.returns-in-Ok-clause-gives
returns-in-Ok-clause-gives g c =
    given (asker c.args.caller.now.connection g.T.V.Voucher.token) c.in-Some.ask.now _ _ _ _ _ _ _ _ _ _ c.in-Some-outcome.outcome (rw c.in-Some-outcome.is at c.in_ok-outcome-in-Some.ensures.tells) (sym c.in-Some.ensures) c.in-Ok.ensures

pub returns-in-Err-clause-gives : goal.returns-in-Err-clause-gives
returns-in-Err-clause-gives g c =
    given_last (asker c.args.caller.now.connection g.T.V.Voucher.token) c.in-Some.ask.now _ _ _ _ _ _ _ _ _ _ c.in-Some-outcome.outcome c.in-Err.field-0 (record {}) (rw c.in-Some-outcome.is at c.in_ok-outcome-in-Some.ensures.tells) (sym c.in-Some.ensures) c.in-Err.ensures

pub returns-in-None-outcome-clause-gives : goal.returns-in-None-outcome-clause-gives
returns-in-None-outcome-clause-gives g c =
    waiting (asker c.args.caller.now.connection g.T.V.Voucher.token) c.in-Some.ask.now _ _ _ _ _ _ _ _ (rw c.in-None-outcome.is at c.in_ok-outcome-in-Some.ensures.tells)
