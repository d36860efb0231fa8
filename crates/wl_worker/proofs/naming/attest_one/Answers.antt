use Rattle.std.proofs.Common.{ℕ, inr, List, [], ◌∷◌, Option, Ok, Err, sym, subst}
use Rattle.std.specs.Prelude.{IsSome}
use Rattle.std.proofs.lemmas.Result.{err_from_is_err_and}
use Rattle.wl_octets.specs.declared.memory.Memory.{Memory}
use Rattle.wl_edge.specs.declared.origin.Origin.{Origin}
use Rattle.wl_edge.specs.declared.attestor.AttestorCall.{AttestorCall}
use Rattle.wl_session.specs.declared.asks.SessionFault.{SessionFault}
use Rattle.wl_session.specs.Sessions.{SessionState, unnamed_in, Names}
use Rattle.wl_worker.specs.Rounds.{HaveCalls}
use Rattle.wl_worker.specs.Outcomes.{GainsAll}
use Rattle.wl_worker.specs.Stepping.{Asks, Attests}
use Rattle.wl_worker.proofs.Growth.{gains_none, rose_later}
use Rattle.wl_worker.proofs.SeenPublications.{keeps_self}
use Rattle.wl_worker.proofs.Steps.{named_ok, named_none}
use Rattle.wl_worker.proofs.naming.attest_one.Goals as goal

-- no answer was had
unasked : (origin : Origin) (s : SessionState) (out : List ℕ) (x y : Option (List AttestorCall)) (k n : ℕ) (m : Memory) → Asks origin x y k n (Err m) → Attests origin s s out out x y k n (Err m)
unfolding HaveCalls
unasked origin s out x y k n m asks =
    record {
      answers = [];
      calls_are = subst (λ (calls : Option (List AttestorCall)). GainsAll x calls []) (sym asks.0) (gains_none x);
      fails = rose_later k n asks.1;
      have = tt;
      keeps = keeps_self s;
      came = tt;
    }

named : (origin : Origin) (s new : SessionState) (o p : List ℕ) (x y : Option (List AttestorCall)) (k n : ℕ) (a : Option (List (List ℕ))) → Asks origin x y k n (Ok a) → IsSome (unnamed_in s) → Names a s (Ok tt) o p new
    → Attests origin s new o p x y k n (Ok tt)
unfolding HaveCalls
named origin s new o p x y k n a asks there names =
    let one = named_ok a s new o p there names in
    record { answers = a ∷ []; calls_are = asks.0; fails = asks.1; have = (there, tt); keeps = one.keeps; came = one.came }

unnamed : (origin : Origin) (s new : SessionState) (o p : List ℕ) (x y : Option (List AttestorCall)) (k n : ℕ) (a : Option (List (List ℕ))) (f : SessionFault) (m : Memory) → Asks origin x y k n (Ok a) → IsSome (unnamed_in s) → Names a s (Err f) o p new
    → Attests origin s new o p x y k n (Err m)
unfolding HaveCalls
unnamed origin s new o p x y k n a f m asks there names =
    record { answers = a ∷ []; calls_are = asks.0; fails = asks.1; have = (there, tt); keeps = inr (named_none a s new f o p there names); came = tt }

pub returns-in_err-answer-clause-attests : goal.returns-in_err-answer-clause-attests
returns-in_err-answer-clause-attests g c =
    let p = err_from_is_err_and c.from_residual.result c.from_residual.ensures.1 in
    rw p.1 (unasked _ _ _ _ _ _ _ p.0 c.in_err-answer.ensures)

pub returns-in-Ok-clause-attests : goal.returns-in-Ok-clause-attests
returns-in-Ok-clause-attests g c = named _ _ _ _ _ _ _ _ _ _ c.in_ok-answer.ensures c.requires c.in-Ok.ensures

pub returns-in-Err-clause-attests : goal.returns-in-Err-clause-attests
returns-in-Err-clause-attests g c = unnamed _ _ _ _ _ _ _ _ _ _ _ (record {}) c.in_ok-answer.ensures c.requires c.in-Err.ensures
