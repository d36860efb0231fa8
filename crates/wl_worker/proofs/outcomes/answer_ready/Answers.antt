use Rattle.std.proofs.Common.{◌≡◌, ◌<◌, false, inl, Option, None, Some, Ok, is_some, option_map, refl, sym, ap, ◌∙◌, arith}
use Rattle.std.proofs.lemmas.Result.{err_from_is_err_and}
use Rattle.wl_worker.proofs.Steps.{gives_none, gives_then, gives_as, gives_failed}
use Rattle.wl_worker.proofs.WaitingAsks.{asks_left, fewer_left}
use Rattle.wl_worker.proofs.outcomes.answer_ready.Goals as goal

pub waiting-init : goal.waiting-init
waiting-init g c = gives_none _ _ _ _ _ _

-- an ask waits
some_waits : {A B : Type 0} (f : A → B) (o : Option A) → is_some (option_map f o) ≡ is_some o
some_waits f None = refl
some_waits f (Some x) = refl

none_waits : {B : Type 0} (o : Option B) → is_some o ≡ false → o ≡ None
none_waits None is = refl
none_waits (Some x) is = absurd (cc is)

pub waiting-smaller : goal.waiting-smaller
waiting-smaller g c =
    let there = ap (λ o. is_some o) (sym c.asks.ensures) ∙ (some_waits _ c.asks.result ∙ (sym c.is_some.ensures ∙ c.waiting-test.true)) in
    let given = c.in_ok-answer_one.ensures.given (ap Ok c.if-not-branch.false) in
    let less : asks_left c.answer_one.new.session < asks_left c.waiting.session = omega (arith, fewer_left given.0 c.waiting.session c.answer_one.new.session c.waiting.out c.answer_one.new.out there given.1) in
    less

pub waiting-preserved : goal.waiting-preserved
waiting-preserved g c = gives_then _ _ _ _ _ _ _ _ _ _ _ _ _ _ _ _ _ c.waiting.invariant (gives_as {B = Unit {0}} _ _ _ _ _ _ _ _ _ _ _ _ tt c.in_ok-answer_one.ensures.gives)

pub returns-in_err-answer_one-clause-gives : goal.returns-in_err-answer_one-clause-gives
returns-in_err-answer_one-clause-gives g c =
    let p = err_from_is_err_and c.from_residual.result c.from_residual.ensures.1 in
    rw p.1 (gives_then _ _ _ _ _ _ _ _ _ _ _ _ _ _ _ _ _ c.waiting.invariant (gives_failed {B = Unit {0}} _ _ _ _ _ _ _ _ _ _ _ _ _ c.in_err-answer_one.ensures.gives))

pub returns-clause-all : goal.returns-clause-all
returns-clause-all g c =
    inl (sym c.asks.ensures ∙ none_waits _ (some_waits _ c.asks.result ∙ (sym c.is_some.ensures ∙ c.waiting-test.false)))

pub returns-then-not-branch-clause-gives : goal.returns-then-not-branch-clause-gives
returns-then-not-branch-clause-gives g c = gives_then _ _ _ _ _ _ _ _ _ _ _ _ _ _ _ _ _ c.waiting.invariant (gives_as {B = Unit {0}} _ _ _ _ _ _ _ _ _ _ _ _ tt c.in_ok-answer_one.ensures.gives)
