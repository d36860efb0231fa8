use Rattle.wl_worker.specs.Outcomes.{asker, Asker}
use Rattle.std.proofs.Common.{◌≡◌, ℕ, true, inl, inr, List, [], ◌∷◌, Option, Some, Ok, Err, refl, arith}
use Rattle.std.specs.Prelude.{Result}
use Rattle.std.proofs.lemmas.Result.{err_from_is_err_and}
use Rattle.wl_octets.specs.declared.memory.Memory.{Memory}
use Rattle.wl_selector.specs.Selectors.{sorted_texts}
use Rattle.wl_entry.specs.Fitness.{is_still_fresh}
use Rattle.wl_entry.specs.declared.tokens.JwtToken.{JwtToken}
use Rattle.wl_edge.specs.Clocks.{Ticks}
use Rattle.ask_mail.specs.declared.mail.Delivery.{Delivery}
use Rattle.wl_session.specs.declared.asks.JwtAsk.{JwtAsk}
use Rattle.wl_session.specs.declared.asks.JwtOutcome.{JwtOutcome}
use Rattle.wl_session.specs.declared.asks.JwtOutcome.TheVariants as outcomes
use Rattle.wl_worker.specs.Stepping.{SignedTells, OutcomeTells}
use Rattle.wl_worker.proofs.Growth.{gains_none, rose_none}
use Rattle.wl_worker.proofs.outcomes.outcome.Goals as goal

none_had : (vouched : Asker) (ask : JwtAsk) (time : ℕ) (x : Option (List Delivery)) (k : ℕ) (t u : Option (List ℕ)) (m : Memory) → Ticks t u time
    → OutcomeTells vouched ask x x k k t u (Err m)
none_had vouched ask time x k t u m ticks = record { signs = []; ticks = time ∷ []; signed_is = gains_none x; clock = ticks; outcome = tt; fails = tt; later = omega arith }

kept_had : (vouched : Asker) (ask : JwtAsk) (time : ℕ) (x : Option (List Delivery)) (k : ℕ) (t u : Option (List ℕ)) (token : JwtToken) → Ticks t u time
    → vouched.token ask.ask (sorted_texts ask.audience) token → is_still_fresh time token ≡ true → OutcomeTells vouched ask x x k k t u (Ok (Some (outcomes.Token token)))
kept_had vouched ask time x k t u token ticks is fresh =
    record { signs = []; ticks = time ∷ []; signed_is = gains_none x; clock = ticks; outcome = (is, (time, inl refl, inr fresh)); fails = rose_none k; later = omega arith }

signed_had : (vouched : Asker) (ask : JwtAsk) (time : ℕ) (x y : Option (List Delivery)) (k n : ℕ) (t u : Option (List ℕ)) (r : Result (Option JwtOutcome) Memory) → Ticks t u time
    → SignedTells vouched ask time x y k n r → OutcomeTells vouched ask x y k n t u r
signed_had vouched ask time x y k n t u r ticks told =
    record { signs = told.signs; ticks = time ∷ []; signed_is = told.signed_is; clock = ticks; outcome = told.outcome; fails = told.fails; later = told.later }

pub returns-in_err-token-clause-tells : goal.returns-in_err-token-clause-tells
returns-in_err-token-clause-tells g c =
    let p = err_from_is_err_and c.from_residual.result c.from_residual.ensures.1 in
    rw p.1 (none_had (asker c.args.caller.now.connection g.T.V.Voucher.token) c.args.ask.now c.now-now.result _ _ _ _ p.0 c.now-now.ensures)

pub returns-in-Some-clause-tells : goal.returns-in-Some-clause-tells
returns-in-Some-clause-tells g c =
    let had = c.in_ok-token.ensures in
    kept_had (asker c.args.caller.now.connection g.T.V.Voucher.token) c.args.ask.now c.now-now.result _ _ _ _ c.in-Some.token c.now-now.ensures (rw c.in-Some.is at had.vouched) (rw c.in-Some.is at had.fresh)

pub returns-in-None-clause-tells : goal.returns-in-None-clause-tells
returns-in-None-clause-tells g c = signed_had (asker c.args.caller.now.connection g.T.V.Voucher.token) c.args.ask.now c.now-now.result _ _ _ _ _ _ _ c.now-now.ensures c.came.ensures.tells
