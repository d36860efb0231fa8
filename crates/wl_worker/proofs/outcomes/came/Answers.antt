use Rattle.wl_worker.specs.Outcomes.{asker, Asker, GainsAll}
use Rattle.std.proofs.Common.{◌≡◌, ℕ, subst, inl, List, [], ◌∷◌, Option, Some, None, Ok, Err, refl, sym}
use Rattle.std.specs.Prelude.{Result}
use Rattle.wl_selector.specs.Selectors.{sorted_texts}
use Rattle.wl_entry.specs.Fitness.{token_unfit}
use Rattle.wl_entry.specs.declared.tokens.JwtToken.{JwtToken}
use Rattle.wl_entry.specs.declared.unfit.JwtUnfit.{JwtUnfit}
use Rattle.ask_mail.specs.Mail.{delivery, Looks}
use Rattle.ask_mail.specs.declared.mail.NoAnswer.{NoAnswer}
use Rattle.ask_mail.specs.declared.mail.NoAnswer.TheVariants as no
use Rattle.ask_mail.specs.declared.mail.Delivery.{Delivery}
use Rattle.wl_session.specs.declared.asks.JwtAsk.{JwtAsk}
use Rattle.wl_session.specs.declared.asks.JwtOutcome.TheVariants as outcomes
use Rattle.wl_worker.specs.Stepping.{SignedTells}
use Rattle.wl_worker.proofs.Growth.{gains_none, rose_later, rose_once}
use Rattle.wl_worker.proofs.outcomes.came.Goals as goal

-- what the asks answered to an ask
abbrev Told : Asker → JwtAsk → Option (List Delivery) → Option (List Delivery) → ℕ → ℕ → Result JwtToken NoAnswer → Type 0
Told by ask x y k n r = Looks x y k n (delivery by.connection ask.ask ask.audience) r

no_token : (vouched : Asker) (ask : JwtAsk) (time : ℕ) (x y : Option (List Delivery)) (k n : ℕ) → Told vouched ask x y k n (Err no.Failed)
    → SignedTells vouched ask time x y k n (Ok (Some outcomes.Failed))
no_token vouched ask time x y k n told =
    record { signs = delivery vouched.connection ask.ask ask.audience None ∷ []; signed_is = told.gives.1; outcome = inl refl; fails = rose_once k n told.gives.0; later = told.later }

-- nothing came yet
none_yet : (vouched : Asker) (ask : JwtAsk) (time : ℕ) (x y : Option (List Delivery)) (k n : ℕ) → Told vouched ask x y k n (Err no.Waits)
    → SignedTells vouched ask time x y k n (Ok None)
none_yet vouched ask time x y k n told =
    record { signs = []; signed_is = subst (λ (z : Option (List Delivery)). GainsAll x z []) (sym told.gives) (gains_none x); outcome = tt; fails = rose_later k n told.later; later = told.later }

unfit_token : (vouched : Asker) (ask : JwtAsk) (time : ℕ) (x y : Option (List Delivery)) (k n : ℕ) (t : JwtToken) (u : JwtUnfit) → Told vouched ask x y k n (Ok t)
    → token_unfit time t ≡ Some u → SignedTells vouched ask time x y k n (Ok (Some (outcomes.Unfit u)))
unfit_token vouched ask time x y k n t u told is =
    record { signs = delivery vouched.connection ask.ask ask.audience (Some t) ∷ []; signed_is = told.gives; outcome = (time, inl refl, (t, inl refl, is)); fails = rose_later k n told.later; later = told.later }

fit_token : (vouched : Asker) (ask : JwtAsk) (time : ℕ) (x y : Option (List Delivery)) (k n : ℕ) (t : JwtToken) → Told vouched ask x y k n (Ok t)
    → vouched.token ask.ask (sorted_texts ask.audience) t → token_unfit time t ≡ None → SignedTells vouched ask time x y k n (Ok (Some (outcomes.Token t)))
fit_token vouched ask time x y k n t told is fit =
    record { signs = delivery vouched.connection ask.ask ask.audience (Some t) ∷ []; signed_is = told.gives; outcome = (is, (time, inl refl, inl (inl refl, fit))); fails = rose_later k n told.later; later = told.later }

pub returns-in-Err-Failed-clause-tells : goal.returns-in-Err-Failed-clause-tells
returns-in-Err-Failed-clause-tells g c =
    no_token (asker c.args.caller.now.connection g.T.V.Voucher.token) c.args.ask.now c.args.now _ _ _ _ (rw c.as_slice-audience.ensures at (rw c.in-Err-Failed.field-0-is at c.in-Err-Failed.ensures.told))

pub returns-in-Some-clause-tells : goal.returns-in-Some-clause-tells
returns-in-Some-clause-tells g c = unfit_token (asker c.args.caller.now.connection g.T.V.Voucher.token) c.args.ask.now c.args.now _ _ _ _ c.in-Ok.token c.in-Some.unfit (rw c.as_slice-audience.ensures at c.in-Ok.ensures.told) (sym c.in-Some.ensures)

pub returns-in-None-clause-tells : goal.returns-in-None-clause-tells
returns-in-None-clause-tells g c =
    fit_token (asker c.args.caller.now.connection g.T.V.Voucher.token) c.args.ask.now c.args.now _ _ _ _ c.in-Ok.token (rw c.as_slice-audience.ensures at c.in-Ok.ensures.told) (rw c.as_slice-audience.ensures at c.in-Ok.ensures.vouched) (sym c.in-None.ensures)

pub returns-in-Err-Waits-clause-tells : goal.returns-in-Err-Waits-clause-tells
returns-in-Err-Waits-clause-tells g c =
    none_yet (asker c.args.caller.now.connection g.T.V.Voucher.token) c.args.ask.now c.args.now _ _ _ _ (rw c.as_slice-audience.ensures at (rw c.in-Err-Waits.field-0-is at c.in-Err-Waits.ensures.told))
