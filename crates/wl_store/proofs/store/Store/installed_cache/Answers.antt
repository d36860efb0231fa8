use Rattle.std.proofs.Common.{refl, sym, ◌∙◌, subst}
use Rattle.svid_cache.proofs.RepeatedKeeps.{same_svids}
use Rattle.wl_store.specs.Stores.{cached_of}
use Rattle.wl_store.specs.Steps.{AllTrusted, Trusted, kept_after}
use Rattle.wl_store.proofs.StoreSteps.{refusal_installs, refusal_gives, install_gives}
use Rattle.wl_store.proofs.store.Store.installed_cache.Goals as goal

pub returns-in-Some-clause-answer : goal.returns-in-Some-clause-answer
returns-in-Some-clause-answer g c =
    sym (refusal_installs c.args.now c.args.svid.ask c.args.svid.signed c.args.self.now.store c.in-Some.refusal (sym c.in_ok-refusal.ensures.value ∙ c.in-Some.is))

pub returns-in-Some-clause-gives : goal.returns-in-Some-clause-gives
returns-in-Some-clause-gives g c =
    let s = c.args.self.now.store in
    let trusted : AllTrusted g.V.Voucher.signed s.strict s.svids = subst (λ m. AllTrusted g.V.Voucher.signed m.store.strict m.store.svids) c.self.view_is c.self.invariant.trusted in
    refusal_gives g.V.Voucher.signed c.args.now s c.args.svid c.in-Some.refusal (cached_of s) trusted (sym c.in_ok-refusal.ensures.value ∙ c.in-Some.is) refl

pub returns-in-Some-clause-none : goal.returns-in-Some-clause-none
returns-in-Some-clause-none g c = sym (same_svids c.args.self.now.store.svids c.args.self.now.store.svids refl)

pub returns-in_ok-both-in-None-clause-gives : goal.returns-in_ok-both-in-None-clause-gives
returns-in_ok-both-in-None-clause-gives g c =
    let s = c.args.self.now.store in
    let trusted : AllTrusted g.V.Voucher.signed s.strict s.svids = subst (λ m. AllTrusted g.V.Voucher.signed m.store.strict m.store.svids) c.self.view_is c.self.invariant.trusted in
    let one : Trusted g.V.Voucher.signed s.strict c.args.svid.ask c.args.svid.signed = (c.requires, c.in_ok-refusal.ensures.named c.in-None.is) in
    install_gives g.V.Voucher.signed s c.args.svid c.in_ok-both-in-None.both.1 (kept_after c.in_ok-both-in-None.both.0 s) trusted one c.in_ok-both-in-None.ensures.cache
