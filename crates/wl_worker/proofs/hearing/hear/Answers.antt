use Rattle.std.proofs.Common.{◌≡◌, ℕ, ◌⊎◌, inl, inr, arith, IfSome, List, [], ◌∷◌, ◌++◌, Option, Some, None, refl, sym, ap, ◌∙◌}
use Rattle.std.proofs.lemmas.List.{append-nil}
use Rattle.wl_edge.specs.Links.{LinkLog, ReceiveTells, with_heard}
use Rattle.wl_edge.specs.declared.link.Heard.{Heard}
use Rattle.wl_edge.specs.declared.link.Heard.TheVariants as heard
use Rattle.wl_edge.specs.declared.link.Received.TheVariants as received
use Rattle.wl_worker.specs.Served.{LinkGains}
use Rattle.wl_worker.proofs.Growth.{link_none}
use Rattle.wl_worker.proofs.hearing.hear.Goals as goal

-- a log with one more answer
one_more : (old new : Option LinkLog) (answer : Heard) → IfSome old (λ log. new ≡ Some (with_heard log answer)) → LinkGains old new (answer ∷ []) []
one_more None new answer tells = tt
one_more (Some log) new answer tells = tells ∙ ap Some (λ i. record { gave = log.gave ++ answer ∷ []; took = sym (append-nil log.took) i })

-- a failure, which need not be told where the count stands at its end
failing : (old new : Option LinkLog) (before : ℕ) (into : List ℕ) → ReceiveTells old new before into received.Failed
    → (heards : List Heard) × LinkGains old new heards [] × ((heards ≡ heard.Failed ∷ []) ⊎ (heards ≡ []))
failing None new before into tells = ([], tt, inr refl)
failing (Some log) new before into (inl told) = (heard.Failed ∷ [], one_more (Some log) new heard.Failed told, inl refl)
failing (Some log) new before into (inr full) = ([], full.1 ∙ link_none (Some log), inr refl)

pub returns-in-Got-clause-hears : goal.returns-in-Got-clause-hears
returns-in-Got-clause-hears g c =
    let told = c.in-Got.ensures.gives in
    record { heards = _; link = one_more _ _ _ told.tells; heard_is = (omega (arith, told.within.1, c.receive.auto.into), inl refl) }

pub returns-in-Idle-clause-hears : goal.returns-in-Idle-clause-hears
returns-in-Idle-clause-hears g c =
    let told = c.in-Idle.ensures.gives in
    record { heards = _; link = one_more _ _ _ told.tells; heard_is = (omega arith, inr (refl, refl)) }

pub returns-in-Failed-clause-hears : goal.returns-in-Failed-clause-hears
returns-in-Failed-clause-hears g c =
    let told = failing (g.L.Link.told c.args.link.now) (g.L.Link.told c.receive.new.self) (g.L.Link.failed_receives c.args.link.now) c.receive.new.into c.in-Failed.ensures.gives.tells in
    record { heards = told.0; link = told.1; heard_is = told.2 }
