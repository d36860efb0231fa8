-- Laws of what a signer was asked so far.
use Rattle.std.specs.Prelude.{◌≡◌, ◌≤◌, ℕ, List, [], ◌∷◌, Option, Some, None, Result, Ok, Err}
use Rattle.std.proofs.Common.{sym, ap, subst}
use Rattle.wl_worker.proofs.Common.{Ask, Delivery, EdgeFault}
use Rattle.ask_mail.specs.Mail.{Signs}
use Rattle.ask_mail.specs.declared.mail.Asked.{Asked as TokenAsk}
use Rattle.wl_edge.specs.Calls.{Gains, Answers}
use Rattle.wl_edge.specs.declared.fault.EdgeFault.TheVariants as edge
use Rattle.wl_edge.specs.declared.signer.SignerCall.{SignerCall}
use Rattle.wl_edge.specs.declared.signer.SignerCall.TheVariants.{X509, Jwt}
use Rattle.wl_worker.specs.declared.signing.Asked.{Asked}
use Rattle.wl_worker.specs.declared.signing.Asked.TheVariants as asked
use Rattle.wl_worker.proofs.Owners.{none_after}
use Rattle.wl_worker.specs.Upkeep.{Asks, AskedOn}

pub none_asked : (told : Option (List SignerCall)) → AskedOn told told
none_asked None = tt
none_asked (Some calls) = ([], ap (λ l. Some l) (sym (none_after calls)))

gained : (old new : Option (List SignerCall)) (call : SignerCall) → Gains old new call → AskedOn old new
gained None new call gains = tt
gained (Some calls) new call gains = (call ∷ [], gains)

same_asked : (old new : Option (List SignerCall)) → new ≡ old → AskedOn old new
same_asked old new is = subst (λ (n : Option (List SignerCall)). AskedOn old n) (sym is) (none_asked old)

answered_once : {A : Type 0} (call : Option A → SignerCall) (answer : Result A EdgeFault) (old new : Option (List SignerCall)) (before now : ℕ) → Answers old new before now call answer → AskedOn old new
answered_once call (Ok given) old new before now answers = gained old new (call (Some given)) answers.gives
answered_once call (Err edge.Failed) old new before now answers = gained old new (call None) answers.gives.1
answered_once call (Err edge.Memory) old new before now answers = same_asked old new answers.gives

-- whatever came of an ask
pub asked_once : {V : Type 0} (ask : Ask) (old new : Option (List SignerCall)) (before now : ℕ) (answer : Asked V) → Asks ask old new before now answer → AskedOn old new
asked_once ask old new before now (asked.Kept note rest) asks = gained old new (X509 ask (Some asks.gives.0)) asks.gives.1
asked_once ask old new before now asked.Refused asks = gained old new (X509 ask (Some asks.gives.0)) asks.gives.1
asked_once ask old new before now (asked.Failed ticket) asks = gained old new (X509 ask None) asks.gives.1
asked_once ask old new before now (asked.Starved ticket) asks = same_asked old new asks.gives.1
asked_once ask old new before now asked.Memory asks = gained old new (X509 ask (Some asks.gives.0)) asks.gives.1

-- an ask for a token
pub token_asked : (a : TokenAsk) (old new : Option (List SignerCall)) (before now : ℕ) (d : Delivery) → Signs a old new before now d → AskedOn old new
token_asked a old new before now d signs = answered_once (Jwt a.ask a.audience) signs.0 old new before now signs.1

-- the count of its failures
pub token_faults : (a : TokenAsk) (old new : Option (List SignerCall)) (before now : ℕ) (d : Delivery) → Signs a old new before now d → before ≤ now
token_faults a old new before now d signs = signs.1.later
