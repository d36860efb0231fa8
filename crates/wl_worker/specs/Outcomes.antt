-- What becomes of an ask for a token, and counts of failures (own rules).
use Rattle.std.specs.Prelude.{◌≡◌, ◌⊎◌, ◌+◌, ℕ, true, List, [], ◌∷◌, ◌++◌, map, Option, Some, None, IfSome, IsSomeAnd}
use Rattle.wl_selector.specs.Selectors.{sorted_texts}
use Rattle.wl_entry.specs.Fitness.{token_unfit, is_still_fresh}
use Rattle.wl_entry.specs.declared.asks.Ask.{Ask}
use Rattle.wl_entry.specs.declared.tokens.JwtToken.{JwtToken}
use Rattle.ask_mail.specs.Mail.{delivery}
use Rattle.wl_edge.specs.declared.origin.Origin.{Origin}
use Rattle.wl_edge.specs.declared.attestor.AttestorCall.{AttestorCall}
use Rattle.ask_mail.specs.declared.mail.Delivery.{Delivery}
use Rattle.wl_session.specs.declared.asks.JwtAsk.{JwtAsk}
use Rattle.wl_session.specs.declared.asks.JwtOutcome.{JwtOutcome}
use Rattle.wl_session.specs.declared.asks.JwtOutcome.TheVariants as outcomes
use Rattle.wl_worker.specs.Rounds.{Round, IsIn}

-- ---- counts of failures

-- how many answers of the attestor are failures
abbrev pub unanswered : List (Option (List (List ℕ))) → ℕ
unanswered [] = 0
unanswered (None ∷ more) = 1 + unanswered more
unanswered (Some selectors ∷ more) = unanswered more

-- how many outcomes are that the ask failed
abbrev pub unsigned : List JwtOutcome → ℕ
unsigned [] = 0
unsigned (outcomes.Token t ∷ more) = unsigned more
unsigned (outcomes.Failed ∷ more) = 1 + unsigned more
unsigned (outcomes.Unfit u ∷ more) = unsigned more

-- ---- lists that are recorded

-- a list that is recorded gained these
abbrev pub GainsAll : {C : Type 0} → Option (List C) → Option (List C) → List C → Type 0
GainsAll {C} old new more = IfSome old (λ before. new ≡ Some (before ++ more))

-- a clock, which may end its telling, answered these times
abbrev pub Ticked : Option (List ℕ) → Option (List ℕ) → List ℕ → Type 0
Ticked old new times = IfSome new (λ after. IsSomeAnd old (λ before. after ≡ before ++ times))

-- the calls to an attestor by an origin, with these answers
abbrev pub attestor_call : Origin → Option (List (List ℕ)) → AttestorCall
attestor_call origin answer = record { origin = origin; answer = answer }

abbrev pub calls_by : Origin → List (Option (List (List ℕ))) → List AttestorCall
calls_by origin answers = map (attestor_call origin) answers

-- those of these rounds, the newest round first, each by the origin of its round
abbrev pub attestor_calls : List Round → List AttestorCall
attestor_calls [] = []
attestor_calls (r ∷ past) = attestor_calls past ++ calls_by r.origin r.answers

-- ---- what an ask gets

-- Whose asks they are, by the number of the connection, and in which way tokens are vouched for.
pub record Asker : Type 1 where
  pub connection : ℕ
  pub token : Ask → List (List ℕ) → JwtToken → Type 0

abbrev pub asker : ℕ → (Ask → List (List ℕ) → JwtToken → Type 0) → Asker
asker connection token = record { connection = connection; token = token }

-- this answer came for this ask and its audiences of this connection
abbrev pub WasAnswered : List Delivery → ℕ → JwtAsk → Option JwtToken → Type 0
WasAnswered taken connection a answer = IsIn (delivery connection a.ask a.audience answer) taken

-- The outcome of an ask, where these deliveries were taken, the clock answered these times, and tokens are
-- vouched for in this way: what came for that very ask of that connection, judged at one of the times; or a
-- vouched token that is still fresh then; or that there is none.
abbrev pub IsOutcome : Asker → List Delivery → List ℕ → JwtAsk → JwtOutcome → Type 0
IsOutcome by taken times a (outcomes.Token t) =
    by.token a.ask (sorted_texts a.audience) t
    × ((now : ℕ) × IsIn now times × ((WasAnswered taken by.connection a (Some t) × (token_unfit now t ≡ None)) ⊎ (is_still_fresh now t ≡ true)))
IsOutcome by taken times a (outcomes.Unfit u) =
    (now : ℕ) × IsIn now times × ((t : JwtToken) × WasAnswered taken by.connection a (Some t) × (token_unfit now t ≡ Some u))
IsOutcome by taken times a outcomes.Failed = WasAnswered taken by.connection a None
