use Rattle.wl_worker.specs.Outcomes.{asker}
use Rattle.std.proofs.Common.{◌≡◌, ℕ, List, [], drop, Option, Some, None, sym, ap, subst, ◌∙◌, rules}
use Rattle.wl_entry.specs.declared.asks.Ask.{Ask}
use Rattle.wl_entry.specs.declared.signing.Signed.{Signed}
use Rattle.wl_entry.specs.declared.tokens.JwtToken.{JwtToken}
use Rattle.wl_edge.specs.declared.origin.Origin.{Origin}
use Rattle.wl_edge.specs.Links.{LinkLog}
use Rattle.wl_session.specs.Sessions.{SessionState}
use Rattle.wl_worker.specs.Served.{ServedState, Around, RoundTells}
use Rattle.wl_worker.specs.declared.ended.RoundEnd.{RoundEnd}
use Rattle.wl_worker.specs.declared.ended.RoundEnd.TheVariants as ends
use Rattle.wl_worker.specs.Sending.{Settles, SentTo}
use Rattle.wl_worker.proofs.WholeRounds.{ends_first, ends_heard, ends_done}
use Rattle.wl_worker.proofs.served.Served.round.Goals as goal

abbrev served : SessionState → List ℕ → ServedState
served s unsent = record { session = s; unsent = unsent }

-- of the same session, with nothing unsent
same_sent : (s t : ServedState) → t.session ≡ s.session → t.unsent ≡ [] → s.unsent ≡ [] → t ≡ s
same_sent s t same none sent = λ i. served (same i) ((none ∙ sym sent) i)

-- all was sent
seen_as : (old mid x : ServedState) (k l : Option LinkLog) → x ≡ mid → Settles old mid k l None → Settles old x k l None
seen_as old mid x k l is settles = subst (λ (y : ServedState). Settles old y k l None) (sym is) settles

-- what was lent is handed back
handed_back : {valid : Ask → Signed → Type 0} {token : Ask → List (List ℕ) → JwtToken → Type 0} {origin : Origin} {old new : ServedState} {k m : Option LinkLog} {end : RoundEnd} {n o : ℕ} {b c x y : Around}
    → RoundTells valid (asker n token) origin old new k m b c end → o ≡ n → x ≡ b → y ≡ c → RoundTells valid (asker o token) origin old new k m x y end
handed_back {valid} {token} {origin} {old} {new} {k} {m} {end} {n} {o} {b} {c} {x} {y} told is from to =
    subst (λ (i : ℕ). RoundTells valid (asker i token) origin old new k m x y end) (sym is)
    (subst (λ (z : Around). RoundTells valid (asker n token) origin old new k m z y end) (sym from)
    (subst (λ (z : Around). RoundTells valid (asker n token) origin old new k m b z end) (sym to) told))

pub returns-in-Some-clause-tells : goal.returns-in-Some-clause-tells
returns-in-Some-clause-tells g c = ends_first g.T.V.Voucher.signed (asker c.args.connection g.T.V.Voucher.token) (g.L.Link.origin c.args.link.now) _ c.in-Some.end c.in-Some.ensures.settles

pub returns-in-Err-clause-tells : goal.returns-in-Err-clause-tells
returns-in-Err-clause-tells g c =
    let left = drop c.self.inside.sent c.self.inside.written in
    let mid : ServedState = served c.self.inside.session left in
    let emptied : mid ≡ c.settle.new.self = c.self.view_is ∙ same_sent c.settle.new.self c.take_output-out.new.self c.take_output-out.ensures.session c.take_output-out.ensures.unsent c.in_default.ensures.settles.end_is.0 in
    let first = seen_as c.args.self.now c.settle.new.self mid (g.L.Link.told c.args.link.now) (g.L.Link.told c.settle.new.link) emptied c.in_default.ensures.settles in
    handed_back
    (ends_heard g.T.V.Voucher.signed (asker c.new-caller.result.connection g.T.V.Voucher.token) (g.L.Link.origin c.args.link.now) {mid = mid} c.in-Err.end first (rw c.in_default.ensures.origin at (rw c.take_output-out.ensures.empty at c.in-Err.ensures.tells)) (λ is. ap (λ (s : SessionState). served s left) is))
    (sym c.new-caller.ensures) (search rules) (search rules)

pub returns-clause-tells : goal.returns-clause-tells
returns-clause-tells g c =
    let left = drop c.self.inside.sent c.self.inside.written in
    let mid : ServedState = served c.self.inside.session left in
    let emptied : mid ≡ c.settle.new.self = c.self.view_is ∙ same_sent c.settle.new.self c.take_output-out.new.self c.take_output-out.ensures.session c.take_output-out.ensures.unsent c.in_default.ensures.settles.end_is.0 in
    let first = seen_as c.args.self.now c.settle.new.self mid (g.L.Link.told c.args.link.now) (g.L.Link.told c.settle.new.link) emptied c.in_default.ensures.settles in
    rw c.end_of.ensures
    (handed_back
    (ends_done g.T.V.Voucher.signed (asker c.new-caller.result.connection g.T.V.Voucher.token) (g.L.Link.origin c.args.link.now) {mid = mid} {s = c.hear_and_step.new.session} {out = c.hear_and_step.new.out} c.settle-2.result first
    (rw c.in_default.ensures.origin at (rw c.take_output-out.ensures.empty at c.in_default-hear_and_step.ensures.tells)) c.settle-2.ensures.settles)
    (sym c.new-caller.ensures) (search rules) (search rules))

-- a sending isn't a round
not_on : {A : Type 0} (s : SessionState) (left : List ℕ) (e : Option RoundEnd) → SentTo s left e → e ≡ Some ends.On → A
not_on {A} s left e sent is = absurd (subst (λ (x : Option RoundEnd). SentTo s left x) is sent)

pub returns-in-Some-clause-waits : goal.returns-in-Some-clause-waits
returns-in-Some-clause-waits g c = λ is. not_on c.settle.new.self.session c.settle.new.self.unsent (Some c.in-Some.end) c.in-Some.ensures.settles.end_is (ap (λ (e : RoundEnd). Some e) is)

pub returns-in-Err-clause-waits : goal.returns-in-Err-clause-waits
returns-in-Err-clause-waits g c = λ is. absurd (cc is)
