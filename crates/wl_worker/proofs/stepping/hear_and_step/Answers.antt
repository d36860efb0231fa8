use Rattle.std.proofs.Common.{◌≡◌, ℕ, inl, inr, List, [], ◌∷◌, take, Ok, sym, ap, ◌∙◌}
use Rattle.wl_edge.specs.declared.link.Heard.{Heard}
use Rattle.wl_edge.specs.declared.link.Heard.TheVariants as heard
use Rattle.wl_worker.specs.Served.{IsPiece}
use Rattle.wl_worker.specs.Sending.{HeardIs}
use Rattle.wl_worker.proofs.stepping.hear_and_step.Goals as goal

-- what came is a piece
came : (lent : List ℕ) (count : ℕ) (heards : List Heard) (piece : List ℕ) → piece ≡ take count lent → HeardIs lent (Ok count) heards → (answer : Heard) × (heards ≡ answer ∷ []) × IsPiece answer piece
came lent count heards piece is (n, inl told) = (heard.Piece (take count lent), told, sym is)
came lent count heards piece is (n, inr told) = (heard.Idle, told.0, is ∙ ap (λ (k : ℕ). take k lent) told.1)

pub returns-in-Ok-step-clause-tells : goal.returns-in-Ok-step-clause-tells
returns-in-Ok-step-clause-tells g c =
    let hears = c.in-Ok.ensures.hears in
    let its = came c.hear.new.buffer c.in-Ok.count hears.heards c.split_at.result.0.now c.split_at.ensures.front hears.heard_is in
    let by = c.origin.ensures ∙ c.in-Ok.ensures.origin in
    rw c.note_attested.ensures.told (record { heards = hears.heards; link = hears.link; step = (its.0, c.split_at.result.0.now, its.1, its.2, rw by at c.in-Ok-step.ensures.tells) })

pub returns-in-Err-step-clause-tells : goal.returns-in-Err-step-clause-tells
returns-in-Err-step-clause-tells g c =
    let hears = c.in-Ok.ensures.hears in
    let its = came c.hear.new.buffer c.in-Ok.count hears.heards c.split_at.result.0.now c.split_at.ensures.front hears.heard_is in
    let by = c.origin.ensures ∙ c.in-Ok.ensures.origin in
    record { heards = hears.heards; link = hears.link; step = (its.0, c.split_at.result.0.now, its.1, its.2, (_, rw by at c.in-Err-step.ensures.tells)) }
