-- What a connection came to that took all that it was due.
use Rattle.std.proofs.Common.{◌≡◌, ℕ, ◌⊎◌, inl, inr, Bool, true, List, [], ◌∷◌, ◌++◌, length, Some, None, sym, ap, ◌∙◌}
use Rattle.std.proofs.lemmas.List.{append-nil}
use Rattle.wl_worker.proofs.Common.{ConnFault, Publication, LinkLog, Heard, failure_in, talk, Round, session_after, trace, pieces_given, ServedState, Stands, log_on}
use Rattle.wl_edge.specs.declared.link.Heard.TheVariants as heard
use Rattle.wl_session.specs.declared.asks.SessionFault.TheVariants as faults
use Rattle.wl_session.specs.Sessions.{is_done_in}
use Rattle.wl_worker.specs.declared.ended.Ended.TheVariants as ended
use Rattle.wl_worker.specs.declared.ended.RoundEnd.TheVariants as ends
use Rattle.wl_worker.specs.Rounds.{numbers}
use Rattle.wl_worker.specs.Served.{EndIs}
use Rattle.wl_worker.specs.Connections.{GaveEnd, CameTo}
use Rattle.wl_worker.proofs.RoundNumbers.{all_read, one_unread}

pub all_taken : (log : LinkLog) (s : ServedState) (seen : List Publication) (past : List Round) → s.unsent ≡ [] → Stands log s seen past → log.took ≡ talk (trace past)
all_taken log s seen past none stands = sym (append-nil log.took) ∙ (ap (λ (xs : List ℕ). log.took ++ xs) (sym none) ∙ stands.talked)

pub each_read : (log : LinkLog) (s : ServedState) (seen : List Publication) (past : List Round) → failure_in s.session ≡ None → Stands log s seen past → length (numbers past) ≡ length (pieces_given log.gave)
each_read log s seen past goes stands = all_read past stands.whole (ap failure_in (sym stands.session) ∙ goes) ∙ ap length (sym stands.pieces)

-- the link gave its end, or the session is done
ended_so : (heards more : List Heard) (b c : Bool) → b ≡ c → (GaveEnd (heards ++ more) ⊎ (b ≡ true)) → GaveEnd (heards ++ more) ⊎ (c ≡ true)
ended_so heards more b c same (inl gave) = inl gave
ended_so heards more b c same (inr done) = inr (sym same ∙ done)

gave_end : {A B : Type 0} (heards more : List Heard) (b : Bool) → (((more ≡ heard.End ∷ []) × A) ⊎ ((b ≡ true) × B)) → GaveEnd (heards ++ more) ⊎ (b ≡ true)
gave_end heards more b (inl gave) = inl (heards, ap (λ (hs : List Heard). heards ++ hs) gave.0)
gave_end heards more b (inr done) = inr done.0

-- The last round was heard after this log.
module _ (log : LinkLog) (heards : List Heard) (took : List ℕ) (s : ServedState) (seen : List Publication) (added past : List Round) (stands : Stands (log_on log heards took) s seen past) where
  pub came_closed : EndIs (ends.Ended ended.Closed) s heards added → CameTo ended.Closed (log.gave ++ heards) (log.took ++ took) past
  came_closed is = (
    all_taken (log_on log heards took) s seen past is.0 stands,
    stands.whole,
    each_read (log_on log heards took) s seen past is.1 stands,
    ended_so log.gave heards (is_done_in s.session) (is_done_in (session_after past)) (ap is_done_in stands.session) (gave_end log.gave heards (is_done_in s.session) is.2),
  )

  pub came_failed : (f : ConnFault) → EndIs (ends.Ended (ended.Protocol f)) s heards added → CameTo (ended.Protocol f) (log.gave ++ heards) (log.took ++ took) past
  came_failed f is =
      let fails : failure_in (session_after past) ≡ Some (faults.Protocol f) = ap failure_in (sym stands.session) ∙ is.1 in (
        all_taken (log_on log heards took) s seen past is.0 stands,
        stands.whole,
        one_unread past (faults.Protocol f) stands.whole fails ∙ ap length (sym stands.pieces),
        fails,
      )
