-- What a round of one link is to its seat.
use Rattle.std.specs.Prelude.{◌≡◌, ◌⊎◌, ℕ, ◌<◌, List, ◌++◌, Option, Some, None, IfSome, IsSome}
use Rattle.std.proofs.Common.{arith, refl, sym, subst, inl, inr, true≢false}
use Rattle.wl_worker.proofs.Common.{Ask, Signed, Passing, Origin, Rose, LinkLog, ListenerLog, BoundSocket, Delivery, SessionState, Ended, RoundEnd, Asker, IsOutcome, Round, session_after, AreOutcomes, Around, ServedState, Stands, Began, log_on, ReadBy, RoundTells, TookAllUnless, seat_world}
use Rattle.wl_worker.specs.declared.ended.Ended.TheVariants as ended
use Rattle.wl_worker.specs.declared.ended.RoundEnd.TheVariants as ends
use Rattle.wl_worker.specs.Served.{StandsAt, OutcomesBy}
use Rattle.wl_worker.proofs.Growth.{in_back, outcome_grows}
use Rattle.wl_worker.proofs.TakenRounds.{began}
use Rattle.wl_worker.proofs.LinkEnds.{came_closed, came_failed}
use Rattle.wl_worker.proofs.ConnectionRounds.{outcomes_on, outcomes_by_such}
use Rattle.wl_edge.proofs.KnownSockets.{adds_none}
use Rattle.wl_worker.proofs.SeatLaws.{Adds, passed, outcomes_longer}

module _ (valid : Ask → Signed → Type 0) (vouched : Asker) (origin : Origin) (old new : ServedState) (log_before log_now : Option LinkLog) (before now : Around) (end : RoundEnd) (round : RoundTells valid vouched origin old new log_before log_now before now end) where
  -- what the round adds to the seat
  pub adds : (sockets : Option (List BoundSocket)) (listener : Option ListenerLog) (starved : ℕ) → Adds (seat_world sockets listener starved before) (seat_world sockets listener starved now) round.added round.signed round.times
  adds sockets listener starved =
      record {
        sockets = adds_none sockets;
        listener = refl;
        starved = refl;
        attested = round.attested;
        attestor_fails = round.attestor_fails;
        pass = passed valid round.added before.pass now.pass round.read;
        signs = round.signs;
        clock = round.clock;
        ask_fails = round.ask_fails;
      }

-- the outcomes of the round, beside those of the rounds before it
judged_by : (valid : Ask → Signed → Type 0) (vouched : Asker) (signed more : List Delivery) (times later : List ℕ) (added past : List Round) (s : SessionState) (v w : Passing) → s ≡ session_after past → ReadBy valid added v w
    → OutcomesBy (IsOutcome vouched more later) added s → AreOutcomes (IsOutcome vouched signed times) past → AreOutcomes (IsOutcome vouched (signed ++ more) (times ++ later)) (added ++ past)
judged_by valid vouched signed more times later added past s v w is read outcomes all =
    let P = IsOutcome vouched (signed ++ more) (times ++ later) in
    outcomes_on valid P added past s v w is read
    (outcomes_by_such (IsOutcome vouched more later) P (outcome_grows vouched more (signed ++ more) later (times ++ later) (λ x. in_back x signed more) (λ n. in_back n times later)) added s outcomes)
    (outcomes_longer vouched signed more times later past all)

-- a count that rose is above 0
above_none : (before now : ℕ) → Rose before now → 0 < now
above_none before now (inl less) = omega (arith, less)
above_none before now (inr end) = omega (arith, end)

module _ (valid : Ask → Signed → Type 0) (vouched : Asker) (origin : Origin) (old new : ServedState) (log : LinkLog) (log_now : Option LinkLog) (before now : Around) where
  -- what the link stands for after the round
  gone_on : (end : RoundEnd) (round : RoundTells valid vouched origin old new (Some log) log_now before now end) (signed : List Delivery) (times : List ℕ) (past : List Round)
      → Stands log old before.pass.seen past → AreOutcomes (IsOutcome vouched signed times) past
      → StandsAt end (log_on log round.heards round.took) new now.pass.seen (round.added ++ past) × AreOutcomes (IsOutcome vouched (signed ++ round.signed) (times ++ round.times)) (round.added ++ past)
  gone_on end round signed times past stands all = (
    round.goes_on log past stands,
    judged_by valid vouched signed round.signed times round.times round.added past old.session before.pass now.pass stands.session round.read round.outcomes_are all,
  )

  -- A round that ended the connection. Where memory ran out in it, that is known by S.
  fully_on : (S : Type 0) (e : Ended) (round : RoundTells valid vouched origin old new (Some log) log_now before now (ends.Ended e)) (signed : List Delivery) (times : List ℕ) (past : List Round) (receives failed_receives sends failed_sends : ℕ)
      → (e ≡ ended.Memory → S) → (ends.Ended e ≡ ends.Ended ended.ReadFault → Rose receives failed_receives) → (ends.Ended e ≡ ends.Ended ended.WriteFault → Rose sends failed_sends)
      → Stands log old before.pass.seen past → AreOutcomes (IsOutcome vouched signed times) past
      → Began (log_on log round.heards round.took) now.pass.seen (round.added ++ past) × AreOutcomes (IsOutcome vouched (signed ++ round.signed) (times ++ round.times)) (round.added ++ past) × (S ⊎ TookAllUnless failed_receives failed_sends (log_on log round.heards round.took) (round.added ++ past))
  fully_on S ended.Closed round signed times past receives failed_receives sends failed_sends memory reads writes stands all =
      let on = gone_on (ends.Ended ended.Closed) round signed times past stands all in
      let l = log_on log round.heards round.took in
      (began l new now.pass.seen (round.added ++ past) on.0, on.1, inr (inr (inr (inl (came_closed log round.heards round.took new now.pass.seen round.added (round.added ++ past) on.0 round.end_is)))))
  fully_on S (ended.Protocol f) round signed times past receives failed_receives sends failed_sends memory reads writes stands all =
      let on = gone_on (ends.Ended (ended.Protocol f)) round signed times past stands all in
      let l = log_on log round.heards round.took in
      (began l new now.pass.seen (round.added ++ past) on.0, on.1, inr (inr (inr (inr (f, came_failed log round.heards round.took new now.pass.seen round.added (round.added ++ past) on.0 f round.end_is)))))
  fully_on S ended.ReadFault round signed times past receives failed_receives sends failed_sends memory reads writes stands all =
      let on = gone_on (ends.Ended ended.ReadFault) round signed times past stands all in
      (began (log_on log round.heards round.took) new now.pass.seen (round.added ++ past) on.0, on.1, inr (inl (above_none receives failed_receives (reads refl))))
  fully_on S ended.WriteFault round signed times past receives failed_receives sends failed_sends memory reads writes stands all =
      let on = gone_on (ends.Ended ended.WriteFault) round signed times past stands all in
      (on.0, on.1, inr (inr (inl (above_none sends failed_sends (writes refl)))))
  fully_on S ended.Memory round signed times past receives failed_receives sends failed_sends memory reads writes stands all =
      let on = gone_on (ends.Ended ended.Memory) round signed times past stands all in
      (on.0, on.1, inl (memory refl))

-- ---- the same of a link that tells its content

module _ (valid : Ask → Signed → Type 0) (vouched : Asker) (origin : Origin) (old new : ServedState) (log_now : Option LinkLog) (before now : Around) where
  pub stands_on : (told : Option LinkLog) (end : RoundEnd) (round : RoundTells valid vouched origin old new told log_now before now end) (signed : List Delivery) (times : List ℕ) (past : List Round)
      → IsSome told → IfSome told (λ log. Stands log old before.pass.seen past × AreOutcomes (IsOutcome vouched signed times) past)
      → IfSome log_now (λ log. StandsAt end log new now.pass.seen (round.added ++ past) × AreOutcomes (IsOutcome vouched (signed ++ round.signed) (times ++ round.times)) (round.added ++ past))
  stands_on None end round signed times past tells stands = absurd (true≢false (sym tells))
  stands_on (Some log) end round signed times past tells stands =
      subst (λ (m : Option LinkLog). IfSome m (λ l. StandsAt end l new now.pass.seen (round.added ++ past) × AreOutcomes (IsOutcome vouched (signed ++ round.signed) (times ++ round.times)) (round.added ++ past))) (sym round.link)
      (gone_on valid vouched origin old new log log_now before now end round signed times past stands.0 stands.1)

  pub took_fully : (S : Type 0) (told : Option LinkLog) (e : Ended) (round : RoundTells valid vouched origin old new told log_now before now (ends.Ended e)) (signed : List Delivery) (times : List ℕ) (past : List Round) (receives failed_receives sends failed_sends : ℕ)
      → (e ≡ ended.Memory → S) → (ends.Ended e ≡ ends.Ended ended.ReadFault → Rose receives failed_receives) → (ends.Ended e ≡ ends.Ended ended.WriteFault → Rose sends failed_sends)
      → IsSome told → IfSome told (λ log. Stands log old before.pass.seen past × AreOutcomes (IsOutcome vouched signed times) past)
      → IfSome log_now (λ log. Began log now.pass.seen (round.added ++ past) × AreOutcomes (IsOutcome vouched (signed ++ round.signed) (times ++ round.times)) (round.added ++ past) × (S ⊎ TookAllUnless failed_receives failed_sends log (round.added ++ past)))
  took_fully S None e round signed times past receives failed_receives sends failed_sends memory reads writes tells stands = absurd (true≢false (sym tells))
  took_fully S (Some log) e round signed times past receives failed_receives sends failed_sends memory reads writes tells stands =
      subst (λ (m : Option LinkLog). IfSome m (λ l. Began l now.pass.seen (round.added ++ past) × AreOutcomes (IsOutcome vouched (signed ++ round.signed) (times ++ round.times)) (round.added ++ past) × (S ⊎ TookAllUnless failed_receives failed_sends l (round.added ++ past)))) (sym round.link)
      (fully_on valid vouched origin old new log log_now before now S e round signed times past receives failed_receives sends failed_sends memory reads writes stands.0 stands.1)
