-- What holds of all links of a seat goes on with each of its steps.
use Rattle.std.specs.Prelude.{◌≡◌, ◌⊎◌, ⊤, ℕ, ◌+◌, ◌<◌, ◌≤◌, List, [], ◌∷◌, ◌++◌, length, Option, Some, None, IfSome, IsSome}
use Rattle.std.proofs.Common.{arith, refl, sym, ◌∙◌, ap, subst, inl, length-append}
use Rattle.std.proofs.lemmas.List.{append-nil}
use Rattle.wl_worker.proofs.Common.{Ask, Signed, JwtToken, Origin, Rose, LinkLog, ListenerLog, BoundSocket, OnlyAdds, links_given, with_kind, Finishes, AcceptKind, Delivery, fresh_session, Ended, RoundEnd, SeatEnd, RoseBy, asker, Round, AskedBy, IsIn, ServedState, Around, Stands, Began, RoundTells, Known, AreJudged, TookAllUnless, TookPart, TookFully, SeatWorld, seat_world, known, Tends, Under, SeatView, seat_view, CountsStarved, Runs}
use Rattle.wl_edge.specs.Links.{IsFresh}
use Rattle.wl_edge.specs.Listeners.{CameOver}
use Rattle.wl_edge.specs.declared.listener.AcceptKind.TheVariants as kind
use Rattle.wl_worker.specs.declared.ended.Ended.TheVariants as ended
use Rattle.wl_worker.specs.declared.ended.RoundEnd.TheVariants as ends
use Rattle.wl_worker.specs.declared.seat.SeatEnd.TheVariants as seat
use Rattle.wl_worker.specs.Tended.{IsOwn}
use Rattle.wl_worker.specs.Seating.{under, finished_link, Tending, TendsOn, TendsRest, TendsLast, TendsBy}
use Rattle.wl_edge.proofs.KnownSockets.{adds_same}
use Rattle.wl_worker.proofs.RoundTraces.{nothing_talked}
use Rattle.wl_worker.proofs.TakenRounds.{began}
use Rattle.wl_worker.proofs.ConnectionRounds.{asked_added}
use Rattle.wl_worker.proofs.SeatRounds.{adds, stands_on, took_fully}
use Rattle.wl_worker.proofs.StarvedLinks.{beside_starves, beside_counts}
use Rattle.wl_worker.proofs.SeatLaws.{HasNone, silent_on, failed_on, tending_none, tending_listened, tending_comes, tending_taken, tending_put, tending_moved, beside_weaken, beside_gains, beside_finishes, beside_breaks, tending_tends}

-- ---- a round of the first link

-- a round after which the link goes on
abbrev pub IsOn : RoundEnd → Type 0
IsOn ends.On = ⊤
IsOn ends.Later = ⊤
IsOn (ends.Ended e) = ⊥

-- what is known of the asks of a connection is known of its number
at_number : (P Q : ℕ → Type 0) (c n : ℕ) → c ≡ n → (P c → Q c) → P n → Q n
at_number P Q c n is follows holds = subst Q is (follows (subst P (sym is) holds))

-- its rounds asked by its origin, and so did this one
own_still : (sockets : Option (List BoundSocket)) (origin origin_now : Origin) → origin_now ≡ origin → (added past : List Round) → AskedBy origin added → IsOwn sockets origin past → IsOwn sockets origin_now (added ++ past)
own_still sockets origin origin_now kept added past asked own = subst (λ (o : Origin). IsOwn sockets o (added ++ past)) (sym kept) (record { came = own.came; asked = asked_added origin added past asked own.asked })

module _ {connection : ℕ} (valid : Ask → Signed → Type 0) (vouched : Ask → List (List ℕ) → JwtToken → Type 0) (first : SeatWorld) (sockets : Option (List BoundSocket)) (origin : Origin) (room listener_faults : ℕ) (old new : ServedState) (told told_now : Option LinkLog) (before now : Around) (r s t r2 s2 t2 : ℕ) (origin_now : Origin) (kept : origin_now ≡ origin) where
  runs_on : (end : RoundEnd) (round : RoundTells valid (asker connection vouched) origin old new told told_now before now end) → IsOn end → IsSome told → (listener : Option ListenerLog) (count : ℕ) (signed : List Delivery) (times starved : List ℕ) (n : ℕ) (past : List Round)
      → Runs (known vouched (seat_world sockets listener count before) signed times starved) n (under connection (finished_link origin told r s t) old) past
      → Runs (known vouched (seat_world sockets listener count now) (signed ++ round.signed) (times ++ round.times) starved) n (under connection (finished_link origin_now told_now r2 s2 t2) new) (round.added ++ past)
  runs_on ends.On round on tells listener count signed times starved n past runs = (
    runs.0,
    own_still sockets origin origin_now kept round.added past round.asked runs.1,
    at_number
        (λ k. IfSome told (λ log. Stands log old before.pass.seen past × AreJudged (known vouched (seat_world sockets listener count before) signed times starved) k past))
        (λ k. IfSome told_now (λ log. Stands log new now.pass.seen (round.added ++ past) × AreJudged (known vouched (seat_world sockets listener count now) (signed ++ round.signed) (times ++ round.times) starved) k (round.added ++ past)))
        connection n runs.0 (stands_on valid (asker connection vouched) origin old new told_now before now told ends.On round signed times past tells) runs.2,
  )
  runs_on ends.Later round on tells listener count signed times starved n past runs = (
    runs.0,
    own_still sockets origin origin_now kept round.added past round.asked runs.1,
    at_number
        (λ k. IfSome told (λ log. Stands log old before.pass.seen past × AreJudged (known vouched (seat_world sockets listener count before) signed times starved) k past))
        (λ k. IfSome told_now (λ log. Stands log new now.pass.seen (round.added ++ past) × AreJudged (known vouched (seat_world sockets listener count now) (signed ++ round.signed) (times ++ round.times) starved) k (round.added ++ past)))
        connection n runs.0 (stands_on valid (asker connection vouched) origin old new told_now before now told ends.Later round signed times past tells) runs.2,
  )
  runs_on (ends.Ended e) round on tells listener count signed times starved n past runs = absurd on

module _ {next connection : ℕ} (valid : Ask → Signed → Type 0) (vouched : Ask → List (List ℕ) → JwtToken → Type 0) (first : SeatWorld) (sockets : Option (List BoundSocket)) (origin : Origin) (room listener_faults : ℕ) (old new : ServedState) (told told_now : Option LinkLog) (before now : Around) (r s t r2 s2 t2 : ℕ) (origin_now : Origin) (kept : origin_now ≡ origin) where
  -- it goes on
  pub going_round : (starved ready_faults : ℕ) (listener : Option ListenerLog) (xs : List Under) (end : RoundEnd) (round : RoundTells valid (asker connection vouched) origin old new told told_now before now end) → IsOn end → IsSome told
      → TendsOn vouched first (seat_view room next listener_faults ready_faults (seat_world sockets listener starved before)) (under connection (finished_link origin told r s t) old ∷ xs)
      → TendsOn vouched first (seat_view room next listener_faults ready_faults (seat_world sockets listener starved now)) (under connection (finished_link origin_now told_now r2 s2 t2) new ∷ xs)
  going_round starved ready_faults listener xs end round on tells going =
      let u = under connection (finished_link origin told r s t) old in
      let v = under connection (finished_link origin_now told_now r2 s2 t2) new in
      let w : SeatWorld = seat_world sockets listener starved before in
      let x : SeatWorld = seat_world sockets listener starved now in
      let apart = tending_taken vouched first w 0 [] xs u going.0 in
      let gained = beside_gains (λ k n past. Runs k n u past) (λ k n past. Runs k n v past) vouched first w x 0 [] xs round.added round.signed round.times (adds valid (asker connection vouched) origin old new told told_now before now end round sockets listener starved) (runs_on valid vouched first sockets origin room listener_faults old new told told_now before now r s t r2 s2 t2 origin_now kept end round on tells listener starved) apart in (
        tending_put vouched first x 0 [] xs v gained,
        omega (arith, going.1),
      )

  -- It was over, and is finished. Where memory ran out in it, it is counted.
  pub going_over : (starved starved_now ready_faults faults_now listens_now : ℕ) (sockets_now : Option (List BoundSocket)) (listener listener_now : Option ListenerLog) (xs : List Under) (e : Ended) (round : RoundTells valid (asker connection vouched) origin old new told told_now before now (ends.Ended e))
      → CountsStarved e starved starved_now → (ends.Ended e ≡ ends.Ended ended.ReadFault → Rose r r2) → (ends.Ended e ≡ ends.Ended ended.WriteFault → Rose s s2) → IsSome told → sockets_now ≡ sockets → Finishes listener listener_now (finished_link origin_now told_now r2 s2 t2)
      → TendsOn vouched first (seat_view room next listener_faults ready_faults (seat_world sockets listener starved before)) (under connection (finished_link origin told r s t) old ∷ xs)
      → TendsOn vouched first (seat_view room next listens_now faults_now (seat_world sockets_now listener_now starved_now now)) xs
  going_over starved starved_now ready_faults faults_now listens_now sockets_now listener listener_now xs e round counts reads writes tells sockets_kept finishes going =
      let u = under connection (finished_link origin told r s t) old in
      let f = finished_link origin_now told_now r2 s2 t2 in
      let w : SeatWorld = seat_world sockets listener starved before in
      let v : SeatWorld = seat_world sockets listener starved_now before in
      let x : SeatWorld = seat_world sockets listener starved_now now in
      let y : SeatWorld = seat_world sockets_now listener_now starved_now now in
      let apart = tending_taken vouched first w 0 [] xs u going.0 in
      let counted = beside_counts (λ k n past. Runs k n u past) vouched first sockets listener starved starved_now before 0 [] xs (λ signed times hungry n past runs. runs) e counts apart in
      let gained = beside_gains (λ k n past. Runs k n u past × (e ≡ ended.Memory → IsIn n k.starved)) (λ k n past. TookFully k n f past) vouched first v x 0 [] xs round.added round.signed round.times (adds valid (asker connection vouched) origin old new told told_now before now (ends.Ended e) round sockets listener starved_now)
      (λ signed times hungry n past runs. (
        own_still sockets origin origin_now kept round.added past round.asked runs.0.1,
        at_number
            (λ k. IfSome told (λ log. Stands log old before.pass.seen past × AreJudged (known vouched v signed times hungry) k past))
            (λ k. IfSome told_now (λ log. Began log now.pass.seen (round.added ++ past) × AreJudged (known vouched x (signed ++ round.signed) (times ++ round.times) hungry) k (round.added ++ past) × (IsIn n hungry ⊎ TookAllUnless r2 s2 log (round.added ++ past))))
            connection n runs.0.0 (took_fully valid (asker connection vouched) origin old new told_now before now (IsIn n hungry) told e round signed times past r r2 s s2 runs.1 reads writes tells) runs.0.2,
      )) counted in
      (beside_finishes vouched first x y [] xs f gained refl (adds_same sockets sockets_now sockets_kept) finishes, omega (arith, going.1))

-- ---- where links stand

module _ (vouched : Ask → List (List ℕ) → JwtToken → Type 0) (first : SeatWorld) where
  -- a link comes to stand between others
  pub going_moved : (w : SeatView) (u : Under) (front back front_then back_then : List Under) → front ++ back ≡ front_then ++ back_then → TendsOn vouched first w (front ++ u ∷ back) → TendsOn vouched first w (front_then ++ u ∷ back_then)
  going_moved w u front back front_then back_then same going = (
    tending_moved vouched first w.world 0 u front back front_then back_then same going.0,
    omega (arith, going.1, length-append front (u ∷ back), length-append front_then (u ∷ back_then), length-append front back, length-append front_then back_then, ap length same),
  )

  -- the same, once the seat has ended
  pub last_moved : (w : SeatView) (n : ℕ) (u : Under) (front back front_then back_then : List Under) → front ++ back ≡ front_then ++ back_then → TendsLast vouched first w n (front ++ u ∷ back) → TendsLast vouched first w n (front_then ++ u ∷ back_then)
  last_moved w n u front back front_then back_then same left = (
    left.0,
    tending_moved vouched first w.world left.0 u front back front_then back_then same left.1,
    omega (arith, left.2, length-append front (u ∷ back), length-append front_then (u ∷ back_then), length-append front back, length-append front_then back_then, ap length same),
  )

  pub rest_on : (w : SeatView) (xs : List Under) → TendsOn vouched first w xs → TendsRest vouched first w xs
  rest_on w xs going = (0, going.0, omega (arith, going.1))

  part_at : (seen_by_now : Known) (n : ℕ) (told : Option LinkLog) (served : ServedState) (past : List Round) → IfSome told (λ log. Stands log served seen_by_now.seen past × AreJudged seen_by_now n past) → IfSome told (λ log. Began log seen_by_now.seen past × AreJudged seen_by_now n past)
  part_at k n None served past runs = tt
  part_at k n (Some log) served past runs = (began log served k.seen past runs.0, runs.1)

  -- The first link is finished as it stands; what is left and what was so finished stay as many.
  pub last_more : {next : ℕ} (room listener_faults listens_now ready_faults faults_now starved n : ℕ) (around : Around) (sockets sockets_now : Option (List BoundSocket)) (listener listener_now : Option ListenerLog) (u : Under) (xs : List Under)
      → sockets_now ≡ sockets → Finishes listener listener_now u.link
      → TendsLast vouched first (seat_view room next listener_faults ready_faults (seat_world sockets listener starved around)) n (u ∷ xs)
      → TendsLast vouched first (seat_view room next listens_now faults_now (seat_world sockets_now listener_now starved around)) n xs
  last_more {next} room listener_faults listens_now ready_faults faults_now starved n around sockets sockets_now listener listener_now u xs sockets_kept finishes left =
      let w : SeatWorld = seat_world sockets listener starved around in
      let y : SeatWorld = seat_world sockets_now listener_now starved around in
      let apart = tending_taken vouched first w left.0 [] xs u left.1 in
      let part = beside_weaken (λ k n past. Runs k n u past) (λ k n past. TookPart k n u.link past) vouched first w left.0 [] xs (λ signed times hungry n past runs. (runs.1, part_at (known vouched w signed times hungry) n u.link.log u.served past runs.2)) apart in
      (left.0 + 1, beside_breaks vouched first w y left.0 [] xs u.link part refl (adds_same sockets sockets_now sockets_kept) finishes, omega (arith, left.2))

  -- how many were finished as they stood, once no link is left, by the end
  pub last_by : (w : SeatView) (links : List Under) (end : SeatEnd) → TendsBy vouched first w links end → (n : ℕ) × TendsLast vouched first w n links × (n ≤ w.room) × (end ≡ seat.End → n ≡ 0)
  last_by w links seat.End left =
      let none : length links ≡ 0 = ap length left.1 in
      (0, (0, left.0.0, omega (arith, none)), omega arith, λ _. refl)
  last_by w links seat.ListenFault left = (left.0 + length links, (left.0, left.1, refl), left.2, λ is. absurd (cc is))
  last_by w links seat.WaitFault left = (left.0 + length links, (left.0, left.1, refl), left.2, λ is. absurd (cc is))
  last_by w links seat.Memory left = (left.0 + length links, (left.0, left.1, refl), left.2, λ is. absurd (cc is))

  pub last_tends : (w : SeatView) (n : ℕ) (end : SeatEnd) → TendsLast vouched first w n [] → n ≤ w.room → (end ≡ seat.End → n ≡ 0) → Tends vouched w.room end first w.world
  last_tends w n end left few ended =
      let all : left.0 ≡ n = omega (arith, left.2) in
      tending_tends vouched w.room end first w.world left.0 left.1 (omega (arith, all, few)) (λ is. all ∙ ended is)

  -- ---- a link that comes

  own_none : (sockets : Option (List BoundSocket)) (origin : Origin) (past : List Round) → CameOver sockets origin → past ≡ [] → IsOwn sockets origin past
  own_none sockets origin past came none = record {
    came = came;
    asked = subst (λ (p : List Round). AskedBy origin p) (sym none) tt;
  }

  runs_new : (k : Known) (n : ℕ) (told : Option LinkLog) (r s t : ℕ) (served : ServedState) (past : List Round) → IsFresh told r s t → served ≡ record { session = fresh_session; unsent = [] } → past ≡ [] → IfSome told (λ log. Stands log served k.seen past × AreJudged k n past)
  runs_new k n None r s t served past fresh start none = tt
  runs_new k n (Some log) r s t served past fresh start none =
      let new : ServedState = record { session = fresh_session; unsent = [] } in
      let empty : LinkLog = record { gave = []; took = [] } in
      let stands : Stands empty new k.seen [] = record { pieces = refl; session = refl; talked = sym nothing_talked; whole = tt; known = tt; rising = tt } in
      subst (λ (p : List Round). Stands log served k.seen p × AreJudged k n p) (sym none)
      (subst (λ (l : LinkLog). Stands l served k.seen [] × AreJudged k n []) (sym fresh.log)
      (subst (λ (start_of : ServedState). Stands empty start_of k.seen [] × AreJudged k n []) (sym start) (stands, tt)))

  -- it is served
  pub going_comes : {next : ℕ} (origin : Origin) (room listener_faults ready_faults faults_now count_now starved : ℕ) (around : Around) (sockets sockets_now : Option (List BoundSocket)) (listener listener_now : Option ListenerLog) (told : Option LinkLog) (r s t : ℕ) (served : ServedState) (xs : List Under)
      → OnlyAdds sockets sockets_now → CameOver sockets_now origin → IfSome listener (λ log. listener_now ≡ Some (with_kind log kind.Link)) → IsFresh told r s t → served ≡ record { session = fresh_session; unsent = [] } → length xs < room
      → TendsOn vouched first (seat_view room next listener_faults ready_faults (seat_world sockets listener starved around)) xs
      → TendsOn vouched first (seat_view room (next + 1) count_now faults_now (seat_world sockets_now listener_now starved around)) (xs ++ under next (finished_link origin told r s t) served ∷ [])
  going_comes {next} origin room listener_faults ready_faults faults_now count_now starved around sockets sockets_now listener listener_now told r s t served xs grown came_over answers fresh start few going =
      let v = under next (finished_link origin told r s t) served in
      let w : SeatWorld = seat_world sockets listener starved around in
      let x : SeatWorld = seat_world sockets_now listener_now starved around in
      let came = tending_comes vouched first w x 0 xs going.0 refl grown answers in
      let new = beside_weaken (HasNone next) (λ k n past. Runs k n v past) vouched first x 0 xs [] (λ signed times hungry n past none. (sym none.0, own_none sockets_now origin past came_over none.1, runs_new (known vouched x signed times hungry) n told r s t served past fresh start none.1)) came in
      (tending_put vouched first x 0 xs [] v new, omega (arith, few, length-append xs (v ∷ [])))

  fully_at : (k : Known) (n : ℕ) (told : Option LinkLog) (receives sends : ℕ) (past : List Round) → IsIn n k.starved → IfSome told (λ log. Began log k.seen past × AreJudged k n past) → IfSome told (λ log. Began log k.seen past × AreJudged k n past × (IsIn n k.starved ⊎ TookAllUnless receives sends log past))
  fully_at k n None receives sends past starved part = tt
  fully_at k n (Some log) receives sends past starved part = (part.0, part.1, inl starved)

  -- memory ran out for it, and it is finished at once
  pub going_starves : {next : ℕ} (origin : Origin) (room listener_faults ready_faults faults_now count_now starved starved_now : ℕ) (around : Around) (sockets sockets_now sockets_then : Option (List BoundSocket)) (listener listener_now listener_then : Option ListenerLog) (told : Option LinkLog) (r s t : ℕ) (xs : List Under)
      → OnlyAdds sockets sockets_now → sockets_then ≡ sockets_now → RoseBy 1 starved starved_now → CameOver sockets_now origin → IfSome listener (λ log. listener_now ≡ Some (with_kind log kind.Link)) → Finishes listener_now listener_then (finished_link origin told r s t) → IsFresh told r s t
      → TendsOn vouched first (seat_view room next listener_faults ready_faults (seat_world sockets listener starved around)) xs
      → TendsOn vouched first (seat_view room (next + 1) count_now faults_now (seat_world sockets_then listener_then starved_now around)) xs
  going_starves {next} origin room listener_faults ready_faults faults_now count_now starved starved_now around sockets sockets_now sockets_then listener listener_now listener_then told r s t xs grown sockets_still rose came_over answers finishes fresh going =
      let f = finished_link origin told r s t in
      let new : ServedState = record { session = fresh_session; unsent = [] } in
      let w : SeatWorld = seat_world sockets listener starved around in
      let x : SeatWorld = seat_world sockets_now listener_now starved around in
      let v : SeatWorld = seat_world sockets_now listener_now starved_now around in
      let y : SeatWorld = seat_world sockets_then listener_then starved_now around in
      let came = tending_comes vouched first w x 0 xs going.0 refl grown answers in
      let counted = beside_starves (HasNone next) vouched first sockets_now listener_now starved starved_now around 0 xs [] (λ signed times hungry n past none. none) rose came in
      let full = beside_weaken (λ k n past. HasNone next k n past × IsIn n k.starved) (λ k n past. TookFully k n f past) vouched first v 0 xs [] (λ signed times hungry n past none. (
        own_none sockets_now origin past came_over none.0.1,
        fully_at (known vouched v signed times hungry) n told r s past none.1 (part_at (known vouched v signed times hungry) n told new past (runs_new (known vouched v signed times hungry) n told r s t new past fresh refl none.0.1)),
      )) counted in
      (subst (λ (l : List Under). Tending vouched (next + 1) first y 0 l) (append-nil xs) (beside_finishes vouched first v y xs [] f full refl (adds_same sockets_now sockets_then sockets_still) finishes), omega (arith, going.1))

  starved_at : (k : Known) (n : ℕ) (told : Option LinkLog) (served : ServedState) (receives sends : ℕ) (past : List Round) → IsIn n k.starved → IfSome told (λ log. Stands log served k.seen past × AreJudged k n past) → IfSome told (λ log. Began log k.seen past × AreJudged k n past × (IsIn n k.starved ⊎ TookAllUnless receives sends log past))
  starved_at k n told served receives sends past starved runs = fully_at k n told receives sends past starved (part_at k n told served past runs)

  -- Memory ran out for a link that is served, and it is finished as it stands.
  pub going_starves_served : {next : ℕ} (room listener_faults listens_now ready_faults faults_now starved starved_now : ℕ) (around : Around) (sockets sockets_now : Option (List BoundSocket)) (listener listener_now : Option ListenerLog) (u : Under) (xs : List Under)
      → RoseBy 1 starved starved_now → sockets_now ≡ sockets → Finishes listener listener_now u.link
      → TendsOn vouched first (seat_view room next listener_faults ready_faults (seat_world sockets listener starved around)) (u ∷ xs)
      → TendsOn vouched first (seat_view room next listens_now faults_now (seat_world sockets_now listener_now starved_now around)) xs
  going_starves_served {next} room listener_faults listens_now ready_faults faults_now starved starved_now around sockets sockets_now listener listener_now u xs rose sockets_kept finishes going =
      let w : SeatWorld = seat_world sockets listener starved around in
      let v : SeatWorld = seat_world sockets listener starved_now around in
      let y : SeatWorld = seat_world sockets_now listener_now starved_now around in
      let apart = tending_taken vouched first w 0 [] xs u going.0 in
      let counted = beside_starves (λ k n past. Runs k n u past) vouched first sockets listener starved starved_now around 0 [] xs (λ signed times hungry n past runs. runs) rose apart in
      let full = beside_weaken (λ k n past. Runs k n u past × IsIn n k.starved) (λ k n past. TookFully k n u.link past) vouched first v 0 [] xs (λ signed times hungry n past both. (
        both.0.1,
        starved_at (known vouched v signed times hungry) n u.link.log u.served u.link.failed_receives u.link.failed_sends past both.1 both.0.2,
      )) counted in
      (beside_finishes vouched first v y [] xs u.link full refl (adds_same sockets sockets_now sockets_kept) finishes, omega (arith, going.1))

  -- it could not be watched, and is finished at once
  pub rest_new : {next : ℕ} (origin : Origin) (room listener_faults ready_faults faults_now count_now starved : ℕ) (around : Around) (sockets sockets_now sockets_then : Option (List BoundSocket)) (listener listener_now listener_then : Option ListenerLog) (told : Option LinkLog) (r s t : ℕ) (xs : List Under)
      → OnlyAdds sockets sockets_now → sockets_then ≡ sockets_now → CameOver sockets_now origin → IfSome listener (λ log. listener_now ≡ Some (with_kind log kind.Link)) → Finishes listener_now listener_then (finished_link origin told r s t) → IsFresh told r s t → length xs < room
      → TendsOn vouched first (seat_view room next listener_faults ready_faults (seat_world sockets listener starved around)) xs
      → TendsRest vouched first (seat_view room (next + 1) count_now faults_now (seat_world sockets_then listener_then starved around)) xs
  rest_new {next} origin room listener_faults ready_faults faults_now count_now starved around sockets sockets_now sockets_then listener listener_now listener_then told r s t xs grown sockets_still came_over answers finishes fresh few going =
      let f = finished_link origin told r s t in
      let new : ServedState = record { session = fresh_session; unsent = [] } in
      let w : SeatWorld = seat_world sockets listener starved around in
      let x : SeatWorld = seat_world sockets_now listener_now starved around in
      let y : SeatWorld = seat_world sockets_then listener_then starved around in
      let came = tending_comes vouched first w x 0 xs going.0 refl grown answers in
      let part = beside_weaken (HasNone next) (λ k n past. TookPart k n f past) vouched first x 0 xs [] (λ signed times hungry n past none. (own_none sockets_now origin past came_over none.1, part_at (known vouched x signed times hungry) n told new past (runs_new (known vouched x signed times hungry) n told r s t new past fresh refl none.1))) came in
      (1, subst (λ (l : List Under). Tending vouched (next + 1) first y 1 l) (append-nil xs) (beside_breaks vouched first x y 0 xs [] f part refl (adds_same sockets_now sockets_then sockets_still) finishes), omega (arith, few))

  -- ---- no link comes

  pub going_answered : {next : ℕ} (room listener_faults ready_faults count_now starved : ℕ) (around : Around) (sockets sockets_now : Option (List BoundSocket)) (listener listener_now : Option ListenerLog) (answer : AcceptKind) (xs : List Under)
      → OnlyAdds sockets sockets_now → links_given (answer ∷ []) ≡ 0 → IfSome listener (λ log. listener_now ≡ Some (with_kind log answer))
      → TendsOn vouched first (seat_view room next listener_faults ready_faults (seat_world sockets listener starved around)) xs
      → TendsOn vouched first (seat_view room next count_now ready_faults (seat_world sockets_now listener_now starved around)) xs
  going_answered {next} room listener_faults ready_faults count_now starved around sockets sockets_now listener listener_now answer xs grown none answers going =
      (tending_listened vouched first (seat_world sockets listener starved around) (seat_world sockets_now listener_now starved around) 0 xs going.0 refl grown (silent_on first.listener listener listener_now answer none answers), going.1)

  -- the accept failed
  pub going_failed : {next : ℕ} (room listener_faults ready_faults count_now starved : ℕ) (around : Around) (sockets sockets_now : Option (List BoundSocket)) (listener listener_now : Option ListenerLog) (full : Type 0) (xs : List Under)
      → OnlyAdds sockets sockets_now → IfSome listener (λ log. (listener_now ≡ Some (with_kind log kind.Failed)) ⊎ (full × (listener_now ≡ Some log)))
      → TendsOn vouched first (seat_view room next listener_faults ready_faults (seat_world sockets listener starved around)) xs
      → TendsOn vouched first (seat_view room next count_now ready_faults (seat_world sockets_now listener_now starved around)) xs
  going_failed {next} room listener_faults ready_faults count_now starved around sockets sockets_now listener listener_now full xs grown answers going =
      (tending_listened vouched first (seat_world sockets listener starved around) (seat_world sockets_now listener_now starved around) 0 xs going.0 refl grown (failed_on first.listener listener listener_now full answers), going.1)

  -- ---- from its start to its end

  pub going_none : (w : SeatView) → TendsOn vouched w.world w []
  going_none w = (tending_none vouched w.world, omega arith)

-- ---- a round that ends nothing

pub is_on : (end : RoundEnd) → ((e : Ended) → end ≡ ends.Ended e → ⊥) → IsOn end
is_on ends.On never = tt
is_on ends.Later never = tt
is_on (ends.Ended e) never = absurd (never e refl)
