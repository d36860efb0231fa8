-- What the parts of a seat's serving do for its links, one after another.
use Rattle.std.specs.Prelude.{◌≡◌, ◌⊎◌, ℕ, ◌+◌, ◌<◌, ◌≤◌, List, [], ◌∷◌, ◌++◌, length, Option, Some, IfSome, IsSome}
use Rattle.std.proofs.Common.{arith, refl, sym, ◌∙◌, subst}
use Rattle.wl_worker.proofs.Common.{Ask, Signed, JwtToken, Passing, Origin, Rose, LinkLog, ListenerLog, BoundSocket, OnlyAdds, with_kind, Finishes, EdgeFault, fresh_session, Ended, RoundEnd, SeatEnd, RoseBy, asker, ServedState, Around, RoundTells, SeatWorld, seat_world, Tends, Under, SeatView, seat_view, CountsStarved, Slab, links_of}
use Rattle.wl_edge.specs.Links.{IsFresh}
use Rattle.wl_edge.specs.Listeners.{CameOver}
use Rattle.wl_edge.specs.declared.fault.EdgeFault.TheVariants as edge
use Rattle.wl_edge.specs.declared.listener.AcceptKind.TheVariants as kind
use Rattle.wl_worker.specs.declared.ended.Ended.TheVariants as ended
use Rattle.wl_worker.specs.declared.ended.RoundEnd.TheVariants as ends
use Rattle.wl_worker.specs.declared.seat.SeatEnd.TheVariants as seat
use Rattle.wl_worker.specs.declared.step.Step.{Step}
use Rattle.wl_worker.specs.declared.step.Step.TheVariants as step
use Rattle.wl_worker.specs.Seating.{under, finished_link, seat_end_of, TendsRest, TendsBy, KeepsTending, FinishesTending}
use Rattle.slab.specs.Slab.{slab_len}
use Rattle.wl_worker.proofs.SlotLinks.{count_links}
use Rattle.wl_worker.proofs.SeatParts.{IsOnStep}
use Rattle.wl_worker.proofs.AllLinks.{IsOn, going_round, going_over, going_moved, last_moved, rest_on, last_more, last_by, last_tends, going_comes, going_starves, going_starves_served, rest_new, going_answered, going_failed, going_none}

-- ---- one part, and then another

module _ (tells : Type 0) (vouched : Ask → List (List ℕ) → JwtToken → Type 0) where
  pub keeps_still : (w : SeatView) (xs : List Under) → KeepsTending tells vouched w w xs xs step.On
  keeps_still w xs = record { keeps = λ t first on. on }

  pub keeps_idle : (w : SeatView) (xs : List Under) → KeepsTending tells vouched w w xs xs step.Idle
  keeps_idle w xs = record { keeps = λ t first on. on }

  pub keeps_then : (a b c : SeatView) (xs ys zs : List Under) (s : Step) → KeepsTending tells vouched a b xs ys step.On → KeepsTending tells vouched b c ys zs s → KeepsTending tells vouched a c xs zs s
  keeps_then a b c xs ys zs s one other = record { keeps = λ t first on. other.keeps t first (one.keeps t first on) }

  pub keeps_on : (a b : SeatView) (xs ys : List Under) (s : Step) → IsOnStep s → KeepsTending tells vouched a b xs ys s → KeepsTending tells vouched a b xs ys step.On
  keeps_on a b xs ys step.On is keeps = keeps
  keeps_on a b xs ys step.Idle is keeps = record { keeps = keeps.keeps }
  keeps_on a b xs ys step.Closed is keeps = absurd is
  keeps_on a b xs ys (step.Over end) is keeps = absurd is

  -- there will be no more links, and those that are left are served
  pub keeps_ended : (a b : SeatView) (xs ys : List Under) → ys ≡ [] → KeepsTending tells vouched a b xs ys step.On → KeepsTending tells vouched a b xs ys (step.Over seat.End)
  keeps_ended a b xs ys none one = record { keeps = λ t first on. (one.keeps t first on, none) }

  pub keeps_closed : (a b c : SeatView) (xs ys zs : List Under) (s : Step) → KeepsTending tells vouched a b xs ys step.Closed → KeepsTending tells vouched b c ys zs s → KeepsTending tells vouched a c xs zs s
  keeps_closed a b c xs ys zs s one other = record { keeps = λ t first on. other.keeps t first (one.keeps t first on) }

  pub keeps_to : (a b : SeatView) (xs ys zs : List Under) (s : Step) → ys ≡ zs → KeepsTending tells vouched a b xs zs s → KeepsTending tells vouched a b xs ys s
  keeps_to a b xs ys zs s same keeps = subst (λ (l : List Under). KeepsTending tells vouched a b xs l s) (sym same) keeps

  pub keeps_from_none : {A : Type 0} (a b : SeatView) (f : A → Under) (slots : List (Option A)) (ys : List Under) (s : Step) → slots ≡ [] → KeepsTending tells vouched a b (links_of f slots) ys s → KeepsTending tells vouched a b [] ys s
  keeps_from_none {A} a b f slots ys s none keeps = subst (λ (l : List (Option A)). KeepsTending tells vouched a b (links_of f l) ys s) none keeps

  pub keeps_end : (a b : SeatView) (xs ys : List Under) (end other : SeatEnd) → end ≡ other → KeepsTending tells vouched a b xs ys (step.Over other) → KeepsTending tells vouched a b xs ys (step.Over end)
  keeps_end a b xs ys end other is keeps = subst (λ (e : SeatEnd). KeepsTending tells vouched a b xs ys (step.Over e)) (sym is) keeps

  -- a link comes to stand between others
  pub keeps_moved : (w : SeatView) (u : Under) (front back front_then back_then : List Under) → front ++ back ≡ front_then ++ back_then → KeepsTending tells vouched w w (front ++ u ∷ back) (front_then ++ u ∷ back_then) step.On
  keeps_moved w u front back front_then back_then same = record { keeps = λ t first on. going_moved vouched first w u front back front_then back_then same on }

-- ---- the watcher

rest_fault : (vouched : Ask → List (List ℕ) → JwtToken → Type 0) (first : SeatWorld) (fault : EdgeFault) (w : SeatView) (xs : List Under) → TendsRest vouched first w xs → TendsBy vouched first w xs (seat_end_of fault)
rest_fault vouched first edge.Failed w xs rest = rest
rest_fault vouched first edge.Memory w xs rest = rest

module _ {next : ℕ} (tells : Type 0) (vouched : Ask → List (List ℕ) → JwtToken → Type 0) (room listener_faults ready_faults faults_now : ℕ) (world : SeatWorld) (xs : List Under) where
  pub keeps_waited : KeepsTending tells vouched (seat_view room next listener_faults ready_faults world) (seat_view room next listener_faults faults_now world) xs xs step.On
  keeps_waited = record { keeps = λ t first on. on }

  -- it had no answer
  pub keeps_unwaited : (fault : EdgeFault) → KeepsTending tells vouched (seat_view room next listener_faults ready_faults world) (seat_view room next listener_faults faults_now world) xs xs (step.Over (seat_end_of fault))
  keeps_unwaited fault = record { keeps = λ t first on. rest_fault vouched first fault (seat_view room next listener_faults faults_now world) xs (rest_on vouched first (seat_view room next listener_faults faults_now world) xs on) }

-- ---- a round of the first link

module _ {next connection starved : ℕ} {sockets : Option (List BoundSocket)} (tells : Type 0) (valid : Ask → Signed → Type 0) (vouched : Ask → List (List ℕ) → JwtToken → Type 0) (origin : Origin) (room listener_faults : ℕ) (old new : ServedState) (told told_now : Option LinkLog) (before now : Around) (r s t r2 s2 t2 : ℕ) (shows : tells → IsSome told) (origin_now : Origin) (kept : origin_now ≡ origin) where
  -- it goes on
  pub keeps_round : (ready_faults : ℕ) (listener : Option ListenerLog) (xs : List Under) (end : RoundEnd) (round : RoundTells valid (asker connection vouched) origin old new told told_now before now end) → IsOn end
      → KeepsTending tells vouched (seat_view room next listener_faults ready_faults (seat_world sockets listener starved before)) (seat_view room next listener_faults ready_faults (seat_world sockets listener starved now)) (under connection (finished_link origin told r s t) old ∷ xs) (under connection (finished_link origin_now told_now r2 s2 t2) new ∷ xs) step.On
  keeps_round ready_faults listener xs end round on = record { keeps = λ tell first going. going_round valid vouched first sockets origin room listener_faults old new told told_now before now r s t r2 s2 t2 origin_now kept starved ready_faults listener xs end round on (shows tell) going }

  -- it is over, and is finished
  pub keeps_over : {starved_now : ℕ} {sockets_now : Option (List BoundSocket)} (ready_faults faults_now listens_now : ℕ) (listener listener_now : Option ListenerLog) (xs : List Under) (e : Ended) (round : RoundTells valid (asker connection vouched) origin old new told told_now before now (ends.Ended e))
      → CountsStarved e starved starved_now → (ends.Ended e ≡ ends.Ended ended.ReadFault → Rose r r2) → (ends.Ended e ≡ ends.Ended ended.WriteFault → Rose s s2) → sockets_now ≡ sockets → Finishes listener listener_now (finished_link origin_now told_now r2 s2 t2)
      → KeepsTending tells vouched (seat_view room next listener_faults ready_faults (seat_world sockets listener starved before)) (seat_view room next listens_now faults_now (seat_world sockets_now listener_now starved_now now)) (under connection (finished_link origin told r s t) old ∷ xs) xs step.On
  keeps_over {starved_now} {sockets_now} ready_faults faults_now listens_now listener listener_now xs e round counts reads writes sockets_kept finishes =
      record { keeps = λ tell first going. going_over valid vouched first sockets origin room listener_faults old new told told_now before now r s t r2 s2 t2 origin_now kept starved starved_now ready_faults faults_now listens_now sockets_now listener listener_now xs e round counts reads writes (shows tell) sockets_kept finishes going }

-- Memory ran out for a link that is served, and it is finished as it stands.
pub keeps_starved_served : {next starved starved_now : ℕ} {sockets sockets_now : Option (List BoundSocket)} (tells : Type 0) (vouched : Ask → List (List ℕ) → JwtToken → Type 0) (room listener_faults listens_now ready_faults faults_now : ℕ) (around : Around) (listener listener_now : Option ListenerLog) (u : Under) (xs : List Under)
    → RoseBy 1 starved starved_now → sockets_now ≡ sockets → Finishes listener listener_now u.link
    → KeepsTending tells vouched (seat_view room next listener_faults ready_faults (seat_world sockets listener starved around)) (seat_view room next listens_now faults_now (seat_world sockets_now listener_now starved_now around)) (u ∷ xs) xs step.On
keeps_starved_served {next} {starved} {starved_now} {sockets} {sockets_now} tells vouched room listener_faults listens_now ready_faults faults_now around listener listener_now u xs rose sockets_kept finishes =
    record { keeps = λ tell first going. going_starves_served vouched first room listener_faults listens_now ready_faults faults_now starved starved_now around sockets sockets_now listener listener_now u xs rose sockets_kept finishes going }

-- ---- an accept

module _ {next starved : ℕ} {sockets sockets_now : Option (List BoundSocket)} (tells : Type 0) (vouched : Ask → List (List ℕ) → JwtToken → Type 0) (room faults faults_now : ℕ) (around : Around) (listener listener_now : Option ListenerLog) (xs : List Under) (grown : OnlyAdds sockets sockets_now) where
  -- no link was there
  pub keeps_unanswered : (ready_faults : ℕ) → IfSome listener (λ log. listener_now ≡ Some (with_kind log kind.Idle))
      → KeepsTending tells vouched (seat_view room next faults ready_faults (seat_world sockets listener starved around)) (seat_view room next faults_now ready_faults (seat_world sockets_now listener_now starved around)) xs xs step.Idle
  keeps_unanswered ready_faults answers = record { keeps = λ t first on. going_answered vouched first room faults ready_faults faults_now starved around sockets sockets_now listener listener_now kind.Idle xs grown refl answers on }

  -- there will be no more
  pub keeps_ending : (ready_faults : ℕ) → IfSome listener (λ log. listener_now ≡ Some (with_kind log kind.End))
      → KeepsTending tells vouched (seat_view room next faults ready_faults (seat_world sockets listener starved around)) (seat_view room next faults_now ready_faults (seat_world sockets_now listener_now starved around)) xs xs step.Closed
  keeps_ending ready_faults answers = record { keeps = λ t first on. going_answered vouched first room faults ready_faults faults_now starved around sockets sockets_now listener listener_now kind.End xs grown refl answers on }

  -- it failed
  pub keeps_failed : (ready_faults : ℕ) (full : Type 0) → IfSome listener (λ log. (listener_now ≡ Some (with_kind log kind.Failed)) ⊎ (full × (listener_now ≡ Some log)))
      → KeepsTending tells vouched (seat_view room next faults ready_faults (seat_world sockets listener starved around)) (seat_view room next faults_now ready_faults (seat_world sockets_now listener_now starved around)) xs xs (step.Over seat.ListenFault)
  keeps_failed ready_faults full answers =
      record { keeps = λ t first on. rest_on vouched first (seat_view room next faults_now ready_faults (seat_world sockets_now listener_now starved around)) xs (going_failed vouched first room faults ready_faults faults_now starved around sockets sockets_now listener listener_now full xs grown answers on) }

-- a link came
module _ {next starved : ℕ} {sockets sockets_now : Option (List BoundSocket)} (tells : Type 0) (vouched : Ask → List (List ℕ) → JwtToken → Type 0) (origin : Origin) (room faults faults_now ready_faults waits_now : ℕ) (around : Around) (listener listener_now : Option ListenerLog) (xs : List Under) (answers : IfSome listener (λ log. listener_now ≡ Some (with_kind log kind.Link))) (grown : OnlyAdds sockets sockets_now) (few : length xs < room) (told : Option LinkLog) (r s t : ℕ) (fresh : IsFresh told r s t) (came : CameOver sockets_now origin) where
  -- it is served
  pub keeps_came : (served : ServedState) → served ≡ record { session = fresh_session; unsent = [] }
      → KeepsTending tells vouched (seat_view room next faults ready_faults (seat_world sockets listener starved around)) (seat_view room (next + 1) faults_now waits_now (seat_world sockets_now listener_now starved around)) xs (xs ++ under next (finished_link origin told r s t) served ∷ []) step.On
  keeps_came served start = record { keeps = λ tell first on. going_comes vouched first origin room faults ready_faults waits_now faults_now starved around sockets sockets_now listener listener_now told r s t served xs grown came answers fresh start few on }

  -- memory ran out for it, and it is finished at once
  pub keeps_starved : {starved_now : ℕ} {sockets_then : Option (List BoundSocket)} (listener_then : Option ListenerLog) → RoseBy 1 starved starved_now → sockets_then ≡ sockets_now → Finishes listener_now listener_then (finished_link origin told r s t)
      → KeepsTending tells vouched (seat_view room next faults ready_faults (seat_world sockets listener starved around)) (seat_view room (next + 1) faults_now waits_now (seat_world sockets_then listener_then starved_now around)) xs xs step.On
  keeps_starved {starved_now} {sockets_then} listener_then rose sockets_still finishes = record { keeps = λ tell first on. going_starves vouched first origin room faults ready_faults waits_now faults_now starved starved_now around sockets sockets_now sockets_then listener listener_now listener_then told r s t xs grown sockets_still rose came answers finishes fresh on }

  -- it could not be watched, and is finished at once
  pub keeps_unwatched : {sockets_then : Option (List BoundSocket)} (listener_then : Option ListenerLog) (fault : EdgeFault) → sockets_then ≡ sockets_now → Finishes listener_now listener_then (finished_link origin told r s t)
      → KeepsTending tells vouched (seat_view room next faults ready_faults (seat_world sockets listener starved around)) (seat_view room (next + 1) faults_now waits_now (seat_world sockets_then listener_then starved around)) xs xs (step.Over (seat_end_of fault))
  keeps_unwatched {sockets_then} listener_then fault sockets_still finishes =
      record { keeps = λ tell first on. rest_fault vouched first fault (seat_view room (next + 1) faults_now waits_now (seat_world sockets_then listener_then starved around)) xs (rest_new vouched first origin room faults ready_faults waits_now faults_now starved around sockets sockets_now sockets_then listener listener_now listener_then told r s t xs grown sockets_still came answers finishes fresh few on) }

-- there is a place for one more
pub few_of : {A : Type 0} (f : A → Under) (links : Slab A) (n room : ℕ) → n ≡ slab_len links → n < room → length (links_of f links.slots) < room
few_of {A} f links n room is below =
    let same : n ≡ length (links_of f links.slots) = is ∙ sym (count_links f links.slots) in
    omega (arith, same, below)

-- a watcher was lent a link that is fresh
pub still_fresh : (told told_then : Option LinkLog) (r r2 s s2 t t2 : ℕ) → told_then ≡ told → r2 ≡ r → s2 ≡ s → t2 ≡ t → IsFresh told r s t → IsFresh told_then r2 s2 t2
still_fresh told told_then r r2 s s2 t t2 log receives sends stalls fresh =
    record {
      log = subst (λ (l : Option LinkLog). IfSome l (λ k. k ≡ record { gave = []; took = [] })) (sym log) fresh.log;
      receives = receives ∙ fresh.receives;
      sends = sends ∙ fresh.sends;
      smooth = stalls ∙ fresh.smooth;
    }

-- and keeps its origin
pub still_came : (sockets : Option (List BoundSocket)) (origin origin_then : Origin) → origin_then ≡ origin → CameOver sockets origin → CameOver sockets origin_then
still_came sockets origin origin_then kept came = subst (λ (o : Origin). CameOver sockets o) (sym kept) came

-- ---- the links that are left

module _ (vouched : Ask → List (List ℕ) → JwtToken → Type 0) where
  pub finishes_still : (w : SeatView) (xs : List Under) → FinishesTending vouched w w xs xs
  finishes_still w xs = record { keeps = λ first n last. last }

  pub finishes_then : (a b c : SeatView) (xs ys zs : List Under) → FinishesTending vouched a b xs ys → FinishesTending vouched b c ys zs → FinishesTending vouched a c xs zs
  finishes_then a b c xs ys zs one other = record { keeps = λ first n last. other.keeps first n (one.keeps first n last) }

  pub finishes_to : (a b : SeatView) (xs ys : List Under) → ys ≡ [] → FinishesTending vouched a b xs ys → FinishesTending vouched a b xs []
  finishes_to a b xs ys none keeps = subst (λ (l : List Under). FinishesTending vouched a b xs l) none keeps

  -- a link comes to stand between others
  pub finishes_moved : (w : SeatView) (u : Under) (front back front_then back_then : List Under) → front ++ back ≡ front_then ++ back_then → FinishesTending vouched w w (front ++ u ∷ back) (front_then ++ u ∷ back_then)
  finishes_moved w u front back front_then back_then same = record { keeps = λ first n last. last_moved vouched first w n u front back front_then back_then same last }

  -- the first one is finished
  pub finishes_one : {next starved : ℕ} {sockets sockets_now : Option (List BoundSocket)} (room listener_faults listens_now ready_faults faults_now : ℕ) (around : Around) (listener listener_now : Option ListenerLog) (u : Under) (xs : List Under) → sockets_now ≡ sockets → Finishes listener listener_now u.link
      → FinishesTending vouched (seat_view room next listener_faults ready_faults (seat_world sockets listener starved around)) (seat_view room next listens_now faults_now (seat_world sockets_now listener_now starved around)) (u ∷ xs) xs
  finishes_one {next} {starved} {sockets} {sockets_now} room listener_faults listens_now ready_faults faults_now around listener listener_now u xs sockets_kept finishes =
      record { keeps = λ first n last. last_more vouched first room listener_faults listens_now ready_faults faults_now starved n around sockets sockets_now listener listener_now u xs sockets_kept finishes last }

-- ---- from its start to its end

module _ (vouched : Ask → List (List ℕ) → JwtToken → Type 0) where
  -- no link was served
  pub tends_none : (room : ℕ) (world : SeatWorld) → Tends vouched room seat.Memory world world
  tends_none room world =
      let w = seat_view room 0 0 0 world in
      let last = last_by vouched world w [] seat.Memory (rest_on vouched world w [] (going_none vouched world w)) in
      last_tends vouched world w last.0 seat.Memory last.1 last.2 last.3

  pub tends_all : (tells : Type 0) (a b c : SeatView) (xs : List Under) (end : SeatEnd) → KeepsTending tells vouched a b [] xs (step.Over end) → FinishesTending vouched b c xs []
      → b.room ≡ a.room → c.room ≡ b.room → tells → Tends vouched a.room end a.world c.world
  tends_all tells a b c xs end keeps finishes room room_then tell =
      let last = last_by vouched a.world b xs end (keeps.keeps tell a.world (going_none vouched a.world a)) in
      let tended = last_tends vouched a.world c last.0 end (finishes.keeps a.world last.0 last.1) (subst (λ (n : ℕ). last.0 ≤ n) (sym room_then) last.2) last.3 in
      subst (λ (n : ℕ). Tends vouched n end a.world c.world) (room_then ∙ room) tended

-- what holds of the passes that were lent and given back
pub of_passes : (P : Passing → Passing → Type 0) (old new : Option Passing) (v w : Passing) → old ≡ Some v → new ≡ Some w → P v w → (p q : Passing) → old ≡ Some p → new ≡ Some q → P p q
of_passes P old new v w was is holds p q first last =
    let one : v ≡ p = cc (was, first) in
    let other : w ≡ q = cc (is, last) in
    subst (λ (x : Passing). P x q) one (subst (λ (x : Passing). P v x) other holds)
