-- From what was prepared and served to what stands of it at the end.
use Rattle.std.specs.Prelude.{◌≡◌, ⊤, Bool, true, false, if◌then◌else◌, ℕ, ◌+◌, ◌<◌, ◌≤◌, List, [], ◌∷◌, ◌++◌, length, map, take, drop, Option, Some, None, IsSome, IfSome, IsSomeAnd, Result, Ok, Err, IsOkAnd}
use Rattle.std.specs.List.{list_any, AllByRecursion, AllZip, range_with_len}
use Rattle.std.proofs.Common.{◌∙◌, arith, refl, sym, ap, subst, inl, inr, true≢false}
use Rattle.std.proofs.lemmas.List.{length-map, take_at}
use Rattle.std.proofs.lemmas.List.FromFn.{length-range_with_len}
use mathlib.Core.List.{IsPrefix}
use Rattle.wl_entry.specs.declared.asks.Ask.{Ask}
use Rattle.wl_entry.specs.declared.tokens.JwtToken.{JwtToken}
use Rattle.wl_edge.specs.Edge.{Rose}
use Rattle.wl_edge.specs.Upstreams.{UpstreamLog, PullGives, with_pull, one_more}
use Rattle.wl_document.specs.declared.fault.DocFault.{DocFault}
use Rattle.wl_document.specs.declared.fault.DocFault.TheVariants as fault
use Rattle.wl_document.specs.Checks.{Faults}
use Rattle.wl_document.specs.Documents.{document_state}
use Rattle.wl_worker.proofs.PublishedSteps.{fault_is_due}
use Rattle.wl_manager.specs.Managers.{Managed, first_managed}
use Rattle.wl_edge.specs.Listeners.{ListenerLog, BoundSocket, OnlyAdds, links_given}
use Rattle.wl_snapshot.specs.Snapshots.{Publication}
use Rattle.wl_publish.specs.Listings.{Passing}
use Rattle.wl_config.specs.declared.config.SocketFact.{SocketFact}
use Rattle.wl_config.specs.declared.fault.ConfigFault.{ConfigFault}
use Rattle.wl_config.specs.Configs.{Configuration, Within}
use Rattle.wl_config.specs.declared.limits.TheConstants.{MAX_ALL_CONNECTIONS}
use Rattle.wl_worker.specs.declared.seat.SeatEnd.{SeatEnd}
use Rattle.wl_worker.specs.Tended.{ListenedTo, FinishesAll}
use Rattle.wl_served.specs.Sent.{Tells}
use Rattle.wl_serve.specs.Views.{SeatView, PartsView, world_of}
use Rattle.wl_serve.specs.Seating.{IsOpen, IsIdle, SeesOn, ServedTo, ServedFrom, with_pass}
use Rattle.wl_dealing.specs.Dealt.{dealt, socket_of, room_of}
use Rattle.wl_serve.specs.Prepared.{IsSeat, AreSeats, IsPrepared, seat_count}
use Rattle.wl_serve.specs.Serving.{pull_of, first_of, unheard, has_fault, lacks_memory, end_of, ends, Sat, SatTells, SawFirst, HasTended, SeatRan, AllRan, WasPulled, Pulled, PulledOn, PulledFit, Ran, NoneRan, EndTells, ServeTells}
use Rattle.wl_worker.specs.Upkeep.{PulledAgain}
use Rattle.wl_serve.specs.declared.ending.ServeEnd.{ServeEnd}
use Rattle.wl_serve.specs.declared.ending.ServeEnd.TheVariants.{Config, Unprepared, NoDocument, Document, HostFault, Memory, Done}

-- ---- an end of all seats

abbrev FromSeats : ServeEnd → Type 0
FromSeats (Config e) = ⊥
FromSeats Unprepared = ⊥
FromSeats NoDocument = ⊥
FromSeats (Document e) = ⊥
FromSeats HostFault = ⊤
FromSeats Memory = ⊤
FromSeats Done = ⊤

from_seats : (fault lack : Bool) → FromSeats (if fault then HostFault else if lack then Memory else Done)
from_seats true lack = tt
from_seats false true = tt
from_seats false false = tt

is_from_seats : (es : List (Option SeatEnd)) → FromSeats (end_of es)
unfolding end_of
is_from_seats es = from_seats (list_any has_fault es) (list_any lacks_memory es)

-- one pull, and then more of them
pub pulled_then : (old mid new : Option UpstreamLog) (document : List ℕ) → Pulled old mid (Some document) → PulledAgain mid new → PulledOn old new document
pulled_then None mid new document one again = tt
pulled_then (Some log) mid new document one again = subst (λ (o : Option UpstreamLog). PulledAgain o new) one again

-- the document that one pull gave has this fault
pub refused_first : (old mid : Option UpstreamLog) (before now : ℕ) (into after read : List ℕ) → into ≡ [] → read ≡ after → PullGives old mid before now into after (Ok tt) → (e : DocFault) → Faults e (document_state None read) → (e ≡ fault.Memory → ⊥) → (document : List ℕ) × Pulled old mid (Some document) × (document_state None document ≡ Err e)
refused_first old mid before now into after read empty is gives e faults other =
    let same : read ≡ gives.0 = is ∙ gives.1 ∙ ap (λ (z : List ℕ). z ++ gives.0) empty in (
      gives.0,
      subst (λ (z : List ℕ). IfSome old (λ log. mid ≡ Some (with_pull log (record { into = z; answer = Some gives.0 })))) empty gives.3,
      subst (λ (z : List ℕ). document_state None z ≡ Err e) same (fault_is_due e (document_state None read) other faults),
    )

-- a count that rose later, rose
rose_later : (a b c : ℕ) → a ≤ b → Rose b c → Rose a c
rose_later a b c le (inl h) = inl (omega (arith, le, h))
rose_later a b c le (inr h) = inr h

-- what is within an answer
ok_of : {T E : Type 0} {Q : T → Type 0} (r : Result T E) → IsOkAnd r Q → (x : T) × (r ≡ Ok x) × Q x
ok_of (Ok x) h = (x, refl, h)
ok_of (Err e) h = absurd h

-- the document that one pull gave has no fault
pub taken_first : (old mid : Option UpstreamLog) (before now : ℕ) (into after read : List ℕ) → into ≡ [] → read ≡ after → PullGives old mid before now into after (Ok tt) → (managed : Managed) → IsOkAnd (document_state None read) (λ d. managed ≡ first_managed true d) → PulledFit old mid
taken_first old mid before now into after read empty is gives managed ok =
    let start = ok_of (document_state None read) ok in
    let same : read ≡ gives.0 = is ∙ gives.1 ∙ ap (λ (z : List ℕ). z ++ gives.0) empty in (
      gives.0,
      start.0,
      subst (λ (z : List ℕ). IfSome old (λ log. mid ≡ Some (with_pull log (record { into = z; answer = Some gives.0 })))) empty gives.3,
      subst (λ (z : List ℕ). document_state None z ≡ Ok start.0) same start.1,
    )

-- ---- what stands at the end

opened : (told : Option ListenerLog) → IfSome told (λ log. log ≡ record { kinds = []; finished = [] }) → IsOpen told
opened None unused = tt
opened (Some log) unused = let none : 0 ≤ 0 = omega arith in subst (λ (l : ListenerLog). length l.finished ≤ links_given l.kinds) (sym unused) none

saw_first : (first : Publication) (pass : Passing) → pass.seen ≡ first ∷ [] → (later : Option Passing) → SeesOn (Some pass) later → SawFirst first later
saw_first first pass is None sees = absurd sees
saw_first first pass is (Some later) sees = subst (λ seen. IsPrefix seen later.seen) is sees

-- what began with these sockets still does
began_at : (known : List BoundSocket) (before now : Option (List BoundSocket)) → OnlyAdds before now → IfSome before (λ sockets. sockets ≡ known) → IfSome now (λ sockets. IsPrefix known sockets)
began_at known None now grown are = subst (λ (s : Option (List BoundSocket)). IfSome s (λ sockets. IsPrefix known sockets)) (sym grown) tt
began_at known (Some first) (Some all) grown are = subst (λ (l : List BoundSocket). IsPrefix l all) are grown
began_at known (Some first) None grown are = absurd grown

listened_to : (u w : Option ListenerLog) (end : SeatEnd) → IsSome u → IfSome u (λ log. log ≡ unheard) → ListenedTo end u w → IsSomeAnd w (FinishesAll end unheard)
listened_to None w end some is to = absurd (true≢false (sym some))
listened_to (Some log) w end some is to = subst (λ (o : Option ListenerLog). IsSomeAnd o (FinishesAll end unheard)) (sym to.1) (subst (λ (l : ListenerLog). FinishesAll end l to.0) is to.2)

pulled_on : (u w : Option UpstreamLog) (document : List ℕ) → IsSome u → IfSome u (λ log. log ≡ record { calls = []; number = 0 }) → PulledOn u w document → IsSomeAnd w (WasPulled document)
pulled_on None w document some is on = absurd (true≢false (sym some))
pulled_on (Some log) w document some is on =
    subst (λ (o : Option UpstreamLog). IsSomeAnd o (WasPulled document)) (sym on.2)
    (record {
      later = on.0;
      calls = ap (λ (l : UpstreamLog). (l.calls ++ pull_of (Some document) ∷ []) ++ on.0) is;
      again = subst (λ (l : UpstreamLog). Rose (one_more l.number) on.1) is on.3;
    })

given_first : (u w : Option UpstreamLog) (document : List ℕ) → IsSome u → IfSome u (λ log. log ≡ record { calls = []; number = 0 }) → Pulled u w (Some document) → w ≡ Some (record { calls = pull_of (Some document) ∷ []; number = 1 })
given_first None w document some is pulled = absurd (true≢false (sym some))
given_first (Some log) w document some is pulled = pulled ∙ ap (λ (l : UpstreamLog). Some (record { calls = l.calls ++ pull_of (Some document) ∷ []; number = one_more l.number })) is

-- what each of so many seats has, whatever its number, all have
of_each : {A : Type 0} (R : ℕ → A → Type 0) (P : A → Type 0) → ((k : ℕ) (v : A) → R k v → P v) → (ks : List ℕ) (vs : List A) → AllZip R ks vs → AllByRecursion P vs
of_each R P has [] [] all = tt
of_each R P has [] (v ∷ vs) all = absurd all
of_each R P has (k ∷ ks) [] all = absurd all
of_each R P has (k ∷ ks) (v ∷ vs) all = (has k v all.0, of_each R P has ks vs all.1)

as_long : {A : Type 0} (R : ℕ → A → Type 0) (ks : List ℕ) (vs : List A) → AllZip R ks vs → length vs ≡ length ks
as_long R [] [] all = refl
as_long R [] (v ∷ vs) all = absurd all
as_long R (k ∷ ks) [] all = absurd all
as_long R (k ∷ ks) (v ∷ vs) all = let rest = as_long R ks vs all.1 in omega (arith, rest)

module _ (tells : Type 0) where
  none : (c : Configuration) (v w : PartsView) → IsPrepared tells c v → w.seats ≡ v.seats → NoneRan w
  none c v w prepared same =
      subst (AllByRecursion (λ (s : SeatView). s.end ≡ None)) (sym same)
      (of_each (λ k s. IsSeat tells (dealt (seat_count c) k c.sockets) s) (λ s. s.end ≡ None) (λ k s is. is.end) (range_with_len 0 (seat_count c)) v.seats prepared.seats)

  -- at least one seat, and no more than there are threads
  pub some_seats : {T : Type 0} (items : List T) (f : T → SeatView) (c : Configuration) → Within c → AreSeats tells (seat_count c) c.sockets (map f items) → (0 < length items) × (length items ≤ 64)
  some_seats items f c within are =
      let many = sym (length-map items f)
      ∙ as_long (λ k s. IsSeat tells (dealt (seat_count c) k c.sockets) s) (range_with_len 0 (seat_count c)) (map f items) are
      ∙ length-range_with_len 0 (seat_count c) in
      (omega (arith, many, within.some_sockets, within.some_threads), omega (arith, many, within.few_threads))

  pub idle_seats : (c : Configuration) (v : PartsView) → IsPrepared tells c v → AllByRecursion IsIdle v.seats
  idle_seats c v prepared =
      of_each (λ k s. IsSeat tells (dealt (seat_count c) k c.sockets) s) IsIdle (λ k s is. record { end = is.end; is_open = opened s.listener is.unused.listener })
      (range_with_len 0 (seat_count c)) v.seats prepared.seats

module _ (vouched : Ask → List (List ℕ) → JwtToken → Type 0) (links tells : Type 0) where
  tended_from : (first : Publication) (sockets : List (ℕ × SocketFact)) (v w : SeatView) (pass : Passing) → IsSeat tells sockets v → pass.seen ≡ first ∷ [] → pass.mine ≡ [] → (end : SeatEnd) → ServedTo vouched links (with_pass pass v) w end → HasTended vouched links tells first w end
  tended_from first sockets v w pass seat seen mine end served = record {
    unused = v;
    is_unused = seat.unused;
    told = seat.told;
    pass = pass;
    seen = seen;
    mine = mine;
    sent = λ l q is. subst (λ k. Tells vouched k end (world_of v pass) (world_of w q)) (sym served.room) (served.sent l pass q refl is);
  }

  ran_to : (first : Publication) (sockets : List (ℕ × SocketFact)) (v w : SeatView) (pass : Passing) → IsSeat tells sockets v → pass.seen ≡ first ∷ [] → pass.mine ≡ [] → (end : Option SeatEnd) → w.end ≡ end → IsSomeAnd end (ServedTo vouched links (with_pass pass v) w) → SeatRan vouched links tells first sockets w
  ran_to first sockets v w pass seat seen mine None at served = absurd served
  ran_to first sockets v w pass seat seen mine (Some end) at served = record {
    end = end;
    ended = at;
    sockets = began_at (map socket_of sockets) v.sockets w.sockets served.sockets seat.sockets;
    room = subst (λ n. room_of sockets ≤ n) (sym served.room) seat.room;
    at_most = subst (λ n. n ≤ MAX_ALL_CONNECTIONS) (sym served.room) seat.at_most;
    first = saw_first first pass seen w.pass served.sees;
    listened = λ t. listened_to v.listener w.listener end (seat.told t).listener seat.unused.listener served.finishes;
    tended = tended_from first sockets v w pass seat seen mine end served;
    listen = λ e. subst (λ k. Rose k w.listener_faults) seat.unused.listener_count (served.listen e);
    wait = λ e. subst (λ k. Rose k w.ready_faults) seat.unused.ready_count (served.wait e);
  }

  all_ran : (first : Publication) (n : ℕ) (sockets : List SocketFact) (ks : List ℕ) (vs ws : List SeatView) → AllZip (λ k v. IsSeat tells (dealt n k sockets) v) ks vs → AllZip (ServedFrom vouched links first) vs ws → AllZip (λ k w. SeatRan vouched links tells first (dealt n k sockets) w) ks ws
  all_ran first n sockets [] [] [] are served = tt
  all_ran first n sockets [] [] (w ∷ ws) are served = absurd served
  all_ran first n sockets [] (v ∷ vs) ws are served = absurd are
  all_ran first n sockets (k ∷ ks) [] ws are served = absurd are
  all_ran first n sockets (k ∷ ks) (v ∷ vs) [] are served = absurd served
  all_ran first n sockets (k ∷ ks) (v ∷ vs) (w ∷ ws) are served =
      (ran_to first (dealt n k sockets) v w served.0.pass are.0 served.0.seen served.0.mine w.end refl served.0.served, all_ran first n sockets ks vs ws are.1 served.1)

  ran : (c : Configuration) (v w : PartsView) → IsPrepared tells c v → Sat vouched links v.upstream w.upstream v.seats w.seats → Ran vouched links tells c w
  ran c v w prepared sat = record {
    document = sat.document;
    state = sat.state;
    is = sat.is;
    pulled = λ t. pulled_on v.upstream w.upstream sat.document (prepared.upstream_told t) prepared.upstream sat.pulled;
    seats = all_ran (first_of sat.state) (seat_count c) c.sockets (range_with_len 0 (seat_count c)) v.seats w.seats prepared.seats sat.seats;
  }

  -- what was served ends as it tells, on the parts that were prepared
  end_tells : (c : Configuration) (before mid now : ℕ) → before ≤ mid → (v w : PartsView) → IsPrepared tells c v → (e : ServeEnd) → SatTells vouched links mid now v.upstream w.upstream v.upstream_faults w.upstream_faults v.seats w.seats e → EndTells vouched links tells c before now (Some w) e
  end_tells c before mid now le v w prepared (Config e) sat = sat
  end_tells c before mid now le v w prepared Unprepared sat = (
    rose_later before mid now le sat.1,
    (none tells c v w prepared sat.0, (sat.2.0, sat.2.1, sat.2.3, λ t. given_first v.upstream w.upstream sat.2.0 (prepared.upstream_told t) prepared.upstream sat.2.2)),
  )
  end_tells c before mid now le v w prepared NoDocument sat = (none tells c v w prepared sat.0, subst (λ k. Rose k w.upstream_faults) prepared.upstream_faults sat.1)
  end_tells c before mid now le v w prepared (Document e) sat = (none tells c v w prepared sat.0, (sat.1.0, sat.1.2, λ t. given_first v.upstream w.upstream sat.1.0 (prepared.upstream_told t) prepared.upstream sat.1.1))
  end_tells c before mid now le v w prepared HostFault sat = (ran c v w prepared sat.0, sat.1)
  end_tells c before mid now le v w prepared Memory (inl same) = inl (none tells c v w prepared same)
  end_tells c before mid now le v w prepared Memory (inr sat) = inr (ran c v w prepared sat.0, sat.1)
  end_tells c before mid now le v w prepared Done sat = (ran c v w prepared sat.0, sat.1)

  -- the same, for the configuration that was read
  pub serve_tells : (r : Result Configuration ConfigFault) (c : Configuration) → r ≡ Ok c → (before mid now : ℕ) → before ≤ mid → (v w : PartsView) → IsPrepared tells c v → (e : ServeEnd) → SatTells vouched links mid now v.upstream w.upstream v.upstream_faults w.upstream_faults v.seats w.seats e → ServeTells vouched links tells r before now (Some w) e
  serve_tells r c read before mid now le v w prepared e sat = subst (λ (z : Result Configuration ConfigFault). ServeTells vouched links tells z before now (Some w) e) (sym read) (end_tells c before mid now le v w prepared e sat)

module _ (vouched : Ask → List (List ℕ) → JwtToken → Type 0) (links : Type 0) where
  -- a document was pulled and judged, and the seats were served from its publication on
  pub sat_from : (old mid new : Option UpstreamLog) (before now : ℕ) (into after read : List ℕ) → into ≡ [] → read ≡ after → PullGives old mid before now into after (Ok tt) → (managed : Managed) → IsOkAnd (document_state None read) (λ d. managed ≡ first_managed true d) → PulledAgain mid new → (vs ws : List SeatView) → AllZip (ServedFrom vouched links managed.stored.published) vs ws → Sat vouched links old new vs ws
  sat_from old mid new before now into after read empty is gives managed ok again vs ws served =
      let start = ok_of (document_state None read) ok in
      let same : read ≡ gives.0 = is ∙ gives.1 ∙ ap (λ (z : List ℕ). z ++ gives.0) empty in
      record {
        document = gives.0;
        state = start.0;
        is = subst (λ (z : List ℕ). document_state None z ≡ Ok start.0) same start.1;
        pulled = pulled_then old mid new gives.0 (subst (λ (z : List ℕ). IfSome old (λ log. mid ≡ Some (with_pull log (record { into = z; answer = Some gives.0 })))) empty gives.3) again;
        seats = subst (λ (m : Managed). AllZip (ServedFrom vouched links m.stored.published) vs ws) start.2 served;
      }

  -- all seats were served, so their ends decide
  pub sat_tells : (was is : ℕ) (old new : Option UpstreamLog) (faults now : ℕ) (before after : List SeatView) → Sat vouched links old new before after → (e : ServeEnd) → e ≡ end_of (ends after) → SatTells vouched links was is old new faults now before after e
  sat_tells was is old new faults now before after sat (Config f) at = absurd (subst FromSeats (sym at) (is_from_seats (ends after)))
  sat_tells was is old new faults now before after sat Unprepared at = absurd (subst FromSeats (sym at) (is_from_seats (ends after)))
  sat_tells was is old new faults now before after sat NoDocument at = absurd (subst FromSeats (sym at) (is_from_seats (ends after)))
  sat_tells was is old new faults now before after sat (Document f) at = absurd (subst FromSeats (sym at) (is_from_seats (ends after)))
  sat_tells was is old new faults now before after sat HostFault at = (sat, sym at)
  sat_tells was is old new faults now before after sat Memory at = inr (sat, sym at)
  sat_tells was is old new faults now before after sat Done at = (sat, sym at)

  -- the same, where the seats stand in a vector again
  pub sat_back : {T : Type 0} (xs ys zs : List T) (n : ℕ) (f : T → SeatView) (was is : ℕ) (old new : Option UpstreamLog) (faults now : ℕ) (e : ServeEnd) → zs ≡ xs → length ys ≡ length xs → n ≡ length xs → SatTells vouched links was is old new faults now (map f zs) (map f ys) e → SatTells vouched links was is old new faults now (map f xs) (map f (take n (ys ++ drop (length ys) xs))) e
  sat_back xs ys zs n f was is old new faults now e same long many sat =
      let back : take n (ys ++ drop (length ys) xs) ≡ ys = take_at ys (drop (length ys) xs) n (long ∙ sym many) in
      subst (λ l. SatTells vouched links was is old new faults now (map f xs) (map f l) e) (sym back) (subst (λ l. SatTells vouched links was is old new faults now (map f l) (map f ys) e) same sat)
