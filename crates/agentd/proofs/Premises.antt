-- How serving ends, where links always tell their content: the same with no premise.
use Rattle.std.specs.Prelude.{◌≡◌, ◌⊎◌, ⊤, ℕ, List, [], ◌∷◌, Option, Some, None, IfSome, IsSomeAnd, Result, Ok, Err}
use Rattle.std.specs.List.{AllZip, range_with_len}
use Rattle.std.proofs.Common.{inl, inr}
use Rattle.wl_entry.specs.declared.asks.Ask.{Ask}
use Rattle.wl_entry.specs.declared.tokens.JwtToken.{JwtToken}
use Rattle.wl_snapshot.specs.Snapshots.{Publication}
use Rattle.wl_config.specs.declared.config.SocketFact.{SocketFact}
use Rattle.wl_config.specs.declared.fault.ConfigFault.{ConfigFault}
use Rattle.wl_config.specs.Configs.{Configuration}
use Rattle.wl_worker.specs.declared.seat.SeatEnd.{SeatEnd}
use Rattle.wl_serve.specs.Views.{SeatView, PartsView}
use Rattle.wl_dealing.specs.Dealt.{dealt}
use Rattle.wl_serve.specs.Prepared.{seat_count}
use Rattle.wl_serve.specs.Serving.{HasTended, SeatRan, Ran, EndTells, ServeTells, first_of}
use Rattle.wl_serve.specs.declared.ending.ServeEnd.{ServeEnd}
use Rattle.wl_serve.specs.declared.ending.ServeEnd.TheVariants.{Config, Unprepared, NoDocument, Document, HostFault, Memory, Done}
use Rattle.wl_agent.specs.Ends.{Traffic}
use Rattle.wl_agent.specs.ServeEnds.{Hosting, CameTo, ServeExplains, ended, unread, unwritten, memory}

on_some : {A : Type 0} {P Q : A → Type 0} (o : Option A) → ((x : A) → P x → Q x) → IsSomeAnd o P → IsSomeAnd o Q
on_some (Some x) f p = f x p
on_some None f p = p

if_some : {A : Type 0} {P Q : A → Type 0} (o : Option A) → ((x : A) → P x → Q x) → IfSome o P → IfSome o Q
if_some (Some x) f p = f x p
if_some None f p = p

module _ (vouched : Ask → List (List ℕ) → JwtToken → Type 0) (links tells : Type 0) (always : links) where
  tended : (first : Publication) (v : SeatView) (end : SeatEnd) → HasTended vouched links tells first v end → HasTended vouched ⊤ tells first v end
  tended first v end h = record { unused = h.unused; is_unused = h.is_unused; told = h.told; pass = h.pass; seen = h.seen; mine = h.mine; sent = λ _. h.sent always }

  seat_ran : (first : Publication) (sockets : List (ℕ × SocketFact)) (v : SeatView) → SeatRan vouched links tells first sockets v → SeatRan vouched ⊤ tells first sockets v
  seat_ran first sockets v r = record { end = r.end; ended = r.ended; sockets = r.sockets; room = r.room; at_most = r.at_most; first = r.first; listened = r.listened; tended = tended first v r.end r.tended; listen = r.listen; wait = r.wait }

  all_ran : (first : Publication) (n : ℕ) (sockets : List SocketFact) (ks : List ℕ) (vs : List SeatView) → AllZip (λ k v. SeatRan vouched links tells first (dealt n k sockets) v) ks vs → AllZip (λ k v. SeatRan vouched ⊤ tells first (dealt n k sockets) v) ks vs
  all_ran first n sockets [] [] h = h
  all_ran first n sockets [] (v ∷ vs) h = h
  all_ran first n sockets (k ∷ ks) [] h = h
  all_ran first n sockets (k ∷ ks) (v ∷ vs) h = (seat_ran first (dealt n k sockets) v h.0, all_ran first n sockets ks vs h.1)

  ran : (c : Configuration) (p : PartsView) → Ran vouched links tells c p → Ran vouched ⊤ tells c p
  ran c p r = record { document = r.document; state = r.state; is = r.is; pulled = r.pulled; seats = all_ran (first_of r.state) (seat_count c) c.sockets (range_with_len 0 (seat_count c)) p.seats r.seats }

  or_ran : {N E : Type 0} (c : Configuration) (p : PartsView) → N ⊎ (Ran vouched links tells c p × E) → N ⊎ (Ran vouched ⊤ tells c p × E)
  or_ran {N} {E} c p (inl none) = inl none
  or_ran {N} {E} c p (inr it) = inr (ran c p it.0, it.1)

  end_tells : (c : Configuration) (before now : ℕ) (parts : Option PartsView) (end : ServeEnd) → EndTells vouched links tells c before now parts end → EndTells vouched ⊤ tells c before now parts end
  end_tells c before now parts (Config e) h = h
  end_tells c before now parts Unprepared h = h
  end_tells c before now parts NoDocument h = h
  end_tells c before now parts (Document e) h = h
  end_tells c before now parts HostFault h = on_some parts (λ p it. (ran c p it.0, it.1)) h
  end_tells c before now parts Memory h = if_some parts (λ p it. or_ran c p it) h
  end_tells c before now parts Done h = on_some parts (λ p it. (ran c p it.0, it.1)) h

  serve_tells : (r : Result Configuration ConfigFault) (before now : ℕ) (parts : Option PartsView) (end : ServeEnd) → ServeTells vouched links tells r before now parts end → ServeTells vouched ⊤ tells r before now parts end
  serve_tells (Ok c) before now parts end h = end_tells c before now parts end h
  serve_tells (Err fault) before now parts (Config e) h = h
  serve_tells (Err fault) before now parts Unprepared h = h
  serve_tells (Err fault) before now parts NoDocument h = h
  serve_tells (Err fault) before now parts (Document e) h = h
  serve_tells (Err fault) before now parts HostFault h = h
  serve_tells (Err fault) before now parts Memory h = h
  serve_tells (Err fault) before now parts Done h = h

  came_to : (t : Traffic) (h : Hosting) (end : ServeEnd) → CameTo vouched links tells t h end → CameTo vouched ⊤ tells t h end
  came_to t h end c = record { configuration = c.configuration; read = c.read; is = serve_tells _ h.before h.now h.parts end c.is }

  pub explains : (t : Traffic) (h : Hosting) (s : ℕ) → ServeExplains vouched links tells t h s → ServeExplains vouched ⊤ tells t h s
  explains t h _ (ended end came wrote) = ended end (came_to t h end came) wrote
  explains t h _ (unread rose same none) = unread rose same none
  explains t h _ (unwritten end came rose part) = unwritten end (came_to t h end came) rose part
  explains t h _ (memory same none) = memory same none
