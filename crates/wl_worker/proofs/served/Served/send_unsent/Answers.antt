use Rattle.std.proofs.Common.{◌≡◌, ℕ, ◌<◌, List, [], length, drop, Option, Some, None, ap, subst, arith, length-drop}
use Rattle.std.proofs.lemmas.List.{drop_all}
use Rattle.wl_edge.specs.Links.{LinkLog}
use Rattle.wl_session.specs.Sessions.{SessionState}
use Rattle.wl_worker.specs.declared.ended.Ended.{Ended}
use Rattle.wl_worker.specs.declared.ended.Ended.TheVariants as ended
use Rattle.wl_worker.specs.declared.ended.RoundEnd.{RoundEnd}
use Rattle.wl_worker.specs.declared.ended.RoundEnd.TheVariants as ends
use Rattle.wl_worker.specs.Served.{ServedState}
use Rattle.wl_worker.specs.Sending.{IsDue, Passes, SentTo, Settles}
use Rattle.wl_worker.proofs.served.Served.send_unsent.Goals.{in-Later, in-Failed, in-All+in-Some, in-All+in-None}
use Rattle.wl_worker.proofs.served.Served.send_unsent.Goals as goal

none_left : (sent : ℕ) (written : List ℕ) → sent ≡ length written → drop sent written ≡ []
none_left sent written all = drop_all sent written (omega (arith, all))

some_left : (sent : ℕ) (written : List ℕ) → sent < length written → drop sent written ≡ [] → ⊥
some_left sent written less none = absurd (omega (arith, less, ap length none, length-drop sent written))

due_end : (e : Ended) (s : SessionState) (left : List ℕ) → left ≡ [] → IsDue s (Some e) → SentTo s left (Some (ends.Ended e))
due_end ended.Closed s left none is = (none, is)
due_end (ended.Protocol f) s left none is = (none, is)
due_end ended.ReadFault s left none is = absurd is
due_end ended.WriteFault s left none is = absurd is
due_end ended.Memory s left none is = tt

settles : (s : SessionState) (unsent left : List ℕ) (old : ServedState) (k m : Option LinkLog) (end : Option RoundEnd) → record { session = s; unsent = unsent } ≡ old → Passes k m unsent left → SentTo s left end
    → Settles old (record { session = s; unsent = left }) k m end
settles s unsent left old k m end view passes sent_to =
    record {
      session = ap (λ (x : ServedState). x.session) view;
      passes = subst (λ (xs : List ℕ). Passes k m xs left) (ap (λ (x : ServedState). x.unsent) view) passes;
      end_is = sent_to;
    }

pub returns-clause-settles : goal.returns-clause-settles
returns-clause-settles g c =
    let self = c.self.inside in
    let old = c.args.self.now in
    let k = g.L.Link.told c.args.link.now in
    let m = g.L.Link.told c.flush_output-sent.new.link in
    let unsent = drop self.sent self.written in
    let sent = c.flush_output-sent.result.0 in
    let written = c.flush_output-sent.new.output in
    let left = drop sent written in
    let passes = c.flush_output-sent.ensures.passes in
    let done = none_left sent written in
    elim c.match-flushed.branch [
      | in-Later w ↦ rw w.result-is
          (settles self.session unsent left old k m (Some ends.Later) c.self.view_is passes (some_left sent written (c.flush_output-sent.ensures.left w.in-Later.is)))
      | in-Failed w ↦ rw w.result-is (settles self.session unsent left old k m (Some (ends.Ended ended.WriteFault)) c.self.view_is passes tt)
      | in-All+in-Some w ↦ rw w.result-is
          (settles self.session unsent left old k m (Some (ends.Ended w.in-Some.end)) c.self.view_is passes
          (due_end w.in-Some.end self.session left (done (c.flush_output-sent.ensures.all w.in-All.is)) w.in-Some.ensures))
      | in-All+in-None w ↦ rw w.result-is
          (settles self.session unsent left old k m None c.self.view_is passes (done (c.flush_output-sent.ensures.all w.in-All.is), w.in-None.ensures))
    ]
