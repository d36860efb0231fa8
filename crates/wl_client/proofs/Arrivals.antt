-- Bytes that come: frames, and then the fault of what is none.
use Rattle.std.proofs.Common.{◌≡◌, ℕ, List, ◌++◌, Option, Some, None, Result, Ok, Err, refl, sym, ap, subst, ◌∙◌}
use Rattle.list_laws.specs.Lists.{GainsFront}
use Rattle.h2_frame.specs.declared.fault.FrameFault.{FrameFault}
use Rattle.h2_frame.specs.declared.frame.Frame.{Frame}
use Rattle.h2_frame.specs.Reading.{End, Opening, Rest, Fault, Reading, reading_from}
use Rattle.wl_client.specs.declared.fault.ClientFault.{ClientFault}
use Rattle.wl_client.specs.declared.fault.ClientFault.TheVariants as faults
use Rattle.wl_client.specs.declared.reply.Heard.{Heard}
use Rattle.wl_client.specs.declared.listener.Listener.{Listener}
use Rattle.wl_client.specs.Hearing.{frames_heard, Says}
use Rattle.wl_client.specs.Clients.{ClientState, Listening, Failed, Reply, state_of, state_after, heard_in, heard_from, state_by, frame_fault_in, Arrives, Feeds}
use Rattle.wl_client.proofs.Hearings.{refuses_map}

-- a frame has a fault
pub arrives_err : (r : Reading) (first l : Listener) (fs : List Frame) (fault : ClientFault) (old new : List Heard) (was now : List ℕ) (ending : End) → fs ≡ r.frames
    → Says (frames_heard fs first) (Err fault) old new was now l → Arrives (heard_in r first) (Err fault) old new was now ending l
unfolding heard_in
arrives_err r first l fs fault old new was now ending same said =
    refuses_map fault _ _ (λ (due : (new ≡ old ++ (frames_heard r.frames first).told) × (now ≡ was ++ (frames_heard r.frames first).bytes) × ((frames_heard r.frames first).after ≡ Err fault)).
    (due.0, due.1, ap (λ (x : Result Listener ClientFault). state_after x r.ending) due.2)) (rw same at said)

goes_on : (ending : End) (l : Listener) → frame_fault_in ending ≡ None → state_of ending l ≡ Listening ending l
goes_on (Opening left) l none = refl
goes_on (Rest rest) l none = refl
goes_on (Fault why) l none = absurd (cc none)

stops : (ending : End) (l : Listener) (why : FrameFault) → frame_fault_in ending ≡ Some why → state_of ending l ≡ Failed (faults.Frame why)
stops (Opening left) l why some = absurd (cc some)
stops (Rest rest) l why some = absurd (cc some)
stops (Fault other) l why some = let same : other ≡ why = cc some in ap (λ (x : FrameFault). Failed (faults.Frame x)) same

-- all bytes are frames
pub arrives_none : (r : Reading) (first l : Listener) (fs : List Frame) (old new : List Heard) (was now : List ℕ) (ending : End) → fs ≡ r.frames → ending ≡ r.ending → frame_fault_in r.ending ≡ None
    → Says (frames_heard fs first) (Ok tt) old new was now l → Arrives (heard_in r first) (Ok tt) old new was now ending l
unfolding heard_in
arrives_none r first l fs old new was now ending same here none said =
    let due = rw same at said in
    (due.0, due.1, ap (λ (x : Result Listener ClientFault). state_after x r.ending) due.2 ∙ goes_on r.ending l none ∙ ap (λ (e : End). Listening e l) (sym here))

-- bytes after the frames are none
pub arrives_some : (r : Reading) (first l : Listener) (fs : List Frame) (why : FrameFault) (old new : List Heard) (was now : List ℕ) (ending : End) → fs ≡ r.frames → frame_fault_in r.ending ≡ Some why
    → Says (frames_heard fs first) (Ok tt) old new was now l → Arrives (heard_in r first) (Err (faults.Frame why)) old new was now ending l
unfolding heard_in
arrives_some r first l fs why old new was now ending same some said =
    let due = rw same at said in
    (due.0, due.1, ap (λ (x : Result Listener ClientFault). state_after x r.ending) due.2 ∙ stops r.ending l why some)

pub told_in : (r : Reading) (l : Listener) (fs : List Frame) (old new : List Heard) → fs ≡ r.frames → GainsFront (frames_heard fs l).told old new → GainsFront (heard_in r l).told old new
unfolding heard_in
told_in r l fs old new same gained = rw same at gained

pub bytes_in : (r : Reading) (l : Listener) (fs : List Frame) (was now : List ℕ) → fs ≡ r.frames → GainsFront (frames_heard fs l).bytes was now → GainsFront (heard_in r l).bytes was now
unfolding heard_in
bytes_in r l fs was now same gained = rw same at gained

-- ---- the client that they come to

pub feeds_ok : (due : Reply) (old new : List Heard) (was now : List ℕ) (ending : End) (l : Listener) → Arrives due (Ok tt) old new was now ending l → Feeds due (Ok tt) old new was now (Listening ending l)
feeds_ok due old new was now ending l came = (came.0, came.1, sym came.2, tt)

pub feeds_err : (due : Reply) (fault : ClientFault) (old new : List Heard) (was now : List ℕ) (ending : End) (l : Listener) → Arrives due (Err fault) old new was now ending l → Feeds due (Err fault) old new was now (Failed fault)
feeds_err due fault old new was now ending l came = (refl, came)

pub feeds_here : (s : ClientState) (failed : Option ClientFault) (first ending : End) (k l : Listener) (piece : List ℕ) (old new : List Heard) (was now : List ℕ) → Listening first k ≡ s → failed ≡ None
    → Arrives (heard_in (reading_from first piece) k) (Ok tt) old new was now ending l → Feeds (heard_from s piece) (Ok tt) old new was now (state_by failed ending l)
unfolding heard_from
feeds_here s failed first ending k l piece old new was now is none came =
    rw none (subst (λ (t : ClientState). Feeds (heard_from t piece) (Ok tt) old new was now (Listening ending l)) is (feeds_ok (heard_in (reading_from first piece) k) old new was now ending l came))

pub feeds_fault : (s : ClientState) (fault : ClientFault) (first ending : End) (k l : Listener) (piece : List ℕ) (old new : List Heard) (was now : List ℕ) → Listening first k ≡ s
    → Arrives (heard_in (reading_from first piece) k) (Err fault) old new was now ending l → Feeds (heard_from s piece) (Err fault) old new was now (Failed fault)
unfolding heard_from
feeds_fault s fault first ending k l piece old new was now is came =
    subst (λ (t : ClientState). Feeds (heard_from t piece) (Err fault) old new was now (Failed fault)) is (feeds_err (heard_in (reading_from first piece) k) fault old new was now ending l came)
