-- Talks, one item after another.
use Rattle.std.proofs.Common.{◌≡◌, ℕ, List, [], ◌∷◌, ◌++◌, Option, Some, None, refl, ap, ◌∙◌, append_assoc}
use Rattle.std.proofs.lemmas.List.{append-nil}
use Rattle.list_laws.specs.Lists.{GainsFront}
use Rattle.list_laws.proofs.Fronts.{gains_before, gains_after}
use Rattle.wl_session.proofs.Common.{Frame, ConnFault, Happening, Phase, Open, Failed, OutOfMemory, State, frame_result, flush_of, Talking, Said, first_of, then_, silent, written, frame_said, frames_said, after_happening, after_happenings}
use Rattle.h2_conn.specs.Peer.{Outcome, goes, fails, peer}
use Rattle.h2_conn.specs.Conns.{result_of}
use Rattle.wl_session.specs.Talks.{greeting}

pub first_assoc : (f g h : Option ConnFault) → first_of f (first_of g h) ≡ first_of (first_of f g) h
first_assoc None g h = refl
first_assoc (Some f) g h = refl

pub first_none : (f : Option ConnFault) → first_of f None ≡ f
first_none None = refl
first_none (Some f) = refl

-- three talks, the first two or the last two first
pub then_assoc : (s : Said) (f g : Talking → Said) → then_ s (λ t. then_ (f t) g) ≡ then_ (then_ s f) g
then_assoc s f g = rw (first_assoc s.fault (f s.after).fault (g (f s.after).after).fault, append_assoc s.bytes (f s.after).bytes (g (f s.after).after).bytes) refl

-- a talk, and then nothing
pub then_silent : (s : Said) → then_ s silent ≡ s
then_silent s = rw (append-nil s.bytes, first_none s.fault) refl

-- frames in two parts
pub said_on : (fs gs : List Frame) (t : Talking) → frames_said (fs ++ gs) t ≡ then_ (frames_said fs t) (frames_said gs)
unfolding frames_said
said_on [] gs t = refl
said_on (f ∷ fs) gs t =
    ap (λ (r : Said). record { after = r.after; bytes = (frame_said f t).bytes ++ r.bytes; fault = first_of (frame_said f t).fault r.fault }) (said_on fs gs (frame_said f t).after)
    ∙ then_assoc (frame_said f t) (frames_said fs) (frames_said gs)

one_said : (f : Frame) (t : Talking) → frames_said (f ∷ []) t ≡ frame_said f t
unfolding frames_said
one_said f t = then_silent (frame_said f t)

-- one frame more at the end
pub said_more : (fs : List Frame) (f : Frame) (t : Talking) → frames_said (fs ++ f ∷ []) t ≡ then_ (frames_said fs t) (frame_said f)
said_more fs f t = said_on fs (f ∷ []) t ∙ ap (λ (r : Said). record { after = r.after; bytes = (frames_said fs t).bytes ++ r.bytes; fault = first_of (frames_said fs t).fault r.fault }) (one_said f (frames_said fs t).after)

first_bytes : (f : Frame) (fs : List Frame) (t : Talking) → (frames_said (f ∷ fs) t).bytes ≡ (frame_said f t).bytes ++ (frames_said fs (frame_said f t).after).bytes
unfolding frames_said
first_bytes f fs t = refl

-- part of what a frame is due to write, after what those before it wrote, is part of what all are due to write
pub part_said : (fs : List Frame) (f : Frame) (rest : List Frame) (t : Talking) (old mid new : List ℕ) → mid ≡ old ++ (frames_said fs t).bytes → GainsFront (frame_said f (frames_said fs t).after).bytes mid new → GainsFront (frames_said (fs ++ f ∷ rest) t).bytes old new
part_said fs f rest t old mid new came gained =
    let u = (frames_said fs t).after in
    rw (ap (λ s. s.bytes) (said_on fs (f ∷ rest) t), first_bytes f rest u)
    (gains_after (frames_said fs t).bytes ((frame_said f u).bytes ++ (frames_said rest (frame_said f u).after).bytes) old mid new came (gains_before (frame_said f u).bytes (frames_said rest (frame_said f u).after).bytes mid new gained))

-- one happening more at the end
pub happened_more : (hs : List Happening) (h : Happening) (t : Talking) → after_happenings (hs ++ h ∷ []) t ≡ after_happening h (after_happenings hs t)
happened_more [] h t = refl
happened_more (g ∷ hs) h t = happened_more hs h (after_happening g t)

outcome_tells_nothing : (q : State) (o : Outcome) (f : ConnFault) → (result_of q o).fault ≡ Some f → (result_of q o).told ≡ []
outcome_tells_nothing q (goes next told) f is = absurd (cc is)
outcome_tells_nothing q (fails control g) f is = refl

-- a frame with which the connection fails tells nothing
pub faults_tell_nothing : (p : Phase) (frame : Frame) (f : ConnFault) → (frame_result p frame).fault ≡ Some f → (frame_result p frame).told ≡ []
unfolding frame_result
faults_tell_nothing (Open q) frame f is = outcome_tells_nothing q (peer q frame) f is
faults_tell_nothing (Failed g left totals) frame f is = refl
faults_tell_nothing (OutOfMemory totals) frame f is = refl

pub written_fault : (fault : Option ConnFault) (t : Talking) → (written fault t).fault ≡ fault
unfolding written
written_fault fault t = refl

-- part of the greeting is part of what is due
pub greet_front : (fault : Option ConnFault) (t : Talking) (old new : List ℕ) → GainsFront (greeting t.greeted) old new → GainsFront (written fault t).bytes old new
unfolding written
greet_front fault t old new gained = gains_before (greeting t.greeted) (flush_of t.phase).bytes old new gained

-- part of what may be written, after the greeting, is part of what is due
pub flush_front : (fault : Option ConnFault) (t : Talking) (old mid new : List ℕ) → mid ≡ old ++ greeting t.greeted → GainsFront (flush_of t.phase).bytes mid new → GainsFront (written fault t).bytes old new
unfolding written
flush_front fault t old mid new came gained = gains_after (greeting t.greeted) (flush_of t.phase).bytes old mid new came gained
