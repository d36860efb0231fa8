-- Frames, one after another.
use Rattle.std.proofs.Common.{◌≡◌, ℕ, List, [], ◌∷◌, ◌++◌, Result, Ok, Err, refl, sym, ap, ◌∙◌, append_assoc}
use Rattle.std.proofs.lemmas.List.{append-nil}
use Rattle.list_laws.specs.Lists.{BeginsWith, GainsFront}
use Rattle.list_laws.proofs.Fronts.{gains_before, gains_after}
use Rattle.h2_frame.specs.declared.frame.Frame.{Frame}
use Rattle.wl_client.specs.declared.fault.ClientFault.{ClientFault}
use Rattle.wl_client.specs.declared.fault.ClientFault.TheVariants as faults
use Rattle.wl_client.specs.declared.reply.Heard.{Heard}
use Rattle.wl_client.specs.declared.listener.Listener.{Listener}
use Rattle.wl_client.specs.Faults.{Refuses}
use Rattle.wl_client.specs.Hearing.{Hearing, silent, after_hearing, then_, frame_heard, frames_heard, Says}

-- ---- out of memory or what is due

pub refuses_map : (fault : ClientFault) (P Q : Type 0) → (P → Q) → Refuses fault P → Refuses fault Q
refuses_map faults.Memory P Q f p = tt
refuses_map (faults.Frame x) P Q f p = f p
refuses_map (faults.Header x) P Q f p = f p
refuses_map (faults.Order x) P Q f p = f p
refuses_map (faults.HttpStatus x) P Q f p = f p
refuses_map faults.NoStatus P Q f p = f p
refuses_map (faults.Message x) P Q f p = f p
refuses_map (faults.Undecodable x) P Q f p = f p
refuses_map (faults.Cut x) P Q f p = f p
refuses_map faults.TooMuch P Q f p = f p
refuses_map faults.Idle P Q f p = f p
refuses_map (faults.Reset x) P Q f p = f p
refuses_map (faults.GoAway x) P Q f p = f p
refuses_map faults.TooMany P Q f p = f p

pub refuses : (fault : ClientFault) (P : Type 0) → P → Refuses fault P
refuses faults.Memory P p = tt
refuses (faults.Frame x) P p = p
refuses (faults.Header x) P p = p
refuses (faults.Order x) P p = p
refuses (faults.HttpStatus x) P p = p
refuses faults.NoStatus P p = p
refuses (faults.Message x) P p = p
refuses (faults.Undecodable x) P p = p
refuses (faults.Cut x) P p = p
refuses faults.TooMuch P p = p
refuses faults.Idle P p = p
refuses (faults.Reset x) P p = p
refuses (faults.GoAway x) P p = p
refuses faults.TooMany P p = p

-- ---- two after one another

pub then_ok : (h : Hearing) (l : Listener) (go : Listener → Hearing) → h.after ≡ Ok l → then_ h go ≡ record { told = h.told ++ (go l).told; bytes = h.bytes ++ (go l).bytes; after = (go l).after }
then_ok h l go is = rw is refl

err_stays : (told : List Heard) (bytes : List ℕ) (r : Result Listener ClientFault) (fault : ClientFault) (go : Listener → Hearing) → r ≡ Err fault → after_hearing told bytes r go ≡ record { told = told; bytes = bytes; after = r }
err_stays told bytes (Ok l) fault go is = absurd (cc is)
err_stays told bytes (Err other) fault go is = refl

pub then_err : (h : Hearing) (fault : ClientFault) (go : Listener → Hearing) → h.after ≡ Err fault → then_ h go ≡ h
then_err h fault go is = err_stays h.told h.bytes h.after fault go is

after_silent : (told : List Heard) (bytes : List ℕ) (r : Result Listener ClientFault) → after_hearing told bytes r silent ≡ record { told = told; bytes = bytes; after = r }
after_silent told bytes (Ok l) = rw (append-nil told, append-nil bytes) refl
after_silent told bytes (Err fault) = refl

assoc_ok : (told t : List Heard) (bytes b : List ℕ) (r : Result Listener ClientFault) (g : Listener → Hearing)
    → (let h = after_hearing t b r g in record { told = told ++ h.told; bytes = bytes ++ h.bytes; after = h.after }) ≡ after_hearing (told ++ t) (bytes ++ b) r g
assoc_ok told t bytes b (Ok l) g = rw (append_assoc told t (g l).told, append_assoc bytes b (g l).bytes) refl
assoc_ok told t bytes b (Err fault) g = refl

then_assoc : (told : List Heard) (bytes : List ℕ) (r : Result Listener ClientFault) (f g : Listener → Hearing)
    → after_hearing told bytes r (λ l. then_ (f l) g) ≡ then_ (after_hearing told bytes r f) g
then_assoc told bytes (Ok l) f g = assoc_ok told (f l).told bytes (f l).bytes (f l).after g
then_assoc told bytes (Err fault) f g = refl

then_same : (told : List Heard) (bytes : List ℕ) (r : Result Listener ClientFault) (f g : Listener → Hearing) → ((l : Listener) → f l ≡ g l) → after_hearing told bytes r f ≡ after_hearing told bytes r g
then_same told bytes (Ok l) f g same = rw (same l) refl
then_same told bytes (Err fault) f g same = refl

-- frames in two parts
pub heard_two : (fs gs : List Frame) (l : Listener) → frames_heard (fs ++ gs) l ≡ then_ (frames_heard fs l) (frames_heard gs)
unfolding frames_heard
heard_two [] gs l = refl
heard_two (f ∷ fs) gs l =
    let h = frame_heard f l in
    then_same h.told h.bytes h.after (frames_heard (fs ++ gs)) (λ k. then_ (frames_heard fs k) (frames_heard gs)) (heard_two fs gs)
    ∙ then_assoc h.told h.bytes h.after (frames_heard fs) (frames_heard gs)

pub heard_first : (f : Frame) (fs : List Frame) (l : Listener) → frames_heard (f ∷ fs) l ≡ then_ (frame_heard f l) (frames_heard fs)
unfolding frames_heard
heard_first f fs l = refl

pub heard_none : (l : Listener) → frames_heard [] l ≡ silent l
unfolding frames_heard
heard_none l = refl

heard_one : (f : Frame) (l : Listener) → frames_heard (f ∷ []) l ≡ frame_heard f l
heard_one f l =
    let h = frame_heard f l in
    heard_first f [] l ∙ then_same h.told h.bytes h.after (frames_heard []) silent heard_none ∙ after_silent h.told h.bytes h.after

-- ---- a loop over frames

-- what came of some frames
pub record Came (fs : List Frame) (first l : Listener) (old new : List Heard) (was now : List ℕ) : Type 0 where
  pub after : (frames_heard fs first).after ≡ Ok l
  pub told : new ≡ old ++ (frames_heard fs first).told
  pub bytes : now ≡ was ++ (frames_heard fs first).bytes

pub came_none : (l : Listener) (old : List Heard) (was : List ℕ) → Came [] l l old old was was
came_none l old was = record {
  after = ap (λ h. h.after) (heard_none l);
  told = sym (ap (λ h. old ++ h.told) (heard_none l) ∙ append-nil old);
  bytes = sym (ap (λ h. was ++ h.bytes) (heard_none l) ∙ append-nil was);
}

-- after frames that came well, a frame and those after it
behind : (fs gs : List Frame) (first l : Listener) (old new : List Heard) (was now : List ℕ) → Came fs first l old new was now
    → frames_heard (fs ++ gs) first ≡ record { told = (frames_heard fs first).told ++ (frames_heard gs l).told; bytes = (frames_heard fs first).bytes ++ (frames_heard gs l).bytes; after = (frames_heard gs l).after }
behind fs gs first l old new was now came = heard_two fs gs first ∙ then_ok (frames_heard fs first) l (frames_heard gs) came.after

joined : {A : Type 0} (old mid new part more : List A) → mid ≡ old ++ part → new ≡ mid ++ more → new ≡ old ++ (part ++ more)
joined old mid new part more h k = k ∙ ap (λ xs. xs ++ more) h ∙ append_assoc old part more

pub came_more : (fs : List Frame) (f : Frame) (first l k : Listener) (old mid new : List Heard) (was then now : List ℕ) → Came fs first l old mid was then
    → Says (frame_heard f l) (Ok tt) mid new then now k → Came (fs ++ f ∷ []) first k old new was now
came_more fs f first l k old mid new was then now came said =
    let same = behind fs (f ∷ []) first l old mid was then came in
    let one = heard_one f l in
    record {
      after = ap (λ h. h.after) same ∙ (ap (λ h. h.after) one ∙ said.2);
      told = joined old mid new _ _ came.told said.0 ∙ sym (ap (λ h. old ++ h.told) same ∙ ap (λ h. old ++ ((frames_heard fs first).told ++ h.told)) one);
      bytes = joined was then now _ _ came.bytes said.1 ∙ sym (ap (λ h. was ++ h.bytes) same ∙ ap (λ h. was ++ ((frames_heard fs first).bytes ++ h.bytes)) one);
    }

-- a frame with a fault ends what is heard
pub came_fault : (fs gs : List Frame) (f : Frame) (first l k : Listener) (old mid new : List Heard) (was then now : List ℕ) (fault : ClientFault) → Came fs first l old mid was then
    → Says (frame_heard f l) (Err fault) mid new then now k → Says (frames_heard (fs ++ f ∷ gs) first) (Err fault) old new was now k
came_fault fs gs f first l k old mid new was then now fault came said =
    refuses_map fault _ _ (λ (due : (new ≡ mid ++ (frame_heard f l).told) × (now ≡ then ++ (frame_heard f l).bytes) × ((frame_heard f l).after ≡ Err fault)).
    let same = behind fs (f ∷ gs) first l old mid was then came in
    let one = heard_first f gs l ∙ then_err (frame_heard f l) fault (frames_heard gs) due.2 in (
      joined old mid new _ _ came.told due.0 ∙ sym (ap (λ h. old ++ h.told) same ∙ ap (λ h. old ++ ((frames_heard fs first).told ++ h.told)) one),
      joined was then now _ _ came.bytes due.1 ∙ sym (ap (λ h. was ++ h.bytes) same ∙ ap (λ h. was ++ ((frames_heard fs first).bytes ++ h.bytes)) one),
      ap (λ h. h.after) same ∙ (ap (λ h. h.after) one ∙ due.2),
    )) said

-- ---- fronts

told_begins : (told : List Heard) (bytes : List ℕ) (r : Result Listener ClientFault) (go : Listener → Hearing) → BeginsWith (after_hearing told bytes r go).told told
told_begins told bytes (Ok l) go = ((go l).told, refl)
told_begins told bytes (Err fault) go = ([], sym (append-nil told))

bytes_begin : (told : List Heard) (bytes : List ℕ) (r : Result Listener ClientFault) (go : Listener → Hearing) → BeginsWith (after_hearing told bytes r go).bytes bytes
bytes_begin told bytes (Ok l) go = ((go l).bytes, refl)
bytes_begin told bytes (Err fault) go = ([], sym (append-nil bytes))

gains_begun : {A : Type 0} (due whole old new : List A) → BeginsWith whole due → GainsFront due old new → GainsFront whole old new
gains_begun due whole old new begins gained = rw begins.1 (gains_before due begins.0 old new gained)

pub told_front : (fs gs : List Frame) (f : Frame) (first l : Listener) (old mid new : List Heard) (was then : List ℕ) → Came fs first l old mid was then
    → GainsFront (frame_heard f l).told mid new → GainsFront (frames_heard (fs ++ f ∷ gs) first).told old new
told_front fs gs f first l old mid new was then came gained =
    let h = frame_heard f l in
    rw (behind fs (f ∷ gs) first l old mid was then came, heard_first f gs l)
    (gains_after (frames_heard fs first).told _ old mid new came.told (gains_begun h.told _ mid new (told_begins h.told h.bytes h.after (frames_heard gs)) gained))

pub bytes_front : (fs gs : List Frame) (f : Frame) (first l : Listener) (old mid : List Heard) (was then now : List ℕ) → Came fs first l old mid was then
    → GainsFront (frame_heard f l).bytes then now → GainsFront (frames_heard (fs ++ f ∷ gs) first).bytes was now
bytes_front fs gs f first l old mid was then now came gained =
    let h = frame_heard f l in
    rw (behind fs (f ∷ gs) first l old mid was then came, heard_first f gs l)
    (gains_after (frames_heard fs first).bytes _ was then now came.bytes (gains_begun h.bytes _ then now (bytes_begin h.told h.bytes h.after (frames_heard gs)) gained))
