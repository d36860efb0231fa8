-- DATA without padding that comes in several pieces.
use Rattle.std.proofs.Common.{◌≡◌, ℕ, ◌+◌, ◌-◌, ◌<◌, ◌≤◌, false, List, [], ◌∷◌, ◌++◌, length, take, drop, Result, Ok, Err, refl, sym, ◌∙◌, arith, lt-ltb, le-ltb, length-append, append-nil, OnOk, OnErr}
use Rattle.std.proofs.lemmas.List.{take_all, drop_all, drop_at}
use Rattle.list_laws.specs.Lists.{GainsFront}
use Rattle.list_laws.proofs.Fronts.{gains_nothing, gains_all}
use Rattle.h2_wire.specs.declared.flag.TheConstants as flag
use Rattle.h2_frame.specs.declared.fault.FrameFault.{FrameFault}
use Rattle.h2_frame.specs.declared.frame.Body.TheVariants.{Bytes}
use Rattle.h2_frame.specs.declared.frame.Frame.{Frame}
use Rattle.h2_frame.specs.declared.head.Head.{Head}
use Rattle.h2_frame.specs.Heads.{head_of, has_flag, front_of, is_wrong_length}
use Rattle.h2_frame.specs.Payloads.{content_of, body_of}
use Rattle.h2_frame.specs.Parsing.{IsDataHead, data_frame_of}
use Rattle.h2_frame.specs.Reading.{partial, whole, first_frame, step_after_head, frames_in, frames_of, Rest}
use Rattle.h2_frame.proofs.Fronts.{head_more, first_whole}
use Rattle.h2_frame.proofs.Cuts.{frames_step, frames_end}

front_none : (h : Head) → h.kind ≡ 0 → has_flag h.flags flag.PADDED ≡ false → front_of h ≡ 0
unfolding front_of
front_none h kind plain = rw (kind, plain) refl

right_length : (h : Head) → h.kind ≡ 0 → has_flag h.flags flag.PADDED ≡ false → is_wrong_length h ≡ false
unfolding is_wrong_length
right_length h kind plain = rw (front_none h kind plain, kind) (le-ltb h.length 0 (omega arith))

body_data : (h : Head) (payload : List ℕ) → h.kind ≡ 0 → has_flag h.flags flag.PADDED ≡ false → body_of h payload ≡ Ok (Bytes payload h.length (has_flag h.flags flag.END_STREAM))
unfolding body_of content_of
body_data h payload kind plain = rw (front_none h kind plain, kind, plain, le-ltb (length payload) 0 (omega arith), take_all (length payload - 0) payload (omega arith)) refl

behind_head : (front payload : List ℕ) → length front ≡ 9 → drop 9 (front ++ payload) ≡ payload
behind_head front payload nine = drop_at front payload 9 nine

head_first : (front payload : List ℕ) (h : Head) → IsDataHead front h → h ≡ head_of (front ++ payload)
head_first front payload h is = is.1 ∙ sym (head_more front payload (omega (arith, is.0)))

first_partial : (front payload : List ℕ) (h : Head) → IsDataHead front h → length payload < h.length → first_frame (front ++ payload) ≡ partial
unfolding first_frame step_after_head
first_partial front payload h is few =
    let long : 9 ≤ length (front ++ payload) = simp length-append (omega (arith, is.0)) in
    rw (le-ltb (length (front ++ payload)) 9 long, ← head_first front payload h is, behind_head front payload is.0, le-ltb 16384 h.length is.4, right_length h is.2 is.3, lt-ltb (length payload) h.length few) refl

first_data : (front payload : List ℕ) (h : Head) → IsDataHead front h → length payload ≡ h.length → first_frame (front ++ payload) ≡ whole (data_frame_of h payload) []
first_data front payload h is full =
    let long : 9 ≤ length (front ++ payload) = simp length-append (omega (arith, is.0)) in
    let all : take h.length payload ≡ payload = take_all h.length payload (omega (arith, full)) in
    let said : body_of h (take h.length payload) ≡ Ok (Bytes payload h.length (has_flag h.flags flag.END_STREAM)) = rw all (body_data h payload is.2 is.3) in
    let found = first_whole (front ++ payload) payload h _ long (head_first front payload h is) (sym (behind_head front payload is.0)) is.4 (right_length h is.2 is.3) (omega (arith, full)) said in
    let none : drop (9 + h.length) (front ++ payload) ≡ [] = drop_all (9 + h.length) (front ++ payload) (simp length-append (omega (arith, is.0, full))) in
    rw none at found

-- some of its payload has come
pub data_partial : (front payload : List ℕ) (h : Head) → IsDataHead front h → length payload < h.length → frames_of (front ++ payload) ≡ record { frames = []; ending = Rest (front ++ payload) }
data_partial front payload h is few = frames_end (front ++ payload) (first_partial front payload h is few)

-- all of it has come
pub data_whole : (front payload : List ℕ) (h : Head) → IsDataHead front h → length payload ≡ h.length → frames_of (front ++ payload) ≡ record { frames = data_frame_of h payload ∷ []; ending = Rest [] }
unfolding frames_of frames_in
data_whole front payload h is full = rw (frames_step (front ++ payload), first_data front payload h is full) refl

-- ---- what the code makes of it

pub data_waits : (old : List Frame) (pending front payload : List ℕ) (h : Head) → IsDataHead front h → length payload < h.length → pending ≡ front ++ payload → (old ≡ old ++ (frames_of pending).frames) × ((frames_of pending).ending ≡ Rest pending)
data_waits old pending front payload h is few same = rw (same, data_partial front payload h is few) (sym (append-nil old), refl)

pub data_put : {T : Type 0} (r : Result T FrameFault) (old new : List Frame) (pending front payload kept : List ℕ) (h : Head) (frame : Frame) → IsDataHead front h → length payload ≡ h.length → pending ≡ front ++ payload → frame ≡ data_frame_of h payload → kept ≡ [] → OnOk r (new ≡ old ++ frame ∷ []) → OnOk r ((new ≡ old ++ (frames_of pending).frames) × ((frames_of pending).ending ≡ Rest kept))
data_put (Ok x) old new pending front payload kept h frame is full same framed none put = rw (same, data_whole front payload h is full, none, ← framed) (put, refl)
data_put (Err fault) old new pending front payload kept h frame is full same framed none put = tt

pub data_gained : {T : Type 0} (r : Result T FrameFault) (old new : List Frame) (pending front payload : List ℕ) (h : Head) (frame : Frame) → IsDataHead front h → length payload ≡ h.length → pending ≡ front ++ payload → frame ≡ data_frame_of h payload → OnOk r (new ≡ old ++ frame ∷ []) → OnErr r (new ≡ old) → GainsFront (frames_of pending).frames old new
data_gained (Ok x) old new pending front payload h frame is full same framed put stays = rw (same, data_whole front payload h is full, ← framed) (gains_all (frame ∷ []) old new put)
data_gained (Err fault) old new pending front payload h frame is full same framed put stays = gains_nothing _ old new stays
