-- Bytes that are fed: frames, and then the fault of what is none.
use Rattle.std.proofs.Common.{◌≡◌, ℕ, List, ◌++◌, Option, Some, None, refl, ap, sym, subst, append_assoc, ◌∙◌}
use Rattle.std.specs.List.{AllByRecursion}
use Rattle.list_laws.specs.Lists.{GainsFront}
use Rattle.list_laws.proofs.Fronts.{gains_before, gains_after}
use Rattle.wl_session.proofs.Common.{FrameFault, Frame, End, Opening, Rest, Fault, Reading, reading_from, Talking, Said, then_, frames_said, break_said, ended_by, feed_said}
use Rattle.h2_frame.specs.Reading.{IsOpen}
use Rattle.h2_conn.specs.Kinds.{Fits}
use Rattle.h2_conn.proofs.FrameDemands.{frames_fit}
use Rattle.wl_session.specs.Sessions.{fault_in}

pub open_none : (e : End) → IsOpen e → fault_in e ≡ None
open_none (Opening left) is = refl
open_none (Rest rest) is = refl
open_none (Fault why) is = absurd is

pub fault_some : (e : End) (why : FrameFault) → e ≡ Fault why → fault_in e ≡ Some why
fault_some e why is = ap fault_in is

ended_open : (e : End) (s : Said) → fault_in e ≡ None → ended_by e s ≡ s
ended_open (Opening left) s is = refl
ended_open (Rest rest) s is = refl
ended_open (Fault why) s is = absurd (cc is)

some_is : {X : Type 0} (x y : X) → Some x ≡ Some y → x ≡ y
some_is x y is = cc is

ended_fault : (e : End) (s : Said) (why : FrameFault) → fault_in e ≡ Some why → ended_by e s ≡ then_ s (break_said why)
ended_fault (Opening left) s why is = absurd (cc is)
ended_fault (Rest rest) s why is = absurd (cc is)
ended_fault (Fault other) s why is = ap (λ (f : FrameFault). then_ s (break_said f)) (some_is other why is)

-- bytes that end in no fault
pub said_open : (r : Reading) (t : Talking) → fault_in r.ending ≡ None → feed_said r t ≡ frames_said r.frames t
unfolding feed_said
said_open r t is = ended_open r.ending (frames_said r.frames t) is

-- bytes that end in a fault
pub said_fault : (r : Reading) (t : Talking) (why : FrameFault) → fault_in r.ending ≡ Some why → feed_said r t ≡ then_ (frames_said r.frames t) (break_said why)
unfolding feed_said
said_fault r t why is = ended_fault r.ending (frames_said r.frames t) why is

ended_front : (e : End) (s : Said) (old new : List ℕ) → GainsFront s.bytes old new → GainsFront (ended_by e s).bytes old new
ended_front (Opening left) s old new gained = gained
ended_front (Rest rest) s old new gained = gained
ended_front (Fault why) s old new gained = gains_before s.bytes (break_said why s.after).bytes old new gained

-- part of what the frames are due to write is part of what the bytes are
pub frames_front : (r : Reading) (t : Talking) (old new : List ℕ) → GainsFront (frames_said r.frames t).bytes old new → GainsFront (feed_said r t).bytes old new
unfolding feed_said
frames_front r t old new gained = ended_front r.ending (frames_said r.frames t) old new gained

-- and so is part of what the fault is, after the frames
pub break_front : (r : Reading) (t : Talking) (why : FrameFault) (old mid new : List ℕ) → fault_in r.ending ≡ Some why → mid ≡ old ++ (frames_said r.frames t).bytes
    → GainsFront (break_said why (frames_said r.frames t).after).bytes mid new → GainsFront (feed_said r t).bytes old new
break_front r t why old mid new is came gained =
    rw (said_fault r t why is) (gains_after (frames_said r.frames t).bytes (break_said why (frames_said r.frames t).after).bytes old mid new came gained)

pub fed_fit : (e : End) (bytes : List ℕ) (frames : List Frame) → frames ≡ (reading_from e bytes).frames → AllByRecursion Fits frames
fed_fit e bytes frames is = rw is (frames_fit e bytes)

-- what the fault writes stands after what the frames wrote
pub broke_bytes : (r : Reading) (t u : Talking) (frames : List Frame) (seen : Option FrameFault) (why : FrameFault) (old mid new : List ℕ) → frames ≡ r.frames → seen ≡ fault_in r.ending → seen ≡ Some why
    → u ≡ (frames_said frames t).after → mid ≡ old ++ (frames_said frames t).bytes → new ≡ mid ++ (break_said why u).bytes → new ≡ old ++ (feed_said r t).bytes
broke_bytes r t u frames seen why old mid new same saw is came before after =
    let b = (break_said why (frames_said r.frames t).after).bytes in
    let here : u ≡ (frames_said r.frames t).after = came ∙ ap (λ (fs : List Frame). (frames_said fs t).after) same in
    let there : mid ≡ old ++ (frames_said r.frames t).bytes = before ∙ ap (λ (fs : List Frame). old ++ (frames_said fs t).bytes) same in
    after
    ∙ (ap (λ (w : Talking). mid ++ (break_said why w).bytes) here
    ∙ (ap (λ (xs : List ℕ). xs ++ b) there
    ∙ (append_assoc old (frames_said r.frames t).bytes b
    ∙ ap (λ (s : Said). old ++ s.bytes) (sym (said_fault r t why (sym saw ∙ is))))))

-- and so does a part of it
pub broke_front : (r : Reading) (t u : Talking) (frames : List Frame) (seen : Option FrameFault) (why : FrameFault) (old mid new : List ℕ) → frames ≡ r.frames → seen ≡ fault_in r.ending → seen ≡ Some why
    → u ≡ (frames_said frames t).after → mid ≡ old ++ (frames_said frames t).bytes → GainsFront (break_said why u).bytes mid new → GainsFront (feed_said r t).bytes old new
broke_front r t u frames seen why old mid new same saw is came before gained =
    let here : u ≡ (frames_said r.frames t).after = came ∙ ap (λ (fs : List Frame). (frames_said fs t).after) same in
    let there : mid ≡ old ++ (frames_said r.frames t).bytes = before ∙ ap (λ (fs : List Frame). old ++ (frames_said fs t).bytes) same in
    break_front r t why old mid new (sym saw ∙ is) there (subst (λ (w : Talking). GainsFront (break_said why w).bytes mid new) here gained)
