-- Each frame that is read has what a connection asks of it.
use Rattle.std.proofs.Common.{◌≡◌, ℕ, zero, suc, ◌-◌, ◌%◌, ◌^◌, ◌<◌, ◌≤◌, ◌==◌, Bool, true, false, cond, nat_lt, List, [], ◌∷◌, ◌++◌, length, take, drop, slice_index, Result, Ok, Err, refl, arith, length-take, length-drop}
use Rattle.std.specs.Int.{w32, from_be_bytes}
use Rattle.std.specs.List.{AllByRecursion}
use Rattle.std.proofs.lemmas.Bool.{ltb-false}
use Rattle.h2_frame.specs.declared.fault.FrameFault.{FrameFault}
use Rattle.h2_frame.specs.declared.fault.FrameFault.TheVariants as faults
use Rattle.h2_conn.proofs.Common.{Body, Bytes, Headers, Settings, SettingsAck, WindowUpdate, Continuation, Unknown}
use Rattle.h2_frame.specs.declared.head.Head.{Head}
use Rattle.h2_frame.specs.Heads.{has_flag, front_of, head_of, is_wrong_length}
use Rattle.h2_frame.specs.Payloads.{content_of, with_content, settings_of, body_of}
use Rattle.h2_frame.specs.Reading.{Step, partial, whole, wrong, step_of_body, step_after_head, first_frame, End, Opening, Rest, Fault, Reading, after_step, frames_in, frames_of, after_preface, reading_from}
use Rattle.h2_conn.specs.Kinds.{FitsBody, Fits}

-- ---- one frame

IsShort : ℕ → Result (List ℕ) FrameFault → Type 0
IsShort n (Ok content) = length content ≤ n
IsShort n (Err fault) = Unit {0}

short_cond : (n : ℕ) (b : Bool) (fault : FrameFault) (content : List ℕ) → length content ≤ n → IsShort n (cond b (Err fault) (Ok content))
unfolding IsShort
short_cond n true fault content le = tt
short_cond n false fault content le = le

content_short : (h : Head) (payload : List ℕ) → IsShort (length payload) (content_of h payload)
unfolding content_of
content_short h payload =
    let pad : ℕ = cond (has_flag h.flags 8) (slice_index payload 0) 0 in
    let content : List ℕ = drop (front_of h) payload in
    let taken = length-take (length content - pad) content in
    let dropped = length-drop (front_of h) payload in
    short_cond (length payload) (nat_lt (length content) pad) faults.BadPadding (take (length content - pad) content) (rw (taken, dropped) (omega arith))

FitsResult : Result Body FrameFault → Type 0
FitsResult (Ok body) = FitsBody body
FitsResult (Err fault) = Unit {0}

f_cond : (b : Bool) (x y : Result Body FrameFault) → FitsResult x → FitsResult y → FitsResult (cond b x y)
f_cond true x y h k = h
f_cond false x y h k = k

f_bytes : (n length : ℕ) (ended : Bool) (r : Result (List ℕ) FrameFault) → IsShort n r → n ≤ length → length ≤ 16384 → FitsResult (with_content r (λ bytes. Bytes bytes length ended))
unfolding IsShort FitsResult
f_bytes n length ended (Ok content) short le most = (omega (arith, short, le), most)
f_bytes n length ended (Err fault) short le most = tt

f_headers : (ended all : Bool) (r : Result (List ℕ) FrameFault) → FitsResult (with_content r (λ block. Headers block ended all))
unfolding FitsResult
f_headers ended all (Ok content) = tt
f_headers ended all (Err fault) = tt

f_body : (h : Head) (payload : List ℕ) → length payload ≤ h.length → h.length ≤ 16384 → FitsResult (body_of h payload)
unfolding body_of FitsResult
f_body h payload le most =
    f_cond (h.kind == 0) _ _ (f_bytes (length payload) h.length (has_flag h.flags 1) (content_of h payload) (content_short h payload) le most)
    (f_cond (h.kind == 1) _ _ (f_headers (has_flag h.flags 1) (has_flag h.flags 4) (content_of h payload))
    (f_cond (h.kind == 2) _ _ tt
    (f_cond (h.kind == 3) _ _ tt
    (f_cond (h.kind == 4) _ _ (f_cond (has_flag h.flags 1) (Ok SettingsAck) (Ok (Settings (settings_of payload))) tt tt)
    (f_cond (h.kind == 5) _ _ tt
    (f_cond (h.kind == 6) _ _ tt
    (f_cond (h.kind == 7) _ _ tt
    (f_cond (h.kind == 8) (Ok (WindowUpdate (from_be_bytes w32 payload % 2 ^ 31))) _ (omega arith)
    (f_cond (h.kind == 9) (Ok (Continuation payload (has_flag h.flags 4))) (Ok (Unknown h.kind)) tt tt)))))))))

-- ---- a stream of frames

FitsStep : Step → Type 0
FitsStep partial = Unit {0}
FitsStep (whole f rest) = Fits f
FitsStep (wrong fault) = Unit {0}

step_if : (b : Bool) (x y : Step) → FitsStep x → (b ≡ false → FitsStep y) → FitsStep (cond b x y)
step_if true x y h k = h
step_if false x y h k = k refl

step_framed : (h : Head) (r : Result Body FrameFault) (rest : List ℕ) → h.stream < 2 ^ 31 → FitsResult r → FitsStep (step_of_body h r rest)
unfolding FitsStep FitsResult
step_framed h (Ok body) rest low f = (low, f)
step_framed h (Err fault) rest low f = tt

step_judged : (h : Head) (after : List ℕ) → h.stream < 2 ^ 31 → FitsStep (step_after_head h after)
unfolding step_after_head FitsStep
step_judged h after low =
    step_if (nat_lt 16384 h.length) (wrong (faults.TooLarge h.length)) _ tt (λ small.
    step_if (is_wrong_length h) (wrong (faults.WrongLength h.kind h.length)) _ tt (λ right.
    step_if (nat_lt (length after) h.length) partial _ tt (λ there.
    let taken = length-take h.length after in
    step_framed h (body_of h (take h.length after)) (drop h.length after) low
    (f_body h (take h.length after) (rw taken (omega arith)) (ltb-false 16384 h.length small)))))

step_first : (b : List ℕ) → FitsStep (first_frame b)
unfolding first_frame FitsStep head_of
step_first b = step_if (nat_lt (length b) 9) partial _ tt (λ more. step_judged (head_of b) (drop 9 b) (omega arith))

all_after : (s : Step) (b : List ℕ) (go_on : List ℕ → Reading) → FitsStep s → ((rest : List ℕ) → AllByRecursion Fits (go_on rest).frames) → AllByRecursion Fits (after_step s b go_on).frames
unfolding FitsStep
all_after partial b go_on f k = tt
all_after (whole frame rest) b go_on f k = (f, k rest)
all_after (wrong fault) b go_on f k = tt

all_in : (n : ℕ) (b : List ℕ) → AllByRecursion Fits (frames_in n b).frames
unfolding frames_in
all_in zero b = tt
all_in (suc n) b = all_after (first_frame b) b (frames_in n) (step_first b) (all_in n)

all_of : (b : List ℕ) → AllByRecursion Fits (frames_of b).frames
unfolding frames_of
all_of b = all_in (length b) b

all_cond : (b : Bool) (x y : Reading) → AllByRecursion Fits x.frames → AllByRecursion Fits y.frames → AllByRecursion Fits (cond b x y).frames
all_cond true x y h k = h
all_cond false x y h k = k

all_opened : (left b : List ℕ) → AllByRecursion Fits (after_preface left b).frames
unfolding after_preface
all_opened [] b = all_of b
all_opened (p ∷ left) [] = tt
all_opened (p ∷ left) (x ∷ b) = all_cond (p == x) (after_preface left b) _ (all_opened left b) tt

pub frames_fit : (e : End) (b : List ℕ) → AllByRecursion Fits (reading_from e b).frames
unfolding reading_from
frames_fit (Opening left) b = all_opened left b
frames_fit (Rest rest) b = all_of (rest ++ b)
frames_fit (Fault fault) b = tt
