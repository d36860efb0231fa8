-- One frame at the front, and the bytes after it.
use Rattle.std.proofs.Common.{◌≡◌, ◌⊎◌, inl, inr, ℕ, ◌+◌, ◌<◌, ◌≤◌, false, List, ◌++◌, length, take, drop, Result, Ok, Err, refl, arith, nat_lt, ltb-false, le-ltb, length-drop, length-append, get_or}
use Rattle.std.proofs.lemmas.Bool.{cases_Bool}
use Rattle.std.proofs.lemmas.List.{drop-drop, take-append-le, drop-append-le, get_or_append_left}
use Rattle.h2_frame.specs.declared.fault.FrameFault.{FrameFault}
use Rattle.h2_frame.specs.declared.frame.Body.{Body}
use Rattle.h2_frame.specs.declared.head.Head.{Head}
use Rattle.h2_frame.specs.Heads.{head_of, is_wrong_length}
use Rattle.h2_frame.specs.Payloads.{body_of}
use Rattle.h2_frame.specs.Reading.{Step, partial, whole, wrong, step_of_body, step_after_head, first_frame}

-- ---- a frame takes bytes

-- what is left after a frame is shorter than this
abbrev pub IsShorter : ℕ → Step → Type 0
IsShorter n partial = Unit {0}
IsShorter n (whole frame rest) = length rest < n
IsShorter n (wrong fault) = Unit {0}

framed_shorter : (n : ℕ) (h : Head) (r : Result Body FrameFault) (rest : List ℕ) → length rest < n → IsShorter n (step_of_body h r rest)
framed_shorter n h (Ok body) rest lt = lt
framed_shorter n h (Err fault) rest lt = tt

judged_shorter : (n : ℕ) (h : Head) (after : List ℕ) → length after < n → IsShorter n (step_after_head h after)
unfolding step_after_head
judged_shorter n h after lt =
    elim (cases_Bool (nat_lt 16384 h.length)) [
      | inl large ↦ rw large tt
      | inr large ↦ elim (cases_Bool (is_wrong_length h)) [
        | inl bad ↦ rw (large, bad) tt
        | inr bad ↦ elim (cases_Bool (nat_lt (length after) h.length)) [
          | inl short ↦ rw (large, bad, short) tt
          | inr short ↦ rw (large, bad, short) (framed_shorter n h (body_of h (take h.length after)) (drop h.length after) (simp length-drop (omega arith)))
        ]
      ]
    ]

pub first_shorter : (b : List ℕ) → IsShorter (length b) (first_frame b)
unfolding first_frame
first_shorter b =
    elim (cases_Bool (nat_lt (length b) 9)) [
      | inl few ↦ rw few tt
      | inr few ↦
          let long : 9 ≤ length b = ltb-false (length b) 9 few in
          rw few (judged_shorter (length b) (head_of b) (drop 9 b) (simp length-drop (omega arith)))
    ]

-- ---- more bytes after it

-- the same with more bytes after
abbrev pub with_more : Step → List ℕ → Step
with_more partial more = partial
with_more (whole frame rest) more = whole frame (rest ++ more)
with_more (wrong fault) more = wrong fault

framed_more : (h : Head) (r : Result Body FrameFault) (rest more : List ℕ) → step_of_body h r (rest ++ more) ≡ with_more (step_of_body h r rest) more
framed_more h (Ok body) rest more = refl
framed_more h (Err fault) rest more = refl

judged_more : (h : Head) (after more : List ℕ) → (step_after_head h after ≡ partial) ⊎ (step_after_head h (after ++ more) ≡ with_more (step_after_head h after) more)
unfolding step_after_head
judged_more h after more =
    elim (cases_Bool (nat_lt 16384 h.length)) [
      | inl large ↦ inr (rw large refl)
      | inr large ↦ elim (cases_Bool (is_wrong_length h)) [
        | inl bad ↦ inr (rw (large, bad) refl)
        | inr bad ↦ elim (cases_Bool (nat_lt (length after) h.length)) [
          | inl short ↦ inl (rw (large, bad, short) refl)
          | inr short ↦
              let enough : h.length ≤ length after = ltb-false (length after) h.length short in
              let still : nat_lt (length (after ++ more)) h.length ≡ false = le-ltb (length (after ++ more)) h.length (simp length-append (omega arith)) in
              inr (rw (large, bad, short, still, take-append-le h.length after more enough, drop-append-le h.length after more enough) (framed_more h (body_of h (take h.length after)) (drop h.length after) more))
        ]
      ]
    ]

pub head_more : (b more : List ℕ) → 9 ≤ length b → head_of (b ++ more) ≡ head_of b
unfolding head_of
head_more b more long =
    let at_most : (n : ℕ) → n ≤ 8 → get_or (b ++ more) n 0 ≡ get_or b n 0 = λ n le. get_or_append_left b more 0 n (omega arith) in
    rw (take-append-le 3 b more (omega arith), at_most 3 (omega arith), at_most 4 (omega arith), drop-append-le 5 b more (omega arith), take-append-le 4 (drop 5 b) more (simp length-drop (omega arith))) refl

pub first_more : (b more : List ℕ) → (first_frame b ≡ partial) ⊎ (first_frame (b ++ more) ≡ with_more (first_frame b) more)
unfolding first_frame
first_more b more =
    elim (cases_Bool (nat_lt (length b) 9)) [
      | inl few ↦ inl (rw few refl)
      | inr few ↦
          let long : 9 ≤ length b = ltb-false (length b) 9 few in
          let still : nat_lt (length (b ++ more)) 9 ≡ false = le-ltb (length (b ++ more)) 9 (simp length-append (omega arith)) in
          rw (few, still, head_more b more long, drop-append-le 9 b more long) (judged_more (head_of b) (drop 9 b) more)
    ]

-- ---- a whole frame

pub first_whole : (b after : List ℕ) (h : Head) (body : Body) → 9 ≤ length b → h ≡ head_of b → after ≡ drop 9 b → h.length ≤ 16384 → is_wrong_length h ≡ false → h.length ≤ length after → body_of h (take h.length after) ≡ Ok body → first_frame b ≡ whole (record { stream = h.stream; body = body }) (drop (9 + h.length) b)
unfolding first_frame step_after_head
first_whole b after h body long head behind small right fits says =
    rw (le-ltb (length b) 9 long, ← head, ← behind, le-ltb 16384 h.length small, right, le-ltb (length after) h.length fits, says, ← drop-drop h.length 9 b, behind) refl
