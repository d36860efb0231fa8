-- A turn writes nothing and changes nothing, or it writes a frame and leaves less to write.
use Rattle.std.proofs.Common.{◌≡◌, ◌⊎◌, inl, inr, ℕ, zero, suc, ◌+◌, ◌-◌, ◌<◌, ◌==◌, nat_lt, Bool, true, false, List, length, drop, Option, Some, None, refl, arith, eqb-true}
use Rattle.std.proofs.lemmas.Bool.{cases_Bool}
use Rattle.std.proofs.lemmas.List.{length-drop}
use Rattle.h2_flow.proofs.Common.{Flow, Stream, allowed_of, Turn, no_turn, headers_turn, data_turn, last_turn, next_turn, body_turn, head_turn, turn}
use Rattle.h2_flow.specs.Pulls.{work_of}

-- it wrote a frame, and less is left than this
pub record Wrote (work : ℕ) (t : Turn) : Type 0 where
  pub frame : length t.sent ≡ 1
  pub less : work_of t.stream < work

abbrev pub Works : Flow → Stream → Turn → Type 0
Works f s t = (t ≡ no_turn f s) ⊎ Wrote (work_of s) t

-- a block was taken out of the stream
headers_wrote : (f : Flow) (s : Stream) (block : List ℕ) (ended : Bool) (work : ℕ) → work_of s < work → Wrote work (headers_turn f s block ended)
unfolding headers_turn
headers_wrote f s block ended work less = record { frame = refl; less = less }

data_idle : (f : Flow) (s : Stream) → allowed_of f s.credit (length (drop s.sent s.last)) ≡ 0 → data_turn f s ≡ no_turn f s
unfolding data_turn
data_idle f s none = rw none refl

data_wrote : (f : Flow) (s : Stream) → (allowed_of f s.credit (length (drop s.sent s.last)) == 0) ≡ false → Wrote (work_of s) (data_turn f s)
unfolding data_turn
data_wrote f s some =
    let left : length (drop s.sent s.last) ≡ length s.last - s.sent = length-drop s.sent s.last in
    let positive : 0 < allowed_of f s.credit (length (drop s.sent s.last)) = above (allowed_of f s.credit (length (drop s.sent s.last))) some in
    rw some (record { frame = refl; less = omega arith })
  where
    above : (n : ℕ) → (n == 0) ≡ false → 0 < n
    above zero e = absurd (cc e)
    above (suc n) e = omega arith

data_works : (f : Flow) (s : Stream) → Works f s (data_turn f s)
data_works f s =
    elim (cases_Bool (allowed_of f s.credit (length (drop s.sent s.last)) == 0)) [
      | inl none ↦ inl (data_idle f s (eqb-true _ _ none))
      | inr some ↦ inr (data_wrote f s some)
    ]

last_works : (f : Flow) (s : Stream) (t : Option (List ℕ)) → s.trailers ≡ t → Works f s (last_turn f s t)
unfolding last_turn
last_works f s None e = inl refl
last_works f s (Some block) e = inr (headers_wrote f (record s { trailers = None }) block true (work_of s) (rw e (omega arith)))

next_works : (f : Flow) (s : Stream) (w : Option (List ℕ)) → s.waiting ≡ w → Works f s (next_turn f s w)
unfolding next_turn
next_works f s None e = last_works f s s.trailers refl
next_works f s (Some message) e =
    elim (cases_Bool (allowed_of f s.credit (length message) == 0)) [
      | inl none ↦ inl (rw none refl)
      | inr some ↦
          let g : Flow = record f { begun = f.begun + 1 } in
          let t : Stream = record s { last = message; sent = 0; waiting = None } in
          let wrote : Wrote (work_of t) (data_turn g t) = data_wrote g t some in
          inr (rw some (record { frame = wrote.frame; less = rw e (omega (arith, wrote.less)) }))
    ]

body_works : (f : Flow) (s : Stream) → Works f s (body_turn f s)
unfolding body_turn
body_works f s =
    elim (cases_Bool (nat_lt s.sent (length s.last))) [
      | inl more ↦ rw more (data_works f s)
      | inr none ↦ rw none (next_works f s s.waiting refl)
    ]

head_works : (f : Flow) (s : Stream) (h : Option (List ℕ)) → s.head ≡ h → Works f s (head_turn f s h)
head_works f s None e = body_works f s
head_works f s (Some block) e = inr (headers_wrote f (record s { head = None }) block false (work_of s) (rw e (omega arith)))

pub turn_works : (f : Flow) (s : Stream) → Works f s (turn f s)
unfolding turn
turn_works f s = head_works f s s.head refl
