-- A pull raises the count of begun messages by those that waited before it and do not after it.
use Rattle.std.proofs.Common.{◌≡◌, ◌⊎◌, inl, inr, ℕ, zero, suc, ◌+◌, ◌==◌, nat_lt, Bool, true, false, cond, List, [], ◌∷◌, length, Option, Some, None, refl, sym, ◌∙◌, add-zero, arith}
use Rattle.h2_flow.proofs.Common.{Flow, Stream, allowed_of, Turn, headers_turn, data_turn, last_turn, next_turn, body_turn, head_turn, turn, Round, round, rounds, all_rounds, all_work, Out, pull_of, left_of}
use Rattle.h2_flow.specs.Progress.{count_begun, count_all_begun}

-- nothing comes to wait
abbrev Falls : Option (List ℕ) → Option (List ℕ) → Type 0
Falls a b = (b ≡ a) ⊎ (b ≡ None)

count_same : (w : Option (List ℕ)) → count_begun w w ≡ 0
count_same None = refl
count_same (Some m) = refl

count_both : (a b c : Option (List ℕ)) → Falls a b → Falls b c → count_begun a c ≡ count_begun a b + count_begun b c
count_both None b c h k = none_counts b c h k
  where
    none_counts : (b c : Option (List ℕ)) → Falls None b → Falls b c → 0 ≡ 0 + count_begun b c
    none_counts None c h k = refl
    none_counts (Some m) c (inl h) k = absurd (cc h)
    none_counts (Some m) c (inr h) k = absurd (cc h)
count_both (Some m) None c h (inl k) = rw k refl
count_both (Some m) None c h (inr k) = rw k refl
count_both (Some m) (Some x) None h k = refl
count_both (Some m) (Some x) (Some y) h k = refl

falls_both : (a b c : Option (List ℕ)) → Falls a b → Falls b c → Falls a c
falls_both a b c h (inr k) = inr k
falls_both a b c (inl h) (inl k) = inl (k ∙ h)
falls_both a b c (inr h) (inl k) = inr (k ∙ h)

-- ---- a turn

record Counts (f : Flow) (s : Stream) (t : Turn) : Type 0 where
  count : t.flow.begun ≡ f.begun + count_begun s.waiting t.stream.waiting
  falls : Falls s.waiting t.stream.waiting

-- the flow's count and the stream's waiting message stay
counts_still : (f : Flow) (s : Stream) (t : Turn) → t.flow.begun ≡ f.begun → t.stream.waiting ≡ s.waiting → Counts f s t
counts_still f s t begun waiting = record { count = rw (begun, waiting, count_same s.waiting) (sym (add-zero f.begun)); falls = inl waiting }

counts_cond : (b : Bool) (f : Flow) (s : Stream) (x y : Turn) → Counts f s x → Counts f s y → Counts f s (cond b x y)
counts_cond true f s x y h k = h
counts_cond false f s x y h k = k

begun_data : (f : Flow) (s : Stream) → (data_turn f s).flow.begun ≡ f.begun
unfolding data_turn
begun_data f s = of_cond (allowed_of f s.credit (length (left_of s)) == 0) _ _ f.begun refl refl
  where
    of_cond : (b : Bool) (x y : Turn) (n : ℕ) → x.flow.begun ≡ n → y.flow.begun ≡ n → (cond b x y).flow.begun ≡ n
    of_cond true x y n h k = h
    of_cond false x y n h k = k

waiting_data : (f : Flow) (s : Stream) → (data_turn f s).stream.waiting ≡ s.waiting
unfolding data_turn
waiting_data f s = of_cond (allowed_of f s.credit (length (left_of s)) == 0) _ _ s.waiting refl refl
  where
    of_cond : (b : Bool) (x y : Turn) (w : Option (List ℕ)) → x.stream.waiting ≡ w → y.stream.waiting ≡ w → (cond b x y).stream.waiting ≡ w
    of_cond true x y w h k = h
    of_cond false x y w h k = k

counts_last : (f : Flow) (s : Stream) (t : Option (List ℕ)) → Counts f s (last_turn f s t)
unfolding last_turn headers_turn
counts_last f s None = counts_still f s _ refl refl
counts_last f s (Some block) = counts_still f s _ refl refl

counts_next : (f : Flow) (s : Stream) (w : Option (List ℕ)) → s.waiting ≡ w → Counts f s (next_turn f s w)
unfolding next_turn
counts_next f s None waited = counts_last f s s.trailers
counts_next f s (Some message) waited =
    let g = record f { begun = f.begun + 1 } in
    let r = record s { last = message; sent = 0; waiting = None } in
    counts_cond (allowed_of f s.credit (length message) == 0) f s _ _ (counts_still f s _ refl refl)
    (record { count = rw (begun_data g r, waiting_data g r, waited) refl; falls = inr (waiting_data g r) })

counts_body : (f : Flow) (s : Stream) → Counts f s (body_turn f s)
unfolding body_turn
counts_body f s = counts_cond (nat_lt s.sent (length s.last)) f s _ _ (counts_still f s (data_turn f s) (begun_data f s) (waiting_data f s)) (counts_next f s s.waiting refl)

counts_head : (f : Flow) (s : Stream) (h : Option (List ℕ)) → Counts f s (head_turn f s h)
unfolding headers_turn
counts_head f s None = counts_body f s
counts_head f s (Some block) = counts_still f s _ refl refl

counts_turn : (f : Flow) (s : Stream) → Counts f s (turn f s)
unfolding turn
counts_turn f s = counts_head f s s.head

-- ---- rounds

abbrev AllFall : List Stream → List Stream → Type 0
AllFall [] [] = Unit {0}
AllFall [] (t ∷ ts) = ⊥
AllFall (s ∷ ss) [] = ⊥
AllFall (s ∷ ss) (t ∷ ts) = Falls s.waiting t.waiting × AllFall ss ts

record CountsAll (f : Flow) (ss : List Stream) (r : Round) : Type 0 where
  count : r.flow.begun ≡ f.begun + count_all_begun ss r.streams
  falls : AllFall ss r.streams

all_same : (ss : List Stream) → (count_all_begun ss ss ≡ 0) × AllFall ss ss
all_same [] = (refl, tt)
all_same (s ∷ ss) = let h = all_same ss in (rw (count_same s.waiting, h.0) refl, (inl refl, h.1))

all_both : (ss ts us : List Stream) → AllFall ss ts → AllFall ts us → (count_all_begun ss us ≡ count_all_begun ss ts + count_all_begun ts us) × AllFall ss us
all_both [] [] [] h k = (refl, tt)
all_both [] [] (u ∷ us) h k = absurd k
all_both [] (t ∷ ts) us h k = absurd h
all_both (s ∷ ss) [] us h k = absurd h
all_both (s ∷ ss) (t ∷ ts) [] h k = absurd k
all_both (s ∷ ss) (t ∷ ts) (u ∷ us) h k =
    let rest = all_both ss ts us h.1 k.1 in
    (omega (arith, count_both s.waiting t.waiting u.waiting h.0 k.0, rest.0), (falls_both s.waiting t.waiting u.waiting h.0 k.0, rest.1))

counts_round : (f : Flow) (ss : List Stream) → CountsAll f ss (round f ss)
unfolding round
counts_round f [] = record { count = sym (add-zero f.begun); falls = tt }
counts_round f (s ∷ ss) =
    let h = counts_turn f s in
    let k = counts_round (turn f s).flow ss in
    record { count = omega (arith, h.count, k.count); falls = (h.falls, k.falls) }

counts_after : (b : Bool) (f : Flow) (ss : List Stream) (x y : Round) → CountsAll f ss x → CountsAll f ss y → CountsAll f ss (cond b x y)
counts_after true f ss x y h k = h
counts_after false f ss x y h k = k

counts_rounds : (n : ℕ) (f : Flow) (ss : List Stream) → CountsAll f ss (rounds n f ss)
unfolding rounds
counts_rounds zero f ss = let h = all_same ss in record { count = rw h.0 (sym (add-zero f.begun)); falls = h.1 }
counts_rounds (suc n) f ss =
    let r = round f ss in
    let h = counts_round f ss in
    let k = counts_rounds n r.flow r.streams in
    let both = all_both ss r.streams (rounds n r.flow r.streams).streams h.falls k.falls in
    counts_after (length r.sent == 0) f ss r _ h (record { count = omega (arith, h.count, k.count, both.0); falls = both.1 })

pub pull_counts : (o : Out) → (pull_of o).left.flow.begun ≡ o.flow.begun + count_all_begun o.streams (pull_of o).left.streams
unfolding pull_of all_rounds
pull_counts o = (counts_rounds (all_work o.streams + 1) o.flow o.streams).count
