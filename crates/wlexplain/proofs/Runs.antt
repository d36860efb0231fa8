-- Where a run stands, and what a piece more makes of that.
use Rattle.std.proofs.Common.{◌≡◌, ℕ, ◌+◌, ◌≤◌, inl, inr, Bool, true, false, List, [], ◌++◌, length, take, drop, Option, Some, None, Result, Ok, Err, IfSome, refl, sym, ap, subst, ◌∙◌, append_assoc, append-nil, arith}
use Rattle.std.proofs.lemmas.List.{take-append-drop, length-append, take-append-le, take_all}
use Rattle.wl_edge.specs.Edge.{Rose, Gained, GainedPrefix}
use Rattle.wl_edge.proofs.Sinks.{gained_none, gained_more}
use Rattle.fault_lines.specs.Explanations.{explained_text}
use Rattle.wlexplain.specs.declared.run.TheConstants.{READ_LIMIT, DONE, READ_FAILED, OUT_OF_MEMORY}
use Rattle.wlexplain.specs.Following.{whole_lines, last_line}
use Rattle.wlexplain.specs.Endings.{AreRead, done, read_failed, write_failed, no_memory}
use Rattle.wlexplain.specs.Steps.{Moment, moment, Follows, IsOver, EndsAt, StepEnds, IsAll, LinesEnd, WritesDue}
use Rattle.wlexplain.proofs.Cuts.{explained_by, whole_more, last_more}

-- a prefix after what went out before is one of all that is due
prefix_more : (a b c : Option (List ℕ)) (s due whole tail : List ℕ) → whole ≡ s ++ (due ++ tail) → Gained a b s → GainedPrefix b c due → GainedPrefix a c whole
prefix_more a b c s due whole tail is p r =
    (s ++ r.0, (r.1.0 ++ tail, is ∙ (ap (λ xs. s ++ (xs ++ tail)) r.1.1 ∙ (ap (λ xs. s ++ xs) (append_assoc r.0 r.1.0 tail) ∙ sym (append_assoc s r.0 (r.1.0 ++ tail))))), gained_more a b c s r.0 p r.2)

rose_wide : (a b c : ℕ) → a ≤ b → Rose b c → Rose a c
rose_wide a b c first (inl lt) = inl (omega arith)
rose_wide a b c first (inr end) = inr end

-- ---- what was read

read_of : (content left : Option (List ℕ)) (read : List ℕ) → IfSome content (λ text. (rest : List ℕ) × (left ≡ Some rest) × (text ≡ read ++ rest)) → AreRead content read
read_of None left read came = tt
read_of (Some text) left read came = (came.0, came.2)

came_more : (content left new : Option (List ℕ)) (read piece : List ℕ) (n : ℕ) → IfSome content (λ text. (rest : List ℕ) × (left ≡ Some rest) × (text ≡ read ++ rest))
    → IfSome left (λ rest. (new ≡ Some (drop n rest)) × (piece ≡ take n rest) × (n ≤ length rest))
    → IfSome content (λ text. (rest : List ℕ) × (new ≡ Some rest) × (text ≡ (read ++ piece) ++ rest))
came_more None left new read piece n came got = tt
came_more (Some text) left new read piece n came got =
    let here = subst (λ (m : Option (List ℕ)). IfSome m (λ rest. (new ≡ Some (drop n rest)) × (piece ≡ take n rest) × (n ≤ length rest))) came.1 got in (
      drop n came.0,
      here.0,
      came.2 ∙ (ap (λ xs. read ++ xs) (sym (take-append-drop n came.0)) ∙ (sym (append_assoc read (take n came.0) (drop n came.0)) ∙ ap (λ xs. (read ++ xs) ++ drop n came.0) (sym here.1))),
    )

-- ---- a piece

piece_due : (read piece line : List ℕ) → line ≡ last_line [] read → explained_text (read ++ piece) ≡ whole_lines [] read ++ (whole_lines line piece ++ explained_text (last_line line piece))
piece_due read piece line is =
    explained_by [] (read ++ piece)
    ∙ (ap (λ xs. xs ++ explained_text (last_line [] (read ++ piece))) (whole_more [] read piece)
    ∙ (append_assoc (whole_lines [] read) (whole_lines (last_line [] read) piece) (explained_text (last_line [] (read ++ piece)))
    ∙ (ap (λ l. whole_lines [] read ++ (whole_lines (last_line [] read) piece ++ explained_text l)) (last_more [] read piece)
    ∙ ap (λ l. whole_lines [] read ++ (whole_lines l piece ++ explained_text (last_line l piece))) (sym is))))

read_due : (read line : List ℕ) → line ≡ last_line [] read → explained_text read ≡ whole_lines [] read ++ explained_text line
read_due read line is = explained_by [] read ∙ ap (λ l. whole_lines [] read ++ explained_text l) (sym is)

-- the lines that were written are a prefix of what is due
lines_due : (start now : Moment) (line : List ℕ) (remaining : ℕ) (read : List ℕ) → Follows start now line remaining read → (t : Option (List ℕ)) → t ≡ now.taken → GainedPrefix start.taken t (explained_text read)
lines_due start now line remaining read f t same =
    (whole_lines [] read, (explained_text line, read_due read line f.pending), subst (λ (m : Option (List ℕ)). Gained start.taken m (whole_lines [] read)) (sym same) f.wrote)

pub step_got : (start : Moment) (l0 l1 t0 t1 : Option (List ℕ)) (r0 r1 w0 w1 remaining after n : ℕ) (line new piece read : List ℕ)
    → Follows start (moment l0 t0 r0 w0) line remaining read → length piece ≡ n → after + n ≡ remaining → r0 ≤ r1
    → IfSome l0 (λ rest. (l1 ≡ Some (drop n rest)) × (piece ≡ take n rest) × (n ≤ length rest))
    → new ≡ last_line line piece → Gained t0 t1 (whole_lines line piece) × (w0 ≤ w1)
    → (all : List ℕ) × Follows start (moment l1 t1 r1 w1) new after all
step_got start l0 l1 t0 t1 r0 r1 w0 w1 remaining after n line new piece read f size less later got is wrote = (
  read ++ piece,
  record {
    came = came_more start.left l0 l1 read piece n f.came got;
    count = longer READ_LIMIT f.count;
    wrote = rw (whole_more [] read piece, ← f.pending) (gained_more start.taken t0 t1 (whole_lines [] read) (whole_lines line piece) f.wrote wrote.0);
    pending = is ∙ (ap (λ l. last_line l piece) f.pending ∙ sym (last_more [] read piece));
    reads = omega (arith, f.reads);
    writes = omega (arith, f.writes, wrote.1);
  },
)
  where
    longer : (limit : ℕ) → length read + remaining ≡ limit → length (read ++ piece) + after ≡ limit
    longer limit had = let long = length-append read piece in omega (arith, long, had, size, less)

pub step_fails : (start : Moment) (l0 l1 t0 t1 : Option (List ℕ)) (r0 r1 w0 w1 remaining n status : ℕ) (line piece read : List ℕ)
    → Follows start (moment l0 t0 r0 w0) line remaining read
    → IfSome l0 (λ rest. (l1 ≡ Some (drop n rest)) × (piece ≡ take n rest) × (n ≤ length rest))
    → WritesDue (whole_lines line piece) t0 t1 w0 w1 (Err status) → EndsAt start (moment l1 t1 r1 w1) status
step_fails start l0 l1 t0 t1 r0 r1 w0 w1 remaining n status line piece read f got (inl memory) =
    rw memory.0 (no_memory read (read_of start.left l0 read f.came) (lines_due start (moment l0 t0 r0 w0) line remaining read f t1 memory.1))
step_fails start l0 l1 t0 t1 r0 r1 w0 w1 remaining n status line piece read f got (inr failed) =
    rw failed.0 (write_failed (rose_wide start.failed_writes w0 w1 f.writes failed.1) (read ++ piece)
    (read_of start.left l1 (read ++ piece) (came_more start.left l0 l1 read piece n f.came got))
    (prefix_more start.taken t0 t1 (whole_lines [] read) (whole_lines line piece) (explained_text (read ++ piece)) (explained_text (last_line line piece))
    (piece_due read piece line f.pending) f.wrote failed.3))

pub step_over : (start : Moment) (l0 l1 t : Option (List ℕ)) (r0 r1 w remaining : ℕ) (line read : List ℕ) → Follows start (moment l0 t r0 w) line remaining read → r0 ≤ r1
    → IfSome l0 (λ rest. (rest ≡ []) × (l1 ≡ Some [])) → StepEnds start (moment l1 t r1 w) line remaining (Ok false)
step_over start l0 l1 t r0 r1 w remaining line read f later over = (
  read,
  record { came = ended start.left f.came; count = f.count; wrote = f.wrote; pending = f.pending; reads = omega (arith, f.reads); writes = f.writes },
  over_at start.left f.came,
)
  where
    here : (rest : List ℕ) → l0 ≡ Some rest → (rest ≡ []) × (l1 ≡ Some [])
    here rest is = subst (λ (m : Option (List ℕ)). IfSome m (λ rest. (rest ≡ []) × (l1 ≡ Some []))) is over

    ended : (content : Option (List ℕ)) → IfSome content (λ text. (rest : List ℕ) × (l0 ≡ Some rest) × (text ≡ read ++ rest)) → IfSome content (λ text. (rest : List ℕ) × (l1 ≡ Some rest) × (text ≡ read ++ rest))
    ended None came = tt
    ended (Some text) came = ([], (here came.0 came.1).1, came.2 ∙ ap (λ xs. read ++ xs) (here came.0 came.1).0)

    over_at : (content : Option (List ℕ)) → IfSome content (λ text. (rest : List ℕ) × (l0 ≡ Some rest) × (text ≡ read ++ rest)) → IfSome content (λ text. l1 ≡ Some [])
    over_at None came = tt
    over_at (Some text) came = (here came.0 came.1).1

pub step_unread : (start : Moment) (l0 l1 t : Option (List ℕ)) (r0 r1 w remaining : ℕ) (line read : List ℕ) → Follows start (moment l0 t r0 w) line remaining read → Rose r0 r1
    → EndsAt start (moment l1 t r1 w) READ_FAILED
step_unread start l0 l1 t r0 r1 w remaining line read f rose =
    read_failed (rose_wide start.failed_reads r0 r1 f.reads rose) read (read_of start.left l0 read f.came) f.wrote

-- ---- the end

take_over : (limit : ℕ) (read text rest : List ℕ) → rest ≡ [] → text ≡ read ++ rest → length read ≤ limit → read ≡ take limit text
take_over limit read text rest none is short = sym (ap (take limit) (is ∙ (ap (λ xs. read ++ xs) none ∙ append-nil read)) ∙ take_all limit read short)

take_front : (limit : ℕ) (read text rest : List ℕ) → text ≡ read ++ rest → length read ≡ limit → read ≡ take limit text
take_front limit read text rest is full = sym (ap (take limit) is ∙ (take-append-le limit read rest (omega (arith, full)) ∙ take_all limit read (omega (arith, full))))

below : (limit n remaining : ℕ) → n + remaining ≡ limit → n ≤ limit
below limit n remaining had = omega (arith, had)

whole : (limit n remaining : ℕ) → n + remaining ≡ limit → remaining ≡ 0 → n ≡ limit
whole limit n remaining had none = omega (arith, had, none)

some_same : (a b : List ℕ) (m : Option (List ℕ)) → m ≡ Some a → m ≡ Some b → a ≡ b
some_same a b m is also = cc (is, also)

over_all : (limit : ℕ) (content left : Option (List ℕ)) (read : List ℕ) → length read ≤ limit → IfSome content (λ text. (rest : List ℕ) × (left ≡ Some rest) × (text ≡ read ++ rest)) → IfSome content (λ text. left ≡ Some []) → IfSome content (λ text. read ≡ take limit text)
over_all limit None left read short came over = tt
over_all limit (Some text) left read short came over = take_over limit read text came.0 (some_same came.0 [] left came.1 over) came.2 short

front_all : (limit : ℕ) (content left : Option (List ℕ)) (read : List ℕ) → length read ≡ limit → IfSome content (λ text. (rest : List ℕ) × (left ≡ Some rest) × (text ≡ read ++ rest)) → IfSome content (λ text. read ≡ take limit text)
front_all limit None left read full came = tt
front_all limit (Some text) left read full came = take_front limit read text came.0 came.2 full

pub all_over : (start now : Moment) (line : List ℕ) (remaining : ℕ) (read : List ℕ) → Follows start now line remaining read → IsOver start now → LinesEnd start now line (Ok tt)
all_over start now line remaining read f over = (remaining, read, f, over_all READ_LIMIT start.left now.left read (below READ_LIMIT (length read) remaining f.count) f.came over)

pub all_read : (start now : Moment) (line : List ℕ) (remaining : ℕ) (read : List ℕ) → Follows start now line remaining read → remaining ≡ 0 → LinesEnd start now line (Ok tt)
all_read start now line remaining read f none = (remaining, read, f, front_all READ_LIMIT start.left now.left read (whole READ_LIMIT (length read) remaining f.count none) f.came)

pub run_done : (start : Moment) (l t0 t1 : Option (List ℕ)) (r w0 w1 remaining : ℕ) (line read : List ℕ) → Follows start (moment l t0 r w0) line remaining read → IsAll start read
    → WritesDue (explained_text line) t0 t1 w0 w1 (Ok tt) → EndsAt start (moment l t1 r w1) DONE
run_done start l t0 t1 r w0 w1 remaining line read f all wrote =
    done read all (rw (read_due read line f.pending) (gained_more start.taken t0 t1 (whole_lines [] read) (explained_text line) f.wrote wrote.0))

pub run_fails : (start : Moment) (l t0 t1 : Option (List ℕ)) (r w0 w1 remaining status : ℕ) (line read : List ℕ) → Follows start (moment l t0 r w0) line remaining read
    → WritesDue (explained_text line) t0 t1 w0 w1 (Err status) → EndsAt start (moment l t1 r w1) status
run_fails start l t0 t1 r w0 w1 remaining status line read f (inl memory) =
    rw memory.0 (no_memory read (read_of start.left l read f.came) (lines_due start (moment l t0 r w0) line remaining read f t1 memory.1))
run_fails start l t0 t1 r w0 w1 remaining status line read f (inr failed) =
    rw failed.0 (write_failed (rose_wide start.failed_writes w0 w1 f.writes failed.1) read (read_of start.left l read f.came)
    (prefix_more start.taken t0 t1 (whole_lines [] read) (explained_text line) (explained_text read) [] (read_due read line f.pending ∙ ap (λ xs. whole_lines [] read ++ xs) (sym (append-nil (explained_text line)))) f.wrote failed.3))

-- nothing was read yet
pub follows_first : (m : Moment) (line : List ℕ) → line ≡ [] → Follows m m line READ_LIMIT []
follows_first m line none = record { came = go m.left; count = refl; wrote = gained_none m.taken; pending = none; reads = omega arith; writes = omega arith }
  where
    go : (content : Option (List ℕ)) → IfSome content (λ text. (rest : List ℕ) × (content ≡ Some rest) × (text ≡ [] ++ rest))
    go None = tt
    go (Some text) = (text, refl, refl)

pub run_lacks : (m : Moment) → EndsAt m m OUT_OF_MEMORY
run_lacks m = no_memory [] (go m.left) ([], (explained_text [], refl), gained_none m.taken)
  where
    go : (content : Option (List ℕ)) → AreRead content []
    go None = tt
    go (Some text) = (text, refl)

-- ---- what a step answered

pub went_on : (start now : Moment) (line : List ℕ) (remaining : ℕ) (result : Result Bool ℕ) → result ≡ Ok true → StepEnds start now line remaining result → (read : List ℕ) × Follows start now line remaining read
went_on start now line remaining result is step = subst (λ (r : Result Bool ℕ). StepEnds start now line remaining r) is step

pub came_to_end : (start now : Moment) (line : List ℕ) (remaining : ℕ) (result : Result Bool ℕ) → result ≡ Ok false → StepEnds start now line remaining result → LinesEnd start now line (Ok tt)
came_to_end start now line remaining result is step =
    let over = subst (λ (r : Result Bool ℕ). StepEnds start now line remaining r) is step in
    all_over start now line remaining over.0 over.1 over.2

pub broke_off : (start now : Moment) (line : List ℕ) (remaining status : ℕ) (result : Result Bool ℕ) → result ≡ Err status → StepEnds start now line remaining result → EndsAt start now status
broke_off start now line remaining status result is step = subst (λ (r : Result Bool ℕ). StepEnds start now line remaining r) is step

-- ---- the whole run

pub lines_broke : (start now : Moment) (line : List ℕ) (status : ℕ) (result : Result (Unit {0}) ℕ) → result ≡ Err status → LinesEnd start now line result → EndsAt start now status
lines_broke start now line status result is ends = subst (λ (r : Result (Unit {0}) ℕ). LinesEnd start now line r) is ends

pub ends_done : (start : Moment) (l t0 t1 : Option (List ℕ)) (r w0 w1 : ℕ) (line : List ℕ) (lines wrote : Result (Unit {0}) ℕ) → lines ≡ Ok tt → LinesEnd start (moment l t0 r w0) line lines
    → wrote ≡ Ok tt → WritesDue (explained_text line) t0 t1 w0 w1 wrote → EndsAt start (moment l t1 r w1) DONE
ends_done start l t0 t1 r w0 w1 line lines wrote is ends ok due =
    let had = subst (λ (x : Result (Unit {0}) ℕ). LinesEnd start (moment l t0 r w0) line x) is ends in
    run_done start l t0 t1 r w0 w1 had.0 line had.1 had.2 had.3 (subst (λ (x : Result (Unit {0}) ℕ). WritesDue (explained_text line) t0 t1 w0 w1 x) ok due)

pub ends_broken : (start : Moment) (l t0 t1 : Option (List ℕ)) (r w0 w1 status : ℕ) (line : List ℕ) (lines wrote : Result (Unit {0}) ℕ) → lines ≡ Ok tt → LinesEnd start (moment l t0 r w0) line lines
    → wrote ≡ Err status → WritesDue (explained_text line) t0 t1 w0 w1 wrote → EndsAt start (moment l t1 r w1) status
ends_broken start l t0 t1 r w0 w1 status line lines wrote is ends err due =
    let had = subst (λ (x : Result (Unit {0}) ℕ). LinesEnd start (moment l t0 r w0) line x) is ends in
    run_fails start l t0 t1 r w0 w1 had.0 status line had.1 had.2 (subst (λ (x : Result (Unit {0}) ℕ). WritesDue (explained_text line) t0 t1 w0 w1 x) err due)
