-- A step of the code is a round of the trace, or the part of one that was taken before memory ran out.
use Rattle.std.proofs.Common.{◌≡◌, ℕ, ◌⊎◌, inl, inr, List, [], ◌∷◌, Option, Some, None, Ok, Err, refl, sym, ap, subst, ◌∙◌}
use Rattle.std.specs.Prelude.{Result, OnOk, IsSome, IfSome}
use Rattle.wl_worker.proofs.Common.{ConnFault, Memory, Ask, Signed, Publication, Passing, Origin, AttestorCall, Delivery, JwtAsk, JwtOutcome, SessionFault, SessionState, Running, Fallen, OutOfMemory, unnamed_in, failure_in, turn_told, Round, then_told, heard_told, name_told_at, answer_told, answers_told, shown_told, outcomes_told, heard_session, named_session, turned_session, round_told, HaveCalls, HaveAsks, IsWhole, IsIn, Asker, IsOutcome, Around, last_shown, HasSeenLast}
use Rattle.wl_publish.specs.Reading.{Reads}
use Rattle.wl_session.specs.declared.asks.SessionFault.TheVariants as faults
use Rattle.wl_worker.specs.Rounds.{any_outcome, IsRound}
use Rattle.wl_worker.specs.Served.{around}
use Rattle.wl_worker.specs.Stepping.{Came, Attests, Gives, TurnTells, StepTells}
use Rattle.wl_worker.proofs.Growth.{gains_none, ticked_none, rose_none, have_such}
use Rattle.wl_worker.proofs.SeenPublications.{last_in, keeps_then, keeps_seen, seen_longer}
use Rattle.wl_worker.proofs.Steps.{Fed, FedLast, quiet_came, came_then}

-- ---- a talk that has failed

failed_unnamed : (s : SessionState) (f : SessionFault) → failure_in s ≡ Some f → unnamed_in s ≡ None
failed_unnamed (Running e t shown) f is = absurd (cc is)
failed_unnamed (Fallen fault begun) f is = refl
failed_unnamed OutOfMemory f is = refl

-- names go on
answer_goes : (u : Option ℕ) (a : Option (List (List ℕ))) (s : SessionState) → failure_in s ≡ None → failure_in (name_told_at u a s).after ≡ None
answer_goes None a s is = is
answer_goes (Some stream) a (Running e t shown) is = refl
answer_goes (Some stream) a (Fallen fault begun) is = absurd (cc is)
answer_goes (Some stream) a OutOfMemory is = absurd (cc is)

names_go : (answers : List (Option (List (List ℕ)))) (s : SessionState) → failure_in s ≡ None → failure_in (answers_told answers s).after ≡ None
unfolding answers_told answer_told
names_go [] s is = is
names_go (a ∷ more) s is = names_go more (answer_told a s).after (answer_goes (unnamed_in s) a s is)

-- ---- parts of a round

no_calls : (s : SessionState) → HaveCalls [] s
unfolding HaveCalls
no_calls s = tt

no_asks : (P : JwtAsk → JwtOutcome → Type 0) (s : SessionState) → HaveAsks P [] s
unfolding HaveAsks
no_asks P s = tt

no_answers : (s : SessionState) (out : List ℕ) → Came (answers_told [] s) s out out
unfolding answers_told
no_answers s out = quiet_came s out

no_turn : (s : SessionState) (out : List ℕ) → Came (shown_told None s) s out out
unfolding shown_told
no_turn s out = quiet_came s out

no_outcomes : (s : SessionState) (out : List ℕ) → Came (outcomes_told [] s) s out out
unfolding outcomes_told
no_outcomes s out = quiet_came s out

abbrev no_publication : Option Publication
no_publication = None

nothing_shown : {P : Type 0} → IsSome no_publication → P
nothing_shown is = absurd (cc is)

-- a whole round by its parts
pub round_came : (r : Round) (s0 s1 s2 s3 s4 : SessionState) (o0 o1 o2 o3 o4 : List ℕ) → Came (heard_told r.piece s0) s1 o0 o1 → Came (answers_told r.answers s1) s2 o1 o2 → Came (shown_told r.shown s2) s3 o2 o3
    → Came (outcomes_told r.outcomes s3) s4 o3 o4 → Came (round_told r s0) s4 o0 o4
unfolding round_told
round_came r s0 s1 s2 s3 s4 o0 o1 o2 o3 o4 heard named turned given =
    came_then (then_told (then_told (heard_told r.piece s0) (answers_told r.answers)) (shown_told r.shown)) (outcomes_told r.outcomes) s3 s4 o0 o3 o4
    (came_then (then_told (heard_told r.piece s0) (answers_told r.answers)) (shown_told r.shown) s2 s3 o0 o2 o3
    (came_then (heard_told r.piece s0) (answers_told r.answers) s1 s2 o0 o1 o2 heard named) turned) given

-- the talk fails with the piece
pub step_failed : (valid : Ask → Signed → Type 0) (vouched : Asker) (origin : Origin) (before : Around) {piece : List ℕ} {s0 s1 : SessionState} {o0 o1 : List ℕ} {f : ConnFault}
    → FedLast piece s0 s1 o0 o1 f → StepTells valid vouched origin piece s0 s1 o0 o1 before before (Ok tt)
step_failed valid vouched origin before {piece} {s0} {s1} {o0} {o1} {f} fed =
    let r : Round = record { origin = origin; piece = piece; answers = []; shown = None; outcomes = [] } in
    let came : Came (round_told r s0) s1 o0 o1 = round_came r s0 s1 s1 s1 s1 o0 o1 o1 o1 o1 fed.came (no_answers s1 o1) (no_turn s1 o1) (no_outcomes s1 o1) in
    let named : s1 ≡ named_session r s0 = fed.came.after ∙ (no_answers (heard_session r s0) o1).after in
    let fails : failure_in (named_session r s0) ≡ Some (faults.Protocol f) = ap failure_in (sym named) ∙ fed.fails in
    let fits : IsRound r s0 = record {
      answers = no_calls (heard_session r s0);
      shown = λ is. nothing_shown is;
      outcomes = no_asks any_outcome (turned_session r s0);
      later = λ _. refl;
    } in
    record {
      round = r;
      signed = [];
      times = [];
      piece_is = refl;
      asked = refl;
      attested = gains_none before.attested;
      attestor_fails = rose_none before.attestor_faults;
      read = refl;
      signs = gains_none before.signed;
      clock = ticked_none before.times;
      outcomes_are = no_asks (IsOutcome vouched [] []) (turned_session r s0);
      ask_fails = rose_none before.ask_faults;
      fits = fits;
      seen = λ _. subst (λ (o : Option Publication). IfSome o (λ p. IsIn p before.pass.seen)) (sym fed.none) tt;
      whole = record {
        round = fits;
        named = failed_unnamed (named_session r s0) (faults.Protocol f) fails;
        read = λ goes. absurd (cc (fails, goes));
      };
      came = came;
    }

-- memory runs out with the piece
pub step_unfed : (valid : Ask → Signed → Type 0) (vouched : Asker) (origin : Origin) (before : Around) (piece : List ℕ) (s0 s1 : SessionState) (o0 o1 : List ℕ) (m : Memory)
    → last_shown s1 ≡ None → StepTells valid vouched origin piece s0 s1 o0 o1 before before (Err m)
step_unfed valid vouched origin before piece s0 s1 o0 o1 m none =
    let r : Round = record { origin = origin; piece = piece; answers = []; shown = None; outcomes = [] } in
    record {
      round = r;
      signed = [];
      times = [];
      piece_is = refl;
      asked = refl;
      attested = gains_none before.attested;
      attestor_fails = rose_none before.attestor_faults;
      read = refl;
      signs = gains_none before.signed;
      clock = ticked_none before.times;
      outcomes_are = no_asks (IsOutcome vouched [] []) (turned_session r s0);
      ask_fails = rose_none before.ask_faults;
      fits = record {
        answers = no_calls (heard_session r s0);
        shown = λ is. nothing_shown is;
        outcomes = no_asks any_outcome (turned_session r s0);
        later = λ _. refl;
      };
      seen = λ _. subst (λ (o : Option Publication). IfSome o (λ p. IsIn p before.pass.seen)) (sym none) tt;
      whole = tt;
      came = tt;
    }

-- memory runs out with the names, or where nothing was read
pub step_unread : (valid : Ask → Signed → Type 0) (vouched : Asker) (origin : Origin) (signed : Option (List Delivery)) (signing : ℕ) (times : Option (List ℕ)) (v w : Passing) (m : Memory)
    {piece : List ℕ} {s0 s1 s2 : SessionState} {o0 o1 o2 : List ℕ} {c0 c1 : Option (List AttestorCall)} {n0 n1 : ℕ} {r : Result (Unit {0}) Memory}
    → Fed piece s0 s1 o0 o1 → Attests origin s1 s2 o1 o2 c0 c1 n0 n1 r → w ≡ v
    → StepTells valid vouched origin piece s0 s2 o0 o2 (around c0 n0 signed signing times v) (around c1 n1 signed signing times w) (Err m)
step_unread valid vouched origin signed signing times v w m {piece} {s0} {s1} {s2} {o0} {o1} {o2} {c0} {c1} {n0} {n1} {r} fed attests same =
    let round : Round = record { origin = origin; piece = piece; answers = attests.answers; shown = None; outcomes = [] } in
    record {
      round = round;
      signed = [];
      times = [];
      piece_is = refl;
      asked = refl;
      attested = attests.calls_are;
      attestor_fails = attests.fails;
      read = same;
      signs = gains_none signed;
      clock = ticked_none times;
      outcomes_are = no_asks (IsOutcome vouched [] []) (turned_session round s0);
      ask_fails = rose_none signing;
      fits = record {
        answers = subst (λ (s : SessionState). HaveCalls attests.answers s) fed.came.after attests.have;
        shown = λ is. nothing_shown is;
        outcomes = no_asks any_outcome (turned_session round s0);
        later = λ _. refl;
      };
      seen = λ has. subst (λ (k : Passing). HasSeenLast k.seen s2) (sym same) (keeps_seen v.seen s0 s2 (keeps_then s0 s1 s2 fed.keeps attests.keeps) has);
      whole = tt;
      came = tt;
    }

-- ---- a publication was read

-- a session whose calls are attested, on the way to its turn
pub record Attested (origin : Origin) (piece : List ℕ) (s0 s1 s2 : SessionState) (o0 o1 o2 : List ℕ) (c0 c1 : Option (List AttestorCall)) (n0 n1 : ℕ) : Type 0 where
  pub fed : Fed piece s0 s1 o0 o1
  pub attests : Attests origin s1 s2 o1 o2 c0 c1 n0 n1 (Ok tt)
  pub named : unnamed_in s2 ≡ None

-- what is so of the session there
record Ready (r : Round) (s0 s2 : SessionState) : Type 0 where
  is : s2 ≡ named_session r s0
  have : HaveCalls r.answers (heard_session r s0)
  goes : failure_in (named_session r s0) ≡ None
  named : unnamed_in (named_session r s0) ≡ None

ready : {origin : Origin} {piece : List ℕ} {s0 s1 s2 : SessionState} {o0 o1 o2 : List ℕ} {c0 c1 : Option (List AttestorCall)} {n0 n1 : ℕ} (a : Attested origin piece s0 s1 s2 o0 o1 o2 c0 c1 n0 n1)
    (shown : Option Publication) (outcomes : List JwtOutcome) → Ready (record { origin = origin; piece = piece; answers = a.attests.answers; shown = shown; outcomes = outcomes }) s0 s2
ready {origin} {piece} {s0} {s1} {s2} a shown outcomes =
    let r : Round = record { origin = origin; piece = piece; answers = a.attests.answers; shown = shown; outcomes = outcomes } in
    let is : s2 ≡ named_session r s0 = a.attests.came.after ∙ ap (λ (s : SessionState). (answers_told a.attests.answers s).after) a.fed.came.after in
    record {
      is = is;
      have = subst (λ (s : SessionState). HaveCalls a.attests.answers s) a.fed.came.after a.attests.have;
      goes = names_go a.attests.answers (heard_session r s0) (ap failure_in (sym a.fed.came.after) ∙ a.fed.goes);
      named = ap unnamed_in (sym is) ∙ a.named;
    }

read_seen : {valid : Ask → Signed → Type 0} {v w : Passing} {p : Publication} (s : SessionState) → Reads valid v p w → IfSome (last_shown s) (λ last. last ≡ p) → HasSeenLast w.seen s
read_seen {valid} {v} {w} {p} s reads shows = go (last_shown s) shows
  where
    go : (o : Option Publication) → IfSome o (λ last. last ≡ p) → IfSome o (λ q. IsIn q w.seen)
    go None is = tt
    go (Some last) is = subst (λ (q : Publication). IsIn q w.seen) (sym is) (last_in p w.seen reads.last)

-- memory runs out before the turn, after it was read
pub step_unturned : (valid : Ask → Signed → Type 0) (vouched : Asker) (origin : Origin) (signed : Option (List Delivery)) (signing : ℕ) (times : Option (List ℕ)) (m : Memory) (s3 : SessionState) (o3 : List ℕ)
    {v w : Passing} {p : Publication} {piece : List ℕ} {s0 s1 s2 : SessionState} {o0 o1 o2 : List ℕ} {c0 c1 : Option (List AttestorCall)} {n0 n1 : ℕ}
    → Attested origin piece s0 s1 s2 o0 o1 o2 c0 c1 n0 n1 → Reads valid v p w → (HasSeenLast v.seen s0 → HasSeenLast w.seen s3)
    → StepTells valid vouched origin piece s0 s3 o0 o3 (around c0 n0 signed signing times v) (around c1 n1 signed signing times w) (Err m)
step_unturned valid vouched origin signed signing times m s3 o3 {v} {w} {p} {piece} {s0} {s1} {s2} a reads seen =
    let round : Round = record { origin = origin; piece = piece; answers = a.attests.answers; shown = Some p; outcomes = [] } in
    let there = ready a (Some p) [] in
    record {
      round = round;
      signed = [];
      times = [];
      piece_is = refl;
      asked = refl;
      attested = a.attests.calls_are;
      attestor_fails = a.attests.fails;
      read = reads;
      signs = gains_none signed;
      clock = ticked_none times;
      outcomes_are = no_asks (IsOutcome vouched [] []) (turned_session round s0);
      ask_fails = rose_none signing;
      fits = record {
        answers = there.have;
        shown = λ _. (there.goes, there.named);
        outcomes = no_asks any_outcome (turned_session round s0);
        later = λ _. refl;
      };
      seen = seen;
      whole = tt;
      came = tt;
    }

pub attested_by : {origin : Origin} {piece : List ℕ} {s0 s1 s2 : SessionState} {o0 o1 o2 : List ℕ} {c0 c1 : Option (List AttestorCall)} {n0 n1 : ℕ}
    → Fed piece s0 s1 o0 o1 → Attests origin s1 s2 o1 o2 c0 c1 n0 n1 (Ok tt) → unnamed_in s2 ≡ None → Attested origin piece s0 s1 s2 o0 o1 o2 c0 c1 n0 n1
attested_by fed attests named = record { fed = fed; attests = attests; named = named }

-- the session before the turn still has what was seen
pub unturned_seen : {valid : Ask → Signed → Type 0} {v w : Passing} {p : Publication} {origin : Origin} {piece : List ℕ} {s0 s1 s2 : SessionState} {o0 o1 o2 : List ℕ} {c0 c1 : Option (List AttestorCall)} {n0 n1 : ℕ}
    → Attested origin piece s0 s1 s2 o0 o1 o2 c0 c1 n0 n1 → Reads valid v p w → HasSeenLast v.seen s0 → HasSeenLast w.seen s2
unturned_seen {valid} {v} {w} {p} {origin} {piece} {s0} {s1} {s2} a reads has =
    seen_longer v.seen w.seen s2 reads.seen (keeps_seen v.seen s0 s2 (keeps_then s0 s1 s2 a.fed.keeps a.attests.keeps) has)

-- memory runs out where the pass is read
pub step_refused : (valid : Ask → Signed → Type 0) (vouched : Asker) (origin : Origin) (signed : Option (List Delivery)) (signing : ℕ) (times : Option (List ℕ)) (v w : Passing) (m : Memory)
    {piece : List ℕ} {s0 s1 s2 : SessionState} {o0 o1 o2 : List ℕ} {c0 c1 : Option (List AttestorCall)} {n0 n1 : ℕ}
    → Attested origin piece s0 s1 s2 o0 o1 o2 c0 c1 n0 n1 → (w ≡ v) ⊎ ((p : Publication) × Reads valid v p w)
    → StepTells valid vouched origin piece s0 s2 o0 o2 (around c0 n0 signed signing times v) (around c1 n1 signed signing times w) (Err m)
step_refused valid vouched origin signed signing times v w m a (inl same) = step_unread valid vouched origin signed signing times v w m a.fed a.attests same
step_refused valid vouched origin signed signing times v w m {piece} {s0} {s1} {s2} {o0} {o1} {o2} a (inr read) = step_unturned valid vouched origin signed signing times m s2 o2 a read.1 (unturned_seen a read.1)

pub turned_seen : {valid : Ask → Signed → Type 0} {v w : Passing} {p : Publication} {s2 s3 : SessionState} {o2 o3 : List ℕ} {r : Result (Unit {0}) Memory}
    → Reads valid v p w → TurnTells p s2 s3 o2 o3 r → HasSeenLast w.seen s3
turned_seen {valid} {v} {w} {p} {s2} {s3} reads turned = read_seen s3 reads turned.shows

-- ---- to the end

shown_came : (p : Publication) (s t : SessionState) (o q : List ℕ) → Came (turn_told p s) t o q → Came (shown_told (Some p) s) t o q
unfolding shown_told
shown_came p s t o q is = is

came_on : (r : Result (Unit {0}) Memory) (round : Round) (s0 s1 s2 s3 s4 : SessionState) (o0 o1 o2 o3 o4 : List ℕ) → Came (heard_told round.piece s0) s1 o0 o1 → Came (answers_told round.answers s1) s2 o1 o2
    → Came (shown_told round.shown s2) s3 o2 o3 → OnOk r (Came (outcomes_told round.outcomes s3) s4 o3 o4) → OnOk r (Came (round_told round s0) s4 o0 o4)
came_on (Err m) round s0 s1 s2 s3 s4 o0 o1 o2 o3 o4 heard named turned given = tt
came_on (Ok done) round s0 s1 s2 s3 s4 o0 o1 o2 o3 o4 heard named turned given = round_came round s0 s1 s2 s3 s4 o0 o1 o2 o3 o4 heard named turned given

whole_on : (r : Result (Unit {0}) Memory) (round : Round) (s0 s4 : SessionState) (o0 o4 : List ℕ) → IsRound round s0 → unnamed_in (named_session round s0) ≡ None → IsSome round.shown
    → OnOk r (Came (round_told round s0) s4 o0 o4) → OnOk r (IsWhole round s0)
whole_on (Err m) round s0 s4 o0 o4 fits named shown came = tt
whole_on (Ok done) round s0 s4 o0 o4 fits named shown came =
    record { round = fits; named = named; read = λ _. shown }

pub step_answered : (valid : Ask → Signed → Type 0) (vouched : Asker) (origin : Origin)
    {v w : Passing} {p : Publication} {piece : List ℕ} {s0 s1 s2 s3 s4 : SessionState} {o0 o1 o2 o3 o4 : List ℕ} {c0 c1 : Option (List AttestorCall)} {n0 n1 : ℕ}
    {g0 g1 : Option (List Delivery)} {f0 f1 : ℕ} {t0 t1 : Option (List ℕ)} {r : Result (Unit {0}) Memory}
    → Attested origin piece s0 s1 s2 o0 o1 o2 c0 c1 n0 n1 → Reads valid v p w → TurnTells p s2 s3 o2 o3 (Ok tt) → Gives vouched s3 s4 o3 o4 g0 g1 f0 f1 t0 t1 r
    → StepTells valid vouched origin piece s0 s4 o0 o4 (around c0 n0 g0 f0 t0 v) (around c1 n1 g1 f1 t1 w) r
step_answered valid vouched origin {v} {w} {p} {piece} {s0} {s1} {s2} {s3} {s4} {o0} {o1} {o2} {o3} {o4} {c0} {c1} {n0} {n1} {g0} {g1} {f0} {f1} {t0} {t1} {r} a reads turned gives =
    let round : Round = record { origin = origin; piece = piece; answers = a.attests.answers; shown = Some p; outcomes = gives.outcomes } in
    let there = ready a (Some p) gives.outcomes in
    let shown : Came (shown_told (Some p) s2) s3 o2 o3 = shown_came p s2 s3 o2 o3 turned.came in
    let is : s3 ≡ turned_session round s0 = shown.after ∙ ap (λ (s : SessionState). (shown_told (Some p) s).after) there.is in
    let asks : HaveAsks (IsOutcome vouched gives.signs gives.ticks) gives.outcomes (turned_session round s0) =
    subst (λ (s : SessionState). HaveAsks (IsOutcome vouched gives.signs gives.ticks) gives.outcomes s) is gives.have in
    let came : OnOk r (Came (round_told round s0) s4 o0 o4) = came_on r round s0 s1 s2 s3 s4 o0 o1 o2 o3 o4 a.fed.came a.attests.came shown gives.came in
    let fits : IsRound round s0 = record {
      answers = there.have;
      shown = λ _. (there.goes, there.named);
      outcomes = have_such (IsOutcome vouched gives.signs gives.ticks) any_outcome (λ _ _ _. tt) gives.outcomes (turned_session round s0) asks;
      later = λ none. absurd (cc none);
    } in
    record {
      round = round;
      signed = gives.signs;
      times = gives.ticks;
      piece_is = refl;
      asked = refl;
      attested = a.attests.calls_are;
      attestor_fails = a.attests.fails;
      read = reads;
      signs = gives.signed_is;
      clock = gives.clock;
      outcomes_are = asks;
      ask_fails = gives.fails;
      fits = fits;
      seen = λ _. keeps_seen w.seen s3 s4 gives.keeps (read_seen s3 reads turned.shows);
      whole = whole_on r round s0 s4 o0 o4 fits there.named refl came;
      came = came;
    }
