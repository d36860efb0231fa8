-- Bytes that come in pieces.
use Rattle.std.proofs.Common.{◌≡◌, ℕ, List, ◌++◌, ◌⊎◌, inl, inr, Result, Ok, Err, refl, sym, ap, ◌∙◌}
use Rattle.std.proofs.lemmas.List.{append-nil}
use Rattle.h2_frame.specs.Reading.{End, Opening, Rest, Fault, Reading, reading_from, read_on}
use Rattle.h2_frame.proofs.Cuts.{reads_on}
use Rattle.wl_client.specs.declared.fault.ClientFault.{ClientFault}
use Rattle.wl_client.specs.declared.fault.ClientFault.TheVariants as faults
use Rattle.wl_client.specs.declared.reply.Heard.{Heard}
use Rattle.wl_client.specs.declared.listener.Listener.{Listener}
use Rattle.wl_client.specs.Faults.{Refuses}
use Rattle.wl_client.specs.Hearing.{Hearing, after_hearing, frames_heard}
use Rattle.wl_client.specs.Clients.{ClientState, Listening, Failed, fresh_state, Reply, ended_by, heard_in, heard_from, heard, heard_on, Feeds, StandsFor}
use Rattle.wl_client.proofs.Hearings.{heard_two, refuses_map, refuses}

-- what came in two parts, where the first ended so
two_parts : (told : List Heard) (bytes : List ℕ) (r : Result Listener ClientFault) (e : End) (more : List ℕ)
    → ended_by (reading_from e more).ending (after_hearing told bytes r (frames_heard (reading_from e more).frames)) ≡ heard_on (ended_by e (record { told = told; bytes = bytes; after = r })) more
unfolding heard_from heard_in reading_from frames_heard
two_parts told bytes (Err fault) e more = rw (append-nil told, append-nil bytes) refl
two_parts told bytes (Ok l) (Opening left) more = refl
two_parts told bytes (Ok l) (Rest rest) more = refl
two_parts told bytes (Ok l) (Fault why) more = refl

read_two : (r : Reading) (more : List ℕ) (l : Listener) → heard_in (read_on r more) l ≡ heard_on (heard_in r l) more
unfolding heard_in
read_two r more l =
    let h = frames_heard r.frames l in
    let next = reading_from r.ending more in
    ap (λ (w : Hearing). ended_by next.ending w) (heard_two r.frames next.frames l) ∙ two_parts h.told h.bytes h.after r.ending more

-- however the bytes are cut, what is heard and written is the same
pub heard_more : (s : ClientState) (bytes more : List ℕ) → heard_from s (bytes ++ more) ≡ heard_on (heard_from s bytes) more
unfolding heard_from
heard_more (Listening e l) bytes more = ap (λ (r : Reading). heard_in r l) (reads_on e bytes more) ∙ read_two (reading_from e bytes) more l
heard_more (Failed fault) bytes more = refl

-- ---- the bytes so far

pub is_named : (fault : ClientFault) → (fault ≡ faults.Memory) ⊎ ((P : Type 0) → Refuses fault P → P)
is_named faults.Memory = inl refl
is_named (faults.Frame x) = inr (λ P p. p)
is_named (faults.Header x) = inr (λ P p. p)
is_named (faults.Order x) = inr (λ P p. p)
is_named (faults.HttpStatus x) = inr (λ P p. p)
is_named faults.NoStatus = inr (λ P p. p)
is_named (faults.Message x) = inr (λ P p. p)
is_named (faults.Undecodable x) = inr (λ P p. p)
is_named (faults.Cut x) = inr (λ P p. p)
is_named faults.TooMuch = inr (λ P p. p)
is_named faults.Idle = inr (λ P p. p)
is_named (faults.Reset x) = inr (λ P p. p)
is_named (faults.GoAway x) = inr (λ P p. p)
is_named faults.TooMany = inr (λ P p. p)

leads_so : (s : ClientState) (h : List ℕ) → (heard h).after ≡ s → StandsFor s h
leads_so (Listening e l) h same = same
leads_so (Failed fault) h same = refuses fault _ same

after_more : (fed piece : List ℕ) → (heard (fed ++ piece)).after ≡ (heard_from (heard fed).after piece).after
unfolding heard
after_more fed piece = ap (λ r. r.after) (heard_more fresh_state fed piece)

goes_on : (s after : ClientState) (fed piece : List ℕ) (r : Result (Unit {0}) ClientFault) (old new : List Heard) (was now : List ℕ) → (heard fed).after ≡ s
    → Feeds (heard_from s piece) r old new was now after → StandsFor after (fed ++ piece)
goes_on s after fed piece (Ok done) old new was now stood given =
    leads_so after (fed ++ piece) (after_more fed piece ∙ (ap (λ (t : ClientState). (heard_from t piece).after) stood ∙ sym given.2))
goes_on s after fed piece (Err fault) old new was now stood given =
    let here = after_more fed piece ∙ ap (λ (t : ClientState). (heard_from t piece).after) stood in
    rw given.0 (refuses_map fault _ _ (λ (due : (new ≡ old ++ (heard_from s piece).told) × (now ≡ was ++ (heard_from s piece).bytes) × ((heard_from s piece).after ≡ Failed fault)). here ∙ due.2) given.1)

no_memory : (after : ClientState) (h : List ℕ) (r : Result (Unit {0}) ClientFault) (due : Reply) (old new : List Heard) (was now : List ℕ) → Feeds due r old new was now after → r ≡ Err faults.Memory → StandsFor after h
no_memory after h (Ok done) due old new was now given same = absurd (cc same)
no_memory after h (Err fault) due old new was now given same =
    let memory : fault ≡ faults.Memory = cc in
    rw (given.0, memory) tt

-- a client stands for the bytes so far and the piece after them
pub stands_on : (s after : ClientState) (fed piece : List ℕ) (r : Result (Unit {0}) ClientFault) (old new : List Heard) (was now : List ℕ)
    → Feeds (heard_from s piece) r old new was now after → ((fault : ClientFault) → s ≡ Failed fault → r ≡ Err fault) → StandsFor s fed → StandsFor after (fed ++ piece)
stands_on (Listening e l) after fed piece r old new was now given again stood = goes_on (Listening e l) after fed piece r old new was now stood given
stands_on (Failed fault) after fed piece r old new was now given again stood =
    elim (is_named fault) [
      | inl memory ↦ no_memory after (fed ++ piece) r _ old new was now given (again fault refl ∙ ap (λ (f : ClientFault). Err f) memory)
      | inr named ↦ goes_on (Failed fault) after fed piece r old new was now (named _ stood) given
    ]
