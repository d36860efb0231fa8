-- A call that was attested has the selectors with which it was.
use Rattle.std.proofs.Common.{◌≡◌, inl, inr, ℕ, ◌==◌, List, [], ◌∷◌, Option, Some, None, subst, eqb-true}
use Rattle.std.specs.List.{AllByRecursion}
use Rattle.std.proofs.lemmas.Bool.{cases_Bool}
use Rattle.wl_responses.proofs.Common.{Publication, CallKind, Stage, Unnamed, Ready, Asking, ServedCall, break_said, Step, FrameCame, BytesBroke, CallAttested, TurnTaken, OutcomeCame, step_said, talk_after, stage_on}
use Rattle.wl_session.specs.Tokens.{first_unnamed}
use Rattle.wl_session.specs.Talks.{written}
use Rattle.wl_session.proofs.CallWalk.{IsKept, IsKeptOn, frame_each, name_each, turn_each, given_each}
use Rattle.wl_responses.specs.Responses.{IsReadyAs, WasAttested, StreamsHaveSelectors}
use Rattle.wl_responses.proofs.ResponseTurns.{all_have}

-- ---- what is said of the selectors of calls

abbrev Rule : Type 1
Rule = ℕ → List (List ℕ) → Type 0

abbrev NamedAs : Rule → ℕ → Stage → Type 0
NamedAs Q n (Unnamed kind) = Unit {0}
NamedAs Q n (Ready kind sel seen headed) = Q n sel
NamedAs Q n (Asking first rest got) = Unit {0}

abbrev AllNamed : Rule → List ServedCall → Type 0
AllNamed Q cs = AllByRecursion (λ c. NamedAs Q c.stream c.stage) cs

stage_weaker : (Q R : Rule) → ((n : ℕ) (sel : List (List ℕ)) → Q n sel → R n sel) → (n : ℕ) (s : Stage) → NamedAs Q n s → NamedAs R n s
stage_weaker Q R go n (Unnamed kind) h = tt
stage_weaker Q R go n (Ready kind sel seen headed) h = go n sel h
stage_weaker Q R go n (Asking first rest got) h = tt

named_weaker : (Q R : Rule) → ((n : ℕ) (sel : List (List ℕ)) → Q n sel → R n sel) → (cs : List ServedCall) → AllNamed Q cs → AllNamed R cs
named_weaker Q R go [] h = tt
named_weaker Q R go (c ∷ cs) h = (stage_weaker Q R go c.stream c.stage h.0, named_weaker Q R go cs h.1)

ready_named : (Q : Rule) (n : ℕ) (kind : CallKind) (sel : List (List ℕ)) (s : Stage) → NamedAs Q n s → IsReadyAs kind sel (Some s) → Q n sel
ready_named Q n kind sel (Unnamed own) h is = absurd is
ready_named Q n kind sel (Ready own named seen headed) h is = subst (Q n) is.1 h
ready_named Q n kind sel (Asking first rest got) h is = absurd is

stage_named : (Q : Rule) (n : ℕ) (kind : CallKind) (sel : List (List ℕ)) (cs : List ServedCall) → AllNamed Q cs → IsReadyAs kind sel (stage_on n cs) → Q n sel
stage_named Q n kind sel [] h is = absurd is
stage_named Q n kind sel (c ∷ cs) h is =
    elim (cases_Bool (c.stream == n)) [
      | inl here ↦
          let mine : IsReadyAs kind sel (Some c.stage) = rw here at is in
          ready_named Q n kind sel c.stage (subst (λ (m : ℕ). NamedAs Q m c.stage) (eqb-true c.stream n here) h.0) mine
      | inr there ↦ stage_named Q n kind sel cs h.1 (rw there at is)
    ]

-- ---- the walk

named_kept : (Q : Rule) → IsKept (NamedAs Q)
named_kept Q = record { fresh = λ n kind. tt; next = λ n first w ws got more h. tt }

named_kept_on : (Q : Rule) (x : Publication) → IsKeptOn (NamedAs Q) x
named_kept_on Q x = record { answered = λ n kind sel seen headed now goes h. h; asked = λ n audience id sel seen headed w ws is h. tt }

-- ---- all steps

abbrev attested_in : List Step → Rule
attested_in steps n sel = WasAttested n sel steps

later : (step : Step) (before : List Step) (cs : List ServedCall) → AllNamed (attested_in before) cs → AllNamed (attested_in (step ∷ before)) cs
later step before cs h = named_weaker (attested_in before) (attested_in (step ∷ before)) (λ n sel is. inr is) cs h

attested_now : (caller : Option (List (List ℕ))) (n : ℕ) (sel : List (List ℕ)) (before : List Step) → first_unnamed (talk_after before).served ≡ Some n → caller ≡ Some sel → WasAttested n sel (CallAttested caller ∷ before)
attested_now None n sel before is same = absurd (cc same)
attested_now (Some named) n sel before is same = let one : named ≡ sel = cc same in inl (is, one)

step_named : (step : Step) (before : List Step) → AllNamed (attested_in before) (talk_after before).served → AllNamed (attested_in (step ∷ before)) (step_said step (talk_after before)).after.served
unfolding break_said written
step_named (FrameCame f) before h = let Q = attested_in (FrameCame f ∷ before) in frame_each (NamedAs Q) (named_kept Q) f (talk_after before) (later (FrameCame f) before _ h)
step_named (BytesBroke why) before h = later (BytesBroke why) before _ h
step_named (CallAttested caller) before h =
    name_each (NamedAs (attested_in (CallAttested caller ∷ before))) caller (talk_after before) (λ n kind sel is same. attested_now caller n sel before is same) (later (CallAttested caller) before _ h)
step_named (TurnTaken x) before h = let Q = attested_in (TurnTaken x ∷ before) in turn_each (NamedAs Q) x (named_kept_on Q x) (talk_after before) (later (TurnTaken x) before _ h)
step_named (OutcomeCame o) before h = let Q = attested_in (OutcomeCame o ∷ before) in given_each (NamedAs Q) (named_kept Q) o (talk_after before) (later (OutcomeCame o) before _ h)

all_named : (steps : List Step) → AllNamed (attested_in steps) (talk_after steps).served
all_named [] = tt
all_named (step ∷ before) = step_named step before (all_named before)

pub begun_attested : StreamsHaveSelectors
begun_attested n steps =
    all_have n (λ steps turn. WasAttested n turn.selectors steps)
    (record {
      later = λ step before turn h. inr h;
      token = λ steps turn tokens h. h;
      taken = λ x before kind sel is. inr (stage_named (attested_in before) n kind sel (talk_after before).served (all_named before) is);
    })
    steps
