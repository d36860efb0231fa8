-- From how a run ends to the rows of its statuses.
use Rattle.std.specs.Prelude.{◌≡◌, ◌⊎◌, ℕ, List, Option, Some, None, true, Result, Ok, Err}
use Rattle.std.proofs.Common.{refl, sym, ◌∙◌, ap, subst, inl, inr}
use Rattle.wl_edge.specs.Edge.{Drained}
use Rattle.wl_document.specs.declared.fault.DocFault.{DocFault}
use Rattle.wl_document.specs.States.{State}
use Rattle.wl_document.specs.Documents.{document_state}
use Rattle.wl_snapshot.specs.declared.answers.Answer.{Answer}
use Rattle.wl_snapshot.specs.declared.answers.Answer.TheVariants.{Denied, Wait, TooLong, Message}
use Rattle.wl_replay.specs.declared.fault.ScriptFault.{ScriptFault}
use Rattle.wl_replay.specs.declared.script.Script.{Script}
use Rattle.wl_replay.specs.Scripts.{script_of}
use Rattle.wl_replay.specs.Replays.{replayed}
use Rattle.wl_agent.specs.declared.command.Command.{Command}
use Rattle.wl_agent.specs.declared.command.Command.TheVariants.{Read, Simulate}
use Rattle.wl_agent.specs.declared.command.Reading.{Reading}
use Rattle.wl_agent.specs.declared.command.Reading.TheVariants.{Preview, Check, Replay}
use Rattle.wl_agent.specs.Outcomes.{answer_outcome, preview_outcome, check_outcome, script_outcome, transcript_outcome, outcome_of, preview_answer}
use Rattle.wl_agent.specs.declared.outcome.Outcome.{Outcome}
use Rattle.wl_agent.specs.declared.program.TheConstants.{READ_LIMIT}
use Rattle.wl_agent.specs.declared.status.TheConstants.{READ_FAILED, WRITE_FAILED, OUT_OF_MEMORY}
use Rattle.wl_agent.specs.Ends.{Traffic, Wrote, IsOutcome, reads, Ends, StatusExplains, StatusGiven, lacks_memory, fails_read, fails_write, ends_well, previewed, checked, replayed_script, counted, unfit, faulted, misread, misbegun, denied, waits, long, unread, unwritten, memory}

-- the output of an answer explains its status
answered : (selectors : List (List ℕ)) (t : Traffic) (document : List ℕ) → Drained t.content READ_LIMIT document → (s : State) → document_state None document ≡ Ok s → (a : Answer) → preview_answer selectors s ≡ a → Wrote t (answer_outcome a).output → StatusExplains (Some (Read (Preview selectors))) t (answer_outcome a).status
answered selectors t document read s has Denied is gained = denied (record { selectors = selectors; previews = refl; document = document; read = read; state = s; has = has; answers = is }) gained
answered selectors t document read s has Wait is gained = waits (record { selectors = selectors; previews = refl; document = document; read = read; state = s; has = has; answers = is }) gained
answered selectors t document read s has (TooLong n) is gained = long n (record { selectors = selectors; previews = refl; document = document; read = read; state = s; has = has; answers = is }) gained
answered selectors t document read s has (Message m) is gained = previewed m (record { selectors = selectors; previews = refl; document = document; read = read; state = s; has = has; answers = is }) gained

previewing : (selectors : List (List ℕ)) (t : Traffic) (document : List ℕ) → Drained t.content READ_LIMIT document → (r : Result State DocFault) → document_state None document ≡ r → Wrote t (preview_outcome selectors r).output → StatusExplains (Some (Read (Preview selectors))) t (preview_outcome selectors r).status
previewing selectors t document read (Ok s) has gained = answered selectors t document read s has (preview_answer selectors s) refl gained
previewing selectors t document read (Err e) has gained = faulted e (record { fits = tt; document = document; read = read; first = has }) gained

checking : (t : Traffic) (document : List ℕ) → Drained t.content READ_LIMIT document → (r : Result State DocFault) → document_state None document ≡ r → Wrote t (check_outcome r).output → StatusExplains (Some (Read Check)) t (check_outcome r).status
checking t document read (Ok s) has gained = checked s (record { checks = refl; document = document; read = read; has = has }) gained
checking t document read (Err e) has gained = faulted e (record { fits = tt; document = document; read = read; first = has }) gained

begun : (t : Traffic) (input : List ℕ) → Drained t.content READ_LIMIT input → (s : Script) → script_of input ≡ Ok s → (r : Result (List ℕ) DocFault) → replayed s ≡ r → Wrote t (transcript_outcome r).output → StatusExplains (Some (Read Replay)) t (transcript_outcome r).status
begun t input read s is (Ok text) has gained = replayed_script s text (record { replays = refl; input = input; read = read; says = is }) has gained
begun t input read s is (Err e) has gained = misbegun s e (record { replays = refl; input = input; read = read; says = is }) has gained

replaying : (t : Traffic) (input : List ℕ) → Drained t.content READ_LIMIT input → (r : Result Script ScriptFault) → script_of input ≡ r → Wrote t (script_outcome r).output → StatusExplains (Some (Read Replay)) t (script_outcome r).status
replaying t input read (Ok s) is gained = begun t input read s is (replayed s) refl gained
replaying t input read (Err e) is gained = misread e (record { replays = refl; input = input; read = read; says = is }) gained

on_input : (r : Reading) (t : Traffic) (document : List ℕ) → Drained t.content READ_LIMIT document → Wrote t (outcome_of r document).output → StatusExplains (Some (Read r)) t (outcome_of r document).status
unfolding outcome_of
on_input (Preview selectors) t document read gained = previewing selectors t document read (document_state None document) refl gained
on_input Check t document read gained = checking t document read (document_state None document) refl gained
on_input Replay t input read gained = replaying t input read (script_of input) refl gained

explains_done : (command : Option Command) (t : Traffic) (outcome : Outcome) → IsOutcome command t.content outcome → Wrote t outcome.output → StatusExplains command t outcome.status
explains_done None t outcome is gained = subst (λ n. StatusExplains None t n) (sym (ap (λ (o : Outcome). o.status) is)) (unfit refl (subst (λ (o : Outcome). Wrote t o.output) is gained))
explains_done (Some (Read r)) t outcome is gained =
    subst (λ n. StatusExplains (Some (Read r)) t n) (sym (ap (λ (o : Outcome). o.status) is.2)) (on_input r t is.0 is.1 (subst (λ (o : Outcome). Wrote t o.output) is.2 gained))
explains_done (Some (Simulate s)) t outcome is gained =
    subst (λ n. StatusExplains (Some (Simulate s)) t n) (sym (ap (λ (o : Outcome). o.status) is.2)) (counted s is.0 refl is.1 (subst (λ (o : Outcome). Wrote t o.output) is.2 gained))

pub explained : (command : Option Command) (t : Traffic) (status : ℕ) → Ends command t status → StatusExplains command t status
explained command t status (lacks_memory same) = memory same
explained command t status (fails_read fits rose same) = unread fits rose same
explained command t status (fails_write outcome is rose prefix) = unwritten outcome is rose prefix
explained command t status (ends_well outcome is gained) = explains_done command t outcome is gained

given_done : (command : Option Command) (content : Option (List ℕ)) (outcome : Outcome) → IsOutcome command content outcome → StatusGiven command content outcome.status
given_done None content outcome is = inl (ap (λ (o : Outcome). o.status) is)
given_done (Some (Read r)) None outcome is = tt
given_done (Some (Read r)) (Some bytes) outcome is = inl (ap (λ (o : Outcome). o.status) is.2 ∙ ap (λ document. (outcome_of r document).status) is.1)
given_done (Some (Simulate s)) content outcome is = inl (ap (λ (o : Outcome). o.status) is.2)

yields_read : (command : Option Command) (content : Option (List ℕ)) → reads command ≡ true → StatusGiven command content READ_FAILED
yields_read None content fits = absurd cc
yields_read (Some (Read r)) None fits = tt
yields_read (Some (Read r)) (Some bytes) fits = inr (inl refl)
yields_read (Some (Simulate s)) content fits = absurd cc

yields : (command : Option Command) (content : Option (List ℕ)) (status : ℕ) → (status ≡ WRITE_FAILED) ⊎ (status ≡ OUT_OF_MEMORY) → StatusGiven command content status
yields None content status why = inr why
yields (Some (Read r)) None status why = tt
yields (Some (Read r)) (Some bytes) status why = inr (inr why)
yields (Some (Simulate s)) content status why = inr why

pub status_given : (command : Option Command) (t : Traffic) (status : ℕ) → Ends command t status → StatusGiven command t.content status
status_given command t status (lacks_memory same) = yields command t.content OUT_OF_MEMORY (inr refl)
status_given command t status (fails_read fits rose same) = yields_read command t.content fits
status_given command t status (fails_write outcome is rose prefix) = yields command t.content WRITE_FAILED (inl refl)
status_given command t status (ends_well outcome is gained) = given_done command t.content outcome is
