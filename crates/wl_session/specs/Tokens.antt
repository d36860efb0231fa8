-- A name for the first unnamed call, and an outcome for the first ask (own rules).
use Rattle.std.specs.Prelude.{ℕ, Bool, true, false, nat_lt, if◌then◌else◌, List, [], ◌∷◌, ◌++◌, length, take, drop, find, Option, Some, None}
use Rattle.std.specs.List.{position_or_len}
use Rattle.h2_conn.specs.declared.phase.Phase.{Phase}
use Rattle.grpc_wire.specs.declared.refusal.Refusal.TheVariants.{LongResponse, Unsigned, Unattested}
use Rattle.workload_proto.specs.declared.message.JwtItem.{JwtItem}
use Rattle.workload_proto.specs.Spelling.{spell_jwt, capped}
use Rattle.wl_entry.specs.declared.tokens.JwtToken.{JwtToken}
use Rattle.wl_snapshot.specs.declared.token_asks.Wanted.{Wanted}
use Rattle.wl_session.specs.declared.asks.JwtAsk.{JwtAsk}
use Rattle.wl_session.specs.declared.asks.JwtOutcome.{JwtOutcome}
use Rattle.wl_session.specs.declared.asks.JwtOutcome.TheVariants.{Token, Failed, Unfit}
use Rattle.wl_session.specs.declared.served.CallKind.{CallKind}
use Rattle.wl_session.specs.declared.served.Stage.{Stage}
use Rattle.wl_session.specs.declared.served.Stage.TheVariants.{Unnamed, Ready, Asking}
use Rattle.wl_session.specs.declared.served.ServedCall.{ServedCall}
use Rattle.wl_session.specs.Answering.{Turned, goes_on, has_ended, with_refusal, with_last_message, ask_on}

-- ---- the first of a kind

-- those before it, what becomes of it, and those after it
abbrev pub change_in : (ServedCall → Phase → Turned) → List ServedCall → List ServedCall → Phase → Turned
change_in change front [] p = record { phase = p; kept = front }
change_in change front (c ∷ rest) p =
    let r = change c p in
    record { phase = r.phase; kept = front ++ (r.kept ++ rest) }

unfoldable pub change_first : (ServedCall → Bool) → (ServedCall → Phase → Turned) → List ServedCall → Phase → Turned
change_first test change cs p = change_in change (take (position_or_len test cs) cs) (drop (position_or_len test cs) cs) p

-- ---- names

abbrev pub is_unnamed_stage : Stage → Bool
is_unnamed_stage (Unnamed kind) = true
is_unnamed_stage (Ready kind sel seen headed) = false
is_unnamed_stage (Asking first rest got) = false

abbrev pub is_unnamed : ServedCall → Bool
is_unnamed c = is_unnamed_stage c.stage

-- a call takes its selectors, or ends where its caller was not attested
abbrev pub name_call : ℕ → CallKind → Option (List (List ℕ)) → Phase → Turned
name_call n kind (Some sel) p = goes_on n (Ready kind sel None false) p
name_call n kind None p = has_ended (with_refusal n false Unattested p)

abbrev pub name_stage : Option (List (List ℕ)) → ℕ → Stage → Phase → Turned
name_stage sel n (Unnamed kind) p = name_call n kind sel p
name_stage sel n (Ready kind own seen headed) p = goes_on n (Ready kind own seen headed) p
name_stage sel n (Asking first rest got) p = goes_on n (Asking first rest got) p

abbrev pub name_on : Option (List (List ℕ)) → ServedCall → Phase → Turned
name_on sel c p = name_stage sel c.stream c.stage p

unfoldable pub name_first : Option (List (List ℕ)) → List ServedCall → Phase → Turned
name_first sel cs p = change_first is_unnamed (name_on sel) cs p

-- the stream of the lowest ready call that was not attested
abbrev pub stream_of : Option ServedCall → Option ℕ
stream_of None = None
stream_of (Some c) = Some c.stream

abbrev pub first_unnamed : List ServedCall → Option ℕ
first_unnamed cs = stream_of (find is_unnamed cs)

-- ---- tokens

abbrev pub is_asking_stage : Stage → Bool
is_asking_stage (Unnamed kind) = false
is_asking_stage (Ready kind sel seen headed) = false
is_asking_stage (Asking first rest got) = true

abbrev pub is_asking : ServedCall → Bool
is_asking c = is_asking_stage c.stage

-- the token of an ask, as the response has it
abbrev pub item_for : JwtAsk → JwtToken → JwtItem
item_for a t = record { spiffe_id = a.ask.spiffe_id; svid = t.token; hint = a.hint }

-- the message of all tokens, and status 0
abbrev pub token_message : ℕ → List ℕ → Phase → Turned
token_message n m p = if nat_lt 4194304 (capped (length m)) then has_ended (with_refusal n false LongResponse p) else has_ended (with_last_message n false m p)

-- the next ask, or the message where none is left
abbrev pub next_ask : ℕ → List (List ℕ) → List Wanted → List JwtItem → Phase → Turned
next_ask n audience [] got p = token_message n (spell_jwt (record { svids = got })) p
next_ask n audience (w ∷ ws) got p = goes_on n (Asking (ask_on n audience w) ws got) p

-- where one token cannot be had, the other asks are dropped
unfoldable pub give_call : ℕ → JwtAsk → List Wanted → List JwtItem → JwtOutcome → Phase → Turned
give_call n first rest got (Token t) p = next_ask n first.audience rest (got ++ item_for first t ∷ []) p
give_call n first rest got Failed p = has_ended (with_refusal n false Unsigned p)
give_call n first rest got (Unfit u) p = has_ended (with_refusal n false Unsigned p)

abbrev pub give_stage : JwtOutcome → ℕ → Stage → Phase → Turned
give_stage o n (Unnamed kind) p = goes_on n (Unnamed kind) p
give_stage o n (Ready kind sel seen headed) p = goes_on n (Ready kind sel seen headed) p
give_stage o n (Asking first rest got) p = give_call n first rest got o p

abbrev pub give_on : JwtOutcome → ServedCall → Phase → Turned
give_on o c p = give_stage o c.stream c.stage p

unfoldable pub give_first : JwtOutcome → List ServedCall → Phase → Turned
give_first o cs p = change_first is_asking (give_on o) cs p

-- the first waiting ask, by stream and then entry id
abbrev pub ask_of_stage : Stage → Option JwtAsk
ask_of_stage (Unnamed kind) = None
ask_of_stage (Ready kind sel seen headed) = None
ask_of_stage (Asking first rest got) = Some first

abbrev pub ask_of_call : Option ServedCall → Option JwtAsk
ask_of_call None = None
ask_of_call (Some c) = ask_of_stage c.stage

abbrev pub first_ask : List ServedCall → Option JwtAsk
first_ask cs = ask_of_call (find is_asking cs)
