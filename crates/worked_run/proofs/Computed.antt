-- The run is computed, step by step.
use Rattle.std.proofs.Common.{◌≡◌, ℕ, true, false, List, [], ◌∷◌, ◌++◌, codes, Option, Some, None, refl, sym, ap, subst, ◌∙◌, arith}
use Rattle.wl_snapshot.specs.declared.answers.Answer.{Answer}
use Rattle.wl_snapshot.specs.declared.answers.Answer.TheVariants.{Denied, Message}
use Rattle.wl_snapshot.specs.declared.answers.Method3.TheVariants.{X509Svid}
use Rattle.grpc_wire.specs.declared.method.Method.TheVariants as methods
use Rattle.h2_conn.specs.declared.phase.Phase.TheVariants.{Open}
use Rattle.h2_conn.specs.declared.state.State.{State}
use Rattle.h2_conn.specs.Conns.{new_state}
use Rattle.h2_flow.specs.Outboxes.{new_stream, new_outbox}
use Rattle.grpc_conn.specs.declared.standing.Standing.TheVariants.{Waiting}
use Rattle.wl_session.specs.declared.served.Stage.TheVariants.{Unnamed, Ready}
use Rattle.wl_session.specs.Talks.{Talking, fresh_talk}
use Rattle.wl_responses.specs.Steps.{Step, FrameCame, CallAttested, TurnTaken, step_said, talk_after}
use Rattle.wl_responses.specs.Replies.{AnsweringTurn, Replies, no_replies, stage_on, answering, turn_on, replies_after, replies_on}
use Rattle.std.specs.Fmt.{digits}
use Rattle.pb_wire.specs.Message.{fields_from}
use Rattle.pb_wire.specs.Strings.{message_of as request_fields}
use Rattle.pb_wire.specs.Varint.{varint}
use Rattle.workload_proto.specs.Requests.{asked_in, jwt_request_of, empty_of}
use Rattle.workload_proto.specs.Spelling.{spell_x509_item, spell_map_item, spell_jwt_item, x509_field, jwt_field, map_field, spell_x509, spell_bundles, spell_jwt_bundles, spell_jwt}
use Rattle.workload_proto.specs.Steps.{asked_more}
use Rattle.h2_headers.specs.Fields.{is_name, is_pseudo_field, is_value, is_hop_name, is_wrong_te, is_field}
use Rattle.h2_headers.specs.Heads.{is_request_name, names_request, is_good_head, are_good_trailers}
use Rattle.hpack.specs.Reading.{more_at, integer_at, string_at, name_at, literal_at, representation_at, block_in, headers_of}
use Rattle.hpack.specs.Tables.{static_table, list_size, evict_to_fit, entry_at}
use Rattle.hpack.specs.Writing.{more_in, more_bytes, integer_bytes, field_bytes}
use Rattle.hpack.specs.Huffman.{bits, code_offset, number_of, word}
use Rattle.hpack.specs.Tree.{branch_at, walk, huffman_text}
use Rattle.h2_flow.specs.Outboxes.{with_stream, without_stream, with_control, with_size_update, with_head, with_message, without_waiting, with_trailers, with_connection_step, with_stream_step, with_step, first_over, set_initial_window, pull_of}
use Rattle.h2_flow.specs.Pulls.{round, rounds, all_rounds}
use Rattle.h2_flow.specs.Streams.{headers_turn, data_turn, last_turn, next_turn, body_turn, turn}
use Rattle.h2_flow.specs.Progress.{after_writing}
use Rattle.h2_conn.specs.Conns.{frame_result, with_head_on, with_trailers_on, with_message_on, without_waiting_on, after_reset, answer_ends, after_pull, flush_of}
use Rattle.h2_conn.specs.Peer.{without_live_stream, stream_error, request_ends, with_window_update, after_table_size, set_one, set_frame, reset_frame, data_on, with_data_count, with_new_stream, after_trailers, peer}
use Rattle.grpc_wire.specs.Answers.{percent_encoded, response_fields, trailer_fields, refused_fields}
use Rattle.grpc_wire.specs.Heads.{method_verdict, head_verdict}
use Rattle.grpc_wire.specs.Messages.{framed, prefix_of, first_message, messages_in, messages_of, reading_from}
use Rattle.grpc_wire.specs.Methods.{method_of}
use Rattle.grpc_conn.specs.Calls.{event_of, standing_after, standing_of_head}
use Rattle.grpc_conn.specs.Requests.{request_of}
use Rattle.grpc_conn.specs.Verdicts.{body_verdict, verdict}
use Rattle.wl_selector.specs.Selectors.{selector_fault, sorted_texts, has_text, has_texts}
use Rattle.wl_entry.specs.Entitled.{is_entitled}
use Rattle.sorted_lists.specs.Keys.{item_at, place_at}
use Rattle.wl_snapshot.specs.Views.{held_of, is_federated, is_seen, view_model_of, view_in, entries_at, is_whole}
use Rattle.wl_snapshot.specs.Answers.{x509_bundle, x509_items, federated_item, x509_map_item, jwks_map_item, x509_message, bundles_message, jwt_bundles_message, message_of, answer_of, asks_of}
use Rattle.wl_session.specs.Answering.{with_head as with_response_head, with_message as with_response_message, with_last_message, with_refusal, call_answer, call_turn, calls_turn}
use Rattle.wl_session.specs.Kinds.{kind_of}
use Rattle.wl_session.specs.Sessions.{feed_said, turn_said, given_said, name_said}
use Rattle.wl_session.specs.Talks.{after_event, after_body, after_happening, after_frame, settings_bytes, written, frame_said, frames_said, break_said}
use Rattle.wl_session.specs.Tokens.{change_first, name_first, give_call, give_first}
use Rattle.wl_responses.specs.Replies.{replies_with}
use Rattle.worked_run.specs.FirstRun.{publication, caller, other_caller, kind, settings, head, request, run_of, turn_of, response, FirstRunIsAnswered, OneTextAnswers, OtherCallerGetsNone, NoTextAnswers, OtherCallerIsDenied, NoTurnNoAnswer, RunsFit}

pub runs_fit : RunsFit
runs_fit = ((((((tt, (omega arith, tt)), (omega arith, tt)), (omega arith, (omega arith, omega arith))), tt), tt), (((((tt, (omega arith, tt)), (omega arith, tt)), (omega arith, (omega arith, omega arith))), tt), tt))

-- ---- the talk after each step

abbrev settled : State
settled = record new_state { settings_received = true; settings_count = 1 }

abbrev opened : State
opened = record new_state { settings_received = true; last_stream_id = 1; streams = record { number = 1; remote_closed = false; local_closed = false } ∷ []; outbox = record new_outbox { streams = new_stream 1 ∷ [] } }

abbrev asked : State
asked = record opened { streams = record { number = 1; remote_closed = true; local_closed = false } ∷ [] }

abbrev talk1 : Talking
talk1 = record { greeted = true; phase = Open settled; calls = []; served = [] }

abbrev talk2 : Talking
talk2 = record { greeted = true; phase = Open opened; calls = record { stream = 1; standing = Waiting methods.X509Svid [] } ∷ []; served = [] }

abbrev talk3 : Talking
talk3 = record { greeted = true; phase = Open asked; calls = []; served = record { stream = 1; stage = Unnamed kind } ∷ [] }

abbrev talk4 : List (List ℕ) → Talking
talk4 selectors = record talk3 { served = record { stream = 1; stage = Ready kind selectors None false } ∷ [] }

-- ---- by evaluation

-- each step, and what is written in it, with every definition of the path opened
record Evaluated : Type 0 where
  step1 : (step_said (FrameCame settings) fresh_talk).after ≡ talk1
  step2 : (step_said (FrameCame head) talk1).after ≡ talk2
  step3 : (step_said (FrameCame request) talk2).after ≡ talk3
  step4 : (selectors : List (List ℕ)) → (step_said (CallAttested (Some selectors)) talk3).after ≡ talk4 selectors
  quiet1 : replies_after 1 (FrameCame settings) fresh_talk None no_replies ≡ no_replies
  quiet2 : replies_after 1 (FrameCame head) talk1 None no_replies ≡ no_replies
  quiet3 : replies_after 1 (FrameCame request) talk2 None no_replies ≡ no_replies
  quiet4 : (selectors : List (List ℕ)) → replies_after 1 (CallAttested (Some selectors)) talk3 None no_replies ≡ no_replies
  answer : replies_after 1 (TurnTaken publication) (talk4 caller) (Some (turn_of caller)) no_replies ≡ record { begun = record { bytes = response; turn = Some (turn_of caller) } ∷ []; written = response; left = [] }
  no_answer : replies_after 1 (TurnTaken publication) (talk4 other_caller) (Some (turn_of other_caller)) no_replies ≡ no_replies

evaluated : Evaluated
unfolding digits fields_from request_fields varint asked_in jwt_request_of empty_of spell_x509_item spell_map_item spell_jwt_item x509_field jwt_field map_field spell_x509 spell_bundles spell_jwt_bundles spell_jwt asked_more is_name is_pseudo_field is_value is_hop_name is_wrong_te is_field is_request_name names_request is_good_head are_good_trailers more_at integer_at string_at name_at literal_at representation_at block_in headers_of static_table list_size evict_to_fit entry_at more_in more_bytes integer_bytes field_bytes bits code_offset number_of word branch_at walk huffman_text with_stream without_stream with_control with_size_update with_head with_message without_waiting with_trailers with_connection_step with_stream_step with_step first_over set_initial_window pull_of round rounds all_rounds headers_turn data_turn last_turn next_turn body_turn turn after_writing frame_result with_head_on with_trailers_on with_message_on without_waiting_on after_reset answer_ends after_pull flush_of without_live_stream stream_error request_ends with_window_update after_table_size set_one set_frame reset_frame data_on with_data_count with_new_stream after_trailers peer percent_encoded response_fields trailer_fields refused_fields method_verdict head_verdict framed prefix_of first_message messages_in messages_of reading_from method_of event_of standing_after standing_of_head request_of body_verdict verdict selector_fault sorted_texts has_text has_texts is_entitled item_at place_at held_of is_federated is_seen view_model_of view_in entries_at is_whole x509_bundle x509_items federated_item x509_map_item jwks_map_item x509_message bundles_message jwt_bundles_message message_of answer_of asks_of with_response_head with_response_message with_last_message with_refusal call_answer call_turn calls_turn kind_of feed_said turn_said given_said name_said after_event after_body after_happening after_frame settings_bytes written frame_said frames_said break_said change_first name_first give_call give_first replies_with
evaluated = record {
  step1 = refl;
  step2 = refl;
  step3 = refl;
  step4 = λ selectors. refl;
  quiet1 = refl;
  quiet2 = refl;
  quiet3 = refl;
  quiet4 = λ selectors. refl;
  answer = refl;
  no_answer = refl;
}

-- ---- all steps

after2 : talk_after (FrameCame head ∷ FrameCame settings ∷ []) ≡ talk2
after2 = ap (λ (t : Talking). (step_said (FrameCame head) t).after) evaluated.step1 ∙ evaluated.step2

after3 : talk_after (FrameCame request ∷ FrameCame head ∷ FrameCame settings ∷ []) ≡ talk3
after3 = ap (λ (t : Talking). (step_said (FrameCame request) t).after) after2 ∙ evaluated.step3

after4 : (selectors : List (List ℕ)) → talk_after (CallAttested (Some selectors) ∷ FrameCame request ∷ FrameCame head ∷ FrameCame settings ∷ []) ≡ talk4 selectors
after4 selectors = ap (λ (t : Talking). (step_said (CallAttested (Some selectors)) t).after) after3 ∙ evaluated.step4 selectors

-- ---- what is written on the stream

next : (step : Step) (before : List Step) (t : Talking) (turn : Option AnsweringTurn) (old out : Replies) → talk_after before ≡ t → turn_on 1 (step ∷ before) ≡ turn → replies_on 1 before ≡ old → replies_after 1 step t turn old ≡ out → replies_on 1 (step ∷ before) ≡ out
next step before t turn old out is same had now =
    subst (λ (u : Talking). replies_after 1 step u (turn_on 1 (step ∷ before)) (replies_on 1 before) ≡ out) (sym is)
    (subst (λ (v : Option AnsweringTurn). replies_after 1 step t v (replies_on 1 before) ≡ out) (sym same)
    (subst (λ (r : Replies). replies_after 1 step t turn r ≡ out) (sym had) now))

replies2 : replies_on 1 (FrameCame head ∷ FrameCame settings ∷ []) ≡ no_replies
replies2 = next (FrameCame head) (FrameCame settings ∷ []) talk1 None no_replies no_replies evaluated.step1 refl evaluated.quiet1 evaluated.quiet2

replies3 : replies_on 1 (FrameCame request ∷ FrameCame head ∷ FrameCame settings ∷ []) ≡ no_replies
replies3 = next (FrameCame request) (FrameCame head ∷ FrameCame settings ∷ []) talk2 None no_replies no_replies after2 refl replies2 evaluated.quiet3

replies4 : (selectors : List (List ℕ)) → replies_on 1 (CallAttested (Some selectors) ∷ FrameCame request ∷ FrameCame head ∷ FrameCame settings ∷ []) ≡ no_replies
replies4 selectors = next (CallAttested (Some selectors)) (FrameCame request ∷ FrameCame head ∷ FrameCame settings ∷ []) talk3 None no_replies no_replies after3 refl replies3 (evaluated.quiet4 selectors)

turn_is : (selectors : List (List ℕ)) → turn_on 1 (run_of selectors) ≡ Some (turn_of selectors)
turn_is selectors = ap (λ (t : Talking). answering publication (stage_on 1 t.served) None) (after4 selectors)

pub first_run_answered : FirstRunIsAnswered
first_run_answered =
    next (TurnTaken publication) (CallAttested (Some caller) ∷ FrameCame request ∷ FrameCame head ∷ FrameCame settings ∷ []) (talk4 caller) (Some (turn_of caller)) no_replies _ (after4 caller) (turn_is caller) (replies4 caller) evaluated.answer

pub other_caller_none : OtherCallerGetsNone
other_caller_none =
    next (TurnTaken publication) (CallAttested (Some other_caller) ∷ FrameCame request ∷ FrameCame head ∷ FrameCame settings ∷ []) (talk4 other_caller) (Some (turn_of other_caller)) no_replies _ (after4 other_caller) (turn_is other_caller) (replies4 other_caller) evaluated.no_answer

pub other_caller_denied : OtherCallerIsDenied
unfolding answer_of message_of x509_message x509_items x509_bundle federated_item view_in view_model_of held_of is_federated is_seen is_whole item_at is_entitled has_texts has_text spell_x509 x509_field spell_x509_item map_field varint
other_caller_denied = refl

-- ---- one text

abbrev message : List ℕ
message = 10 ∷ 25 ∷ 10 ∷ 14 ∷ codes "spiffe://a.b/w" ++ 18 ∷ 1 ∷ 1 ∷ 26 ∷ 1 ∷ 2 ∷ 34 ∷ 1 ∷ 3 ∷ []

answer_is : answer_of X509Svid (view_in publication caller) ≡ Message message
unfolding answer_of message_of x509_message x509_items x509_bundle federated_item view_in view_model_of held_of is_federated is_seen is_whole item_at is_entitled has_texts has_text spell_x509 x509_field spell_x509_item map_field varint
answer_is = refl

none_is : answer_of X509Svid (view_in publication other_caller) ≡ Denied
unfolding answer_of message_of x509_message x509_items x509_bundle federated_item view_in view_model_of held_of is_federated is_seen is_whole item_at is_entitled has_texts has_text spell_x509 x509_field spell_x509_item map_field varint
none_is = refl

framed_is : framed message ≡ response
unfolding framed
framed_is = refl

message_is : (a b : List ℕ) → Message a ≡ Message b → b ≡ a
message_is a b e = let same : a ≡ b = cc in sym same

same_message : (answer : Answer) (a b : List ℕ) → answer ≡ Message a → answer ≡ Message b → b ≡ a
same_message answer a b e f = message_is a b (sym e ∙ f)

no_message : (answer : Answer) (m : List ℕ) → answer ≡ Denied → answer ≡ Message m → ⊥
no_message answer m e f = absurd (cc (e, f))

pub one_text : OneTextAnswers
one_text = (
  (message, answer_is, sym framed_is),
  λ bytes h. h.2 ∙ (ap framed (same_message (answer_of X509Svid (view_in publication caller)) message h.0 answer_is h.1) ∙ framed_is),
)

pub no_text : NoTextAnswers
no_text bytes h = no_message (answer_of X509Svid (view_in publication other_caller)) h.0 none_is h.1

pub no_turn : NoTurnNoAnswer
no_turn bytes h = h
