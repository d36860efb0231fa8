-- What turns, names, tokens and events do to a connection, for whatever holds of it through each thing that is given to it.
use Rattle.std.proofs.Common.{inl, inr, ℕ, ◌==◌, length, Bool, true, false, not, nat_lt, if◌then◌else◌, List, [], ◌∷◌, ◌++◌, Option, Some, None}
use Rattle.std.proofs.lemmas.Bool.{cases_Bool}
use Rattle.wl_session.proofs.Common.{block_bytes, Phase, on_open, with_head_on, with_trailers_on, after_reset, offers, withdraws, framed, response_fields, trailer_fields, refused_fields, Refusal, NoIdentity, LongResponse, UnknownService, Unsigned, Unattested, JwtItem, spell_jwt, capped, spell_state, Publication, ViewModel, view_in, answer_of, asks_of, Answer, Denied, Wait, TooLong, Message, Method3, Wanted, JwtAsk, JwtOutcome, CallKind, Stream, Tokens, Check, Watch, Stage, Unnamed, Ready, Asking, ServedCall, was_seen, Turned, goes_on, has_ended, with_refusal, with_message, with_last_message, stream_answer, health_of, token_answer, call_answer, stage_turn, call_turn, calls_turn, change_first, is_unnamed, name_call, name_stage, name_on, name_first, is_asking, item_for, next_ask, give_call, give_stage, give_on, give_first}
use Rattle.wl_session.specs.declared.asks.JwtOutcome.TheVariants as outcomes
use Rattle.wl_session.specs.Answering.{with_head, check_answer}
use Rattle.wl_session.specs.Tokens.{token_message}
use Rattle.wl_session.proofs.Attestations.{first_here, first_later, first_of_none}

-- it holds on through each thing that is given to a connection
pub record Lasts (Q : Phase → Type 0) : Type 0 where
  pub headed : (n : ℕ) (p : Phase) → Q p → Q (on_open (with_head_on n (block_bytes response_fields)) p)
  pub offered : (n : ℕ) (m : List ℕ) (p : Phase) → Q p → Q (offers n m p)
  pub silenced : (n : ℕ) (p : Phase) → Q p → Q (withdraws n p)
  pub refused : (n : ℕ) (r : Refusal) (alone : Bool) (p : Phase) → Q p → Q (on_open (with_trailers_on n (block_bytes (refused_fields r alone))) p)
  pub finished : (n : ℕ) (p : Phase) → Q p → Q (on_open (with_trailers_on n (block_bytes (trailer_fields 0 [] false))) p)
  pub reset : (n : ℕ) (p : Phase) → Q p → Q (on_open (after_reset n 1) p)

module _ (Q : Phase → Type 0) (lasts : Lasts Q) where
  -- ---- answers

  pub l_refusal : (n : ℕ) (headed : Bool) (r : Refusal) (p : Phase) → Q p → Q (with_refusal n headed r p)
  unfolding with_refusal
  l_refusal n headed r p h = lasts.refused n r (not headed) (withdraws n p) (lasts.silenced n p h)

  pub l_head : (n : ℕ) (headed : Bool) (p : Phase) → Q p → Q (with_head n headed p)
  unfolding with_head
  l_head n true p h = h
  l_head n false p h = lasts.headed n p h

  pub l_message : (n : ℕ) (headed : Bool) (m : List ℕ) (p : Phase) → Q p → Q (with_message n headed m p)
  unfolding with_message
  l_message n headed m p h = lasts.offered n (framed m) (with_head n headed p) (l_head n headed p h)

  pub l_last : (n : ℕ) (headed : Bool) (m : List ℕ) (p : Phase) → Q p → Q (with_last_message n headed m p)
  unfolding with_last_message
  l_last n headed m p h = lasts.finished n (with_message n headed m p) (l_message n headed m p h)

  -- ---- one call

  l_if : (b : Bool) (x y : Turned) → Q x.phase → Q y.phase → Q (if b then x else y).phase
  l_if true x y h k = h
  l_if false x y h k = k

  l_stream : (n : ℕ) (method : Method3) (sel : List (List ℕ)) (v : ViewModel) (headed : Bool) (a : Answer) (p : Phase) → Q p → Q (stream_answer n method sel v headed a p).phase
  l_stream n method sel v headed Denied p h = l_refusal n headed NoIdentity p h
  l_stream n method sel v headed Wait p h = lasts.silenced n p h
  l_stream n method sel v headed (TooLong size) p h = l_refusal n headed LongResponse p h
  l_stream n method sel v headed (Message m) p h = l_message n headed m p h

  l_tokens : (n : ℕ) (headed : Bool) (audience : List (List ℕ)) (ws : List Wanted) (p : Phase) → Q p → Q (token_answer n headed audience ws p).phase
  l_tokens n headed audience [] p h = l_refusal n headed NoIdentity p h
  l_tokens n headed audience (w ∷ ws) p h = h

  l_check : (n : ℕ) (headed : Bool) (state : ℕ) (p : Phase) → Q p → Q (check_answer n headed state p).phase
  l_check n headed state p h = l_if (state == 3) (has_ended (with_refusal n headed UnknownService p)) (has_ended (with_last_message n headed (spell_state state) p)) (l_refusal n headed UnknownService p h) (l_last n headed (spell_state state) p h)

  l_answer : (n : ℕ) (kind : CallKind) (sel : List (List ℕ)) (headed : Bool) (v : ViewModel) (p : Phase) → Q p → Q (call_answer n kind sel headed v p).phase
  unfolding call_answer
  l_answer n (Stream method) sel headed v p h = l_stream n method sel v headed (answer_of method v) p h
  l_answer n (Tokens audience id) sel headed v p h = l_tokens n headed audience (asks_of id v) p h
  l_answer n (Check service) sel headed v p h = l_check n headed (health_of service v) p h
  l_answer n (Watch service) sel headed v p h = l_message n headed (spell_state (health_of service v)) p h

  l_stage : (x : Publication) (n : ℕ) (s : Stage) (p : Phase) → Q p → Q (stage_turn x n s p).phase
  l_stage x n (Unnamed kind) p h = h
  l_stage x n (Ready kind sel seen headed) p h =
      l_if (was_seen seen (view_in x sel)) (goes_on n (Ready kind sel seen headed) p) (call_answer n kind sel headed (view_in x sel) p) h (l_answer n kind sel headed (view_in x sel) p h)
  l_stage x n (Asking first rest got) p h = h

  l_turn : (x : Publication) (c : ServedCall) (p : Phase) → Q p → Q (call_turn x c p).phase
  unfolding call_turn
  l_turn x c p h = l_stage x c.stream c.stage p h

  pub l_turns : (x : Publication) (cs : List ServedCall) (p : Phase) → Q p → Q (calls_turn x cs p).phase
  unfolding calls_turn
  l_turns x [] p h = h
  l_turns x (c ∷ cs) p h = l_turns x cs (call_turn x c p).phase (l_turn x c p h)

  -- ---- the first of a kind

  l_first : (test : ServedCall → Bool) (change : ServedCall → Phase → Turned) → ((c : ServedCall) (p : Phase) → Q p → Q (change c p).phase) → (cs : List ServedCall) (p : Phase) → Q p → Q (change_first test change cs p).phase
  l_first test change go [] p h = rw (first_of_none test change p) h
  l_first test change go (c ∷ cs) p h =
      elim (cases_Bool (test c)) [
        | inl here ↦ rw (first_here test change c cs p here) (go c p h)
        | inr later ↦ rw (first_later test change c cs p later) (l_first test change go cs p h)
      ]

  l_named : (sel : Option (List (List ℕ))) (n : ℕ) (kind : CallKind) (p : Phase) → Q p → Q (name_call n kind sel p).phase
  l_named (Some sel) n kind p h = h
  l_named None n kind p h = l_refusal n false Unattested p h

  l_name_stage : (sel : Option (List (List ℕ))) (n : ℕ) (s : Stage) (p : Phase) → Q p → Q (name_stage sel n s p).phase
  l_name_stage sel n (Unnamed kind) p h = l_named sel n kind p h
  l_name_stage sel n (Ready kind own seen headed) p h = h
  l_name_stage sel n (Asking first rest got) p h = h

  pub l_names : (sel : Option (List (List ℕ))) (cs : List ServedCall) (p : Phase) → Q p → Q (name_first sel cs p).phase
  unfolding name_first
  l_names sel cs p h = l_first is_unnamed (name_on sel) (λ c q k. l_name_stage sel c.stream c.stage q k) cs p h

  l_token_message : (n : ℕ) (m : List ℕ) (p : Phase) → Q p → Q (token_message n m p).phase
  l_token_message n m p h = l_if (nat_lt 4194304 (capped (length m))) (has_ended (with_refusal n false LongResponse p)) (has_ended (with_last_message n false m p)) (l_refusal n false LongResponse p h) (l_last n false m p h)

  l_next : (n : ℕ) (audience : List (List ℕ)) (ws : List Wanted) (got : List JwtItem) (p : Phase) → Q p → Q (next_ask n audience ws got p).phase
  l_next n audience [] got p h = l_token_message n (spell_jwt (record { svids = got })) p h
  l_next n audience (w ∷ ws) got p h = h

  l_give : (n : ℕ) (first : JwtAsk) (rest : List Wanted) (got : List JwtItem) (o : JwtOutcome) (p : Phase) → Q p → Q (give_call n first rest got o p).phase
  unfolding give_call
  l_give n first rest got (outcomes.Token t) p h = l_next n first.audience rest (got ++ item_for first t ∷ []) p h
  l_give n first rest got outcomes.Failed p h = l_refusal n false Unsigned p h
  l_give n first rest got (outcomes.Unfit u) p h = l_refusal n false Unsigned p h

  l_give_stage : (o : JwtOutcome) (n : ℕ) (s : Stage) (p : Phase) → Q p → Q (give_stage o n s p).phase
  l_give_stage o n (Unnamed kind) p h = h
  l_give_stage o n (Ready kind sel seen headed) p h = h
  l_give_stage o n (Asking first rest got) p h = l_give n first rest got o p h

  pub l_gives : (o : JwtOutcome) (cs : List ServedCall) (p : Phase) → Q p → Q (give_first o cs p).phase
  unfolding give_first
  l_gives o cs p h = l_first is_asking (give_on o) (λ c q k. l_give_stage o c.stream c.stage q k) cs p h
