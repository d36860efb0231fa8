-- What callers are attested as isn't part of a talk: a talk without it goes on alike.
use Rattle.std.proofs.Common.{◌≡◌, ℕ, ◌==◌, Bool, true, false, not, nat_lt, if◌then◌else◌, List, [], ◌∷◌, ◌++◌, map, length, Option, Some, None, refl, sym, ap, ◌∙◌}
use Rattle.std.proofs.lemmas.List.{append-nil, map-append}
use Rattle.wl_session.proofs.Common.{FrameFault, Frame, End, Opening, Rest, Fault, Reading, ConnFault, Happening, Phase, frame_result, frame_fault_on, after_frame_fault, LongResponse, UnknownService, CallEvent, verdict, standing_of_head, standing_at, event_at, calls_after, with_call, JwtItem, spell_jwt, capped, spell_state, Publication, ViewModel, view_in, answer_of, asks_of, Answer, Denied, Wait, TooLong, Message, Method3, Wanted, JwtAsk, JwtOutcome, CallKind, Stream, Tokens, Check, Watch, Stage, Unnamed, Ready, Asking, ServedCall, was_seen, Turned, goes_on, has_ended, with_refusal, with_last_message, stream_answer, health_of, token_answer, call_answer, stage_turn, call_turn, turn_before, calls_turn, change_first, is_unnamed, name_stage, name_on, name_first, is_asking, item_for, next_ask, give_call, give_stage, give_on, give_first, Talking, Said, first_of, then_, silent, written, with_served, after_event, after_body, after_happening, after_happenings, after_frame, frame_said, frames_said, break_said, with_turned, ended_by, feed_said, turn_said, name_said, given_said, names_said}
use Rattle.h2_conn.specs.declared.happening.Happening.TheVariants as happening
use Rattle.grpc_conn.specs.declared.event.CallEvent.TheVariants.{Nothing, Malformed, Refuse}
use Rattle.grpc_conn.specs.declared.event.CallEvent.TheVariants as calls
use Rattle.grpc_conn.specs.Calls.{without}
use Rattle.wl_session.specs.declared.asks.JwtOutcome.TheVariants as outcomes
use Rattle.wl_session.specs.Kinds.{kind_of}
use Rattle.wl_session.specs.Tokens.{is_unnamed_stage, is_asking_stage}
use Rattle.wl_session.specs.Talks.{others}
use Rattle.wl_session.proofs.ItemSequences.{then_assoc, then_silent}
use Rattle.wl_session.specs.Items.{Item, FrameItem, BrokenItem, answered_where, calls_on, views_said, item_said, items_said, attestation, broken_items, reading_items, stage_view, call_view}
use Rattle.wl_session.proofs.Attestations.{first_here, first_later, first_of_none}

-- ---- without what callers are attested as

abbrev pub blind_stage : Stage → Stage
blind_stage (Unnamed kind) = Unnamed kind
blind_stage (Ready kind sel seen headed) = Ready kind [] seen headed
blind_stage (Asking first rest got) = Asking first rest got

abbrev pub blind_call : ServedCall → ServedCall
blind_call c = record { stream = c.stream; stage = blind_stage c.stage }

abbrev pub blind : Talking → Talking
blind t = record { greeted = t.greeted; phase = t.phase; calls = t.calls; served = map blind_call t.served }

abbrev pub blind_said : Said → Said
blind_said s = record { after = blind s.after; bytes = s.bytes; fault = s.fault }

abbrev pub blind_turned : Turned → Turned
blind_turned r = record { phase = r.phase; kept = map blind_call r.kept }

pub written_blind : (fault : Option ConnFault) (t : Talking) → written fault (blind t) ≡ blind_said (written fault t)
unfolding written
written_blind fault t = refl

-- one after the other
pub then_blind : (s : Said) (f g : Talking → Said) → f (blind s.after) ≡ blind_said (g s.after) → then_ (blind_said s) f ≡ blind_said (then_ s g)
then_blind s f g is = ap (λ (r : Said). record { after = r.after; bytes = s.bytes ++ r.bytes; fault = first_of s.fault r.fault }) is

-- ---- frames

pub served_go : (c d : ServedCall) (ds : List ServedCall) (b : Bool) → blind_call c ≡ c → with_served c (map blind_call ds) ≡ map blind_call (with_served c ds)
    → (if b then c ∷ blind_call d ∷ map blind_call ds else blind_call d ∷ with_served c (map blind_call ds)) ≡ map blind_call (if b then c ∷ d ∷ ds else d ∷ with_served c ds)
served_go c d ds true is rest = ap (λ (x : ServedCall). x ∷ blind_call d ∷ map blind_call ds) (sym is)
served_go c d ds false is rest = ap (λ (xs : List ServedCall). blind_call d ∷ xs) rest

pub served_blind : (c : ServedCall) (cs : List ServedCall) → blind_call c ≡ c → with_served c (map blind_call cs) ≡ map blind_call (with_served c cs)
served_blind c [] is = ap (λ (x : ServedCall). x ∷ []) (sym is)
served_blind c (d ∷ ds) is = served_go c d ds (nat_lt c.stream d.stream) is (served_blind c ds is)

pub others_go : (c : ServedCall) (xs ys : List ServedCall) (b : Bool) → xs ≡ map blind_call ys → (if b then blind_call c ∷ xs else xs) ≡ map blind_call (if b then c ∷ ys else ys)
others_go c xs ys true is = ap (λ (zs : List ServedCall). blind_call c ∷ zs) is
others_go c xs ys false is = is

pub others_blind : (n : ℕ) (cs : List ServedCall) → others n (map blind_call cs) ≡ map blind_call (others n cs)
others_blind n [] = refl
others_blind n (c ∷ cs) = others_go c (others n (map blind_call cs)) (others n cs) (not (c.stream == n)) (others_blind n cs)

pub event_blind : (n : ℕ) (e : CallEvent) (t : Talking) → after_event n e (blind t) ≡ blind (after_event n e t)
unfolding after_event
event_blind n Nothing t = refl
event_blind n Malformed t = refl
event_blind n (Refuse r) t = refl
event_blind n (calls.Ready method message request) t =
    ap (λ (cs : List ServedCall). record { greeted = t.greeted; phase = t.phase; calls = without n t.calls; served = cs })
    (served_blind (record { stream = n; stage = Unnamed (kind_of method request) }) t.served refl)

pub happening_blind : (h : Happening) (t : Talking) → after_happening h (blind t) ≡ blind (after_happening h t)
unfolding after_happening after_body
happening_blind (happening.Head n headers ended) t = event_blind n (verdict headers [] ended) (record t { calls = with_call n (standing_of_head headers ended) t.calls })
happening_blind (happening.Body n bytes ended) t = event_blind n (event_at (standing_at n t.calls) bytes ended) (record t { calls = calls_after n bytes ended t.calls })
happening_blind (happening.End n) t = event_blind n (event_at (standing_at n t.calls) [] true) (record t { calls = calls_after n [] true t.calls })
happening_blind (happening.Gone n) t =
    ap (λ (cs : List ServedCall). record { greeted = t.greeted; phase = t.phase; calls = without n t.calls; served = cs }) (others_blind n t.served)

pub happenings_blind : (hs : List Happening) (t : Talking) → after_happenings hs (blind t) ≡ blind (after_happenings hs t)
happenings_blind [] t = refl
happenings_blind (h ∷ hs) t = ap (after_happenings hs) (happening_blind h t) ∙ happenings_blind hs (after_happening h t)

pub frame_blind : (f : Frame) (t : Talking) → after_frame f (blind t) ≡ blind (after_frame f t)
unfolding after_frame
frame_blind f t = happenings_blind (frame_result t.phase f).told (record t { phase = (frame_result t.phase f).after })

pub frame_said_blind : (f : Frame) (t : Talking) → frame_said f (blind t) ≡ blind_said (frame_said f t)
unfolding frame_said
frame_said_blind f t = ap (written (frame_result t.phase f).fault) (frame_blind f t) ∙ written_blind (frame_result t.phase f).fault (after_frame f t)

pub break_said_blind : (why : FrameFault) (t : Talking) → break_said why (blind t) ≡ blind_said (break_said why t)
unfolding break_said
break_said_blind why t = written_blind (frame_fault_on why t.phase) (record t { phase = after_frame_fault why t.phase })

-- ---- a turn

pub stream_blind : (n : ℕ) (method : Method3) (sel : List (List ℕ)) (v : ViewModel) (headed : Bool) (a : Answer) (p : Phase)
    → stream_answer n method [] v headed a p ≡ blind_turned (stream_answer n method sel v headed a p)
stream_blind n method sel v headed Denied p = refl
stream_blind n method sel v headed Wait p = refl
stream_blind n method sel v headed (TooLong size) p = refl
stream_blind n method sel v headed (Message m) p = refl

pub token_blind : (n : ℕ) (headed : Bool) (audience : List (List ℕ)) (ws : List Wanted) (p : Phase)
    → token_answer n headed audience ws p ≡ blind_turned (token_answer n headed audience ws p)
token_blind n headed audience [] p = refl
token_blind n headed audience (w ∷ ws) p = refl

pub ended_blind : (b : Bool) (p q : Phase) → (if b then has_ended p else has_ended q) ≡ blind_turned (if b then has_ended p else has_ended q)
ended_blind true p q = refl
ended_blind false p q = refl

pub answer_blind : (n : ℕ) (kind : CallKind) (sel : List (List ℕ)) (headed : Bool) (v : ViewModel) (p : Phase)
    → call_answer n kind [] headed v p ≡ blind_turned (call_answer n kind sel headed v p)
unfolding call_answer
answer_blind n (Stream method) sel headed v p = stream_blind n method sel v headed (answer_of method v) p
answer_blind n (Tokens audience id) sel headed v p = token_blind n headed audience (asks_of id v) p
answer_blind n (Check service) sel headed v p =
    ended_blind (health_of service v == 3) (with_refusal n headed UnknownService p) (with_last_message n headed (spell_state (health_of service v)) p)
answer_blind n (Watch service) sel headed v p = refl

pub new_blind : (b : Bool) (n : ℕ) (kind : CallKind) (sel : List (List ℕ)) (seen : Option ViewModel) (headed : Bool) (v : ViewModel) (p : Phase)
    → answered_where (if b then None else Some v) (record { stream = n; stage = Ready kind [] seen headed }) p
    ≡ blind_turned (if b then goes_on n (Ready kind sel seen headed) p else call_answer n kind sel headed v p)
new_blind true n kind sel seen headed v p = refl
new_blind false n kind sel seen headed v p = answer_blind n kind sel headed v p

pub stage_blind : (x : Publication) (n : ℕ) (s : Stage) (p : Phase)
    → answered_where (stage_view x s) (record { stream = n; stage = blind_stage s }) p ≡ blind_turned (stage_turn x n s p)
stage_blind x n (Unnamed kind) p = refl
stage_blind x n (Ready kind sel seen headed) p = new_blind (was_seen seen (view_in x sel)) n kind sel seen headed (view_in x sel) p
stage_blind x n (Asking first rest got) p = refl

pub calls_blind : (x : Publication) (cs : List ServedCall) (p : Phase) → calls_on (map (call_view x) cs) (map blind_call cs) p ≡ blind_turned (calls_turn x cs p)
unfolding calls_on calls_turn call_turn
calls_blind x [] p = refl
calls_blind x (c ∷ cs) p =
    let first = stage_turn x c.stream c.stage p in
    ap (λ (r : Turned). turn_before r (calls_on (map (call_view x) cs) (map blind_call cs))) (stage_blind x c.stream c.stage p)
    ∙ (ap (λ (r : Turned). record { phase = r.phase; kept = map blind_call first.kept ++ r.kept }) (calls_blind x cs first.phase)
    ∙ ap (λ (ks : List ServedCall). record { phase = (calls_turn x cs first.phase).phase; kept = ks }) (sym (map-append blind_call first.kept (calls_turn x cs first.phase).kept)))

pub turn_blind : (x : Publication) (t : Talking) → views_said (map (call_view x) t.served) (blind t) ≡ blind_said (turn_said x t)
unfolding views_said turn_said
turn_blind x t =
    ap (λ (r : Turned). written None (with_turned (blind t) r)) (calls_blind x t.served t.phase)
    ∙ written_blind None (with_turned t (calls_turn x t.served t.phase))

-- ---- the first of a kind

pub first_go : (test : ServedCall → Bool) (f g : ServedCall → Phase → Turned) (c : ServedCall) (cs : List ServedCall) (p : Phase) (b : Bool)
    → test (blind_call c) ≡ b → test c ≡ b → f (blind_call c) p ≡ blind_turned (g c p)
    → change_first test f (map blind_call cs) p ≡ blind_turned (change_first test g cs p)
    → change_first test f (blind_call c ∷ map blind_call cs) p ≡ blind_turned (change_first test g (c ∷ cs) p)
first_go test f g c cs p true now is one rest =
    first_here test f (blind_call c) (map blind_call cs) p now
    ∙ (ap (λ (r : Turned). record { phase = r.phase; kept = r.kept ++ map blind_call cs }) one
    ∙ (ap (λ (ks : List ServedCall). record { phase = (g c p).phase; kept = ks }) (sym (map-append blind_call (g c p).kept cs))
    ∙ sym (ap blind_turned (first_here test g c cs p is))))
first_go test f g c cs p false now is one rest =
    first_later test f (blind_call c) (map blind_call cs) p now
    ∙ (ap (λ (r : Turned). record { phase = r.phase; kept = blind_call c ∷ r.kept }) rest
    ∙ sym (ap blind_turned (first_later test g c cs p is)))

pub first_blind : (test : ServedCall → Bool) (f g : ServedCall → Phase → Turned) → ((c : ServedCall) → test (blind_call c) ≡ test c) → ((c : ServedCall) (p : Phase) → f (blind_call c) p ≡ blind_turned (g c p))
    → (cs : List ServedCall) (p : Phase) → change_first test f (map blind_call cs) p ≡ blind_turned (change_first test g cs p)
first_blind test f g same one [] p = first_of_none test f p ∙ sym (ap blind_turned (first_of_none test g p))
first_blind test f g same one (c ∷ cs) p = first_go test f g c cs p (test c) (same c) refl (one c p) (first_blind test f g same one cs p)

pub unnamed_blind : (s : Stage) → is_unnamed_stage (blind_stage s) ≡ is_unnamed_stage s
unnamed_blind (Unnamed kind) = refl
unnamed_blind (Ready kind sel seen headed) = refl
unnamed_blind (Asking first rest got) = refl

pub asking_blind : (s : Stage) → is_asking_stage (blind_stage s) ≡ is_asking_stage s
asking_blind (Unnamed kind) = refl
asking_blind (Ready kind sel seen headed) = refl
asking_blind (Asking first rest got) = refl

-- ---- names

pub some_blind : (sel : List (List ℕ)) (n : ℕ) (s : Stage) (p : Phase) → name_stage (Some []) n (blind_stage s) p ≡ blind_turned (name_stage (Some sel) n s p)
some_blind sel n (Unnamed kind) p = refl
some_blind sel n (Ready kind own seen headed) p = refl
some_blind sel n (Asking first rest got) p = refl

pub none_blind : (n : ℕ) (s : Stage) (p : Phase) → name_stage None n (blind_stage s) p ≡ blind_turned (name_stage None n s p)
none_blind n (Unnamed kind) p = refl
none_blind n (Ready kind own seen headed) p = refl
none_blind n (Asking first rest got) p = refl

pub name_some_blind : (sel : List (List ℕ)) (t : Talking) → name_said (Some []) (blind t) ≡ blind_said (name_said (Some sel) t)
unfolding name_said name_first
name_some_blind sel t =
    ap (λ (r : Turned). silent (with_turned (blind t) r))
    (first_blind is_unnamed (name_on (Some [])) (name_on (Some sel)) (λ c. unnamed_blind c.stage) (λ c p. some_blind sel c.stream c.stage p) t.served t.phase)

pub name_none_blind : (t : Talking) → name_said None (blind t) ≡ blind_said (name_said None t)
unfolding name_said name_first
name_none_blind t =
    ap (λ (r : Turned). written None (with_turned (blind t) r))
    (first_blind is_unnamed (name_on None) (name_on None) (λ c. unnamed_blind c.stage) (λ c p. none_blind c.stream c.stage p) t.served t.phase)
    ∙ written_blind None (with_turned t (name_first None t.served t.phase))

-- ---- tokens

pub message_blind : (n : ℕ) (audience : List (List ℕ)) (ws : List Wanted) (got : List JwtItem) (p : Phase) → next_ask n audience ws got p ≡ blind_turned (next_ask n audience ws got p)
message_blind n audience [] got p =
    ended_blind (nat_lt 4194304 (capped (length (spell_jwt (record { svids = got }))))) (with_refusal n false LongResponse p) (with_last_message n false (spell_jwt (record { svids = got })) p)
message_blind n audience (w ∷ ws) got p = refl

pub give_blind : (n : ℕ) (first : JwtAsk) (rest : List Wanted) (got : List JwtItem) (o : JwtOutcome) (p : Phase) → give_call n first rest got o p ≡ blind_turned (give_call n first rest got o p)
unfolding give_call
give_blind n first rest got (outcomes.Token t) p = message_blind n first.audience rest (got ++ item_for first t ∷ []) p
give_blind n first rest got outcomes.Failed p = refl
give_blind n first rest got (outcomes.Unfit u) p = refl

pub outcome_blind : (o : JwtOutcome) (n : ℕ) (s : Stage) (p : Phase) → give_stage o n (blind_stage s) p ≡ blind_turned (give_stage o n s p)
outcome_blind o n (Unnamed kind) p = refl
outcome_blind o n (Ready kind sel seen headed) p = refl
outcome_blind o n (Asking first rest got) p = give_blind n first rest got o p

pub given_blind : (o : JwtOutcome) (t : Talking) → given_said o (blind t) ≡ blind_said (given_said o t)
unfolding given_said give_first
given_blind o t =
    ap (λ (r : Turned). written None (with_turned (blind t) r))
    (first_blind is_asking (give_on o) (give_on o) (λ c. asking_blind c.stage) (λ c p. outcome_blind o c.stream c.stage p) t.served t.phase)
    ∙ written_blind None (with_turned t (give_first o t.served t.phase))

-- ---- items

pub items_append : (items more : List Item) (t : Talking) → items_said (items ++ more) t ≡ then_ (items_said items t) (items_said more)
unfolding items_said
items_append [] more t = refl
items_append (i ∷ items) more t =
    ap (λ (r : Said). record { after = r.after; bytes = (item_said i t).bytes ++ r.bytes; fault = first_of (item_said i t).fault r.fault }) (items_append items more (item_said i t).after)
    ∙ then_assoc (item_said i t) (items_said items) (items_said more)

pub one_item : (i : Item) (t : Talking) → items_said (i ∷ []) t ≡ item_said i t
unfolding items_said
one_item i t = then_silent (item_said i t)

pub frames_blind : (fs : List Frame) (t : Talking) → items_said (map FrameItem fs) (blind t) ≡ blind_said (frames_said fs t)
unfolding items_said frames_said
frames_blind [] t = refl
frames_blind (f ∷ fs) t =
    ap (λ (s : Said). then_ s (items_said (map FrameItem fs))) (frame_said_blind f t)
    ∙ then_blind (frame_said f t) (items_said (map FrameItem fs)) (frames_said fs) (frames_blind fs (frame_said f t).after)

pub break_blind : (why : FrameFault) (t : Talking) → items_said (BrokenItem why ∷ []) (blind t) ≡ blind_said (break_said why t)
break_blind why t = one_item (BrokenItem why) (blind t) ∙ break_said_blind why t

pub ending_blind : (fs : List Frame) (e : End) (t : Talking) → items_said (map FrameItem fs ++ broken_items e) (blind t) ≡ blind_said (ended_by e (frames_said fs t))
ending_blind fs (Opening left) t = ap (λ (items : List Item). items_said items (blind t)) (append-nil (map FrameItem fs)) ∙ frames_blind fs t
ending_blind fs (Rest rest) t = ap (λ (items : List Item). items_said items (blind t)) (append-nil (map FrameItem fs)) ∙ frames_blind fs t
ending_blind fs (Fault why) t =
    items_append (map FrameItem fs) (BrokenItem why ∷ []) (blind t)
    ∙ (ap (λ (s : Said). then_ s (items_said (BrokenItem why ∷ []))) (frames_blind fs t)
    ∙ then_blind (frames_said fs t) (items_said (BrokenItem why ∷ [])) (break_said why) (break_blind why (frames_said fs t).after))

pub reading_blind : (r : Reading) (t : Talking) → items_said (reading_items r) (blind t) ≡ blind_said (feed_said r t)
unfolding feed_said
reading_blind r t = ending_blind r.frames r.ending t

pub attested_blind : (caller : Option (List (List ℕ))) (c : ServedCall) (t : Talking) → item_said (attestation caller c) (blind t) ≡ blind_said (name_said caller t)
attested_blind None c t = name_none_blind t
attested_blind (Some sel) c t = name_some_blind sel t

pub names_blind : (caller : Option (List (List ℕ))) (cs : List ServedCall) (t : Talking) → items_said (map (attestation caller) cs) (blind t) ≡ blind_said (names_said (length cs) caller t)
unfolding items_said names_said
names_blind caller [] t = refl
names_blind caller (c ∷ cs) t =
    ap (λ (s : Said). then_ s (items_said (map (attestation caller) cs))) (attested_blind caller c t)
    ∙ then_blind (name_said caller t) (items_said (map (attestation caller) cs)) (names_said (length cs) caller) (names_blind caller cs (name_said caller t).after)
