-- What a turn, a name and a token do for all calls of a session, as to one stream.
use Rattle.std.proofs.Common.{◌≡◌, ◌⊎◌, inl, inr, ℕ, ◌≤◌, ◌==◌, length, Bool, true, false, nat_lt, if◌then◌else◌, List, [], ◌∷◌, ◌++◌, Option, Some, refl, sym, ap, subst, ◌∙◌, arith, eq-eqb, eqb-true, ne_eqb, append_assoc, length-append}
use Rattle.std.proofs.lemmas.Bool.{cases_Bool}
use Rattle.h2_flow.specs.declared.stream.Stream as flow
use Rattle.wl_responses.proofs.Common.{Phase, framed, LongResponse, Unsigned, JwtItem, MAX_RESPONSE_LEN, spell_jwt, capped, JwtToken, Publication, view_in, asks_of, Wanted, JwtAsk, JwtOutcome, Tokens, Stage, Unnamed, Ready, Asking, ServedCall, Turned, goes_on, has_ended, with_refusal, with_last_message, call_turn, calls_turn, change_first, is_unnamed, name_on, is_asking, item_for, next_ask, give_call, give_on, first_here, first_later, AnsweringTurn, Replies, stage_on, answering, with_outcome, asks_first, IsMessageOn, IsMessageOf, OnPhase, IsUnfinished}
use Rattle.wl_session.specs.declared.asks.JwtOutcome.TheVariants as outcomes
use Rattle.wl_session.specs.Answering.{turn_before}
use Rattle.wl_session.specs.Tokens.{token_message}
use Rattle.wl_session.proofs.Attestations.{first_of_none}
use Rattle.wl_responses.specs.Replies.{one_token_more}
use Rattle.wl_responses.specs.Responses.{token_items}
use Rattle.wl_responses.proofs.OutboxStreams.{differ}
use Rattle.wl_responses.proofs.Sizes.{not_above}
use Rattle.wl_responses.proofs.StreamFlushes.{Matches}
use Rattle.wl_responses.proofs.Asides.{NoneOn, Aside, over as apart_over, on as apart_on, AllAside, still_aside, turn_aside, calls_aside, name_aside, give_aside, first_aside}
use Rattle.wl_responses.proofs.WaitingAnswers.{wanted_by, AsksOf, StageFits, Serves, none_one, none_fits, not_waiting, Own, over, on, Holds, refused, ends_well, stays, turn_own, name_stage_own, items_more}

-- ---- tokens

-- a message of tokens does not wait while an ask does
incomplete : (turn : Option AnsweringTurn) (first : JwtAsk) (rest : List Wanted) (got : List JwtItem) → AsksOf turn first rest got → (m : List ℕ) → IsMessageOf turn m → ⊥
incomplete turn first rest got a m is =
    let whole : IsMessageOn (Tokens a.audience a.id) (view_in a.publication a.selectors) a.tokens m = subst (λ (t : Option AnsweringTurn). IsMessageOf t m) a.is is in
    absurd (omega (arith, whole.0, ap length a.asks, length-append a.done (wanted_by first ∷ rest), a.count))

all_items : (turn : Option AnsweringTurn) (first : JwtAsk) (rest : List Wanted) (got : List JwtItem) (t : JwtToken) → (a : AsksOf turn first rest got)
    → got ++ item_for first t ∷ [] ≡ token_items (a.done ++ wanted_by first ∷ []) (a.tokens ++ t ∷ [])
all_items turn first rest got t a = ap (λ (items : List JwtItem). items ++ item_for first t ∷ []) a.items ∙ sym (items_more a.done a.tokens (wanted_by first) t [] a.count)

one_more : (ws : List Wanted) (ts : List JwtToken) (w : Wanted) (t : JwtToken) → length ts ≡ length ws → length (ts ++ t ∷ []) ≡ length (ws ++ w ∷ [])
one_more ws ts w t e = omega (arith, e, length-append ws (w ∷ []), length-append ts (t ∷ []))

last_token : (turn : Option AnsweringTurn) (first : JwtAsk) (got : List JwtItem) (t : JwtToken) → AsksOf turn first [] got → length (spell_jwt (record { svids = got ++ item_for first t ∷ [] })) ≤ MAX_RESPONSE_LEN
    → IsMessageOf (one_token_more t turn) (framed (spell_jwt (record { svids = got ++ item_for first t ∷ [] })))
last_token turn first got t a short =
    let bytes = framed (spell_jwt (record { svids = got ++ item_for first t ∷ [] })) in
    let count : length (a.tokens ++ t ∷ []) ≡ length (asks_of a.id (view_in a.publication a.selectors)) = one_more a.done a.tokens (wanted_by first) t a.count ∙ ap length (sym a.asks) in
    let items : got ++ item_for first t ∷ [] ≡ token_items (asks_of a.id (view_in a.publication a.selectors)) (a.tokens ++ t ∷ []) = all_items turn first [] got t a ∙ ap (λ (ws : List Wanted). token_items ws (a.tokens ++ t ∷ [])) (sym a.asks) in
    let fits : length (spell_jwt (record { svids = token_items (asks_of a.id (view_in a.publication a.selectors)) (a.tokens ++ t ∷ []) })) ≤ MAX_RESPONSE_LEN = subst (λ (xs : List JwtItem). length (spell_jwt (record { svids = xs })) ≤ MAX_RESPONSE_LEN) items short in
    let is : IsMessageOn (Tokens a.audience a.id) (view_in a.publication a.selectors) (a.tokens ++ t ∷ []) bytes = (count, ap (λ (xs : List JwtItem). framed (spell_jwt (record { svids = xs }))) items, fits) in
    subst (λ (u : Option AnsweringTurn). IsMessageOf u bytes) (sym (ap (one_token_more t) a.is)) is

tokens_own : (n : ℕ) (m : List ℕ) (old new : Option AnsweringTurn) (r : Replies) (p : Phase) → (length m ≤ MAX_RESPONSE_LEN → IsMessageOf new (framed m)) → Holds n old r p → Own n new r (token_message n m p)
tokens_own n m old new r p is h = go (nat_lt MAX_RESPONSE_LEN (capped (length m))) refl
  where
    go : (b : Bool) → nat_lt MAX_RESPONSE_LEN (capped (length m)) ≡ b → Own n new r (if b then has_ended (with_refusal n false LongResponse p) else has_ended (with_last_message n false m p))
    go true long = refused n false LongResponse old new r p h
    go false short = ends_well n false m old new r p (is (not_above m short)) h

next_own : (n : ℕ) (first : JwtAsk) (rest : List Wanted) (got : List JwtItem) (t : JwtToken) (turn : Option AnsweringTurn) (r : Replies) (p : Phase) → AsksOf turn first rest got → Holds n turn r p
    → Own n (one_token_more t turn) r (next_ask n first.audience rest (got ++ item_for first t ∷ []) p)
next_own n first [] got t turn r p a h = tokens_own n (spell_jwt (record { svids = got ++ item_for first t ∷ [] })) turn (one_token_more t turn) r p (last_token turn first got t a) h
next_own n first (w ∷ ws) got t turn r p a h =
    on _ p h.sound h.unfinished
    (record {
      publication = a.publication;
      selectors = a.selectors;
      audience = a.audience;
      id = a.id;
      done = a.done ++ wanted_by first ∷ [];
      tokens = a.tokens ++ t ∷ [];
      is = ap (one_token_more t) a.is;
      asks = a.asks ∙ sym (append_assoc a.done (wanted_by first ∷ []) (w ∷ ws));
      count = one_more a.done a.tokens (wanted_by first) t a.count;
      items = all_items turn first (w ∷ ws) got t a;
    })
    (not_waiting turn r n p (incomplete turn first (w ∷ ws) got a) (one_token_more t turn) h.there)

given_own : (n : ℕ) (first : JwtAsk) (rest : List Wanted) (got : List JwtItem) (o : JwtOutcome) (turn : Option AnsweringTurn) (r : Replies) (p : Phase) → AsksOf turn first rest got → Holds n turn r p
    → Own n (with_outcome o turn) r (give_call n first rest got o p)
unfolding give_call
given_own n first rest got (outcomes.Token t) turn r p a h = next_own n first rest got t turn r p a h
given_own n first rest got outcomes.Failed turn r p a h = refused n false Unsigned turn turn r p h
given_own n first rest got (outcomes.Unfit u) turn r p a h = refused n false Unsigned turn turn r p h

asking_own : (n : ℕ) (s : Stage) (c : ServedCall) (o : JwtOutcome) (turn : Option AnsweringTurn) (r : Replies) (p : Phase) → c ≡ record { stream = n; stage = s } → is_asking c ≡ true → StageFits turn s → Holds n turn r p → Own n (with_outcome o turn) r (give_on o c p)
asking_own n (Unnamed kind) c o turn r p e is fits h = absurd (let no : false ≡ true = rw e at is in cc no)
asking_own n (Ready kind sel seen headed) c o turn r p e is fits h = absurd (let no : false ≡ true = rw e at is in cc no)
asking_own n (Asking first rest got) c o turn r p e is fits h = rw e (given_own n first rest got o turn r p fits h)

-- ---- one call, and those after it

moved : (P : flow.Stream → Type 0) (k n : ℕ) (p : Phase) → k ≡ n → OnPhase k P p → OnPhase n P p
moved P k n p same h = subst (λ (m : ℕ). OnPhase m P p) same h

-- a call on another stream
serves_other : (n k : ℕ) (turn new : Option AnsweringTurn) (r : Replies) (c : ServedCall) (cs : List ServedCall) (p : Phase) (first : Turned) (go_on : Phase → Turned) → k ≡ c.stream → (k ≡ n → ⊥) → Aside k p first → Serves n turn r (c ∷ cs) p
    → (Serves n turn r cs first.phase → Serves n new r (go_on first.phase).kept (go_on first.phase).phase) → Serves n new r (turn_before first go_on).kept (turn_before first go_on).phase
serves_other n k turn new r c cs p _ go_on same other (apart_over q stands apart) h rest =
    rest (record { sound = stands.sound h.sound; one = h.one.1; fits = h.fits.1; unfinished = open_still h.unfinished; there = apart n other (Matches turn r) h.there })
  where
    open_still : NoneOn n (c ∷ cs) ⊎ OnPhase n IsUnfinished p → NoneOn n cs ⊎ OnPhase n IsUnfinished q
    open_still (inl none) = inl none.1
    open_still (inr u) = inr (apart n other IsUnfinished u)
serves_other n k turn new r c cs p _ go_on same other (apart_on stage q stands apart) h rest =
    let s = rest (record { sound = stands.sound h.sound; one = h.one.1; fits = h.fits.1; unfinished = open_still h.unfinished; there = apart n other (Matches turn r) h.there }) in
    record { sound = s.sound; one = ((λ e. absurd (other e)), s.one); fits = ((λ e. absurd (other e)), s.fits); unfinished = more (go_on q).kept (go_on q).phase s.unfinished; there = s.there }
  where
    open_still : NoneOn n (c ∷ cs) ⊎ OnPhase n IsUnfinished p → NoneOn n cs ⊎ OnPhase n IsUnfinished q
    open_still (inl none) = inl none.1
    open_still (inr u) = inr (apart n other IsUnfinished u)

    more : (ds : List ServedCall) (z : Phase) → NoneOn n ds ⊎ OnPhase n IsUnfinished z → NoneOn n (record { stream = k; stage = stage } ∷ ds) ⊎ OnPhase n IsUnfinished z
    more ds z (inl none) = inl (other, none)
    more ds z (inr u) = inr u

-- the call on this stream
serves_here : (n k : ℕ) (new : Option AnsweringTurn) (r : Replies) (cs : List ServedCall) (first : Turned) (go_on : Phase → Turned) → k ≡ n → Own k new r first → NoneOn n cs → AllAside cs first.phase (go_on first.phase)
    → Serves n new r (turn_before first go_on).kept (turn_before first go_on).phase
serves_here n k new r cs _ go_on same (over q sound there) none rest = record {
  sound = rest.stands.sound sound;
  one = none_one n (go_on q).kept (rest.none n none);
  fits = none_fits n new (go_on q).kept (rest.none n none);
  unfinished = inl (rest.none n none);
  there = rest.leaves n none (Matches new r) (moved (Matches new r) k n q same there);
}
serves_here n k new r cs _ go_on same (on stage q sound u fits there) none rest = record {
  sound = rest.stands.sound sound;
  one = ((λ e. rest.none n none), none_one n (go_on q).kept (rest.none n none));
  fits = ((λ e. fits), none_fits n new (go_on q).kept (rest.none n none));
  unfinished = inr (rest.leaves n none IsUnfinished (moved IsUnfinished k n q same u));
  there = rest.leaves n none (Matches new r) (moved (Matches new r) k n q same there);
}

-- what holds on the stream of the first call
first_holds : (n : ℕ) (turn : Option AnsweringTurn) (r : Replies) (c : ServedCall) (cs : List ServedCall) (p : Phase) → c.stream ≡ n → Serves n turn r (c ∷ cs) p → Holds c.stream turn r p
first_holds n turn r c cs p same h = record { sound = h.sound; unfinished = go h.unfinished; there = moved (Matches turn r) n c.stream p (sym same) h.there }
  where
    go : NoneOn n (c ∷ cs) ⊎ OnPhase n IsUnfinished p → OnPhase c.stream IsUnfinished p
    go (inl none) = absurd (none.0 same)
    go (inr u) = moved IsUnfinished n c.stream p (sym same) u

-- ---- a turn

stage_here : (n : ℕ) (c : ServedCall) (cs : List ServedCall) → (c.stream == n) ≡ true → stage_on n (c ∷ cs) ≡ Some c.stage
stage_here n c cs here = rw here refl

stage_later : (n : ℕ) (c : ServedCall) (cs : List ServedCall) → (c.stream == n) ≡ false → stage_on n (c ∷ cs) ≡ stage_on n cs
stage_later n c cs there = rw there refl

pub turn_serves : (x : Publication) (n : ℕ) (turn : Option AnsweringTurn) (r : Replies) (cs : List ServedCall) (p : Phase) → Serves n turn r cs p
    → Serves n (answering x (stage_on n cs) turn) r (calls_turn x cs p).kept (calls_turn x cs p).phase
unfolding calls_turn
turn_serves x n turn r [] p h = h
turn_serves x n turn r (c ∷ cs) p h =
    elim (cases_Bool (c.stream == n)) [
      | inl here ↦
          let same : c.stream ≡ n = eqb-true c.stream n here in
          rw (stage_here n c cs here)
          (serves_here n c.stream (answering x (Some c.stage) turn) r cs (call_turn x c p) (calls_turn x cs) same
          (turn_own x c turn r p (h.fits.0 same) (first_holds n turn r c cs p same h)) (h.one.0 same) (calls_aside x cs (call_turn x c p).phase))
      | inr there ↦
          rw (stage_later n c cs there)
          (serves_other n c.stream turn (answering x (stage_on n cs) turn) r c cs p (call_turn x c p) (calls_turn x cs) refl (λ e. differ (eq-eqb c.stream n e) there) (turn_aside x c p) h
          (λ rest. turn_serves x n turn r cs (call_turn x c p).phase rest))
    ]

-- ---- names

stays_aside : (c : ServedCall) (p : Phase) → Aside c.stream p (goes_on c.stream c.stage p)
stays_aside c p = apart_on c.stage p (record { came = λ n h. h; sound = λ h. h }) (λ n other P h. h)

-- the first call stays as it is
serves_later : (n : ℕ) (turn new : Option AnsweringTurn) (r : Replies) (c : ServedCall) (cs : List ServedCall) (p : Phase) (go_on : Phase → Turned) → Serves n turn r (c ∷ cs) p
    → ((c.stream ≡ n) → (new ≡ turn) × AllAside cs p (go_on p)) → (Serves n turn r cs p → Serves n new r (go_on p).kept (go_on p).phase)
    → Serves n new r (turn_before (goes_on c.stream c.stage p) go_on).kept (turn_before (goes_on c.stream c.stage p) go_on).phase
serves_later n turn new r c cs p go_on h own rest =
    elim (cases_Bool (c.stream == n)) [
      | inl here ↦
          let same : c.stream ≡ n = eqb-true c.stream n here in
          subst (λ (t : Option AnsweringTurn). Serves n t r (turn_before (goes_on c.stream c.stage p) go_on).kept (turn_before (goes_on c.stream c.stage p) go_on).phase) (sym (own same).0)
          (serves_here n c.stream turn r cs (goes_on c.stream c.stage p) go_on same (stays c.stream c.stage turn r p (h.fits.0 same) (first_holds n turn r c cs p same h)) (h.one.0 same) (own same).1)
      | inr there ↦ serves_other n c.stream turn new r c cs p (goes_on c.stream c.stage p) go_on refl (λ e. differ (eq-eqb c.stream n e) there) (stays_aside c p) h rest
    ]

pub name_serves : (sel : Option (List (List ℕ))) (n : ℕ) (turn : Option AnsweringTurn) (r : Replies) (cs : List ServedCall) (p : Phase) → Serves n turn r cs p
    → Serves n turn r (change_first is_unnamed (name_on sel) cs p).kept (change_first is_unnamed (name_on sel) cs p).phase
name_serves sel n turn r [] p h = rw (first_of_none is_unnamed (name_on sel) p) h
name_serves sel n turn r (c ∷ cs) p h =
    elim (cases_Bool (is_unnamed c)) [
      | inl unnamed ↦ rw (first_here is_unnamed (name_on sel) c cs p unnamed) (here (cases_Bool (c.stream == n)))
      | inr later ↦
          rw (first_later is_unnamed (name_on sel) c cs p later)
          (serves_later n turn turn r c cs p (λ q. change_first is_unnamed (name_on sel) cs q) h (λ same. (refl, first_aside is_unnamed (name_on sel) (name_aside sel) cs p)) (λ rest. name_serves sel n turn r cs p rest))
    ]
  where
    back : Phase → Turned
    back q = record { phase = q; kept = cs }

    here : ((c.stream == n) ≡ true) ⊎ ((c.stream == n) ≡ false) → Serves n turn r (turn_before (name_on sel c p) back).kept (turn_before (name_on sel c p) back).phase
    here (inl on_it) =
        let same : c.stream ≡ n = eqb-true c.stream n on_it in
        serves_here n c.stream turn r cs (name_on sel c p) back same (name_stage_own sel c.stream c.stage turn r p (h.fits.0 same) (first_holds n turn r c cs p same h)) (h.one.0 same) (still_aside cs (name_on sel c p).phase)
    here (inr there) = serves_other n c.stream turn turn r c cs p (name_on sel c p) back refl (λ e. differ (eq-eqb c.stream n e) there) (name_aside sel c p) h (λ rest. rest)

-- ---- an outcome

asks_here : (n : ℕ) (c : ServedCall) (cs : List ServedCall) → is_asking c ≡ true → asks_first n (c ∷ cs) ≡ (c.stream == n)
asks_here n c cs is = rw is refl

asks_later : (n : ℕ) (c : ServedCall) (cs : List ServedCall) → is_asking c ≡ false → asks_first n (c ∷ cs) ≡ asks_first n cs
asks_later n c cs is = rw is refl

none_asks : (n : ℕ) (cs : List ServedCall) → NoneOn n cs → asks_first n cs ≡ false
none_asks n [] none = refl
none_asks n (c ∷ cs) none =
    elim (cases_Bool (is_asking c)) [
      | inl asks ↦ asks_here n c cs asks ∙ ne_eqb c.stream n (λ e. none.0 e)
      | inr later ↦ asks_later n c cs later ∙ none_asks n cs none.1
    ]

abbrev given_to : ℕ → JwtOutcome → List ServedCall → Option AnsweringTurn → Option AnsweringTurn
given_to n o cs turn = if asks_first n cs then with_outcome o turn else turn

none_given : (n : ℕ) (o : JwtOutcome) (cs : List ServedCall) (turn : Option AnsweringTurn) → asks_first n cs ≡ false → given_to n o cs turn ≡ turn
none_given n o cs turn is = rw is refl

given_here : (n : ℕ) (o : JwtOutcome) (c : ServedCall) (cs : List ServedCall) (turn : Option AnsweringTurn) (b : Bool) → is_asking c ≡ true → (c.stream == n) ≡ b → given_to n o (c ∷ cs) turn ≡ (if b then with_outcome o turn else turn)
given_here n o c cs turn b asks is = ap (λ (d : Bool). if d then with_outcome o turn else turn) (asks_here n c cs asks ∙ is)

given_later : (n : ℕ) (o : JwtOutcome) (c : ServedCall) (cs : List ServedCall) (turn : Option AnsweringTurn) → is_asking c ≡ false → given_to n o (c ∷ cs) turn ≡ given_to n o cs turn
given_later n o c cs turn later = ap (λ (d : Bool). if d then with_outcome o turn else turn) (asks_later n c cs later)

pub give_serves : (o : JwtOutcome) (n : ℕ) (turn : Option AnsweringTurn) (r : Replies) (cs : List ServedCall) (p : Phase) → Serves n turn r cs p
    → Serves n (given_to n o cs turn) r (change_first is_asking (give_on o) cs p).kept (change_first is_asking (give_on o) cs p).phase
give_serves o n turn r [] p h = rw (first_of_none is_asking (give_on o) p) h
give_serves o n turn r (c ∷ cs) p h =
    elim (cases_Bool (is_asking c)) [
      | inl asks ↦ rw (first_here is_asking (give_on o) c cs p asks) (here asks (cases_Bool (c.stream == n)))
      | inr later ↦
          rw (first_later is_asking (give_on o) c cs p later, given_later n o c cs turn later)
          (serves_later n turn (given_to n o cs turn) r c cs p (λ q. change_first is_asking (give_on o) cs q) h
          (λ same. (none_given n o cs turn (none_asks n cs (h.one.0 same)), first_aside is_asking (give_on o) (give_aside o) cs p)) (λ rest. give_serves o n turn r cs p rest))
    ]
  where
    back : Phase → Turned
    back q = record { phase = q; kept = cs }

    here : is_asking c ≡ true → ((c.stream == n) ≡ true) ⊎ ((c.stream == n) ≡ false) → Serves n (given_to n o (c ∷ cs) turn) r (turn_before (give_on o c p) back).kept (turn_before (give_on o c p) back).phase
    here asks (inl on_it) =
        let same : c.stream ≡ n = eqb-true c.stream n on_it in
        subst (λ (t : Option AnsweringTurn). Serves n t r (turn_before (give_on o c p) back).kept (turn_before (give_on o c p) back).phase) (sym (given_here n o c cs turn true asks on_it))
        (serves_here n c.stream (with_outcome o turn) r cs (give_on o c p) back same (asking_own c.stream c.stage c o turn r p refl asks (h.fits.0 same) (first_holds n turn r c cs p same h)) (h.one.0 same) (still_aside cs (give_on o c p).phase))
    here asks (inr there) =
        subst (λ (t : Option AnsweringTurn). Serves n t r (turn_before (give_on o c p) back).kept (turn_before (give_on o c p) back).phase) (sym (given_here n o c cs turn false asks there))
        (serves_other n c.stream turn turn r c cs p (give_on o c p) back refl (λ e. differ (eq-eqb c.stream n e) there) (give_aside o c p) h (λ rest. rest))

-- where no call is on a stream, no turn answers it
pub none_answered : (x : Publication) (n : ℕ) (turn : Option AnsweringTurn) (cs : List ServedCall) → NoneOn n cs → answering x (stage_on n cs) turn ≡ turn
none_answered x n turn [] none = refl
none_answered x n turn (c ∷ cs) none = rw (ne_eqb c.stream n (λ e. none.0 e)) (none_answered x n turn cs none.1)

pub none_told : (o : JwtOutcome) (n : ℕ) (turn : Option AnsweringTurn) (cs : List ServedCall) → NoneOn n cs → given_to n o cs turn ≡ turn
none_told o n turn cs none = none_given n o cs turn (none_asks n cs none)
