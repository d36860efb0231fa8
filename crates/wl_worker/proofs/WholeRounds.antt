-- A round as a whole: a sending, a receive with its step, and a sending again.
use Rattle.std.proofs.Common.{◌≡◌, ℕ, ◌⊎◌, inl, inr, true, List, [], ◌∷◌, ◌++◌, Option, Some, None, Ok, Err, refl, sym, ap, subst, ◌∙◌}
use Rattle.std.proofs.lemmas.List.{append-nil}
use Rattle.wl_worker.proofs.Common.{Memory, Ask, Signed, Publication, Origin, LinkLog, Heard, SessionState, Running, Fallen, OutOfMemory, failure_in, Ended, RoundEnd, Round, HaveAsks, turned_session, pieces_given, Asker, IsOutcome, ServedState, Around, Stands, Began, log_on, RoundTells}
use Rattle.wl_edge.specs.declared.link.Heard.TheVariants as heard
use Rattle.wl_session.specs.Sessions.{is_done_in}
use Rattle.wl_worker.specs.declared.ended.Ended.TheVariants as ended
use Rattle.wl_worker.specs.declared.ended.RoundEnd.TheVariants as ends
use Rattle.wl_worker.specs.Served.{StandsAt, LinkGains, HeardOne, EndIs, IsPiece}
use Rattle.wl_worker.specs.Sending.{SentTo, Settles, end_of}
use Rattle.wl_worker.specs.Stepping.{StepTells, HearTells}
use Rattle.wl_worker.proofs.Growth.{gains_none, ticked_none, rose_none, link_then, log_then}
use Rattle.wl_worker.proofs.TakenRounds.{stands_sent, stands_round, began, began_round}

module _ (valid : Ask → Signed → Type 0) (vouched : Asker) (origin : Origin) where
  -- ---- it ends with the first sending

  done_open : (s : SessionState) → is_done_in s ≡ true → failure_in s ≡ None
  done_open (Running e t shown) is = refl
  done_open (Fallen fault begun) is = absurd (cc is)
  done_open OutOfMemory is = absurd (cc is)

  first_end : (e : RoundEnd) (s : ServedState) → SentTo s.session s.unsent (Some e) → EndIs e s [] []
  first_end ends.On s is = absurd is
  first_end ends.Later s is = (refl, refl)
  first_end (ends.Ended ended.Closed) s is = (is.0, done_open s.session is.1, inr (is.1, inl (refl, refl)))
  first_end (ends.Ended (ended.Protocol f)) s is = (is.0, is.1, inl (refl, refl))
  first_end (ends.Ended ended.ReadFault) s is = absurd is
  first_end (ends.Ended ended.WriteFault) s is = inl (refl, refl)
  first_end (ends.Ended ended.Memory) s is = inl (refl, refl)

  stands_at : (e : RoundEnd) (log : LinkLog) (s : ServedState) (seen : List Publication) (past : List Round) → Stands log s seen past → StandsAt e log s seen past
  stands_at ends.On log s seen past stands = stands
  stands_at ends.Later log s seen past stands = stands
  stands_at (ends.Ended ended.Closed) log s seen past stands = stands
  stands_at (ends.Ended (ended.Protocol f)) log s seen past stands = stands
  stands_at (ends.Ended ended.ReadFault) log s seen past stands = stands
  stands_at (ends.Ended ended.WriteFault) log s seen past stands = began log s seen past stands
  stands_at (ends.Ended ended.Memory) log s seen past stands = began log s seen past stands

  pub ends_first : {old new : ServedState} {k m : Option LinkLog} (before : Around) (e : RoundEnd) → Settles old new k m (Some e) → RoundTells valid vouched origin old new k m before before e
  ends_first {old} {new} {k} {m} before e settles = record {
    heards = [];
    took = settles.passes.took;
    added = [];
    signed = [];
    times = [];
    link = settles.passes.link;
    end_is = first_end e new settles.end_is;
    asked = tt;
    attested = gains_none before.attested;
    attestor_fails = rose_none before.attestor_faults;
    read = refl;
    signs = gains_none before.signed;
    clock = ticked_none before.times;
    outcomes_are = tt;
    ask_fails = rose_none before.ask_faults;
    goes_on = λ log past stands. stands_at e (log_on log [] settles.passes.took) new before.pass.seen past
        (stands_sent log old new before.pass.seen past [] settles.passes.took settles.session settles.passes.rest refl stands);
  }

  -- ---- the link gives its end, or fails

  -- all was sent, and then nothing was done but to hear this
  pub ends_unheard : {old mid new : ServedState} {k l m : Option LinkLog} (before now : Around) (e : Ended) (heards : List Heard) → Settles old mid k l None → LinkGains l m heards [] → new ≡ mid → now ≡ before
      → pieces_given heards ≡ [] → EndIs (ends.Ended e) mid heards [] → RoundTells valid vouched origin old new k m before now (ends.Ended e)
  ends_unheard {old} {mid} {new} {k} {l} {m} before now e heards settles heard same still none end_is =
      subst (λ (x : ServedState × Around). RoundTells valid vouched origin old x.0 k m before x.1 (ends.Ended e)) (λ i. (sym same i, sym still i))
      (record {
        heards = heards;
        took = settles.passes.took ++ [];
        added = [];
        signed = [];
        times = [];
        link = link_then k l m [] heards settles.passes.took [] settles.passes.link heard;
        end_is = end_is;
        asked = tt;
        attested = gains_none before.attested;
        attestor_fails = rose_none before.attestor_faults;
        read = refl;
        signs = gains_none before.signed;
        clock = ticked_none before.times;
        outcomes_are = tt;
        ask_fails = rose_none before.ask_faults;
        goes_on = λ log past stands. stands_at (ends.Ended e) (log_on log heards (settles.passes.took ++ [])) mid before.pass.seen past
            (stands_sent log old mid before.pass.seen past heards (settles.passes.took ++ []) settles.session
            (settles.passes.rest ∙ ap (λ (xs : List ℕ). xs ++ mid.unsent) (sym (append-nil settles.passes.took))) none stands);
      })

  -- ---- a piece came

  one_heard : (answer : Heard) (r : Round) → IsPiece answer r.piece → HeardOne (answer ∷ []) (r ∷ [])
  one_heard answer r piece = record { answer = answer; round = r; heards_are = refl; added_is = refl; piece = piece }

  last_end : (e : Option RoundEnd) (s : ServedState) (answer : Heard) (r : Round) → IsPiece answer r.piece → SentTo s.session s.unsent e → EndIs (end_of e) s (answer ∷ []) (r ∷ [])
  last_end None s answer r piece is = (one_heard answer r piece, λ _. is.1)
  last_end (Some ends.On) s answer r piece is = absurd is
  last_end (Some ends.Later) s answer r piece is = (one_heard answer r piece, λ none. absurd (is none))
  last_end (Some (ends.Ended ended.Closed)) s answer r piece is = (is.0, done_open s.session is.1, inr (is.1, inr (one_heard answer r piece)))
  last_end (Some (ends.Ended (ended.Protocol f))) s answer r piece is = (is.0, is.1, inr (one_heard answer r piece))
  last_end (Some (ends.Ended ended.ReadFault)) s answer r piece is = absurd is
  last_end (Some (ends.Ended ended.WriteFault)) s answer r piece is = inr (one_heard answer r piece)
  last_end (Some (ends.Ended ended.Memory)) s answer r piece is = inr (one_heard answer r piece)

  two_logs : (log : LinkLog) (answer : Heard) (first : List ℕ) → log_on (log_on log [] first) (answer ∷ []) [] ≡ log_on log (answer ∷ []) (first ++ [])
  two_logs log answer first = log_then log [] (answer ∷ []) first []

  three_logs : (log : LinkLog) (answer : Heard) (first last : List ℕ) → log_on (log_on (log_on log [] first) (answer ∷ []) []) [] last ≡ log_on log (answer ∷ []) ((first ++ []) ++ last)
  three_logs log answer first last = ap (λ (k : LinkLog). log_on k [] last) (two_logs log answer first) ∙ log_then log (answer ∷ []) [] (first ++ []) last

  pub ends_round : {old mid new : ServedState} {s : SessionState} {out : List ℕ} {k l m q : Option LinkLog} {before now : Around} {piece : List ℕ} (e : Option RoundEnd) (answer : Heard)
      → Settles old mid k l None → LinkGains l m (answer ∷ []) [] → IsPiece answer piece → StepTells valid vouched origin piece mid.session s [] out before now (Ok tt)
      → Settles (record { session = s; unsent = out }) new m q e → RoundTells valid vouched origin old new k q before now (end_of e)
  ends_round {old} {mid} {new} {s} {out} {k} {l} {m} {q} {before} {now} {piece} e answer first heard is_piece step last =
      let r = step.round in
      let its : IsPiece answer r.piece = subst (λ (p : List ℕ). IsPiece answer p) (sym step.piece_is) is_piece in
      record {
        heards = answer ∷ [];
        took = (first.passes.took ++ []) ++ last.passes.took;
        added = r ∷ [];
        signed = step.signed;
        times = step.times;
        link = link_then k m q (answer ∷ []) [] (first.passes.took ++ []) last.passes.took (link_then k l m [] (answer ∷ []) first.passes.took [] first.passes.link heard) last.passes.link;
        end_is = last_end e new answer r its last.end_is;
        asked = (step.asked, tt);
        attested = step.attested;
        attestor_fails = step.attestor_fails;
        read = (refl, step.read);
        signs = step.signs;
        clock = step.clock;
        outcomes_are = subst (λ (x : SessionState). HaveAsks (IsOutcome vouched step.signed step.times) r.outcomes (turned_session r x)) first.session step.outcomes_are;
        ask_fails = step.ask_fails;
        goes_on = λ log past stands.
            let one : Stands (log_on log [] first.passes.took) mid before.pass.seen past =
            stands_sent log old mid before.pass.seen past [] first.passes.took first.session first.passes.rest refl stands in
            let two : Stands (log_on (log_on log [] first.passes.took) (answer ∷ []) []) (record { session = s; unsent = out }) now.pass.seen (r ∷ past) =
            stands_round valid (log_on log [] first.passes.took) mid (record { session = s; unsent = out }) before.pass now.pass past answer r first.end_is.0 first.end_is.1 its step.whole step.came.after step.came.bytes step.read one in
            let three : Stands (log_on (log_on (log_on log [] first.passes.took) (answer ∷ []) []) [] last.passes.took) new now.pass.seen (r ∷ past) =
            stands_sent (log_on (log_on log [] first.passes.took) (answer ∷ []) []) (record { session = s; unsent = out }) new now.pass.seen (r ∷ past) [] last.passes.took last.session last.passes.rest refl two in
            stands_at (end_of e) (log_on log (answer ∷ []) ((first.passes.took ++ []) ++ last.passes.took)) new now.pass.seen (r ∷ past)
            (subst (λ (k : LinkLog). Stands k new now.pass.seen (r ∷ past)) (three_logs log answer first.passes.took last.passes.took) three);
      }

  -- memory ran out in the step
  pub ends_broken : {old mid new : ServedState} {s : SessionState} {out : List ℕ} {k l m : Option LinkLog} {before now : Around} {piece : List ℕ} {why : Memory} (answer : Heard)
      → Settles old mid k l None → LinkGains l m (answer ∷ []) [] → IsPiece answer piece → StepTells valid vouched origin piece mid.session s [] out before now (Err why)
      → RoundTells valid vouched origin old new k m before now (ends.Ended ended.Memory)
  ends_broken {old} {mid} {new} {s} {out} {k} {l} {m} {before} {now} {piece} answer first heard is_piece step =
      let r = step.round in
      let its : IsPiece answer r.piece = subst (λ (p : List ℕ). IsPiece answer p) (sym step.piece_is) is_piece in
      record {
        heards = answer ∷ [];
        took = first.passes.took ++ [];
        added = r ∷ [];
        signed = step.signed;
        times = step.times;
        link = link_then k l m [] (answer ∷ []) first.passes.took [] first.passes.link heard;
        end_is = inr (one_heard answer r its);
        asked = (step.asked, tt);
        attested = step.attested;
        attestor_fails = step.attestor_fails;
        read = (refl, step.read);
        signs = step.signs;
        clock = step.clock;
        outcomes_are = subst (λ (x : SessionState). HaveAsks (IsOutcome vouched step.signed step.times) r.outcomes (turned_session r x)) first.session step.outcomes_are;
        ask_fails = step.ask_fails;
        goes_on = λ log past stands.
            let one : Stands (log_on log [] first.passes.took) mid before.pass.seen past =
            stands_sent log old mid before.pass.seen past [] first.passes.took first.session first.passes.rest refl stands in
            subst (λ (k : LinkLog). Began k now.pass.seen (r ∷ past)) (two_logs log answer first.passes.took)
            (began_round valid (log_on log [] first.passes.took) mid before.pass now.pass past answer r first.end_is.1 its step.fits step.read one);
      }

  -- ---- by what the receive came to

  no_pieces : (heards : List Heard) → (heards ≡ heard.Failed ∷ []) ⊎ (heards ≡ []) → pieces_given heards ≡ []
  no_pieces heards (inl is) = ap pieces_given is
  no_pieces heards (inr is) = ap pieces_given is

  pub ends_heard : {old mid new : ServedState} {s : SessionState} {out : List ℕ} {k l m : Option LinkLog} {before now : Around} (e : Ended)
      → Settles old mid k l None → HearTells valid vouched origin mid.session s [] out l m before now (Err e)
      → (s ≡ mid.session → new ≡ mid) → RoundTells valid vouched origin old new k m before now (ends.Ended e)
  ends_heard {old} {mid} {new} {s} {out} {k} {l} {m} {before} {now} ended.Closed first heard still =
      ends_unheard before now ended.Closed heard.heards first heard.link (still heard.step.1) heard.step.2 (ap pieces_given heard.step.0) (first.end_is.0, first.end_is.1.0, inl (heard.step.0, refl))
  ends_heard {old} {mid} {new} {s} {out} {k} {l} {m} {before} {now} ended.ReadFault first heard still =
      ends_unheard before now ended.ReadFault heard.heards first heard.link (still heard.step.1) heard.step.2 (no_pieces heard.heards heard.step.0) (first.end_is.0, first.end_is.1.0, heard.step.0, refl)
  ends_heard {old} {mid} {new} {s} {out} {k} {l} {m} {before} {now} ended.Memory first heard still =
      ends_broken {out = out} heard.step.0 first (subst (λ (hs : List Heard). LinkGains l m hs []) heard.step.2 heard.link) heard.step.3 heard.step.4.1
  ends_heard (ended.Protocol f) first heard still = absurd heard.step
  ends_heard ended.WriteFault first heard still = absurd heard.step

  pub ends_done : {old mid new : ServedState} {s : SessionState} {out : List ℕ} {k l m q : Option LinkLog} {before now : Around} (e : Option RoundEnd)
      → Settles old mid k l None → HearTells valid vouched origin mid.session s [] out l m before now (Ok tt)
      → Settles (record { session = s; unsent = out }) new m q e → RoundTells valid vouched origin old new k q before now (end_of e)
  ends_done {old} {mid} {new} {s} {out} {k} {l} {m} {q} {before} {now} e first heard last =
      ends_round {s = s} {out = out} e heard.step.0 first (subst (λ (hs : List Heard). LinkGains l m hs []) heard.step.2 heard.link) heard.step.3 heard.step.4 last
