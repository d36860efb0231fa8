-- A connection goes through its rounds, from its start to its end.
use Rattle.std.proofs.Common.{◌≡◌, ℕ, List, [], ◌∷◌, ◌++◌, Option, Some, None, refl, sym, ap, subst, ◌∙◌, append_assoc}
use Rattle.std.proofs.lemmas.List.{append-nil}
use mathlib.Core.List.{IsPrefix}
use Rattle.list_laws.specs.Lists.{BeginsWith}
use Rattle.wl_worker.proofs.Common.{Ask, Signed, Publication, Passing, Origin, LinkLog, Heard, AttestorCall, Delivery, JwtAsk, JwtOutcome, SessionState, fresh_session, talk, Ended, RoundEnd, Round, HaveAsks, turned_session, session_after, trace, number_of, AskedBy, AreOutcomes, AreKnown, IsIn, RoseBy, Asker, unanswered, unsigned, GainsAll, IsOutcome, ServedState, Around, Stands, Began, ReadIn, ReadBy, RoundTells, HasSeenLast}
use Rattle.wl_publish.specs.Lists.{NonFallingFrom}
use Rattle.wl_worker.specs.declared.ended.Ended.TheVariants as ended
use Rattle.wl_worker.specs.declared.ended.RoundEnd.TheVariants as ends
use Rattle.wl_worker.specs.Rounds.{numbers, answers, outcomes, AreRounds}
use Rattle.wl_worker.specs.Outcomes.{calls_by, attestor_calls}
use Rattle.wl_worker.specs.Served.{OutcomesBy}
use Rattle.wl_worker.specs.Connections.{CameTo, Gathers, ConnectionTells, Serving}
use Rattle.wl_worker.proofs.Growth.{gains_none, gains_then, ticked_none, ticked_then, link_none, link_then, rose_none, rose_then, unanswered_append, unsigned_append, in_front, in_back, outcome_grows, have_such}
use Rattle.wl_worker.proofs.SeenPublications.{read_prefix, rises_over, prefix_then, prefix_same, known_longer}
use Rattle.wl_worker.proofs.RoundTraces.{nothing_talked}
use Rattle.wl_worker.proofs.LinkEnds.{all_taken, each_read, came_closed, came_failed}

-- ---- lists of rounds

pub answers_added : (added past : List Round) → answers (added ++ past) ≡ answers past ++ answers added
answers_added [] past = sym (append-nil (answers past))
answers_added (r ∷ more) past = ap (λ (xs : List (Option (List (List ℕ)))). xs ++ r.answers) (answers_added more past) ∙ append_assoc (answers past) (answers more) r.answers

pub calls_added : (added past : List Round) → attestor_calls (added ++ past) ≡ attestor_calls past ++ attestor_calls added
calls_added [] past = sym (append-nil (attestor_calls past))
calls_added (r ∷ more) past = ap (λ (xs : List AttestorCall). xs ++ calls_by r.origin r.answers) (calls_added more past) ∙ append_assoc (attestor_calls past) (attestor_calls more) (calls_by r.origin r.answers)

pub asked_added : (origin : Origin) (added past : List Round) → AskedBy origin added → AskedBy origin past → AskedBy origin (added ++ past)
asked_added origin [] past asked before = before
asked_added origin (r ∷ more) past asked before = (asked.0, asked_added origin more past asked.1 before)

pub outcomes_added : (added past : List Round) → outcomes (added ++ past) ≡ outcomes past ++ outcomes added
outcomes_added [] past = sym (append-nil (outcomes past))
outcomes_added (r ∷ more) past = ap (λ (xs : List JwtOutcome). xs ++ r.outcomes) (outcomes_added more past) ∙ append_assoc (outcomes past) (outcomes more) r.outcomes

pub outcomes_such : (P Q : JwtAsk → JwtOutcome → Type 0) → ((a : JwtAsk) (o : JwtOutcome) → P a o → Q a o) → (past : List Round) → AreOutcomes P past → AreOutcomes Q past
outcomes_such P Q so [] are = tt
outcomes_such P Q so (r ∷ past) are = (have_such P Q so r.outcomes (turned_session r (session_after past)) are.0, outcomes_such P Q so past are.1)

pub outcomes_by_such : (P Q : JwtAsk → JwtOutcome → Type 0) → ((a : JwtAsk) (o : JwtOutcome) → P a o → Q a o) → (added : List Round) (s : SessionState) → OutcomesBy P added s → OutcomesBy Q added s
outcomes_by_such P Q so [] s are = tt
outcomes_by_such P Q so (r ∷ more) s are = have_such P Q so r.outcomes (turned_session r s) are

module _ (valid : Ask → Signed → Type 0) where
  read_mine : (shown : Option Publication) (v w : Passing) → ReadIn valid shown v w → w.mine ≡ v.mine ++ number_of shown
  read_mine None v w read = ap (λ (k : Passing). k.mine) read ∙ sym (append-nil v.mine)
  read_mine (Some p) v w read = read.mine

  pub mine_on : (added past : List Round) (base : List ℕ) (v w : Passing) → ReadBy valid added v w → v.mine ≡ base ++ numbers past → w.mine ≡ base ++ numbers (added ++ past)
  mine_on [] past base v w read is = ap (λ (k : Passing). k.mine) read ∙ is
  mine_on (r ∷ []) past base v w read is =
      read_mine r.shown v w read.1 ∙ (ap (λ (ns : List ℕ). ns ++ number_of r.shown) is ∙ append_assoc base (numbers past) (number_of r.shown))
  mine_on (r ∷ q ∷ more) past base v w read is = absurd (cc read.0)

  pub seen_on : (added : List Round) (v w : Passing) → ReadBy valid added v w → IsPrefix v.seen w.seen
  seen_on [] v w read = subst (λ (k : Passing). IsPrefix v.seen k.seen) (sym read) (prefix_same v.seen)
  seen_on (r ∷ more) v w read = read_prefix valid r.shown v w read.1

  pub recent_on : (added past : List Round) (v w : Passing) (p : Publication) → ReadBy valid added v w → AreKnown v.seen past → IsIn p v.seen → NonFallingFrom p.number (numbers past)
      → NonFallingFrom p.number (numbers (added ++ past))
  recent_on [] past v w p read known is rising = rising
  recent_on (r ∷ []) past v w p read known is rising = rises_over valid r.shown v w past p read.1 known is rising
  recent_on (r ∷ q ∷ more) past v w p read known is rising = absurd (cc read.0)

  pub outcomes_on : (P : JwtAsk → JwtOutcome → Type 0) (added past : List Round) (s : SessionState) (v w : Passing) → s ≡ session_after past → ReadBy valid added v w → OutcomesBy P added s → AreOutcomes P past
      → AreOutcomes P (added ++ past)
  outcomes_on P [] past s v w is read new are = are
  outcomes_on P (r ∷ []) past s v w is read new are = (subst (λ (x : SessionState). HaveAsks P r.outcomes (turned_session r x)) is new, are)
  outcomes_on P (r ∷ q ∷ more) past s v w is read new are = absurd (cc read.0)

-- ---- from round to round

module _ (valid : Ask → Signed → Type 0) (vouched : Asker) (origin : Origin) where
  pub gathers_on : {old new : ServedState} {k l m : Option LinkLog} {before mid now : Around} {e : RoundEnd} {heards : List Heard} {took : List ℕ} {past : List Round} {signed : List Delivery} {times : List ℕ}
      → Gathers vouched origin k l before mid heards took past signed times → old.session ≡ session_after past → AreKnown mid.pass.seen past → (tells : RoundTells valid vouched origin old new l m mid now e)
      → Gathers vouched origin k m before now (heards ++ tells.heards) (took ++ tells.took) (tells.added ++ past) (signed ++ tells.signed) (times ++ tells.times)
  gathers_on {old} {new} {k} {l} {m} {before} {mid} {now} {e} {heards} {took} {past} {signed} {times} so_far session known tells =
      let P = IsOutcome vouched (signed ++ tells.signed) (times ++ tells.times) in
      record {
        link = link_then k l m heards tells.heards took tells.took so_far.link tells.link;
        asked = asked_added origin tells.added past tells.asked so_far.asked;
        attested = subst (λ (calls : List AttestorCall). GainsAll before.attested now.attested calls)
            (sym (calls_added tells.added past))
            (gains_then before.attested mid.attested now.attested (attestor_calls past) (attestor_calls tells.added) so_far.attested tells.attested);
        attestor_fails = subst (λ (much : ℕ). RoseBy much before.attestor_faults now.attestor_faults)
            (sym (ap unanswered (answers_added tells.added past) ∙ unanswered_append (answers past) (answers tells.added)))
            (rose_then before.attestor_faults mid.attestor_faults now.attestor_faults (unanswered (answers past)) (unanswered (answers tells.added)) so_far.attestor_fails tells.attestor_fails);
        mine = mine_on valid tells.added past before.pass.mine mid.pass now.pass tells.read so_far.mine;
        seen = prefix_then before.pass.seen mid.pass.seen now.pass.seen so_far.seen (seen_on valid tells.added mid.pass now.pass tells.read);
        signs = gains_then before.signed mid.signed now.signed signed tells.signed so_far.signs tells.signs;
        clock = ticked_then before.times mid.times now.times times tells.times so_far.clock tells.clock;
        outcomes_are = outcomes_on valid P tells.added past old.session mid.pass now.pass session tells.read
            (outcomes_by_such (IsOutcome vouched tells.signed tells.times) P
            (outcome_grows vouched tells.signed (signed ++ tells.signed) tells.times (times ++ tells.times) (λ s is. in_back s signed tells.signed is) (λ s is. in_back s times tells.times is)) tells.added old.session tells.outcomes_are)
            (outcomes_such (IsOutcome vouched signed times) P
            (outcome_grows vouched signed (signed ++ tells.signed) times (times ++ tells.times) (λ s is. in_front s signed tells.signed is) (λ s is. in_front s times tells.times is)) past so_far.outcomes_are);
        ask_fails = subst (λ (much : ℕ). RoseBy much before.ask_faults now.ask_faults)
            (sym (ap unsigned (outcomes_added tells.added past) ∙ unsigned_append (outcomes past) (outcomes tells.added)))
            (rose_then before.ask_faults mid.ask_faults now.ask_faults (unsigned (outcomes past)) (unsigned (outcomes tells.added)) so_far.ask_fails tells.ask_fails);
        recent = λ p is. recent_on valid tells.added past mid.pass now.pass p tells.read known (known_longer p before.pass.seen mid.pass.seen so_far.seen is) (so_far.recent p is);
      }

  pub gathers_none : (k : Option LinkLog) (before : Around) → Gathers vouched origin k k before before [] [] [] [] []
  gathers_none k before = record {
    link = link_none k;
    asked = tt;
    attested = gains_none before.attested;
    attestor_fails = rose_none before.attestor_faults;
    mine = sym (append-nil before.pass.mine);
    seen = prefix_same before.pass.seen;
    signs = gains_none before.signed;
    clock = ticked_none before.times;
    outcomes_are = tt;
    ask_fails = rose_none before.ask_faults;
    recent = λ p is. tt;
  }

  -- at the start
  pub serving_none : (k : Option LinkLog) (before : Around) (served : ServedState) → served ≡ record { session = fresh_session; unsent = [] } → Serving vouched origin served k k before before
  serving_none k before served is =
      subst (λ (s : ServedState). Serving vouched origin s k k before before) (sym is)
      (record {
        heards = [];
        took = [];
        past = [];
        signed = [];
        times = [];
        gathers = gathers_none k before;
        stands = record { pieces = refl; session = refl; talked = sym nothing_talked; whole = tt; known = tt; rising = tt };
      })

  pub fresh_seen : (seen : List Publication) (served : ServedState) → served ≡ record { session = fresh_session; unsent = [] } → HasSeenLast seen served.session
  fresh_seen seen served is = subst (λ (s : ServedState). HasSeenLast seen s.session) (sym is) tt

  -- no room for a start
  pub never_served : (k : Option LinkLog) (before : Around) → ConnectionTells vouched origin k k before before ended.Memory
  never_served k before = record {
    heards = [];
    took = [];
    past = [];
    signed = [];
    times = [];
    gathers = gathers_none k before;
    pieces_are = refl;
    known = tt;
    rising = tt;
    came_to = ((talk [], refl), tt);
  }

  -- the connection goes on
  pub serving_on : {old new : ServedState} {k l m : Option LinkLog} {before mid now : Around} → Serving vouched origin old k l before mid → RoundTells valid vouched origin old new l m mid now ends.On
      → Serving vouched origin new k m before now
  serving_on so_far tells = record {
    heards = so_far.heards ++ tells.heards;
    took = so_far.took ++ tells.took;
    past = tells.added ++ so_far.past;
    signed = so_far.signed ++ tells.signed;
    times = so_far.times ++ tells.times;
    gathers = gathers_on so_far.gathers so_far.stands.session so_far.stands.known tells;
    stands = tells.goes_on (record { gave = so_far.heards; took = so_far.took }) so_far.past so_far.stands;
  }

  pub serving_later : {old new : ServedState} {k l m : Option LinkLog} {before mid now : Around} → Serving vouched origin old k l before mid → RoundTells valid vouched origin old new l m mid now ends.Later
      → Serving vouched origin new k m before now
  serving_later so_far tells = record {
    heards = so_far.heards ++ tells.heards;
    took = so_far.took ++ tells.took;
    past = tells.added ++ so_far.past;
    signed = so_far.signed ++ tells.signed;
    times = so_far.times ++ tells.times;
    gathers = gathers_on so_far.gathers so_far.stands.session so_far.stands.known tells;
    stands = tells.goes_on (record { gave = so_far.heards; took = so_far.took }) so_far.past so_far.stands;
  }

  pub serving_still : {old new : ServedState} {k l m : Option LinkLog} {before mid now : Around} (e : RoundEnd) → ((x : Ended) → e ≡ ends.Ended x → ⊥) → Serving vouched origin old k l before mid
      → RoundTells valid vouched origin old new l m mid now e → Serving vouched origin new k m before now
  serving_still ends.On never so_far tells = serving_on so_far tells
  serving_still ends.Later never so_far tells = serving_later so_far tells
  serving_still (ends.Ended x) never so_far tells = absurd (never x refl)

  -- ---- the end

  -- it broke off
  broke : {old new : ServedState} {k l m : Option LinkLog} {before mid now : Around} (e : Ended) (so_far : Serving vouched origin old k l before mid) (tells : RoundTells valid vouched origin old new l m mid now (ends.Ended e))
      → Began (record { gave = so_far.heards ++ tells.heards; took = so_far.took ++ tells.took }) now.pass.seen (tells.added ++ so_far.past)
      → (BeginsWith (talk (trace (tells.added ++ so_far.past))) (so_far.took ++ tells.took) → AreRounds (tells.added ++ so_far.past) → CameTo e (so_far.heards ++ tells.heards) (so_far.took ++ tells.took) (tells.added ++ so_far.past))
      → ConnectionTells vouched origin k m before now e
  broke e so_far tells began came = record {
    heards = so_far.heards ++ tells.heards;
    took = so_far.took ++ tells.took;
    past = tells.added ++ so_far.past;
    signed = so_far.signed ++ tells.signed;
    times = so_far.times ++ tells.times;
    gathers = gathers_on so_far.gathers so_far.stands.session so_far.stands.known tells;
    pieces_are = began.pieces;
    known = began.known;
    rising = began.rising;
    came_to = came began.part began.rounds;
  }

  pub ends_serving : {old new : ServedState} {k l m : Option LinkLog} {before mid now : Around} (e : Ended) → Serving vouched origin old k l before mid → RoundTells valid vouched origin old new l m mid now (ends.Ended e)
      → ConnectionTells vouched origin k m before now e
  ends_serving {old} {new} {k} {l} {m} {before} {mid} {now} ended.Closed so_far tells =
      let log : LinkLog = record { gave = so_far.heards ++ tells.heards; took = so_far.took ++ tells.took } in
      let past = tells.added ++ so_far.past in
      let stands : Stands log new now.pass.seen past = tells.goes_on (record { gave = so_far.heards; took = so_far.took }) so_far.past so_far.stands in
      record {
        heards = so_far.heards ++ tells.heards;
        took = so_far.took ++ tells.took;
        past = past;
        signed = so_far.signed ++ tells.signed;
        times = so_far.times ++ tells.times;
        gathers = gathers_on so_far.gathers so_far.stands.session so_far.stands.known tells;
        pieces_are = stands.pieces;
        known = stands.known;
        rising = stands.rising;
        came_to = came_closed (record { gave = so_far.heards; took = so_far.took }) tells.heards tells.took new now.pass.seen tells.added past stands tells.end_is;
      }
  ends_serving {old} {new} {k} {l} {m} {before} {mid} {now} (ended.Protocol f) so_far tells =
      let log : LinkLog = record { gave = so_far.heards ++ tells.heards; took = so_far.took ++ tells.took } in
      let past = tells.added ++ so_far.past in
      let stands : Stands log new now.pass.seen past = tells.goes_on (record { gave = so_far.heards; took = so_far.took }) so_far.past so_far.stands in
      record {
        heards = so_far.heards ++ tells.heards;
        took = so_far.took ++ tells.took;
        past = past;
        signed = so_far.signed ++ tells.signed;
        times = so_far.times ++ tells.times;
        gathers = gathers_on so_far.gathers so_far.stands.session so_far.stands.known tells;
        pieces_are = stands.pieces;
        known = stands.known;
        rising = stands.rising;
        came_to = came_failed (record { gave = so_far.heards; took = so_far.took }) tells.heards tells.took new now.pass.seen tells.added past stands f tells.end_is;
      }
  ends_serving {old} {new} {k} {l} {m} {before} {mid} {now} ended.ReadFault so_far tells =
      let log : LinkLog = record { gave = so_far.heards ++ tells.heards; took = so_far.took ++ tells.took } in
      let past = tells.added ++ so_far.past in
      let stands : Stands log new now.pass.seen past = tells.goes_on (record { gave = so_far.heards; took = so_far.took }) so_far.past so_far.stands in
      record {
        heards = so_far.heards ++ tells.heards;
        took = so_far.took ++ tells.took;
        past = past;
        signed = so_far.signed ++ tells.signed;
        times = so_far.times ++ tells.times;
        gathers = gathers_on so_far.gathers so_far.stands.session so_far.stands.known tells;
        pieces_are = stands.pieces;
        known = stands.known;
        rising = stands.rising;
        came_to = (all_taken log new now.pass.seen past tells.end_is.0 stands, stands.whole, each_read log new now.pass.seen past tells.end_is.1 stands);
      }
  ends_serving ended.WriteFault so_far tells = broke ended.WriteFault so_far tells (tells.goes_on (record { gave = so_far.heards; took = so_far.took }) so_far.past so_far.stands) (λ part rounds. (part, rounds))
  ends_serving ended.Memory so_far tells = broke ended.Memory so_far tells (tells.goes_on (record { gave = so_far.heards; took = so_far.took }) so_far.past so_far.stands) (λ part rounds. (part, rounds))
