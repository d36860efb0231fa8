-- Entries that are written one by one, tickets that are signed one by one, and steps.
use Rattle.std.specs.Prelude.{◌≡◌, ℕ, suc, ◌+◌, ◌<◌, ◌≤◌, Bool, true, false, List, [], ◌∷◌, ◌++◌, map, filter_map, length, drop, get_or, slice_set, replicate, None, Result, Ok, Err, OnOk, IsOkAnd}
use Rattle.std.proofs.Common.{refl, sym, ◌∙◌, ap, subst}
use Rattle.std.proofs.lemmas.List.{append_assoc, drop_more, map-append}
use Rattle.std.proofs.lemmas.List.Elements.{filter_map-append}
use Rattle.list_laws.specs.Results.{◌>>=◌}
use Rattle.wl_document.specs.declared.fault.DocFault.{DocFault}
use Rattle.wl_document.specs.States.{State}
use Rattle.wl_document.specs.Documents.{document_state}
use Rattle.wl_octets.specs.declared.memory.Memory.{Memory}
use Rattle.wl_core.specs.declared.events.Event.{Event}
use Rattle.wl_core.specs.declared.events.Event.TheVariants as events
use Rattle.wl_core.specs.declared.lines.Line.{Line}
use Rattle.wl_core.specs.Moments.{Beginning}
use Rattle.wl_core.specs.Lines.{onto}
use Rattle.wl_core.specs.declared.counts.Counts.{Counts}
use Rattle.wl_core.specs.Counts.{counts_of}
use Rattle.wl_core.specs.Worlds.{WorldState, StandsFor}
use Rattle.wl_replay.specs.declared.simulation.Generator.{Generator}
use Rattle.wl_replay.specs.declared.acts.Act.{Act}
use Rattle.wl_replay.specs.declared.acts.Act.TheVariants as acts
use Rattle.wl_replay.specs.Draws.{state_after, drawn}
use Rattle.wl_replay.specs.Generated.{entry_text, entries_text, document_text}
use Rattle.wl_replay.specs.Simulations.{Course, act_of, identity_event, ticket_in, identity_events, claimed, flag, piece_of, renamed, after_act, after_step, joined, first_course, course, simulated}
use Rattle.wl_replay.specs.Stands.{Reached}

-- ---- entries

pub entry_next : (callers : ℕ) (named : List Bool) (at : ℕ) (d : Bool) → at < length named → entries_text callers at (drop at named) ≡ entry_text callers at (get_or named at d) ++ entries_text callers (at + 1) (drop (at + 1) named)
entry_next callers named at d within = ap (entries_text callers at) (drop_more named at d within)

-- what was to be written is what is written now and what is left
pub entry_written : (whole out new entry left rest : List ℕ) → whole ≡ out ++ left → left ≡ entry ++ rest → new ≡ out ++ entry → whole ≡ new ++ rest
entry_written whole out new entry left rest had is now = had ∙ ap (λ text. out ++ text) is ∙ sym (append_assoc out entry rest) ∙ ap (λ text. text ++ rest) (sym now)

-- ---- tickets

onto_both : (es fs past : List Event) → onto (es ++ fs) past ≡ onto fs (onto es past)
onto_both [] fs past = refl
onto_both (e ∷ es) fs past = onto_both es fs (e ∷ past)

pub one_more_answer : (now : ℕ) (ls : List Line) (line : Line) (past : List Event) → onto (identity_events now (ls ++ line ∷ [])) past ≡ onto (identity_events now (line ∷ [])) (onto (identity_events now ls) past)
one_more_answer now ls line past =
    ap (λ tickets. onto (map (identity_event now) tickets) past) (filter_map-append ticket_in ls (line ∷ []))
    ∙ ap (λ events. onto events past) (map-append (identity_event now) (filter_map ticket_in ls) (filter_map ticket_in (line ∷ [])))
    ∙ onto_both (identity_events now ls) (identity_events now (line ∷ [])) past

-- ---- acts

module _ (w : WorldState) (d : Beginning) (g : Generator) (c : Course) where
  pub claim_reached : (v : WorldState) → Reached w g d c → StandsFor v d (claimed d g.clock c.past) → Reached v g d (after_act d acts.Claim c)
  unfolding after_act
  claim_reached v r stands = record { world = subst (λ (now : ℕ). StandsFor v d (claimed d now c.past)) r.clock stands; draws = r.draws; clock = r.clock; named = r.named; fed = r.fed }

  pub wait_reached : (h : Generator) (seconds : ℕ) → Reached w g d c → h.draws ≡ g.draws → h.clock ≡ g.clock + seconds → h.named.items ≡ g.named.items → h.fed.items ≡ g.fed.items → Reached w h d (after_act d (acts.Wait seconds) c)
  unfolding after_act
  wait_reached h seconds r draws clock named fed = record { world = r.world; draws = draws ∙ r.draws; clock = clock ∙ ap (λ (n : ℕ). n + seconds) r.clock; named = named ∙ r.named; fed = fed ∙ r.fed }

  pub rename_reached : (v : WorldState) (h : Generator) (at : ℕ) (document : List ℕ) → Reached w g d c → StandsFor v d (events.Sync document ∷ c.past) → document ≡ document_text (length g.fed.items) (renamed g.named.items at) → h.draws ≡ g.draws → h.clock ≡ g.clock → h.named.items ≡ renamed g.named.items at → h.fed.items ≡ g.fed.items → Reached v h d (after_act d (acts.Rename at) c)
  unfolding after_act
  rename_reached v h at document r stands is draws clock named fed = record {
    world = subst (λ (text : List ℕ). StandsFor v d (events.Sync text ∷ c.past)) (is ∙ ap (λ (n : ℕ). document_text n (renamed g.named.items at)) (ap length r.fed) ∙ ap (λ (l : List Bool). document_text (length c.fed) (renamed l at)) r.named) stands;
    draws = draws ∙ r.draws;
    clock = clock ∙ r.clock;
    named = named ∙ ap (λ (l : List Bool). renamed l at) r.named;
    fed = fed ∙ r.fed;
  }

  pub feed_reached : (v : WorldState) (h : Generator) (conn : ℕ) (piece : List ℕ) → Reached w g d c → StandsFor v d (events.Feed conn piece ∷ c.past) → piece ≡ piece_of (flag g.fed.items conn) → h.draws ≡ g.draws → h.clock ≡ g.clock → h.named.items ≡ g.named.items → h.fed.items ≡ slice_set g.fed.items conn true → Reached v h d (after_act d (acts.Feed conn) c)
  unfolding after_act
  feed_reached v h conn piece r stands is draws clock named fed = record {
    world = subst (λ (p : List ℕ). StandsFor v d (events.Feed conn p ∷ c.past)) (is ∙ ap (λ (l : List Bool). piece_of (flag l conn)) r.fed) stands;
    draws = draws ∙ r.draws;
    clock = clock ∙ r.clock;
    named = named ∙ r.named;
    fed = fed ∙ ap (λ (l : List Bool). slice_set l conn true) r.fed;
  }

  pub turn_reached : (v : WorldState) (conn : ℕ) → Reached w g d c → StandsFor v d (events.Turn conn ∷ c.past) → Reached v g d (after_act d (acts.Turn conn) c)
  unfolding after_act
  turn_reached v conn r stands = record { world = stands; draws = r.draws; clock = r.clock; named = r.named; fed = r.fed }

  -- ---- a step

  pub step_reached : {X : Type 0} (result : Result X Memory) (v : WorldState) (h k : Generator) (act : Act) → Reached w g d c → k.draws ≡ state_after g.draws → k.clock ≡ g.clock → k.named.items ≡ g.named.items → k.fed.items ≡ g.fed.items → act ≡ act_of (length k.named.items) (length k.fed.items) (drawn k.draws) → ((b : Course) → Reached w k d b → OnOk result (Reached v h d (after_act d act b))) → OnOk result (Reached v h d (after_step d c))
  unfolding after_step
  step_reached result v h k act r draws clock named fed is go =
      let b : Course = record c { draws = state_after c.draws } in
      let same : act ≡ act_of (length c.named) (length c.fed) (drawn (state_after c.draws)) =
      is
      ∙ ap (λ (n : ℕ). act_of n (length k.fed.items) (drawn k.draws)) (ap length (named ∙ r.named))
      ∙ ap (λ (n : ℕ). act_of (length c.named) n (drawn k.draws)) (ap length (fed ∙ r.fed))
      ∙ ap (λ (z : ℕ). act_of (length c.named) (length c.fed) (drawn z)) (draws ∙ ap state_after r.draws) in
      subst (λ (a : Act). OnOk result (Reached v h d (after_act d a b))) same
      (go b (record { world = r.world; draws = draws ∙ ap state_after r.draws; clock = clock ∙ r.clock; named = named ∙ r.named; fed = fed ∙ r.fed }))

-- ---- a whole simulation

module _ (seed entries callers steps : ℕ) (begun joined_by ended : WorldState) (first last : Generator) (result : Counts) where
  pub simulated_by : IsOkAnd (document_state None (document_text callers (replicate entries false))) (λ (s : State). StandsFor begun (record { strict = false; state = s }) []) → ((d : Beginning) → StandsFor begun d [] → StandsFor joined_by d (joined callers)) → ((d : Beginning) (c : Course) → Reached joined_by first d c → Reached ended last d (course d c steps)) → ((d : Beginning) (past : List Event) → StandsFor ended d past → result ≡ counts_of d past) → first.draws ≡ seed → first.clock ≡ 1000 → first.named.items ≡ replicate entries false → first.fed.items ≡ replicate callers false → simulated seed entries callers steps ≡ Ok result
  unfolding simulated first_course
  simulated_by begins joins goes counts draws clock named fed = by (document_state None (document_text callers (replicate entries false))) begins
    where
      by : (r : Result State DocFault) → IsOkAnd r (λ (s : State). StandsFor begun (record { strict = false; state = s }) []) → (r >>= λ (s : State). Ok (counts_of (record { strict = false; state = s }) (course (record { strict = false; state = s }) (first_course seed entries callers) steps).past)) ≡ Ok result
      by (Ok s) stands =
          let d : Beginning = record { strict = false; state = s } in
          let reached : Reached joined_by first d (first_course seed entries callers) = record { world = joins d stands; draws = draws; clock = clock; named = named; fed = fed } in
          ap Ok (sym (counts d _ (goes d (first_course seed entries callers) reached).world))
      by (Err e) stands = absurd stands
