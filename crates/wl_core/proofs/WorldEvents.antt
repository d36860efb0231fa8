-- A world stands for one event more, and its counts are those of its events.
use Rattle.std.proofs.Common.{◌≡◌, ℕ, ◌+◌, arith, false, List, [], ◌∷◌, ◌++◌, map, sum, Option, Some, None, refl, sym, subst, ap, ◌∙◌}
use Rattle.std.proofs.lemmas.List.{append-nil, append_assoc}
use Rattle.list_laws.specs.Lists.{GainsFront}
use Rattle.list_laws.proofs.Fronts.{gains_all, gains_before, gains_after}
use Rattle.wl_core.proofs.Common.{Managed, Event, Seat, seat_at, IsReady, Moment, moment_after, Line, lines_at, counted, Holds, WorksOn, Publication, Stored}
use Rattle.wl_core.specs.declared.counts.Counts.{Counts}
use Rattle.wl_core.specs.Seats.{begun_at, HasMemoryAt}
use Rattle.wl_core.specs.Moments.{Beginning, moment}
use Rattle.wl_core.specs.Lines.{says, says_all, transcript}
use Rattle.wl_core.specs.Counts.{octets_of, responses, counts_of}
use Rattle.wl_core.specs.Worlds.{WorldState, StandsFor}
use Rattle.wl_core.proofs.WideCounts.{octets_more}

pub stands_on : (w new : WorldState) (d : Beginning) (past : List Event) (e : Event) (added : ℕ) → StandsFor w d past → new.has_failed ≡ false
    → ((m : Moment) → Holds w.managed w.seats w.begun_before m → Holds new.managed new.seats new.begun_before (moment_after e m))
    → ((m : Moment) → Holds w.managed w.seats w.begun_before m → added ≡ counted (octets_of (lines_at e m)))
    → new.octets ≡ counted (w.octets + added) → StandsFor new d (e ∷ past)
stands_on w new d past e added stands works holds adds octets =
    record {
      works = works;
      holds = holds (moment d past) stands.holds;
      octets = octets_more (transcript d past) (lines_at e (moment d past)) w.octets added new.octets stands.octets (adds (moment d past) stands.holds) octets;
    }

memory_at : (p : Publication) (o : Option Seat) → IsReady p o → HasMemoryAt o
memory_at p None ready = tt
memory_at p (Some seat) ready = ready.2

-- memory did not run out in any session of a world that works
pub has_memory : (managed : Managed) (seats : List (Option Seat)) → WorksOn managed seats → (conn : ℕ) → HasMemoryAt (seat_at seats conn)
has_memory managed seats works conn = memory_at managed.stored.published (seat_at seats conn) (works.ready conn)

counted_with : (before more begun result : ℕ) → begun ≡ counted before → result ≡ counted (begun + more) → result ≡ counted (before + more)
counted_with before more begun result is sums = omega arith

abbrev counts_by : ℕ → ℕ → ℕ → Counts
counts_by p r o = record { publications = p; responses = r; octets = o }

pub counts_are : (w : WorldState) (d : Beginning) (past : List Event) (publications begun : ℕ) → StandsFor w d past
    → publications ≡ counted (w.managed.stored.published.number + 1) → begun ≡ counted (w.begun_before + sum (map begun_at w.seats))
    → record { publications = publications; responses = begun; octets = w.octets } ≡ counts_of d past
counts_are w d past publications begun stands numbered sums =
    let m = moment d past in
    let p : publications ≡ counted (m.stored.published.number + 1) = numbered ∙ ap (λ (s : Stored). counted (s.published.number + 1)) stands.holds.stored in
    let sessions : begun ≡ counted (w.begun_before + sum (map begun_at m.seats)) = sums ∙ ap (λ (s : List (Option Seat)). counted (w.begun_before + sum (map begun_at s))) stands.holds.seats in
    let r : begun ≡ counted (responses d past) = counted_with m.begun_before (sum (map begun_at m.seats)) w.begun_before begun stands.holds.begun_before sessions in
    let one : counts_by publications begun w.octets ≡ counts_by (counted (m.stored.published.number + 1)) begun w.octets = ap (λ (n : ℕ). counts_by n begun w.octets) p in
    let two : counts_by (counted (m.stored.published.number + 1)) begun w.octets ≡ counts_by (counted (m.stored.published.number + 1)) (counted (responses d past)) w.octets = ap (λ (n : ℕ). counts_by (counted (m.stored.published.number + 1)) n w.octets) r in
    one ∙ (two ∙ ap (λ (n : ℕ). counts_by (counted (m.stored.published.number + 1)) (counted (responses d past)) n) stands.octets)

-- What was said of events so far, those before q after the first ones, and what is still to be said of the rest.
pub record Saying (d : Beginning) (past events : List Event) (old : List Line) (q rest : List Event) (now : List Line) : Type 0 where
  pub gained : List Line
  pub said : now ≡ old ++ gained
  pub due : says_all d past events ≡ gained ++ says_all d q rest

pub says_nothing_yet : (d : Beginning) (past events : List Event) (old : List Line) → Saying d past events old past events old
says_nothing_yet d past events old = record { gained = []; said = sym (append-nil old); due = refl }

pub says_more : (d : Beginning) (past events : List Event) (old : List Line) (q : List Event) (e : Event) (rest : List Event) (mid now : List Line)
    → Saying d past events old q (e ∷ rest) mid → now ≡ mid ++ says d q e → Saying d past events old (e ∷ q) rest now
says_more d past events old q e rest mid now so more =
    record {
      gained = so.gained ++ says d q e;
      said = more ∙ ap (λ xs. xs ++ says d q e) so.said ∙ append_assoc old so.gained (says d q e);
      due = so.due ∙ sym (append_assoc so.gained (says d q e) (says_all d (e ∷ q) rest));
    }

pub says_a_front : (d : Beginning) (past events : List Event) (old : List Line) (q : List Event) (e : Event) (rest : List Event) (mid now : List Line)
    → Saying d past events old q (e ∷ rest) mid → GainsFront (says d q e) mid now → GainsFront (says_all d past events) old now
says_a_front d past events old q e rest mid now so gains =
    subst (λ due. GainsFront due old now) (sym so.due)
    (gains_after so.gained (says_all d q (e ∷ rest)) old mid now so.said (gains_before (says d q e) (says_all d (e ∷ q) rest) mid now gains))

pub says_the_whole : (d : Beginning) (past events : List Event) (old : List Line) (q : List Event) (now : List Line)
    → Saying d past events old q [] now → GainsFront (says_all d past events) old now
says_the_whole d past events old q now so =
    gains_all (says_all d past events) old now (so.said ∙ ap (λ xs. old ++ xs) (sym (so.due ∙ append-nil so.gained)))
