-- What a document, and a ticket that comes back, make of the store.
use Rattle.std.proofs.Common.{◌≡◌, ℕ, ◌==◌, Bool, true, false, if◌then◌else◌, ◌&&◌, ◌||◌, List, [], ◌∷◌, find, option_map, Option, Some, None, Result, Ok, Err, refl, sym, ap, subst, ◌∙◌}
use Rattle.std.specs.Prelude.{IsOkAnd}
use Rattle.sorted_lists.specs.Keys.{item_at}
use Rattle.wl_entry.specs.Keys.{entry_key, svid_key}
use Rattle.wl_entry.specs.Same.{same_ask}
use Rattle.wl_entry.specs.declared.asks.Ask.{Ask}
use Rattle.wl_core.proofs.Common.{Signed, DocFault, State, CachedToken, Publication, Flight, Stored, stored_after, Line, after_reading, flight_in, signed_with, after_identity, failed_with, no_identity_lines}
use Rattle.wl_entry.proofs.Sames.{ask_self}
use Rattle.wl_document.specs.declared.fault.DocFault.TheVariants as faults
use Rattle.wl_document.specs.Checks.{Faults}
use Rattle.jwt_cache.specs.Rings as rings
use Rattle.svid_cache.specs.declared.install.Installed.{Installed}
use Rattle.wl_snapshot.specs.Untouched.{SameBut}
use Rattle.wl_store.specs.declared.tickets.Ticket.{Ticket}
use Rattle.wl_store.specs.Flights.{flight_of}
use Rattle.wl_store.specs.Stores.{has_ticket, install, after_signed}
use Rattle.wl_store.specs.Steps.{after_sync, after_failed}
use Rattle.wl_manager.specs.Tokens.{history_after}
use Rattle.wl_core.specs.declared.lines.Line.TheVariants as lines
use Rattle.wl_core.specs.Moments.{history_read, flight_as, after_no_identity}
use Rattle.wl_core.specs.Lines.{published_lines, reading_lines, installed_line, identity_lines_by, identity_lines}

-- where the publication stays, none of its entries and SVIDs is another
pub untouched : (ids : List (List ℕ)) (p q : Publication) → q ≡ p → SameBut ids p q
untouched ids p q is =
    record {
      entries = λ id out. ap (λ (x : Publication). item_at entry_key x.entries id) is;
      svids = λ id out. ap (λ (x : Publication). item_at svid_key x.svids id) is;
    }

-- ---- a document

pub read_stored : (r : Result State DocFault) (m new : Stored) → IsOkAnd r (λ d. new ≡ stored_after (after_sync d m) m) → new ≡ after_reading r m
read_stored (Ok d) m new is = is
read_stored (Err fault) m new is = absurd is

pub read_history : (r : Result State DocFault) (m new : Stored) (tokens : List (List ℕ × List CachedToken)) (history : List CachedToken)
    → IsOkAnd r (λ d. new ≡ stored_after (after_sync d m) m) → rings.StandsFor tokens (history_after m.store.entries new.store.entries history)
    → rings.StandsFor tokens (history_read r m history)
read_history (Ok d) m new tokens history is stands = subst (λ (s : Stored). rings.StandsFor tokens (history_after m.store.entries s.store.entries history)) is stands
read_history (Err fault) m new tokens history is stands = absurd is

pub read_said : (r : Result State DocFault) (m new : Stored) (said : List Line) → IsOkAnd r (λ d. new ≡ stored_after (after_sync d m) m)
    → said ≡ (if m.published.number == new.published.number then lines.Same ∷ [] else lines.Published new.published.number ∷ [])
    → said ≡ reading_lines r m.published (after_reading r m).published
read_said (Ok d) m new said is says =
    says ∙ ap (λ (s : Stored). if m.published.number == s.published.number then lines.Same ∷ [] else lines.Published s.published.number ∷ []) is
read_said (Err fault) m new said is says = absurd is

-- the fault is that of the document
pub fault_is : (e : DocFault) (r : Result State DocFault) → (e ≡ faults.Memory → ⊥) → Faults e r → r ≡ Err e
fault_is faults.Memory r other is = absurd (other refl)
fault_is faults.NotJson r other is = is
fault_is faults.Version r other is = is
fault_is (faults.Missing p) r other is = is
fault_is (faults.Kind p) r other is = is
fault_is (faults.Id p e) r other is = is
fault_is (faults.Selector p) r other is = is
fault_is (faults.NoSelectors p) r other is = is
fault_is (faults.Duplicate p) r other is = is
fault_is (faults.ForeignDomain p) r other is = is
fault_is (faults.Base64 p) r other is = is
fault_is faults.NoOwnBundle r other is = is
fault_is (faults.TooMany p n) r other is = is
fault_is (faults.TooLong p n) r other is = is

pub refused_stored : (e : DocFault) (r : Result State DocFault) (m : Stored) → r ≡ Err e → m ≡ after_reading r m
refused_stored e r m is = sym (ap (λ (x : Result State DocFault). after_reading x m) is)

pub refused_history : (e : DocFault) (r : Result State DocFault) (m : Stored) (tokens : List (List ℕ × List CachedToken)) (history : List CachedToken) → r ≡ Err e
    → rings.StandsFor tokens history → rings.StandsFor tokens (history_read r m history)
refused_history e r m tokens history is stands = subst (λ (x : Result State DocFault). rings.StandsFor tokens (history_read x m history)) (sym is) stands

pub refused_said : (e : DocFault) (r : Result State DocFault) (m : Stored) (said : List Line) → r ≡ Err e → said ≡ lines.Refused e ∷ []
    → said ≡ reading_lines r m.published (after_reading r m).published
refused_said e r m said is says = says ∙ sym (ap (λ (x : Result State DocFault). reading_lines x m.published (after_reading x m).published) is)

-- ---- a ticket in flight

found_by : (n : ℕ) (f g : Flight) (gs : List Flight) (b : Bool) → (find (λ h. h.number == n) gs ≡ Some f → has_ticket n f.ask gs ≡ true)
    → (if b then Some g else find (λ h. h.number == n) gs) ≡ Some f → ((b && same_ask g.ask f.ask) || has_ticket n f.ask gs) ≡ true
found_by n f g gs true rest is =
    let same : g ≡ f = cc is in
    ap (λ (h : Flight). same_ask h.ask f.ask || has_ticket n f.ask gs) same ∙ ap (λ (b : Bool). b || has_ticket n f.ask gs) (ask_self f.ask)
found_by n f g gs false rest is = rest is

found_flies : (n : ℕ) (f : Flight) (fs : List Flight) → find (λ h. h.number == n) fs ≡ Some f → has_ticket n f.ask fs ≡ true
found_flies n f [] is = absurd (cc is)
found_flies n f (g ∷ gs) is = found_by n f g gs (g.number == n) (found_flies n f gs) is

-- a ticket made anew is that of the flight
abbrev pub IsAnew : ℕ → Ticket → Option Flight → Type 0
IsAnew n t o = Some (flight_of t) ≡ option_map (flight_as n) o

ticket_is : (n : ℕ) (t : Ticket) (f : Flight) → IsAnew n t (Some f) → (t.number ≡ n) × (t.ask ≡ f.ask)
ticket_is n t f is = let same : flight_of t ≡ flight_as n f = cc is in (ap (λ (x : Flight). x.number) same, ap (λ (x : Flight). x.ask) same)

flies_by : (n : ℕ) (t : Ticket) (fs : List Flight) (o : Option Flight) → find (λ h. h.number == n) fs ≡ o → IsAnew n t o → has_ticket t.number t.ask fs ≡ true
flies_by n t fs None found is = absurd (cc is)
flies_by n t fs (Some f) found is =
    let both = ticket_is n t f is in
    subst (λ (k : ℕ). has_ticket k t.ask fs ≡ true) (sym both.0)
    (subst (λ (a : Ask). has_ticket n a fs ≡ true) (sym both.1) (found_flies n f fs found))

pub flies : (n : ℕ) (t : Ticket) (m : Stored) → IsAnew n t (flight_in n m) → has_ticket t.number t.ask m.store.in_flight ≡ true
flies n t m is = flies_by n t m.store.in_flight (flight_in n m) refl is

-- ---- with a signed identity

identity_by : (n : ℕ) (t : Ticket) (g : Signed) (now : ℕ) (m new : Stored) (o : Option Flight) → IsAnew n t o → new ≡ stored_after (after_signed now t.number t.ask g m.store) m
    → new ≡ signed_with o n g now m
identity_by n t g now m new None is after = absurd (cc is)
identity_by n t g now m new (Some f) is after =
    let both = ticket_is n t f is in
    after ∙ (ap (λ (k : ℕ). stored_after (after_signed now k t.ask g m.store) m) both.0 ∙ ap (λ (a : Ask). stored_after (after_signed now n a g m.store) m) both.1)

pub identity_stored : (n : ℕ) (t : Ticket) (g : Signed) (now : ℕ) (m new : Stored) → IsAnew n t (flight_in n m) → new ≡ stored_after (after_signed now t.number t.ask g m.store) m
    → new ≡ after_identity n g now m
identity_stored n t g now m new is after = identity_by n t g now m new (flight_in n m) is after

said_by : (n : ℕ) (t : Ticket) (g : Signed) (now : ℕ) (m : Stored) (i : Installed) (o : Option Flight) → IsAnew n t o → i ≡ install now t.ask g m.store
    → installed_line i ∷ published_lines m.published (after_identity n g now m).published ≡ identity_lines_by o n g now m
said_by n t g now m i None is installs = absurd (cc is)
said_by n t g now m i (Some f) is installs =
    let both = ticket_is n t f is in
    ap (λ (j : Installed). installed_line j ∷ published_lines m.published (after_identity n g now m).published) (installs ∙ ap (λ (a : Ask). install now a g m.store) both.1)

pub identity_said : (n : ℕ) (t : Ticket) (g : Signed) (now : ℕ) (m new : Stored) (i : Installed) (said : List Line) → IsAnew n t (flight_in n m)
    → new ≡ stored_after (after_signed now t.number t.ask g m.store) m → i ≡ install now t.ask g m.store
    → said ≡ installed_line i ∷ published_lines m.published new.published → said ≡ identity_lines n g now m
identity_said n t g now m new i said is after installs says =
    says ∙ (ap (λ (s : Stored). installed_line i ∷ published_lines m.published s.published) (identity_stored n t g now m new is after)
    ∙ said_by n t g now m i (flight_in n m) is installs)

-- no ticket of this number is in flight
none_by : (n : ℕ) (o : Option Flight) → None ≡ option_map (flight_as n) o → o ≡ None
none_by n None is = refl
none_by n (Some f) is = absurd (cc is)

pub spent_stored : (n : ℕ) (g : Signed) (now : ℕ) (m : Stored) → None ≡ option_map (flight_as n) (flight_in n m) → m ≡ after_identity n g now m
spent_stored n g now m is = sym (ap (λ (o : Option Flight). signed_with o n g now m) (none_by n (flight_in n m) is))

pub spent_said : (n : ℕ) (g : Signed) (now : ℕ) (m : Stored) (said : List Line) → None ≡ option_map (flight_as n) (flight_in n m) → said ≡ lines.Spent ∷ [] → said ≡ identity_lines n g now m
spent_said n g now m said is says = says ∙ sym (ap (λ (o : Option Flight). identity_lines_by o n g now m) (none_by n (flight_in n m) is))

-- ---- without one

failed_by : (n : ℕ) (t : Ticket) (m new : Stored) (o : Option Flight) → IsAnew n t o → new ≡ after_failed t.number m → new ≡ failed_with o n m
failed_by n t m new None is after = absurd (cc is)
failed_by n t m new (Some f) is after = after ∙ ap (λ (k : ℕ). after_failed k m) (ticket_is n t f is).0

pub failed_stored : (n : ℕ) (t : Ticket) (m new : Stored) → IsAnew n t (flight_in n m) → new ≡ after_failed t.number m → new ≡ after_no_identity n m
failed_stored n t m new is after = failed_by n t m new (flight_in n m) is after

failed_said_by : (n : ℕ) (t : Ticket) (o : Option Flight) → IsAnew n t o → lines.Failed ∷ [] ≡ no_identity_lines o
failed_said_by n t None is = absurd (cc is)
failed_said_by n t (Some f) is = refl

pub failed_said : (n : ℕ) (t : Ticket) (m : Stored) (said : List Line) → IsAnew n t (flight_in n m) → said ≡ lines.Failed ∷ [] → said ≡ no_identity_lines (flight_in n m)
failed_said n t m said is says = says ∙ failed_said_by n t (flight_in n m) is

pub none_stored : (n : ℕ) (m : Stored) → None ≡ option_map (flight_as n) (flight_in n m) → m ≡ after_no_identity n m
none_stored n m is = sym (ap (λ (o : Option Flight). failed_with o n m) (none_by n (flight_in n m) is))

pub none_said : (n : ℕ) (m : Stored) (said : List Line) → None ≡ option_map (flight_as n) (flight_in n m) → said ≡ lines.Spent ∷ [] → said ≡ no_identity_lines (flight_in n m)
none_said n m said is says = says ∙ sym (ap (λ (o : Option Flight). no_identity_lines o) (none_by n (flight_in n m) is))

failed_published : (o : Option Flight) (n : ℕ) (m : Stored) → (failed_with o n m).published ≡ m.published
failed_published None n m = refl
failed_published (Some f) n m = refl

pub failed_untouched : (ids : List (List ℕ)) (n : ℕ) (m new : Stored) → new ≡ after_no_identity n m → SameBut ids m.published new.published
failed_untouched ids n m new is = untouched ids m.published new.published (ap (λ (s : Stored). s.published) is ∙ failed_published (flight_in n m) n m)
