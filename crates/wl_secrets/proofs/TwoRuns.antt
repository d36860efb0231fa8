-- Two runs: what is kept stays alike, and the sessions are attested as the same.
use Rattle.std.proofs.Common.{◌≡◌, ℕ, ◌==◌, Bool, true, false, if◌then◌else◌, List, [], ◌∷◌, Option, Some, None, Result, Ok, Err, refl, sym, ap, subst, ◌∙◌}
use Rattle.std.proofs.lemmas.Bool.{eqb-true}
use Rattle.std.specs.Prelude.{find}
use Rattle.wl_secrets.proofs.Common.{Entry, Signed, Store, Stored, Event, Beginning, Moment, moment, Attested, joined_as, named_as, attested_after, attested, Side}
use Rattle.wl_document.specs.declared.fault.DocFault.{DocFault}
use Rattle.wl_document.specs.States.{State}
use Rattle.wl_document.specs.Documents.{document_state}
use Rattle.wl_store.specs.declared.tickets.Flight.{Flight}
use Rattle.wl_store.specs.Stores.{after_claim, after_signed, install}
use Rattle.wl_store.specs.Steps.{stored_after, after_sync}
use Rattle.wl_core.specs.declared.events.Event.TheVariants as events
use Rattle.wl_core.specs.Moments.{moment_after, reading_of, after_reading, after_document, flight_in, signed_with, after_identity, failed_with, after_no_identity, store, publication}
use Rattle.wl_secrets.specs.Runs.{Step, with_pair, first_run, second_run, is_at}
use Rattle.wl_secrets.specs.Sides.{IsOnSide}
use Rattle.wl_secrets.specs.Foreign.{IsAsFit, Fits}
use Rattle.wl_secrets.proofs.HiddenStores.{hidden, shade, entries_alike, claim_alike, signed_alike, install_alike, ticket_alike}
use Rattle.wl_secrets.proofs.ViewModels.{shown_after, shown_failed, domain_after, AreAlike, published_alike}
use Rattle.wl_secrets.proofs.SelectorSides.{side_before}

-- ---- the store

published_both : (ours : List ℕ → Bool) (s t : Store) (m n : Stored) → shade ours s ≡ shade ours t → m.published.domain ≡ n.published.domain → AreAlike ours (stored_after s m) (stored_after t n)
published_both ours s t m n store domain = record { store = store; domain = domain_after s m ∙ (domain ∙ sym (domain_after t n)); first = shown_after s m; second = shown_after t n }

read_both : (ours : List ℕ → Bool) (r : Result State DocFault) (m n : Stored) → AreAlike ours m n → AreAlike ours (after_reading r m) (after_reading r n)
read_both ours (Ok d) m n alike = published_both ours (after_sync d m) (after_sync d n) m n (entries_alike ours d.entries d.bundles d.renew_before m.store n.store alike.store) alike.domain
read_both ours (Err fault) m n alike = alike

-- a document says the same to both
pub reading_same : (ours : List ℕ → Bool) (document : List ℕ) (m n : Stored) → AreAlike ours m n → reading_of document m ≡ reading_of document n
reading_same ours document m n alike = ap (λ (own : List ℕ). document_state (Some own) document) alike.domain

document_both : (ours : List ℕ → Bool) (document : List ℕ) (m n : Stored) → AreAlike ours m n → AreAlike ours (after_document document m) (after_document document n)
document_both ours document m n alike =
    subst (λ (r : Result State DocFault). AreAlike ours (after_reading r m) (after_document document n)) (sym (reading_same ours document m n alike)) (read_both ours (reading_of document n) m n alike)

-- the same ticket is in flight
flight_same : (ours : List ℕ → Bool) (n : ℕ) (m l : Stored) → AreAlike ours m l → flight_in n m ≡ flight_in n l
flight_same ours n m l alike = ap (λ (s : Store). find (λ f. f.number == n) s.in_flight) alike.store

-- identities that are alike, each fit where the other is
abbrev AreAsFit : (List ℕ → Bool) → Option Flight → Signed → Signed → ℕ → Stored → Stored → Type 0
AreAsFit ours None g h now m l = Unit {0}
AreAsFit ours (Some f) g h now m l = (hidden (ours f.ask.entry_id) g ≡ hidden (ours f.ask.entry_id) h) × (install now f.ask g m.store ≡ install now f.ask h l.store)

with_both : (ours : List ℕ → Bool) (o : Option Flight) (n : ℕ) (g h : Signed) (now : ℕ) (m l : Stored) → AreAlike ours m l → AreAsFit ours o g h now m l → AreAlike ours (signed_with o n g now m) (signed_with o n h now l)
with_both ours None n g h now m l alike fit = alike
with_both ours (Some f) n g h now m l alike fit =
    published_both ours (after_signed now n f.ask g m.store) (after_signed now n f.ask h l.store) m l (signed_alike ours now n f.ask g h m.store l.store alike.store fit.0 fit.1) alike.domain

identity_both : (ours : List ℕ → Bool) (n : ℕ) (g h : Signed) (now : ℕ) (m l : Stored) → AreAlike ours m l → AreAsFit ours (flight_in n m) g h now m l → AreAlike ours (after_identity n g now m) (after_identity n h now l)
identity_both ours n g h now m l alike fit =
    subst (λ (o : Option Flight). AreAlike ours (after_identity n g now m) (signed_with o n h now l)) (flight_same ours n m l alike) (with_both ours (flight_in n m) n g h now m l alike fit)

itself_fit : (ours : List ℕ → Bool) (o : Option Flight) (g : Signed) (now : ℕ) (m l : Stored) → AreAlike ours m l → AreAsFit ours o g g now m l
itself_fit ours None g now m l alike = tt
itself_fit ours (Some f) g now m l alike = (refl, install_alike ours now f.ask g m.store l.store alike.store)

hidden_pair : (b : Bool) (g : Signed) (chain key : List ℕ) → b ≡ false → hidden b g ≡ hidden b (with_pair chain key g)
hidden_pair true g chain key is = absurd (cc is)
hidden_pair false g chain key is = refl

pair_fit : (ours : List ℕ → Bool) (o : Option Flight) (g : Signed) (chain key : List ℕ) (now : ℕ) (m l : Stored) → AreAlike ours m l → IsAsFit ours o g (with_pair chain key g) now m
    → AreAsFit ours o g (with_pair chain key g) now m l
pair_fit ours None g chain key now m l alike fit = tt
pair_fit ours (Some f) g chain key now m l alike fit =
    (hidden_pair (ours f.ask.entry_id) g chain key fit.0, fit.1 ∙ install_alike ours now f.ask (with_pair chain key g) m.store l.store alike.store)

failed_both : (ours : List ℕ → Bool) (o : Option Flight) (n : ℕ) (m l : Stored) → AreAlike ours m l → AreAlike ours (failed_with o n m) (failed_with o n l)
failed_both ours None n m l alike = alike
failed_both ours (Some f) n m l alike =
    record { store = ticket_alike ours n m.store l.store alike.store; domain = alike.domain; first = shown_failed n m alike.first; second = shown_failed n l alike.second }

no_identity_both : (ours : List ℕ → Bool) (n : ℕ) (m l : Stored) → AreAlike ours m l → AreAlike ours (after_no_identity n m) (after_no_identity n l)
no_identity_both ours n m l alike =
    subst (λ (o : Option Flight). AreAlike ours (after_no_identity n m) (failed_with o n l)) (flight_same ours n m l alike) (failed_both ours (flight_in n m) n m l alike)

stored_both : (ours : List ℕ → Bool) (e : Event) (m n : Moment) → AreAlike ours m.stored n.stored → AreAlike ours (moment_after e m).stored (moment_after e n).stored
unfolding moment_after
stored_both ours (events.Sync document) m n alike = document_both ours document m.stored n.stored alike
stored_both ours (events.Claim now) m n alike =
    published_both ours (after_claim now m.stored.store) (after_claim now n.stored.store) m.stored n.stored (claim_alike ours now m.stored.store n.stored.store alike.store) alike.domain
stored_both ours (events.Signed ticket g now) m n alike = identity_both ours ticket g g now m.stored n.stored alike (itself_fit ours (flight_in ticket m.stored) g now m.stored n.stored alike)
stored_both ours (events.Failed ticket) m n alike = no_identity_both ours ticket m.stored n.stored alike
stored_both ours (events.Join k selectors) m n alike = alike
stored_both ours (events.Name k caller) m n alike = alike
stored_both ours (events.Feed k piece) m n alike = alike
stored_both ours (events.Turn k) m n alike = alike
stored_both ours (events.Token k now given) m n alike = alike
stored_both ours (events.Close k) m n alike = alike

stored_replaced : (ours : List ℕ → Bool) (ticket : ℕ) (g : Signed) (chain key : List ℕ) (now : ℕ) (m n : Moment) → AreAlike ours m.stored n.stored → IsAsFit ours (flight_in ticket m.stored) g (with_pair chain key g) now m.stored
    → AreAlike ours (moment_after (events.Signed ticket g now) m).stored (moment_after (events.Signed ticket (with_pair chain key g) now) n).stored
unfolding moment_after
stored_replaced ours ticket g chain key now m n alike fit =
    identity_both ours ticket g (with_pair chain key g) now m.stored n.stored alike (pair_fit ours (flight_in ticket m.stored) g chain key now m.stored n.stored alike fit)

-- what a connection does leaves the store
stored_only : (ours : List ℕ → Bool) (out : ℕ → Bool) (e : Event) (m n : Moment) → is_at out e ≡ true → AreAlike ours m.stored n.stored → AreAlike ours (moment_after e m).stored n.stored
unfolding moment_after
stored_only ours out (events.Sync document) m n is alike = absurd (cc is)
stored_only ours out (events.Claim now) m n is alike = absurd (cc is)
stored_only ours out (events.Signed ticket g now) m n is alike = absurd (cc is)
stored_only ours out (events.Failed ticket) m n is alike = absurd (cc is)
stored_only ours out (events.Join k selectors) m n is alike = alike
stored_only ours out (events.Name k caller) m n is alike = alike
stored_only ours out (events.Feed k piece) m n is alike = alike
stored_only ours out (events.Turn k) m n is alike = alike
stored_only ours out (events.Token k now given) m n is alike = alike
stored_only ours out (events.Close k) m n is alike = alike

pub alike : (ours : List ℕ → Bool) (out : ℕ → Bool) (d : Beginning) (steps : List Step) → Fits ours out d steps → AreAlike ours (store d (first_run steps)) (store d (second_run steps))
alike ours out d [] fits = record { store = refl; domain = refl; first = record { entries = refl; svids = refl; bundles = refl }; second = record { entries = refl; svids = refl; bundles = refl } }
alike ours out d (Step.Both e ∷ steps) fits = stored_both ours e (moment d (first_run steps)) (moment d (second_run steps)) (alike ours out d steps fits.0)
alike ours out d (Step.Replaced ticket g chain key now ∷ steps) fits =
    stored_replaced ours ticket g chain key now (moment d (first_run steps)) (moment d (second_run steps)) (alike ours out d steps fits.0) fits.1
alike ours out d (Step.Only e ∷ steps) fits = stored_only ours out e (moment d (first_run steps)) (moment d (second_run steps)) fits.1 (alike ours out d steps fits.0)

-- ---- what is out leaves the other connections

pub skipped : (out : ℕ → Bool) (k conn : ℕ) → out k ≡ true → out conn ≡ false → (k == conn) ≡ false
skipped out k conn there here = go (k == conn) refl
  where
    go : (b : Bool) → (k == conn) ≡ b → b ≡ false
    go true is = absurd (cc (sym there ∙ (ap out (eqb-true k conn is) ∙ here)))
    go false is = refl

pub skip : {X : Type 0} (out : ℕ → Bool) (k conn : ℕ) (x y : X) → out k ≡ true → out conn ≡ false → (if k == conn then x else y) ≡ y
skip out k conn x y there here = ap (λ (b : Bool). if b then x else y) (skipped out k conn there here)

attested_only : (out : ℕ → Bool) (e : Event) (conn : ℕ) (a : Option Attested) → is_at out e ≡ true → out conn ≡ false → attested_after e conn a ≡ a
attested_only out (events.Sync document) conn a is here = refl
attested_only out (events.Claim now) conn a is here = refl
attested_only out (events.Signed ticket g now) conn a is here = refl
attested_only out (events.Failed ticket) conn a is here = refl
attested_only out (events.Join k selectors) conn a is here = skip out k conn (joined_as selectors a) a is here
attested_only out (events.Name k caller) conn a is here = skip out k conn (named_as caller a) a is here
attested_only out (events.Feed k piece) conn a is here = refl
attested_only out (events.Turn k) conn a is here = refl
attested_only out (events.Token k now given) conn a is here = refl
attested_only out (events.Close k) conn a is here = skip out k conn None a is here

pub attested_past : (out : ℕ → Bool) (e : Event) (past : List Event) (conn : ℕ) → is_at out e ≡ true → out conn ≡ false → attested (e ∷ past) conn ≡ attested past conn
attested_past out e past conn is here = attested_only out e conn (attested past conn) is here

pub attested_same : (ours : List ℕ → Bool) (out : ℕ → Bool) (d : Beginning) (steps : List Step) (conn : ℕ) → Fits ours out d steps → out conn ≡ false → attested (first_run steps) conn ≡ attested (second_run steps) conn
attested_same ours out d [] conn fits here = refl
attested_same ours out d (Step.Both e ∷ steps) conn fits here = ap (attested_after e conn) (attested_same ours out d steps conn fits.0 here)
attested_same ours out d (Step.Replaced ticket g chain key now ∷ steps) conn fits here = attested_same ours out d steps conn fits.0 here
attested_same ours out d (Step.Only e ∷ steps) conn fits here = attested_past out e (first_run steps) conn fits.1 here ∙ attested_same ours out d steps conn fits.0 here

-- ---- a session is on the same side in both

moved : (ours : List ℕ → Bool) (inside : Bool) (entries : List Entry) (a : Option Attested) (one two : Type 0) → (one → two) → IsOnSide ours inside entries a one → IsOnSide ours inside entries a two
moved ours inside entries None one two f side = tt
moved ours inside entries (Some all) one two f side = (side.0, f side.1)

side_next : (ours : List ℕ → Bool) (inside : Bool) (d : Beginning) (e g : Event) (p q : List Event) (conn : ℕ) → AreAlike ours (store d (e ∷ p)) (store d (g ∷ q)) → attested (e ∷ p) conn ≡ attested (g ∷ q) conn
    → (Side ours inside d p conn → Side ours inside d q conn) → Side ours inside d (e ∷ p) conn → Side ours inside d (g ∷ q) conn
side_next ours inside d e g p q conn alike same f side =
    let entries = published_alike ours (store d (e ∷ p)) (store d (g ∷ q)) alike in
    moved ours inside (publication d (g ∷ q)).entries (attested (g ∷ q) conn) (Side ours inside d p conn) (Side ours inside d q conn) f
    (subst (λ (es : List Entry). IsOnSide ours inside es (attested (g ∷ q) conn) (Side ours inside d p conn)) entries
    (subst (λ (a : Option Attested). IsOnSide ours inside (publication d (e ∷ p)).entries a (Side ours inside d p conn)) same side))

pub side_same : (ours : List ℕ → Bool) (out : ℕ → Bool) (inside : Bool) (d : Beginning) (steps : List Step) (conn : ℕ) → Fits ours out d steps → out conn ≡ false
    → Side ours inside d (first_run steps) conn → Side ours inside d (second_run steps) conn
side_same ours out inside d [] conn fits here side = tt
side_same ours out inside d (Step.Both e ∷ steps) conn fits here side =
    side_next ours inside d e e (first_run steps) (second_run steps) conn (alike ours out d (Step.Both e ∷ steps) fits) (attested_same ours out d (Step.Both e ∷ steps) conn fits here)
    (side_same ours out inside d steps conn fits.0 here) side
side_same ours out inside d (Step.Replaced ticket g chain key now ∷ steps) conn fits here side =
    let s = Step.Replaced ticket g chain key now in
    side_next ours inside d (events.Signed ticket g now) (events.Signed ticket (with_pair chain key g) now) (first_run steps) (second_run steps) conn (alike ours out d (s ∷ steps) fits) (attested_same ours out d (s ∷ steps) conn fits here)
    (side_same ours out inside d steps conn fits.0 here) side
side_same ours out inside d (Step.Only e ∷ steps) conn fits here side =
    side_same ours out inside d steps conn fits.0 here
    (side_before ours inside d e (first_run steps) conn (λ is. sym (attested_past out e (first_run steps) conn fits.1 here) ∙ is) side)
