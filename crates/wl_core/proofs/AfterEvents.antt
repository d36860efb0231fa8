-- What each call leaves is what stands after its event.
use Rattle.std.proofs.Common.{◌≡◌, ℕ, ◌+◌, zero, suc, arith, Bool, false, List, [], Option, None, Result, Ok, Err, slice_set, replicate, sym, ap, subst, ◌∙◌}
use Rattle.std.specs.Prelude.{IsOkAnd}
use Rattle.std.proofs.lemmas.List.{length-replicate}
use Rattle.wl_core.proofs.Common.{DocFault, State, Publication, Signed, JwtToken, CachedToken, after_claim, Stored, stored_after, Managed, Event, CONNS, Line, Seat, counted, seat_at, joined_seat, named_seat, feed_seat, turn_seat, IsReady, tokens_of, Moment, moment_after, after_identity, flight_in, with_told, token_seat, lines_at, no_identity_lines, join_lines, name_lines, told_lines, token_lines, Holds, WorksOn}
use Rattle.jwt_cache.specs.Rings as rings
use Rattle.wl_manager.specs.Managers.{first_managed}
use Rattle.wl_core.specs.declared.events.Event.TheVariants as events
use Rattle.wl_core.specs.Seats.{begun_at}
use Rattle.wl_core.specs.Moments.{after_document, history_after_document, after_no_identity, ask_of_seat, history_answered}
use Rattle.wl_core.specs.Lines.{document_lines, claim_lines, identity_lines, close_lines}
use Rattle.wl_core.specs.Worlds.{Steps, WorldState, StandsFor}

pub sync_steps : (document : List ℕ) (old new : Managed) (seats : List (Option Seat)) (begun : ℕ) (lines : List Line) (m : Moment) → Holds old seats begun m
    → new.stored ≡ after_document document old.stored
    → ((history : List CachedToken) → rings.StandsFor old.tokens history → rings.StandsFor new.tokens (history_after_document document old.stored history))
    → lines ≡ document_lines document old.stored
    → Steps (events.Sync document) new seats begun lines m
unfolding moment_after lines_at
sync_steps document old new seats begun lines m h stored history said =
    record {
      holds = record {
        stored = stored ∙ ap (after_document document) h.stored;
        tokens = subst (λ (s : Stored). rings.StandsFor new.tokens (history_after_document document s m.history)) h.stored (history m.history h.tokens);
        seats = h.seats;
        begun_before = h.begun_before;
      };
      lines = said ∙ ap (document_lines document) h.stored;
    }

kept_tokens : (old new : Managed) (history : List CachedToken) → new.tokens ≡ old.tokens → rings.StandsFor old.tokens history → rings.StandsFor new.tokens history
kept_tokens old new history same stands = subst (λ (t : List (List ℕ × List CachedToken)). rings.StandsFor t history) (sym same) stands

pub claim_steps : (now : ℕ) (old new : Managed) (seats : List (Option Seat)) (begun : ℕ) (lines : List Line) (m : Moment) → Holds old seats begun m
    → new.stored ≡ stored_after (after_claim now old.stored.store) old.stored → new.tokens ≡ old.tokens → lines ≡ claim_lines now old.stored
    → Steps (events.Claim now) new seats begun lines m
unfolding moment_after lines_at
claim_steps now old new seats begun lines m h stored same said =
    record {
      holds = record { stored = stored ∙ ap (λ (s : Stored). stored_after (after_claim now s.store) s) h.stored; tokens = kept_tokens old new m.history same h.tokens; seats = h.seats; begun_before = h.begun_before };
      lines = said ∙ ap (claim_lines now) h.stored;
    }

pub signed_steps : (n : ℕ) (g : Signed) (now : ℕ) (old new : Managed) (seats : List (Option Seat)) (begun : ℕ) (lines : List Line) (m : Moment) → Holds old seats begun m
    → new.stored ≡ after_identity n g now old.stored → new.tokens ≡ old.tokens → lines ≡ identity_lines n g now old.stored
    → Steps (events.Signed n g now) new seats begun lines m
unfolding moment_after lines_at
signed_steps n g now old new seats begun lines m h stored same said =
    record {
      holds = record { stored = stored ∙ ap (after_identity n g now) h.stored; tokens = kept_tokens old new m.history same h.tokens; seats = h.seats; begun_before = h.begun_before };
      lines = said ∙ ap (identity_lines n g now) h.stored;
    }

pub failed_steps : (n : ℕ) (old new : Managed) (seats : List (Option Seat)) (begun : ℕ) (lines : List Line) (m : Moment) → Holds old seats begun m
    → new.stored ≡ after_no_identity n old.stored → new.tokens ≡ old.tokens → lines ≡ no_identity_lines (flight_in n old.stored)
    → Steps (events.Failed n) new seats begun lines m
unfolding moment_after lines_at
failed_steps n old new seats begun lines m h stored same said =
    record {
      holds = record { stored = stored ∙ ap (after_no_identity n) h.stored; tokens = kept_tokens old new m.history same h.tokens; seats = h.seats; begun_before = h.begun_before };
      lines = said ∙ ap (λ (s : Stored). no_identity_lines (flight_in n s)) h.stored;
    }

pub join_steps : (conn : ℕ) (selectors : List (List ℕ)) (old : Managed) (seats others : List (Option Seat)) (begun : ℕ) (lines : List Line) (m : Moment) → Holds old seats begun m
    → others ≡ slice_set seats conn (joined_seat selectors (seat_at seats conn)) → lines ≡ join_lines conn (seat_at seats conn)
    → Steps (events.Join conn selectors) old others begun lines m
unfolding moment_after lines_at
join_steps conn selectors old seats others begun lines m h set said =
    record {
      holds = record { stored = h.stored; tokens = h.tokens; seats = set ∙ ap (λ (s : List (Option Seat)). slice_set s conn (joined_seat selectors (seat_at s conn))) h.seats; begun_before = h.begun_before };
      lines = said ∙ ap (λ (s : List (Option Seat)). join_lines conn (seat_at s conn)) h.seats;
    }

pub name_steps : (conn : ℕ) (caller : Option (List (List ℕ))) (old : Managed) (seats others : List (Option Seat)) (begun : ℕ) (lines : List Line) (m : Moment) → Holds old seats begun m
    → others ≡ slice_set seats conn (named_seat caller (seat_at seats conn)) → lines ≡ name_lines conn caller (seat_at seats conn)
    → Steps (events.Name conn caller) old others begun lines m
unfolding moment_after lines_at
name_steps conn caller old seats others begun lines m h set said =
    record {
      holds = record { stored = h.stored; tokens = h.tokens; seats = set ∙ ap (λ (s : List (Option Seat)). slice_set s conn (named_seat caller (seat_at s conn))) h.seats; begun_before = h.begun_before };
      lines = said ∙ ap (λ (s : List (Option Seat)). name_lines conn caller (seat_at s conn)) h.seats;
    }

pub feed_steps : (conn : ℕ) (piece : List ℕ) (old : Managed) (seats others : List (Option Seat)) (begun : ℕ) (lines : List Line) (m : Moment) → Holds old seats begun m
    → others ≡ with_told conn (feed_seat piece) seats → lines ≡ told_lines conn (feed_seat piece) (seat_at seats conn)
    → Steps (events.Feed conn piece) old others begun lines m
unfolding moment_after lines_at
feed_steps conn piece old seats others begun lines m h set said =
    record {
      holds = record { stored = h.stored; tokens = h.tokens; seats = set ∙ ap (with_told conn (feed_seat piece)) h.seats; begun_before = h.begun_before };
      lines = said ∙ ap (λ (s : List (Option Seat)). told_lines conn (feed_seat piece) (seat_at s conn)) h.seats;
    }

pub turn_steps : (conn : ℕ) (old : Managed) (seats others : List (Option Seat)) (begun : ℕ) (lines : List Line) (m : Moment) → Holds old seats begun m
    → others ≡ with_told conn (turn_seat old.stored.published) seats → lines ≡ told_lines conn (turn_seat old.stored.published) (seat_at seats conn)
    → Steps (events.Turn conn) old others begun lines m
unfolding moment_after lines_at
turn_steps conn old seats others begun lines m h set said =
    record {
      holds = record {
        stored = h.stored;
        tokens = h.tokens;
        seats = set ∙ (ap (λ (s : Stored). with_told conn (turn_seat s.published) seats) h.stored ∙ ap (with_told conn (turn_seat m.stored.published)) h.seats);
        begun_before = h.begun_before;
      };
      lines = said ∙ (ap (λ (s : Stored). told_lines conn (turn_seat s.published) (seat_at seats conn)) h.stored
          ∙ ap (λ (s : List (Option Seat)). told_lines conn (turn_seat m.stored.published) (seat_at s conn)) h.seats);
    }

pub token_steps : (conn now : ℕ) (given : Option JwtToken) (old new : Managed) (seats others : List (Option Seat)) (begun : ℕ) (lines : List Line) (m : Moment) → Holds old seats begun m
    → new.stored ≡ old.stored
    → ((history : List CachedToken) → rings.StandsFor old.tokens history → rings.StandsFor new.tokens (history_answered (ask_of_seat (seat_at seats conn)) old.stored now given history))
    → ((history : List CachedToken) → rings.StandsFor old.tokens history → others ≡ with_told conn (token_seat (tokens_of old.stored history) now given) seats)
    → ((history : List CachedToken) → rings.StandsFor old.tokens history → lines ≡ token_lines conn (token_seat (tokens_of old.stored history) now given) (seat_at seats conn))
    → Steps (events.Token conn now given) new others begun lines m
unfolding moment_after lines_at
token_steps conn now given old new seats others begun lines m h stored history set said =
    record {
      holds = record {
        stored = stored ∙ h.stored;
        tokens = subst (λ (s : Stored). rings.StandsFor new.tokens (history_answered (ask_of_seat (seat_at m.seats conn)) s now given m.history)) h.stored
            (subst (λ (x : List (Option Seat)). rings.StandsFor new.tokens (history_answered (ask_of_seat (seat_at x conn)) old.stored now given m.history)) h.seats (history m.history h.tokens));
        seats = set m.history h.tokens ∙ (λ i. with_told conn (token_seat (tokens_of (h.stored i) m.history) now given) (h.seats i));
        begun_before = h.begun_before;
      };
      lines = said m.history h.tokens ∙ (λ i. token_lines conn (token_seat (tokens_of (h.stored i) m.history) now given) (seat_at (h.seats i) conn));
    }

counted_more : (begun count more later : ℕ) → begun ≡ counted count → later ≡ counted (begun + more) → later ≡ counted (count + more)
counted_more begun count more later is same = omega arith

pub close_steps : (conn : ℕ) (old : Managed) (seats others : List (Option Seat)) (begun later : ℕ) (lines : List Line) (m : Moment) → Holds old seats begun m
    → others ≡ slice_set seats conn None → later ≡ counted (begun + begun_at (seat_at seats conn)) → lines ≡ close_lines conn (seat_at seats conn)
    → Steps (events.Close conn) old others later lines m
unfolding moment_after lines_at
close_steps conn old seats others begun later lines m h set ended said =
    record {
      holds = record {
        stored = h.stored;
        tokens = h.tokens;
        seats = set ∙ ap (λ (s : List (Option Seat)). slice_set s conn None) h.seats;
        begun_before = counted_more begun m.begun_before (begun_at (seat_at m.seats conn)) later h.begun_before (ended ∙ ap (λ (s : List (Option Seat)). counted (begun + begun_at (seat_at s conn))) h.seats);
      };
      lines = said ∙ ap (λ (s : List (Option Seat)). close_lines conn (seat_at s conn)) h.seats;
    }

-- the same of an event, a count and lines that are equal to these
pub steps_of : (e other : Event) (managed : Managed) (seats : List (Option Seat)) (begun later : ℕ) (lines told : List Line) (m : Moment) → e ≡ other → later ≡ begun → told ≡ lines
    → Steps e managed seats begun lines m → Steps other managed seats later told m
steps_of e other managed seats begun later lines told m is same says steps =
    subst (λ (x : Event). Steps x managed seats later told m) is
    (subst (λ (l : List Line). Steps e managed seats later l m) (sym says) (subst (λ (n : ℕ). Steps e managed seats n lines m) (sym same) steps))

-- ---- the beginning

pub none_ready : (p : Publication) (n conn : ℕ) → IsReady p (seat_at (replicate n None) conn)
none_ready p zero conn = tt
none_ready p (suc n) zero = tt
none_ready p (suc n) (suc conn) = none_ready p n conn

pub begins_well : (managed : Managed) → rings.StandsFor managed.tokens [] → WorksOn managed (replicate CONNS None)
begins_well managed stands =
    let none : Option Seat = None in
    record { room = length-replicate CONNS none; tokens = ([], stands); ready = λ conn. none_ready managed.stored.published CONNS conn }

pub begins : (w : WorldState) (managed : Managed) (r : Result State DocFault) (strict : Bool) → w ≡ record { managed = managed; seats = replicate CONNS None; begun_before = 0; octets = 0; has_failed = false }
    → rings.StandsFor managed.tokens [] → IsOkAnd r (λ d. managed ≡ first_managed strict d) → IsOkAnd r (λ d. StandsFor w (record { strict = strict; state = d }) [])
begins w managed (Ok d) strict is stands first =
    record {
      works = ap (λ (v : WorldState). v.has_failed) is;
      holds = record {
        stored = ap (λ (v : WorldState). v.managed.stored) is ∙ ap (λ (m : Managed). m.stored) first;
        tokens = subst (λ (v : WorldState). rings.StandsFor v.managed.tokens []) (sym is) stands;
        seats = ap (λ (v : WorldState). v.seats) is;
        begun_before = ap (λ (v : WorldState). v.begun_before) is;
      };
      octets = ap (λ (v : WorldState). v.octets) is;
    }
begins w managed (Err fault) strict is stands first = absurd first
