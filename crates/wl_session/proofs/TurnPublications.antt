-- On which publications a turn may be taken after a call.
use Rattle.std.proofs.Common.{◌≡◌, ℕ, ◌<◌, List, Option, Some, None, Ok, refl, sym, subst, arith}
use Rattle.std.specs.Prelude.{Result, Err, IsSome}
use Rattle.wl_session.proofs.Common.{End, reading_from, ConnFault, Publication, JwtOutcome, SessionFault, Talking, Said, SessionState, Running, Fallen, feed_said, turn_said, name_said, given_said, Goes, Turns}
use Rattle.wl_session.specs.declared.asks.SessionFault.TheVariants as faults
use Rattle.wl_session.specs.Sessions.{OutOfMemory, fresh_session, state_of_fault, Says, Feeds, Names, GivesOutcome, unnamed_in, asks_in}
use Rattle.wl_session.specs.Settled.{MayFollow, MayTurn, FirstMayTurn, FeedKeepsTurn, NameKeepsTurn, TokenKeepsTurn, TurnMayFollow}

pub fresh_follows : (x : Publication) (s : SessionState) → s ≡ fresh_session → MayTurn x s
fresh_follows x s is = subst (MayTurn x) (sym is) tt

fault_follows : (x : Publication) (f : Option ConnFault) (e : End) (t : Talking) (last : Option Publication) → MayFollow x last → MayTurn x (state_of_fault f e t last)
fault_follows x None e t last may = may
fault_follows x (Some f) e t last may = tt

says_follow : (x : Publication) (e : End) (last : Option Publication) (due : Said) (r : Result (Unit {0}) SessionFault) (old now : List ℕ) (new : SessionState) → Says e last due r old now new → MayFollow x last → MayTurn x new
says_follow x e last due (Ok done) old now new says may = subst (MayTurn x) (sym says.2) (fault_follows x due.fault e due.after last may)
says_follow x e last due (Err (faults.Protocol f)) old now new says may = subst (MayTurn x) (sym says.2) (fault_follows x due.fault e due.after last may)
says_follow x e last due (Err faults.Memory) old now new says may = subst (MayTurn x) (sym says.1) tt

goes_follow : (x : Publication) (e : End) (last : Option Publication) (due : Said) (r : Result (Unit {0}) SessionFault) (old now : List ℕ) (new : SessionState) → Goes e last due r old now new → MayFollow x last → MayTurn x new
goes_follow x e last due (Ok done) old now new goes may = subst (MayTurn x) (sym goes.1) may
goes_follow x e last due (Err (faults.Protocol f)) old now new goes may = absurd goes
goes_follow x e last due (Err faults.Memory) old now new goes may = subst (MayTurn x) (sym goes.1) tt

-- bytes and names leave it as it was
pub feeds_follow : (x : Publication) (piece : List ℕ) (s : SessionState) (r : Result (Unit {0}) SessionFault) (old now : List ℕ) (new : SessionState) → Feeds piece s r old now new → MayTurn x s → MayTurn x new
feeds_follow x piece (Running e t last) r old now new feeds may = says_follow x (reading_from e piece).ending last (feed_said (reading_from e piece) t) r old now new feeds may
feeds_follow x piece (Fallen f begun) r old now new feeds may = subst (MayTurn x) (sym feeds.2) tt
feeds_follow x piece OutOfMemory r old now new feeds may = subst (MayTurn x) (sym feeds.2) tt

pub names_follow : (x : Publication) (sel : Option (List (List ℕ))) (s : SessionState) (r : Result (Unit {0}) SessionFault) (old now : List ℕ) (new : SessionState) → IsSome (unnamed_in s) → Names sel s r old now new → MayTurn x s → MayTurn x new
names_follow x sel (Running e t last) r old now new there names may = goes_follow x e last (name_said sel t) r old now new names may
names_follow x sel (Fallen f begun) r old now new there names may = absurd (cc there)
names_follow x sel OutOfMemory r old now new there names may = absurd (cc there)

pub tokens_follow : (x : Publication) (o : JwtOutcome) (s : SessionState) (r : Result (Unit {0}) SessionFault) (old now : List ℕ) (new : SessionState) → IsSome (asks_in s) → GivesOutcome o s r old now new → MayTurn x s → MayTurn x new
tokens_follow x o (Running e t last) r old now new there gives may = goes_follow x e last (given_said o t) r old now new gives may
tokens_follow x o (Fallen f begun) r old now new there gives may = absurd (cc there)
tokens_follow x o OutOfMemory r old now new there gives may = absurd (cc there)

-- it may be taken on the same publication, and on one of a higher number
pub itself : (y : Publication) → MayFollow y (Some y)
itself y = (omega arith, λ same. refl)

pub later : (x y : Publication) → y.number < x.number → MayFollow x (Some y)
later x y less = (omega (arith, less), λ same. absurd (omega (arith, less, same)))

-- after a turn on a publication, one may be taken where it may follow that one
pub turns_follow : (x y : Publication) (s : SessionState) (r : Result (Unit {0}) SessionFault) (old now : List ℕ) (new : SessionState) → Turns y s r old now new → MayFollow x (Some y) → MayTurn x new
turns_follow x y (Running e t last) r old now new turns may = goes_follow x e (Some y) (turn_said y t) r old now new turns may
turns_follow x y (Fallen f begun) r old now new turns may = subst (MayTurn x) (sym turns.2) tt
turns_follow x y OutOfMemory r old now new turns may = subst (MayTurn x) (sym turns.2) tt

pub turns_again : (y : Publication) (s : SessionState) (r : Result (Unit {0}) SessionFault) (old now : List ℕ) (new : SessionState) → Turns y s r old now new → MayTurn y new
turns_again y s r old now new turns = turns_follow y y s r old now new turns (itself y)

pub turns_later : (x y : Publication) (s : SessionState) (r : Result (Unit {0}) SessionFault) (old now : List ℕ) (new : SessionState) → Turns y s r old now new → y.number < x.number → MayTurn x new
turns_later x y s r old now new turns less = turns_follow x y s r old now new turns (later x y less)

-- ---- the laws

pub first_may : FirstMayTurn
first_may x = tt

pub feed_keeps : FeedKeepsTurn
feed_keeps x piece old new r before after = feeds_follow x piece old r before after new

pub name_keeps : NameKeepsTurn
name_keeps x sel old new r before after = names_follow x sel old r before after new

pub token_keeps : TokenKeepsTurn
token_keeps x o old new r before after = tokens_follow x o old r before after new

pub turn_may : TurnMayFollow
turn_may x y old new r before after = turns_follow x y old r before after new
