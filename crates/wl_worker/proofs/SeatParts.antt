-- What the parts of a seat's serving come to, one after another.
use Rattle.std.specs.Prelude.{◌≡◌, ◌⊎◌, ⊤, ℕ, ◌+◌, ◌≤◌, ◌^◌, List, [], ◌∷◌, ◌++◌, length, Option, Some, None, IfSome, is_some, Err, IsErrOf}
use Rattle.std.proofs.Common.{cond, arith, refl, sym, ◌∙◌, ap, subst, append_assoc, length-append, inl, inr}
use Rattle.std.proofs.lemmas.List.{append-nil}
use Rattle.std.proofs.lemmas.List.Sums.{sum_by-cons}
use mathlib.Core.List.{IsPrefix}
use Rattle.wl_worker.proofs.Common.{Ask, Signed, Publication, Passing, Origin, Rose, ListenerLog, FinishedLink, BoundSocket, OnlyAdds, links_given, with_kind, Finishes, AcceptKind, fresh_session, LinkLog, Round, links_of, RoundEnd, Asker, Around, ServedState, HasSeenLast, ReadBy, RoundTells, SeatWorld, seat_world, Under, SeatView, seat_view, SeatEnd, EdgeFault}
use Rattle.wl_edge.specs.Listeners.{is_link, HasOpenLink}
use Rattle.wl_edge.specs.declared.listener.AcceptKind.TheVariants as kind
use Rattle.wl_worker.specs.Tended.{HasNoEnd, HasLastEnd, AcceptsTo, ListenedTo}
use Rattle.wl_worker.specs.Seating.{seen_by, HasOpen, HaveSeenLast, Fit, ListensOn, Goes, StepAccepts, EndFits, StepFits, Stepped, EndedBy, Rests, RestsAt, seat_end_of}
use Rattle.wl_worker.specs.declared.seat.SeatEnd.TheVariants as seat
use Rattle.wl_worker.specs.declared.step.Step.{Step}
use Rattle.wl_worker.specs.declared.step.Step.TheVariants as step
use Rattle.wl_edge.specs.declared.fault.EdgeFault.TheVariants as edge
use Rattle.wl_edge.proofs.KnownSockets.{adds_none, adds_same, adds_then}
use Rattle.wl_edge.proofs.LinksGiven.{given_append}
use Rattle.wl_worker.proofs.SeenPublications.{seen_longer, prefix_then, prefix_same, read_prefix}

-- ---- the listener

pub listens_none : (told : Option ListenerLog) (n : ℕ) → ListensOn told told n n []
listens_none None n = refl
listens_none (Some log) n =
    let none : links_given [] ≡ 0 = refl in (
      log,
      refl,
      record {
        finished = [];
        kinds_are = sym (append-nil log.kinds);
        finished_are = sym (append-nil log.finished);
        count = omega (arith, none);
      },
    )

pub listens_then : (a b c : Option ListenerLog) (m n k : ℕ) (xs ys : List AcceptKind) → ListensOn a b m n xs → ListensOn b c n k ys → ListensOn a c m k (xs ++ ys)
listens_then None b c m n k xs ys one other = subst (λ (o : Option ListenerLog). ListensOn o c n k ys) one other
listens_then (Some log) b c m n k xs ys one other =
    let next = subst (λ (o : Option ListenerLog). ListensOn o c n k ys) one.1 other in
    let first = one.2 in
    let second = next.2 in (
      next.0,
      next.1,
      record {
        finished = first.finished ++ second.finished;
        kinds_are = second.kinds_are ∙ ap (λ (ks : List AcceptKind). ks ++ ys) first.kinds_are ∙ append_assoc log.kinds xs ys;
        finished_are = second.finished_are ∙ ap (λ (fs : List FinishedLink). fs ++ second.finished) first.finished_are ∙ append_assoc log.finished first.finished second.finished;
        count = omega (arith, first.count, second.count, given_append xs ys, length-append first.finished second.finished);
      },
    )

pub listens_answered : (old new : Option ListenerLog) (n : ℕ) (answer : AcceptKind) → (old ≡ None → new ≡ None) → IfSome old (λ log. new ≡ Some (with_kind log answer)) → ListensOn old new n (n + links_given (answer ∷ [])) (answer ∷ [])
listens_answered None new n answer silent answers = silent refl
listens_answered (Some log) new n answer silent answers = (
  with_kind log answer,
  answers,
  record {
    finished = [];
    kinds_are = refl;
    finished_are = sym (append-nil log.finished);
    count = omega arith;
  },
)

pub listens_finished : (old new : Option ListenerLog) (n : ℕ) (link : FinishedLink) → (old ≡ None → new ≡ None) → Finishes old new link → ListensOn old new (n + 1) n []
listens_finished None new n link silent ends = silent refl
listens_finished (Some log) new n link silent ends =
    let none : links_given [] ≡ 0 = refl in (
      record log { finished = log.finished ++ link ∷ [] },
      ends,
      record {
        finished = link ∷ [];
        kinds_are = sym (append-nil log.kinds);
        finished_are = refl;
        count = omega (arith, none);
      },
    )

pub open_on : (old new : Option ListenerLog) (m n : ℕ) (kinds : List AcceptKind) → ListensOn old new m n kinds → HasOpen old m → HasOpen new n
open_on None new m n kinds listens is = subst (λ (o : Option ListenerLog). HasOpen o n) (sym listens) tt
open_on (Some log) new m n kinds listens is =
    let how = listens.2 in
    let given : links_given listens.0.kinds ≡ links_given log.kinds + links_given kinds = ap links_given how.kinds_are ∙ given_append log.kinds kinds in
    let gone : length listens.0.finished ≡ length log.finished + length how.finished = ap length how.finished_are ∙ length-append log.finished how.finished in
    subst (λ (o : Option ListenerLog). HasOpen o n) (sym listens.1) (omega (arith, is, how.count, given, gone))

-- what tells goes on telling, and what doesn't goes on so
pub stays_silent : (a b : Option ListenerLog) → is_some a ≡ is_some b → a ≡ None → b ≡ None
stays_silent a None same is = refl
stays_silent None (Some y) same is = absurd (cc same)
stays_silent (Some x) (Some y) same is = absurd (cc is)

-- one of them may be finished
pub open_link : (told : Option ListenerLog) (n : ℕ) → HasOpen told (n + 1) → HasOpenLink told
open_link None n is = tt
open_link (Some log) n is = omega (arith, is)

-- a link that was just given may be
pub open_new : (old new : Option ListenerLog) (n : ℕ) → (old ≡ None → new ≡ None) → IfSome old (λ log. new ≡ Some (with_kind log kind.Link)) → HasOpen old n → HasOpenLink new
open_new old new n silent answers is =
    let one : links_given (kind.Link ∷ []) ≡ 1 = refl in
    open_link new n (open_on old new n (n + 1) (kind.Link ∷ []) (subst (λ (m : ℕ). ListensOn old new n m (kind.Link ∷ [])) (ap (λ (m : ℕ). n + m) one) (listens_answered old new n kind.Link silent answers)) is)

-- ---- what was seen

pub all_seen_longer : (seen list : List Publication) (links : List Under) → IsPrefix seen list → HaveSeenLast seen links → HaveSeenLast list links
all_seen_longer seen list [] pre all = tt
all_seen_longer seen list (u ∷ links) pre all = (seen_longer seen list u.served.session pre all.0, all_seen_longer seen list links pre all.1)

seen_first : (seen : List Publication) (front back : List Under) (u : Under) → HaveSeenLast seen (front ++ u ∷ back) → HasSeenLast seen u.served.session × HaveSeenLast seen (front ++ back)
seen_first seen [] back u all = (all.0, all.1)
seen_first seen (x ∷ front) back u all =
    let rest = seen_first seen front back u all.1 in
    (rest.0, (all.0, rest.1))

seen_among : (seen : List Publication) (front back : List Under) (u : Under) → HasSeenLast seen u.served.session → HaveSeenLast seen (front ++ back) → HaveSeenLast seen (front ++ u ∷ back)
seen_among seen [] back u one all = (one, all)
seen_among seen (x ∷ front) back u one all = (all.0, seen_among seen front back u one all.1)

seen_moved : (seen : List Publication) (u : Under) (front back front_then back_then : List Under) → front ++ back ≡ front_then ++ back_then → HaveSeenLast seen (front ++ u ∷ back) → HaveSeenLast seen (front_then ++ u ∷ back_then)
seen_moved seen u front back front_then back_then same all =
    let parts = seen_first seen front back u all in
    seen_among seen front_then back_then u parts.0 (subst (λ (l : List Under). HaveSeenLast seen l) same parts.1)

pub all_seen_push : (seen : List Publication) (links : List Under) (u : Under) → HaveSeenLast seen links → HasSeenLast seen u.served.session → HaveSeenLast seen (links ++ u ∷ [])
all_seen_push seen [] u all one = (one, tt)
all_seen_push seen (x ∷ links) u all one = (all.0, all_seen_push seen links u all.1 one)

read_sees : (valid : Ask → Signed → Type 0) (added : List Round) (v w : Passing) → ReadBy valid added v w → IsPrefix v.seen w.seen
read_sees valid [] v w read = subst (λ (k : Passing). IsPrefix v.seen k.seen) (sym read) (prefix_same v.seen)
read_sees valid (r ∷ more) v w read = read_prefix valid r.shown v w read.1

pub round_sees : {valid : Ask → Signed → Type 0} {vouched : Asker} {origin : Origin} {old new : ServedState} {log_before log_now : Option LinkLog} {before now : Around} {end : RoundEnd}
    → RoundTells valid vouched origin old new log_before log_now before now end → IsPrefix before.pass.seen now.pass.seen
round_sees {valid} {vouched} {origin} {old} {new} {log_before} {log_now} {before} {now} {end} round = read_sees valid round.added before.pass now.pass round.read

-- ---- one part, and then another

pub goes_still : (w : SeatView) (xs : List Under) → Goes w w xs xs []
goes_still w xs =
    record {
      room = refl;
      sockets = adds_none w.world.sockets;
      listens = omega arith;
      waits = omega arith;
      sees = prefix_same (seen_by w);
      listener = listens_none w.world.listener (length xs);
      keep_seen = λ all. all;
    }

pub goes_then : (a b c : SeatView) (xs ys zs : List Under) (j k : List AcceptKind) → Goes a b xs ys j → Goes b c ys zs k → Goes a c xs zs (j ++ k)
goes_then a b c xs ys zs j k one other =
    record {
      room = other.room ∙ one.room;
      sockets = adds_then a.world.sockets b.world.sockets c.world.sockets one.sockets other.sockets;
      listens = omega (arith, one.listens, other.listens);
      waits = omega (arith, one.waits, other.waits);
      sees = prefix_then (seen_by a) (seen_by b) (seen_by c) one.sees other.sees;
      listener = listens_then a.world.listener b.world.listener c.world.listener (length xs) (length ys) (length zs) j k one.listener other.listener;
      keep_seen = λ all. other.keep_seen (one.keep_seen all);
    }

pub goes_on : (a b c : SeatView) (xs ys zs : List Under) (j : List AcceptKind) → Goes a b xs ys j → Goes b c ys zs [] → Goes a c xs zs j
goes_on a b c xs ys zs j one other = subst (λ (k : List AcceptKind). Goes a c xs zs k) (append-nil j) (goes_then a b c xs ys zs j [] one other)

pub fit_on : (a b : SeatView) (xs ys : List Under) (j : List AcceptKind) → Goes a b xs ys j → Fit a xs → Fit b ys
fit_on a b xs ys j goes fit = record { is_open = open_on a.world.listener b.world.listener (length xs) (length ys) j goes.listener fit.is_open; seen = goes.keep_seen fit.seen }

pub goes_to : (a b : SeatView) (xs ys zs : List Under) (j : List AcceptKind) → ys ≡ zs → Goes a b xs zs j → Goes a b xs ys j
goes_to a b xs ys zs j same goes = subst (λ (l : List Under). Goes a b xs l j) (sym same) goes

-- ---- where links stand

abbrev pub each_slot : {A B : Type 0} → List (Option A) → (A → B) → List B
each_slot {A} {B} slots f = links_of f slots

pub same_links : {A B : Type 0} (f : A → B) (xs ys : List (Option A)) → xs ≡ ys → links_of f xs ≡ links_of f ys
same_links {A} {B} f xs ys is = ap (λ (l : List (Option A)). links_of f l) is

-- a link comes to stand between others
pub goes_moved : (w : SeatView) (u : Under) (front back front_then back_then : List Under) → front ++ back ≡ front_then ++ back_then → Goes w w (front ++ u ∷ back) (front_then ++ u ∷ back_then) []
goes_moved w u front back front_then back_then same =
    let count : length (front ++ u ∷ back) ≡ length (front_then ++ u ∷ back_then) = omega (arith, length-append front (u ∷ back), length-append front_then (u ∷ back_then), length-append front back, length-append front_then back_then, ap length same) in
    record {
      room = refl;
      sockets = adds_none w.world.sockets;
      listens = omega arith;
      waits = omega arith;
      sees = prefix_same (seen_by w);
      listener = subst (λ (n : ℕ). ListensOn w.world.listener w.world.listener (length (front ++ u ∷ back)) n []) count (listens_none w.world.listener (length (front ++ u ∷ back)));
      keep_seen = seen_moved (seen_by w) u front back front_then back_then same;
    }

-- ---- a round of the first link

module _ {next starved : ℕ} {sockets : Option (List BoundSocket)} (room listener_faults : ℕ) (before now : Around) (sees : IsPrefix before.pass.seen now.pass.seen) where
  -- it goes on
  pub goes_round : (ready_faults : ℕ) (listener : Option ListenerLog) (u v : Under) (xs : List Under) → HasSeenLast now.pass.seen v.served.session
      → Goes (seat_view room next listener_faults ready_faults (seat_world sockets listener starved before)) (seat_view room next listener_faults ready_faults (seat_world sockets listener starved now)) (u ∷ xs) (v ∷ xs) []
  goes_round ready_faults listener u v xs last =
      record {
        room = refl;
        sockets = adds_none sockets;
        listens = omega arith;
        waits = omega arith;
        sees = sees;
        listener = listens_none listener (length (u ∷ xs));
        keep_seen = λ all. (last, all_seen_longer before.pass.seen now.pass.seen xs sees all.1);
      }

  -- it was over, and is finished
  pub goes_over : {starved_now : ℕ} {sockets_now : Option (List BoundSocket)} (ready_faults faults_now listens_now : ℕ) (listener listener_now : Option ListenerLog) (u : Under) (xs : List Under) (f : FinishedLink) → listens_now ≡ listener_faults → ready_faults ≤ faults_now → (listener ≡ None → listener_now ≡ None) → sockets_now ≡ sockets → Finishes listener listener_now f
      → Goes (seat_view room next listener_faults ready_faults (seat_world sockets listener starved before)) (seat_view room next listens_now faults_now (seat_world sockets_now listener_now starved_now now)) (u ∷ xs) xs []
  goes_over {starved_now} {sockets_now} ready_faults faults_now listens_now listener listener_now u xs f listens waits silent sockets_kept ends =
      let one : length xs + 1 ≡ length (u ∷ xs) = omega arith in
      record {
        room = refl;
        sockets = adds_same sockets sockets_now sockets_kept;
        listens = omega (arith, listens);
        waits = waits;
        sees = sees;
        listener = subst (λ (n : ℕ). ListensOn listener listener_now n (length xs) []) one (listens_finished listener listener_now (length xs) f silent ends);
        keep_seen = λ all. all_seen_longer before.pass.seen now.pass.seen xs sees all.1;
      }

-- the watcher was asked
pub goes_waited : {next : ℕ} (room listener_faults ready_faults faults_now : ℕ) (world : SeatWorld) (xs : List Under) → ready_faults ≤ faults_now
    → Goes (seat_view room next listener_faults ready_faults world) (seat_view room next listener_faults faults_now world) xs xs []
goes_waited room listener_faults ready_faults faults_now world xs waits =
    record {
      room = refl;
      sockets = adds_none world.sockets;
      listens = omega arith;
      waits = waits;
      sees = prefix_same world.around.pass.seen;
      listener = listens_none world.listener (length xs);
      keep_seen = λ all. all;
    }

-- ---- accepts

pub no_end_then : (xs ys : List AcceptKind) → HasNoEnd xs → HasNoEnd ys → HasNoEnd (xs ++ ys)
no_end_then [] ys one other = other
no_end_then (kind.Link ∷ xs) ys one other = no_end_then xs ys one other
no_end_then (kind.Idle ∷ xs) ys one other = no_end_then xs ys one other
no_end_then (kind.End ∷ xs) ys one other = absurd one
no_end_then (kind.Failed ∷ xs) ys one other = no_end_then xs ys one other

pub last_end_then : (xs ys : List AcceptKind) → HasNoEnd xs → HasLastEnd ys → HasLastEnd (xs ++ ys)
last_end_then xs ys one other =
    (xs ++ other.0, ap (λ (l : List AcceptKind). xs ++ l) other.1 ∙ sym (append_assoc xs other.0 (kind.End ∷ [])), no_end_then xs other.0 one other.2)

pub accepts_then : (end : SeatEnd) (xs ys : List AcceptKind) → HasNoEnd xs → AcceptsTo end ys → AcceptsTo end (xs ++ ys)
accepts_then seat.End xs ys one other = last_end_then xs ys one other
accepts_then seat.ListenFault xs ys one other = no_end_then xs ys one other
accepts_then seat.WaitFault xs ys one other = tt
accepts_then seat.Memory xs ys one other = tt

step_accepts_then : (s : Step) (xs ys : List AcceptKind) → HasNoEnd xs → StepAccepts s ys → StepAccepts s (xs ++ ys)
step_accepts_then step.On xs ys one other = no_end_then xs ys one other
step_accepts_then step.Idle xs ys one other = no_end_then xs ys one other
step_accepts_then step.Closed xs ys one other = last_end_then xs ys one other
step_accepts_then (step.Over end) xs ys one other = accepts_then end xs ys one other

rose_from : (a b c : ℕ) → a ≤ b → Rose b c → Rose a c
rose_from a b c le (inl less) = inl (omega (arith, le, less))
rose_from a b c le (inr full) = inr full

pub fits_from : (end : SeatEnd) (a b c : SeatView) (xs ys : List Under) (j : List AcceptKind) → Goes a b xs ys j → EndFits end b c → EndFits end a c
fits_from seat.End a b c xs ys j goes fits = tt
fits_from seat.ListenFault a b c xs ys j goes fits = rose_from a.listener_faults b.listener_faults c.listener_faults goes.listens fits
fits_from seat.WaitFault a b c xs ys j goes fits = rose_from a.ready_faults b.ready_faults c.ready_faults goes.waits fits
fits_from seat.Memory a b c xs ys j goes fits = tt

step_fits_from : (s : Step) (a b c : SeatView) (xs ys : List Under) (j : List AcceptKind) → Goes a b xs ys j → StepFits s b c → StepFits s a c
step_fits_from step.On a b c xs ys j goes fits = tt
step_fits_from step.Idle a b c xs ys j goes fits = tt
step_fits_from step.Closed a b c xs ys j goes fits = tt
step_fits_from (step.Over end) a b c xs ys j goes fits = fits_from end a b c xs ys j goes fits

-- ---- steps

-- what went on before a step
abbrev pub WentOn : SeatView → SeatView → List Under → List Under → Type 0
WentOn a b xs ys = (kinds : List AcceptKind) × Goes a b xs ys kinds × HasNoEnd kinds

pub went_none : (a : SeatView) (xs : List Under) → WentOn a a xs xs
went_none a xs = ([], goes_still a xs, tt)

pub step_then : (a b c : SeatView) (xs ys zs : List Under) (s : Step) → WentOn a b xs ys → Stepped b c ys zs s → Stepped a c xs zs s
step_then a b c xs ys zs s went stepped =
    record {
      kinds = went.0 ++ stepped.kinds;
      goes = goes_then a b c xs ys zs went.0 stepped.kinds went.1 stepped.goes;
      accepts = step_accepts_then s went.0 stepped.kinds went.2 stepped.accepts;
      fits = step_fits_from s a b c xs ys went.0 went.1 stepped.fits;
    }

-- a step after which the seat goes on
abbrev pub IsOnStep : Step → Type 0
IsOnStep step.On = ⊤
IsOnStep step.Idle = ⊤
IsOnStep step.Closed = ⊥
IsOnStep (step.Over end) = ⊥

pub went_on : (a b : SeatView) (xs ys : List Under) (s : Step) → IsOnStep s → Stepped a b xs ys s → WentOn a b xs ys
went_on a b xs ys step.On is stepped = (stepped.kinds, stepped.goes, stepped.accepts)
went_on a b xs ys step.Idle is stepped = (stepped.kinds, stepped.goes, stepped.accepts)
went_on a b xs ys step.Closed is stepped = absurd is
went_on a b xs ys (step.Over end) is stepped = absurd is

pub went_then : (a b c : SeatView) (xs ys zs : List Under) → WentOn a b xs ys → WentOn b c ys zs → WentOn a c xs zs
went_then a b c xs ys zs one other = (one.0 ++ other.0, goes_then a b c xs ys zs one.0 other.0 one.1 other.1, no_end_then one.0 other.0 one.2 other.2)

-- a turn, after the accepts
pub turned_on : (a b c : SeatView) (xs ys zs : List Under) → WentOn a b xs ys → Goes b c ys zs [] → WentOn a c xs zs
turned_on a b c xs ys zs went goes = (went.0, goes_on a b c xs ys zs went.0 went.1 goes, went.2)

pub on_step : (a b : SeatView) (xs ys : List Under) → WentOn a b xs ys → Stepped a b xs ys step.On
on_step a b xs ys went = record { kinds = went.0; goes = went.1; accepts = went.2; fits = tt }

accepts_fault : (fault : EdgeFault) (kinds : List AcceptKind) → AcceptsTo (seat_end_of fault) kinds
accepts_fault edge.Failed kinds = tt
accepts_fault edge.Memory kinds = tt

fits_fault : (fault : EdgeFault) (a b : SeatView) → (fault ≡ edge.Failed → Rose a.ready_faults b.ready_faults) → EndFits (seat_end_of fault) a b
fits_fault edge.Failed a b rose = rose refl
fits_fault edge.Memory a b rose = tt

pub fault_step : (a b c : SeatView) (xs ys zs : List Under) (fault : EdgeFault) (end : SeatEnd) → end ≡ seat_end_of fault → WentOn a b xs ys → Goes b c ys zs [] → (fault ≡ edge.Failed → Rose b.ready_faults c.ready_faults) → Stepped a c xs zs (step.Over end)
fault_step a b c xs ys zs fault end is went goes rose =
    subst (λ (e : SeatEnd). Stepped a c xs zs (step.Over e)) (sym is)
    (record {
      kinds = went.0;
      goes = goes_on a b c xs ys zs went.0 went.1 goes;
      accepts = accepts_fault fault went.0;
      fits = fits_from (seat_end_of fault) a b c xs ys went.0 went.1 (fits_fault fault b c rose);
    })

-- ---- the links that are left

rest_accepts : (end : SeatEnd) (ys : List Under) (kinds : List AcceptKind) → RestsAt end ys → HasLastEnd kinds → AcceptsTo end kinds
rest_accepts seat.End ys kinds rests last = last
rest_accepts seat.ListenFault ys kinds rests last = absurd rests
rest_accepts seat.WaitFault ys kinds rests last = tt
rest_accepts seat.Memory ys kinds rests last = tt

-- ---- until its end

pub ends_over : (a b c : SeatView) (xs ys zs : List Under) (end : SeatEnd) → WentOn a b xs ys → Stepped b c ys zs (step.Over end) → EndedBy a c xs zs end
ends_over a b c xs ys zs end went stepped =
    let all = step_then a b c xs ys zs (step.Over end) went stepped in
    record { kinds = all.kinds; goes = all.goes; accepts = all.accepts; fits = all.fits }

pub ends_rest : (a b c d : SeatView) (xs ys zs rest : List Under) (end : SeatEnd) → WentOn a b xs ys → Stepped b c ys zs step.Closed → Rests c d zs rest end → EndedBy a d xs rest end
ends_rest a b c d xs ys zs rest end went stepped rests =
    let closed = step_then a b c xs ys zs step.Closed went stepped in
    record {
      kinds = closed.kinds;
      goes = goes_on a c d xs zs rest closed.kinds closed.goes rests.goes;
      accepts = rest_accepts end rest closed.kinds rests.rests closed.accepts;
      fits = fits_from end a c d xs zs closed.kinds closed.goes rests.fits;
    }

ends_on : (end : SeatEnd) (a b c : SeatView) (xs ys zs : List Under) (j k : List AcceptKind) → Goes a b xs ys j → EndFits end a b → Goes b c ys zs k → EndFits end a c
ends_on seat.End a b c xs ys zs j k goes fits more = tt
ends_on seat.ListenFault a b c xs ys zs j k goes (inl less) more = inl (omega (arith, less, more.listens))
ends_on seat.ListenFault a b c xs ys zs j k goes (inr full) more = inr (omega (arith, full, more.listens))
ends_on seat.WaitFault a b c xs ys zs j k goes (inl less) more = inl (omega (arith, less, more.waits))
ends_on seat.WaitFault a b c xs ys zs j k goes (inr full) more = inr (omega (arith, full, more.waits))
ends_on seat.Memory a b c xs ys zs j k goes fits more = tt

-- those that are left are finished
pub ends_finished : (a b c : SeatView) (xs ys zs : List Under) (end : SeatEnd) → EndedBy a b xs ys end → Goes b c ys zs [] → EndedBy a c xs zs end
ends_finished a b c xs ys zs end ended goes =
    record {
      kinds = ended.kinds;
      goes = goes_on a b c xs ys zs ended.kinds ended.goes goes;
      accepts = ended.accepts;
      fits = ends_on end a b c xs ys zs ended.kinds [] ended.goes ended.fits goes;
    }

pub ends_memory : (a : SeatView) → EndedBy a a [] [] seat.Memory
ends_memory a = record { kinds = []; goes = goes_still a []; accepts = tt; fits = tt }

listened_at : (end : SeatEnd) (old new : Option ListenerLog) (kinds : List AcceptKind) → ListensOn old new 0 0 kinds → AcceptsTo end kinds → ListenedTo end old new
listened_at end None new kinds listens accepts = tt
listened_at end (Some log) new kinds listens accepts =
    let how = listens.2 in (
      listens.0,
      listens.1,
      record {
        kinds = kinds;
        finished = how.finished;
        kinds_are = how.kinds_are;
        finished_are = how.finished_are;
        all = omega (arith, how.count);
        end_is = accepts;
      },
    )

pub listened : (end : SeatEnd) (a b : SeatView) → EndedBy a b [] [] end → ListenedTo end a.world.listener b.world.listener
listened end a b ended = listened_at end a.world.listener b.world.listener ended.kinds ended.goes.listener ended.accepts

-- ---- an accept

pub still_idle : (w : SeatView) (xs : List Under) → Stepped w w xs xs step.Idle
still_idle w xs = record { kinds = []; goes = goes_still w xs; accepts = tt; fits = tt }

module _ {next starved : ℕ} {sockets sockets_now : Option (List BoundSocket)} (room faults faults_now : ℕ) (around : Around) (listener listener_now : Option ListenerLog) (xs : List Under) (later : faults ≤ faults_now) (silent : listener ≡ None → listener_now ≡ None) (grown : OnlyAdds sockets sockets_now) where
  -- no link was there
  pub goes_answered : (ready_faults : ℕ) (answer : AcceptKind) → links_given (answer ∷ []) ≡ 0 → IfSome listener (λ log. listener_now ≡ Some (with_kind log answer))
      → Goes (seat_view room next faults ready_faults (seat_world sockets listener starved around)) (seat_view room next faults_now ready_faults (seat_world sockets_now listener_now starved around)) xs xs (answer ∷ [])
  goes_answered ready_faults answer none answers =
      let same : length xs + links_given (answer ∷ []) ≡ length xs = omega (arith, none) in
      record {
        room = refl;
        sockets = grown;
        listens = later;
        waits = omega arith;
        sees = prefix_same around.pass.seen;
        listener = subst (λ (n : ℕ). ListensOn listener listener_now (length xs) n (answer ∷ [])) same (listens_answered listener listener_now (length xs) answer silent answers);
        keep_seen = λ all. all;
      }

  pub step_idle : (ready_faults : ℕ) → IfSome listener (λ log. listener_now ≡ Some (with_kind log kind.Idle))
      → Stepped (seat_view room next faults ready_faults (seat_world sockets listener starved around)) (seat_view room next faults_now ready_faults (seat_world sockets_now listener_now starved around)) xs xs step.Idle
  step_idle ready_faults answers = record { kinds = kind.Idle ∷ []; goes = goes_answered ready_faults kind.Idle refl answers; accepts = tt; fits = tt }

  pub step_closed : (ready_faults : ℕ) → IfSome listener (λ log. listener_now ≡ Some (with_kind log kind.End))
      → Stepped (seat_view room next faults ready_faults (seat_world sockets listener starved around)) (seat_view room next faults_now ready_faults (seat_world sockets_now listener_now starved around)) xs xs step.Closed
  step_closed ready_faults answers = record { kinds = kind.End ∷ []; goes = goes_answered ready_faults kind.End refl answers; accepts = ([], refl, tt); fits = tt }

  -- a link came, and is served
  pub step_came : {next_now : ℕ} (ready_faults waits_now : ℕ) (v : Under) → ready_faults ≤ waits_now → IfSome listener (λ log. listener_now ≡ Some (with_kind log kind.Link)) → v.served ≡ record { session = fresh_session; unsent = [] }
      → Stepped (seat_view room next faults ready_faults (seat_world sockets listener starved around)) (seat_view room next_now faults_now waits_now (seat_world sockets_now listener_now starved around)) xs (xs ++ v ∷ []) step.On
  step_came ready_faults waits_now v waits answers fresh =
      let one : links_given (kind.Link ∷ []) ≡ 1 = refl in
      let same : length xs + links_given (kind.Link ∷ []) ≡ length (xs ++ v ∷ []) = omega (arith, one, length-append xs (v ∷ [])) in
      let new : HasSeenLast around.pass.seen v.served.session = subst (λ (s : ServedState). HasSeenLast around.pass.seen s.session) (sym fresh) tt in
      record {
        kinds = kind.Link ∷ [];
        goes = record {
          room = refl;
          sockets = grown;
          listens = later;
          waits = waits;
          sees = prefix_same around.pass.seen;
          listener = subst (λ (n : ℕ). ListensOn listener listener_now (length xs) n (kind.Link ∷ [])) same (listens_answered listener listener_now (length xs) kind.Link silent answers);
          keep_seen = λ all. all_seen_push around.pass.seen xs v all new;
        };
        accepts = tt;
        fits = tt;
      }

  -- a link came, and is finished at once
  pub goes_went : {next_now starved_now : ℕ} {sockets_then : Option (List BoundSocket)} (ready_faults waits_now faults_then : ℕ) (listener_then : Option ListenerLog) (f : FinishedLink) → ready_faults ≤ waits_now → faults_then ≡ faults_now → (listener_now ≡ None → listener_then ≡ None) → sockets_then ≡ sockets_now → IfSome listener (λ log. listener_now ≡ Some (with_kind log kind.Link)) → Finishes listener_now listener_then f
      → Goes (seat_view room next faults ready_faults (seat_world sockets listener starved around)) (seat_view room next_now faults_then waits_now (seat_world sockets_then listener_then starved_now around)) xs xs (kind.Link ∷ [])
  goes_went {next_now} {starved_now} {sockets_then} ready_faults waits_now faults_then listener_then f waits same still sockets_still answers ends =
      let one : links_given (kind.Link ∷ []) ≡ 1 = refl in
      let same_count : length xs + links_given (kind.Link ∷ []) ≡ length xs + 1 = omega (arith, one) in
      let came = subst (λ (n : ℕ). ListensOn listener listener_now (length xs) n (kind.Link ∷ [])) same_count (listens_answered listener listener_now (length xs) kind.Link silent answers) in
      record {
        room = refl;
        sockets = adds_then sockets sockets_now sockets_then grown (adds_same sockets_now sockets_then sockets_still);
        listens = omega (arith, later, same);
        waits = waits;
        sees = prefix_same around.pass.seen;
        listener = listens_then listener listener_now listener_then (length xs) (length xs + 1) (length xs) (kind.Link ∷ []) [] came (listens_finished listener_now listener_then (length xs) f still ends);
        keep_seen = λ all. all;
      }

-- the accept failed, which need not be told
failed_at : (faults : ℕ) (listener listener_now : Option ListenerLog) (n : ℕ) → (listener ≡ None → listener_now ≡ None)
    → IfSome listener (λ log. (listener_now ≡ Some (with_kind log kind.Failed)) ⊎ ((2 ^ 64 ≤ faults + 1) × (listener_now ≡ Some log)))
    → (kinds : List AcceptKind) × ListensOn listener listener_now n n kinds × HasNoEnd kinds
failed_at faults None listener_now n silent tells = ([], silent refl, tt)
failed_at faults (Some log) listener_now n silent (inl told) =
    let none : links_given (kind.Failed ∷ []) ≡ 0 = refl in
    let same : n + links_given (kind.Failed ∷ []) ≡ n = omega (arith, none) in
    (kind.Failed ∷ [], subst (λ (m : ℕ). ListensOn (Some log) listener_now n m (kind.Failed ∷ [])) same (listens_answered (Some log) listener_now n kind.Failed silent told), tt)
failed_at faults (Some log) listener_now n silent (inr full) = ([], subst (λ (o : Option ListenerLog). ListensOn (Some log) o n n []) (sym full.1) (listens_none (Some log) n), tt)

pub step_failed : {next starved : ℕ} {sockets sockets_now : Option (List BoundSocket)} (room faults faults_now ready_faults : ℕ) (around : Around) (listener listener_now : Option ListenerLog) (xs : List Under) → faults ≤ faults_now → Rose faults faults_now → (listener ≡ None → listener_now ≡ None) → OnlyAdds sockets sockets_now
    → IfSome listener (λ log. (listener_now ≡ Some (with_kind log kind.Failed)) ⊎ ((2 ^ 64 ≤ faults + 1) × (listener_now ≡ Some log)))
    → Stepped (seat_view room next faults ready_faults (seat_world sockets listener starved around)) (seat_view room next faults_now ready_faults (seat_world sockets_now listener_now starved around)) xs xs (step.Over seat.ListenFault)
step_failed room faults faults_now ready_faults around listener listener_now xs later rose silent grown tells =
    let how = failed_at faults listener listener_now (length xs) silent tells in
    record {
      kinds = how.0;
      goes = record {
        room = refl;
        sockets = grown;
        listens = later;
        waits = omega arith;
        sees = prefix_same around.pass.seen;
        listener = how.1;
        keep_seen = λ all. all;
      };
      accepts = how.2;
      fits = rose;
    }

pub step_starved : (a b : SeatView) (xs : List Under) → Goes a b xs xs (kind.Link ∷ []) → Stepped a b xs xs step.On
step_starved a b xs goes = record { kinds = kind.Link ∷ []; goes = goes; accepts = tt; fits = tt }

pub step_unwatched : (a b : SeatView) (xs : List Under) (fault : EdgeFault) (end : SeatEnd) → end ≡ seat_end_of fault → Goes a b xs xs (kind.Link ∷ []) → (fault ≡ edge.Failed → Rose a.ready_faults b.ready_faults) → Stepped a b xs xs (step.Over end)
step_unwatched a b xs fault end is goes rose =
    subst (λ (e : SeatEnd). Stepped a b xs xs (step.Over e)) (sym is) (record { kinds = kind.Link ∷ []; goes = goes; accepts = accepts_fault fault (kind.Link ∷ []); fits = fits_fault fault a b rose })

pub stepped_to : (a b : SeatView) (xs ys zs : List Under) (s : Step) → ys ≡ zs → Stepped a b xs zs s → Stepped a b xs ys s
stepped_to a b xs ys zs s same stepped = subst (λ (l : List Under). Stepped a b xs l s) (sym same) stepped

-- the same, with the links where they stand then
pub stepped_on : (a b : SeatView) (xs ys zs : List Under) (s : Step) → Stepped a b xs ys s → Goes b b ys zs [] → Stepped a b xs zs s
stepped_on a b xs ys zs s stepped goes = record { kinds = stepped.kinds; goes = goes_on a b b xs ys zs stepped.kinds stepped.goes goes; accepts = stepped.accepts; fits = stepped.fits }

-- ---- what is seen by any pass

-- a pass that has seen nothing
abbrev pub no_pass : Passing
no_pass = record { store = record { number = 0; log_name = 0; cells_name = 0 }; seen = []; mine = []; told = [] }

pub on_step_of : (s : Step) → (s ≡ step.Closed → ⊥) → ((end : SeatEnd) → s ≡ step.Over end → ⊥) → IsOnStep s
on_step_of step.On closed over = tt
on_step_of step.Idle closed over = tt
on_step_of step.Closed closed over = absurd (closed refl)
on_step_of (step.Over end) closed over = absurd (over end refl)

-- ---- from its start

pub listen_rose : (end : SeatEnd) (a b : SeatView) → EndFits end a b → end ≡ seat.ListenFault → Rose a.listener_faults b.listener_faults
listen_rose end a b fits is = subst (λ (e : SeatEnd). EndFits e a b) is fits

pub wait_rose : (end : SeatEnd) (a b : SeatView) → EndFits end a b → end ≡ seat.WaitFault → Rose a.ready_faults b.ready_faults
wait_rose end a b fits is = subst (λ (e : SeatEnd). EndFits e a b) is fits

pub no_less : (n : ℕ) → n ≤ n
no_less n = omega arith

-- what comes with an error comes with its fault
pub where_failed : {T A : Type 0} (fault : EdgeFault) → (IsErrOf {T = T} (Err fault) edge.Failed → A) → fault ≡ edge.Failed → A
where_failed {T} {A} edge.Failed then is = then refl
where_failed {T} {A} edge.Memory then is = absurd (cc is)

pub ended_from_none : {A : Type 0} (a b : SeatView) (f : A → Under) (slots : List (Option A)) (ys : List Under) (end : SeatEnd) → slots ≡ [] → EndedBy a b (links_of f slots) ys end → EndedBy a b [] ys end
ended_from_none {A} a b f slots ys end none ended = subst (λ (l : List (Option A)). EndedBy a b (links_of f l) ys end) none ended
