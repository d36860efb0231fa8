-- Laws of a seat while it serves.
use Rattle.std.specs.Prelude.{◌≡◌, ◌⊎◌, ℕ, ◌+◌, ◌≤◌, List, [], ◌∷◌, ◌++◌, length, Option, Some, None, IfSome}
use mathlib.Core.List.{IsPrefix}
use Rattle.std.proofs.Common.{arith, refl, sym, ◌∙◌, ap, subst, append_assoc, length-append, ⊎_elim}
use Rattle.std.proofs.lemmas.List.{nil_from_length}
use Rattle.wl_worker.proofs.Common.{Ask, Signed, JwtToken, Publication, Passing, AttestorCall, Delivery, AcceptKind, Origin, LinkLog, ListenerLog, FinishedLink, BoundSocket, OnlyAdds, links_given, with_kind, Finishes, Asker, asker, unanswered, unsigned, GainsAll, IsOutcome, owned_by, items_of, tag, one_apart, Round, number_of, AreOutcomes, IsIn, Around, ServedState, Stands, Began, ReadBy, ReadIn, RoseBy, Known, AreJudged, TookAllUnless, TookFully, TookPart, SeatWorld, seat_world, known, Tends, Under, Runs, SeatEnd}
use Rattle.wl_edge.specs.declared.listener.AcceptKind.TheVariants as kind
use Rattle.wl_worker.specs.Outcomes.{Ticked, attestor_calls}
use Rattle.wl_worker.specs.Owners.{tally}
use Rattle.wl_worker.specs.Numbering.{Numbered, none_apart}
use Rattle.wl_worker.specs.Rounds.{numbers, answers, outcomes}
use Rattle.wl_worker.specs.Tended.{IsOwn, ListenerGains, SeatGathers}
use Rattle.wl_worker.specs.Seating.{Tending}
use Rattle.wl_worker.specs.declared.seat.SeatEnd.TheVariants as seat
use Rattle.wl_worker.proofs.Growth.{gains_none, gains_then, ticked_none, ticked_then, rose_none, rose_then, unanswered_append, unsigned_append, in_front, outcome_grows}
use Rattle.wl_worker.proofs.SeenPublications.{are_longer, prefix_then, prefix_same}
use Rattle.wl_worker.proofs.ConnectionRounds.{answers_added, calls_added, outcomes_added, outcomes_such}
use Rattle.wl_worker.proofs.Owners.{none_after, items_append, items_tag, split}
use Rattle.wl_worker.proofs.NumberedLinks as numbering
use Rattle.wl_edge.proofs.KnownSockets.{came_still}
use Rattle.wl_edge.proofs.LinksGiven.{given_append}

-- ---- what rounds took from the outside

pub numbers_append : (xs ys : List Round) → numbers (xs ++ ys) ≡ numbers ys ++ numbers xs
numbers_append [] ys = sym (none_after (numbers ys))
numbers_append (r ∷ xs) ys = ap (λ (l : List ℕ). l ++ number_of r.shown) (numbers_append xs ys) ∙ append_assoc (numbers ys) (numbers xs) (number_of r.shown)

-- ---- what a round adds

-- what a pass gains by no round or one
pub record Passed (old new : Passing) (added : List Round) : Type 0 where
  pub mine : new.mine ≡ old.mine ++ numbers added
  pub seen : IsPrefix old.seen new.seen
  pub store : new.store ≡ old.store

not_passed : (old new : Passing) → new ≡ old → Passed old new []
not_passed old new same =
    record {
      mine = ap (λ (p : Passing). p.mine) same ∙ sym (none_after old.mine);
      seen = subst (λ (p : Passing). IsPrefix old.seen p.seen) (sym same) (prefix_same old.seen);
      store = ap (λ (p : Passing). p.store) same;
    }

passed_in : (valid : Ask → Signed → Type 0) (shown : Option Publication) (old new : Passing) (r : Round) → r.shown ≡ shown → ReadIn valid shown old new → Passed old new (r ∷ [])
passed_in valid None old new r is read =
    let none = not_passed old new read in
    record { mine = none.mine ∙ ap (λ (s : Option Publication). old.mine ++ number_of s) (sym is); seen = none.seen; store = none.store }
passed_in valid (Some p) old new r is read =
    record { mine = read.mine ∙ ap (λ (s : Option Publication). old.mine ++ number_of s) (sym is); seen = read.seen; store = read.store }

pub passed : (valid : Ask → Signed → Type 0) (added : List Round) (old new : Passing) → ReadBy valid added old new → Passed old new added
passed valid [] old new read = not_passed old new read
passed valid (r ∷ []) old new read = passed_in valid r.shown old new r refl read.1
passed valid (r ∷ s ∷ more) old new read = absurd (cc read.0)

-- ---- the listener

-- no link was given or finished
nothing_gained : (told : Option ListenerLog) → ListenerGains told told [] 0
nothing_gained None = tt
nothing_gained (Some log) = (log, refl, record { kinds = []; kinds_are = sym (none_after log.kinds); finished_are = sym (none_after log.finished); count = refl })

-- the listener answered
answered_on : (old mid new : Option ListenerLog) (finished : List FinishedLink) (n : ℕ) (answer : AcceptKind) → ListenerGains old mid finished n → IfSome mid (λ log. new ≡ Some (with_kind log answer)) → ListenerGains old new finished (n + links_given (answer ∷ []))
answered_on None mid new finished n answer gained answers = tt
answered_on (Some before) mid new finished n answer gained answers =
    let log = gained.0 in
    let now : new ≡ Some (with_kind log answer) = subst (λ (m : Option ListenerLog). IfSome m (λ l. new ≡ Some (with_kind l answer))) gained.1 answers in (
      with_kind log answer,
      now,
      record {
        kinds = gained.2.kinds ++ answer ∷ [];
        kinds_are = ap (λ (k : List AcceptKind). k ++ answer ∷ []) gained.2.kinds_are ∙ append_assoc before.kinds gained.2.kinds (answer ∷ []);
        finished_are = gained.2.finished_are;
        count = omega (arith, gained.2.count, given_append gained.2.kinds (answer ∷ []));
      },
    )

-- it answered, and gave no link
pub silent_on : (old mid new : Option ListenerLog) (answer : AcceptKind) → links_given (answer ∷ []) ≡ 0 → IfSome mid (λ log. new ≡ Some (with_kind log answer)) → (finished : List FinishedLink) (n : ℕ) → ListenerGains old mid finished n → ListenerGains old new finished n
silent_on old mid new answer none answers finished n gained =
    let same : n + links_given (answer ∷ []) ≡ n = omega (arith, none) in
    subst (λ (m : ℕ). ListenerGains old new finished m) same (answered_on old mid new finished n answer gained answers)

-- its accept failed, which need not be told
pub failed_on : (old mid new : Option ListenerLog) (full : Type 0) → IfSome mid (λ log. (new ≡ Some (with_kind log kind.Failed)) ⊎ (full × (new ≡ Some log))) → (finished : List FinishedLink) (n : ℕ) → ListenerGains old mid finished n → ListenerGains old new finished n
failed_on None mid new full answers finished n gained = tt
failed_on (Some before) mid new full answers finished n gained =
    let log = gained.0 in
    let now = subst (λ (m : Option ListenerLog). IfSome m (λ l. (new ≡ Some (with_kind l kind.Failed)) ⊎ (full × (new ≡ Some l)))) gained.1 answers in
    ⊎_elim
    (λ (told : new ≡ Some (with_kind log kind.Failed)). silent_on (Some before) (Some log) new kind.Failed refl told finished n (log, refl, gained.2))
    (λ (kept : full × (new ≡ Some log)). (log, kept.1, gained.2))
    now

-- a link is finished
finished_on : (old mid new : Option ListenerLog) (finished : List FinishedLink) (n : ℕ) (link : FinishedLink) → ListenerGains old mid finished (n + 1) → Finishes mid new link → ListenerGains old new (finished ++ link ∷ []) n
finished_on None mid new finished n link gained ends = tt
finished_on (Some before) mid new finished n link gained ends =
    let log = gained.0 in
    let now = subst (λ (m : Option ListenerLog). Finishes m new link) gained.1 ends in (
      record log { finished = log.finished ++ link ∷ [] },
      now,
      record {
        kinds = gained.2.kinds;
        kinds_are = gained.2.kinds_are;
        finished_are = ap (λ (f : List FinishedLink). f ++ link ∷ []) gained.2.finished_are ∙ append_assoc before.finished finished (link ∷ []);
        count = omega (arith, gained.2.count, length-append finished (link ∷ []));
      },
    )

-- ---- what is gathered

pub gathers_none : (w : SeatWorld) → SeatGathers w w [] [] [] [] [] 0
gathers_none w =
    record {
      listener = nothing_gained w.listener;
      attested = gains_none w.around.attested;
      attestor_fails = rose_none w.around.attestor_faults;
      mine = sym (none_after w.around.pass.mine);
      seen = prefix_same w.around.pass.seen;
      store = refl;
      signs = gains_none w.around.signed;
      clock = ticked_none w.around.times;
      ask_fails = rose_none w.around.ask_faults;
      starves = rose_none w.starved;
    }

-- what a round adds to a seat
pub record Adds (old new : SeatWorld) (added : List Round) (signed : List Delivery) (times : List ℕ) : Type 0 where
  pub sockets : OnlyAdds old.sockets new.sockets
  pub listener : new.listener ≡ old.listener
  pub starved : new.starved ≡ old.starved
  pub attested : GainsAll old.around.attested new.around.attested (attestor_calls added)
  pub attestor_fails : RoseBy (unanswered (answers added)) old.around.attestor_faults new.around.attestor_faults
  pub pass : Passed old.around.pass new.around.pass added
  pub signs : GainsAll old.around.signed new.around.signed signed
  pub clock : Ticked old.around.times new.around.times times
  pub ask_fails : RoseBy (unsigned (outcomes added)) old.around.ask_faults new.around.ask_faults

pub gathers_round : (old mid new : SeatWorld) (rounds added : List Round) (signed more : List Delivery) (times later starved : List ℕ) (finished : List FinishedLink) (n : ℕ) →
    SeatGathers old mid rounds signed times starved finished n → Adds mid new added more later → SeatGathers old new (added ++ rounds) (signed ++ more) (times ++ later) starved finished n
gathers_round old mid new rounds added signed more times later starved finished n gathers adds =
    let fails = rose_then old.around.attestor_faults mid.around.attestor_faults new.around.attestor_faults (unanswered (answers rounds)) (unanswered (answers added)) gathers.attestor_fails adds.attestor_fails in
    let sign_fails = rose_then old.around.ask_faults mid.around.ask_faults new.around.ask_faults (unsigned (outcomes rounds)) (unsigned (outcomes added)) gathers.ask_fails adds.ask_fails in
    record {
      listener = subst (λ (l : Option ListenerLog). ListenerGains old.listener l finished n) (sym adds.listener) gathers.listener;
      attested =
          subst (λ (calls : List AttestorCall). GainsAll old.around.attested new.around.attested calls)
          (sym (calls_added added rounds))
          (gains_then old.around.attested mid.around.attested new.around.attested (attestor_calls rounds) (attestor_calls added) gathers.attested adds.attested);
      attestor_fails = subst (λ (m : ℕ). RoseBy m old.around.attestor_faults new.around.attestor_faults) (sym (unanswered_append (answers rounds) (answers added)) ∙ ap unanswered (sym (answers_added added rounds))) fails;
      mine =
          adds.pass.mine
          ∙ ap (λ (l : List ℕ). l ++ numbers added) gathers.mine
          ∙ append_assoc old.around.pass.mine (numbers rounds) (numbers added)
          ∙ ap (λ (l : List ℕ). old.around.pass.mine ++ l) (sym (numbers_append added rounds));
      seen = prefix_then old.around.pass.seen mid.around.pass.seen new.around.pass.seen gathers.seen adds.pass.seen;
      store = adds.pass.store ∙ gathers.store;
      signs = gains_then old.around.signed mid.around.signed new.around.signed signed more gathers.signs adds.signs;
      clock = ticked_then old.around.times mid.around.times new.around.times times later gathers.clock adds.clock;
      ask_fails = subst (λ (m : ℕ). RoseBy m old.around.ask_faults new.around.ask_faults) (sym (unsigned_append (outcomes rounds) (outcomes added)) ∙ ap unsigned (sym (outcomes_added added rounds))) sign_fails;
      starves = subst (λ (count : ℕ). RoseBy (length starved) old.starved count) (sym adds.starved) gathers.starves;
    }

-- a seat's world without its listener: what it recorded, and its sockets
abbrev pub without_listener : SeatWorld → SeatWorld
without_listener w = seat_world None None w.starved w.around

-- only the listener changed
pub gathers_listener : (old mid new : SeatWorld) (rounds : List Round) (signed : List Delivery) (times starved : List ℕ) (finished finished_then : List FinishedLink) (n m : ℕ) →
    SeatGathers old mid rounds signed times starved finished n → without_listener new ≡ without_listener mid → ListenerGains old.listener new.listener finished_then m → SeatGathers old new rounds signed times starved finished_then m
gathers_listener old mid new rounds signed times starved finished finished_then n m gathers rest gained =
    let same : new.around ≡ mid.around = ap (λ (w : SeatWorld). w.around) rest in
    record {
      listener = gained;
      attested = subst (λ (a : Around). GainsAll old.around.attested a.attested (attestor_calls rounds)) (sym same) gathers.attested;
      attestor_fails = subst (λ (a : Around). RoseBy (unanswered (answers rounds)) old.around.attestor_faults a.attestor_faults) (sym same) gathers.attestor_fails;
      mine = ap (λ (a : Around). a.pass.mine) same ∙ gathers.mine;
      seen = subst (λ (a : Around). IsPrefix old.around.pass.seen a.pass.seen) (sym same) gathers.seen;
      store = ap (λ (a : Around). a.pass.store) same ∙ gathers.store;
      signs = subst (λ (a : Around). GainsAll old.around.signed a.signed signed) (sym same) gathers.signs;
      clock = subst (λ (a : Around). Ticked old.around.times a.times times) (sym same) gathers.clock;
      ask_fails = subst (λ (a : Around). RoseBy (unsigned (outcomes rounds)) old.around.ask_faults a.ask_faults) (sym same) gathers.ask_fails;
      starves = subst (λ (w : SeatWorld). RoseBy (length starved) old.starved w.starved) (sym rest) gathers.starves;
    }

-- ---- what is known stays known

pub outcomes_longer : (vouched : Asker) (signed more : List Delivery) (times later : List ℕ) (past : List Round) → AreOutcomes (IsOutcome vouched signed times) past → AreOutcomes (IsOutcome vouched (signed ++ more) (times ++ later)) past
outcomes_longer vouched signed more times later past are =
    outcomes_such (IsOutcome vouched signed times) (IsOutcome vouched (signed ++ more) (times ++ later)) (outcome_grows vouched signed (signed ++ more) times (times ++ later) (λ x. in_front x signed more) (λ n. in_front n times later)) past are

began_longer : (log : LinkLog) (seen list : List Publication) (past : List Round) → IsPrefix seen list → Began log seen past → Began log list past
began_longer log seen list past pre began = record { pieces = began.pieces; part = began.part; rounds = began.rounds; known = are_longer seen list past pre began.known; rising = began.rising }

stands_longer : (log : LinkLog) (s : ServedState) (seen list : List Publication) (past : List Round) → IsPrefix seen list → Stands log s seen past → Stands log s list past
stands_longer log s seen list past pre stands = record { pieces = stands.pieces; session = stands.session; talked = stands.talked; whole = stands.whole; known = are_longer seen list past pre stands.known; rising = stands.rising }

-- a link that came over a known socket still did
own_wider : (before now : Option (List BoundSocket)) (origin : Origin) (past : List Round) → OnlyAdds before now → IsOwn before origin past → IsOwn now origin past
own_wider before now origin past grown own = record { came = came_still before now origin grown own.came; asked = own.asked }

module _ (vouched : Ask → List (List ℕ) → JwtToken → Type 0) (mid new : SeatWorld) (signed more : List Delivery) (times later starved : List ℕ) (grown : OnlyAdds mid.sockets new.sockets) (pre : IsPrefix mid.around.pass.seen new.around.pass.seen) (n : ℕ) where
  own_longer : (origin : Origin) (past : List Round) → IsOwn mid.sockets origin past → IsOwn new.sockets origin past
  own_longer origin past own = own_wider mid.sockets new.sockets origin past grown own

  runs_at : (told : Option LinkLog) (served : ServedState) (past : List Round) → IfSome told (λ log. Stands log served mid.around.pass.seen past × AreJudged (known vouched mid signed times starved) n past) → IfSome told (λ log. Stands log served new.around.pass.seen past × AreJudged (known vouched new (signed ++ more) (times ++ later) starved) n past)
  runs_at None served past is = tt
  runs_at (Some log) served past is = (stands_longer log served mid.around.pass.seen new.around.pass.seen past pre is.0, outcomes_longer (asker n vouched) signed more times later past is.1)

  runs_longer : (u : Under) (past : List Round) → Runs (known vouched mid signed times starved) n u past → Runs (known vouched new (signed ++ more) (times ++ later) starved) n u past
  runs_longer u past is = (is.0, own_longer u.link.origin past is.1, runs_at u.link.log u.served past is.2)

  part_at : (told : Option LinkLog) (past : List Round) → IfSome told (λ log. Began log mid.around.pass.seen past × AreJudged (known vouched mid signed times starved) n past) → IfSome told (λ log. Began log new.around.pass.seen past × AreJudged (known vouched new (signed ++ more) (times ++ later) starved) n past)
  part_at None past is = tt
  part_at (Some log) past is = (began_longer log mid.around.pass.seen new.around.pass.seen past pre is.0, outcomes_longer (asker n vouched) signed more times later past is.1)

  part_longer : (f : FinishedLink) (past : List Round) → TookPart (known vouched mid signed times starved) n f past → TookPart (known vouched new (signed ++ more) (times ++ later) starved) n f past
  part_longer f past is = (own_longer f.origin past is.0, part_at f.log past is.1)

  fully_at : (told : Option LinkLog) (receives sends : ℕ) (past : List Round) → IfSome told (λ log. Began log mid.around.pass.seen past × AreJudged (known vouched mid signed times starved) n past × (IsIn n starved ⊎ TookAllUnless receives sends log past)) → IfSome told (λ log. Began log new.around.pass.seen past × AreJudged (known vouched new (signed ++ more) (times ++ later) starved) n past × (IsIn n starved ⊎ TookAllUnless receives sends log past))
  fully_at None receives sends past is = tt
  fully_at (Some log) receives sends past is = (began_longer log mid.around.pass.seen new.around.pass.seen past pre is.0, outcomes_longer (asker n vouched) signed more times later past is.1, is.2)

  fully_longer : (f : FinishedLink) (past : List Round) → TookFully (known vouched mid signed times starved) n f past → TookFully (known vouched new (signed ++ more) (times ++ later) starved) n f past
  fully_longer f past is = (own_longer f.origin past is.0, fully_at f.log f.failed_receives f.failed_sends past is.1)

-- a world with these sockets
abbrev at_sockets : Option (List BoundSocket) → SeatWorld → SeatWorld
at_sockets sockets w = seat_world sockets w.listener w.starved w.around

-- where only the listener changed, and knows all sockets that it knew
numbered_listened : (vouched : Ask → List (List ℕ) → JwtToken → Type 0) (mid new : SeatWorld) (signed : List Delivery) (times starved : List ℕ) (apart : ℕ → ℕ) (running : List (ℕ × Under)) (fulls lates : List (ℕ × FinishedLink)) (rounds : List (ℕ × Round)) (next : ℕ) →
    without_listener new ≡ without_listener mid → OnlyAdds mid.sockets new.sockets →
    Numbered (Runs (known vouched mid signed times starved)) (TookFully (known vouched mid signed times starved)) (TookPart (known vouched mid signed times starved)) apart running fulls lates rounds next →
    Numbered (Runs (known vouched new signed times starved)) (TookFully (known vouched new signed times starved)) (TookPart (known vouched new signed times starved)) apart running fulls lates rounds next
numbered_listened vouched mid new signed times starved apart running fulls lates rounds next same grown numbered =
    let was : Known = known vouched mid signed times starved in
    let is : Known = known vouched (at_sockets new.sockets mid) signed times starved in
    let wider : (origin : Origin) (past : List Round) → IsOwn mid.sockets origin past → IsOwn new.sockets origin past = λ origin past own. own_wider mid.sockets new.sockets origin past grown own in
    subst (λ (w : SeatWorld). Numbered (Runs (known vouched (at_sockets new.sockets w) signed times starved)) (TookFully (known vouched (at_sockets new.sockets w) signed times starved)) (TookPart (known vouched (at_sockets new.sockets w) signed times starved)) apart running fulls lates rounds next) (sym same)
    (numbering.weaken (Runs was) (Runs is) (TookFully was) (TookFully is) (TookPart was) (TookPart is) apart running fulls lates rounds next (λ k u past runs. (runs.0, wider u.link.origin past runs.1, runs.2)) (λ k f past full. (wider f.origin past full.0, full.1)) (λ k f past part. (wider f.origin past part.0, part.1)) numbered)

-- ---- what was finished

finished_full : (fulls lates : List (ℕ × FinishedLink)) (o : ℕ) (f : FinishedLink) → lates ≡ [] → items_of (fulls ++ (o, f) ∷ []) ++ items_of lates ≡ (items_of fulls ++ items_of lates) ++ f ∷ []
finished_full fulls lates o f none =
    subst (λ (l : List (ℕ × FinishedLink)). items_of (fulls ++ (o, f) ∷ []) ++ items_of l ≡ (items_of fulls ++ items_of l) ++ f ∷ []) (sym none)
    (none_after (items_of (fulls ++ (o, f) ∷ [])) ∙ items_append fulls ((o, f) ∷ []) ∙ ap (λ (l : List FinishedLink). l ++ f ∷ []) (sym (none_after (items_of fulls))))

finished_late : (fulls lates : List (ℕ × FinishedLink)) (o : ℕ) (f : FinishedLink) → items_of fulls ++ items_of (lates ++ (o, f) ∷ []) ≡ (items_of fulls ++ items_of lates) ++ f ∷ []
finished_late fulls lates o f = ap (λ (l : List FinishedLink). items_of fulls ++ l) (items_append lates ((o, f) ∷ [])) ∙ sym (append_assoc (items_of fulls) (items_of lates) (f ∷ []))

-- ---- the steps of a seat

-- A seat while it serves, where one link is held apart, which stood between these; P holds of its number and rounds.
pub record Beside (P : Known → ℕ → List Round → Type 0) (vouched : Ask → List (List ℕ) → JwtToken → Type 0) (next : ℕ) (old new : SeatWorld) (broken : ℕ) (before after : List Under) : Type 0 where
  pub front : List (ℕ × Under)
  pub back : List (ℕ × Under)
  pub owner : ℕ
  pub fulls : List (ℕ × FinishedLink)
  pub lates : List (ℕ × FinishedLink)
  pub rounds : List (ℕ × Round)
  pub signed : List Delivery
  pub times : List ℕ
  pub starved : List ℕ
  pub before_are : items_of front ≡ before
  pub after_are : items_of back ≡ after
  pub count : length lates ≡ broken
  pub gathers : SeatGathers old new (items_of rounds) signed times starved (items_of fulls ++ items_of lates) (length before + length after + 1)
  pub numbered : Numbered (Runs (known vouched new signed times starved)) (TookFully (known vouched new signed times starved)) (TookPart (known vouched new signed times starved)) (one_apart owner) (front ++ back) fulls lates rounds next
  pub one : P (known vouched new signed times starved) owner (owned_by owner rounds)

-- before any link came
pub tending_none : {next : ℕ} (vouched : Ask → List (List ℕ) → JwtToken → Type 0) (w : SeatWorld) → Tending vouched next w w 0 []
tending_none {next} vouched w =
    record {
      running = [];
      fulls = [];
      lates = [];
      rounds = [];
      signed = [];
      times = [];
      starved = [];
      links_are = refl;
      count = refl;
      gathers = gathers_none w;
      numbered = numbering.none_numbered (Runs (known vouched w [] [] [])) (TookFully (known vouched w [] [] [])) (TookPart (known vouched w [] [] [])) next;
    }

-- the listener gave no link, and none was finished; it may know more sockets
pub tending_listened : {next : ℕ} (vouched : Ask → List (List ℕ) → JwtToken → Type 0) (old mid new : SeatWorld) (broken : ℕ) (links : List Under) →
    Tending vouched next old mid broken links → without_listener new ≡ without_listener mid → OnlyAdds mid.sockets new.sockets → ((finished : List FinishedLink) (n : ℕ) → ListenerGains old.listener mid.listener finished n → ListenerGains old.listener new.listener finished n) → Tending vouched next old new broken links
tending_listened {next} vouched old mid new broken links held same grown keeps =
    let all = items_of held.fulls ++ items_of held.lates in
    record {
      running = held.running;
      fulls = held.fulls;
      lates = held.lates;
      rounds = held.rounds;
      signed = held.signed;
      times = held.times;
      starved = held.starved;
      links_are = held.links_are;
      count = held.count;
      gathers = gathers_listener old mid new (items_of held.rounds) held.signed held.times held.starved all all (length links) (length links) held.gathers same (keeps all (length links) held.gathers.listener);
      numbered = numbered_listened vouched mid new held.signed held.times held.starved none_apart held.running held.fulls held.lates held.rounds next same grown held.numbered;
    }

-- a newcomer has the next number, and no round
abbrev pub HasNone : ℕ → Known → ℕ → List Round → Type 0
HasNone next k n past = (n ≡ next) × (past ≡ [])

-- a link comes
pub tending_comes : {next : ℕ} (vouched : Ask → List (List ℕ) → JwtToken → Type 0) (old mid new : SeatWorld) (broken : ℕ) (links : List Under) →
    Tending vouched next old mid broken links → without_listener new ≡ without_listener mid → OnlyAdds mid.sockets new.sockets → IfSome mid.listener (λ log. new.listener ≡ Some (with_kind log kind.Link)) → Beside (HasNone next) vouched (next + 1) old new broken links []
tending_comes {next} vouched old mid new broken links held same grown answers =
    let all = items_of held.fulls ++ items_of held.lates in
    let gained = answered_on old.listener mid.listener new.listener all (length links) kind.Link held.gathers.listener answers in
    let one_link : links_given (kind.Link ∷ []) ≡ 1 = refl in
    let one_open : length links + links_given (kind.Link ∷ []) ≡ length links + 0 + 1 = omega (arith, one_link) in
    let one = numbering.comes (Runs (known vouched mid held.signed held.times held.starved)) (TookFully (known vouched mid held.signed held.times held.starved)) (TookPart (known vouched mid held.signed held.times held.starved)) held.running held.fulls held.lates held.rounds next held.numbered in
    record {
      front = held.running;
      back = [];
      owner = next;
      fulls = held.fulls;
      lates = held.lates;
      rounds = held.rounds;
      signed = held.signed;
      times = held.times;
      starved = held.starved;
      before_are = held.links_are;
      after_are = refl;
      count = held.count;
      gathers = gathers_listener old mid new (items_of held.rounds) held.signed held.times held.starved all all (length links) (length links + 0 + 1) held.gathers same (subst (λ (n : ℕ). ListenerGains old.listener new.listener all n) one_open gained);
      numbered =
          subst (λ (running : List (ℕ × Under)). Numbered (Runs (known vouched new held.signed held.times held.starved)) (TookFully (known vouched new held.signed held.times held.starved)) (TookPart (known vouched new held.signed held.times held.starved)) (one_apart next) running held.fulls held.lates held.rounds (next + 1)) (sym (none_after held.running))
          (numbered_listened vouched mid new held.signed held.times held.starved (one_apart next) held.running held.fulls held.lates held.rounds (next + 1) same grown one.0);
      one = (refl, one.1);
    }

-- a link is taken out
pub tending_taken : {next : ℕ} (vouched : Ask → List (List ℕ) → JwtToken → Type 0) (old new : SeatWorld) (broken : ℕ) (before after : List Under) (u : Under) →
    Tending vouched next old new broken (before ++ u ∷ after) → Beside (λ k n past. Runs k n u past) vouched next old new broken before after
tending_taken {next} vouched old new broken before after u held =
    let at = split u before after held.running held.links_are in
    let stood = subst (λ (running : List (ℕ × Under)). Numbered (Runs (known vouched new held.signed held.times held.starved)) (TookFully (known vouched new held.signed held.times held.starved)) (TookPart (known vouched new held.signed held.times held.starved)) none_apart running held.fulls held.lates held.rounds next) at.is held.numbered in
    let count : length (before ++ u ∷ after) ≡ length before + length after + 1 = omega (arith, length-append before (u ∷ after)) in
    let out = numbering.taken (Runs (known vouched new held.signed held.times held.starved)) (TookFully (known vouched new held.signed held.times held.starved)) (TookPart (known vouched new held.signed held.times held.starved)) at.front at.back at.owner u held.fulls held.lates held.rounds next stood in
    record {
      front = at.front;
      back = at.back;
      owner = at.owner;
      fulls = held.fulls;
      lates = held.lates;
      rounds = held.rounds;
      signed = held.signed;
      times = held.times;
      starved = held.starved;
      before_are = at.front_is;
      after_are = at.back_is;
      count = held.count;
      gathers = subst (λ (n : ℕ). SeatGathers old new (items_of held.rounds) held.signed held.times held.starved (items_of held.fulls ++ items_of held.lates) n) count held.gathers;
      numbered = out.0;
      one = out.1;
    }

-- it is put back where it stood
pub tending_put : {next : ℕ} (vouched : Ask → List (List ℕ) → JwtToken → Type 0) (old new : SeatWorld) (broken : ℕ) (before after : List Under) (u : Under) →
    Beside (λ k n past. Runs k n u past) vouched next old new broken before after → Tending vouched next old new broken (before ++ u ∷ after)
tending_put {next} vouched old new broken before after u beside =
    let count : length before + length after + 1 ≡ length (before ++ u ∷ after) = omega (arith, length-append before (u ∷ after)) in
    record {
      running = beside.front ++ (beside.owner, u) ∷ beside.back;
      fulls = beside.fulls;
      lates = beside.lates;
      rounds = beside.rounds;
      signed = beside.signed;
      times = beside.times;
      starved = beside.starved;
      links_are = items_append beside.front ((beside.owner, u) ∷ beside.back) ∙ (λ i. beside.before_are i ++ u ∷ beside.after_are i);
      count = beside.count;
      gathers = subst (λ (n : ℕ). SeatGathers old new (items_of beside.rounds) beside.signed beside.times beside.starved (items_of beside.fulls ++ items_of beside.lates) n) count beside.gathers;
      numbered = numbering.put (Runs (known vouched new beside.signed beside.times beside.starved)) (TookFully (known vouched new beside.signed beside.times beside.starved)) (TookPart (known vouched new beside.signed beside.times beside.starved)) beside.front beside.back beside.owner u beside.fulls beside.lates beside.rounds next beside.numbered beside.one;
    }

-- the list of links falls apart where its items do
record Halves {A : Type 0} (xs ys : List A) (all : List (ℕ × A)) : Type 0 where
  front : List (ℕ × A)
  back : List (ℕ × A)
  is : all ≡ front ++ back
  front_is : items_of front ≡ xs
  back_is : items_of back ≡ ys

halves : {A : Type 0} (xs ys : List A) (all : List (ℕ × A)) → items_of all ≡ xs ++ ys → Halves xs ys all
halves [] ys all is = record { front = []; back = all; is = refl; front_is = refl; back_is = is }
halves (x ∷ xs) ys [] is = absurd (grind (arith, is))
halves (x ∷ xs) ys (n ∷ all) is =
    let head : n.1 ≡ x = grind (arith, is) in
    let tail : items_of all ≡ xs ++ ys = grind (arith, is) in
    let rest = halves xs ys all tail in
    record { front = n ∷ rest.front; back = rest.back; is = λ i. n ∷ rest.is i; front_is = λ i. head i ∷ rest.front_is i; back_is = rest.back_is }

-- It comes to stand between others.
pub beside_moved : {next : ℕ} (P : Known → ℕ → List Round → Type 0) (vouched : Ask → List (List ℕ) → JwtToken → Type 0) (old new : SeatWorld) (broken : ℕ) (before after before_then after_then : List Under) →
    before ++ after ≡ before_then ++ after_then → Beside P vouched next old new broken before after → Beside P vouched next old new broken before_then after_then
beside_moved {next} P vouched old new broken before after before_then after_then same beside =
    let parts = halves before_then after_then (beside.front ++ beside.back) (items_append beside.front beside.back ∙ (λ i. beside.before_are i ++ beside.after_are i) ∙ same) in
    let count : length before + length after + 1 ≡ length before_then + length after_then + 1 = omega (arith, length-append before after, length-append before_then after_then, ap length same) in
    record {
      front = parts.front;
      back = parts.back;
      owner = beside.owner;
      fulls = beside.fulls;
      lates = beside.lates;
      rounds = beside.rounds;
      signed = beside.signed;
      times = beside.times;
      starved = beside.starved;
      before_are = parts.front_is;
      after_are = parts.back_is;
      count = beside.count;
      gathers = subst (λ (n : ℕ). SeatGathers old new (items_of beside.rounds) beside.signed beside.times beside.starved (items_of beside.fulls ++ items_of beside.lates) n) count beside.gathers;
      numbered = subst (λ (running : List (ℕ × Under)). Numbered (Runs (known vouched new beside.signed beside.times beside.starved)) (TookFully (known vouched new beside.signed beside.times beside.starved)) (TookPart (known vouched new beside.signed beside.times beside.starved)) (one_apart beside.owner) running beside.fulls beside.lates beside.rounds next) parts.is beside.numbered;
      one = beside.one;
    }

-- a link comes to stand between others
pub tending_moved : {next : ℕ} (vouched : Ask → List (List ℕ) → JwtToken → Type 0) (old new : SeatWorld) (broken : ℕ) (u : Under) (before after before_then after_then : List Under) →
    before ++ after ≡ before_then ++ after_then → Tending vouched next old new broken (before ++ u ∷ after) → Tending vouched next old new broken (before_then ++ u ∷ after_then)
tending_moved {next} vouched old new broken u before after before_then after_then same held =
    tending_put vouched old new broken before_then after_then u (beside_moved (λ k n past. Runs k n u past) vouched old new broken before after before_then after_then same (tending_taken vouched old new broken before after u held))

pub beside_weaken : {next : ℕ} (P Q : Known → ℕ → List Round → Type 0) (vouched : Ask → List (List ℕ) → JwtToken → Type 0) (old new : SeatWorld) (broken : ℕ) (before after : List Under) →
    ((signed : List Delivery) (times starved : List ℕ) (n : ℕ) (past : List Round) → P (known vouched new signed times starved) n past → Q (known vouched new signed times starved) n past) → Beside P vouched next old new broken before after → Beside Q vouched next old new broken before after
beside_weaken {next} P Q vouched old new broken before after follows beside =
    record {
      front = beside.front;
      back = beside.back;
      owner = beside.owner;
      fulls = beside.fulls;
      lates = beside.lates;
      rounds = beside.rounds;
      signed = beside.signed;
      times = beside.times;
      starved = beside.starved;
      before_are = beside.before_are;
      after_are = beside.after_are;
      count = beside.count;
      gathers = beside.gathers;
      numbered = beside.numbered;
      one = follows beside.signed beside.times beside.starved beside.owner (owned_by beside.owner beside.rounds) beside.one;
    }

-- the link that is held apart gains a round
pub beside_gains : {next : ℕ} (P Q : Known → ℕ → List Round → Type 0) (vouched : Ask → List (List ℕ) → JwtToken → Type 0) (old mid new : SeatWorld) (broken : ℕ) (before after : List Under) (added : List Round) (more : List Delivery) (later : List ℕ) →
    Adds mid new added more later →
    ((signed : List Delivery) (times starved : List ℕ) (n : ℕ) (past : List Round) → P (known vouched mid signed times starved) n past → Q (known vouched new (signed ++ more) (times ++ later) starved) n (added ++ past)) →
    Beside P vouched next old mid broken before after → Beside Q vouched next old new broken before after
beside_gains {next} P Q vouched old mid new broken before after added more later adds follows beside =
    let signed = beside.signed in
    let times = beside.times in
    let starved = beside.starved in
    let known_then : Known = known vouched new (signed ++ more) (times ++ later) starved in
    let wider = numbering.weaken (Runs (known vouched mid signed times starved)) (Runs known_then) (TookFully (known vouched mid signed times starved)) (TookFully known_then) (TookPart (known vouched mid signed times starved)) (TookPart known_then) (one_apart beside.owner) (beside.front ++ beside.back) beside.fulls beside.lates beside.rounds next (runs_longer vouched mid new signed more times later starved adds.sockets adds.pass.seen) (fully_longer vouched mid new signed more times later starved adds.sockets adds.pass.seen) (part_longer vouched mid new signed more times later starved adds.sockets adds.pass.seen) beside.numbered in
    record {
      front = beside.front;
      back = beside.back;
      owner = beside.owner;
      fulls = beside.fulls;
      lates = beside.lates;
      rounds = tag beside.owner added ++ beside.rounds;
      signed = signed ++ more;
      times = times ++ later;
      starved = starved;
      before_are = beside.before_are;
      after_are = beside.after_are;
      count = beside.count;
      gathers =
          subst (λ (all : List Round). SeatGathers old new all (signed ++ more) (times ++ later) starved (items_of beside.fulls ++ items_of beside.lates) (length before + length after + 1))
          (sym (items_append (tag beside.owner added) beside.rounds ∙ ap (λ (l : List Round). l ++ items_of beside.rounds) (items_tag beside.owner added)))
          (gathers_round old mid new (items_of beside.rounds) added signed more times later starved (items_of beside.fulls ++ items_of beside.lates) (length before + length after + 1) beside.gathers adds);
      numbered = numbering.gains (Runs known_then) (TookFully known_then) (TookPart known_then) (beside.front ++ beside.back) beside.fulls beside.lates beside.rounds next beside.owner added wider;
      one = subst (λ (past : List Round). Q known_then beside.owner past) (sym (numbering.own_front beside.owner added beside.rounds)) (follows signed times starved beside.owner (owned_by beside.owner beside.rounds) beside.one);
    }

-- it was over, and is finished
pub beside_finishes : {next : ℕ} (vouched : Ask → List (List ℕ) → JwtToken → Type 0) (old mid new : SeatWorld) (before after : List Under) (f : FinishedLink) →
    Beside (λ k n past. TookFully k n f past) vouched next old mid 0 before after → without_listener new ≡ without_listener mid → OnlyAdds mid.sockets new.sockets → Finishes mid.listener new.listener f → Tending vouched next old new 0 (before ++ after)
beside_finishes {next} vouched old mid new before after f beside same grown ends =
    let none : beside.lates ≡ [] = nil_from_length beside.lates beside.count in
    let gained = finished_on old.listener mid.listener new.listener (items_of beside.fulls ++ items_of beside.lates) (length before + length after) f beside.gathers.listener ends in
    let listed = finished_full beside.fulls beside.lates beside.owner f none in
    record {
      running = beside.front ++ beside.back;
      fulls = beside.fulls ++ (beside.owner, f) ∷ [];
      lates = beside.lates;
      rounds = beside.rounds;
      signed = beside.signed;
      times = beside.times;
      starved = beside.starved;
      links_are = items_append beside.front beside.back ∙ (λ i. beside.before_are i ++ beside.after_are i);
      count = beside.count;
      gathers = gathers_listener old mid new (items_of beside.rounds) beside.signed beside.times beside.starved (items_of beside.fulls ++ items_of beside.lates) (items_of (beside.fulls ++ (beside.owner, f) ∷ []) ++ items_of beside.lates) (length before + length after + 1) (length (before ++ after)) beside.gathers same
          (subst (λ (n : ℕ). ListenerGains old.listener new.listener (items_of (beside.fulls ++ (beside.owner, f) ∷ []) ++ items_of beside.lates) n) (sym (length-append before after)) (subst (λ (l : List FinishedLink). ListenerGains old.listener new.listener l (length before + length after)) (sym listed) gained));
      numbered = numbered_listened vouched mid new beside.signed beside.times beside.starved none_apart (beside.front ++ beside.back) (beside.fulls ++ (beside.owner, f) ∷ []) beside.lates beside.rounds next same grown (numbering.finishes (Runs (known vouched mid beside.signed beside.times beside.starved)) (TookFully (known vouched mid beside.signed beside.times beside.starved)) (TookPart (known vouched mid beside.signed beside.times beside.starved)) (beside.front ++ beside.back) beside.fulls beside.lates beside.rounds next beside.owner f beside.numbered beside.one);
    }

-- it is finished as it stands
pub beside_breaks : {next : ℕ} (vouched : Ask → List (List ℕ) → JwtToken → Type 0) (old mid new : SeatWorld) (broken : ℕ) (before after : List Under) (f : FinishedLink) →
    Beside (λ k n past. TookPart k n f past) vouched next old mid broken before after → without_listener new ≡ without_listener mid → OnlyAdds mid.sockets new.sockets → Finishes mid.listener new.listener f → Tending vouched next old new (broken + 1) (before ++ after)
beside_breaks {next} vouched old mid new broken before after f beside same grown ends =
    let gained = finished_on old.listener mid.listener new.listener (items_of beside.fulls ++ items_of beside.lates) (length before + length after) f beside.gathers.listener ends in
    let listed = finished_late beside.fulls beside.lates beside.owner f in
    record {
      running = beside.front ++ beside.back;
      fulls = beside.fulls;
      lates = beside.lates ++ (beside.owner, f) ∷ [];
      rounds = beside.rounds;
      signed = beside.signed;
      times = beside.times;
      starved = beside.starved;
      links_are = items_append beside.front beside.back ∙ (λ i. beside.before_are i ++ beside.after_are i);
      count = length-append beside.lates ((beside.owner, f) ∷ []) ∙ ap (λ n. n + 1) beside.count;
      gathers = gathers_listener old mid new (items_of beside.rounds) beside.signed beside.times beside.starved (items_of beside.fulls ++ items_of beside.lates) (items_of beside.fulls ++ items_of (beside.lates ++ (beside.owner, f) ∷ [])) (length before + length after + 1) (length (before ++ after)) beside.gathers same
          (subst (λ (n : ℕ). ListenerGains old.listener new.listener (items_of beside.fulls ++ items_of (beside.lates ++ (beside.owner, f) ∷ [])) n) (sym (length-append before after)) (subst (λ (l : List FinishedLink). ListenerGains old.listener new.listener l (length before + length after)) (sym listed) gained));
      numbered = numbered_listened vouched mid new beside.signed beside.times beside.starved none_apart (beside.front ++ beside.back) beside.fulls (beside.lates ++ (beside.owner, f) ∷ []) beside.rounds next same grown (numbering.breaks (Runs (known vouched mid beside.signed beside.times beside.starved)) (TookFully (known vouched mid beside.signed beside.times beside.starved)) (TookPart (known vouched mid beside.signed beside.times beside.starved)) (beside.front ++ beside.back) beside.fulls beside.lates beside.rounds next beside.owner f beside.numbered beside.one);
    }

-- where there are none, none has a number
no_tally : {A : Type 0} (k : ℕ) (xs : List (ℕ × A)) → items_of xs ≡ [] → tally k xs ≡ 0
no_tally k [] none = refl
no_tally k (x ∷ xs) none = absurd (cc none)

-- no link is under way any more
pub tending_tends : {next : ℕ} (vouched : Ask → List (List ℕ) → JwtToken → Type 0) (room : ℕ) (end : SeatEnd) (old new : SeatWorld) (broken : ℕ) → Tending vouched next old new broken [] → broken ≤ room → (end ≡ seat.End → broken ≡ 0) → Tends vouched room end old new
tending_tends {next} vouched room end old new broken held few ended =
    record {
      fulls = held.fulls;
      lates = held.lates;
      rounds = held.rounds;
      signed = held.signed;
      times = held.times;
      starved = held.starved;
      gathers = held.gathers;
      once = λ k. omega (arith, held.numbered.once k);
      owners = λ k none. held.numbered.owners k (omega (arith, none, no_tally k held.running held.links_are));
      each_full = held.numbered.each_full;
      each_late = held.numbered.each_late;
      few = omega (arith, held.count, few);
      none = λ is. nil_from_length held.lates (held.count ∙ ended is);
    }
