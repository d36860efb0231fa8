-- The steps of a round as the code takes them are those of its trace.
use Rattle.std.proofs.Common.{◌≡◌, ℕ, inl, true, List, [], ◌∷◌, ◌++◌, Option, Some, None, Ok, Err, refl, sym, ap, subst, ◌∙◌, append_assoc, is_some}
use Rattle.std.specs.Prelude.{Result, OnOk, IsSome, IfSome}
use Rattle.std.proofs.lemmas.List.{append-nil, map-append}
use Rattle.wl_worker.proofs.Common.{ConnFault, End, Memory, Publication, Talking, JwtAsk, JwtOutcome, SessionFault, SessionState, Running, Fallen, OutOfMemory, unnamed_in, asks_in, failure_in, turn_told, Origin, AttestorCall, Delivery, then_told, heard_told, name_told_at, answer_told, answers_told, given_told_at, given_told, outcomes_told, HaveCalls, HaveAsks, RoseBy, Asker, unanswered, unsigned, GainsAll, IsOutcome, last_shown}
use Rattle.h2_frame.specs.Reading.{reading_from}
use Rattle.wl_session.specs.declared.asks.SessionFault.TheVariants as faults
use Rattle.wl_session.specs.Sessions.{state_of_fault, feed_said, Feeds, Names, Turns, GivesOutcome}
use Rattle.wl_session.specs.Steps.{Told, quiet, outcome_told}
use Rattle.wl_worker.specs.Rounds.{name_told}
use Rattle.wl_worker.specs.Outcomes.{attestor_call, calls_by}
use Rattle.wl_worker.specs.Stepping.{Came, KeepsLast, Attests, Gives, TurnTells}
use Rattle.wl_worker.proofs.Growth.{gains_none, gains_then, ticked_none, ticked_then, rose_none, rose_then, unanswered_append, unsigned_append, in_front, in_back, outcome_grows, have_such}
use Rattle.wl_worker.proofs.SeenPublications.{keeps_self, keeps_then}

-- ---- steps

pub quiet_came : (s : SessionState) (out : List ℕ) → Came (quiet s) s out out
quiet_came s out = record { after = refl; bytes = sym (append-nil out) }

pub came_then : (first : Told) (next : SessionState → Told) (m n : SessionState) (o p q : List ℕ) → Came first m o p → Came (next m) n p q → Came (then_told first next) n o q
came_then first next m n o p q one other =
    record {
      after = other.after ∙ ap (λ (s : SessionState). (next s).after) one.after;
      bytes =
          other.bytes
          ∙ (ap (λ (xs : List ℕ). xs ++ (next m).bytes) one.bytes
          ∙ (append_assoc o first.bytes (next m).bytes
          ∙ ap (λ (s : SessionState). o ++ (first.bytes ++ (next s).bytes)) one.after));
    }

then_assoc : (one : Told) (f g : SessionState → Told) → then_told (then_told one f) g ≡ then_told one (λ s. then_told (f s) g)
then_assoc one f g = λ i. record { after = (g (f one.after).after).after; bytes = append_assoc one.bytes (f one.after).bytes (g (f one.after).after).bytes i }

-- ---- lists of answers and of outcomes

pub answers_append : (xs ys : List (Option (List (List ℕ)))) (s : SessionState) → answers_told (xs ++ ys) s ≡ then_told (answers_told xs s) (answers_told ys)
unfolding answers_told
answers_append [] ys s = refl
answers_append (a ∷ xs) ys s =
    ap (λ (rest : Told). then_told (answer_told a s) (λ _. rest)) (answers_append xs ys (answer_told a s).after)
    ∙ sym (then_assoc (answer_told a s) (answers_told xs) (answers_told ys))

pub calls_append : (xs ys : List (Option (List (List ℕ)))) (s : SessionState) → HaveCalls xs s → HaveCalls ys (answers_told xs s).after → HaveCalls (xs ++ ys) s
unfolding HaveCalls answers_told
calls_append [] ys s have more = more
calls_append (a ∷ xs) ys s have more = (have.0, calls_append xs ys (answer_told a s).after have.1 more)

pub outcomes_append : (xs ys : List JwtOutcome) (s : SessionState) → outcomes_told (xs ++ ys) s ≡ then_told (outcomes_told xs s) (outcomes_told ys)
unfolding outcomes_told
outcomes_append [] ys s = refl
outcomes_append (o ∷ xs) ys s =
    ap (λ (rest : Told). then_told (given_told o s) (λ _. rest)) (outcomes_append xs ys (given_told o s).after)
    ∙ sym (then_assoc (given_told o s) (outcomes_told xs) (outcomes_told ys))

pub asks_append : (P : JwtAsk → JwtOutcome → Type 0) (xs ys : List JwtOutcome) (s : SessionState) → HaveAsks P xs s → HaveAsks P ys (outcomes_told xs s).after → HaveAsks P (xs ++ ys) s
unfolding HaveAsks outcomes_told
asks_append P [] ys s have more = more
asks_append P (o ∷ xs) ys s have more = (have.0, asks_append P xs ys (given_told o s).after have.1 more)

-- ---- a piece

-- a piece was fed, and the talk goes on
pub record Fed (piece : List ℕ) (old new : SessionState) (old_out out : List ℕ) : Type 0 where
  pub came : Came (heard_told piece old) new old_out out
  pub goes : failure_in new ≡ None
  pub keeps : KeepsLast old new

fed_by : (piece : List ℕ) (e : End) (t : Talking) (shown : Option Publication) (new : SessionState) (o n : List ℕ)
    → Feeds piece (Running e t shown) (Ok tt) o n new → Fed piece (Running e t shown) new o n
unfolding heard_told
fed_by piece e t shown new o n feeds =
    let r = reading_from e piece in
    let is : new ≡ state_of_fault None r.ending (feed_said r t).after shown =
    feeds.2 ∙ ap (λ (f : Option ConnFault). state_of_fault f r.ending (feed_said r t).after shown) feeds.0 in
    record {
      came = record { after = feeds.2; bytes = feeds.1 };
      goes = ap failure_in is;
      keeps = inl (ap last_shown is);
    }

pub fed_ok : (piece : List ℕ) (s new : SessionState) (o n : List ℕ) → Feeds piece s (Ok tt) o n new → Fed piece s new o n
fed_ok piece (Running e t shown) new o n feeds = fed_by piece e t shown new o n feeds
fed_ok piece (Fallen fault begun) new o n feeds = absurd (cc feeds.0)
fed_ok piece OutOfMemory new o n feeds = absurd (cc feeds.0)

-- or the talk failed
pub record FedLast (piece : List ℕ) (old new : SessionState) (old_out out : List ℕ) (f : ConnFault) : Type 0 where
  pub came : Came (heard_told piece old) new old_out out
  pub fails : failure_in new ≡ Some (faults.Protocol f)
  pub none : last_shown new ≡ None

last_by : (piece : List ℕ) (e : End) (t : Talking) (shown : Option Publication) (f : ConnFault) (new : SessionState) (o n : List ℕ)
    → Feeds piece (Running e t shown) (Err (faults.Protocol f)) o n new → FedLast piece (Running e t shown) new o n f
unfolding heard_told
last_by piece e t shown f new o n feeds =
    let r = reading_from e piece in
    let is : new ≡ state_of_fault (Some f) r.ending (feed_said r t).after shown =
    feeds.2 ∙ ap (λ (g : Option ConnFault). state_of_fault g r.ending (feed_said r t).after shown) feeds.0 in
    record {
      came = record { after = feeds.2; bytes = feeds.1 };
      fails = ap failure_in is;
      none = ap last_shown is;
    }

last_fallen : (piece : List ℕ) (g f : ConnFault) (begun : ℕ) (new : SessionState) (o n : List ℕ) → g ≡ f → n ≡ o → new ≡ Fallen g begun → FedLast piece (Fallen g begun) new o n f
unfolding heard_told
last_fallen piece g f begun new o n same bytes is =
    record {
      came = record { after = is; bytes = bytes ∙ sym (append-nil o) };
      fails = ap failure_in is ∙ ap (λ (h : ConnFault). Some (faults.Protocol h)) same;
      none = ap last_shown is;
    }

pub fed_last : (piece : List ℕ) (s new : SessionState) (f : ConnFault) (o n : List ℕ) → Feeds piece s (Err (faults.Protocol f)) o n new → FedLast piece s new o n f
fed_last piece (Running e t shown) new f o n feeds = last_by piece e t shown f new o n feeds
fed_last piece (Fallen g begun) new f o n feeds = last_fallen piece g f begun new o n (cc feeds.0) feeds.1 feeds.2
fed_last piece OutOfMemory new f o n feeds = absurd (cc feeds.0)

-- a talk that has failed has no ask that waits
pub asks_gone : (s : SessionState) (f : SessionFault) → failure_in s ≡ Some f → asks_in s ≡ None
asks_gone (Running e t shown) f fails = absurd (cc fails)
asks_gone (Fallen g begun) f fails = refl
asks_gone OutOfMemory f fails = refl

-- out of memory nothing was shown
pub fed_none : (piece : List ℕ) (s new : SessionState) (o n : List ℕ) → Feeds piece s (Err faults.Memory) o n new → last_shown new ≡ None
fed_none piece (Running e t shown) new o n feeds = ap last_shown feeds.1
fed_none piece (Fallen g begun) new o n feeds = absurd (cc feeds.0)
fed_none piece OutOfMemory new o n feeds = ap last_shown feeds.2

-- ---- a name

one_told : (told : Told) → then_told told quiet ≡ told
one_told told = λ i. record { after = told.after; bytes = append-nil told.bytes i }

one_answer : (a : Option (List (List ℕ))) (s : SessionState) → answers_told (a ∷ []) s ≡ then_told (answer_told a s) (λ r. quiet r)
unfolding answers_told
one_answer a s = refl

-- a call took an answer
pub record Named (answer : Option (List (List ℕ))) (old new : SessionState) (old_out out : List ℕ) : Type 0 where
  pub came : Came (answers_told (answer ∷ []) old) new old_out out
  pub keeps : KeepsLast old new

named_running : (a : Option (List (List ℕ))) (e : End) (t : Talking) (shown : Option Publication) (new : SessionState) (o n : List ℕ) (stream : ℕ) → unnamed_in (Running e t shown) ≡ Some stream
    → Names a (Running e t shown) (Ok tt) o n new → Named a (Running e t shown) new o n
unfolding answer_told
named_running a e t shown new o n stream is names =
    let told : answers_told (a ∷ []) (Running e t shown) ≡ name_told a (Running e t shown) =
    one_answer a (Running e t shown) ∙ (one_told (answer_told a (Running e t shown)) ∙ ap (λ (u : Option ℕ). name_told_at u a (Running e t shown)) is) in
    record {
      came = record { after = names.1 ∙ sym (ap (λ (k : Told). k.after) told); bytes = names.0 ∙ sym (ap (λ (k : Told). o ++ k.bytes) told) };
      keeps = inl (ap last_shown names.1);
    }

named_by : (a : Option (List (List ℕ))) (s new : SessionState) (o n : List ℕ) (u : Option ℕ) → unnamed_in s ≡ u → is_some u ≡ true → Names a s (Ok tt) o n new → Named a s new o n
named_by a s new o n None is there names = absurd (cc there)
named_by a (Running e t shown) new o n (Some stream) is there names = named_running a e t shown new o n stream is names
named_by a (Fallen fault begun) new o n (Some stream) is there names = absurd (cc is)
named_by a OutOfMemory new o n (Some stream) is there names = absurd (cc is)

pub named_ok : (a : Option (List (List ℕ))) (s new : SessionState) (o n : List ℕ) → IsSome (unnamed_in s) → Names a s (Ok tt) o n new → Named a s new o n
named_ok a s new o n there names = named_by a s new o n (unnamed_in s) refl there names

pub named_none : (a : Option (List (List ℕ))) (s new : SessionState) (f : SessionFault) (o n : List ℕ) → IsSome (unnamed_in s) → Names a s (Err f) o n new → last_shown new ≡ None
named_none a (Running e t shown) new (faults.Protocol g) o n there names = absurd names
named_none a (Running e t shown) new faults.Memory o n there names = ap last_shown names.1
named_none a (Fallen fault begun) new f o n there names = absurd (cc there)
named_none a OutOfMemory new f o n there names = absurd (cc there)

-- ---- a turn

pub turned_ok : (p : Publication) (s new : SessionState) (o n : List ℕ) → Turns p s (Ok tt) o n new → TurnTells p s new o n (Ok tt)
unfolding turn_told
turned_ok p (Running e t shown) new o n turns =
    record { shows = subst (λ (q : Option Publication). IfSome q (λ last. last ≡ p)) (sym (ap last_shown turns.1)) refl; came = record { after = turns.1; bytes = turns.0 } }
turned_ok p (Fallen fault begun) new o n turns = absurd (cc turns.0)
turned_ok p OutOfMemory new o n turns = absurd (cc turns.0)

shows_none : (p : Publication) (new : SessionState) → last_shown new ≡ None → IfSome (last_shown new) (λ last. last ≡ p)
shows_none p new none = subst (λ (q : Option Publication). IfSome q (λ last. last ≡ p)) (sym none) tt

pub turned_none : (p : Publication) (s new : SessionState) (f : SessionFault) (m : Memory) (o n : List ℕ) → Turns p s (Err f) o n new → TurnTells p s new o n (Err m)
turned_none p (Running e t shown) new (faults.Protocol g) m o n turns = absurd turns
turned_none p (Running e t shown) new faults.Memory m o n turns = record { shows = shows_none p new (ap last_shown turns.1); came = tt }
turned_none p (Fallen fault begun) new f m o n turns = record { shows = shows_none p new (ap last_shown turns.2); came = tt }
turned_none p OutOfMemory new f m o n turns = record { shows = shows_none p new (ap last_shown turns.2); came = tt }

-- ---- an outcome

one_outcome : (o : JwtOutcome) (s : SessionState) → outcomes_told (o ∷ []) s ≡ then_told (given_told o s) (λ r. quiet r)
unfolding outcomes_told
one_outcome o s = refl

-- an ask got an outcome
pub record Given (outcome : JwtOutcome) (old new : SessionState) (old_out out : List ℕ) : Type 0 where
  pub came : Came (outcomes_told (outcome ∷ []) old) new old_out out
  pub keeps : KeepsLast old new

outcome_running : (w : JwtOutcome) (e : End) (t : Talking) (shown : Option Publication) (new : SessionState) (o n : List ℕ) → GivesOutcome w (Running e t shown) (Ok tt) o n new
    → Came (outcome_told w (Running e t shown)) new o n × KeepsLast (Running e t shown) new
unfolding outcome_told
outcome_running w e t shown new o n gives = (record { after = gives.1; bytes = gives.0 }, inl (ap last_shown gives.1))

given_running : (w : JwtOutcome) (e : End) (t : Talking) (shown : Option Publication) (new : SessionState) (o n : List ℕ) (a : JwtAsk) → asks_in (Running e t shown) ≡ Some a
    → GivesOutcome w (Running e t shown) (Ok tt) o n new → Given w (Running e t shown) new o n
unfolding given_told
given_running w e t shown new o n a is gives =
    let told : outcomes_told (w ∷ []) (Running e t shown) ≡ outcome_told w (Running e t shown) =
    one_outcome w (Running e t shown) ∙ (one_told (given_told w (Running e t shown)) ∙ ap (λ (u : Option JwtAsk). given_told_at u w (Running e t shown)) is) in
    let done = outcome_running w e t shown new o n gives in
    record {
      came = record { after = done.0.after ∙ sym (ap (λ (k : Told). k.after) told); bytes = done.0.bytes ∙ sym (ap (λ (k : Told). o ++ k.bytes) told) };
      keeps = done.1;
    }

pub given_ok : (w : JwtOutcome) (s new : SessionState) (o n : List ℕ) (a : JwtAsk) → asks_in s ≡ Some a → GivesOutcome w s (Ok tt) o n new → Given w s new o n
given_ok w (Running e t shown) new o n a is gives = given_running w e t shown new o n a is gives
given_ok w (Fallen fault begun) new o n a is gives = absurd (cc is)
given_ok w OutOfMemory new o n a is gives = absurd (cc is)

pub given_none : (w : JwtOutcome) (s new : SessionState) (f : SessionFault) (o n : List ℕ) (a : JwtAsk) → asks_in s ≡ Some a → GivesOutcome w s (Err f) o n new → last_shown new ≡ None
given_none w (Running e t shown) new (faults.Protocol g) o n a is gives = absurd gives
given_none w (Running e t shown) new faults.Memory o n a is gives = ap last_shown gives.1
given_none w (Fallen fault begun) new f o n a is gives = absurd (cc is)
given_none w OutOfMemory new f o n a is gives = absurd (cc is)

-- ---- several names, several outcomes

pub attests_then : (origin : Origin) (a b c : SessionState) (o p q : List ℕ) (x y z : Option (List AttestorCall)) (k m n : ℕ) (r : Result (Unit {0}) Memory)
    → Attests origin a b o p x y k m (Ok tt) → Attests origin b c p q y z m n r → Attests origin a c o q x z k n r
attests_then origin a b c o p q x y z k m n r one other =
    let there : HaveCalls other.answers (answers_told one.answers a).after = subst (λ (s : SessionState). HaveCalls other.answers s) one.came.after other.have in
    record {
      answers = one.answers ++ other.answers;
      calls_are = subst (λ (calls : List AttestorCall). GainsAll x z calls) (sym (map-append (attestor_call origin) one.answers other.answers))
          (gains_then x y z (calls_by origin one.answers) (calls_by origin other.answers) one.calls_are other.calls_are);
      fails = subst (λ (much : ℕ). RoseBy much k n) (sym (unanswered_append one.answers other.answers)) (rose_then k m n (unanswered one.answers) (unanswered other.answers) one.fails other.fails);
      have = calls_append one.answers other.answers a one.have there;
      keeps = keeps_then a b c one.keeps other.keeps;
      came = came_on r other.came;
    }
  where
    came_on : (s : Result (Unit {0}) Memory) → OnOk s (Came (answers_told other.answers b) c p q) → OnOk s (Came (answers_told (one.answers ++ other.answers) a) c o q)
    came_on (Err e) came = tt
    came_on (Ok done) came =
        subst (λ (told : Told). Came told c o q) (sym (answers_append one.answers other.answers a))
        (came_then (answers_told one.answers a) (answers_told other.answers) b c o p q one.came came)

pub gives_then : (vouched : Asker) (a b c : SessionState) (o p q : List ℕ) (x y z : Option (List Delivery)) (k m n : ℕ) (t u v : Option (List ℕ)) (r : Result (Unit {0}) Memory)
    → Gives {A = Unit {0}} vouched a b o p x y k m t u (Ok tt) → Gives vouched b c p q y z m n u v r → Gives vouched a c o q x z k n t v r
gives_then vouched a b c o p q x y z k m n t u v r one other =
    let signs = one.signs ++ other.signs in
    let ticks = one.ticks ++ other.ticks in
    let first : HaveAsks (IsOutcome vouched signs ticks) one.outcomes a =
    have_such (IsOutcome vouched one.signs one.ticks) (IsOutcome vouched signs ticks)
    (outcome_grows vouched one.signs signs one.ticks ticks (λ s is. in_front s one.signs other.signs is) (λ s is. in_front s one.ticks other.ticks is)) one.outcomes a one.have in
    let second : HaveAsks (IsOutcome vouched signs ticks) other.outcomes b =
    have_such (IsOutcome vouched other.signs other.ticks) (IsOutcome vouched signs ticks)
    (outcome_grows vouched other.signs signs other.ticks ticks (λ s is. in_back s one.signs other.signs is) (λ s is. in_back s one.ticks other.ticks is)) other.outcomes b other.have in
    record {
      outcomes = one.outcomes ++ other.outcomes;
      signs = signs;
      ticks = ticks;
      signed_is = gains_then x y z one.signs other.signs one.signed_is other.signed_is;
      clock = ticked_then t u v one.ticks other.ticks one.clock other.clock;
      fails = subst (λ (much : ℕ). RoseBy much k n) (sym (unsigned_append one.outcomes other.outcomes)) (rose_then k m n (unsigned one.outcomes) (unsigned other.outcomes) one.fails other.fails);
      have = asks_append (IsOutcome vouched signs ticks) one.outcomes other.outcomes a first
          (subst (λ (s : SessionState). HaveAsks (IsOutcome vouched signs ticks) other.outcomes s) one.came.after second);
      keeps = keeps_then a b c one.keeps other.keeps;
      came = came_on r other.came;
    }
  where
    came_on : (s : Result (Unit {0}) Memory) → OnOk s (Came (outcomes_told other.outcomes b) c p q) → OnOk s (Came (outcomes_told (one.outcomes ++ other.outcomes) a) c o q)
    came_on (Err e) came = tt
    came_on (Ok done) came =
        subst (λ (told : Told). Came told c o q) (sym (outcomes_append one.outcomes other.outcomes a))
        (came_then (outcomes_told one.outcomes a) (outcomes_told other.outcomes) b c o p q one.came came)

pub attests_none : (origin : Origin) (s : SessionState) (out : List ℕ) (told : Option (List AttestorCall)) (count : ℕ) → Attests origin s s out out told told count count (Ok tt)
unfolding HaveCalls answers_told
attests_none origin s out told count =
    record {
      answers = [];
      calls_are = gains_none told;
      fails = rose_none count;
      have = tt;
      keeps = keeps_self s;
      came = quiet_came s out;
    }

-- whatever was answered beside it
pub gives_as : {A B : Type 0} (vouched : Asker) (a b : SessionState) (o p : List ℕ) (x y : Option (List Delivery)) (k m : ℕ) (t u : Option (List ℕ)) (one : A) (other : B)
    → Gives {A = A} vouched a b o p x y k m t u (Ok one) → Gives {A = B} vouched a b o p x y k m t u (Ok other)
gives_as vouched a b o p x y k m t u one other is =
    record { outcomes = is.outcomes; signs = is.signs; ticks = is.ticks; signed_is = is.signed_is; clock = is.clock; fails = is.fails; have = is.have; keeps = is.keeps; came = is.came }

pub gives_failed : {A B : Type 0} (vouched : Asker) (a b : SessionState) (o p : List ℕ) (x y : Option (List Delivery)) (k m : ℕ) (t u : Option (List ℕ)) (one other : Memory)
    → Gives {A = A} vouched a b o p x y k m t u (Err one) → Gives {A = B} vouched a b o p x y k m t u (Err other)
gives_failed vouched a b o p x y k m t u one other is =
    record { outcomes = is.outcomes; signs = is.signs; ticks = is.ticks; signed_is = is.signed_is; clock = is.clock; fails = is.fails; have = is.have; keeps = is.keeps; came = tt }

pub gives_none : (vouched : Asker) (s : SessionState) (out : List ℕ) (told : Option (List Delivery)) (count : ℕ) (times : Option (List ℕ)) → Gives {A = Unit {0}} vouched s s out out told told count count times times (Ok tt)
unfolding HaveAsks outcomes_told
gives_none vouched s out told count times =
    record {
      outcomes = [];
      signs = [];
      ticks = [];
      signed_is = gains_none told;
      clock = ticked_none times;
      fails = rose_none count;
      have = tt;
      keeps = keeps_self s;
      came = quiet_came s out;
    }
