-- What holds of the marks is kept by each event and by each publication.
use Rattle.std.proofs.Common.{◌≡◌, inl, inr, ℕ, zero, suc, ◌+◌, ◌<◌, ◌≤◌, ◌==◌, ◌||◌, Bool, true, false, not, if◌then◌else◌, List, [], ◌∷◌, ◌++◌, map, filter, length, replicate, Option, Some, None, Result, Ok, Err, slice_set, refl, sym, ap, subst, ◌∙◌, arith}
use Rattle.std.specs.Prelude.{◌⊎◌}
use Rattle.std.specs.List.{list_any}
use Rattle.std.proofs.lemmas.Bool.Decides.{nat_tests}
use Rattle.std.proofs.lemmas.List.{length-set, length-map, length-replicate, replicate-append-replicate, get_or-set_same}
use Rattle.wl_core.proofs.Common.{DocFault, State, Signed, JwtToken, Publication, Flight, after_claim, Stored, Managed, JwtAsk, fresh_session, asks_in, Event, CONNS, Seat, seat_at, joined_seat, named_seat, told_seat, feed_seat, turn_seat, KeptTokens, tokens_of, kept_token, outcome_of, Moment, reading_of, after_reading, signed_with, failed_with, flight_in, answer_ask, token_seat, moment_after, Holds, WorksOn}
use Rattle.wl_snapshot.specs.Same.{same_view_model}
use Rattle.wl_snapshot.specs.Views.{view_in}
use Rattle.wl_snapshot.proofs.Equalities.{view_model_is}
use Rattle.wl_store.specs.Stores.{Store, shows, publish, next_publication}
use Rattle.wl_subscribe.specs.Filed.{has_number}
use Rattle.wl_subscribe.specs.Subscribed.{Subscribed, members_without, without_member, views_differ, affected_numbers}
use Rattle.wl_subscribe.proofs.Filings.{or_weakened}
use Rattle.wl_session.proofs.ViewFacts.{NewIs, fed_each, turned_each, outcome_each, fed_shown, outcome_shown, turned_shown, shown_on, weaker}
use Rattle.wl_core.specs.declared.events.Event.TheVariants as events
use Rattle.wl_core.specs.declared.marks.Mark.{Mark}
use Rattle.wl_core.specs.Events.{IsWithin}
use Rattle.wl_core.specs.Seats.{with_session}
use Rattle.wl_core.specs.Marks.{Marked, no_mark, mark_at, none_marked, with_number, with_caller, marked_as, without_members, without_callers, marked_by, marked_after, noted_join, noted_caller, noted_name, noted, IsTurnMarked, IsMember, IsSubscribed, IsCaller, IsFollowed, IsFollowedAt, AreOwned, Follows, IsShownAt, IsTurnShown}

-- ---- tests

or_first : (a b : Bool) → a ≡ true → (a || b) ≡ true
or_first true b is = refl
or_first false b is = absurd (cc is)

or_then : (a b : Bool) → b ≡ true → (a || b) ≡ true
or_then true b is = refl
or_then false b is = is

neither : (a b : Bool) → (a || b) ≡ false → (a ≡ false) × (b ≡ false)
neither true b is = absurd (cc is)
neither false b is = (refl, is)

equal : (a b : ℕ) → (a == b) ≡ true → a ≡ b
equal a b is = grind (arith, nat_tests, is)

unequal : (a b : ℕ) → (a == b) ≡ false → a ≡ b → ⊥
unequal a b is same = absurd (grind (arith, nat_tests, is, same))

itself : (a : ℕ) → (a == a) ≡ true
itself a = grind (arith, nat_tests)

-- ---- numbers

number_one : (n k : ℕ) (b : Bool) → (n == k) ≡ b → (b || false) ≡ true → n ≡ k
number_one n k true same is = equal n k same
number_one n k false same is = absurd (cc is)

number_go : (n k : ℕ) (a b c : Bool) → (b ≡ true → (c ≡ true) ⊎ (n ≡ k)) → (a || b) ≡ true → ((a || c) ≡ true) ⊎ (n ≡ k)
number_go n k true b c go is = inl refl
number_go n k false b c go is = go is

number_more : (ids : List ℕ) (n k : ℕ) → has_number (ids ++ n ∷ []) k ≡ true → (has_number ids k ≡ true) ⊎ (n ≡ k)
number_more [] n k has = inr (number_one n k (n == k) refl has)
number_more (i ∷ ids) n k has = number_go n k (i == k) (has_number (ids ++ n ∷ []) k) (has_number ids k) (number_more ids n k) has

number_still : (ids : List ℕ) (n k : ℕ) → has_number ids k ≡ true → has_number (ids ++ n ∷ []) k ≡ true
number_still [] n k has = absurd (cc has)
number_still (i ∷ ids) n k has = or_weakened (i == k) (has_number ids k) (has_number (ids ++ n ∷ []) k) (number_still ids n k) has

number_last : (ids : List ℕ) (n : ℕ) → has_number (ids ++ n ∷ []) n ≡ true
number_last [] n = or_first (n == n) false (itself n)
number_last (i ∷ ids) n = or_then (i == n) (has_number (ids ++ n ∷ []) n) (number_last ids n)

any_go : (test : ℕ → Bool) (i n : ℕ) (b rest later : Bool) → (i == n) ≡ b → test n ≡ true → (rest ≡ true → later ≡ true) → (b || rest) ≡ true → (test i || later) ≡ true
any_go test i n true rest later same passes go is = or_first (test i) later (ap test (equal i n same) ∙ passes)
any_go test i n false rest later same passes go is = or_then (test i) later (go is)

any_has : (test : ℕ → Bool) (ids : List ℕ) (n : ℕ) → has_number ids n ≡ true → test n ≡ true → list_any test ids ≡ true
any_has test [] n has passes = absurd (cc has)
any_has test (i ∷ ids) n has passes = any_go test i n (i == n) (has_number ids n) (list_any test ids) refl passes (λ h. any_has test ids n h passes) has

-- ---- subscribers

abbrev Members : Type 0
Members = List (ℕ × List (List ℕ))

member_still : (ms : Members) (m : ℕ × List (List ℕ)) (n : ℕ) (sel : List (List ℕ)) → IsMember ms n sel → IsMember (ms ++ m ∷ []) n sel
member_still [] m n sel is = absurd is
member_still (o ∷ ms) m n sel (inl same) = inl same
member_still (o ∷ ms) m n sel (inr there) = inr (member_still ms m n sel there)

member_last : (ms : Members) (n : ℕ) (sel : List (List ℕ)) → IsMember (ms ++ (n, sel) ∷ []) n sel
member_last [] n sel = inl refl
member_last (o ∷ ms) n sel = inr (member_last ms n sel)

number_is : (k n : ℕ) (sel : List (List ℕ)) (m : ℕ × List (List ℕ)) → (k == m.0) ≡ true → m ≡ (n, sel) → k ≡ n
number_is k n sel m is same = equal k m.0 is ∙ ap (λ (x : ℕ × List (List ℕ)). x.0) same

without_go : (ms : Members) (m : ℕ × List (List ℕ)) (k n : ℕ) (sel : List (List ℕ)) (b : Bool) → (k == m.0) ≡ b → (k ≡ n → ⊥) → (m ≡ (n, sel)) ⊎ IsMember ms n sel
    → (IsMember ms n sel → IsMember (members_without k ms) n sel) → IsMember (if b then ms else m ∷ members_without k ms) n sel
without_go ms m k n sel true is other (inl same) rest = absurd (other (number_is k n sel m is same))
without_go ms m k n sel true is other (inr there) rest = there
without_go ms m k n sel false is other (inl same) rest = inl same
without_go ms m k n sel false is other (inr there) rest = inr (rest there)

member_without : (ms : Members) (k n : ℕ) (sel : List (List ℕ)) → (k ≡ n → ⊥) → IsMember ms n sel → IsMember (members_without k ms) n sel
member_without [] k n sel other is = absurd is
member_without (m ∷ ms) k n sel other is = without_go ms m k n sel (k == m.0) refl other is (member_without ms k n sel other)

members_left : (ids : List ℕ) (s : Subscribed) (n : ℕ) (sel : List (List ℕ)) → has_number ids n ≡ false → IsMember s.members n sel → IsMember (without_members ids s).members n sel
unfolding without_members
members_left [] s n sel none is = is
members_left (i ∷ ids) s n sel none is =
    let parts = neither (i == n) (has_number ids n) none in
    members_left ids (without_member i s) n sel parts.1 (member_without s.members i n sel (unequal i n parts.0) is)

next_left : (ids : List ℕ) (s : Subscribed) → (without_members ids s).next ≡ s.next
unfolding without_members
next_left [] s = refl
next_left (i ∷ ids) s = next_left ids (without_member i s)

-- ---- who sees something else

affected_go : (p q : Publication) (m : ℕ × List (List ℕ)) (ms rest : Members) (n : ℕ) (sel : List (List ℕ)) (b : Bool) → views_differ p q m.1 ≡ b → (m ≡ (n, sel)) ⊎ IsMember ms n sel
    → views_differ p q sel ≡ true → (IsMember ms n sel → has_number (map (λ (x : ℕ × List (List ℕ)). x.0) rest) n ≡ true)
    → has_number (map (λ (x : ℕ × List (List ℕ)). x.0) (if b then m ∷ rest else rest)) n ≡ true
affected_go p q m ms rest n sel true is (inl same) differ go =
    let e : m.0 ≡ n = ap (λ (x : ℕ × List (List ℕ)). x.0) same in
    or_first (m.0 == n) _ (subst (λ (k : ℕ). (k == n) ≡ true) (sym e) (itself n))
affected_go p q m ms rest n sel true is (inr there) differ go = or_then (m.0 == n) _ (go there)
affected_go p q m ms rest n sel false is (inl same) differ go = absurd (cc (sym is ∙ (ap (λ (x : ℕ × List (List ℕ)). views_differ p q x.1) same ∙ differ)))
affected_go p q m ms rest n sel false is (inr there) differ go = go there

affected_in : (p q : Publication) (ms : Members) (n : ℕ) (sel : List (List ℕ)) → IsMember ms n sel → views_differ p q sel ≡ true
    → has_number (map (λ (x : ℕ × List (List ℕ)). x.0) (filter (λ (x : ℕ × List (List ℕ)). views_differ p q x.1) ms)) n ≡ true
affected_in p q [] n sel is differ = absurd is
affected_in p q (m ∷ ms) n sel is differ =
    affected_go p q m ms (filter (λ (x : ℕ × List (List ℕ)). views_differ p q x.1) ms) n sel (views_differ p q m.1) refl is differ (λ there. affected_in p q ms n sel there differ)

affected_has : (p q : Publication) (s : Subscribed) (n : ℕ) (sel : List (List ℕ)) → IsMember s.members n sel → views_differ p q sel ≡ true → has_number (affected_numbers p q s) n ≡ true
unfolding affected_numbers
affected_has p q s n sel is differ = affected_in p q s.members n sel is differ

same_by : (b : Bool) → not b ≡ false → b ≡ true
same_by true is = refl
same_by false is = absurd (cc is)

views_same : (p q : Publication) (sel : List (List ℕ)) → views_differ p q sel ≡ false → view_in p sel ≡ view_in q sel
unfolding views_differ
views_same p q sel is = view_model_is (view_in p sel) (view_in q sel) (same_by (same_view_model (view_in p sel) (view_in q sel)) is)

view_go : (p q : Publication) (s : Subscribed) (ids : List ℕ) (sel : List (List ℕ)) (b : Bool) → views_differ p q sel ≡ b → list_any (has_number (affected_numbers p q s)) ids ≡ false
    → IsSubscribed s.members ids sel → view_in p sel ≡ view_in q sel
view_go p q s ids sel true is none are =
    absurd (cc (sym none ∙ any_has (has_number (affected_numbers p q s)) ids are.0 are.1 (affected_has p q s are.0 sel are.2 is)))
view_go p q s ids sel false is none are = views_same p q sel is

-- a caller that is not affected sees the same
same_view : (p q : Publication) (s : Subscribed) (ids : List ℕ) (sel : List (List ℕ)) → list_any (has_number (affected_numbers p q s)) ids ≡ false
    → IsSubscribed s.members ids sel → view_in p sel ≡ view_in q sel
same_view p q s ids sel none are = view_go p q s ids sel (views_differ p q sel) refl none are

-- ---- lists by connection

marks_set : (P : ℕ → Mark → Type 0) (marks : List Mark) (conn : ℕ) (mark : Mark) → ((c : ℕ) → P c (mark_at marks c)) → P conn mark → (c : ℕ) → P c (mark_at (slice_set marks conn mark) c)
marks_set P [] conn mark all is c = all c
marks_set P (m ∷ ms) zero mark all is zero = is
marks_set P (m ∷ ms) zero mark all is (suc c) = all (suc c)
marks_set P (m ∷ ms) (suc conn) mark all is zero = all zero
marks_set P (m ∷ ms) (suc conn) mark all is (suc c) = marks_set (λ (k : ℕ) (x : Mark). P (suc k) x) ms conn mark (λ k. all (suc k)) is c

seats_set : (P : ℕ → Option Seat → Type 0) (seats : List (Option Seat)) (conn : ℕ) (o : Option Seat) → ((c : ℕ) → P c (seat_at seats c)) → P conn o → (c : ℕ) → P c (seat_at (slice_set seats conn o) c)
seats_set P [] conn o all is c = all c
seats_set P (s ∷ ss) zero o all is zero = is
seats_set P (s ∷ ss) zero o all is (suc c) = all (suc c)
seats_set P (s ∷ ss) (suc conn) o all is zero = all zero
seats_set P (s ∷ ss) (suc conn) o all is (suc c) = seats_set (λ (k : ℕ) (x : Option Seat). P (suc k) x) ss conn o (λ k. all (suc k)) is c

set_here : (P : Option Seat → Type 0) (seats : List (Option Seat)) (conn : ℕ) (o : Option Seat) → P None → P o → P (seat_at (slice_set seats conn o) conn)
set_here P [] conn o none is = none
set_here P (s ∷ ss) zero o none is = is
set_here P (s ∷ ss) (suc conn) o none is = set_here P ss conn o none is

mark_mapped : (numbers : List ℕ) (marks : List Mark) (c : ℕ) → mark_at (map (marked_by numbers) marks) c ≡ marked_by numbers (mark_at marks c)
mark_mapped numbers [] c = refl
mark_mapped numbers (m ∷ ms) zero = refl
mark_mapped numbers (m ∷ ms) (suc c) = mark_mapped numbers ms c

mark_here : (marks : List Mark) (conn : ℕ) (mark : Mark) → conn < length marks → mark_at (slice_set marks conn mark) conn ≡ mark
mark_here marks conn mark within = get_or-set_same marks conn mark no_mark within

-- ---- one connection

abbrev Grows : Members → List ℕ → Members → List ℕ → Type 0
Grows ms ids ms2 ids2 = (sel : List (List ℕ)) → IsSubscribed ms ids sel → IsSubscribed ms2 ids2 sel

caller_grows : (ms ms2 : Members) (ids ids2 : List ℕ) (caller : Option (List (List ℕ))) → Grows ms ids ms2 ids2 → IsCaller ms ids caller → IsCaller ms2 ids2 caller
caller_grows ms ms2 ids ids2 None grows is = tt
caller_grows ms ms2 ids ids2 (Some sel) grows is = grows sel is

followed_grows : (p : Publication) (ms ms2 : Members) (mark : Mark) (ids : List ℕ) (o : Option Seat) → Grows ms mark.ids ms2 ids → IsFollowedAt p ms mark o
    → IsFollowedAt p ms2 (record { ids = ids; is_marked = mark.is_marked }) o
followed_grows p ms ms2 mark ids None grows f = tt
followed_grows p ms ms2 mark ids (Some seat) grows f =
    record {
      caller = caller_grows ms ms2 mark.ids ids seat.caller grows f.caller;
      calls = weaker (λ sel seen. IsSubscribed ms mark.ids sel) (λ sel seen. IsSubscribed ms2 ids sel) seat.session (λ sel seen is. grows sel is) f.calls;
      shown = f.shown;
    }

seat_follows : (p : Publication) (k : Marked) (seats : List (Option Seat)) (conn : ℕ) (o : Option Seat) → Follows p k seats → IsFollowedAt p k.subscribed.members (mark_at k.marks conn) o
    → Follows p k (slice_set seats conn o)
seat_follows p k seats conn o f is =
    record { room = f.room; owned = f.owned; each = seats_set (λ (c : ℕ) (x : Option Seat). IsFollowedAt p k.subscribed.members (mark_at k.marks c) x) seats conn o f.each is }

-- ---- a caller more

abbrev Owns : (ℕ → ℕ) → ℕ → ℕ → Mark → Type 0
Owns owner next c mark = (number : ℕ) → has_number mark.ids number ≡ true → (owner number ≡ c) × (number < next)

abbrev owner_with : (ℕ → ℕ) → ℕ → ℕ → ℕ → ℕ
owner_with owner next conn n = if n == next then conn else owner n

owner_go : (owner : ℕ → ℕ) (next conn n : ℕ) (b : Bool) → (n == next) ≡ b → n < next → (if b then conn else owner n) ≡ owner n
owner_go owner next conn n true is below = absurd (grind (arith, nat_tests, is, below))
owner_go owner next conn n false is below = refl

owns_still : (owner : ℕ → ℕ) (next conn c n : ℕ) → (owner n ≡ c) × (n < next) → (owner_with owner next conn n ≡ c) × (n < next + 1)
owns_still owner next conn c n owns = (owner_go owner next conn n (n == next) refl owns.1 ∙ owns.0, omega (arith, owns.1))

owner_new : (owner : ℕ → ℕ) (next conn n : ℕ) (b : Bool) → (n == next) ≡ b → next ≡ n → (if b then conn else owner n) ≡ conn
owner_new owner next conn n true is same = refl
owner_new owner next conn n false is same = absurd (unequal n next is (sym same))

owns_more : (owner : ℕ → ℕ) (next conn n : ℕ) (mark : Mark) → Owns owner next conn mark → (has_number mark.ids n ≡ true) ⊎ (next ≡ n) → (owner_with owner next conn n ≡ conn) × (n < next + 1)
owns_more owner next conn n mark owns (inl has) = owns_still owner next conn conn n (owns n has)
owns_more owner next conn n mark owns (inr same) = (owner_new owner next conn n (n == next) refl same, omega (arith, same))

subscribed_still : (ms : Members) (m : ℕ × List (List ℕ)) (ids : List ℕ) → Grows ms ids (ms ++ m ∷ []) ids
subscribed_still ms m ids sel is = (is.0, is.1, member_still ms m is.0 sel is.2)

subscribed_more : (ms : Members) (m : ℕ × List (List ℕ)) (ids : List ℕ) (n : ℕ) → Grows ms ids (ms ++ m ∷ []) (ids ++ n ∷ [])
subscribed_more ms m ids n sel is = (is.0, number_still ids n is.0 is.1, member_still ms m is.0 sel is.2)

caller_follows : (p : Publication) (conn : ℕ) (sel : List (List ℕ)) (k : Marked) (seats : List (Option Seat)) → Follows p k seats → Follows p (with_caller conn sel k) seats
caller_follows p conn sel k seats f =
    let s = k.subscribed in
    let mark = mark_at k.marks conn in
    let owner = f.owned.0 in
    let later = owner_with owner s.next conn in
    record {
      room = length-set k.marks conn (with_number s.next mark) ∙ f.room;
      owned = (
        later,
        marks_set (Owns later (s.next + 1)) k.marks conn (with_number s.next mark)
            (λ c n has. owns_still owner s.next conn c n (f.owned.1 c n has))
            (λ n has. owns_more owner s.next conn n mark (f.owned.1 conn) (number_more mark.ids s.next n has)),
      );
      each = marks_set (λ (c : ℕ) (x : Mark). IsFollowedAt p (s.members ++ (s.next, sel) ∷ []) x (seat_at seats c)) k.marks conn (with_number s.next mark)
          (λ c. followed_grows p s.members (s.members ++ (s.next, sel) ∷ []) (mark_at k.marks c) (mark_at k.marks c).ids (seat_at seats c) (subscribed_still s.members (s.next, sel) (mark_at k.marks c).ids) (f.each c))
          (followed_grows p s.members (s.members ++ (s.next, sel) ∷ []) mark (mark.ids ++ s.next ∷ []) (seat_at seats conn) (subscribed_more s.members (s.next, sel) mark.ids s.next) (f.each conn));
    }

-- and it is subscribed
caller_is : (conn : ℕ) (sel : List (List ℕ)) (k : Marked) → conn < length k.marks
    → IsSubscribed (with_caller conn sel k).subscribed.members (mark_at (with_caller conn sel k).marks conn).ids sel
caller_is conn sel k within =
    let s = k.subscribed in
    let mark = mark_at k.marks conn in
    (s.next, subst (λ (m : Mark). has_number m.ids s.next ≡ true) (sym (mark_here k.marks conn (with_number s.next mark) within)) (number_last mark.ids s.next), member_last s.members s.next sel)

-- ---- a mark

marked_anew : (p : Publication) (ms : Members) (mark : Mark) (b : Bool) (o : Option Seat) → IsFollowedAt p ms mark o → (b ≡ false → IsShownAt p o) → IsFollowedAt p ms (record { ids = mark.ids; is_marked = b }) o
marked_anew p ms mark b None f shown = tt
marked_anew p ms mark b (Some seat) f shown = record { caller = f.caller; calls = f.calls; shown = shown }

mark_follows : (p : Publication) (b : Bool) (conn : ℕ) (k : Marked) (seats : List (Option Seat)) → Follows p k seats → (b ≡ false → IsShownAt p (seat_at seats conn)) → Follows p (marked_as b conn k) seats
mark_follows p b conn k seats f shown =
    let mark : Mark = record { ids = (mark_at k.marks conn).ids; is_marked = b } in
    record {
      room = length-set k.marks conn mark ∙ f.room;
      owned = (f.owned.0, marks_set (Owns f.owned.0 k.subscribed.next) k.marks conn mark f.owned.1 (f.owned.1 conn));
      each = marks_set (λ (c : ℕ) (x : Mark). IsFollowedAt p k.subscribed.members x (seat_at seats c)) k.marks conn mark f.each
          (marked_anew p k.subscribed.members (mark_at k.marks conn) b (seat_at seats conn) (f.each conn) shown);
    }

-- ---- callers that leave

left_go : (owner : ℕ → ℕ) (k : Marked) (conn c n : ℕ) (sel : List (List ℕ)) (b : Bool) → has_number (mark_at k.marks conn).ids n ≡ b → (c ≡ conn → ⊥) → AreOwned owner k.subscribed.next k.marks
    → has_number (mark_at k.marks c).ids n ≡ true → IsMember k.subscribed.members n sel → IsMember (without_members (mark_at k.marks conn).ids k.subscribed).members n sel
left_go owner k conn c n sel true is other owned has there = absurd (other (sym (owned c n has).0 ∙ (owned conn n is).0))
left_go owner k conn c n sel false is other owned has there = members_left (mark_at k.marks conn).ids k.subscribed n sel is there

left_stays : (owner : ℕ → ℕ) (k : Marked) (conn c : ℕ) → (c ≡ conn → ⊥) → AreOwned owner k.subscribed.next k.marks
    → Grows k.subscribed.members (mark_at k.marks c).ids (without_members (mark_at k.marks conn).ids k.subscribed).members (mark_at k.marks c).ids
left_stays owner k conn c other owned sel is =
    (is.0, is.1, left_go owner k conn c is.0 sel (has_number (mark_at k.marks conn).ids is.0) refl other owned is.1 is.2)

left_each : (p : Publication) (k : Marked) (seats : List (Option Seat)) (conn c : ℕ) (b : Bool) → (c == conn) ≡ b → Follows p k seats → seat_at seats conn ≡ None
    → IsFollowedAt p (without_members (mark_at k.marks conn).ids k.subscribed).members (mark_at k.marks c) (seat_at seats c)
left_each p k seats conn c true same f none =
    let e : seat_at seats c ≡ None = ap (λ (x : ℕ). seat_at seats x) (equal c conn same) ∙ none in
    subst (λ (o : Option Seat). IsFollowedAt p (without_members (mark_at k.marks conn).ids k.subscribed).members (mark_at k.marks c) o) (sym e) tt
left_each p k seats conn c false same f none =
    followed_grows p k.subscribed.members (without_members (mark_at k.marks conn).ids k.subscribed).members (mark_at k.marks c) (mark_at k.marks c).ids (seat_at seats c)
    (left_stays f.owned.0 k conn c (unequal c conn same) f.owned.1) (f.each c)

left_follows : (p : Publication) (conn : ℕ) (k : Marked) (seats : List (Option Seat)) → Follows p k seats → seat_at seats conn ≡ None → Follows p (without_callers conn k) seats
left_follows p conn k seats f none =
    let later = without_members (mark_at k.marks conn).ids k.subscribed in
    record {
      room = length-set k.marks conn no_mark ∙ f.room;
      owned = (
        f.owned.0,
        subst (λ (n : ℕ). AreOwned f.owned.0 n (slice_set k.marks conn no_mark)) (sym (next_left (mark_at k.marks conn).ids k.subscribed))
            (marks_set (Owns f.owned.0 k.subscribed.next) k.marks conn no_mark f.owned.1 (λ n has. absurd (cc has))),
      );
      each = marks_set (λ (c : ℕ) (x : Mark). IsFollowedAt p later.members x (seat_at seats c)) k.marks conn no_mark
          (λ c. left_each p k seats conn c (c == conn) refl f none)
          (subst (λ (o : Option Seat). IsFollowedAt p later.members no_mark o) (sym none) tt);
    }

-- ---- a publication

followed_publication : (p q : Publication) (s : Subscribed) (mark : Mark) (o : Option Seat) → IsFollowedAt p s.members mark o → IsFollowedAt q s.members (marked_by (affected_numbers p q s) mark) o
followed_publication p q s mark None f = tt
followed_publication p q s mark (Some seat) f =
    record {
      caller = f.caller;
      calls = f.calls;
      shown = λ is.
          let parts = neither mark.is_marked (list_any (has_number (affected_numbers p q s)) mark.ids) is in
          shown_on (IsSubscribed s.members mark.ids) p q seat.session (λ sel are. same_view p q s mark.ids sel parts.1 are) f.calls (f.shown parts.0);
    }

published_go : (p q : Publication) (k : Marked) (seats : List (Option Seat)) (b : Bool) → (p.number == q.number) ≡ b → Follows p k seats → (p.number ≡ q.number → p ≡ q)
    → Follows q (if b then k else record k { marks = map (marked_by (affected_numbers p q k.subscribed)) k.marks }) seats
published_go p q k seats true is f same = subst (λ (x : Publication). Follows x k seats) (same (equal p.number q.number is)) f
published_go p q k seats false is f same =
    let numbers = affected_numbers p q k.subscribed in
    record {
      room = length-map k.marks (marked_by numbers) ∙ f.room;
      owned = (f.owned.0, λ c n has. f.owned.1 c n (subst (λ (x : Mark). has_number x.ids n ≡ true) (mark_mapped numbers k.marks c) has));
      each = λ c. subst (λ (x : Mark). IsFollowedAt q k.subscribed.members x (seat_at seats c)) (sym (mark_mapped numbers k.marks c))
          (followed_publication p q k.subscribed (mark_at k.marks c) (seat_at seats c) (f.each c));
    }

published : (p q : Publication) (k : Marked) (seats : List (Option Seat)) → Follows p k seats → (p.number ≡ q.number → p ≡ q) → Follows q (marked_after p q k) seats
published p q k seats f same = published_go p q k seats (p.number == q.number) refl f same

next_go : (p q : Publication) (b : Bool) → q.number ≡ p.number + 1 → p.number ≡ (if b then p else q).number → p ≡ (if b then p else q)
next_go p q true next is = refl
next_go p q false next is = absurd (omega (arith, next, is))

next_same : (p : Publication) (kept : Store) → p.number ≡ (next_publication p kept).number → p ≡ next_publication p kept
next_same p kept is = next_go p (publish (p.number + 1) p.domain kept) (shows p kept) refl is

reading_same : (r : Result State DocFault) (m : Stored) → m.published.number ≡ (after_reading r m).published.number → m.published ≡ (after_reading r m).published
reading_same (Ok d) m is = next_same m.published _ is
reading_same (Err fault) m is = refl

signed_same : (f : Option Flight) (n : ℕ) (g : Signed) (now : ℕ) (m : Stored) → m.published.number ≡ (signed_with f n g now m).published.number → m.published ≡ (signed_with f n g now m).published
signed_same None n g now m is = refl
signed_same (Some f) n g now m is = next_same m.published _ is

failed_same : (f : Option Flight) (n : ℕ) (m : Stored) → m.published.number ≡ (failed_with f n m).published.number → m.published ≡ (failed_with f n m).published
failed_same None n m is = refl
failed_same (Some f) n m is = refl

-- a publication of the same number is the same
same_number : (e : Event) (m : Moment) → m.stored.published.number ≡ (moment_after e m).stored.published.number → m.stored.published ≡ (moment_after e m).stored.published
unfolding moment_after
same_number (events.Sync document) m is = reading_same (reading_of document m.stored) m.stored is
same_number (events.Claim now) m is = next_same m.stored.published (after_claim now m.stored.store) is
same_number (events.Signed ticket signed now) m is = signed_same (flight_in ticket m.stored) ticket signed now m.stored is
same_number (events.Failed ticket) m is = failed_same (flight_in ticket m.stored) ticket m.stored is
same_number (events.Join conn selectors) m is = refl
same_number (events.Name conn caller) m is = refl
same_number (events.Feed conn piece) m is = refl
same_number (events.Turn conn) m is = refl
same_number (events.Token conn now given) m is = refl
same_number (events.Close conn) m is = refl

-- ---- an event

join_follows : (p : Publication) (conn : ℕ) (sel : List (List ℕ)) (k : Marked) (seats : List (Option Seat)) (o : Option Seat) → conn < CONNS → IsFollowedAt p k.subscribed.members (mark_at k.marks conn) o → Follows p k seats
    → Follows p (noted_join o conn sel k) (slice_set seats conn (joined_seat sel o))
join_follows p conn sel k seats None within is f =
    let one = with_caller conn sel k in
    let f1 = caller_follows p conn sel k seats f in
    let there : conn < length k.marks = subst (λ (n : ℕ). conn < n) (sym f.room) within in
    let room : conn < length one.marks = subst (λ (n : ℕ). conn < n) (sym f1.room) within in
    let mark : Mark = record { ids = (mark_at one.marks conn).ids; is_marked = true } in
    let seat : Seat = record { caller = Some sel; session = fresh_session } in
    seat_follows p (marked_as true conn one) seats conn (Some seat) (mark_follows p true conn one seats f1 (λ is. absurd (cc is)))
    (subst (λ (x : Mark). IsFollowed p one.subscribed.members x seat) (sym (mark_here one.marks conn mark room))
    (record { caller = caller_is conn sel k there; calls = tt; shown = λ is. absurd (cc is) }))
join_follows p conn sel k seats (Some seat) within is f = seat_follows p k seats conn (Some seat) f is

name_follows : (p : Publication) (conn : ℕ) (caller : Option (List (List ℕ))) (k : Marked) (seats : List (Option Seat)) (seat : Seat) → conn < CONNS → seat_at seats conn ≡ Some seat → Follows p k seats
    → Follows p (noted_caller conn caller k) (slice_set seats conn (Some (record { caller = caller; session = seat.session })))
name_follows p conn None k seats seat within there f =
    let is : IsFollowed p k.subscribed.members (mark_at k.marks conn) seat = subst (λ (o : Option Seat). IsFollowedAt p k.subscribed.members (mark_at k.marks conn) o) there (f.each conn) in
    seat_follows p k seats conn (Some (record { caller = None; session = seat.session })) f (record { caller = tt; calls = is.calls; shown = is.shown })
name_follows p conn (Some sel) k seats seat within there f =
    let one = with_caller conn sel k in
    let f1 = caller_follows p conn sel k seats f in
    let is : IsFollowed p one.subscribed.members (mark_at one.marks conn) seat = subst (λ (o : Option Seat). IsFollowedAt p one.subscribed.members (mark_at one.marks conn) o) there (f1.each conn) in
    let room : conn < length k.marks = subst (λ (n : ℕ). conn < n) (sym f.room) within in
    seat_follows p one seats conn (Some (record { caller = Some sel; session = seat.session })) f1 (record { caller = caller_is conn sel k room; calls = is.calls; shown = is.shown })

named_follows : (p : Publication) (conn : ℕ) (caller : Option (List (List ℕ))) (k : Marked) (seats : List (Option Seat)) (o : Option Seat) → conn < CONNS → seat_at seats conn ≡ o → Follows p k seats
    → Follows p (noted_name o conn caller k) (slice_set seats conn (named_seat caller o))
named_follows p conn caller k seats None within there f = seat_follows p k seats conn None f tt
named_follows p conn caller k seats (Some seat) within there f = name_follows p conn caller k seats seat within there f

new_is : (ms : Members) (ids : List ℕ) (caller : Option (List (List ℕ))) → IsCaller ms ids caller → NewIs (λ sel seen. IsSubscribed ms ids sel) caller
new_is ms ids None is = tt
new_is ms ids (Some sel) is = is

fed_followed : (p : Publication) (ms : Members) (mark : Mark) (piece : List ℕ) (o : Option Seat) → IsFollowedAt p ms mark o → IsFollowedAt p ms mark (told_seat (feed_seat piece) o)
fed_followed p ms mark piece None f = tt
fed_followed p ms mark piece (Some seat) f =
    record {
      caller = f.caller;
      calls = fed_each (λ sel seen. IsSubscribed ms mark.ids sel) piece seat.caller seat.session (new_is ms mark.ids seat.caller f.caller) f.calls;
      shown = λ is. fed_shown p piece seat.caller seat.session (f.shown is);
    }

turned_followed : (p : Publication) (ms : Members) (mark : Mark) (o : Option Seat) → IsFollowedAt p ms mark o → IsFollowedAt p ms mark (told_seat (turn_seat p) o)
turned_followed p ms mark None f = tt
turned_followed p ms mark (Some seat) f =
    record {
      caller = f.caller;
      calls = turned_each (λ sel seen. IsSubscribed ms mark.ids sel) p seat.session (λ sel seen is. is) f.calls;
      shown = λ is. turned_shown p seat.session;
    }

turned_shown_at : (p : Publication) (o : Option Seat) → IsShownAt p (told_seat (turn_seat p) o)
turned_shown_at p None = tt
turned_shown_at p (Some seat) = turned_shown p seat.session

asked_followed : (p : Publication) (ms : Members) (mark : Mark) (kept : KeptTokens) (now : ℕ) (given : Option JwtToken) (seat : Seat) (a : Option JwtAsk) → IsFollowed p ms mark seat
    → IsFollowed p ms mark (with_session (answer_ask kept now given seat a).after seat)
asked_followed p ms mark kept now given seat None f = f
asked_followed p ms mark kept now given seat (Some a) f =
    let o = outcome_of (kept_token kept a now) given now in
    record {
      caller = f.caller;
      calls = outcome_each (λ sel seen. IsSubscribed ms mark.ids sel) o seat.session f.calls;
      shown = λ is. outcome_shown p o seat.session (f.shown is);
    }

token_followed : (p : Publication) (ms : Members) (mark : Mark) (kept : KeptTokens) (now : ℕ) (given : Option JwtToken) (o : Option Seat) → IsFollowedAt p ms mark o
    → IsFollowedAt p ms mark (told_seat (token_seat kept now given) o)
token_followed p ms mark kept now given None f = tt
token_followed p ms mark kept now given (Some seat) f = asked_followed p ms mark kept now given seat (asks_in seat.session) f

noted_follows : (e : Event) (m : Moment) (k : Marked) → IsWithin e → Follows m.stored.published k m.seats → Follows m.stored.published (noted e m.seats k) (moment_after e m).seats
unfolding moment_after
noted_follows (events.Sync document) m k within f = f
noted_follows (events.Claim now) m k within f = f
noted_follows (events.Signed ticket signed now) m k within f = f
noted_follows (events.Failed ticket) m k within f = f
noted_follows (events.Join conn selectors) m k within f = join_follows m.stored.published conn selectors k m.seats (seat_at m.seats conn) within (f.each conn) f
noted_follows (events.Name conn caller) m k within f = named_follows m.stored.published conn caller k m.seats (seat_at m.seats conn) within refl f
noted_follows (events.Feed conn piece) m k within f =
    let p = m.stored.published in
    let o = seat_at m.seats conn in
    seat_follows p k m.seats conn (told_seat (feed_seat piece) o) f (fed_followed p k.subscribed.members (mark_at k.marks conn) piece o (f.each conn))
noted_follows (events.Turn conn) m k within f =
    let p = m.stored.published in
    let o = told_seat (turn_seat p) (seat_at m.seats conn) in
    let f1 = seat_follows p k m.seats conn o f (turned_followed p k.subscribed.members (mark_at k.marks conn) (seat_at m.seats conn) (f.each conn)) in
    mark_follows p false conn k (slice_set m.seats conn o) f1 (λ is. set_here (λ (x : Option Seat). IsShownAt p x) m.seats conn o tt (turned_shown_at p (seat_at m.seats conn)))
noted_follows (events.Token conn now given) m k within f =
    let p = m.stored.published in
    let o = seat_at m.seats conn in
    seat_follows p k m.seats conn (told_seat (token_seat (tokens_of m.stored m.history) now given) o) f (token_followed p k.subscribed.members (mark_at k.marks conn) (tokens_of m.stored m.history) now given o (f.each conn))
noted_follows (events.Close conn) m k within f =
    let p = m.stored.published in
    let f1 = seat_follows p k m.seats conn None f tt in
    left_follows p conn k (slice_set m.seats conn None) f1 (set_here (λ (x : Option Seat). x ≡ None) m.seats conn None refl refl)

-- a world that works goes on following its callers
pub follows_after : (e : Event) (managed new : Managed) (seats others : List (Option Seat)) (begun later : ℕ) (before : Publication) (k mid after : Marked) → begun ≤ 18446744073709551615 → IsWithin e
    → WorksOn managed seats → Follows managed.stored.published k seats → ((m : Moment) → Holds managed seats begun m → Holds new others later (moment_after e m))
    → before ≡ managed.stored.published → mid ≡ noted e seats k → after ≡ marked_after before new.stored.published mid → Follows new.stored.published after others
follows_after e managed new seats others begun later before k mid after fits within works follows holds was notes marks =
    let m : Moment = record { stored = managed.stored; history = works.tokens.0; seats = seats; begun_before = begun } in
    let h : Holds new others later (moment_after e m) = holds m (record { stored = refl; tokens = works.tokens.1; seats = refl; begun_before = omega arith }) in
    let p = managed.stored.published in
    let q = new.stored.published in
    let f : Follows p (noted e seats k) others = subst (λ (s : List (Option Seat)). Follows p (noted e seats k) s) (sym h.seats) (noted_follows e m k within follows) in
    let same : p.number ≡ q.number → p ≡ q = λ n. same_number e m (n ∙ ap (λ (s : Stored). s.published.number) h.stored) ∙ sym (ap (λ (s : Stored). s.published) h.stored) in
    let is : after ≡ marked_after p q (noted e seats k) = marks ∙ (ap (λ (x : Publication). marked_after x q mid) was ∙ ap (λ (x : Marked). marked_after p q x) notes) in
    subst (λ (x : Marked). Follows q x others) (sym is) (published p q (noted e seats k) others f same)

-- ---- a turn

shown_at : (p : Publication) (ms : Members) (mark : Mark) (o : Option Seat) → IsFollowedAt p ms mark o → mark.is_marked ≡ false → IsShownAt p o
shown_at p ms mark None f is = tt
shown_at p ms mark (Some seat) f is = f.shown is

-- a session that takes a turn and is not marked was shown what this publication shows
pub turn_shown : (p : Publication) (e : Event) (k : Marked) (seats : List (Option Seat)) (b : Bool) → Follows p k seats → IsTurnMarked b e k.marks → b ≡ false → IsTurnShown p e seats
turn_shown p (events.Sync document) k seats b f is not_marked = tt
turn_shown p (events.Claim now) k seats b f is not_marked = tt
turn_shown p (events.Signed ticket signed now) k seats b f is not_marked = tt
turn_shown p (events.Failed ticket) k seats b f is not_marked = tt
turn_shown p (events.Join conn selectors) k seats b f is not_marked = tt
turn_shown p (events.Name conn caller) k seats b f is not_marked = tt
turn_shown p (events.Feed conn piece) k seats b f is not_marked = tt
turn_shown p (events.Turn conn) k seats b f is not_marked = shown_at p k.subscribed.members (mark_at k.marks conn) (seat_at seats conn) (f.each conn) (sym is ∙ not_marked)
turn_shown p (events.Token conn now given) k seats b f is not_marked = tt
turn_shown p (events.Close conn) k seats b f is not_marked = tt

-- ---- the beginning

none_mark : (n conn : ℕ) → mark_at (replicate n no_mark) conn ≡ no_mark
none_mark zero conn = refl
none_mark (suc n) zero = refl
none_mark (suc n) (suc conn) = none_mark n conn

none_seat : (p : Publication) (ms : Members) (mark : Mark) (n conn : ℕ) → IsFollowedAt p ms mark (seat_at (replicate n None) conn)
none_seat p ms mark zero conn = tt
none_seat p ms mark (suc n) zero = tt
none_seat p ms mark (suc n) (suc conn) = none_seat p ms mark n conn

pub none_follows : (p : Publication) → Follows p none_marked (replicate CONNS None)
none_follows p =
    record {
      room = length-replicate CONNS no_mark;
      owned = (λ n. 0, λ c n has. absurd (cc (subst (λ (x : Mark). has_number x.ids n ≡ true) (none_mark CONNS c) has)));
      each = λ c. none_seat p [] (mark_at none_marked.marks c) CONNS c;
    }

-- one connection more on which nobody is
pub one_mark : (n : ℕ) → replicate n no_mark ++ no_mark ∷ [] ≡ replicate (n + 1) no_mark
one_mark n = replicate-append-replicate n 1 no_mark
