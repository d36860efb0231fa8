-- Links for which memory ran out are counted, and the seat goes on.
use Rattle.std.specs.Prelude.{◌≡◌, ◌⊎◌, ℕ, ◌+◌, List, ◌∷◌, ◌++◌, length, Option, Some, None, IfSome}
use Rattle.std.proofs.Common.{arith, refl, sym, subst, inl, inr}
use Rattle.wl_worker.proofs.Common.{Ask, JwtToken, Delivery, LinkLog, ListenerLog, FinishedLink, BoundSocket, RoseBy, owned_by, items_of, one_apart, Round, IsIn, Around, Began, Known, AreJudged, TookAllUnless, TookFully, TookPart, SeatWorld, seat_world, known, Under, Runs, CountsStarved, Ended}
use Rattle.wl_worker.specs.Tended.{SeatGathers}
use Rattle.wl_worker.specs.declared.ended.Ended.TheVariants as ended
use Rattle.wl_worker.proofs.Growth.{rose_then}
use Rattle.wl_worker.proofs.SeatLaws.{Beside, beside_weaken}
use Rattle.wl_worker.proofs.NumberedLinks as numbering

-- what is gathered, and one more of them
gathers_starved : (old : SeatWorld) (sockets : Option (List BoundSocket)) (listener : Option ListenerLog) (count count_now : ℕ) (now : Around) (rounds : List Round) (signed : List Delivery) (times starved : List ℕ) (o : ℕ) (finished : List FinishedLink) (n : ℕ) →
    SeatGathers old (seat_world sockets listener count now) rounds signed times starved finished n → RoseBy 1 count count_now → SeatGathers old (seat_world sockets listener count_now now) rounds signed times (o ∷ starved) finished n
gathers_starved old sockets listener count count_now now rounds signed times starved o finished n gathers rose =
    let one_more : length starved + 1 ≡ length (o ∷ starved) = omega arith in
    record {
      listener = gathers.listener;
      attested = gathers.attested;
      attestor_fails = gathers.attestor_fails;
      mine = gathers.mine;
      seen = gathers.seen;
      store = gathers.store;
      signs = gathers.signs;
      clock = gathers.clock;
      ask_fails = gathers.ask_fails;
      starves = subst (λ (m : ℕ). RoseBy m old.starved count_now) one_more (rose_then old.starved count count_now (length starved) 1 gathers.starves rose);
    }

starved_longer : {A : Type 0} (n o : ℕ) (starved : List ℕ) → (IsIn n starved ⊎ A) → IsIn n (o ∷ starved) ⊎ A
starved_longer n o starved (inl is) = inl (inr is)
starved_longer n o starved (inr other) = inr other

unless_starved : (P Q R : LinkLog → Type 0) (n o : ℕ) (starved : List ℕ) (told : Option LinkLog) → IfSome told (λ log. P log × Q log × (IsIn n starved ⊎ R log)) → IfSome told (λ log. P log × Q log × (IsIn n (o ∷ starved) ⊎ R log))
unless_starved P Q R n o starved None is = tt
unless_starved P Q R n o starved (Some log) is = (is.0, is.1, starved_longer n o starved is.2)

-- What was finished stays so where memory runs out for another.
fully_starved : (vouched : Ask → List (List ℕ) → JwtToken → Type 0) (sockets : Option (List BoundSocket)) (listener : Option ListenerLog) (count count_now : ℕ) (now : Around) (signed : List Delivery) (times starved : List ℕ) (o n : ℕ) (f : FinishedLink) (past : List Round) →
    TookFully (known vouched (seat_world sockets listener count now) signed times starved) n f past → TookFully (known vouched (seat_world sockets listener count_now now) signed times (o ∷ starved)) n f past
fully_starved vouched sockets listener count count_now now signed times starved o n f past is =
    let k : Known = known vouched (seat_world sockets listener count now) signed times starved in
    (is.0, unless_starved (λ log. Began log k.seen past) (λ log. AreJudged k n past) (λ log. TookAllUnless f.failed_receives f.failed_sends log past) n o starved f.log is.1)

-- Memory ran out for the link that is held apart, and it is counted.
pub beside_starves : {next : ℕ} (P : Known → ℕ → List Round → Type 0) (vouched : Ask → List (List ℕ) → JwtToken → Type 0) (old : SeatWorld) (sockets : Option (List BoundSocket)) (listener : Option ListenerLog) (count count_now : ℕ) (now : Around) (broken : ℕ) (before after : List Under) →
    ((signed : List Delivery) (times starved : List ℕ) (n : ℕ) (past : List Round) → P (known vouched (seat_world sockets listener count now) signed times starved) n past → P (known vouched (seat_world sockets listener count_now now) signed times (n ∷ starved)) n past) →
    RoseBy 1 count count_now → Beside P vouched next old (seat_world sockets listener count now) broken before after →
    Beside (λ k n past. P k n past × IsIn n k.starved) vouched next old (seat_world sockets listener count_now now) broken before after
beside_starves {next} P vouched old sockets listener count count_now now broken before after stays rose beside =
    let was : Known = known vouched (seat_world sockets listener count now) beside.signed beside.times beside.starved in
    let is : Known = known vouched (seat_world sockets listener count_now now) beside.signed beside.times (beside.owner ∷ beside.starved) in
    record {
      front = beside.front;
      back = beside.back;
      owner = beside.owner;
      fulls = beside.fulls;
      lates = beside.lates;
      rounds = beside.rounds;
      signed = beside.signed;
      times = beside.times;
      starved = beside.owner ∷ beside.starved;
      before_are = beside.before_are;
      after_are = beside.after_are;
      count = beside.count;
      gathers = gathers_starved old sockets listener count count_now now (items_of beside.rounds) beside.signed beside.times beside.starved beside.owner (items_of beside.fulls ++ items_of beside.lates) (length before + length after + 1) beside.gathers rose;
      numbered =
          numbering.weaken (Runs was) (Runs is) (TookFully was) (TookFully is) (TookPart was) (TookPart is) (one_apart beside.owner) (beside.front ++ beside.back) beside.fulls beside.lates beside.rounds next (λ k u past runs. runs)
          (fully_starved vouched sockets listener count count_now now beside.signed beside.times beside.starved beside.owner) (λ k f past part. part) beside.numbered;
      one = (stays beside.signed beside.times beside.starved beside.owner (owned_by beside.owner beside.rounds) beside.one, inl refl);
    }

-- It stays as it was where memory did not run out.
beside_kept : {next : ℕ} (P : Known → ℕ → List Round → Type 0) (vouched : Ask → List (List ℕ) → JwtToken → Type 0) (old : SeatWorld) (sockets : Option (List BoundSocket)) (listener : Option ListenerLog) (count count_now : ℕ) (now : Around) (broken : ℕ) (before after : List Under) →
    (e : Ended) → (e ≡ ended.Memory → ⊥) → count_now ≡ count → Beside P vouched next old (seat_world sockets listener count now) broken before after →
    Beside (λ k n past. P k n past × (e ≡ ended.Memory → IsIn n k.starved)) vouched next old (seat_world sockets listener count_now now) broken before after
beside_kept {next} P vouched old sockets listener count count_now now broken before after e other same beside =
    subst (λ (m : ℕ). Beside (λ k n past. P k n past × (e ≡ ended.Memory → IsIn n k.starved)) vouched next old (seat_world sockets listener m now) broken before after) (sym same)
    (beside_weaken P (λ k n past. P k n past × (e ≡ ended.Memory → IsIn n k.starved)) vouched old (seat_world sockets listener count now) broken before after (λ signed times starved n past one. (one, λ is. absurd (other is))) beside)

-- The link that is held apart has ended, and is counted where memory ran out for it.
pub beside_counts : {next : ℕ} (P : Known → ℕ → List Round → Type 0) (vouched : Ask → List (List ℕ) → JwtToken → Type 0) (old : SeatWorld) (sockets : Option (List BoundSocket)) (listener : Option ListenerLog) (count count_now : ℕ) (now : Around) (broken : ℕ) (before after : List Under) →
    ((signed : List Delivery) (times starved : List ℕ) (n : ℕ) (past : List Round) → P (known vouched (seat_world sockets listener count now) signed times starved) n past → P (known vouched (seat_world sockets listener count_now now) signed times (n ∷ starved)) n past) →
    (e : Ended) → CountsStarved e count count_now → Beside P vouched next old (seat_world sockets listener count now) broken before after →
    Beside (λ k n past. P k n past × (e ≡ ended.Memory → IsIn n k.starved)) vouched next old (seat_world sockets listener count_now now) broken before after
beside_counts {next} P vouched old sockets listener count count_now now broken before after stays ended.Closed same beside = beside_kept P vouched old sockets listener count count_now now broken before after ended.Closed (λ is. cc is) same beside
beside_counts {next} P vouched old sockets listener count count_now now broken before after stays (ended.Protocol f) same beside = beside_kept P vouched old sockets listener count count_now now broken before after (ended.Protocol f) (λ is. cc is) same beside
beside_counts {next} P vouched old sockets listener count count_now now broken before after stays ended.ReadFault same beside = beside_kept P vouched old sockets listener count count_now now broken before after ended.ReadFault (λ is. cc is) same beside
beside_counts {next} P vouched old sockets listener count count_now now broken before after stays ended.WriteFault same beside = beside_kept P vouched old sockets listener count count_now now broken before after ended.WriteFault (λ is. cc is) same beside
beside_counts {next} P vouched old sockets listener count count_now now broken before after stays ended.Memory rose beside =
    beside_weaken (λ k n past. P k n past × IsIn n k.starved) (λ k n past. P k n past × (ended.Memory ≡ ended.Memory → IsIn n k.starved)) vouched old (seat_world sockets listener count_now now) broken before after (λ signed times starved n past one. (one.0, λ is. one.1))
    (beside_starves P vouched old sockets listener count count_now now broken before after stays rose beside)
