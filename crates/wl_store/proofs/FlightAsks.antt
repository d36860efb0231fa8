-- The asks of an entry's tickets in flight.
use Rattle.std.proofs.Common.{◌≡◌, ◌<◌, ◌+◌, ℕ, take, get_or, length, ◌==◌, Bool, true, false, cond, ◌||◌, ◌&&◌, List, [], ◌∷◌, ◌++◌, map, filter, unwrap_or, not, Option, Some, None, refl, sym, ap, ◌∙◌, append-nil}
use Rattle.std.specs.List.{list_any}
use Rattle.std.specs.Str.{bytes_eq}
use Rattle.std.specs.Ordering.{nat_cmp}
use Rattle.std.specs.Map.{lookup}
use Rattle.std.specs.BTreeMap.{is_at}
use Rattle.std.specs.Cmp.Lexicographic.{slice_cmp, pointwise, bytes_decides}
use Rattle.std.proofs.lemmas.List.{map-append, take_more}
use Rattle.std.proofs.lemmas.List.Elements.{filter-append}
use Rattle.std.proofs.lemmas.Map.Text.{is_eq-slice_cmp}
use Rattle.wl_store.proofs.Common.{same_ask, Ask, Flight}
use Rattle.wl_store.specs.Stores.{is_in_flight}
use Rattle.wl_store.specs.Groups.{flight_ask, asks_under}

-- ---- one more flight

one_by : (b : Bool) (f : Flight) → map flight_ask (cond b (f ∷ []) []) ≡ cond b (f.ask ∷ []) []
one_by true f = refl
one_by false f = refl

asks_one : (q : List ℕ) (f : Flight) → asks_under q (f ∷ []) ≡ cond (bytes_eq f.ask.entry_id q) (f.ask ∷ []) []
unfolding asks_under
asks_one q f = one_by (bytes_eq f.ask.entry_id q) f

asks_under-append : (q : List ℕ) (xs ys : List Flight) → asks_under q (xs ++ ys) ≡ asks_under q xs ++ asks_under q ys
unfolding asks_under
asks_under-append q xs ys = ap (map flight_ask) (filter-append (λ f. bytes_eq f.ask.entry_id q) xs ys)
    ∙ map-append flight_ask (filter (λ f. bytes_eq f.ask.entry_id q) xs) (filter (λ f. bytes_eq f.ask.entry_id q) ys)

pub asks_more : (q : List ℕ) (xs : List Flight) (i : ℕ) (f : Flight) → i < length xs → f ≡ get_or xs i f → asks_under q (take (i + 1) xs) ≡ asks_under q (take i xs) ++ asks_under q (f ∷ [])
asks_more q xs i f lt is = ap (asks_under q) (take_more xs i f lt ∙ ap (λ (x : Flight). take i xs ++ x ∷ []) (sym is)) ∙ asks_under-append q (take i xs) (f ∷ [])

-- the entry's own group grows, and no other
group_by : (b : Bool) (ask : Ask) (old at_k : Option (List Ask)) → (b ≡ true → at_k ≡ old)
    → unwrap_or (cond b (Some (unwrap_or at_k [] ++ ask ∷ [])) (cond b None old)) [] ≡ unwrap_or old [] ++ cond b (ask ∷ []) []
group_by true ask old at_k h = ap (λ (o : Option (List Ask)). unwrap_or o [] ++ ask ∷ []) (h refl)
group_by false ask old at_k h = sym (append-nil (unwrap_or old []))

pub group_step : (f : Flight) (q : List ℕ) (es : List (List ℕ × List Ask)) (mid new : Option (List Ask))
    → mid ≡ cond (is_at (slice_cmp nat_cmp f.ask.entry_id) q) None (lookup (is_at (slice_cmp nat_cmp q)) es)
    → new ≡ cond (is_at (slice_cmp nat_cmp f.ask.entry_id) q) (Some (unwrap_or (lookup (is_at (slice_cmp nat_cmp f.ask.entry_id)) es) [] ++ f.ask ∷ [])) mid
    → unwrap_or new [] ≡ unwrap_or (lookup (is_at (slice_cmp nat_cmp q)) es) [] ++ asks_under q (f ∷ [])
group_step f q es mid new m n =
    let k = f.ask.entry_id in
    let test = is_eq-slice_cmp k q in
    let same : is_at (slice_cmp nat_cmp k) q ≡ true → lookup (is_at (slice_cmp nat_cmp k)) es ≡ lookup (is_at (slice_cmp nat_cmp q)) es =
    (λ h. ap (λ (x : List ℕ). lookup (is_at (slice_cmp nat_cmp x)) es) ((bytes_decides k q).0 (sym test ∙ h))) in
    rw (n, m) (group_by (is_at (slice_cmp nat_cmp k) q) f.ask (lookup (is_at (slice_cmp nat_cmp q)) es) (lookup (is_at (slice_cmp nat_cmp k)) es) same
    ∙ ap (λ (b : Bool). unwrap_or (lookup (is_at (slice_cmp nat_cmp q)) es) [] ++ cond b (f.ask ∷ []) []) test
    ∙ ap (λ (asks : List Ask). unwrap_or (lookup (is_at (slice_cmp nat_cmp q)) es) [] ++ asks) (sym (asks_one q f)))

-- ---- an ask is the same as none of another entry's

in_flight_by : (b : Bool) (a : Ask) (f : Flight) (fs : List Flight) (rest : Bool) → bytes_eq f.ask.entry_id a.entry_id ≡ b → list_any (λ x. same_ask x a) (map flight_ask fs) ≡ rest
    → list_any (λ x. same_ask x a) (map flight_ask (cond b (f ∷ fs) fs)) ≡ (same_ask f.ask a || rest)
in_flight_by true a f fs rest is h = ap (λ (r : Bool). same_ask f.ask a || r) h
in_flight_by false a f fs rest is h = h ∙ ap (λ (b : Bool). (b && (bytes_eq f.ask.spiffe_id a.spiffe_id && (pointwise bytes_eq f.ask.dns_names a.dns_names && (f.ask.ttl == a.ttl)))) || rest) (sym is)

pub in_flight_under : (a : Ask) (in_flight : List Flight) → list_any (λ x. same_ask x a) (asks_under a.entry_id in_flight) ≡ is_in_flight in_flight a
unfolding asks_under
in_flight_under a [] = refl
in_flight_under a (f ∷ fs) = in_flight_by (bytes_eq f.ask.entry_id a.entry_id) a f (filter (λ g. bytes_eq g.ask.entry_id a.entry_id) fs) (is_in_flight fs a) refl (in_flight_under a fs)

-- the asks that have no ticket in flight, one ask further
pub without_in_flight_more : (in_flight : List Flight) (asks : List Ask) (i : ℕ) (a : Ask) (has_ticket : Bool) → i < length asks → a ≡ get_or asks i a → is_in_flight in_flight a ≡ has_ticket
    → filter (λ x. not (is_in_flight in_flight x)) (take i asks) ++ cond (not has_ticket) (a ∷ []) [] ≡ filter (λ x. not (is_in_flight in_flight x)) (take (i + 1) asks)
without_in_flight_more in_flight asks i a has_ticket lt is told =
    let left : Ask → Bool = (λ x. not (is_in_flight in_flight x)) in
    sym (ap (filter left) (take_more asks i a lt ∙ ap (λ (x : Ask). take i asks ++ x ∷ []) (sym is)) ∙ filter-append left (take i asks) (a ∷ []) ∙ ap (λ (b : Bool). filter left (take i asks) ++ cond (not b) (a ∷ []) []) told)
