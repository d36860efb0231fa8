-- What is kept where a member comes or goes.
use Rattle.std.specs.Prelude.{◌≡◌, ◌==◌, ◌<◌, ◌+◌, ℕ, Bool, true, false, if◌then◌else◌, List, [], ◌∷◌, ◌++◌, Option, Some, None}
use Rattle.std.specs.List.{AllByRecursion}
use Rattle.std.specs.Ordering.{nat_cmp, match_ordering}
use Rattle.std.specs.Map.{lookup, remove_entry}
use Rattle.std.specs.BTreeMap.{BTreeMap, get, is_at, insert_entry}
use Rattle.std.proofs.Common.{cond, Ordering, Greater, refl, sym, ◌∙◌, ap, subst, arith}
use Rattle.std.proofs.lemmas.Bool.Decides.{nat_tests}
use Rattle.std.specs.Cmp.{both_ways}
use Rattle.wl_subscribe.proofs.Common.{has_text}
use Rattle.wl_subscribe.specs.Subscribed.{members_without}
use Rattle.wl_subscribe.specs.Filed.{is_filed, IsKept}

at_is : (a b : ℕ) → is_at (nat_cmp a) b ≡ (a == b)
at_is a b = both_ways (is_at (nat_cmp a) b) (a == b) (λ h. grind (arith, nat_tests, h)) (λ h. grind (arith, nat_tests, h))

above : (a b : ℕ) → b < a → nat_cmp a b ≡ Greater
above a b less = grind (arith, nat_tests, less)

-- a number that is above all goes to the end
pub inserted_last : {V : Type 0} (es : List (ℕ × V)) (n : ℕ) (v : V) → AllByRecursion (λ m. m.0 < n) es → insert_entry nat_cmp es n v ≡ es ++ (n, v) ∷ []
inserted_last [] n v below = refl
inserted_last (e ∷ es) n v below =
    ap (λ (o : Ordering). match_ordering o ((n, v) ∷ e ∷ es) ((e.0, v) ∷ es) (e ∷ insert_entry nat_cmp es n v)) (above n e.0 below.0) ∙ ap (λ l. e ∷ l) (inserted_last es n v below.1)

removed_by : {V : Type 0} (b c : Bool) (e : ℕ × V) (es rest other : List (ℕ × V)) → b ≡ c → rest ≡ other → cond b es (e ∷ rest) ≡ (if c then es else e ∷ other)
removed_by true true e es rest other is same = refl
removed_by true false e es rest other is same = cc is
removed_by false true e es rest other is same = cc is
removed_by false false e es rest other is same = ap (λ l. e ∷ l) same

pub removed : (n : ℕ) (es : List (ℕ × List (List ℕ))) → remove_entry (is_at (nat_cmp n)) es ≡ members_without n es
removed n [] = refl
removed n (e ∷ es) = removed_by (is_at (nat_cmp n) e.0) (n == e.0) e es (remove_entry (is_at (nat_cmp n)) es) (members_without n es) (at_is n e.0) (removed n es)

below_last : {V : Type 0} (es : List (ℕ × V)) (n : ℕ) (v : V) → AllByRecursion (λ m. m.0 < n) es → AllByRecursion (λ m. m.0 < n + 1) (es ++ (n, v) ∷ [])
below_last [] n v all = (omega arith, tt)
below_last (e ∷ es) n v all = (omega (arith, all.0), below_last es n v all.1)

below_go : (e : ℕ × List (List ℕ)) (es : List (ℕ × List (List ℕ))) (n next : ℕ) (b : Bool) → AllByRecursion (λ m. m.0 < next) (e ∷ es) → AllByRecursion (λ m. m.0 < next) (members_without n es) → AllByRecursion (λ m. m.0 < next) (if b then es else e ∷ members_without n es)
below_go e es n next true all rest = all.1
below_go e es n next false all rest = (all.0, rest)

below_without : (es : List (ℕ × List (List ℕ))) (n next : ℕ) → AllByRecursion (λ m. m.0 < next) es → AllByRecursion (λ m. m.0 < next) (members_without n es)
below_without [] n next all = tt
below_without (e ∷ es) n next all = below_go e es n next (n == e.0) all (below_without es n next all.1)

number_go : {V : Type 0} (n next k : ℕ) (v w : V) (found : Option V) (b : Bool) → is_at (nat_cmp n) k ≡ b → k < next → cond b (Some w) found ≡ Some v → (found ≡ Some v → n < next) → n < next
number_go n next k v w found true at less there later = let same = sym (at_is n k) ∙ at in grind (arith, nat_tests, same, less)
number_go n next k v w found false at less there later = later there

number_below : {V : Type 0} (es : List (ℕ × V)) (n next : ℕ) (v : V) → AllByRecursion (λ m. m.0 < next) es → lookup (is_at (nat_cmp n)) es ≡ Some v → n < next
number_below [] n next v all there = cc there
number_below (e ∷ es) n next v all there = number_go n next e.0 v e.1 (lookup (is_at (nat_cmp n)) es) (is_at (nat_cmp n) e.0) refl all.0 there (number_below es n next v all.1)

not_next : (n next : ℕ) → n < next → (n == next) ≡ false
not_next n next less = grind (arith, nat_tests, less)

-- what was filed under others stays so
pub kept_still : (next : ℕ) (old new : BTreeMap ℕ (List (List ℕ))) (before after : BTreeMap (List ℕ) (List ℕ)) → IsKept next old before → new.entries ≡ old.entries
    → ((text : List ℕ) (n : ℕ) → (n == next) ≡ false → is_filed before text n ≡ true → is_filed after text n ≡ true) → IsKept next new after
kept_still next old new before after is same stays = record {
  below = subst (λ es. AllByRecursion (λ m. m.0 < next) es) (sym same) is.below;
  filed = λ n sel at text has.
      let was : get nat_cmp old n ≡ Some sel = subst (λ es. lookup (is_at (nat_cmp n)) es ≡ Some sel) same at in
      stays text n (not_next n next (number_below old.entries n next sel is.below was)) (is.filed n sel was text has);
}

more_go : (old : Option (List (List ℕ))) (n number : ℕ) (sel selectors : List (List ℕ)) (filed : BTreeMap (List ℕ) (List ℕ)) (b : Bool) → is_at (nat_cmp number) n ≡ b → cond b (Some selectors) old ≡ Some sel
    → (old ≡ Some sel → (text : List ℕ) → has_text sel text ≡ true → is_filed filed text n ≡ true) → ((text : List ℕ) → has_text selectors text ≡ true → is_filed filed text number ≡ true)
    → (text : List ℕ) → has_text sel text ≡ true → is_filed filed text n ≡ true
more_go old n number sel selectors filed true at there before here text has =
    let same : number ≡ n = (let t = sym (at_is number n) ∙ at in grind (arith, nat_tests, t)) in
    let are : selectors ≡ sel = cc there in
    subst (λ m. is_filed filed text m ≡ true) same (here text (subst (λ l. has_text l text ≡ true) (sym are) has))
more_go old n number sel selectors filed false at there before here text has = before there text has

-- one member more, which is filed
pub kept_more : (number : ℕ) (selectors : List (List ℕ)) (old new : BTreeMap ℕ (List (List ℕ))) (filed : BTreeMap (List ℕ) (List ℕ)) → IsKept number old filed → new.entries ≡ old.entries ++ (number, selectors) ∷ []
    → ((n : ℕ) → get nat_cmp new n ≡ cond (is_at (nat_cmp number) n) (Some selectors) (get nat_cmp old n)) → ((text : List ℕ) → has_text selectors text ≡ true → is_filed filed text number ≡ true) → IsKept (number + 1) new filed
kept_more number selectors old new filed is entries up here = record {
  below = subst (λ es. AllByRecursion (λ m. m.0 < number + 1) es) (sym entries) (below_last old.entries number selectors is.below);
  filed = λ n sel at. more_go (get nat_cmp old n) n number sel selectors filed (is_at (nat_cmp number) n) refl (sym (up n) ∙ at) (is.filed n sel) here;
}

less_go : (old : Option (List (List ℕ))) (n number : ℕ) (sel : List (List ℕ)) (b : Bool) → is_at (nat_cmp number) n ≡ b → cond b None old ≡ Some sel → (old ≡ Some sel) × ((n == number) ≡ false)
less_go old n number sel true at there = cc there
less_go old n number sel false at there = (there, (let t = sym (at_is number n) ∙ at in grind (arith, nat_tests, t)))

-- one member less, and what was filed under others stays so
pub kept_less : (next number : ℕ) (old new : BTreeMap ℕ (List (List ℕ))) (before after : BTreeMap (List ℕ) (List ℕ)) → IsKept next old before → new.entries ≡ members_without number old.entries
    → ((n : ℕ) → get nat_cmp new n ≡ cond (is_at (nat_cmp number) n) None (get nat_cmp old n)) → ((text : List ℕ) (n : ℕ) → (n == number) ≡ false → is_filed before text n ≡ true → is_filed after text n ≡ true) → IsKept next new after
kept_less next number old new before after is entries up stays = record {
  below = subst (λ es. AllByRecursion (λ m. m.0 < next) es) (sym entries) (below_without old.entries number next is.below);
  filed = λ n sel at text has.
      let was = less_go (get nat_cmp old n) n number sel (is_at (nat_cmp number) n) refl (sym (up n) ∙ at) in
      stays text n was.1 (is.filed n sel was.0 text has);
}
