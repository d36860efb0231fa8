-- Laws of links that stand in a slab: a key that changes changes one place of their list.
use Rattle.std.specs.Prelude.{◌+◌, count_by, is_some}
use Rattle.std.proofs.Common.{◌≡◌, ◌≢◌, ℕ, zero, suc, ◌<◌, ◌≤◌, List, [], ◌∷◌, ◌++◌, length, get_or, Option, Some, None, refl, sym, ap, ◌∙◌, arith, append_assoc, cond, ⊎_elim}
use Rattle.std.proofs.lemmas.Bool.{cases_lt}
use Rattle.std.proofs.lemmas.List.{get_or_past}
use Rattle.std.proofs.lemmas.List.Recursion.{is_count_by}
use Rattle.slab.proofs.SlabLemmas.{vacant_after_removal}
use Rattle.wl_worker.proofs.Common.{Slab, links_of}
use Rattle.slab.specs.Slab.{get, Updates}
use Rattle.wl_worker.specs.Slots.{slot_of}

-- x stands between these in b, and not in a
pub record Between {T U : Type 0} (f : T → U) (x : T) (a b : List (Option T)) : Type 0 where
  pub front : List U
  pub back : List U
  pub without : links_of f a ≡ front ++ back
  pub with_it : links_of f b ≡ front ++ f x ∷ back

pub none_left : {T U : Type 0} (f : T → U) (a : List (Option T)) → ((k : ℕ) → get_or a k None ≡ None) → links_of f a ≡ []
none_left f [] none = refl
none_left f (s ∷ a) none = λ i. slot_of f (none 0 i) ++ none_left f a (λ k. none (suc k)) i

pub same_slots : {T U : Type 0} (f : T → U) (a b : List (Option T)) → ((k : ℕ) → get_or b k None ≡ get_or a k None) → links_of f b ≡ links_of f a
same_slots f [] b same = none_left f b (λ k. same k ∙ get_or_past [] k None (omega arith))
same_slots f (s ∷ a) [] same = sym (none_left f (s ∷ a) (λ k. sym (same k) ∙ get_or_past [] k None (omega arith)))
same_slots f (s ∷ a) (t ∷ b) same = λ i. slot_of f (same 0 i) ++ same_slots f a b (λ k. same (suc k)) i

pub one_more : {T U : Type 0} (f : T → U) (x : T) (a b : List (Option T)) (key : ℕ) → get_or a key None ≡ None → get_or b key None ≡ Some x → ((k : ℕ) → k ≢ key → get_or b k None ≡ get_or a k None) → Between f x a b
one_more f x a [] key none some others = absurd (grind (arith, some, get_or_past))
one_more f x [] (t ∷ b) zero none some others =
    let rest = none_left f b (λ k. others (suc k) (λ is. omega (arith, is)) ∙ get_or_past [] (suc k) None (omega arith)) in
    record { front = []; back = []; without = refl; with_it = λ i. slot_of f (some i) ++ rest i }
one_more f x [] (t ∷ b) (suc key) none some others =
    let first : t ≡ None = others 0 (λ is. omega (arith, is)) ∙ get_or_past [] 0 None (omega arith) in
    let later = one_more f x [] b key (get_or_past [] key None (omega arith)) some (λ k differs. others (suc k) (λ is. differs (omega (arith, is))) ∙ get_or_past [] (suc k) None (omega arith) ∙ sym (get_or_past [] k None (omega arith))) in
    record { front = later.front; back = later.back; without = later.without; with_it = λ i. slot_of f (first i) ++ later.with_it i }
one_more f x (s ∷ a) (t ∷ b) zero none some others =
    let rest = same_slots f a b (λ k. others (suc k) (λ is. omega (arith, is))) in
    record { front = []; back = links_of f a; without = λ i. slot_of f (none i) ++ links_of f a; with_it = λ i. slot_of f (some i) ++ rest i }
one_more f x (s ∷ a) (t ∷ b) (suc key) none some others =
    let first : t ≡ s = others 0 (λ is. omega (arith, is)) in
    let later = one_more f x a b key none some (λ k differs. others (suc k) (λ is. differs (omega (arith, is)))) in
    record {
      front = slot_of f s ++ later.front;
      back = later.back;
      without = ap (λ l. slot_of f s ++ l) later.without ∙ sym (append_assoc (slot_of f s) later.front later.back);
      with_it = (λ i. slot_of f (first i) ++ later.with_it i) ∙ sym (append_assoc (slot_of f s) later.front (f x ∷ later.back));
    }

-- a value came under a key that had none
pub came : {T U : Type 0} (f : T → U) (x : T) (old new : Slab T) (key : ℕ) → get old key ≡ None → Updates old new key (Some x) → Between f x old.slots new.slots
came f x old new key none updates = one_more f x old.slots new.slots key none updates.changed updates.others

-- a value was taken away
pub went : {T U : Type 0} (f : T → U) (x : T) (old new : Slab T) (key : ℕ) → get old key ≡ Some x → Updates old new key None → Between f x new.slots old.slots
went f x old new key some updates = one_more f x new.slots old.slots key updates.changed some (λ k differs. sym (updates.others k differs))

-- ---- how many there are

one_link : {T U : Type 0} (f : T → U) (s : Option T) (more : List (Option T)) → length (links_of f (s ∷ more)) ≡ cond (is_some s) (1 + length (links_of f more)) (length (links_of f more))
one_link f None more = refl
one_link f (Some x) more =
    let one : length (f x ∷ links_of f more) ≡ 1 + length (links_of f more) = omega arith in
    one

pub count_links : {T U : Type 0} (f : T → U) (slots : List (Option T)) → length (links_of f slots) ≡ count_by is_some slots
count_links f slots = is_count_by (λ xs. length (links_of f xs)) is_some refl (one_link f) slots

-- ---- the links that are left

-- no link is below this key
abbrev pub NoneBelow : {T : Type 0} → Slab T → ℕ → Type 0
NoneBelow {T} s key = (k : ℕ) → k < key → get s k ≡ None

pub none_next : {T : Type 0} (old new : Slab T) (key : ℕ) → Updates old new key None → NoneBelow old key → NoneBelow new (key + 1)
none_next old new key updates below = λ k less. vacant_after_removal old new key k updates (λ differs. below k (omega (arith, less, differs)))

pub none_at_all : {T U : Type 0} (f : T → U) (s : Slab T) (number capacity : ℕ) → NoneBelow s number → length s.slots ≤ capacity → capacity ≤ number → links_of f s.slots ≡ []
none_at_all f s number capacity below within past = none_left f s.slots (λ k. ⊎_elim (λ (less : k < capacity). below k (omega (arith, less, past))) (λ (above : capacity ≤ k). get_or_past s.slots k None (omega (arith, above, within))) (cases_lt k capacity))
