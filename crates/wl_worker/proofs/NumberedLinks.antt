-- Laws of numbered links: one comes, is taken out and put back, gains rounds, and is finished.
use Rattle.std.specs.Prelude.{◌≡◌, ◌⊎◌, ℕ, ◌+◌, ◌==◌, ◌≤◌, false, List, [], ◌∷◌, ◌++◌}
use Rattle.std.specs.List.{AllByRecursion}
use Rattle.std.proofs.Common.{arith, refl, sym, ◌∙◌, ap, subst, ⊎_elim}
use Rattle.std.proofs.lemmas.Bool.Decides.{nat_tests}
use Rattle.list_laws.proofs.Elements.{all_such, all_append}
use Rattle.wl_worker.proofs.Common.{owned_by, tag, one_apart}
use Rattle.wl_worker.specs.Numbering.{Numbered, none_apart}
use Rattle.wl_worker.proofs.Owners.{owned_append, own_tag, other_tag, tally_append, tally_mid, own_once, apart, each_other}

-- ---- rounds at the front, where the newest stand

pub own_front : {A : Type 0} (k : ℕ) (ys : List A) (xs : List (ℕ × A)) → owned_by k (tag k ys ++ xs) ≡ ys ++ owned_by k xs
own_front k ys xs = owned_append k (tag k ys) xs ∙ ap (λ l. l ++ owned_by k xs) (own_tag k ys)

pub other_front : {A : Type 0} (k j : ℕ) (ys : List A) (xs : List (ℕ × A)) → (k == j) ≡ false → owned_by j (tag k ys ++ xs) ≡ owned_by j xs
other_front k j ys xs is = owned_append j (tag k ys) xs ∙ ap (λ l. l ++ owned_by j xs) (other_tag k j ys is)

turned : (k j : ℕ) → (k == j) ≡ false → (j == k) ≡ false
turned k j is = grind (arith, nat_tests, is)

-- ---- numbers

one_or_none : (o k : ℕ) → (one_apart o k ≡ 0) ⊎ ((o ≡ k) × (one_apart o k ≡ 1))
one_or_none o k = grind (arith, nat_tests)

not_next : (next k : ℕ) → next + 1 ≤ k → one_apart next k ≡ 0
not_next next k above = grind (arith, nat_tests, above)

-- ---- all links

each_without : {A : Type 0} (P : A → Type 0) (front back : List A) (x : A) → AllByRecursion P (front ++ x ∷ back) → AllByRecursion P (front ++ back) × P x
each_without P [] back x all = (all.1, all.0)
each_without P (y ∷ front) back x all = let rest = each_without P front back x all.1 in ((all.0, rest.0), rest.1)

each_with : {A : Type 0} (P : A → Type 0) (front back : List A) (x : A) → AllByRecursion P (front ++ back) → P x → AllByRecursion P (front ++ x ∷ back)
each_with P [] back x all one = (one, all)
each_with P (y ∷ front) back x all one = (all.0, each_with P front back x all.1 one)

-- ---- steps

-- before any link came
pub none_numbered : {U F R : Type 0} (runs : ℕ → U → List R → Type 0) (full late : ℕ → F → List R → Type 0) (next : ℕ) → Numbered runs full late none_apart [] [] [] [] next
none_numbered runs full late next = record { once = λ k. omega arith; fresh = λ k above. refl; owners = λ k none. refl; each_running = tt; each_full = tt; each_late = tt }

-- a link comes, and no round is its own
pub comes : {U F R : Type 0} (runs : ℕ → U → List R → Type 0) (full late : ℕ → F → List R → Type 0) (running : List (ℕ × U)) (fulls lates : List (ℕ × F)) (rounds : List (ℕ × R)) (next : ℕ) →
    Numbered runs full late none_apart running fulls lates rounds next → Numbered runs full late (one_apart next) running fulls lates rounds (next + 1) × (owned_by next rounds ≡ [])
comes {U} {F} {R} runs full late running fulls lates rounds next n = (
  record {
    once = λ k.
        ⊎_elim
        (λ (other : one_apart next k ≡ 0). omega (arith, other, n.once k))
        (λ (here : (next ≡ k) × (one_apart next k ≡ 1)). omega (arith, here.1, n.fresh k (omega (arith, here.0))))
        (one_or_none next k);
    fresh = λ k above. omega (arith, not_next next k above, n.fresh k (omega (arith, above)));
    owners = λ k none. n.owners k (omega (arith, none));
    each_running = n.each_running;
    each_full = n.each_full;
    each_late = n.each_late;
  },
  n.owners next (n.fresh next (omega arith)),
)

-- a link is taken out
pub taken : {U F R : Type 0} (runs : ℕ → U → List R → Type 0) (full late : ℕ → F → List R → Type 0) (front back : List (ℕ × U)) (o : ℕ) (x : U) (fulls lates : List (ℕ × F)) (rounds : List (ℕ × R)) (next : ℕ) →
    Numbered runs full late none_apart (front ++ (o, x) ∷ back) fulls lates rounds next → Numbered runs full late (one_apart o) (front ++ back) fulls lates rounds next × runs o x (owned_by o rounds)
taken {U} {F} {R} runs full late front back o x fulls lates rounds next n =
    let parts = each_without (λ (u : ℕ × U). runs u.0 u.1 (owned_by u.0 rounds)) front back (o, x) n.each_running in (
      record {
        once = λ k. omega (arith, n.once k, tally_mid k o x front back);
        fresh = λ k above. omega (arith, n.fresh k above, tally_mid k o x front back);
        owners = λ k none. n.owners k (omega (arith, none, tally_mid k o x front back));
        each_running = parts.0;
        each_full = n.each_full;
        each_late = n.each_late;
      },
      parts.1,
    )

-- it is put back, wherever it comes to stand
pub put : {U F R : Type 0} (runs : ℕ → U → List R → Type 0) (full late : ℕ → F → List R → Type 0) (front back : List (ℕ × U)) (o : ℕ) (x : U) (fulls lates : List (ℕ × F)) (rounds : List (ℕ × R)) (next : ℕ) →
    Numbered runs full late (one_apart o) (front ++ back) fulls lates rounds next → runs o x (owned_by o rounds) → Numbered runs full late none_apart (front ++ (o, x) ∷ back) fulls lates rounds next
put {U} {F} {R} runs full late front back o x fulls lates rounds next n stands =
    record {
      once = λ k. omega (arith, n.once k, tally_mid k o x front back);
      fresh = λ k above. omega (arith, n.fresh k above, tally_mid k o x front back);
      owners = λ k none. n.owners k (omega (arith, none, tally_mid k o x front back));
      each_running = each_with (λ (u : ℕ × U). runs u.0 u.1 (owned_by u.0 rounds)) front back (o, x) n.each_running stands;
      each_full = n.each_full;
      each_late = n.each_late;
    }

-- the link that is held apart gains rounds; the others keep theirs
pub gains : {U F R : Type 0} (runs : ℕ → U → List R → Type 0) (full late : ℕ → F → List R → Type 0) (running : List (ℕ × U)) (fulls lates : List (ℕ × F)) (rounds : List (ℕ × R)) (next o : ℕ) (added : List R) →
    Numbered runs full late (one_apart o) running fulls lates rounds next → Numbered runs full late (one_apart o) running fulls lates (tag o added ++ rounds) next
gains {U} {F} {R} runs full late running fulls lates rounds next o added n =
    let alone = n.once o in
    let one = own_once o in
    record {
      once = n.once;
      fresh = n.fresh;
      owners = λ k none. other_front o k added rounds (apart o k (omega (arith, none))) ∙ n.owners k none;
      each_running = each_other {P = λ (x : ℕ × U). runs x.0 x.1 (owned_by x.0 rounds)} {Q = λ (x : ℕ × U). runs x.0 x.1 (owned_by x.0 (tag o added ++ rounds))} o running (omega (arith, alone, one)) (λ (u : ℕ × U) other runs_on. subst (λ (past : List R). runs u.0 u.1 past) (sym (other_front o u.0 added rounds (turned u.0 o other))) runs_on) n.each_running;
      each_full = each_other {P = λ (x : ℕ × F). full x.0 x.1 (owned_by x.0 rounds)} {Q = λ (x : ℕ × F). full x.0 x.1 (owned_by x.0 (tag o added ++ rounds))} o fulls (omega (arith, alone, one)) (λ (f : ℕ × F) other is_full. subst (λ (past : List R). full f.0 f.1 past) (sym (other_front o f.0 added rounds (turned f.0 o other))) is_full) n.each_full;
      each_late = each_other {P = λ (x : ℕ × F). late x.0 x.1 (owned_by x.0 rounds)} {Q = λ (x : ℕ × F). late x.0 x.1 (owned_by x.0 (tag o added ++ rounds))} o lates (omega (arith, alone, one)) (λ (f : ℕ × F) other is_late. subst (λ (past : List R). late f.0 f.1 past) (sym (other_front o f.0 added rounds (turned f.0 o other))) is_late) n.each_late;
    }

-- it was over, and is finished
pub finishes : {U F R : Type 0} (runs : ℕ → U → List R → Type 0) (full late : ℕ → F → List R → Type 0) (running : List (ℕ × U)) (fulls lates : List (ℕ × F)) (rounds : List (ℕ × R)) (next o : ℕ) (f : F) →
    Numbered runs full late (one_apart o) running fulls lates rounds next → full o f (owned_by o rounds) → Numbered runs full late none_apart running (fulls ++ (o, f) ∷ []) lates rounds next
finishes {U} {F} {R} runs full late running fulls lates rounds next o f n is =
    record {
      once = λ k. omega (arith, n.once k, tally_append k fulls ((o, f) ∷ []));
      fresh = λ k above. omega (arith, n.fresh k above, tally_append k fulls ((o, f) ∷ []));
      owners = λ k none. n.owners k (omega (arith, none, tally_append k fulls ((o, f) ∷ [])));
      each_running = n.each_running;
      each_full = all_append (λ (g : ℕ × F). full g.0 g.1 (owned_by g.0 rounds)) fulls ((o, f) ∷ []) n.each_full (is, tt);
      each_late = n.each_late;
    }

-- it is finished as it stands
pub breaks : {U F R : Type 0} (runs : ℕ → U → List R → Type 0) (full late : ℕ → F → List R → Type 0) (running : List (ℕ × U)) (fulls lates : List (ℕ × F)) (rounds : List (ℕ × R)) (next o : ℕ) (f : F) →
    Numbered runs full late (one_apart o) running fulls lates rounds next → late o f (owned_by o rounds) → Numbered runs full late none_apart running fulls (lates ++ (o, f) ∷ []) rounds next
breaks {U} {F} {R} runs full late running fulls lates rounds next o f n is =
    record {
      once = λ k. omega (arith, n.once k, tally_append k lates ((o, f) ∷ []));
      fresh = λ k above. omega (arith, n.fresh k above, tally_append k lates ((o, f) ∷ []));
      owners = λ k none. n.owners k (omega (arith, none, tally_append k lates ((o, f) ∷ [])));
      each_running = n.each_running;
      each_full = n.each_full;
      each_late = all_append (λ (g : ℕ × F). late g.0 g.1 (owned_by g.0 rounds)) lates ((o, f) ∷ []) n.each_late (is, tt);
    }

-- what holds of each link may follow from something else
pub weaken : {U F R : Type 0} (runs runs_then : ℕ → U → List R → Type 0) (full full_then late late_then : ℕ → F → List R → Type 0) (aside : ℕ → ℕ) (running : List (ℕ × U)) (fulls lates : List (ℕ × F)) (rounds : List (ℕ × R)) (next : ℕ) →
    ((k : ℕ) (u : U) (past : List R) → runs k u past → runs_then k u past) → ((k : ℕ) (f : F) (past : List R) → full k f past → full_then k f past) → ((k : ℕ) (f : F) (past : List R) → late k f past → late_then k f past) →
    Numbered runs full late aside running fulls lates rounds next → Numbered runs_then full_then late_then aside running fulls lates rounds next
weaken {U} {F} {R} runs runs_then full full_then late late_then aside running fulls lates rounds next a b c n =
    record {
      once = n.once;
      fresh = n.fresh;
      owners = n.owners;
      each_running = all_such (λ (u : ℕ × U). runs u.0 u.1 (owned_by u.0 rounds)) (λ (u : ℕ × U). runs_then u.0 u.1 (owned_by u.0 rounds)) running (λ (u : ℕ × U) runs_on. a u.0 u.1 (owned_by u.0 rounds) runs_on) n.each_running;
      each_full = all_such (λ (f : ℕ × F). full f.0 f.1 (owned_by f.0 rounds)) (λ (f : ℕ × F). full_then f.0 f.1 (owned_by f.0 rounds)) fulls (λ (f : ℕ × F) is. b f.0 f.1 (owned_by f.0 rounds) is) n.each_full;
      each_late = all_such (λ (f : ℕ × F). late f.0 f.1 (owned_by f.0 rounds)) (λ (f : ℕ × F). late_then f.0 f.1 (owned_by f.0 rounds)) lates (λ (f : ℕ × F) is. c f.0 f.1 (owned_by f.0 rounds) is) n.each_late;
    }
