-- Tallies of what is read in parts.
use Rattle.std.proofs.Common.{◌≡◌, ℕ, zero, suc, ◌+◌, ◌<◌, ◌≤◌, ◌==◌, Bool, true, false, cond, nat_lt, nat_le, List, [], ◌∷◌, ◌++◌, length, slice_index, Result, Ok, Err, refl, sym, ap, ◌∙◌, arith}
use Rattle.std.proofs.lemmas.Bool.Decides.{nat_tests}
use Rattle.wl_x509.proofs.Common.{CertFault, Extra, ManyUris, Span, ◌>>=◌, value_at, part_at, then_end, names_in, extension_at, extensions_in, one_uri}
use Rattle.wl_x509.specs.declared.names.Uris.{Uris}
use Rattle.wl_x509.specs.Tallies.{no_uris, met, tally, tallied, ended, chosen, IsMet}

end_by : (b : Bool) (f : Uris) (us : List Span) (at : ℕ) → tallied f (cond b (Err (Extra at)) (Ok us)) ≡ cond b (Err (Extra at)) (Ok (tally f us))
end_by true f us at = refl
end_by false f us at = refl

-- nothing may follow, before or after the URIs are counted
pub tallied_end : (f : Uris) (r : Result (List Span) CertFault) (at end : ℕ) → ended (tallied f r) at end ≡ tallied f (r >>= λ uris. then_end at end uris)
tallied_end f (Ok us) at end = sym (end_by (nat_lt at end) f us at)
tallied_end f (Err e) at end = refl

-- a fault is the same, before or after the URIs are counted
pub tallied_err : (f : Uris) (r : Result (List Span) CertFault) (e : CertFault) → tallied f r ≡ Err e → r ≡ Err e
tallied_err f (Ok us) e h = cc
tallied_err f (Err d) e h = cc

-- ---- names

not_past : (end at : ℕ) → at < end → nat_le end at ≡ false
not_past end at h = grind (arith, nat_tests)

past : (end at : ℕ) → end ≤ at → nat_le end at ≡ true
past end at h = grind (arith, nat_tests)

equal_test : (n m : ℕ) → n ≡ m → (n == m) ≡ true
equal_test n m h = grind (arith, nat_tests)

named : (b : Bool) (f : Uris) (v : Span) (r : Result (List Span) CertFault) → tallied f (r >>= λ later. Ok (cond b (v ∷ later) later)) ≡ tallied (cond b (met f v) f) r
named true f v (Ok us) = refl
named true f v (Err e) = refl
named false f v (Ok us) = refl
named false f v (Err e) = refl

-- the names from a place on are the one there and those after it
pub names_step : (bytes : List ℕ) (at end k : ℕ) (f : Uris) (v : Span) → at < end → end ≤ at + k → at < v.next → value_at bytes at end ≡ Ok v → slice_index bytes at ≡ 134 →
    (j : ℕ) × (end ≤ v.next + j) × (tallied (met f v) (names_in j bytes v.next end) ≡ tallied f (names_in k bytes at end))
names_step bytes at end zero f v lt le up is uri = absurd (omega arith)
names_step bytes at end (suc j) f v lt le up is uri = (j, omega arith, sym (rw (not_past end at lt, is) (rw (equal_test (slice_index bytes at) 134 uri) (named true f v (names_in j bytes v.next end)))))

pub names_fault : (bytes : List ℕ) (at end k : ℕ) (f : Uris) (e : CertFault) → at < end → end ≤ at + k → value_at bytes at end ≡ Err e → tallied f (names_in k bytes at end) ≡ Err e
names_fault bytes at end zero f e lt le is = absurd (omega arith)
names_fault bytes at end (suc j) f e lt le is = rw (not_past end at lt, is) refl

pub names_end : (bytes : List ℕ) (at end k : ℕ) (f : Uris) → end ≤ at → tallied f (names_in k bytes at end) ≡ Ok f
names_end bytes at end zero f le = refl
names_end bytes at end (suc j) f le = rw (past end at le) refl

first_in : (b : Bool) (n : ℕ) (u v : Span) → u.start ≤ u.next → u.next ≤ n → v.start ≤ v.next → v.next ≤ n → ((cond b u v).start ≤ (cond b u v).next) × ((cond b u v).next ≤ n)
first_in true n u v p q r s = (p, q)
first_in false n u v p q r s = (r, s)

pub met_in : (bytes : List ℕ) (at : ℕ) (f : Uris) (v : Span) → IsMet bytes at f → at < v.next → v.start ≤ v.next → v.next ≤ length bytes → IsMet bytes v.next (met f v)
met_in bytes at f v m up le in_bytes =
    let first = first_in (f.count == 0) (length bytes) v f.first le in_bytes m.order m.within in
    record { few = omega (arith, m.few); order = first.0; within = first.1 }

-- ---- extensions

tally-append : (f : Uris) (us vs : List Span) → tally f (us ++ vs) ≡ tally (tally f us) vs
tally-append f [] vs = refl
tally-append f (u ∷ us) vs = tally-append (met f u) us vs

joined : (f g : Uris) (x r : Result (List Span) CertFault) → tallied f x ≡ Ok g → tallied f (x >>= λ uris. r >>= λ later. Ok (uris ++ later)) ≡ tallied g r
joined f g (Err e) r h = cc
joined f g (Ok us) (Err e) h = refl
joined f g (Ok us) (Ok vs) h = let e : tally f us ≡ g = cc in ap Ok (tally-append f us vs ∙ ap (λ (t : Uris). tally t vs) e)

-- the extensions from a place on are the one there and those after it
pub extensions_step : (bytes : List ℕ) (at end k : ℕ) (f g : Uris) (v : Span) → at < end → end ≤ at + k → at < v.next → part_at 48 bytes at end ≡ Ok v → tallied f (extension_at bytes v.start v.next) ≡ Ok g →
    (j : ℕ) × (end ≤ v.next + j) × (tallied g (extensions_in j bytes v.next end) ≡ tallied f (extensions_in k bytes at end))
extensions_step bytes at end zero f g v lt le up is one = absurd (omega arith)
extensions_step bytes at end (suc j) f g v lt le up is one = (j, omega arith, sym (rw (not_past end at lt, is) (joined f g (extension_at bytes v.start v.next) (extensions_in j bytes v.next end) one)))

pub extensions_fault : (bytes : List ℕ) (at end k : ℕ) (f : Uris) (e : CertFault) → at < end → end ≤ at + k → part_at 48 bytes at end ≡ Err e → tallied f (extensions_in k bytes at end) ≡ Err e
extensions_fault bytes at end zero f e lt le is = absurd (omega arith)
extensions_fault bytes at end (suc j) f e lt le is = rw (not_past end at lt, is) refl

pub extension_fault : (bytes : List ℕ) (at end k : ℕ) (f : Uris) (v : Span) (e : CertFault) → at < end → end ≤ at + k → part_at 48 bytes at end ≡ Ok v → tallied f (extension_at bytes v.start v.next) ≡ Err e → tallied f (extensions_in k bytes at end) ≡ Err e
extension_fault bytes at end zero f v e lt le is one = absurd (omega arith)
extension_fault bytes at end (suc j) f v e lt le is one = rw (not_past end at lt, is) (rw (tallied_err f (extension_at bytes v.start v.next) e one) refl)

pub extensions_end : (bytes : List ℕ) (at end k : ℕ) (f : Uris) → end ≤ at → tallied f (extensions_in k bytes at end) ≡ Ok f
extensions_end bytes at end zero f le = refl
extensions_end bytes at end (suc j) f le = rw (past end at le) refl

-- ---- the one URI

tally_counts : (f : Uris) (us : List Span) → (tally f us).count ≡ f.count + length us
tally_counts f [] = omega arith
tally_counts f (u ∷ us) = omega (arith, tally_counts (met f u) us)

above_one : (m : ℕ) → (2 + m == 0) ≡ false
above_one m = grind (arith, nat_tests)

above_two : (m : ℕ) → (2 + m == 1) ≡ false
above_two m = grind (arith, nat_tests)

several : (bytes : List ℕ) (n m : ℕ) (s : Span) → n ≡ 2 + m → chosen bytes (record { count = n; first = s }) ≡ Err (ManyUris (2 + m))
several bytes n m s h = rw h (rw (above_one m, above_two m) refl)

pub chosen_is : (bytes : List ℕ) (us : List Span) → chosen bytes (tally no_uris us) ≡ one_uri bytes us
chosen_is bytes [] = refl
chosen_is bytes (u ∷ []) = refl
chosen_is bytes (u ∷ v ∷ us) = several bytes (tally no_uris (u ∷ v ∷ us)).count (length us) (tally no_uris (u ∷ v ∷ us)).first (tally_counts (met (met no_uris u) v) us)

pub ruleset tally_laws = (tallied_end)
