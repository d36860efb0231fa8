-- The exchange that adds a publication keeps the rule of the book.
use Rattle.std.proofs.Common.{◌≡◌, ℕ, ◌+◌, ◌<◌, ◌==◌, Bool, true, false, List, [], ◌∷◌, ◌++◌, length, refl, ap, sym, subst, arith, inl, length-append, None}
use Rattle.std.proofs.lemmas.List.{append-nil}
use Rattle.std.proofs.lemmas.Bool.Decides.{nat_tests}
use mathlib.Core.List.{IsPrefix}
use prog.Atomic.{either}
use Rattle.logbook.specs.Pages.{Cell, cell, keeps, no_nib, step, Moves, Goes}
use Rattle.wl_snapshot.specs.Snapshots.{Publication}
use Rattle.wl_publish.specs.Books.{IsWritten, Adds}
use Rattle.wl_publish.proofs.Prefixes.{prefix_whole}

abbrev pub shown : List Publication → List Publication
shown list = []

abbrev pub moved : List Publication → List Publication → ℕ → Type 0
moved before after answer = Unit {0}

adds_goes : (list v : List Publication) (p : Publication) (old new : ℕ) → length v ≡ old → new ≡ old + 1 → IsPrefix v list
    → (b : Bool) → (length list == old) ≡ b
    → Goes IsWritten shown moved 0 (v, (no_nib, None)) (λ n. either (n == old) new n) (Adds (step 0 old new p) (v, (no_nib, None))) ((length list, true) ∷ (0, true) ∷ []) list
adds_goes list v p old new len more pre true is =
    let here : length list ≡ old = grind (arith, nat_tests) in
    let same : v ≡ list = prefix_whole v list pre (omega arith) in
    let n : either (length list == old) new (length list) ≡ length (list ++ p ∷ []) = rw is (omega (arith, length-append list (p ∷ []))) in (
      keeps,
      p ∷ [],
      None,
      tt,
      ap (λ (k : ℕ). (k, true) ∷ (0, true) ∷ []) n,
      inl (refl, refl),
      λ found. ap (λ w. w ++ p ∷ []) (sym same),
    )
adds_goes list v p old new len more pre false is =
    let n : either (length list == old) new (length list) ≡ length (list ++ []) = rw is (ap length (sym (append-nil list))) in (
      keeps,
      [],
      None,
      tt,
      ap (λ (k : ℕ). (k, true) ∷ (0, true) ∷ []) n,
      inl (refl, refl),
      λ (found : length list ≡ old). absurd (grind (arith, nat_tests)),
    )

-- whatever the book is, the exchange adds the publication to all that was seen, where it finds the number
pub adds_moves : (v : List Publication) (p : Publication) (old new : ℕ) → length v ≡ old → new ≡ old + 1
    → Moves IsWritten shown moved 0 (v, (no_nib, None)) (λ n. either (n == old) new n) (Adds (step 0 old new p) (v, (no_nib, None)))
adds_moves v p old new len more cs list kept pre away =
    let P : List Cell → Type 0 = λ c. (0 < length c) × ((cell c 0).1 ≡ true) × Goes IsWritten shown moved 0 (v, (no_nib, None)) (λ n. either (n == old) new n) (Adds (step 0 old new p) (v, (no_nib, None))) c list in
    subst P (sym kept) (omega arith, refl, adds_goes list v p old new len more pre (length list == old) refl)
