-- Parts that are copied one after the other.
use Rattle.std.proofs.Common.{◌≡◌, ◌⊎◌, inl, inr, ℕ, ◌+◌, ◌-◌, ◌<◌, ◌≤◌, List, [], ◌++◌, length, take, drop, min, refl, sym, ap, ◌∙◌, arith, append-nil, length-append}
use Rattle.std.proofs.lemmas.Bool.{cases_lt}
use Rattle.std.proofs.lemmas.List.{drop-append-le, take-append-le, take_all, drop_all, length-drop}
use Rattle.std.proofs.Math.Nat.{min-le_left, min-le_right, le-min}
use Rattle.std.proofs.Math.Seq.{drop-append-add, take-append-add}

pub low : (a b : ℕ) → a ≤ b → min a b ≡ a
low a b le =
    let one = min-le_left a b in
    let two : a ≤ min a b = le-min (omega arith) le in
    omega (arith, one, two)

high : (a b : ℕ) → b ≤ a → min a b ≡ b
high a b le =
    let one = min-le_right a b in
    let two : b ≤ min a b = le-min le (omega arith) in
    omega (arith, one, two)

-- what passes over more than there is passes over all
pub passed_over : (n : ℕ) (xs : List ℕ) → drop (min n (length xs)) xs ≡ drop n xs
passed_over n xs = go (cases_lt n (length xs))
  where
    go : (n < length xs) ⊎ (length xs ≤ n) → drop (min n (length xs)) xs ≡ drop n xs
    go (inl less) = ap (λ k. drop k xs) (low n (length xs) (omega (arith, less)))
    go (inr le) = ap (λ k. drop k xs) (high n (length xs) le) ∙ drop_all (length xs) xs (omega arith) ∙ sym (drop_all n xs le)

-- after these parts, of which the bytes before the start are passed over, so many were copied
pub record Copied (start room : ℕ) (done : List ℕ) (skipped count : ℕ) (into : List ℕ) : Type 0 where
  pub passed : skipped ≡ start - length done
  pub counted : count ≡ min (length done - start) room
  pub long : length into ≡ room
  pub bytes : take count into ≡ take count (drop start done)

-- nothing was copied before the first part
pub none_copied : (start room : ℕ) (into : List ℕ) → length into ≡ room → Copied start room [] start 0 into
none_copied start room into long = record {
  passed = omega arith;
  counted = sym (low (0 - start) room (omega arith) ∙ omega arith);
  long = long;
  bytes = refl;
}

-- the bytes of a part that are wanted, after those that were copied
wanted : (start room : ℕ) (done part : List ℕ) (skipped count more : ℕ) → skipped ≡ start - length done → count ≡ min (length done - start) room → more ≤ room - count
    → take count (drop start done) ++ take more (drop skipped part) ≡ take (count + more) (drop start (done ++ part))
wanted start room done part skipped count more passed counted fits = by (cases_lt start (length done))
  where
    rest : List ℕ
    rest = drop start done

    inside : start < length done → drop start (done ++ part) ≡ rest ++ drop skipped part
    inside less =
        let none : skipped ≡ 0 = omega (arith, passed, less) in
        drop-append-le start done part (omega (arith, less)) ∙ ap (λ k. rest ++ drop k part) (sym none)

    fills : start < length done → (room < length rest) ⊎ (length rest ≤ room) → take count rest ++ take more (drop skipped part) ≡ take (count + more) (rest ++ drop skipped part)
    fills less (inl long) =
        let all : count ≡ room = counted ∙ high (length done - start) room (omega (arith, length-drop start done, long)) in
        let none : more ≡ 0 = omega (arith, fits, all) in
        let same : count ≡ count + more = omega (arith, none) in
        ap (λ k. take count rest ++ take k (drop skipped part)) none ∙ append-nil (take count rest) ∙ sym (take-append-le count rest (drop skipped part) (omega (arith, long, all))) ∙ ap (λ k. take k (rest ++ drop skipped part)) same
    fills less (inr short) =
        let all : count ≡ length rest = counted ∙ low (length done - start) room (omega (arith, length-drop start done, short)) ∙ sym (length-drop start done) in
        ap (λ xs. xs ++ take more (drop skipped part)) (take_all count rest (omega (arith, all))) ∙ sym (ap (λ k. take (k + more) (rest ++ drop skipped part)) all ∙ take-append-add rest (drop skipped part) more)

    by : (start < length done) ⊎ (length done ≤ start) → take count (drop start done) ++ take more (drop skipped part) ≡ take (count + more) (drop start (done ++ part))
    by (inl less) = fills less (cases_lt room (length rest)) ∙ ap (λ xs. take (count + more) xs) (sym (inside less))
    by (inr le) =
        let none : count ≡ 0 = counted ∙ low (length done - start) room (omega (arith, le)) ∙ omega (arith, le) in
        let at : start ≡ length done + skipped = omega (arith, passed, le) in
        let same : more ≡ count + more = omega (arith, none) in
        ap (λ k. take k (drop start done) ++ take more (drop skipped part)) none ∙ ap (λ k. take k (drop skipped part)) same
        ∙ ap (λ xs. take (count + more) xs) (sym (ap (λ k. drop k (done ++ part)) at ∙ drop-append-add done part skipped))

-- how many were copied after the part
count_more : (start room : ℕ) (done part : List ℕ) (skipped count : ℕ) → skipped ≡ start - length done → count ≡ min (length done - start) room
    → count + min (length part - skipped) (room - count) ≡ min (length (done ++ part) - start) room
count_more start room done part skipped count passed counted = by (cases_lt room (length done - start)) (cases_lt (room - count) (length part - skipped))
  where
    long : length (done ++ part) ≡ length done + length part
    long = length-append done part

    by : (room < length done - start) ⊎ (length done - start ≤ room) → (room - count < length part - skipped) ⊎ (length part - skipped ≤ room - count)
        → count + min (length part - skipped) (room - count) ≡ min (length (done ++ part) - start) room
    by (inl full) q =
        let all : count ≡ room = counted ∙ high (length done - start) room (omega (arith, full)) in
        let none : min (length part - skipped) (room - count) ≡ room - count = high _ _ (omega (arith, all)) in
        omega (arith, none, all, high (length (done ++ part) - start) room (omega (arith, long, full)))
    by (inr free) (inl more) =
        let all : count ≡ length done - start = counted ∙ low (length done - start) room free in
        let step : min (length part - skipped) (room - count) ≡ room - count = high _ _ (omega (arith, more)) in
        omega (arith, step, all, free, passed, high (length (done ++ part) - start) room (omega (arith, long, more, all, passed, free)))
    by (inr free) (inr less) =
        let all : count ≡ length done - start = counted ∙ low (length done - start) room free in
        let step : min (length part - skipped) (room - count) ≡ length part - skipped = low _ _ less in
        omega (arith, step, all, free, passed, long, low (length (done ++ part) - start) room (omega (arith, long, less, all, passed, free)))

-- one part more
pub one_more : (start room : ℕ) (done part : List ℕ) (skipped count after now : ℕ) (into new : List ℕ) → Copied start room done skipped count into
    → after ≡ skipped - length part → now ≡ count + min (length part - skipped) (length into - count) → length new ≡ length into
    → take now new ≡ take count into ++ take (now - count) (drop skipped part)
    → Copied start room (done ++ part) after now new
one_more start room done part skipped count after now into new so is counts same copies =
    let grown : now ≡ count + min (length part - skipped) (room - count) = counts ∙ ap (λ k. count + min (length part - skipped) (k - count)) so.long in
    let fits : now - count ≤ room - count = omega (arith, grown, min-le_right (length part - skipped) (room - count)) in
    let sum : count + (now - count) ≡ now = omega (arith, grown) in
    record {
      passed = omega (arith, is, so.passed, length-append done part);
      counted = grown ∙ count_more start room done part skipped count so.passed so.counted;
      long = same ∙ so.long;
      bytes = copies ∙ ap (λ xs. xs ++ take (now - count) (drop skipped part)) so.bytes ∙ wanted start room done part skipped count (now - count) so.passed so.counted fits ∙ ap (λ k. take k (drop start (done ++ part))) sum;
    }

-- a copy after those of before
pub after_front : (front free into bytes : List ℕ) (skipped count more passed : ℕ) {rest : List ℕ} → front ≡ take count into → length front ≡ count → take more free ≡ take more rest → rest ≡ drop passed bytes → passed ≡ min skipped (length bytes)
    → take (count + more) (front ++ free) ≡ take count into ++ take (count + more - count) (drop skipped bytes)
after_front front free into bytes skipped count more passed {rest} is long same left at =
    let sum : count + more - count ≡ more = omega arith in
    ap (λ k. take (k + more) (front ++ free)) (sym long) ∙ take-append-add front free more
    ∙ ap (λ xs. xs ++ take more free) is
    ∙ ap (λ xs. take count into ++ xs) (same ∙ ap (λ xs. take more xs) (left ∙ ap (λ k. drop k bytes) at ∙ passed_over skipped bytes) ∙ ap (λ k. take k (drop skipped bytes)) (sym sum))

-- what was copied once there is no more room
pub filled : (start room : ℕ) (done rest : List ℕ) (skipped count : ℕ) (into : List ℕ) → Copied start room done skipped count into → count ≡ length into → count ≡ min (length (done ++ rest) - start) room
filled start room done rest skipped count into so full =
    let all : count ≡ room = full ∙ so.long in
    let much : room ≤ length done - start = omega (arith, all, so.counted, min-le_left (length done - start) room) in
    all ∙ sym (high (length (done ++ rest) - start) room (omega (arith, much, length-append done rest)))

pub filled_bytes : (start room : ℕ) (done rest : List ℕ) (skipped count : ℕ) (into : List ℕ) → Copied start room done skipped count into → take count into ≡ take count (drop start (done ++ rest))
filled_bytes start room done rest skipped count into so =
    let none : take count (drop start done) ≡ take count (drop start done) ++ take 0 (drop skipped rest) = sym (append-nil (take count (drop start done))) in
    let sum : count + 0 ≡ count = omega arith in
    so.bytes ∙ none ∙ wanted start room done rest skipped count 0 so.passed so.counted (omega arith) ∙ ap (λ k. take k (drop start (done ++ rest))) sum
