-- A text without a fault is in the grammar.
use Rattle.std.proofs.Common.{ℕ, ◌≡◌, ◌≢◌, ◌==◌, ◌+◌, ◌≤◌, Bool, true, false, not, ◌&&◌, cond, List, [], ◌∷◌, ◌++◌, length, take, drop, codes, Option, Some, None, refl, sym, ap, ◌∙◌, arith}
use Rattle.std.specs.List.{position, position_or_len, list_all, AllByRecursion, join_with_byte}
use Rattle.std.proofs.lemmas.Bool.{ltb-false, true≢false}
use Rattle.std.proofs.lemmas.List.{append-nil, take-append-drop, length-append}
use Rattle.std.proofs.lemmas.List.Splits.{join_with_byte-slice_split}
use Rattle.std.proofs.lemmas.Option.{none-some}
use Rattle.std.specs.Cmp.Lexicographic.{bytes_decides}
use Rattle.spiffe_id.specs.declared.finding.TheConstants.{MAX_ID_LEN}
use Rattle.spiffe_id.specs.declared.faults.IdFault.{IdFault}
use Rattle.spiffe_id.specs.Grammar.{is_domain_byte, is_path_byte, IsDomain, IsSegment, path_of, IsId}
use Rattle.spiffe_id.specs.Faults.{or_else, domain_byte_fault, domain_fault, path_byte_fault, is_dots, segment_fault, segments_fault, pieces, parts_fault, id_fault}
use Rattle.spiffe_id.proofs.Pieces.{no_some}

-- ---- tests that failed

pub first_none : (a b : Option IdFault) → or_else a b ≡ None → (a ≡ None) × (b ≡ None)
first_none None b h = (refl, h)
first_none (Some e) b h = absurd (none-some e (sym h))

pub past : (a : Bool) (e : IdFault) (o : Option IdFault) → cond a (Some e) o ≡ None → (a ≡ false) × (o ≡ None)
past true e o h = absurd (none-some e (sym h))
past false e o h = (refl, h)

pub not_false : (b : Bool) → not b ≡ false → b ≡ true
not_false true h = refl
not_false false h = absurd (true≢false h)

-- ---- bytes

module _ (p : ℕ → Bool) where
  step : (x : ℕ) (xs : List ℕ) (b : Bool) → length (x ∷ xs) ≤ cond (not (not b)) (1 + position_or_len (λ y. not (p y)) xs) 0 → (length xs ≤ position_or_len (λ y. not (p y)) xs → list_all p xs ≡ true) → (b && list_all p xs) ≡ true
  step x xs true h rest = rest (omega (arith, h))
  step x xs false h rest = absurd (omega (arith, h))

  each : (xs : List ℕ) → length xs ≤ position_or_len (λ y. not (p y)) xs → list_all p xs ≡ true
  each [] h = refl
  each (x ∷ xs) h = step x xs (p x) h (each xs)

  pub all_pass : (xs : List ℕ) → position (λ y. not (p y)) xs ≡ None → list_all p xs ≡ true
  all_pass xs h = each xs (ltb-false _ _ (no_some _ _ h))

no_domain_byte : (at : ℕ) (o : Option ℕ) → domain_byte_fault at o ≡ None → o ≡ None
no_domain_byte at None h = refl
no_domain_byte at (Some i) h = absurd (none-some _ (sym h))

no_path_byte : (at : ℕ) (o : Option ℕ) → path_byte_fault at o ≡ None → o ≡ None
no_path_byte at None h = refl
no_path_byte at (Some i) h = absurd (none-some _ (sym h))

some_bytes : (xs : List ℕ) → (length xs == 0) ≡ false → 1 ≤ length xs
some_bytes [] h = absurd (true≢false h)
some_bytes (x ∷ xs) h = omega arith

-- ---- names and segments

pub domain_sound : (at : ℕ) (name : List ℕ) → domain_fault at name ≡ None → IsDomain name
unfolding domain_fault
domain_sound at name h =
    let one = past _ _ _ h in
    let two = past _ _ _ one.1 in
    record {
      bytes = all_pass is_domain_byte name (no_domain_byte at _ two.1);
      least = some_bytes name one.0;
      most = ltb-false _ _ two.0;
    }

dotted : (s : List ℕ) → is_dots s ≡ false → (s ≢ codes ".") × (s ≢ codes "..")
dotted s h = (λ e. true≢false (sym (ap is_dots e) ∙ h), λ e. true≢false (sym (ap is_dots e) ∙ h))

segment_sound : (at : ℕ) (s : List ℕ) → segment_fault at s ≡ None → IsSegment s
unfolding segment_fault
segment_sound at s h =
    let one = past _ _ _ h in
    let two = first_none _ _ one.1 in
    let dots = dotted s (past _ _ _ two.1).0 in
    record {
      bytes = all_pass is_path_byte s (no_path_byte at _ two.0);
      least = some_bytes s one.0;
      one = dots.0;
      two = dots.1;
    }

segments_sound : (at : ℕ) (ss : List (List ℕ)) → segments_fault at ss ≡ None → AllByRecursion IsSegment ss
segments_sound at [] h = tt
segments_sound at (s ∷ ss) h =
    let both = first_none _ _ h in
    (segment_sound at s both.0, segments_sound (at + 1 + length s) ss both.1)

-- ---- the text of its pieces

rejoined : (name : List ℕ) (ss : List (List ℕ)) → join_with_byte 47 (name ∷ ss) ≡ name ++ path_of ss
rejoined name [] = sym (append-nil name)
rejoined name (s ∷ ss) = ap (λ (l : List ℕ). name ++ 47 ∷ l) (rejoined s ss)

id_of_parts : (text : List ℕ) (parts : List (List ℕ)) → text ≡ codes "spiffe://" ++ join_with_byte 47 parts → parts_fault parts ≡ None → length text ≤ MAX_ID_LEN → IsId text
id_of_parts text [] spelled h most = absurd (none-some _ (sym h))
id_of_parts text (name ∷ ss) spelled h most =
    let both = first_none _ _ h in (
      name,
      ss,
      record {
        spelled = spelled ∙ ap (λ (l : List ℕ). codes "spiffe://" ++ l) (rejoined name ss);
        named = domain_sound 9 name both.0;
        parted = segments_sound (9 + length name) ss both.1;
        most = most;
      },
    )

pub id_sound : (text : List ℕ) → id_fault text ≡ None → IsId text
unfolding id_fault
id_sound text h =
    let one = past _ _ _ h in
    let two = past _ _ _ one.1 in
    let front = (bytes_decides (take 9 text) (codes "spiffe://")).0 (not_false _ two.0) in
    let spelled = sym (take-append-drop 9 text) ∙ ap (λ (l : List ℕ). l ++ drop 9 text) front ∙ ap (λ (l : List ℕ). codes "spiffe://" ++ l) (sym (join_with_byte-slice_split 47 (drop 9 text))) in
    id_of_parts text (pieces (drop 9 text)) spelled two.1 (ltb-false _ _ one.0)

-- the scheme stands in front
pub id_long : (text : List ℕ) → id_fault text ≡ None → 9 ≤ length text
id_long text h =
    let is = id_sound text h in
    omega (arith, ap length is.2.spelled, length-append (codes "spiffe://") (is.0 ++ path_of is.1))
