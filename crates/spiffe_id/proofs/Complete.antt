-- A text of the grammar has no fault, and its parts are those of the grammar.
use Rattle.std.proofs.Common.{ℕ, ◌≡◌, ◌≢◌, ◌==◌, ◌+◌, ◌≤◌, Bool, true, false, not, ◌&&◌, nat_lt, cond, List, [], ◌∷◌, ◌++◌, length, take, drop, codes, Some, None, refl, sym, ap, ◌∙◌, arith}
use Rattle.std.specs.List.{position, position_or_len, list_all, AllByRecursion, onto_first}
use Rattle.std.proofs.lemmas.Bool.{le-ltb, eqb-true, true≢false, false_from_ne_true}
use Rattle.std.proofs.Math.Seq.{drop-append_seam}
use Rattle.spiffe_id.specs.declared.finding.TheConstants.{MAX_DOMAIN_LEN, MAX_ID_LEN}
use Rattle.spiffe_id.specs.Grammar.{is_domain_byte, is_path_byte, IsDomain, IsSegment, path_of, IsIdOf, IsId}
use Rattle.spiffe_id.specs.Faults.{domain_fault, is_dots, segment_fault, segments_fault, pieces, id_fault, id_domain, id_path, first_or_empty}

both_true : (a b : Bool) → (a && b) ≡ true → (a ≡ true) × (b ≡ true)
both_true true b h = (refl, h)
both_true false b h = absurd (true≢false (sym h))

-- ---- bytes

module _ (p : ℕ → Bool) where
  pass_all : (xs : List ℕ) → list_all p xs ≡ true → position_or_len (λ y. not (p y)) xs ≡ length xs
  pass_all [] h = refl
  pass_all (x ∷ xs) h =
      let both = both_true (p x) (list_all p xs) h in
      ap (λ (b : Bool). cond (not (not b)) (1 + position_or_len (λ y. not (p y)) xs) 0) both.0 ∙ (omega (arith, pass_all xs both.1))

  none_of : (n m : ℕ) → n ≡ m → cond (nat_lt n m) (Some n) None ≡ None
  none_of n m e = ap (λ (b : Bool). cond b (Some n) None) (le-ltb n m (omega (arith, e)))

  pub no_wrong : (xs : List ℕ) → list_all p xs ≡ true → position (λ y. not (p y)) xs ≡ None
  no_wrong xs h = none_of _ _ (pass_all xs h)

no_zero : (n : ℕ) → 1 ≤ n → (n == 0) ≡ false
no_zero n h = false_from_ne_true _ (λ e. omega (arith, h, eqb-true n 0 e))

-- ---- names and segments

pub domain_complete : (at : ℕ) (name : List ℕ) → IsDomain name → domain_fault at name ≡ None
unfolding domain_fault
domain_complete at name d =
    rw (no_zero _ d.least, le-ltb MAX_DOMAIN_LEN (length name) d.most, no_wrong is_domain_byte name d.bytes) refl

dots_one : (a : ℕ) → (a == 46) ≡ true → (a ∷ []) ≡ codes "."
dots_one a h = ap (λ (b : ℕ). b ∷ []) (eqb-true a 46 h)

dots_two : (a b : ℕ) → ((a == 46) && (b == 46)) ≡ true → (a ∷ b ∷ []) ≡ codes ".."
dots_two a b h =
    let both = both_true (a == 46) (b == 46) h in
    λ i. eqb-true a 46 both.0 i ∷ eqb-true b 46 both.1 i ∷ []

not_dots : (s : List ℕ) → (s ≢ codes ".") → (s ≢ codes "..") → is_dots s ≡ false
not_dots [] one two = refl
not_dots (a ∷ []) one two = false_from_ne_true _ (λ e. one (dots_one a e))
not_dots (a ∷ b ∷ []) one two = false_from_ne_true _ (λ e. two (dots_two a b e))
not_dots (a ∷ b ∷ c ∷ more) one two = refl

segment_complete : (at : ℕ) (s : List ℕ) → IsSegment s → segment_fault at s ≡ None
unfolding segment_fault
segment_complete at s d =
    rw (no_zero _ d.least, no_wrong is_path_byte s d.bytes, not_dots s d.one d.two) refl

segments_complete : (at : ℕ) (ss : List (List ℕ)) → AllByRecursion IsSegment ss → segments_fault at ss ≡ None
segments_complete at [] h = refl
segments_complete at (s ∷ ss) h = rw (segment_complete at s h.0) (segments_complete (at + 1 + length s) ss h.1)

-- ---- pieces of a path

module _ (p : ℕ → Bool) (clean : (b : ℕ) → p b ≡ true → (b == 47) ≡ false) where
  pub split_clean : (xs rest : List ℕ) (parts : List (List ℕ)) → list_all p xs ≡ true → pieces rest ≡ [] ∷ parts → pieces (xs ++ rest) ≡ xs ∷ parts
  split_clean [] rest parts h e = e
  split_clean (x ∷ xs) rest parts h e =
      let both = both_true (p x) (list_all p xs) h in
      ap (λ (b : Bool). cond b ([] ∷ pieces (xs ++ rest)) (onto_first x (pieces (xs ++ rest)))) (clean x both.0) ∙ ap (onto_first x) (split_clean xs rest parts both.1 e)

slash_in_segment : is_path_byte 47 ≡ false
slash_in_segment = refl

slash_in_name : is_domain_byte 47 ≡ false
slash_in_name = refl

clean_segment : (b : ℕ) → is_path_byte b ≡ true → (b == 47) ≡ false
clean_segment b h = false_from_ne_true _ (λ e. true≢false (sym h ∙ ap is_path_byte (eqb-true b 47 e) ∙ slash_in_segment))

clean_name : (b : ℕ) → is_domain_byte b ≡ true → (b == 47) ≡ false
clean_name b h = false_from_ne_true _ (λ e. true≢false (sym h ∙ ap is_domain_byte (eqb-true b 47 e) ∙ slash_in_name))

path_pieces : (ss : List (List ℕ)) → AllByRecursion IsSegment ss → pieces (path_of ss) ≡ [] ∷ ss
path_pieces [] h = refl
path_pieces (s ∷ ss) h = ap (λ (parts : List (List ℕ)). [] ∷ parts) (split_clean is_path_byte clean_segment s (path_of ss) ss h.0.bytes (path_pieces ss h.1))

module _ (name : List ℕ) (segments : List (List ℕ)) (text : List ℕ) (is : IsIdOf name segments text) where
  behind : drop 9 text ≡ name ++ path_of segments
  behind = ap (drop 9) is.spelled

  cut_up : pieces (drop 9 text) ≡ name ∷ segments
  cut_up = ap pieces behind ∙ split_clean is_domain_byte clean_name name (path_of segments) segments is.named.bytes (path_pieces segments is.parted)

  pub domain_is : id_domain text ≡ name
  unfolding id_domain
  domain_is = ap first_or_empty cut_up

  pub path_is : id_path text ≡ path_of segments
  unfolding id_path
  path_is = rw (domain_is, behind) (drop-append_seam name (path_of segments))

  pub fault_is_none : id_fault text ≡ None
  unfolding id_fault
  fault_is_none =
      rw (le-ltb MAX_ID_LEN (length text) is.most, ap (take 9) is.spelled, cut_up, domain_complete 9 name is.named) (segments_complete _ segments is.parted)

pub id_complete : (text : List ℕ) → IsId text → id_fault text ≡ None
id_complete text is = fault_is_none is.0 is.1 text is.2
