-- The first piece of an output, and the others.
use Rattle.std.proofs.Common.{◌≡◌, ℕ, ◌+◌, ◌-◌, ◌^◌, ◌<◌, ◌≤◌, List, [], ◌∷◌, ◌++◌, length, take, drop, get_or, min, slice_get, Some, sym, ap, ◌∙◌, arith, suc, append_assoc, append-nil, length-append}
use Rattle.std.specs.List.{flat_map}
use Rattle.std.proofs.lemmas.List.{take_more, take-append-drop}
use Rattle.std.proofs.lemmas.Grind.{flat_map-append}
use Rattle.std.proofs.Math.Seq.{drop-cons, drop-append-add}
use Rattle.std.proofs.lemmas.Option.{slice_get_within, get_or_from_slice_get}
use Rattle.output_parts.specs.declared.piece.Piece.{Piece}
use Rattle.output_parts.specs.Outputs.{piece_bytes, joined}
use Rattle.output_parts.proofs.Copies.{low}

next_piece : (pieces : List Piece) (gone : ℕ) (p : Piece) → slice_get pieces gone ≡ Some p → drop gone pieces ≡ p ∷ drop (gone + 1) pieces
next_piece pieces gone p at =
    let add-one : suc gone ≡ gone + 1 = omega arith in
    drop-cons pieces gone p (slice_get_within pieces gone p at) ∙ ap (λ (x : Piece). x ∷ drop (suc gone) pieces) (get_or_from_slice_get pieces gone p p at) ∙ ap (λ n. p ∷ drop n pieces) add-one

-- the first piece, and what comes after it
pub record FrontOf (pieces : List Piece) (gone before long : ℕ) (last : List ℕ) (p : Piece) : Type 0 where
  pub there : gone < length pieces
  pub counts : long ≡ length (piece_bytes p)
  pub others : before ≡ long + length (flat_map piece_bytes (drop (gone + 1) pieces))
  pub bytes : joined (drop gone pieces) last ≡ piece_bytes p ++ joined (drop (gone + 1) pieces) last

pub front_of : (pieces : List Piece) (gone before long : ℕ) (last : List ℕ) (p : Piece) → slice_get pieces gone ≡ Some p → before < 2 ^ 63 → before ≡ length (flat_map piece_bytes (drop gone pieces)) → long ≡ min (length (piece_bytes p)) (2 ^ 64 - 1)
    → FrontOf pieces gone before long last p
front_of pieces gone before long last p at small sums counts =
    let cut = next_piece pieces gone p at in
    let sum : before ≡ length (piece_bytes p) + length (flat_map piece_bytes (drop (gone + 1) pieces)) =
    sums ∙ ap (λ (xs : List Piece). length (flat_map piece_bytes xs)) cut ∙ length-append (piece_bytes p) (flat_map piece_bytes (drop (gone + 1) pieces)) in
    let is : long ≡ length (piece_bytes p) = counts ∙ low _ _ (omega (arith, sum, small)) in
    record {
      there = slice_get_within pieces gone p at;
      counts = is;
      others = omega (arith, sum, is);
      bytes = ap (λ (xs : List Piece). joined xs last) cut ∙ append_assoc (piece_bytes p) (flat_map piece_bytes (drop (gone + 1) pieces)) last;
    }

pub passes_front : (left long : ℕ) (front back : List ℕ) → long ≡ length front → long ≤ left → drop (left - long) back ≡ drop left (front ++ back)
passes_front left long front back is le =
    let sum : left ≡ length front + (left - long) = omega (arith, is, le) in
    sym (ap (λ n. drop n (front ++ back)) sum ∙ drop-append-add front back (left - long))

-- the pieces up to a place, and the one that stands there
pub piece_more : (pieces : List Piece) (i : ℕ) (p : Piece) → i < length pieces → p ≡ get_or pieces i p → flat_map piece_bytes (take (i + 1) pieces) ≡ flat_map piece_bytes (take i pieces) ++ piece_bytes p
piece_more pieces i p lt is =
    ap (flat_map piece_bytes) (take_more pieces i p lt) ∙ flat_map-append piece_bytes (take i pieces) (get_or pieces i p ∷ [])
    ∙ ap (λ (xs : List ℕ). flat_map piece_bytes (take i pieces) ++ xs) (append-nil (piece_bytes (get_or pieces i p)) ∙ ap piece_bytes (sym is))

-- the pieces up to a place, and all that comes after
pub pieces_split : (pieces : List Piece) (i : ℕ) (last : List ℕ) → joined pieces last ≡ flat_map piece_bytes (take i pieces) ++ joined (drop i pieces) last
pieces_split pieces i last =
    ap (λ (xs : List Piece). flat_map piece_bytes xs ++ last) (sym (take-append-drop i pieces)) ∙ ap (λ (xs : List ℕ). xs ++ last) (flat_map-append piece_bytes (take i pieces) (drop i pieces))
    ∙ append_assoc (flat_map piece_bytes (take i pieces)) (flat_map piece_bytes (drop i pieces)) last
