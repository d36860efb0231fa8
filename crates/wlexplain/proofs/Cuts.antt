-- A text, cut: what is written for it line by line is what is written for all of it.
use Rattle.std.proofs.Common.{◌≡◌, ℕ, ◌==◌, ◌<◌, Bool, true, false, cond, if◌then◌else◌, List, [], ◌∷◌, ◌++◌, map, length, refl, sym, ap, ◌∙◌, append_assoc, append-nil, arith}
use Rattle.std.specs.List.{slice_split, onto_first, join_with_byte}
use Rattle.std.proofs.lemmas.List.Splits.{length-slice_split}
use Rattle.fault_lines.specs.Explanations.{explanation, explained_text}
use Rattle.wlexplain.specs.Following.{whole_lines, last_line}

abbrev is_newline : ℕ → Bool
is_newline b = b == 10

onto_append : (x : ℕ) (u v : List (List ℕ)) → 0 < length u → onto_first x (u ++ v) ≡ onto_first x u ++ v
onto_append x [] v some = absurd (omega arith)
onto_append x (part ∷ u) v some = refl

cond_append : (t : Bool) (x : ℕ) (u v : List (List ℕ)) → 0 < length u → cond t ([] ∷ (u ++ v)) (onto_first x (u ++ v)) ≡ cond t ([] ∷ u) (onto_first x u) ++ v
cond_append true x u v some = refl
cond_append false x u v some = onto_append x u v some

split_cut : (a b : List ℕ) → slice_split is_newline (a ++ 10 ∷ b) ≡ slice_split is_newline a ++ slice_split is_newline b
split_cut [] b = refl
split_cut (x ∷ a) b =
    ap (λ parts. cond (x == 10) ([] ∷ parts) (onto_first x parts)) (split_cut a b)
    ∙ cond_append (x == 10) x (slice_split is_newline a) (slice_split is_newline b) (omega (arith, length-slice_split is_newline a))

join_more : (line : List ℕ) (v : List (List ℕ)) → 0 < length v → join_with_byte 10 (line ∷ v) ≡ line ++ 10 ∷ join_with_byte 10 v
join_more line [] some = absurd (omega arith)
join_more line (next ∷ v) some = refl

join_cut : (u v : List (List ℕ)) → 0 < length u → 0 < length v → join_with_byte 10 (map explanation (u ++ v)) ≡ join_with_byte 10 (map explanation u) ++ 10 ∷ join_with_byte 10 (map explanation v)
join_cut [] v some more = absurd (omega arith)
join_cut (line ∷ []) [] some more = absurd (omega arith)
join_cut (line ∷ []) (next ∷ v) some more = refl
join_cut (line ∷ next ∷ u) v some more =
    ap (λ rest. explanation line ++ 10 ∷ rest) (join_cut (next ∷ u) v (omega arith) more)
    ∙ sym (append_assoc (explanation line) (10 ∷ join_with_byte 10 (map explanation (next ∷ u))) (10 ∷ join_with_byte 10 (map explanation v)))

explained_cut : (a b : List ℕ) → explained_text (a ++ 10 ∷ b) ≡ explained_text a ++ 10 ∷ explained_text b
unfolding explained_text
explained_cut a b =
    ap (λ parts. join_with_byte 10 (map explanation parts)) (split_cut a b)
    ∙ join_cut (slice_split is_newline a) (slice_split is_newline b) (omega (arith, length-slice_split is_newline a)) (omega (arith, length-slice_split is_newline b))

-- ---- line by line

by_byte : (t : Bool) (line bytes : List ℕ) (b : ℕ) → (b == 10) ≡ t → ((l : List ℕ) → explained_text (l ++ bytes) ≡ whole_lines l bytes ++ explained_text (last_line l bytes))
    → explained_text (line ++ b ∷ bytes) ≡ (if t then explained_text line ++ 10 ∷ whole_lines [] bytes else whole_lines (line ++ b ∷ []) bytes) ++ explained_text (if t then last_line [] bytes else last_line (line ++ b ∷ []) bytes)
by_byte true line bytes b is rest =
    let newline : b ≡ 10 = grind (arith, is) in
    rw newline (explained_cut line bytes ∙ ap (λ xs. explained_text line ++ 10 ∷ xs) (rest []) ∙ sym (append_assoc (explained_text line) (10 ∷ whole_lines [] bytes) (explained_text (last_line [] bytes))))
by_byte false line bytes b is rest = ap explained_text (sym (append_assoc line (b ∷ []) bytes)) ∙ rest (line ++ b ∷ [])

-- what is written for a text is what is written for its whole lines, and then for its last
pub explained_by : (line bytes : List ℕ) → explained_text (line ++ bytes) ≡ whole_lines line bytes ++ explained_text (last_line line bytes)
explained_by line [] = ap explained_text (append-nil line)
explained_by line (b ∷ bytes) = by_byte (b == 10) line bytes b refl (λ l. explained_by l bytes)

whole_if : (t : Bool) (line a b : List ℕ) (x : ℕ) → ((l : List ℕ) → whole_lines l (a ++ b) ≡ whole_lines l a ++ whole_lines (last_line l a) b)
    → (if t then explained_text line ++ 10 ∷ whole_lines [] (a ++ b) else whole_lines (line ++ x ∷ []) (a ++ b))
    ≡ (if t then explained_text line ++ 10 ∷ whole_lines [] a else whole_lines (line ++ x ∷ []) a) ++ whole_lines (if t then last_line [] a else last_line (line ++ x ∷ []) a) b
whole_if true line a b x rest = ap (λ xs. explained_text line ++ 10 ∷ xs) (rest []) ∙ sym (append_assoc (explained_text line) (10 ∷ whole_lines [] a) (whole_lines (last_line [] a) b))
whole_if false line a b x rest = rest (line ++ x ∷ [])

-- the whole lines of a text and of more
pub whole_more : (line a b : List ℕ) → whole_lines line (a ++ b) ≡ whole_lines line a ++ whole_lines (last_line line a) b
whole_more line [] b = refl
whole_more line (x ∷ a) b = whole_if (x == 10) line a b x (λ l. whole_more l a b)

last_if : (t : Bool) (line a b : List ℕ) (x : ℕ) → ((l : List ℕ) → last_line l (a ++ b) ≡ last_line (last_line l a) b)
    → (if t then last_line [] (a ++ b) else last_line (line ++ x ∷ []) (a ++ b)) ≡ last_line (if t then last_line [] a else last_line (line ++ x ∷ []) a) b
last_if true line a b x rest = rest []
last_if false line a b x rest = rest (line ++ x ∷ [])

pub last_more : (line a b : List ℕ) → last_line line (a ++ b) ≡ last_line (last_line line a) b
last_more line [] b = refl
last_more line (x ∷ a) b = last_if (x == 10) line a b x (λ l. last_more l a b)
