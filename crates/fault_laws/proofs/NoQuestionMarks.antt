-- Texts without a `?`.
use Rattle.std.specs.Prelude.{ℕ, ◌+◌, ◌%◌, ◌≤◌, ◌<◌, ◌^◌, ◌==◌, ◌&&◌, Bool, true, false, not, if◌then◌else◌, List, [], ◌∷◌, ◌++◌, codes}
use Rattle.std.specs.Fmt.{decimal}
use Rattle.std.proofs.Common.{arith, refl, ◌∙◌, ap₂}
use Rattle.std.proofs.lemmas.Bool.Decides.{nat_tests}
use Rattle.std.proofs.lemmas.List.Folds.{list_all-append}
use Rattle.std.proofs.lemmas.Fmt.{decimal_by_steps}
use Rattle.fault_lines.specs.Names.{item_name}
use Rattle.fault_laws.proofs.Common.{told_at, Place, IsNamed, item, id_item}
use Rattle.fault_laws.specs.Sentences.{later_item}

pub joined : (a b : List ℕ) → IsNamed a → IsNamed b → IsNamed (a ++ b)
joined a b first second = list_all-append (λ b. not (b == 63)) a b ∙ ap₂ (λ x y. x && y) first second

digit : (n : ℕ) → n < 10 → IsNamed ((48 + n) ∷ [])
digit n small = grind (arith, nat_tests, small)

digits : (n : ℕ) (ds : List ℕ) → 10 ≤ n → IsNamed ds → IsNamed (ds ++ ((48 + n % 10) ∷ []))
digits n ds big named = joined ds ((48 + n % 10) ∷ []) named (digit (n % 10) (omega arith))

pub number : (n : ℕ) → n < 2 ^ 64 → IsNamed (decimal n)
number n fits = decimal_by_steps (λ m ds. IsNamed ds) digit digits n fits

pub around : (before after : List ℕ) (n : ℕ) → IsNamed before → IsNamed after → n < 2 ^ 64 → IsNamed (before ++ decimal n ++ after)
around before after n front behind fits = joined (before ++ decimal n) after (joined before (decimal n) front (number n fits)) behind

pub item_named : (array member : List ℕ) (index : ℕ) → IsNamed array → IsNamed member → index < 2 ^ 64 → IsNamed (item_name array index member)
item_named array member index front behind fits =
    joined (array ++ codes "[" ++ decimal index ++ codes "]") member
    (around (array ++ codes "[") (codes "]") index (joined array (codes "[") front refl) refl fits) behind

pub bracketed : (p : Place) → p.item < 2 ^ 64 → IsNamed (item p)
bracketed p fits = around (codes "[") (codes "]") p.item refl refl fits

pub chosen : (b : Bool) (x y : List ℕ) → IsNamed x → IsNamed y → IsNamed (if b then x else y)
chosen true x y first second = first
chosen false x y first second = second

pub later : (p : Place) → p.item < 2 ^ 64 → IsNamed (later_item p)
later p fits = chosen (not (p.item == 0)) (item p) [] (bracketed p fits) refl

pub of_id : (p : Place) → p.item < 2 ^ 64 → IsNamed (id_item p)
of_id p fits = chosen ((p.part == 2) && (p.field == 4)) (item p) (later_item p) (bracketed p fits) (later p fits)

pub told : (member suffix what : List ℕ) → IsNamed member → IsNamed suffix → IsNamed what → IsNamed (told_at (member ++ suffix) what)
told member suffix what first second third =
    joined (member ++ suffix ++ codes ": ") what (joined (member ++ suffix) (codes ": ") (joined member suffix first second) refl) third
