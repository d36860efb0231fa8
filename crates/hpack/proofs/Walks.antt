-- Reading along the tree: bits after bits, four at a time by the table of steps.
use Rattle.std.proofs.Common.{◌≡◌, ℕ, ◌+◌, ◌*◌, ◌/◌, ◌%◌, ◌<◌, Bool, List, [], ◌∷◌, ◌++◌, get_or, refl, sym, ap, ◌∙◌, arith, append_assoc, zero-add, Ok, Err, Result}
use Rattle.std.proofs.lemmas.Bool.{lt-ltb, le-ltb, ne_eqb}
use Rattle.hpack.proofs.Common.{HpackFault, bits, Branch, Node, Symbol, End, branch_at, walk}
use Rattle.hpack.specs.declared.fault.HpackFault.TheVariants as faults
use Rattle.hpack.specs.Outcomes.{IsPaddingFault}
use Rattle.hpack.specs.declared.tables.TheConstants.{STEPS}
use Rattle.hpack.proofs.Steps.{step_of, are_steps-at, is_step-found, steps}
use Rattle.hpack.specs.Tree.{on_branch, with_text, is_end, StepsBy}

-- bits that follow what was read
abbrev pub read_on : List ℕ × Branch → List Bool → List ℕ × Branch
read_on (text, Node node) rest = with_text text (walk node rest)
read_on (text, Symbol symbol) rest = (text, Symbol symbol)
read_on (text, End) rest = (text, End)

prefixed : (symbol : ℕ) (found : List ℕ × Branch) (rest : List Bool) → (symbol ∷ (read_on found rest).0, (read_on found rest).1) ≡ read_on (symbol ∷ found.0, found.1) rest
prefixed symbol (text, Node node) rest = refl
prefixed symbol (text, Symbol other) rest = refl
prefixed symbol (text, End) rest = refl

on_branch-append : (b : Branch) (f g : ℕ → List ℕ × Branch) (rest : List Bool) → ((next : ℕ) → f next ≡ read_on (g next) rest) → on_branch b f ≡ read_on (on_branch b g) rest
on_branch-append (Node node) f g rest same = same node
on_branch-append (Symbol symbol) f g rest same = rw (same 0) (prefixed symbol (g 0) rest)
on_branch-append End f g rest same = refl

pub read-append : (node : ℕ) (front rest : List Bool) → walk node (front ++ rest) ≡ read_on (walk node front) rest
unfolding walk
read-append node [] rest = refl
read-append node (bit ∷ front) rest = on_branch-append (branch_at node bit) (λ next. walk next (front ++ rest)) (λ next. walk next front) rest (λ next. read-append next front rest)

-- ---- steps, by the table

read-nibble : (node nibble entry : ℕ) → node < 256 → nibble < 16 → entry ≡ get_or STEPS (node * 16 + nibble) 0 → walk node (bits 4 nibble) ≡ step_of (entry / 256) (entry % 256)
read-nibble node nibble entry n k e =
    let q : (node * 16 + nibble) / 16 ≡ node = omega arith in
    let r : (node * 16 + nibble) % 16 ≡ nibble = omega arith in
    is_step-found (walk node (bits 4 nibble)) entry (rw (zero-add, q, r, ← e) at (are_steps-at 0 STEPS (node * 16 + nibble) steps (omega arith)))

pub step_adds : (node nibble entry : ℕ) (old : List ℕ) → node < 256 → nibble < 16 → entry ≡ get_or STEPS (node * 16 + nibble) 0 → entry / 256 < 256 → StepsBy (bits 4 nibble) node old (Ok (entry % 256)) (old ++ entry / 256 ∷ [])
step_adds node nibble entry old n k e symbol =
    λ rest. rw (read-append node (bits 4 nibble) rest, read-nibble node nibble entry n k e, lt-ltb (entry / 256) 256 symbol) (ap (λ xs. (xs, (walk (entry % 256) rest).1)) (sym (append_assoc old (entry / 256 ∷ []) (walk (entry % 256) rest).0)))

pub step_passes : (node nibble entry : ℕ) (old : List ℕ) → node < 256 → nibble < 16 → entry ≡ get_or STEPS (node * 16 + nibble) 0 → entry / 256 ≡ 256 → StepsBy (bits 4 nibble) node old (Ok (entry % 256)) old
step_passes node nibble entry old n k e none =
    λ rest. rw (read-append node (bits 4 nibble) rest, read-nibble node nibble entry n k e, none) refl

pub step_fails : (node nibble entry : ℕ) (old new : List ℕ) → node < 256 → nibble < 16 → entry ≡ get_or STEPS (node * 16 + nibble) 0 → 256 < entry / 256 → StepsBy (bits 4 nibble) node old (Err faults.Padding) new
step_fails node nibble entry old new n k e past =
    λ rest. rw (read-append node (bits 4 nibble) rest, read-nibble node nibble entry n k e, le-ltb (entry / 256) 256 (omega arith), ne_eqb (entry / 256) 256 (omega arith)) refl

pub IsPaddingFault-map : {P Q : Type 0} (fault : HpackFault) → (P → Q) → IsPaddingFault fault P → IsPaddingFault fault Q
IsPaddingFault-map faults.Memory f due = tt
IsPaddingFault-map faults.Padding f due = f due
IsPaddingFault-map faults.Index f due = absurd due
IsPaddingFault-map faults.Integer f due = absurd due
IsPaddingFault-map faults.Truncated f due = absurd due
IsPaddingFault-map faults.SizeUpdate f due = absurd due
IsPaddingFault-map faults.ListTooLong f due = absurd due

pub step_joins : (front back : List Bool) (node middle : ℕ) (old mid new : List ℕ) (answer : Result ℕ HpackFault) → StepsBy front node old (Ok middle) mid → StepsBy back middle mid answer new → StepsBy (front ++ back) node old answer new
step_joins front back node middle old mid new (Ok next) one two = λ rest. rw (append_assoc front back rest) (one (back ++ rest) ∙ two rest)
step_joins front back node middle old mid new (Err fault) one two =
    IsPaddingFault-map fault (λ ends rest. rw (append_assoc front back rest) (ap (λ found. is_end found.1) (one (back ++ rest)) ∙ ends rest)) two

pub step_stops : (front back : List Bool) (node : ℕ) (old mid new : List ℕ) (fault : HpackFault) → StepsBy front node old (Err fault) mid → StepsBy (front ++ back) node old (Err fault) new
step_stops front back node old mid new fault one = IsPaddingFault-map fault (λ ends rest. rw (append_assoc front back rest) (ends (back ++ rest))) one
