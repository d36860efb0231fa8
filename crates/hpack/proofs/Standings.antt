-- What one step of a decoder says of blocks of the standard, and of all blocks so far.
use Rattle.std.proofs.Common.{◌≡◌, ℕ, List, ◌∷◌, refl, sym, ap, subst, ◌∙◌, Result, Ok, Err, IfOk, IfErr}
use Rattle.hpack.proofs.Common.{Header, HpackFault, Refuses, Table, block_of}
use Rattle.hpack.specs.Decoding.{Standing, Good, Broken, after_block, decode_block, Decodes, standing_after, StandsFor, Reads, ReadsAlone, IsNoBlock}
use Rattle.hpack.proofs.Refusals.{Refuses-map, Refuses-bind, Refuses-all}
use Rattle.hpack.proofs.Headers.{block_found, block_only}

abbrev Answer : Type 0
Answer = Result (List Header) HpackFault

abbrev Rest : Type 0
Rest = List Header × Table

-- ---- one block

step_first : (x y : Answer × Standing) → x ≡ y → x.0 ≡ y.0
step_first x y e = ap (λ (p : Answer × Standing). p.0) e

step_second : (x y : Answer × Standing) → x ≡ y → x.1 ≡ y.1
step_second x y e = ap (λ (p : Answer × Standing). p.1) e

ok_inside : (r : Result Rest HpackFault) (headers : List Header) (new : Standing) → after_block r ≡ (Ok headers, new) → (after : Table) × (r ≡ Ok (headers, after)) × (Good after ≡ new)
ok_inside (Ok read) headers new e =
    let first : ◌≡◌ {A = Answer} (Ok read.0) (Ok headers) = step_first (Ok read.0, Good read.1) (Ok headers, new) e in
    let same : read.0 ≡ headers = cc in
    (read.1, ap (λ (hs : List Header). Ok (hs, read.1)) same, step_second (Ok read.0, Good read.1) (Ok headers, new) e)
ok_inside (Err fault) headers new e =
    let wrong : ◌≡◌ {A = Answer} (Err fault) (Ok headers) = step_first (Err fault, Broken fault) (Ok headers, new) e in
    absurd (cc)

err_inside : (r : Result Rest HpackFault) (fault : HpackFault) (new : Standing) → after_block r ≡ (Err fault, new) → r ≡ Err fault
err_inside (Ok read) fault new e =
    let wrong : ◌≡◌ {A = Answer} (Ok read.0) (Err fault) = step_first (Ok read.0, Good read.1) (Err fault, new) e in
    absurd (cc)
err_inside (Err other) fault new e =
    let first : ◌≡◌ {A = Answer} (Err other) (Err fault) = step_first (Err other, Broken other) (Err fault, new) e in
    let same : other ≡ fault = cc in
    ap Err same

broken_ok : (fault : HpackFault) (headers : List Header) (new : Standing) → ◌≡◌ {A = Answer × Standing} (Err fault, Broken fault) (Ok headers, new) → ⊥
broken_ok fault headers new e =
    let wrong : ◌≡◌ {A = Answer} (Err fault) (Ok headers) = step_first (Err fault, Broken fault) (Ok headers, new) e in cc

pub found-from_step : (old new : Standing) (block : List ℕ) (answer : Answer) → Decodes answer new (decode_block old block) → IfOk answer (λ headers. Reads old block headers new)
found-from_step (Good table) new block (Ok headers) step =
    let inside = ok_inside (block_of table block) headers new step in
    subst (λ (s : Standing). Reads (Good table) block headers s) inside.2 (block_found table block headers inside.0 inside.1)
found-from_step (Broken fault) new block (Ok headers) step = absurd (broken_ok fault headers new step)
found-from_step old new block (Err fault) step = tt

pub only-from_step : (old new : Standing) (block : List ℕ) (answer : Answer) → Decodes answer new (decode_block old block) → IfOk answer (λ headers. ReadsAlone old block headers new)
only-from_step (Good table) new block (Ok headers) step = λ others after is.
    let inside = ok_inside (block_of table block) headers new step in
    let same : ◌≡◌ {A = Result Rest HpackFault} (Ok (others, after)) (Ok (headers, inside.0)) = sym (block_only table block others after is) ∙ inside.1 in
    let pair : ◌≡◌ {A = Rest} (others, after) (headers, inside.0) = cc in
    (ap (λ (p : Rest). p.0) pair, ap (λ (p : Rest). Good p.1) pair ∙ inside.2)
only-from_step (Broken fault) new block (Ok headers) step = absurd (broken_ok fault headers new step)
only-from_step old new block (Err fault) step = tt

pub err-from_step : (old new : Standing) (block : List ℕ) (answer : Answer) → Decodes answer new (decode_block old block) → IfErr answer (λ fault. Refuses fault (IsNoBlock old block))
err-from_step old new block (Ok headers) step = tt
err-from_step (Good table) new block (Err fault) step =
    Refuses-map fault (λ due headers after is.
    let same : ◌≡◌ {A = Result Rest HpackFault} (Ok (headers, after)) (Err fault) = sym (block_only table block headers after is) ∙ err_inside (block_of table block) fault new due in
    cc) step.1
err-from_step (Broken first) new block (Err fault) step = Refuses-all fault tt

-- ---- all blocks so far

stands_there : (standing : Standing) (blocks : List (List ℕ)) → standing_after blocks ≡ standing → StandsFor standing blocks
stands_there (Good table) blocks e = e
stands_there (Broken fault) blocks e = Refuses-all fault e

moved : (old : Standing) (block : List ℕ) (blocks : List (List ℕ)) (due : Answer × Standing) → standing_after blocks ≡ old → decode_block old block ≡ due → standing_after (block ∷ blocks) ≡ due.1
moved old block blocks due here step = ap (λ (s : Standing). (decode_block s block).1) here ∙ step_second (decode_block old block) due step

pub stands-from_step : (old new : Standing) (block : List ℕ) (answer : Answer) → Decodes answer new (decode_block old block) → (blocks : List (List ℕ)) → StandsFor old blocks → StandsFor new (block ∷ blocks)
stands-from_step (Good table) new block (Ok headers) step blocks here = stands_there new (block ∷ blocks) (moved (Good table) block blocks (Ok headers, new) here step)
stands-from_step (Broken fault) new block (Ok headers) step blocks here = absurd (broken_ok fault headers new step)
stands-from_step (Good table) new block (Err fault) step blocks here =
    subst (λ (s : Standing). StandsFor s (block ∷ blocks)) (sym step.0)
    (Refuses-map fault (λ due. moved (Good table) block blocks (Err fault, new) here due ∙ step.0) step.1)
stands-from_step (Broken first) new block (Err fault) step blocks here =
    subst (λ (s : Standing). StandsFor s (block ∷ blocks)) (sym step.0)
    (Refuses-bind (standing_after (block ∷ blocks) ≡ Broken fault) fault (λ due.
    let one : ◌≡◌ {A = Answer} (Err first) (Err fault) = step_first (Err first, Broken first) (Err fault, new) due in
    let same : first ≡ fault = cc in
    Refuses-map fault (λ there. moved (Broken fault) block blocks (Err fault, Broken fault) there refl)
    (subst (λ (f : HpackFault). Refuses f (standing_after blocks ≡ Broken f)) same here)) step.1)
