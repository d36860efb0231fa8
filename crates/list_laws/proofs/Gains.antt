-- What a loop gains, item by item.
use Rattle.std.proofs.Common.{◌≡◌, List, [], ◌++◌, sym, refl, ap, ◌∙◌, append_assoc, append-nil}
use Rattle.list_laws.specs.Lists.{GainsFront}

-- new is old with a prefix of what was due, of which this is left
abbrev pub GainsUpTo : {A : Type 0} → List A → List A → List A → List A → Type 0
GainsUpTo {A} due left old new = (part : List A) × (new ≡ old ++ part) × (due ≡ part ++ left)

pub gains_up_to : {A : Type 0} (due left old new : List A) → GainsUpTo due left old new → GainsFront due old new
gains_up_to due left old new h = (h.0, h.1, (left, h.2))

-- nothing is left
pub gains_whole : {A : Type 0} (due old new : List A) → GainsUpTo due [] old new → new ≡ old ++ due
gains_whole due old new h = h.1 ∙ ap (λ part. old ++ part) (sym (h.2 ∙ append-nil h.0))

-- some more of what is left
pub gains_more : {A : Type 0} (due more left old mid new : List A) → GainsUpTo due (more ++ left) old mid → new ≡ mid ++ more → GainsUpTo due left old new
gains_more due more left old mid new h e = (h.0 ++ more, rw (e, h.1, append_assoc) refl, rw (h.2, append_assoc) refl)
