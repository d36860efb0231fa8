-- Laws on fronts of lists.
use Rattle.std.specs.Prelude.{◌≡◌, List, [], ◌++◌}
use Rattle.std.proofs.Common.{refl, sym, ◌∙◌, ap}
use Rattle.std.proofs.lemmas.List.{append-nil, append_assoc}
use Rattle.list_laws.specs.Lists.{GainsFront}

-- nothing was gained
pub gains_nothing : {A : Type 0} (due old new : List A) → new ≡ old → GainsFront due old new
gains_nothing due old new same = ([], same ∙ sym (append-nil old), (due, refl))

-- all of what was due was gained
pub gains_all : {A : Type 0} (due old new : List A) → new ≡ old ++ due → GainsFront due old new
gains_all due old new all = (due, all, ([], sym (append-nil due)))

-- what is due in front of more is a prefix of the whole
pub gains_before : {A : Type 0} (due more old new : List A) → GainsFront due old new → GainsFront (due ++ more) old new
gains_before due more old new gained = (gained.0, gained.1, (gained.2.0 ++ more, ap (λ xs. xs ++ more) gained.2.1 ∙ append_assoc gained.0 gained.2.0 more))

-- a prefix of what is left, after all of what came before
pub gains_after : {A : Type 0} (first due old mid new : List A) → mid ≡ old ++ first → GainsFront due mid new → GainsFront (first ++ due) old new
gains_after first due old mid new came gained =
    (first ++ gained.0, gained.1 ∙ ap (λ xs. xs ++ gained.0) came ∙ append_assoc old first gained.0, (gained.2.0, ap (λ xs. first ++ xs) gained.2.1 ∙ sym (append_assoc first gained.0 gained.2.0)))
