use Rattle.std.proofs.Common.{◌≡◌, length, map}
use Rattle.svid_forms.specs.Elements.{elements_of}
use Rattle.svid_forms.proofs.Values.{after}
use Rattle.svid_forms.proofs.elements.split.Given as goal

-- what was found and what the rest has are what all have
abbrev pub invariant-values : goal.invariant-values
invariant-values l = elements_of l.bytes ≡ after (map (λ s. s.now) l.parts.items) (elements_of l.rest)

abbrev pub decreases-values : goal.decreases-values
decreases-values l = length l.rest
