-- Sockets of a listener that only grow.
use Rattle.std.specs.Prelude.{◌≡◌, List, [], ◌++◌, Contains, Option, Some, None}
use mathlib.Core.List.{IsPrefix}
use Rattle.std.proofs.Common.{refl, sym, ◌∙◌, ap, subst, append_assoc}
use Rattle.std.proofs.lemmas.List.{append-nil}
use Rattle.std.proofs.lemmas.List.Elements.{Contains-append_left}
use Rattle.wl_edge.specs.declared.origin.Origin.{Origin}
use Rattle.wl_edge.specs.Listeners.{BoundSocket, CameOver, OnlyAdds}

-- ---- lists

prefix_then : (xs ys zs : List BoundSocket) → IsPrefix xs ys → IsPrefix ys zs → IsPrefix xs zs
prefix_then xs ys zs one other = (one.0 ++ other.0, sym (append_assoc xs one.0 other.0) ∙ (ap (λ (l : List BoundSocket). l ++ other.0) one.1 ∙ other.1))

-- ---- what is known

-- none came
pub adds_none : (sockets : Option (List BoundSocket)) → OnlyAdds sockets sockets
adds_none None = refl
adds_none (Some known) = ([], append-nil known)

-- all stayed
pub adds_same : (before now : Option (List BoundSocket)) → now ≡ before → OnlyAdds before now
adds_same before now same = subst (λ (s : Option (List BoundSocket)). OnlyAdds before s) (sym same) (adds_none before)

-- some came, and then others
pub adds_then : (before mid now : Option (List BoundSocket)) → OnlyAdds before mid → OnlyAdds mid now → OnlyAdds before now
adds_then None mid now one other = subst (λ (s : Option (List BoundSocket)). OnlyAdds s now) one other
adds_then (Some known) (Some more) (Some all) one other = prefix_then known more all one other
adds_then (Some known) (Some more) None one other = absurd other
adds_then (Some known) None now one other = absurd one

-- What came over one of those that were known came over one of those that are.
pub came_still : (before now : Option (List BoundSocket)) (origin : Origin) → OnlyAdds before now → CameOver before origin → CameOver now origin
came_still None now origin adds came = subst (λ (s : Option (List BoundSocket)). CameOver s origin) (sym adds) tt
came_still (Some known) (Some all) origin adds came =
    let socket : BoundSocket = record { selectors = origin.selectors; number = origin.socket } in
    subst (λ (l : List BoundSocket). Contains l socket) adds.1 (Contains-append_left known adds.0 socket came)
came_still (Some known) None origin adds came = absurd adds
