-- How all seats ended, by tests of each.
use Rattle.std.specs.Prelude.{◌≡◌, ◌||◌, Bool, List, [], ◌∷◌, map, Option, if◌then◌else◌}
use Rattle.std.specs.List.{list_any}
use Rattle.std.proofs.Common.{◌∙◌, refl, ap}
use Rattle.wl_worker.specs.declared.seat.SeatEnd.{SeatEnd}
use Rattle.wl_serve.specs.Serving.{end_of, has_fault, lacks_memory}
use Rattle.wl_serve.specs.declared.ending.ServeEnd.TheVariants.{HostFault, Memory, Done}

-- a test of what is seen of each
any_mapped : {T A : Type 0} (f : T → A) (p : A → Bool) (xs : List T) → list_any (λ x. p (f x)) xs ≡ list_any p (map f xs)
any_mapped f p [] = refl
any_mapped f p (x ∷ xs) = ap (λ b. p (f x) || b) (any_mapped f p xs)

-- the end, by what the two tests came to
pub end_by : {T : Type 0} (f : T → Option SeatEnd) (xs : List T) (fault lack : Bool) → fault ≡ list_any (λ x. has_fault (f x)) xs → lack ≡ list_any (λ x. lacks_memory (f x)) xs → (if fault then HostFault else if lack then Memory else Done) ≡ end_of (map f xs)
unfolding end_of
end_by f xs fault lack faults lacks = λ i. if (faults ∙ any_mapped f has_fault xs) i then HostFault else if (lacks ∙ any_mapped f lacks_memory xs) i then Memory else Done
