-- The origins of sockets.
use Rattle.std.specs.Prelude.{ℕ, ◌<◌, List, map, length, Contains, Some, slice_get, slice_index_or, option_map}
use Rattle.std.proofs.Common.{◌≡◌, ap, sym, subst, ◌∙◌}
use Rattle.std.proofs.lemmas.Option.{slice_get-map, slice_get-get_or, slice_get_within, get_or_from_slice_get}
use Rattle.wl_edge.specs.Listeners.{BoundSocket}
use Rattle.wl_edge_real.specs.Places.{socket_of}
use Rattle.wl_edge_real.specs.declared.sockets.Place.{Place}

-- what f gives for an item stands in the list of what it gives for all
pub contains_at : {X Y : Type 0} (f : X → Y) (xs : List X) (k : ℕ) (x : X) → slice_get xs k ≡ Some x → Contains (map f xs) (f x)
contains_at {X} {Y} f xs k x at = let here : slice_get (map f xs) k ≡ Some (f x) = slice_get-map f xs k ∙ ap (λ o. option_map f o) at in (k, slice_get_within (map f xs) k (f x) here, get_or_from_slice_get (map f xs) k (f x) (f x) here)

-- the socket of one of the places stands in the list
pub origin_at : (places : List Place) (k : ℕ) (place : Place) (socket : BoundSocket) → k < length places → place ≡ slice_index_or places k place → socket ≡ socket_of place.origin → Contains (map (λ p. socket_of p.origin) places) socket
origin_at places k place socket within at is = subst (λ s. Contains (map (λ p. socket_of p.origin) places) s) (sym is) (contains_at (λ p. socket_of p.origin) places k place (slice_get-get_or places k place within ∙ ap (λ p. Some p) (sym at)))
