-- A list of four, by its places.
use Rattle.std.proofs.Common.{◌≡◌, ℕ, List, [], ◌∷◌, Option, Some, None, refl}
use Rattle.std.specs.Prelude.{codes, if◌then◌else◌}
use Rattle.std.specs.List.{slice_get}
use Rattle.std.specs.Str.{bytes_eq}
use Rattle.std.specs.declared.net.ip_addr.IpAddr.{IpAddr}
use Rattle.wl_config.specs.Loopbacks.{plain_number, ipv4_by, ipv4_of}

abbrev placed : Option (List ℕ) → Option (List ℕ) → Option (List ℕ) → Option (List ℕ) → Option (List ℕ) → Option IpAddr
placed (Some a) (Some b) (Some c) (Some d) None = if bytes_eq a (codes "127") then ipv4_by (plain_number 255 b) (plain_number 255 c) (plain_number 255 d) else None
placed _ _ _ _ _ = None

pub by_places : (parts : List (List ℕ)) → ipv4_of parts ≡ placed (slice_get parts 0) (slice_get parts 1) (slice_get parts 2) (slice_get parts 3) (slice_get parts 4)
by_places [] = refl
by_places (a ∷ []) = refl
by_places (a ∷ b ∷ []) = refl
by_places (a ∷ b ∷ c ∷ []) = refl
by_places (a ∷ b ∷ c ∷ d ∷ []) = refl
by_places (a ∷ b ∷ c ∷ d ∷ e ∷ more) = refl
