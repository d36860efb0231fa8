-- Sockets that are listened at one after the other.
use Rattle.std.specs.Prelude.{◌≡◌, ℕ, ◌+◌, ◌<◌, List, [], ◌∷◌, ◌++◌, length, map, take, slice_index_or, string_bytes, Option, Some, None}
use Rattle.std.proofs.Common.{◌∙◌, sym, ap}
use Rattle.std.proofs.lemmas.List.{take_more, map_push}
use Rattle.wl_edge.specs.Listeners.{BoundSocket, ListenerLog}
use Rattle.wl_edge.specs.declared.origin.Origin.{Origin}
use Rattle.wl_edge_real.specs.declared.listener.RealListener.{RealListener}
use Rattle.wl_edge_real.specs.Places as place
use Rattle.wl_config.specs.SocketPlaces.{name_of}
use Rattle.wl_config.specs.declared.config.SocketFact.{SocketFact}
use Rattle.wl_dealing.specs.declared.dealing.DealtSocket.{DealtSocket}
use Rattle.wl_dealing.specs.Dealt.{socket_of}

-- what a listener's contracts see of it
abbrev pub sockets_seen : RealListener → Option (List BoundSocket)
sockets_seen l = Some (map (λ p. place.socket_of p.origin) l.sockets.places.items)

abbrev pub paths_seen : RealListener → List (List ℕ)
paths_seen l = map (λ p. string_bytes p.name) l.sockets.places.items

abbrev pub told_seen : RealListener → Option ListenerLog
told_seen l = Some (record {
  kinds = l.kinds.list;
  finished = map (λ link. record { origin = link.origin; log = Some (record { gave = link.gave.list; took = link.stream.put.list }); failed_receives = link.failed_receives; failed_sends = link.failed_sends; stalls = link.stalls }) l.finished.list;
})

abbrev pub shown : DealtSocket → ℕ × SocketFact
shown s = (s.number, s.fact.now)

one_more : {A B : Type 0} (f : A → B) (xs : List A) (i : ℕ) (x : A) → i < length xs → x ≡ slice_index_or xs i x → map f (take (i + 1) xs) ≡ map f (take i xs) ++ f x ∷ []
one_more f xs i x inside at = ap (map f) (take_more xs i x inside) ∙ map_push f (take i xs) (slice_index_or xs i x) ∙ ap (λ y. map f (take i xs) ++ f y ∷ []) (sym at)

abbrev known_of : Option (List BoundSocket) → List BoundSocket
known_of (Some known) = known
known_of None = []

-- one socket more is listened at
pub listened_more : (xs : List DealtSocket) (i : ℕ) (x : DealtSocket) → i < length xs → x ≡ slice_index_or xs i x → (known : List BoundSocket) (new : Option (List BoundSocket)) (origin : Origin) → origin.selectors ≡ x.fact.now.selectors → origin.socket ≡ x.number
    → new ≡ Some (known ++ record { selectors = origin.selectors; number = origin.socket } ∷ []) → Some known ≡ Some (map socket_of (map shown (take i xs))) → new ≡ Some (map socket_of (map shown (take (i + 1) xs)))
listened_more xs i x inside at known new origin selectors number is before =
    let all : map socket_of (map shown (take (i + 1) xs)) ≡ map socket_of (map shown (take i xs)) ++ socket_of (shown x) ∷ [] =
    ap (map socket_of) (one_more shown xs i x inside at) ∙ map_push socket_of (map shown (take i xs)) (shown x) in
    is
    ∙ ap (λ (s : List (List ℕ)). Some (known ++ record { selectors = s; number = origin.socket } ∷ [])) selectors
    ∙ ap (λ (n : ℕ). Some (known ++ record { selectors = x.fact.now.selectors; number = n } ∷ [])) number
    ∙ ap (λ (ks : List BoundSocket). Some (ks ++ socket_of (shown x) ∷ [])) (ap known_of before)
    ∙ ap (λ (ks : List BoundSocket). Some ks) (sym all)

abbrev pub path_of : ℕ × SocketFact → List ℕ
path_of s = name_of s.1.place

pub paths_more : (xs : List DealtSocket) (i : ℕ) (x : DealtSocket) → i < length xs → x ≡ slice_index_or xs i x → (old new : List (List ℕ)) → new ≡ old ++ name_of x.fact.now.place ∷ [] → old ≡ map path_of (map shown (take i xs)) → new ≡ map path_of (map shown (take (i + 1) xs))
paths_more xs i x inside at old new is before =
    let all : map path_of (map shown (take (i + 1) xs)) ≡ map path_of (map shown (take i xs)) ++ name_of x.fact.now.place ∷ [] =
    ap (map path_of) (one_more shown xs i x inside at) ∙ map_push path_of (map shown (take i xs)) (shown x) in
    is ∙ ap (λ (ps : List (List ℕ)). ps ++ name_of x.fact.now.place ∷ []) before ∙ sym all
