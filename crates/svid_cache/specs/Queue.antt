-- When asks come due, a block of asks at a time (own rule).
use Rattle.std.specs.Prelude.{◌≡◌, ℕ, ◌+◌, ◌-◌, ◌/◌, ◌^◌, ◌≤◌, min, false, List, [], ◌∷◌, take, drop, if◌then◌else◌, nat_le, nat_lt, unwrap_or, option_map}
use Rattle.std.specs.Str.{bytes_eq}
use Rattle.std.specs.List.{AllByRecursion}
use Rattle.wl_entry.specs.declared.asks.Ask.{Ask}
use Rattle.wl_entry.specs.declared.signing.Signed.{Signed}
use Rattle.wl_entry.specs.declared.signing.Svid.{Svid}
use Rattle.svid_cache.specs.Caches.{kept_for}

-- The second at which half of its time has passed: not_before and half of the lifetime, rounded up. What ends before it
-- begins counts from its end on.
abbrev pub half_second : Signed → ℕ
half_second g = min g.not_after ((g.not_before + g.not_after + 1) / 2)

-- the second from which on an SVID that has begun is to be replaced: at once where it was signed before `renew_before`
abbrev pub due_second : ℕ → Signed → ℕ
due_second renew_before g = if nat_lt g.not_before renew_before then 0 else half_second g

-- the first second at which the ask is due, once its SVID has begun: 0 where no SVID is kept for it
unfoldable pub first_second : ℕ → List Svid → Ask → ℕ
first_second renew_before svids a = unwrap_or (option_map (λ s. due_second renew_before s.signed) (kept_for svids a)) 0

-- the ask is not due before this second, once its SVID has begun
abbrev pub NotBefore : ℕ → List Svid → ℕ → Ask → Type 0
NotBefore renew_before svids first a = first ≤ first_second renew_before svids a

-- nor is any ask but that of this entry
abbrev pub OthersNotBefore : ℕ → List ℕ → List Svid → ℕ → Ask → Type 0
OthersNotBefore renew_before id svids first a = bytes_eq a.entry_id id ≡ false → NotBefore renew_before svids first a

-- The asks stand in blocks of this size, except the last, with a second for each block that fits each of its asks.
unfoldable pub Filed : (ℕ → Ask → Type 0) → ℕ → List ℕ → List Ask → Type 0
Filed Fits size [] asks = asks ≡ []
Filed Fits size (first ∷ firsts) asks = AllByRecursion (Fits first) (take size asks) × Filed Fits size firsts (drop size asks)

-- a second that has come counts as the first of all
abbrev pub clear_second : ℕ → ℕ → ℕ
clear_second now first = if nat_le first now then 0 else first

-- none of the seconds is below this one
abbrev pub NoneBelow : ℕ → List ℕ → Type 0
NoneBelow least firsts = AllByRecursion (λ f. least ≤ f) firsts

-- no later second fits, up to the last one that counts
abbrev pub IsLatest : ℕ → (ℕ → Type 0) → ℕ → Type 0
IsLatest last Fits second = (other : ℕ) → other ≤ last → Fits other → other ≤ second

-- the last second that a u64 can say
abbrev pub last_second : ℕ
last_second = 2 ^ 64 - 1

-- the second at which an SVID ends
abbrev pub svid_end : Svid → ℕ
svid_end s = s.signed.not_after

-- all of the SVIDs have begun at this second
abbrev pub AllBegunBy : ℕ → List Svid → Type 0
AllBegunBy begins svids = AllByRecursion (λ s. s.signed.not_before ≤ begins) svids

-- no earlier second fits, from the first that counts on
abbrev pub IsEarliest : ℕ → (ℕ → Type 0) → ℕ → Type 0
IsEarliest first Fits second = (other : ℕ) → first ≤ other → Fits other → second ≤ other

-- none of the SVIDs has expired before this second
abbrev pub NoneEndsBefore : ℕ → List Svid → Type 0
NoneEndsBefore end svids = AllByRecursion (λ s. end ≤ svid_end s) svids
