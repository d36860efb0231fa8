-- Asks and the SVIDs that are kept for them (own rules after the SPIRE agent).
use Rattle.std.specs.Prelude.{◌≡◌, ℕ, ◌<◌, ◌^◌, ◌&&◌, ◌||◌, Bool, true, false, not, nat_lt, nat_le, if◌then◌else◌, List, map, filter, find, length, Option, Some, None, unwrap_or, option_map}
use Rattle.std.specs.List.{list_any, AllByRecursion}
use Rattle.list_laws.specs.Lists.{Rises}
use Rattle.sorted_blocks.specs.Blocks as blocks
use Rattle.wl_entry.specs.Fitness.{signed_unfit, is_half_over, is_wanted}
use Rattle.wl_entry.specs.Keys.{ask_key, svid_key}
use Rattle.wl_entry.specs.Limits.{SignedWithin}
use Rattle.wl_entry.specs.Same.{same_ask, same_signed}
use Rattle.wl_entry.specs.declared.asks.Ask.{Ask}
use Rattle.wl_entry.specs.declared.signing.Signed.{Signed}
use Rattle.wl_entry.specs.declared.signing.Svid.{Svid}
use Rattle.wl_entry.specs.declared.unfit.Unfit.{Unfit}
use Rattle.svid_cache.specs.declared.install.Installed.{Installed}
use Rattle.svid_cache.specs.declared.install.Installed.TheVariants as installed

-- what a cache has: the asks by ascending entry id, the kept SVIDs by ascending entry id, and the second since which an
-- SVID has to be signed, or else it is to be replaced
pub record Cached : Type 0 where
  pub asks : List Ask
  pub svids : List Svid
  pub renew_before : ℕ

-- the ask is among these
unfoldable pub is_listed : List Ask → Ask → Bool
is_listed asks a = list_any (λ b. same_ask b a) asks

-- what there is, where it passes the test
abbrev pub only : {X : Type 0} → (X → Bool) → Option X → Option X
only t None = None
only t (Some x) = if t x then Some x else None

-- the SVID that is kept for an ask, if there is one
unfoldable pub kept_for : List Svid → Ask → Option Svid
kept_for svids a = find (λ s. same_ask s.ask a) svids

-- ---- what is due

-- a kept SVID is to be replaced: it was signed before `renew_before`, or begins after now, or half of its time has passed
abbrev pub is_to_be_replaced : ℕ → ℕ → Signed → Bool
is_to_be_replaced renew_before now g = not (is_wanted renew_before now g) || is_half_over now g

-- no SVID is kept for the ask, or the kept one is to be replaced
unfoldable pub is_due : ℕ → ℕ → List Svid → Ask → Bool
is_due renew_before now svids a = unwrap_or (option_map (λ s. is_to_be_replaced renew_before now s.signed) (kept_for svids a)) true

-- the asks that are due at a time
abbrev pub due_asks : ℕ → Cached → List Ask
due_asks now c = filter (is_due c.renew_before now c.svids) c.asks

-- ---- what changes

-- other asks and another `renew_before`: the SVIDs stay whose ask is among them
abbrev pub with_asks : List Ask → ℕ → Cached → Cached
with_asks asks renew_before c = record { asks = asks; svids = filter (λ s. is_listed asks s.ask) c.svids; renew_before = renew_before }

-- the SVID is not over
abbrev pub lasts : ℕ → Svid → Bool
lasts now s = nat_lt now s.signed.not_after

-- one of the SVIDs has expired
unfoldable pub has_ended : ℕ → Cached → Bool
has_ended now c = list_any (λ s. not (lasts now s)) c.svids

-- the SVIDs stay that are not over
abbrev pub without_ended : ℕ → Cached → Cached
without_ended now c = record { asks = c.asks; svids = filter (lasts now) c.svids; renew_before = c.renew_before }

-- the SVID is that of an entry below this one, or above it
abbrev pub is_below : List ℕ → Svid → Bool
is_below id s = blocks.is_below svid_key id s

abbrev pub is_above : List ℕ → Svid → Bool
is_above id s = blocks.is_above svid_key id s

-- this very SVID is kept already
unfoldable pub keeps : List Svid → Svid → Bool
keeps svids s = unwrap_or (option_map (λ k. same_signed k.signed s.signed) (kept_for svids s.ask)) false

-- the SVID takes the place of its entry's one
unfoldable pub with_svid : Svid → List Svid → List Svid
with_svid s svids = blocks.with_item svid_key s svids

-- ---- Install: the first reason against a new SVID, or else it is kept

-- the kept one is still wanted, and ends no earlier: one that was signed before `renew_before` or begins after now gives
-- way to any new one
abbrev pub unless_older : ℕ → ℕ → Signed → Option Svid → Installed
unless_older renew_before now g None = installed.Kept
unless_older renew_before now g (Some k) =
    if is_wanted renew_before now k.signed && nat_le g.not_after k.signed.not_after then installed.Older k.signed.not_after else installed.Kept

-- it is of no use
abbrev pub unless_unfit : Option Unfit → Installed → Installed
unless_unfit (Some u) rest = installed.Unfit u
unless_unfit None rest = rest

unfoldable pub install : ℕ → Svid → Cached → Installed
install now s c =
    if is_listed c.asks s.ask then unless_unfit (signed_unfit now s.signed) (unless_older c.renew_before now s.signed (kept_for c.svids s.ask))
    else installed.NoSuchAsk

-- what the answer makes of the cache
abbrev pub after_install : Installed → Svid → Cached → Cached
after_install installed.Kept s c = record { asks = c.asks; svids = with_svid s c.svids; renew_before = c.renew_before }
after_install _ s c = c

-- it was not kept
abbrev pub is_refused : Installed → Bool
is_refused installed.Kept = false
is_refused _ = true

-- ---- the facts that every cache has

-- Asks and SVIDs rise by entry id, so that there is at most one of each for an entry; each SVID was signed for one of
-- the asks, and is within its limits.
pub record IsCached (c : Cached) : Type 0 where
  pub asks : Rises (map ask_key c.asks)
  pub svids : Rises (map svid_key c.svids)
  pub listed : AllByRecursion (λ s. is_listed c.asks s.ask ≡ true) c.svids
  pub within : AllByRecursion (λ s. SignedWithin s.signed) c.svids
  pub few : length c.asks < 2 ^ 32
