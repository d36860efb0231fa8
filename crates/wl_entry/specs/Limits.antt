-- The limits of what an entry, a bundle and a signed identity hold (own rules).
use Rattle.std.specs.Prelude.{◌+◌, ◌≤◌, length}
use Rattle.wl_entry.specs.declared.limits.TheConstants.{MAX_ID_LEN, MAX_SELECTORS, MAX_FEDERATED, MAX_DNS_NAMES, MAX_HINT_LEN, MAX_PART_LEN, MAX_SIGNED_LEN}
use Rattle.wl_entry.specs.declared.entries.Entry.{Entry}
use Rattle.wl_entry.specs.declared.bundles.Bundle.{Bundle}
use Rattle.wl_entry.specs.declared.signing.Signed.{Signed}

pub record EntryWithin (e : Entry) : Type 0 where
  pub id : length e.id ≤ MAX_ID_LEN
  pub selectors : length e.selectors ≤ MAX_SELECTORS
  pub federates_with : length e.federates_with ≤ MAX_FEDERATED
  pub dns_names : length e.dns_names ≤ MAX_DNS_NAMES
  pub hint : length e.hint ≤ MAX_HINT_LEN

pub record BundleWithin (b : Bundle) : Type 0 where
  pub x509 : length b.x509 ≤ MAX_PART_LEN
  pub jwks : length b.jwks ≤ MAX_PART_LEN

pub record SignedWithin (s : Signed) : Type 0 where
  pub size : length s.chain + length s.key ≤ MAX_SIGNED_LEN
