-- Tests of equality, which compute: field by field.
use Rattle.std.specs.Prelude.{◌==◌, ◌&&◌, Bool}
use Rattle.std.specs.Str.{bytes_eq}
use Rattle.std.specs.Cmp.Lexicographic.{pointwise}
use Rattle.wl_entry.specs.declared.asks.Ask.{Ask}
use Rattle.wl_entry.specs.declared.entries.Entry.{Entry}
use Rattle.wl_entry.specs.declared.bundles.Bundle.{Bundle}
use Rattle.wl_entry.specs.declared.signing.Signed.{Signed}
use Rattle.wl_entry.specs.declared.signing.Svid.{Svid}
use Rattle.wl_entry.specs.declared.tokens.JwtToken.{JwtToken}

abbrev pub same_ask : Ask → Ask → Bool
same_ask a b = bytes_eq a.entry_id b.entry_id && (bytes_eq a.spiffe_id b.spiffe_id && (pointwise bytes_eq a.dns_names b.dns_names && (a.ttl == b.ttl)))

abbrev pub same_entry : Entry → Entry → Bool
same_entry a b = bytes_eq a.id b.id && (bytes_eq a.spiffe_id b.spiffe_id && (pointwise bytes_eq a.selectors b.selectors && (pointwise bytes_eq a.federates_with b.federates_with && (pointwise bytes_eq a.dns_names b.dns_names && ((a.ttl == b.ttl) && bytes_eq a.hint b.hint)))))

abbrev pub same_signed : Signed → Signed → Bool
same_signed a b = bytes_eq a.chain b.chain && (bytes_eq a.key b.key && ((a.not_before == b.not_before) && (a.not_after == b.not_after)))

abbrev pub same_svid : Svid → Svid → Bool
same_svid a b = same_ask a.ask b.ask && same_signed a.signed b.signed

abbrev pub same_bundle : Bundle → Bundle → Bool
same_bundle a b = bytes_eq a.domain b.domain && (bytes_eq a.x509 b.x509 && bytes_eq a.jwks b.jwks)

abbrev pub same_token : JwtToken → JwtToken → Bool
same_token a b = bytes_eq a.token b.token && ((a.issued_at == b.issued_at) && (a.expires_at == b.expires_at))
