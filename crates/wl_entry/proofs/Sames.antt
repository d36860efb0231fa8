-- What is equal by the tests is equal, and what is equal passes them.
use Rattle.std.specs.Prelude.{◌≡◌, ℕ, ◌==◌, ◌&&◌, Bool, true, false, List, [], ◌∷◌, ◌↔◌}
use Rattle.std.specs.Str.{bytes_eq}
use Rattle.std.specs.Cmp.Lexicographic.{pointwise}
use Rattle.std.proofs.Common.{refl, subst}
use Rattle.std.proofs.lemmas.Bool.{and_parts}
use Rattle.list_laws.proofs.Equality.{numbers_are, same_number, bytes_are, same_bytes, lists_are, texts_are}
use Rattle.wl_entry.specs.declared.asks.Ask.{Ask}
use Rattle.wl_entry.specs.declared.entries.Entry.{Entry}
use Rattle.wl_entry.specs.declared.bundles.Bundle.{Bundle}
use Rattle.wl_entry.specs.declared.signing.Signed.{Signed}
use Rattle.wl_entry.specs.declared.signing.Svid.{Svid}
use Rattle.wl_entry.specs.declared.tokens.JwtToken.{JwtToken}
use Rattle.wl_entry.specs.Same.{same_ask, same_entry, same_signed, same_svid, same_bundle, same_token}

pub ask_is : (a b : Ask) → same_ask a b ≡ true → a ≡ b
ask_is a b is =
    let id = and_parts (bytes_eq a.entry_id b.entry_id) _ is in
    let spiffe = and_parts (bytes_eq a.spiffe_id b.spiffe_id) _ id.1 in
    let names = and_parts (pointwise bytes_eq a.dns_names b.dns_names) (a.ttl == b.ttl) spiffe.1 in
    λ i. record {
      entry_id = bytes_are a.entry_id b.entry_id id.0 i;
      spiffe_id = bytes_are a.spiffe_id b.spiffe_id spiffe.0 i;
      dns_names = texts_are a.dns_names b.dns_names names.0 i;
      ttl = numbers_are a.ttl b.ttl names.1 i;
    }

pub entry_is : (a b : Entry) → same_entry a b ≡ true → a ≡ b
entry_is a b is =
    let id = and_parts (bytes_eq a.id b.id) _ is in
    let spiffe = and_parts (bytes_eq a.spiffe_id b.spiffe_id) _ id.1 in
    let selectors = and_parts (pointwise bytes_eq a.selectors b.selectors) _ spiffe.1 in
    let federates = and_parts (pointwise bytes_eq a.federates_with b.federates_with) _ selectors.1 in
    let names = and_parts (pointwise bytes_eq a.dns_names b.dns_names) _ federates.1 in
    let ttl = and_parts (a.ttl == b.ttl) (bytes_eq a.hint b.hint) names.1 in
    λ i. record {
      id = bytes_are a.id b.id id.0 i;
      spiffe_id = bytes_are a.spiffe_id b.spiffe_id spiffe.0 i;
      selectors = texts_are a.selectors b.selectors selectors.0 i;
      federates_with = texts_are a.federates_with b.federates_with federates.0 i;
      dns_names = texts_are a.dns_names b.dns_names names.0 i;
      ttl = numbers_are a.ttl b.ttl ttl.0 i;
      hint = bytes_are a.hint b.hint ttl.1 i;
    }

pub signed_is : (a b : Signed) → same_signed a b ≡ true → a ≡ b
signed_is a b is =
    let chain = and_parts (bytes_eq a.chain b.chain) _ is in
    let key = and_parts (bytes_eq a.key b.key) _ chain.1 in
    let times = and_parts (a.not_before == b.not_before) (a.not_after == b.not_after) key.1 in
    λ i. record {
      chain = bytes_are a.chain b.chain chain.0 i;
      key = bytes_are a.key b.key key.0 i;
      not_before = numbers_are a.not_before b.not_before times.0 i;
      not_after = numbers_are a.not_after b.not_after times.1 i;
    }

pub svid_is : (a b : Svid) → same_svid a b ≡ true → a ≡ b
svid_is a b is =
    let parts = and_parts (same_ask a.ask b.ask) (same_signed a.signed b.signed) is in
    λ i. record { ask = ask_is a.ask b.ask parts.0 i; signed = signed_is a.signed b.signed parts.1 i }

pub bundle_is : (a b : Bundle) → same_bundle a b ≡ true → a ≡ b
bundle_is a b is =
    let domain = and_parts (bytes_eq a.domain b.domain) _ is in
    let parts = and_parts (bytes_eq a.x509 b.x509) (bytes_eq a.jwks b.jwks) domain.1 in
    λ i. record { domain = bytes_are a.domain b.domain domain.0 i; x509 = bytes_are a.x509 b.x509 parts.0 i; jwks = bytes_are a.jwks b.jwks parts.1 i }

pub token_is : (a b : JwtToken) → same_token a b ≡ true → a ≡ b
token_is a b is =
    let token = and_parts (bytes_eq a.token b.token) _ is in
    let times = and_parts (a.issued_at == b.issued_at) (a.expires_at == b.expires_at) token.1 in
    λ i. record { token = bytes_are a.token b.token token.0 i; issued_at = numbers_are a.issued_at b.issued_at times.0 i; expires_at = numbers_are a.expires_at b.expires_at times.1 i }

pub entries_are : (xs ys : List Entry) → pointwise same_entry xs ys ≡ true → xs ≡ ys
entries_are xs ys is = lists_are same_entry entry_is xs ys is

pub svids_are : (xs ys : List Svid) → pointwise same_svid xs ys ≡ true → xs ≡ ys
svids_are xs ys is = lists_are same_svid svid_is xs ys is

pub bundles_are : (xs ys : List Bundle) → pointwise same_bundle xs ys ≡ true → xs ≡ ys
bundles_are xs ys is = lists_are same_bundle bundle_is xs ys is

-- ---- what is equal passes the tests

pub both_true : (a b : Bool) → a ≡ true → b ≡ true → (a && b) ≡ true
both_true true b is and = and
both_true false b is and = is

pub list_self : {X : Type 0} (t : X → X → Bool) → ((x : X) → t x x ≡ true) → (xs : List X) → pointwise t xs xs ≡ true
list_self t self [] = refl
list_self t self (x ∷ xs) = both_true (t x x) (pointwise t xs xs) (self x) (list_self t self xs)

pub texts_self : (xs : List (List ℕ)) → pointwise bytes_eq xs xs ≡ true
texts_self xs = list_self bytes_eq same_bytes xs

pub ask_self : (a : Ask) → same_ask a a ≡ true
ask_self a = both_true _ _ (same_bytes a.entry_id) (both_true _ _ (same_bytes a.spiffe_id) (both_true _ _ (texts_self a.dns_names) (same_number a.ttl)))

pub entry_self : (a : Entry) → same_entry a a ≡ true
entry_self a =
    both_true _ _ (same_bytes a.id) (both_true _ _ (same_bytes a.spiffe_id) (both_true _ _ (texts_self a.selectors)
    (both_true _ _ (texts_self a.federates_with) (both_true _ _ (texts_self a.dns_names) (both_true _ _ (same_number a.ttl) (same_bytes a.hint))))))

pub svid_self : (a : Svid) → same_svid a a ≡ true
svid_self a =
    both_true _ _ (ask_self a.ask) (both_true _ _ (same_bytes a.signed.chain) (both_true _ _ (same_bytes a.signed.key)
    (both_true _ _ (same_number a.signed.not_before) (same_number a.signed.not_after))))

pub bundle_self : (a : Bundle) → same_bundle a a ≡ true
bundle_self a = both_true _ _ (same_bytes a.domain) (both_true _ _ (same_bytes a.x509) (same_bytes a.jwks))

signed_self : (a : Signed) → same_signed a a ≡ true
signed_self a = both_true _ _ (same_bytes a.chain) (both_true _ _ (same_bytes a.key) (both_true _ _ (same_number a.not_before) (same_number a.not_after)))

token_self : (a : JwtToken) → same_token a a ≡ true
token_self a = both_true _ _ (same_bytes a.token) (both_true _ _ (same_number a.issued_at) (same_number a.expires_at))

-- ---- a test that is true of each item beside itself, and of no two others, decides

decided : {X : Type 0} (t : X → X → Bool) → ((x y : X) → t x y ≡ true → x ≡ y) → ((x : X) → t x x ≡ true) → (a b : X) → (t a b ≡ true) ↔ (a ≡ b)
decided t are self a b = (are a b, λ same. subst (λ x. t a x ≡ true) same (self a))

pub asks_decided : (a b : Ask) → (same_ask a b ≡ true) ↔ (a ≡ b)
asks_decided = decided same_ask ask_is ask_self

pub entries_decided : (a b : Entry) → (same_entry a b ≡ true) ↔ (a ≡ b)
entries_decided = decided same_entry entry_is entry_self

pub bundles_decided : (a b : Bundle) → (same_bundle a b ≡ true) ↔ (a ≡ b)
bundles_decided = decided same_bundle bundle_is bundle_self

pub identities_decided : (a b : Signed) → (same_signed a b ≡ true) ↔ (a ≡ b)
identities_decided = decided same_signed signed_is signed_self

pub svids_decided : (a b : Svid) → (same_svid a b ≡ true) ↔ (a ≡ b)
svids_decided = decided same_svid svid_is svid_self

pub tokens_decided : (a b : JwtToken) → (same_token a b ≡ true) ↔ (a ≡ b)
tokens_decided = decided same_token token_is token_self
