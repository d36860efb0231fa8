-- Where a fault is (own rule): part, index of the array item (0 at the top), field (0 for the item itself), and
-- the item in the field's own array (0 where it has none).
use Rattle.std.specs.Prelude.{ℕ}
use Rattle.wl_document.specs.declared.fault.Place.{Place}

-- part 0, the document itself: 0 the whole, 1 `version`, 2 `trust_domain`, 3 `bundles`, 4 `entries`, 5 `svids`,
-- 6 `renew_before`
abbrev pub at_top : ℕ → Place
at_top field = record { part = 0; index = 0; field = field; item = 0 }

-- part 1, a bundle: 0 the item, 1 `trust_domain`, 2 `x509`, 3 `jwks`
abbrev pub at_bundle : ℕ → ℕ → Place
at_bundle index field = record { part = 1; index = index; field = field; item = 0 }

-- part 2, an entry: 0 the item, 1 `id`, 2 `spiffe_id`, 3 `selectors`, 4 `federates_with`, 5 `dns_names`, 6 `ttl`, 7 `hint`
abbrev pub at_entry : ℕ → ℕ → Place
at_entry index field = record { part = 2; index = index; field = field; item = 0 }

-- part 3, a signed identity: 0 the item, 1 `entry`, 2 `chain`, 3 `key`, 4 `not_before`, 5 `not_after`
abbrev pub at_svid : ℕ → ℕ → Place
at_svid index field = record { part = 3; index = index; field = field; item = 0 }

-- an item of the array at this place
abbrev pub item_at : Place → ℕ → Place
item_at p k = record { part = p.part; index = p.index; field = p.field; item = k }
