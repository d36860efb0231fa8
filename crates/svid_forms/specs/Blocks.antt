-- SVIDs and bundles as PEM (RFC 7468). Before the blocks of an SVID and of a bundle stands a line that says whose they are, as
-- section 2 allows (own rule). A name in it is escaped as in JSON, so it makes no second line.
use Rattle.std.specs.Prelude.{◌&&◌, Bool, ℕ, List, [], ◌∷◌, ◌++◌, codes}
use Rattle.std.specs.List.{flat_map, list_all}
use Rattle.pem_text.specs.Pem.{pem}
use Rattle.wl_client.specs.declared.response.X509Item.{X509Item}
use Rattle.wl_client.specs.declared.response.MapItem.{MapItem}
use Rattle.svid_forms.specs.Elements.{is_whole, pieces_of}
use Rattle.svid_forms.specs.Json.{escaped}

abbrev pub certificate : List ℕ → List ℕ
certificate der = pem (codes "CERTIFICATE") der

-- a block for each certificate
unfoldable pub certificates : List ℕ → List ℕ
certificates der = flat_map certificate (pieces_of der)

-- PKCS #8, as it came (RFC 7468, section 10)
unfoldable pub private_key : List ℕ → List ℕ
private_key der = pem (codes "PRIVATE KEY") der

unfoldable pub title : List ℕ → List ℕ → List ℕ
title word name = word ++ escaped name ++ 10 ∷ []

unfoldable pub svid_blocks : X509Item → List ℕ
svid_blocks s = title (codes "svid ") s.spiffe_id ++ certificates s.chain ++ private_key s.key ++ title (codes "bundle ") s.spiffe_id ++ certificates s.bundle

unfoldable pub bundle_blocks : MapItem → List ℕ
bundle_blocks b = title (codes "bundle ") b.key ++ certificates b.value

-- the certificates of an SVID and of its bundle are whole
abbrev pub is_svid_whole : X509Item → Bool
is_svid_whole s = is_whole s.chain && is_whole s.bundle

abbrev pub is_bundle_whole : MapItem → Bool
is_bundle_whole b = is_whole b.value
