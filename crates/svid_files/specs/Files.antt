-- The files of a message (own rules): `svid.pem`, `key.pem` and `bundle.pem` of its first SVID; `svid.N.pem`, `key.N.pem` and
-- `bundle.N.pem` of its Nth, from the second on; `federated/DOMAIN.pem` of each federated bundle. The keys are secret.
use Rattle.std.specs.Prelude.{ℕ, ◌+◌, ◌&&◌, nat_le, if◌then◌else◌, Bool, true, false, List, [], ◌∷◌, ◌++◌, length, codes, map, Option, Some, None, Result, Ok, Err}
use Rattle.std.specs.List.{list_all}
use Rattle.pb_wire.specs.declared.fault.FieldFault.{FieldFault}
use Rattle.wl_client.specs.declared.response.X509Response.{X509Response}
use Rattle.wl_client.specs.declared.response.X509Item.{X509Item}
use Rattle.wl_client.specs.declared.response.MapItem.{MapItem}
use Rattle.wl_client.specs.Messages.{x509_of}
use Rattle.svid_forms.specs.Blocks.{certificates, private_key, is_svid_whole, is_bundle_whole}
use Rattle.file_sets.specs.declared.set.File.{File}
use Rattle.svid_files.specs.Names.{numbered, domain_of, is_domain, federated_name}
use Rattle.svid_files.specs.Sds.{sds_files}

-- ---- files

unfoldable pub svid_files : ℕ → X509Item → List File
svid_files at s =
    record { name = numbered (codes "svid") at; is_secret = false; bytes = certificates s.chain }
    ∷ record { name = numbered (codes "key") at; is_secret = true; bytes = private_key s.key }
    ∷ record { name = numbered (codes "bundle") at; is_secret = false; bytes = certificates s.bundle } ∷ []

unfoldable pub federated_file : MapItem → File
federated_file b = record { name = federated_name (domain_of b.key); is_secret = false; bytes = certificates b.value }

abbrev pub svids_from : ℕ → List X509Item → List File
svids_from at [] = []
svids_from at (s ∷ more) = svid_files at s ++ svids_from (at + 1) more

unfoldable pub files_of : X509Response → List File
files_of m = svids_from 0 m.svids ++ map federated_file m.federated

-- ---- which messages have files

abbrev pub is_bundle_fit : MapItem → Bool
is_bundle_fit b = is_domain (domain_of b.key) && is_bundle_whole b

-- at least one SVID; each certificate is whole; each federated bundle has a name
unfoldable pub has_files : X509Response → Bool
has_files m = nat_le 1 (length m.svids) && (list_all is_svid_whole m.svids && list_all is_bundle_fit m.federated)

-- the files of a message, and that for Envoy where its folder is named
abbrev pub files_with : Option (List ℕ) → X509Response → List File
files_with envoy m = files_of m ++ sds_files envoy m

abbrev pub files_by : Option (List ℕ) → Result X509Response FieldFault → Option (List File)
files_by envoy (Ok m) = if has_files m then Some (files_with envoy m) else None
files_by envoy (Err fault) = None

-- the same of a message that came as these bytes, where it has any
unfoldable pub files_in : Option (List ℕ) → List ℕ → Option (List File)
files_in envoy message = files_by envoy (x509_of message)
