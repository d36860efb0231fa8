-- `sds.yaml` (own rule): the secrets of Envoy's SDS that a message's files are, for `path_config_source`
-- (envoy.service.discovery.v3.DiscoveryResponse, envoy.extensions.transport_sockets.tls.v3.Secret). FOLDER is the folder in which
-- the files are seen. The secret `svid` has the chain and the key of the first SVID, `svid.N` of its Nth; `bundle`, `bundle.N` and
-- `federated/DOMAIN` have the authorities of a bundle. Values are YAML 1.2's double-quoted texts, of which JSON's are some (7.3.1).
use Rattle.std.specs.Prelude.{ℕ, ◌+◌, false, List, [], ◌∷◌, ◌++◌, codes, Option, Some, None}
use Rattle.std.specs.List.{flat_map}
use Rattle.wl_client.specs.declared.response.X509Response.{X509Response}
use Rattle.wl_client.specs.declared.response.X509Item.{X509Item}
use Rattle.wl_client.specs.declared.response.MapItem.{MapItem}
use Rattle.svid_forms.specs.Json.{escaped}
use Rattle.file_sets.specs.declared.set.File.{File}
use Rattle.svid_files.specs.declared.words.Word.{Word}
use Rattle.svid_files.specs.declared.words.Word.TheVariants as words
use Rattle.svid_files.specs.Names.{called, numbered, domain_of, federated_call, federated_name}

-- ---- lines

unfoldable pub word_text : Word → List ℕ
word_text words.Resources = codes "resources:\n"
word_text words.Secret = codes "- \"@type\": type.googleapis.com/envoy.extensions.transport_sockets.tls.v3.Secret\n"
word_text words.Name = codes "  name: "
word_text words.Certificate = codes "  tls_certificate:\n    certificate_chain:\n"
word_text words.Key = codes "    private_key:\n"
word_text words.Trusted = codes "  validation_context:\n    trusted_ca:\n"
word_text words.Watched = codes "    watched_directory:\n"
word_text words.Filename = codes "      filename: "
word_text words.Path = codes "      path: "

-- a word and its value
unfoldable pub line : Word → List ℕ → List ℕ
line word value = word_text word ++ 34 ∷ escaped value ++ 34 ∷ 10 ∷ []

unfoldable pub path_of : List ℕ → List ℕ → List ℕ
path_of folder name = folder ++ 47 ∷ name

-- Envoy reads the files again where a name in the folder was exchanged, as `..data` is
unfoldable pub watched : List ℕ → List ℕ
watched folder = word_text words.Watched ++ line words.Path folder

unfoldable pub secret : List ℕ → List ℕ
secret name = word_text words.Secret ++ line words.Name name

-- ---- secrets

unfoldable pub certificate_part : List ℕ → List ℕ → List ℕ → List ℕ
certificate_part folder chain key =
    word_text words.Certificate ++ line words.Filename (path_of folder chain) ++ word_text words.Key ++ line words.Filename (path_of folder key)

unfoldable pub trusted_part : List ℕ → List ℕ → List ℕ
trusted_part folder bundle = word_text words.Trusted ++ line words.Filename (path_of folder bundle)

unfoldable pub own_secret : List ℕ → ℕ → List ℕ
own_secret folder at =
    secret (called (codes "svid") at) ++ certificate_part folder (numbered (codes "svid") at) (numbered (codes "key") at) ++ watched folder

unfoldable pub trusted_secret : List ℕ → List ℕ → List ℕ → List ℕ
trusted_secret folder name bundle = secret name ++ trusted_part folder bundle ++ watched folder

unfoldable pub svid_secrets : List ℕ → ℕ → List ℕ
svid_secrets folder at = own_secret folder at ++ trusted_secret folder (called (codes "bundle") at) (numbered (codes "bundle") at)

abbrev pub secrets_from : List ℕ → ℕ → List X509Item → List ℕ
secrets_from folder at [] = []
secrets_from folder at (s ∷ more) = svid_secrets folder at ++ secrets_from folder (at + 1) more

unfoldable pub federated_secret : List ℕ → MapItem → List ℕ
federated_secret folder b = trusted_secret folder (federated_call (domain_of b.key)) (federated_name (domain_of b.key))

unfoldable pub sds_text : List ℕ → X509Response → List ℕ
sds_text folder m = word_text words.Resources ++ secrets_from folder 0 m.svids ++ flat_map (federated_secret folder) m.federated

-- ---- the file

abbrev pub sds_file : List ℕ → X509Response → File
sds_file folder m = record { name = codes "sds.yaml"; is_secret = false; bytes = sds_text folder m }

-- the file for the folder that is named, if one is
abbrev pub sds_files : Option (List ℕ) → X509Response → List File
sds_files None m = []
sds_files (Some folder) m = sds_file folder m ∷ []
