-- The files of a caller's bundles (own rules): `DOMAIN.pem` of each bundle of an `X509BundlesResponse`, its certificates as PEM;
-- `DOMAIN.jwks.json` of each bundle of a `JWTBundlesResponse`, the JWK set as it came. None is secret.
use Rattle.std.specs.Prelude.{ℕ, ◌&&◌, nat_le, if◌then◌else◌, Bool, true, false, List, ◌++◌, length, codes, map, Option, Some, None, Result, Ok, Err}
use Rattle.std.specs.List.{list_all}
use Rattle.pb_wire.specs.declared.fault.FieldFault.{FieldFault}
use Rattle.wl_client.specs.declared.response.BundlesResponse.{BundlesResponse}
use Rattle.wl_client.specs.declared.response.JwtBundlesResponse.{JwtBundlesResponse}
use Rattle.wl_client.specs.declared.response.MapItem.{MapItem}
use Rattle.wl_client.specs.Messages.{bundles_of, jwt_bundles_of}
use Rattle.svid_forms.specs.Blocks.{certificates}
use Rattle.svid_forms.specs.Elements.{is_whole}
use Rattle.file_sets.specs.declared.set.File.{File}
use Rattle.svid_files.specs.Names.{domain_of, is_domain}
use Rattle.bundle_files.specs.declared.kind.BundleKind.{BundleKind}
use Rattle.bundle_files.specs.declared.kind.BundleKind.TheVariants.{X509, Jwt}

-- ---- files

unfoldable pub ending_of : BundleKind → List ℕ
ending_of X509 = codes ".pem"
ending_of Jwt = codes ".jwks.json"

unfoldable pub name_of : BundleKind → List ℕ → List ℕ
name_of kind domain = domain ++ ending_of kind

abbrev pub bytes_of : BundleKind → List ℕ → List ℕ
bytes_of X509 bundle = certificates bundle
bytes_of Jwt bundle = bundle

unfoldable pub file_of : BundleKind → MapItem → File
file_of kind b = record { name = name_of kind (domain_of b.key); is_secret = false; bytes = bytes_of kind b.value }

unfoldable pub files_of : BundleKind → List MapItem → List File
files_of kind bundles = map (file_of kind) bundles

-- ---- which bundles have files

-- each certificate is whole; a JWT bundle isn't judged
abbrev pub is_whole_as : BundleKind → List ℕ → Bool
is_whole_as X509 bundle = is_whole bundle
is_whole_as Jwt bundle = true

abbrev pub is_fit : BundleKind → MapItem → Bool
is_fit kind b = is_domain (domain_of b.key) && is_whole_as kind b.value

-- there is one at least; each has a name; certificates are whole
unfoldable pub have_files : BundleKind → List MapItem → Bool
have_files kind bundles = nat_le 1 (length bundles) && list_all (is_fit kind) bundles

abbrev pub files_if : BundleKind → List MapItem → Option (List File)
files_if kind bundles = if have_files kind bundles then Some (files_of kind bundles) else None

-- ---- messages

abbrev pub x509_files : Result BundlesResponse FieldFault → Option (List File)
x509_files (Ok m) = files_if X509 m.bundles
x509_files (Err fault) = None

abbrev pub jwt_files : Result JwtBundlesResponse FieldFault → Option (List File)
jwt_files (Ok m) = files_if Jwt m.bundles
jwt_files (Err fault) = None

-- the files of a message that came as these bytes, where it has any
abbrev pub files_in : BundleKind → List ℕ → Option (List File)
files_in X509 message = x509_files (bundles_of message)
files_in Jwt message = jwt_files (jwt_bundles_of message)
