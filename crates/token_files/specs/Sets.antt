-- The set of files of a message and of the answers that belong to it (own rule): those of the message, those of each answer of
-- FetchJWTSVID in turn, and `jwks.json`. There is none where any part has none.
use Rattle.std.specs.Prelude.{ℕ, if◌then◌else◌, List, [], ◌∷◌, ◌++◌, Option, Some, None, Result, Ok, Err, option_map}
use Rattle.std.specs.List.{list_all, flat_map}
use Rattle.pb_wire.specs.declared.fault.FieldFault.{FieldFault}
use Rattle.wl_client.specs.declared.response.X509Response.{X509Response}
use Rattle.wl_client.specs.declared.response.X509Item.{X509Item}
use Rattle.wl_client.specs.Messages.{x509_of}
use Rattle.file_sets.specs.declared.set.File.{File}
use Rattle.svid_files.specs.Files.{files_in}
use Rattle.token_files.specs.declared.answers.Answers.{Answers}
use Rattle.token_files.specs.Tokens.{tokens_of, has_tokens, jwks_of, jwks_file}

-- ---- whose bundle is the own one

abbrev pub first_id : List X509Item → List ℕ
first_id [] = []
first_id (s ∷ more) = s.spiffe_id

abbrev pub id_by : Result X509Response FieldFault → List ℕ
id_by (Ok m) = first_id m.svids
id_by (Err fault) = []

-- the id of a message's first SVID
unfoldable pub id_of : List ℕ → List ℕ
id_of message = id_by (x509_of message)

-- ---- the set

abbrev pub answer_files : Answers → List ℕ → List File
answer_files answers jwks = flat_map tokens_of answers.tokens ++ jwks_file jwks ∷ []

-- the files of the answers to the caller with this id
unfoldable pub token_set : List ℕ → Answers → Option (List File)
token_set id answers = if list_all has_tokens answers.tokens then option_map (answer_files answers) (jwks_of id answers.bundles) else None

abbrev pub joined : Option (List File) → Option (List File) → Option (List File)
joined (Some files) (Some more) = Some (files ++ more)
joined (Some files) None = None
joined None more = None

unfoldable pub set_of : Option (List ℕ) → List ℕ → Answers → Option (List File)
set_of envoy message answers = joined (files_in envoy message) (token_set (id_of message) answers)
