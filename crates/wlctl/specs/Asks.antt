-- The words that ask for files (own rule): `keep FOLDER` and `fetch x509 --write FOLDER`, where FOLDER isn't empty and doesn't
-- begin with `-`. With `--envoy` after them Envoy's file is due too, in which the folder's path stands: it begins with `/`.
use Rattle.std.specs.Prelude.{ℕ, ◌==◌, ◌&&◌, not, if◌then◌else◌, Bool, true, false, List, [], ◌∷◌, ◌++◌, codes, Option, Some, None, option_map}
use Rattle.std.specs.Str.{bytes_eq}
use Rattle.bundle_files.specs.declared.kind.BundleKind.{BundleKind}
use Rattle.bundle_files.specs.declared.kind.BundleKind.TheVariants.{X509, Jwt}

abbrev pub is_place : List ℕ → Bool
is_place [] = false
is_place (b ∷ bytes) = not (b == 45)

abbrev pub is_absolute : List ℕ → Bool
is_absolute [] = false
is_absolute (b ∷ bytes) = b == 47

abbrev pub is_keep : List ℕ → Bool
is_keep command = bytes_eq command (codes "keep")

abbrev pub is_envoy : List ℕ → Bool
is_envoy option = bytes_eq option (codes "--envoy")

abbrev pub is_write : List ℕ → List ℕ → List ℕ → Bool
is_write command what option = bytes_eq command (codes "fetch") && (bytes_eq what (codes "x509") && bytes_eq option (codes "--write"))

-- the folder, and whether Envoy's file is due
abbrev pub kept_in : List (List ℕ) → Option (List ℕ × Bool)
kept_in (command ∷ folder ∷ []) = if is_keep command && is_place folder then Some (folder, false) else None
kept_in (command ∷ folder ∷ envoy ∷ []) = if is_keep command && (is_envoy envoy && is_absolute folder) then Some (folder, true) else None
kept_in _ = None

abbrev pub written_to : List (List ℕ) → Option (List ℕ × Bool)
written_to (command ∷ what ∷ option ∷ folder ∷ []) = if is_write command what option && is_place folder then Some (folder, false) else None
written_to (command ∷ what ∷ option ∷ folder ∷ envoy ∷ []) = if is_write command what option && (is_envoy envoy && is_absolute folder) then Some (folder, true) else None
written_to _ = None

-- ---- bundles: `fetch bundles --write FOLDER`, `fetch jwt-bundles --write FOLDER`

abbrev pub kind_named : List ℕ → Option BundleKind
kind_named what =
    if bytes_eq what (codes "bundles") then Some X509
    else if bytes_eq what (codes "jwt-bundles") then Some Jwt
    else None

abbrev pub is_bundles_write : List ℕ → List ℕ → Bool
is_bundles_write command option = bytes_eq command (codes "fetch") && bytes_eq option (codes "--write")

-- which bundles, and the folder
abbrev pub bundles_to : List (List ℕ) → Option (BundleKind × List ℕ)
bundles_to (command ∷ what ∷ option ∷ folder ∷ []) =
    if is_bundles_write command option && is_place folder then option_map (λ kind. (kind, folder)) (kind_named what) else None
bundles_to _ = None

-- ---- tokens beside the files: `--jwt AUDIENCE`, up to eight times, after all other words

abbrev pub is_jwt : List ℕ → Bool
is_jwt option = bytes_eq option (codes "--jwt")

-- the audiences of words of which the first has to be `--jwt` (true), or is an audience, after those that were found
abbrev pub audiences_from : List (List ℕ) → Bool → List (List ℕ) → Option (List (List ℕ))
audiences_from found true [] = Some found
audiences_from found false [] = None
audiences_from found true (w ∷ ws) = if is_jwt w then audiences_from found false ws else None
audiences_from found false (w ∷ ws) = audiences_from (found ++ w ∷ []) true ws
