-- The lines that ask a signer (own rules): compact JSON as `serde_json` writes it, keys by their bytes, then a newline.
use Rattle.std.specs.Prelude.{ℕ, ◌&&◌, List, [], ◌∷◌, ◌++◌, map, codes, Bool}
use Rattle.std.specs.List.{list_all}
use Rattle.std.specs.Str.{is_utf8}
use Rattle.serde_json.specs.Data.{Data, string, number as json_number, unsigned, array, object, member, no_members}
use Rattle.serde_json.specs.View.{items_of}
use Rattle.serde_json.specs.Written.{compact_text}
use Rattle.wl_entry.specs.declared.asks.Ask.{Ask}

-- each is UTF-8
abbrev pub are_texts : List (List ℕ) → Bool
are_texts list = list_all is_utf8 list

-- the texts of an ask are UTF-8
abbrev pub is_text_ask : Ask → Bool
is_text_ask ask = is_utf8 ask.entry_id && (is_utf8 ask.spiffe_id && are_texts ask.dns_names)

-- an array of texts
abbrev pub texts : List (List ℕ) → Data
texts list = array (items_of (map string list))

-- `number` counts the asks of a stream from 1 on.
unfoldable pub x509_request : ℕ → Ask → Data
x509_request number ask =
    object (member (codes "dns_names") (texts ask.dns_names)
    (member (codes "entry") (string ask.entry_id)
    (member (codes "kind") (string (codes "x509"))
    (member (codes "number") (json_number (unsigned number))
    (member (codes "spiffe_id") (string ask.spiffe_id)
    (member (codes "ttl") (json_number (unsigned ask.ttl))
    (member (codes "version") (json_number (unsigned 1)) no_members)))))))

unfoldable pub jwt_request : ℕ → Ask → List (List ℕ) → Data
jwt_request number ask audience =
    object (member (codes "audience") (texts audience)
    (member (codes "entry") (string ask.entry_id)
    (member (codes "kind") (string (codes "jwt"))
    (member (codes "number") (json_number (unsigned number))
    (member (codes "spiffe_id") (string ask.spiffe_id)
    (member (codes "version") (json_number (unsigned 1)) no_members))))))

-- one line
unfoldable pub line_of : Data → List ℕ
line_of request = compact_text request ++ 10 ∷ []

abbrev pub x509_line : ℕ → Ask → List ℕ
x509_line number ask = line_of (x509_request number ask)

abbrev pub jwt_line : ℕ → Ask → List (List ℕ) → List ℕ
jwt_line number ask audience = line_of (jwt_request number ask audience)
