-- What each fault says in a sentence, fault by fault (own rules).
use Rattle.std.specs.Prelude.{◌≡◌, ℕ, ◌==◌, ◌&&◌, true, not, if◌then◌else◌, List, [], ◌++◌, codes}
use Rattle.std.specs.List.{list_all}
use Rattle.std.specs.Fmt.{decimal}
use Rattle.spiffe_id.specs.declared.faults.IdFault.{IdFault}
use Rattle.spiffe_id.specs.declared.faults.IdFault.TheVariants as id
use Rattle.fault_lines.specs.Names as names
use Rattle.fault_lines.specs.Sentences as sentences
use Rattle.fault_lines.specs.Texts as say
use Rattle.wl_document.specs.declared.fault.Place.{Place}
use Rattle.wl_document.specs.declared.fault.DocFault.{DocFault}
use Rattle.wl_document.specs.declared.fault.DocFault.TheVariants as document
use Rattle.wl_config.specs.declared.fault.ConfigFault.{ConfigFault}
use Rattle.wl_config.specs.declared.fault.ConfigFault.TheVariants as config
use Rattle.wl_replay.specs.declared.fault.ScriptFault.{ScriptFault}
use Rattle.wl_replay.specs.declared.fault.ScriptFault.TheVariants as script

-- ---- places

-- the member's name
abbrev pub name_in_document : Place → List ℕ
name_in_document p = names.document_place (sentences.place_of p.part p.index p.field p.item)

abbrev pub name_in_config : Place → List ℕ
name_in_config p = names.config_place (sentences.place_of p.part p.index p.field p.item)

-- an item of the member's own array
abbrev pub item : Place → List ℕ
item p = codes "[" ++ decimal p.item ++ codes "]"

-- the same, where it is not the first
abbrev pub later_item : Place → List ℕ
later_item p = if not (p.item == 0) then item p else []

-- Of the faults of number 5: an id is an item in `federates_with` alone. An empty path, whose fault has this number too, is in no array.
abbrev pub id_item : Place → List ℕ
id_item p = if (p.part == 2) && (p.field == 4) then item p else later_item p

-- ---- sentences

abbrev pub id_says : IdFault → List ℕ
id_says (id.TooLong n) = say.id_too_long n
id_says id.NotSpiffe = say.not_spiffe
id_says id.EmptyDomain = say.no_domain
id_says (id.DomainByte at) = say.domain_byte at
id_says (id.EmptySegment at) = say.empty_segment at
id_says (id.PathByte at) = say.path_byte at
id_says (id.DotSegment at) = say.dot_segment at
id_says id.Memory = say.id_memory

-- of a list or of its first item, which have the same numbers
abbrev pub kind_says : Place → List ℕ
kind_says p = sentences.kind_what (sentences.place_of p.part p.index p.field p.item)

abbrev pub document_says : DocFault → List ℕ
document_says document.NotJson = say.document_not_json
document_says document.Version = say.document_version
document_says (document.Missing p) = sentences.told_at (name_in_document p ++ later_item p) say.missing
document_says (document.Kind p) = sentences.told_at (name_in_document p ++ later_item p) (kind_says p)
document_says (document.Id p e) = sentences.told_at (name_in_document p ++ id_item p) (id_says e)
document_says (document.Selector p) = sentences.told_at (name_in_document p ++ item p) say.not_selector
document_says (document.NoSelectors p) = sentences.told_at (name_in_document p ++ later_item p) say.no_selectors
document_says (document.Duplicate p) = sentences.told_at (name_in_document p ++ later_item p) say.given_before
document_says (document.ForeignDomain p) = sentences.told_at (name_in_document p ++ later_item p) say.foreign_domain
document_says (document.Base64 p) = sentences.told_at (name_in_document p ++ later_item p) say.not_base64
document_says document.NoOwnBundle = say.no_own_bundle
document_says (document.TooMany p n) = sentences.told_at (name_in_document p ++ later_item p) (say.too_many_items n)
document_says (document.TooLong p n) = sentences.told_at (name_in_document p ++ later_item p) (say.too_many_bytes n)
document_says document.Memory = say.document_memory

abbrev pub config_says : ConfigFault → List ℕ
config_says config.NotJson = say.config_not_json
config_says config.Version = say.config_version
config_says (config.Missing p) = sentences.told_at (name_in_config p ++ later_item p) say.missing
config_says (config.Kind p) = sentences.told_at (name_in_config p ++ later_item p) (kind_says p)
config_says (config.EmptyText p) = sentences.told_at (name_in_config p ++ id_item p) say.empty_text
config_says (config.Selector p) = sentences.told_at (name_in_config p ++ item p) say.not_selector
config_says (config.TooMany p n) = sentences.told_at (name_in_config p ++ later_item p) (say.too_many n)
config_says (config.Duplicate p) = sentences.told_at (name_in_config p ++ later_item p) say.given_before
config_says (config.TooLong n) = say.config_too_long n
config_says config.Memory = say.config_memory

abbrev pub script_says : ScriptFault → List ℕ
script_says (script.Line n) = say.wrong_line n
script_says (script.Kind n) = say.wrong_event n
script_says (script.Conn n) = say.no_connection n
script_says (script.Hex n) = say.not_hex n
script_says (script.TooLong n) = say.script_too_long n
script_says script.Memory = say.script_memory

-- ---- names

-- nothing in the sentence is a `?`, which stands for a member without a name
abbrev pub IsNamed : List ℕ → Type 0
IsNamed text = list_all (λ b. not (b == 63)) text ≡ true
