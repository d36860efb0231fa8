-- Each fault's line reads back to the sentence of that fault.
use Rattle.std.specs.Prelude.{◌≡◌, ℕ, ◌==◌, ◌&&◌, ◌||◌, Bool, true, false, not, if◌then◌else◌, List, [], ◌∷◌, ◌++◌, codes, Some}
use Rattle.std.proofs.Common.{refl, ◌∙◌, ap}
use Rattle.fault_laws.proofs.Common.{IdFault, AreBounded, told_at, Place, DocFault, ConfigFault, fault_numbers, config_numbers, document_says, config_says, item, id_item}
use Rattle.spiffe_id.specs.declared.faults.IdFault.TheVariants as id
use Rattle.fault_lines.specs.Explanations.{sentence, explained_text, or_line}
use Rattle.fault_lines.specs.Sentences.{place_of, has_item, item_suffix, id_what, id_what_at, document_alone, document_what, document_what_of, document_rest, document_placed, document_sentence, config_alone, config_long, config_what, config_what_of, config_rest, config_placed, config_sentence, script_alone, script_line, script_sentence}
use Rattle.fault_lines.proofs.RoundTrip.{text_read}
use Rattle.fault_lines.specs.Lines as lines
use Rattle.fault_lines.specs.Texts as say
use Rattle.wl_document.specs.declared.fault.DocFault.TheVariants as document
use Rattle.wl_config.specs.declared.fault.ConfigFault.TheVariants as config
use Rattle.wl_replay.specs.declared.fault.ScriptFault.{ScriptFault}
use Rattle.wl_replay.specs.declared.fault.ScriptFault.TheVariants as script
use Rattle.wl_replay.specs.Faults.{id_numbers}
use Rattle.fault_laws.specs.Lines as written
use Rattle.fault_laws.specs.Lines.{config_line}
use Rattle.fault_laws.specs.Sentences.{script_says, name_in_document, name_in_config, id_says}

-- ---- the sentence of a fault's numbers

either_item : (a b : Bool) (text : List ℕ) → (if a || b then text else []) ≡ (if a then text else (if b then text else []))
either_item true b text = refl
either_item false b text = refl

id_suffix : (p : Place) → item_suffix 5 (place_of p.part p.index p.field p.item) ≡ id_item p
unfolding item_suffix has_item
id_suffix p = either_item ((p.part == 2) && (p.field == 4)) (not (p.item == 0)) (item p)

id_sentence : (p : Place) (e : IdFault) → sentence (codes "document") (fault_numbers (document.Id p e)) ≡ Some (told_at (name_in_document p ++ item_suffix 5 (place_of p.part p.index p.field p.item)) (id_says e))
unfolding sentence document_sentence document_placed document_rest document_what_of id_what id_what_at fault_numbers id_numbers
id_sentence p (id.TooLong n) = refl
id_sentence p id.NotSpiffe = refl
id_sentence p id.EmptyDomain = refl
id_sentence p (id.DomainByte at) = refl
id_sentence p (id.EmptySegment at) = refl
id_sentence p (id.PathByte at) = refl
id_sentence p (id.DotSegment at) = refl
id_sentence p id.Memory = refl

document_sentence_is : (e : DocFault) → sentence (codes "document") (fault_numbers e) ≡ Some (document_says e)
unfolding sentence document_sentence document_alone document_placed document_rest document_what document_what_of item_suffix has_item fault_numbers
document_sentence_is document.NotJson = refl
document_sentence_is document.Version = refl
document_sentence_is (document.Missing p) = refl
document_sentence_is (document.Kind p) = refl
document_sentence_is (document.Id p e) = id_sentence p e ∙ ap (λ suffix. Some (told_at (name_in_document p ++ suffix) (id_says e))) (id_suffix p)
document_sentence_is (document.Selector p) = refl
document_sentence_is (document.NoSelectors p) = refl
document_sentence_is (document.Duplicate p) = refl
document_sentence_is (document.ForeignDomain p) = refl
document_sentence_is (document.Base64 p) = refl
document_sentence_is document.NoOwnBundle = refl
document_sentence_is (document.TooMany p n) = refl
document_sentence_is (document.TooLong p n) = refl
document_sentence_is document.Memory = refl

config_sentence_is : (e : ConfigFault) → sentence (codes "config") (config_numbers e) ≡ Some (config_says e)
unfolding sentence config_sentence config_alone config_long config_placed config_rest config_what config_what_of item_suffix has_item config_numbers
config_sentence_is config.NotJson = refl
config_sentence_is config.Version = refl
config_sentence_is (config.Missing p) = refl
config_sentence_is (config.Kind p) = refl
config_sentence_is (config.EmptyText p) = ap (λ suffix. Some (told_at (name_in_config p ++ suffix) say.empty_text)) (id_suffix p)
config_sentence_is (config.Selector p) = refl
config_sentence_is (config.TooMany p n) = refl
config_sentence_is (config.Duplicate p) = refl
config_sentence_is (config.TooLong n) = refl
config_sentence_is config.Memory = refl

script_sentence_is : (e : ScriptFault) → sentence (codes "script") (written.script_numbers e) ≡ Some (script_says e)
unfolding sentence script_sentence script_alone script_line written.script_numbers
script_sentence_is (script.Line n) = refl
script_sentence_is (script.Kind n) = refl
script_sentence_is (script.Conn n) = refl
script_sentence_is (script.Hex n) = refl
script_sentence_is (script.TooLong n) = refl
script_sentence_is script.Memory = refl

-- ---- the text of a fault's line

read_so : (subject numbers said : List ℕ) → explained_text (lines.fault_line subject numbers ++ 10 ∷ []) ≡ or_line (lines.fault_line subject numbers) (sentence subject numbers) ++ 10 ∷ [] → sentence subject numbers ≡ Some said → explained_text (lines.fault_line subject numbers ++ 10 ∷ []) ≡ said ++ 10 ∷ []
read_so subject numbers said read is = read ∙ ap (λ o. or_line (lines.fault_line subject numbers) o ++ 10 ∷ []) is

pub document_said : (e : DocFault) → AreBounded (fault_numbers e) → explained_text (written.fault_line e) ≡ document_says e ++ 10 ∷ []
unfolding written.fault_line
document_said e fit = read_so (codes "document") (fault_numbers e) (document_says e) (text_read (codes "document") (fault_numbers e) (refl, (refl, (refl, (refl, (refl, (refl, (refl, (refl, tt)))))))) (refl, (refl, (refl, (refl, (refl, (refl, (refl, (refl, tt)))))))) fit) (document_sentence_is e)

pub config_said : (e : ConfigFault) → AreBounded (config_numbers e) → explained_text (config_line e) ≡ config_says e ++ 10 ∷ []
unfolding config_line
config_said e fit = read_so (codes "config") (config_numbers e) (config_says e) (text_read (codes "config") (config_numbers e) (refl, (refl, (refl, (refl, (refl, (refl, tt)))))) (refl, (refl, (refl, (refl, (refl, (refl, tt)))))) fit) (config_sentence_is e)

pub script_said : (e : ScriptFault) → AreBounded (written.script_numbers e) → explained_text (written.script_line e) ≡ script_says e ++ 10 ∷ []
unfolding written.script_line
script_said e fit = read_so (codes "script") (written.script_numbers e) (script_says e) (text_read (codes "script") (written.script_numbers e) (refl, (refl, (refl, (refl, (refl, (refl, tt)))))) (refl, (refl, (refl, (refl, (refl, (refl, tt)))))) fit) (script_sentence_is e)
