-- The sentence of a fault at a member that has a name.
use Rattle.std.specs.Prelude.{⊤, ℕ, ◌<◌, ◌^◌, List, ◌++◌, codes}
use Rattle.std.proofs.Common.{refl}
use Rattle.fault_laws.proofs.Common.{IdFault, AreBounded, told_at, Place, DocFault, ConfigFault, fault_numbers, config_numbers, IsNamed, document_says, config_says, item, id_item}
use Rattle.spiffe_id.specs.declared.faults.IdFault.TheVariants as id
use Rattle.fault_lines.specs.Sentences.{place_of, is_list, kind_what}
use Rattle.fault_lines.specs.Texts as say
use Rattle.wl_document.specs.declared.fault.DocFault.TheVariants as document
use Rattle.wl_config.specs.declared.fault.ConfigFault.TheVariants as config
use Rattle.wl_replay.specs.Faults.{id_numbers}
use Rattle.fault_laws.specs.Sentences.{name_in_document, name_in_config, later_item, id_says, kind_says}
use Rattle.fault_laws.proofs.NoQuestionMarks.{told, around, bracketed, later, of_id, chosen}

-- the member has a name
abbrev pub InDocument : Place → Type 0
InDocument p = p.index < 2 ^ 64 → IsNamed (name_in_document p)

abbrev pub InConfig : Place → Type 0
InConfig p = p.index < 2 ^ 64 → IsNamed (name_in_config p)

abbrev pub DocumentFault : DocFault → Type 0
DocumentFault document.NotJson = ⊤
DocumentFault document.Version = ⊤
DocumentFault (document.Missing p) = InDocument p
DocumentFault (document.Kind p) = InDocument p
DocumentFault (document.Id p e) = InDocument p
DocumentFault (document.Selector p) = InDocument p
DocumentFault (document.NoSelectors p) = InDocument p
DocumentFault (document.Duplicate p) = InDocument p
DocumentFault (document.ForeignDomain p) = InDocument p
DocumentFault (document.Base64 p) = InDocument p
DocumentFault document.NoOwnBundle = ⊤
DocumentFault (document.TooMany p n) = InDocument p
DocumentFault (document.TooLong p n) = InDocument p
DocumentFault document.Memory = ⊤

abbrev pub ConfigurationFault : ConfigFault → Type 0
ConfigurationFault config.NotJson = ⊤
ConfigurationFault config.Version = ⊤
ConfigurationFault (config.Missing p) = InConfig p
ConfigurationFault (config.Kind p) = InConfig p
ConfigurationFault (config.EmptyText p) = InConfig p
ConfigurationFault (config.Selector p) = InConfig p
ConfigurationFault (config.TooMany p n) = InConfig p
ConfigurationFault (config.Duplicate p) = InConfig p
ConfigurationFault (config.TooLong n) = ⊤
ConfigurationFault config.Memory = ⊤

kind_named : (p : Place) → IsNamed (kind_says p)
unfolding kind_what
kind_named p = chosen (is_list (place_of p.part p.index p.field p.item)) say.wrong_list say.wrong_kind refl refl

id_named : (e : IdFault) → AreBounded (id_numbers e) → IsNamed (id_says e)
unfolding id_numbers
id_named (id.TooLong n) fit = around (codes "has ") (codes " bytes, more than a SPIFFE ID (2048) or a trust domain name (255) may have") n refl refl fit.1.0
id_named id.NotSpiffe fit = refl
id_named id.EmptyDomain fit = refl
id_named (id.DomainByte at) fit = around (codes "byte ") (codes " may not stand in a trust domain name") at refl refl fit.1.0
id_named (id.EmptySegment at) fit = around (codes "the segment at byte ") (codes " is empty") at refl refl fit.1.0
id_named (id.PathByte at) fit = around (codes "byte ") (codes " may not stand in a path segment") at refl refl fit.1.0
id_named (id.DotSegment at) fit = around (codes "the segment at byte ") (codes " is . or ..") at refl refl fit.1.0
id_named id.Memory fit = refl

-- what is wrong at a member, and at an item of it
at_member : (member what : List ℕ) (p : Place) → IsNamed member → p.item < 2 ^ 64 → IsNamed what → IsNamed (told_at (member ++ later_item p) what)
at_member member what p named fits said = told member (later_item p) what named (later p fits) said

at_item : (member what : List ℕ) (p : Place) → IsNamed member → p.item < 2 ^ 64 → IsNamed what → IsNamed (told_at (member ++ item p) what)
at_item member what p named fits said = told member (item p) what named (bracketed p fits) said

pub document_named : (e : DocFault) → DocumentFault e → AreBounded (fault_numbers e) → IsNamed (document_says e)
unfolding fault_numbers
document_named document.NotJson sited fit = refl
document_named document.Version sited fit = refl
document_named (document.Missing p) sited fit = at_member (name_in_document p) say.missing p (sited fit.1.1.0) fit.1.1.1.1.0 refl
document_named (document.Kind p) sited fit = at_member (name_in_document p) (kind_says p) p (sited fit.1.1.0) fit.1.1.1.1.0 (kind_named p)
document_named (document.Id p e) sited fit = told (name_in_document p) (id_item p) (id_says e) (sited fit.1.1.0) (of_id p fit.1.1.1.1.0) (id_named e fit.1.1.1.1.1)
document_named (document.Selector p) sited fit = at_item (name_in_document p) say.not_selector p (sited fit.1.1.0) fit.1.1.1.1.0 refl
document_named (document.NoSelectors p) sited fit = at_member (name_in_document p) say.no_selectors p (sited fit.1.1.0) fit.1.1.1.1.0 refl
document_named (document.Duplicate p) sited fit = at_member (name_in_document p) say.given_before p (sited fit.1.1.0) fit.1.1.1.1.0 refl
document_named (document.ForeignDomain p) sited fit = at_member (name_in_document p) say.foreign_domain p (sited fit.1.1.0) fit.1.1.1.1.0 refl
document_named (document.Base64 p) sited fit = at_member (name_in_document p) say.not_base64 p (sited fit.1.1.0) fit.1.1.1.1.0 refl
document_named document.NoOwnBundle sited fit = refl
document_named (document.TooMany p n) sited fit = at_member (name_in_document p) (say.too_many_items n) p (sited fit.1.1.0) fit.1.1.1.1.0 (around (codes "has ") (codes " items, more than its limit") n refl refl fit.1.1.1.1.1.0)
document_named (document.TooLong p n) sited fit = at_member (name_in_document p) (say.too_many_bytes n) p (sited fit.1.1.0) fit.1.1.1.1.0 (around (codes "has ") (codes " bytes, more than its limit") n refl refl fit.1.1.1.1.1.0)
document_named document.Memory sited fit = refl

pub config_named : (e : ConfigFault) → ConfigurationFault e → AreBounded (config_numbers e) → IsNamed (config_says e)
unfolding config_numbers
config_named config.NotJson sited fit = refl
config_named config.Version sited fit = refl
config_named (config.Missing p) sited fit = at_member (name_in_config p) say.missing p (sited fit.1.1.0) fit.1.1.1.1.0 refl
config_named (config.Kind p) sited fit = at_member (name_in_config p) (kind_says p) p (sited fit.1.1.0) fit.1.1.1.1.0 (kind_named p)
config_named (config.EmptyText p) sited fit = told (name_in_config p) (id_item p) say.empty_text (sited fit.1.1.0) (of_id p fit.1.1.1.1.0) refl
config_named (config.Selector p) sited fit = at_item (name_in_config p) say.not_selector p (sited fit.1.1.0) fit.1.1.1.1.0 refl
config_named (config.TooMany p n) sited fit = at_member (name_in_config p) (say.too_many n) p (sited fit.1.1.0) fit.1.1.1.1.0 (around (codes "comes to ") (codes ", more than its limit") n refl refl fit.1.1.1.1.1.0)
config_named (config.Duplicate p) sited fit = at_member (name_in_config p) say.given_before p (sited fit.1.1.0) fit.1.1.1.1.0 refl
config_named (config.TooLong n) sited fit = around (codes "configuration: has ") (codes " bytes, more than its limit") n refl refl fit.1.0
config_named config.Memory sited fit = refl
