-- The names that most proofs here cite, passed on from one place. Declares nothing.
unfoldable pub use Rattle.fault_laws.specs.Lines.{config_numbers}
pub use Rattle.fault_laws.specs.Sentences.{IsNamed, config_says, document_says, id_item, item}
pub use Rattle.fault_lines.specs.Lines.{AreBounded}
pub use Rattle.fault_lines.specs.Sentences.{told_at}
pub use Rattle.json_members.specs.Members.{or_fault}
unfoldable pub use Rattle.json_members.specs.Members.{array_at, number_at, object_at, required, text_at}
pub use Rattle.serde_json.specs.Data.{Data}
pub use Rattle.serde_json.specs.Find.{get}
pub use Rattle.spiffe_id.specs.declared.faults.IdFault.{IdFault}
pub use Rattle.wl_config.specs.declared.fault.ConfigFault.{ConfigFault}
pub use Rattle.wl_document.specs.declared.fault.DocFault.{DocFault}
pub use Rattle.wl_document.specs.declared.fault.Place.{Place}
unfoldable pub use Rattle.wl_replay.specs.Faults.{fault_numbers}
