-- The names that most proofs here cite, passed on from one place. Declares nothing.
unfoldable pub use Rattle.json_members.specs.Arrays.{each_from}
pub use Rattle.list_laws.proofs.Results.{ok_is}
pub use Rattle.list_laws.specs.Results.{◌>>=◌}
pub use Rattle.serde_json.specs.Data.{Data}
pub use Rattle.wl_document.specs.Kept.{Kept}
unfoldable pub use Rattle.wl_document.specs.Kept.{put}
pub use Rattle.wl_document.specs.declared.fault.DocFault.{DocFault}
pub use Rattle.wl_document.specs.declared.fault.DocFault.TheVariants.{Duplicate, Kind, Missing, NoOwnBundle, NoSelectors, TooLong, TooMany}
pub use Rattle.wl_document.specs.declared.state.DocSvid.{DocSvid}
pub use Rattle.wl_entry.specs.declared.bundles.Bundle.{Bundle}
pub use Rattle.wl_entry.specs.declared.entries.Entry.{Entry}
