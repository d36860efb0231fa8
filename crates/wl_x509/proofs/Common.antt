-- The names that most proofs here cite, passed on from one place. Declares nothing.
pub use Rattle.list_laws.specs.Results.{◌>>=◌}
pub use Rattle.wl_entry.specs.declared.unfit.CertFault.{CertFault}
pub use Rattle.wl_entry.specs.declared.unfit.CertFault.TheVariants.{Extra, Length, ManyUris, Truncated}
pub use Rattle.wl_x509.specs.Certificates.{CertTime, IsTimeOf, TimeForm, generalized, subject_alt_name, time_text, utc}
pub use Rattle.wl_x509.specs.Encodings.{between}
unfoldable pub use Rattle.wl_x509.specs.Encodings.{encoding}
pub use Rattle.wl_x509.specs.Leaves.{extensions_in, names_in, one_uri, then_end}
unfoldable pub use Rattle.wl_x509.specs.Leaves.{alternative_names, body_at, extension_at, extension_list, extensions_from, extensions_part, frame_of, issuing_at, leaf_of, names_from, signature_at, subject_at, time_at, uris_of, validity_at}
unfoldable pub use Rattle.wl_x509.specs.Times.{long_time, short_time}
pub use Rattle.wl_x509.specs.Values.{content}
unfoldable pub use Rattle.wl_x509.specs.Values.{option_at, part_at, value_at}
pub use Rattle.wl_x509.specs.declared.leaves.Leaf.{Leaf}
pub use Rattle.wl_x509.specs.declared.parts.Frame.{Frame}
pub use Rattle.wl_x509.specs.declared.values.Span.{Span}
