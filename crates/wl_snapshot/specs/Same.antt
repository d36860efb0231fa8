-- When two views are the same (own rule): a test that computes, part by part. Its laws are in proofs/Equalities.antt.
use Rattle.std.specs.Prelude.{◌&&◌, Bool}
use Rattle.std.specs.Option.{option_eq}
use Rattle.std.specs.Str.{bytes_eq}
use Rattle.std.specs.Cmp.Lexicographic.{pointwise}
use Rattle.wl_entry.specs.Same.{same_entry, same_svid, same_bundle}
use Rattle.wl_snapshot.specs.declared.views.Held.{Held}
use Rattle.wl_snapshot.specs.Views.{ViewModel}

-- the same entry, and the same SVID or none
abbrev pub same_held : Held → Held → Bool
same_held a b = same_entry a.entry b.entry && option_eq same_svid a.svid b.svid

unfoldable pub same_view_model : ViewModel → ViewModel → Bool
same_view_model a b = bytes_eq a.domain b.domain && (pointwise same_held a.held b.held && pointwise same_bundle a.bundles b.bundles)
