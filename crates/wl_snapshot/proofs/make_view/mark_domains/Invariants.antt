use Rattle.std.proofs.Common.{◌≡◌, ◌||◌, Bool, take, map, length}
use Rattle.std.specs.Str.{bytes_eq}
use Rattle.std.specs.List.{list_any}
use Rattle.wl_entry.specs.declared.bundles.Bundle.{Bundle}
use Rattle.wl_snapshot.proofs.make_view.mark_domains.Given as goal

abbrev pub invariant-loop-domain : goal.invariant-loop-domain
invariant-loop-domain l = record {
  each : length l.marks ≡ length l.bundles;
  marked : (before : Bundle → Bool) → l.fn.marks ≡ map before l.bundles → l.marks ≡ map (λ b. before b || list_any (λ other. bytes_eq other b.domain) (take l.domain-index l.domains)) l.bundles;
}
