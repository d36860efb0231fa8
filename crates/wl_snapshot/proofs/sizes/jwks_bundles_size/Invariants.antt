use Rattle.std.proofs.Common.{◌≡◌, take, length}
use Rattle.std.specs.List.{flat_map}
use Rattle.workload_proto.specs.declared.field_number.TheConstants.{JWT_BUNDLES_BUNDLES}
use Rattle.workload_proto.specs.Spelling.{capped, map_field}
use Rattle.wl_snapshot.specs.Answers.{jwks_map_item}
use Rattle.wl_snapshot.proofs.sizes.jwks_bundles_size.Given as goal

abbrev pub invariant-loop-bundle : goal.invariant-loop-bundle
invariant-loop-bundle l = l.size ≡ capped (length (flat_map (map_field JWT_BUNDLES_BUNDLES) (flat_map jwks_map_item (take l.bundle-index l.bundles))))
