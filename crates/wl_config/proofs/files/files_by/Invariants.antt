use Rattle.std.proofs.Common.{◌≡◌, map, take}
use Rattle.std.specs.List.{AllByRecursion}
use Rattle.wl_config.specs.Files.{uid_file}
use Rattle.wl_config.specs.Endpoints.{HasPlace}
use Rattle.wl_config.proofs.files.files_by.Given as goal

abbrev pub invariant-loop-uid : goal.invariant-loop-uid
invariant-loop-uid l = (l.files.items ≡ map (uid_file l.path l.at) (take l.uid-index l.uids)) × AllByRecursion HasPlace l.files.items
