use Rattle.std.proofs.Common.{refl}
use Rattle.wl_control.specs.declared.request.Request.TheVariants.{KeepBundles}
use Rattle.wl_control.specs.Ends.{called, lacks_memory}
use Rattle.wl_control.proofs.program.keep_bundles.Goals as goal

pub returns-in-Ok : goal.returns-in-Ok
returns-in-Ok g c = called (KeepBundles c.args.kind) refl c.in-Ok.ensures

pub returns : goal.returns
returns g c = called (KeepBundles c.args.kind) refl (lacks_memory c.in-Err.ensures)
