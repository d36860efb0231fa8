use Rattle.std.proofs.Common.{◌∙◌}
use Rattle.wl_config.proofs.Marks.{mark_within}
use Rattle.wl_config.proofs.files.files_for.Goals as goal

pub uid_files-requires-clause-at : goal.uid_files-requires-clause-at
uid_files-requires-clause-at c =
    let is = rw c.as_slice.ensures at c.in_ok-marks.ensures.ok in
    rw c.as_slice-in-len1.ensures (mark_within c.args.path c.as_slice-2.result.now (c.as_slice-2.ensures.value ∙ is) c.in-len1.len_at_least)
