use Rattle.std.proofs.Common.{◌≡◌, ◌++◌, ◌∙◌, ap, subst, append_assoc, OnOk}
use Rattle.std.specs.Fmt.{decimal}
use Rattle.wl_replay.specs.Generated.{path_text}
use Rattle.wl_replay.proofs.generated.put_path.Goals as goal

pub returns : goal.returns
unfolding path_text
returns c =
    subst (λ text. OnOk c.put_decimal.result (c.put_decimal.new.out.items ≡ text))
    (ap (λ text. text ++ decimal c.from.result) c.in_ok-extend_from_slice.ensures.items
    ∙ append_assoc c.args.out.now.items _ (decimal c.from.result)
    ∙ ap (λ at. c.args.out.now.items ++ path_text at) c.from.ensures)
    c.put_decimal.ensures
