use Rattle.std.proofs.Common.{[], ◌∙◌, subst}
use Rattle.std.specs.Prelude.{IfOk, ◌≡◌}
use Rattle.wl_replay.specs.Replays.{lines_text, said_text}
use Rattle.wl_replay.proofs.replays.said.Goals as goal

pub returns : goal.returns
unfolding said_text
returns c d stands =
    let said = c.in_ok-run.ensures.said d [] [] stands c.in_ok-said.ensures in
    subst (λ lines. IfOk c.text_of.result (λ o. o ≡ lines_text lines)) (c.as_slice.ensures ∙ said.1) c.text_of.ensures
