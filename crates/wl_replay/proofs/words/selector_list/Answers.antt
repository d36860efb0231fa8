use Rattle.std.proofs.Common.{map, sym, ap, cond, Some, None, arith}
use Rattle.wl_replay.specs.Words.{is_selector}
use Rattle.wl_replay.proofs.Texts.{not_all, unchosen}
use Rattle.wl_replay.proofs.words.selector_list.Goals as goal

pub returns-in-None : goal.returns-in-None
returns-in-None c =
    let fails = unchosen _ _ _ c.in_ok-selector.ensures c.in-None.is in
    sym (ap (λ b. cond b (Some (map (λ w. w.now) c.args.texts.now)) None) (not_all is_selector (λ w. w.now) c.args.texts.now c.loop-text.text-index _ (omega arith) fails))
