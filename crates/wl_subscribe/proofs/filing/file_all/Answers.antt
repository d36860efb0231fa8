use Rattle.std.proofs.Common.{◌≡◌, true}
use Rattle.wl_subscribe.specs.Filed.{is_filed}
use Rattle.wl_subscribe.proofs.Filings.{more_texts, no_text}
use Rattle.wl_subscribe.proofs.filing.file_all.Goals as goal

pub loop-selector-init : goal.loop-selector-init
loop-selector-init c = record { kept = λ text n was. was; done = λ text has. no_text text has }

pub loop-selector-preserved : goal.loop-selector-preserved
loop-selector-preserved c = record {
  kept = λ text n was. c.in_ok-file.ensures.kept text n (c.loop-selector.invariant.kept text n was);
  done = more_texts (λ t. is_filed c.file.new.filed t c.args.number ≡ true) c.args.selectors.now c.loop-selector.selector-index c.selector-item.result c.loop-selector-test.true c.selector-item.is
      (λ t has. c.in_ok-file.ensures.kept t c.args.number (c.loop-selector.invariant.done t has)) c.in_ok-file.ensures.ok;
}
