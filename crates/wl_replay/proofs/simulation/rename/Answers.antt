use Rattle.std.proofs.Common.{◌∙◌, ap, refl}
use Rattle.wl_replay.specs.Generated.{document_text}
use Rattle.wl_replay.specs.Simulations.{renamed}
use Rattle.wl_replay.proofs.Simulations.{rename_reached}
use Rattle.wl_replay.proofs.simulation.rename.Goals as goal

pub returns-clause-reached : goal.returns-clause-reached
returns-clause-reached c d k reached =
    rename_reached c.args.world.now d c.args.generator.now k c.apply.new.world _ c.args.at c.in_ok-document.document reached (c.in_ok-apply.ensures d k.past reached.world)
    (c.in_ok-document.ensures.document ∙ ap (λ callers. document_text callers (renamed c.args.generator.now.named.items c.args.at)) (c.len-callers.ensures ∙ c.args.generator.now.fed.ok.0)) refl refl c.new_document.ensures.named refl
