use Rattle.std.proofs.Common.{◌∙◌, ap, refl}
use Rattle.wl_replay.specs.Simulations.{flag, piece_of}
use Rattle.wl_replay.proofs.Simulations.{feed_reached}
use Rattle.wl_replay.proofs.simulation.feed.Goals as goal

pub returns-clause-reached : goal.returns-clause-reached
returns-clause-reached c d k reached =
    feed_reached c.args.world.now d c.args.generator.now k c.apply.new.world _ c.args.conn c.in_ok-piece.piece reached (c.in_ok-apply.ensures d k.past reached.world)
    (c.in_ok-piece.ensures ∙ ap piece_of (c.is_set.ensures ∙ ap (λ flags. flag flags c.args.conn) c.as_slice.ensures.value)) refl refl refl refl
