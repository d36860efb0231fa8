use Rattle.std.proofs.Common.{◌≡◌, ◌<◌, length, ap, refl, arith}
use Rattle.wl_selector.specs.Selectors.{has_text}
use Rattle.jwt_cache.specs.Rings.{tokens_for}
use Rattle.wl_manager.proofs.DroppedTokens.{forgotten_more}
use Rattle.wl_manager.proofs.dropping.forget_all.Goals as goal

pub loop-id-init : goal.loop-id-init
unfolding has_text
loop-id-init c = record { kept = λ q. refl; none = λ is. refl }

pub loop-id-preserved : goal.loop-id-preserved
loop-id-preserved c =
    let below : c.loop-id.id-index < length c.args.ids.now = omega (arith, c.loop-id-test.true) in
    record {
      kept = λ q.
          let step = rw c.as_slice.ensures at (c.forget.ensures.rings q) in
          forgotten_more q c.id-item.result c.args.ids.now c.loop-id.id-index (tokens_for c.args.tokens.now q) (tokens_for c.loop-id.tokens q) (tokens_for c.forget.new.self q) below c.id-item.is (c.loop-id.invariant.kept q) step;
      none = λ is.
          let empty : length c.args.ids.now ≡ 0 = ap length is in
          let never : ⊥ = omega (arith, below, empty) in
          absurd never;
    }
