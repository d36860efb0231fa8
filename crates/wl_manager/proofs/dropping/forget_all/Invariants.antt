use Rattle.std.proofs.Common.{◌≡◌, ℕ, List, [], if◌then◌else◌, take}
use Rattle.wl_selector.specs.Selectors.{has_text}
use Rattle.jwt_cache.specs.Rings.{tokens_for}
use Rattle.wl_manager.proofs.dropping.forget_all.Given as goal

-- the tokens of the entries so far are dropped, and no others
abbrev pub invariant-loop-id : goal.invariant-loop-id
invariant-loop-id l = record {
  kept : (q : List ℕ) → tokens_for l.tokens q ≡ (if has_text (take l.id-index l.ids) q then [] else tokens_for l.fn.tokens q);
  none : l.ids ≡ [] → l.tokens ≡ l.fn.tokens;
}
