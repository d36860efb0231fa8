use Rattle.std.proofs.Common.{None, Some, ◌∙◌, ap}
use Rattle.wl_selector.specs.Selectors.{sorted_texts}
use Rattle.jwt_cache.proofs.KeptTokens.{find_none, find_some}
use Rattle.jwt_cache.proofs.tokens.Tokens.find_kept.Goals as goal

pub returns-in_default : goal.returns-in_default
returns-in_default c = find_none c.args.ask.now (sorted_texts c.args.audience.now) c.args.renew_before c.args.now c.self.inside.rings.entries c.args.self.now c.self.view_is (rw c.as_slice.ensures at c.in_default.ensures.value)

pub returns-in-Some-newest : goal.returns-in-Some-newest
returns-in-Some-newest c =
    ap Some c.in_ok-copy-in-Some-newest.ensures ∙ find_some c.args.ask.now (sorted_texts c.args.audience.now) c.in_ok-wanted.wanted c.args.renew_before c.args.now c.self.inside.rings.entries c.args.self.now c.in-Some.ring.now (Some c.in-Some-newest.kept.now) c.self.view_is (rw c.as_slice.ensures at c.in-Some.ensures.value) c.in_ok-wanted.ensures c.in-Some-newest.ensures

pub returns : goal.returns
returns c = find_some c.args.ask.now (sorted_texts c.args.audience.now) c.in_ok-wanted.wanted c.args.renew_before c.args.now c.self.inside.rings.entries c.args.self.now c.in-Some.ring.now None c.self.view_is (rw c.as_slice.ensures at c.in-Some.ensures.value) c.in_ok-wanted.ensures c.in-None.ensures
