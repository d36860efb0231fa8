use Rattle.std.proofs.Common.{sym, map}
use Rattle.svid_forms.proofs.Values.{goes_on_slices, no_length, too_short, over}
use Rattle.svid_forms.proofs.elements.split.Goals as goal

pub returns-in_default : goal.returns-in_default
returns-in_default c =
    sym (no_length c.args.bytes.now c.values.rest.now (map (λ s. s.now) c.values.parts.items) c.values-test.ensures c.in_default.ensures c.values.invariant)

pub returns-then-end-rest : goal.returns-then-end-rest
returns-then-end-rest c =
    sym (too_short c.args.bytes.now c.values.rest.now (map (λ s. s.now) c.values.parts.items) c.in-Some.end c.values-test.ensures c.in-Some.ensures c.if-end-rest.true c.values.invariant)

pub values-preserved : goal.values-preserved
values-preserved c =
    goes_on_slices c.args.bytes.now c.values.rest.now c.values.parts.items c.push.new.self.items c.split_at.result.0 c.split_at.result.1.now c.in-Some.end c.values-test.ensures c.in-Some.ensures c.if-end-rest.false
    c.split_at.ensures.front c.split_at.ensures.back c.in_ok-push.ensures.items c.values.invariant

pub returns : goal.returns
returns c = sym (over c.args.bytes.now c.values.rest.now (map (λ s. s.now) c.values.parts.items) c.values-test.ensures c.values.invariant)
