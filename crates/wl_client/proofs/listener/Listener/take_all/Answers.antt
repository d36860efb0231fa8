use Rattle.std.proofs.Common.{◌≡◌, List, [], ◌∷◌, ◌++◌, sym, ap, ◌∙◌, append_assoc}
use Rattle.std.proofs.lemmas.Result.{err_from_is_err_and}
use Rattle.h2_frame.specs.declared.frame.Frame.{Frame}
use Rattle.wl_client.proofs.Hearings.{came_none, came_more, came_fault, told_front, bytes_front}
use Rattle.wl_client.proofs.listener.Listener.take_all.Goals as goal

pub loop-frame-init : goal.loop-frame-init
loop-frame-init c = record {
  whole = sym (c.into_iter-frame-iterator.ensures.into_iter_gives.0 ∙ c.into_vec-frame-items.ensures);
  came = came_none c.args.self.now c.args.into.now c.args.out.now;
}

pub loop-frame-preserved : goal.loop-frame-preserved
loop-frame-preserved c = record {
  whole = c.loop-frame.invariant.whole ∙ (ap (λ (fs : List Frame). c.loop-frame.yielded ++ fs) c.in-Some.ensures.steps.0 ∙ sym (append_assoc c.loop-frame.yielded (c.in-Some.frame ∷ []) c.next.new.self.rest.items));
  came = came_more c.loop-frame.yielded c.in-Some.frame c.args.self.now c.loop-frame.self c.take.new.self c.args.into.now c.loop-frame.into c.take.new.into c.args.out.now c.loop-frame.out c.take.new.out c.loop-frame.invariant.came c.in_ok-take.ensures.said;
}

pub returns-in_err-take-clause-said : goal.returns-in_err-take-clause-said
returns-in_err-take-clause-said c =
    let p = err_from_is_err_and c.from_residual.result c.from_residual.ensures.1 in
    let ys = c.loop-frame.yielded in
    let rest = c.next.new.self.rest.items in
    let whole : c.args.frames ≡ ys ++ c.in-Some.frame ∷ rest = c.loop-frame.invariant.whole ∙ ap (λ (fs : List Frame). ys ++ fs) c.in-Some.ensures.steps.0 in
    rw (p.1, p.2, whole) (came_fault ys rest c.in-Some.frame c.args.self.now c.loop-frame.self c.take.new.self c.args.into.now c.loop-frame.into c.take.new.into c.args.out.now c.loop-frame.out c.take.new.out c.in_err-take.field-0.0 c.loop-frame.invariant.came c.in_err-take.ensures.said)

pub returns-in_err-take-clause-told_front : goal.returns-in_err-take-clause-told_front
returns-in_err-take-clause-told_front c =
    let ys = c.loop-frame.yielded in
    let rest = c.next.new.self.rest.items in
    let whole : c.args.frames ≡ ys ++ c.in-Some.frame ∷ rest = c.loop-frame.invariant.whole ∙ ap (λ (fs : List Frame). ys ++ fs) c.in-Some.ensures.steps.0 in
    rw whole (told_front ys rest c.in-Some.frame c.args.self.now c.loop-frame.self c.args.into.now c.loop-frame.into c.take.new.into c.args.out.now c.loop-frame.out c.loop-frame.invariant.came c.take.ensures.told_front)

pub returns-in_err-take-clause-bytes_front : goal.returns-in_err-take-clause-bytes_front
returns-in_err-take-clause-bytes_front c =
    let ys = c.loop-frame.yielded in
    let rest = c.next.new.self.rest.items in
    let whole : c.args.frames ≡ ys ++ c.in-Some.frame ∷ rest = c.loop-frame.invariant.whole ∙ ap (λ (fs : List Frame). ys ++ fs) c.in-Some.ensures.steps.0 in
    rw whole (bytes_front ys rest c.in-Some.frame c.args.self.now c.loop-frame.self c.args.into.now c.loop-frame.into c.args.out.now c.loop-frame.out c.take.new.out c.loop-frame.invariant.came c.take.ensures.bytes_front)
