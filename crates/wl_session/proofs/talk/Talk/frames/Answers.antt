use Rattle.std.proofs.Common.{◌≡◌, List, [], ◌∷◌, ◌++◌, refl, sym, ap, subst, ◌∙◌, append_assoc, Option, ℕ}
use Rattle.std.proofs.lemmas.List.{append-nil}
use Rattle.list_laws.specs.Lists.{GainsFront}
use Rattle.h2_frame.specs.declared.frame.Frame.{Frame}
use Rattle.h2_conn.specs.declared.fault.ConnFault.{ConnFault}
use Rattle.wl_session.specs.Talks.{Talking, Said, first_of, frame_said, frames_said}
use Rattle.wl_session.proofs.ItemSequences.{said_more, part_said}
use Rattle.wl_session.proofs.talk.Talk.frames.Goals as goal

pub loop-frame-init : goal.loop-frame-init
unfolding frames_said
loop-frame-init c = record { whole = sym (c.into_iter-frame-iterator.ensures.into_iter_gives.0 ∙ c.into_vec-frame-items.ensures); after = refl; bytes = sym (append-nil c.args.out.now); fault = refl }

pub returns-in_err-step-clause-prefix : goal.returns-in_err-step-clause-prefix
returns-in_err-step-clause-prefix c =
    let front : GainsFront (frame_said c.in-Some.frame (frames_said c.loop-frame.yielded c.args.self.now).after).bytes c.loop-frame.out c.step.new.out =
    subst (λ (t : Talking). GainsFront (frame_said c.in-Some.frame t).bytes c.loop-frame.out c.step.new.out) c.loop-frame.invariant.after c.step.ensures.prefix in
    let whole : c.args.frames ≡ c.loop-frame.yielded ++ c.in-Some.frame ∷ c.next.new.self.rest.items = c.loop-frame.invariant.whole ∙ ap (λ (fs : List Frame). c.loop-frame.yielded ++ fs) c.in-Some.ensures.steps.0 in
    rw whole (part_said c.loop-frame.yielded c.in-Some.frame c.next.new.self.rest.items c.args.self.now c.args.out.now c.loop-frame.out c.step.new.out c.loop-frame.invariant.bytes front)

pub loop-frame-preserved : goal.loop-frame-preserved
loop-frame-preserved c =
    let more = said_more c.loop-frame.yielded c.in-Some.frame c.args.self.now in
    record {
      whole = c.loop-frame.invariant.whole ∙ (ap (λ (fs : List Frame). c.loop-frame.yielded ++ fs) c.in-Some.ensures.steps.0 ∙ sym (append_assoc c.loop-frame.yielded (c.in-Some.frame ∷ []) c.next.new.self.rest.items));
      after = c.in_ok-step.ensures.after ∙ (ap (λ (t : Talking). (frame_said c.in-Some.frame t).after) c.loop-frame.invariant.after ∙ sym (ap (λ (s : Said). s.after) more));
      bytes = c.in_ok-step.ensures.bytes
          ∙ (ap (λ (t : Talking). c.loop-frame.out ++ (frame_said c.in-Some.frame t).bytes) c.loop-frame.invariant.after
          ∙ (ap (λ (xs : List ℕ). xs ++ (frame_said c.in-Some.frame (frames_said c.loop-frame.yielded c.args.self.now).after).bytes) c.loop-frame.invariant.bytes
          ∙ (append_assoc c.args.out.now (frames_said c.loop-frame.yielded c.args.self.now).bytes (frame_said c.in-Some.frame (frames_said c.loop-frame.yielded c.args.self.now).after).bytes
          ∙ sym (ap (λ (s : Said). c.args.out.now ++ s.bytes) more))));
      fault = c.first_of-first.ensures
          ∙ (ap (λ (first : Option ConnFault). first_of first c.in_ok-step.field-0) c.loop-frame.invariant.fault
          ∙ (ap (λ (second : Option ConnFault). first_of (frames_said c.loop-frame.yielded c.args.self.now).fault second) c.in_ok-step.ensures.fault
          ∙ (ap (λ (t : Talking). first_of (frames_said c.loop-frame.yielded c.args.self.now).fault (frame_said c.in-Some.frame t).fault) c.loop-frame.invariant.after
          ∙ sym (ap (λ (s : Said). s.fault) more))));
    }
