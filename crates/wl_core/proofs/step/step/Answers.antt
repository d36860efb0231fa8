use Rattle.std.proofs.Common.{◌≡◌, List, ℕ, refl, sym, ap, ◌∙◌}
use Rattle.wl_core.specs.declared.events.Event.TheVariants as events
use Rattle.wl_core.proofs.AfterEvents.{steps_of, sync_steps, claim_steps, signed_steps, failed_steps, join_steps, name_steps, feed_steps, turn_steps, token_steps, close_steps}
use Rattle.wl_core.proofs.WorldEvents.{has_memory}
use Rattle.wl_core.proofs.step.step.Goals as goal

pub returns-in_ok-stepped-in-Sync-clause-steps : goal.returns-in_ok-stepped-in-Sync-clause-steps
returns-in_ok-stepped-in-Sync-clause-steps c = λ m h.
    let is : events.Sync c.as_slice.result.now ≡ c.args.event = ap (λ (d : List ℕ). events.Sync d) c.as_slice.ensures ∙ sym c.in-Sync.is in
    steps_of (events.Sync c.as_slice.result.now) c.args.event c.sync.new.manager c.args.seats.now.seats.items c.args.seats.now.begun_before c.args.seats.now.begun_before c.in_ok-stepped-in-Sync.stepped.lines c.in_ok-stepped-in-Sync.stepped.lines m is refl refl
    (sync_steps c.as_slice.result.now c.args.manager.now c.sync.new.manager c.args.seats.now.seats.items c.args.seats.now.begun_before c.in_ok-stepped-in-Sync.stepped.lines m h
    c.in_ok-stepped-in-Sync.ensures.stored c.in_ok-stepped-in-Sync.ensures.history c.in_ok-stepped-in-Sync.ensures.lines)

pub returns-in_ok-stepped-in-Claim-clause-steps : goal.returns-in_ok-stepped-in-Claim-clause-steps
returns-in_ok-stepped-in-Claim-clause-steps c = λ m h.
    steps_of (events.Claim c.in-Claim.now) c.args.event c.claim.new.manager c.args.seats.now.seats.items c.args.seats.now.begun_before c.args.seats.now.begun_before c.in_ok-stepped-in-Claim.stepped.lines c.in_ok-stepped-in-Claim.stepped.lines m (sym c.in-Claim.is) refl refl
    (claim_steps c.in-Claim.now c.args.manager.now c.claim.new.manager c.args.seats.now.seats.items c.args.seats.now.begun_before c.in_ok-stepped-in-Claim.stepped.lines m h
    c.in_ok-stepped-in-Claim.ensures.stored c.in_ok-stepped-in-Claim.ensures.tokens c.in_ok-stepped-in-Claim.ensures.lines)

pub returns-in_ok-stepped-in-Signed-clause-steps : goal.returns-in_ok-stepped-in-Signed-clause-steps
returns-in_ok-stepped-in-Signed-clause-steps c = λ m h.
    steps_of (events.Signed c.in-Signed.ticket c.in-Signed.signed c.in-Signed.now) c.args.event c.signed.new.manager c.args.seats.now.seats.items c.args.seats.now.begun_before c.args.seats.now.begun_before c.in_ok-stepped-in-Signed.stepped.lines c.in_ok-stepped-in-Signed.stepped.lines m (sym c.in-Signed.is) refl refl
    (signed_steps c.in-Signed.ticket c.in-Signed.signed c.in-Signed.now c.args.manager.now c.signed.new.manager c.args.seats.now.seats.items c.args.seats.now.begun_before c.in_ok-stepped-in-Signed.stepped.lines m h
    c.in_ok-stepped-in-Signed.ensures.stored c.in_ok-stepped-in-Signed.ensures.tokens c.in_ok-stepped-in-Signed.ensures.lines)

pub returns-in_ok-lines-in-Failed-clause-steps : goal.returns-in_ok-lines-in-Failed-clause-steps
returns-in_ok-lines-in-Failed-clause-steps c = λ m h.
    steps_of (events.Failed c.in-Failed.ticket) c.args.event c.failed.new.manager c.args.seats.now.seats.items c.args.seats.now.begun_before c.args.seats.now.begun_before c.in_ok-lines-in-Failed.lines c.quiet.result.lines m (sym c.in-Failed.is) refl c.quiet.ensures.lines
    (failed_steps c.in-Failed.ticket c.args.manager.now c.failed.new.manager c.args.seats.now.seats.items c.args.seats.now.begun_before c.in_ok-lines-in-Failed.lines m h
    c.in_ok-lines-in-Failed.ensures.stored c.in_ok-lines-in-Failed.ensures.tokens c.in_ok-lines-in-Failed.ensures.lines)

pub returns-in_ok-lines-in-Join-clause-steps : goal.returns-in_ok-lines-in-Join-clause-steps
returns-in_ok-lines-in-Join-clause-steps c = λ m h.
    steps_of (events.Join c.in-Join.conn c.in-Join.selectors) c.args.event c.args.manager.now c.join.new.self.seats.items c.args.seats.now.begun_before c.join.new.self.begun_before c.in_ok-lines-in-Join.lines c.quiet-in-Join.result.lines m (sym c.in-Join.is) c.in_ok-lines-in-Join.ensures.begun c.quiet-in-Join.ensures.lines
    (join_steps c.in-Join.conn c.in-Join.selectors c.args.manager.now c.args.seats.now.seats.items c.join.new.self.seats.items c.args.seats.now.begun_before c.in_ok-lines-in-Join.lines m h c.in_ok-lines-in-Join.ensures.seats c.in_ok-lines-in-Join.ensures.lines)

pub returns-in_ok-lines-in-Name-clause-steps : goal.returns-in_ok-lines-in-Name-clause-steps
returns-in_ok-lines-in-Name-clause-steps c = λ m h.
    steps_of (events.Name c.in-Name.conn c.in-Name.selectors) c.args.event c.args.manager.now c.name.new.self.seats.items c.args.seats.now.begun_before c.name.new.self.begun_before c.in_ok-lines-in-Name.lines c.quiet-in-Name.result.lines m (sym c.in-Name.is) c.in_ok-lines-in-Name.ensures.begun c.quiet-in-Name.ensures.lines
    (name_steps c.in-Name.conn c.in-Name.selectors c.args.manager.now c.args.seats.now.seats.items c.name.new.self.seats.items c.args.seats.now.begun_before c.in_ok-lines-in-Name.lines m h c.in_ok-lines-in-Name.ensures.seats c.in_ok-lines-in-Name.ensures.lines)

pub returns-in_ok-lines-in-Feed-clause-steps : goal.returns-in_ok-lines-in-Feed-clause-steps
returns-in_ok-lines-in-Feed-clause-steps c = λ m h.
    steps_of (events.Feed c.in-Feed.conn c.as_slice-in-Feed.result.now) c.args.event c.args.manager.now c.feed.new.self.seats.items c.args.seats.now.begun_before c.feed.new.self.begun_before c.in_ok-lines-in-Feed.lines c.quiet-in-Feed.result.lines m (ap (λ (d : List ℕ). events.Feed c.in-Feed.conn d) c.as_slice-in-Feed.ensures ∙ sym c.in-Feed.is) c.in_ok-lines-in-Feed.ensures.begun c.quiet-in-Feed.ensures.lines
    (feed_steps c.in-Feed.conn c.as_slice-in-Feed.result.now c.args.manager.now c.args.seats.now.seats.items c.feed.new.self.seats.items c.args.seats.now.begun_before c.in_ok-lines-in-Feed.lines m h c.in_ok-lines-in-Feed.ensures.seats c.in_ok-lines-in-Feed.ensures.lines)

pub returns-in_ok-lines-in-Turn-clause-steps : goal.returns-in_ok-lines-in-Turn-clause-steps
returns-in_ok-lines-in-Turn-clause-steps c = λ m h.
    steps_of (events.Turn c.in-Turn.conn) c.args.event c.args.manager.now c.turn.new.seats.seats.items c.args.seats.now.begun_before c.turn.new.seats.begun_before c.in_ok-lines-in-Turn.lines c.quiet-in-Turn.result.lines m (sym c.in-Turn.is) c.in_ok-lines-in-Turn.ensures.begun c.quiet-in-Turn.ensures.lines
    (turn_steps c.in-Turn.conn c.args.manager.now c.args.seats.now.seats.items c.turn.new.seats.seats.items c.args.seats.now.begun_before c.in_ok-lines-in-Turn.lines m h c.in_ok-lines-in-Turn.ensures.seats c.in_ok-lines-in-Turn.ensures.lines)

pub returns-in_ok-lines-in-Token-clause-steps : goal.returns-in_ok-lines-in-Token-clause-steps
returns-in_ok-lines-in-Token-clause-steps c = λ m h.
    steps_of (events.Token c.in-Token.conn c.in-Token.now c.in-Token.signed) c.args.event c.token.new.manager c.token.new.seats.seats.items c.args.seats.now.begun_before c.token.new.seats.begun_before c.in_ok-lines-in-Token.lines c.quiet-in-Token.result.lines m (sym c.in-Token.is) c.in_ok-lines-in-Token.ensures.begun c.quiet-in-Token.ensures.lines
    (token_steps c.in-Token.conn c.in-Token.now c.in-Token.signed c.args.manager.now c.token.new.manager c.args.seats.now.seats.items c.token.new.seats.seats.items c.args.seats.now.begun_before c.in_ok-lines-in-Token.lines m h c.in_ok-lines-in-Token.ensures.stored c.in_ok-lines-in-Token.ensures.history c.in_ok-lines-in-Token.ensures.seats c.in_ok-lines-in-Token.ensures.lines)

pub returns-in_ok-lines-in-Close-clause-steps : goal.returns-in_ok-lines-in-Close-clause-steps
returns-in_ok-lines-in-Close-clause-steps c = λ m h.
    let there = has_memory c.args.manager.now c.args.seats.now.seats.items c.requires.works c.in-Close.conn in
    steps_of (events.Close c.in-Close.conn) c.args.event c.args.manager.now c.close.new.self.seats.items c.close.new.self.begun_before c.close.new.self.begun_before c.in_ok-lines-in-Close.lines c.quiet-in-Close.result.lines m (sym c.in-Close.is) refl c.quiet-in-Close.ensures.lines
    (close_steps c.in-Close.conn c.args.manager.now c.args.seats.now.seats.items c.close.new.self.seats.items c.args.seats.now.begun_before c.close.new.self.begun_before c.in_ok-lines-in-Close.lines m h c.in_ok-lines-in-Close.ensures.seats (c.in_ok-lines-in-Close.ensures.begun there) c.in_ok-lines-in-Close.ensures.lines)
