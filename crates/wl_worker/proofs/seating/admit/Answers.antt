use Rattle.wl_worker.proofs.SeatParts.{stays_silent, open_new, still_idle, step_idle, step_closed, step_failed, step_came, goes_went, step_starved, step_unwatched, stepped_to, stepped_on, same_links, no_less, where_failed}
use Rattle.wl_worker.proofs.LinkParts.{keeps_idle, keeps_unanswered, keeps_ending, keeps_failed, keeps_came, keeps_starved, keeps_unwatched, keeps_to, keeps_then, keeps_end, few_of, still_fresh, still_came}
use Rattle.wl_worker.proofs.SeatPlaces.{goes_placed, keeps_placed}
use Rattle.wl_worker.proofs.seating.admit.Goals as goal

pub returns-in-Idle-clause-goes : goal.returns-in-Idle-clause-goes
returns-in-Idle-clause-goes g c =
    let gives = c.in-Idle.ensures.gives in
    λ p. step_idle _ _ _ _ _ _ _ gives.later (stays_silent _ _ (c.args.seat.now.alike c.args.seat.now.listener c.accept.new.self)) c.in-Idle.ensures.sockets _ gives.tells

pub returns-in-End-clause-goes : goal.returns-in-End-clause-goes
returns-in-End-clause-goes g c =
    let gives = c.in-End.ensures.gives in
    λ p. step_closed _ _ _ _ _ _ _ gives.later (stays_silent _ _ (c.args.seat.now.alike c.args.seat.now.listener c.accept.new.self)) c.in-End.ensures.sockets _ gives.tells

pub returns-in-Failed-clause-goes : goal.returns-in-Failed-clause-goes
returns-in-Failed-clause-goes g c =
    let gives = c.in-Failed.ensures.gives in
    λ p. step_failed _ _ _ _ _ _ _ _ gives.later gives.fits (stays_silent _ _ (c.args.seat.now.alike c.args.seat.now.listener c.accept.new.self)) c.in-Failed.ensures.sockets gives.tells

pub returns-then-len-seat-clause-goes : goal.returns-then-len-seat-clause-goes
returns-then-len-seat-clause-goes g c = λ p. still_idle _ _

pub finish-requires : goal.finish-requires
finish-requires g c = open_new _ _ _ (stays_silent _ _ (c.args.seat.now.alike c.args.seat.now.listener c.accept.new.self)) c.in-Link.ensures.gives.tells c.requires

pub finish-requires-in-Err-add : goal.finish-requires-in-Err-add
finish-requires-in-Err-add g c = open_new _ _ _ (stays_silent _ _ (c.args.seat.now.alike c.args.seat.now.listener c.accept.new.self)) c.in-Link.ensures.gives.tells c.requires

pub returns-in-Err-clause-goes : goal.returns-in-Err-clause-goes
returns-in-Err-clause-goes g c =
    let gives = c.in-Link.ensures.gives in
    let alike = c.args.seat.now.alike in
    λ p. stepped_to _ _ _ _ _ _ (same_links _ _ _ c.prepare.ensures.items)
    (step_starved _ _ _ (goes_went _ _ _ _ _ _ _ gives.later (stays_silent _ _ (alike c.args.seat.now.listener c.accept.new.self)) c.in-Link.ensures.sockets _ _ _ _ _
    (no_less _) c.finish.ensures.count (stays_silent _ _ (alike c.accept.new.self c.finish.new.self)) c.finish.ensures.sockets gives.tells c.finish.ensures.finished))

pub returns-in-Err-add-clause-goes : goal.returns-in-Err-add-clause-goes
returns-in-Err-add-clause-goes g c =
    let gives = c.in-Link.ensures.gives in
    let alike = c.args.seat.now.alike in
    let end = c.finish-in-Err-add in
    λ p. stepped_to _ _ _ _ _ _ (same_links _ _ _ c.prepare.ensures.items)
    (step_unwatched _ _ _ c.in-Err-add.fault _ c.end_of.ensures (goes_went _ _ _ _ _ _ _ gives.later (stays_silent _ _ (alike c.args.seat.now.listener c.accept.new.self)) c.in-Link.ensures.sockets _ _ _ _ _
    c.in-Err-add.ensures.later end.ensures.count (stays_silent _ _ (alike c.accept.new.self end.new.self)) end.ensures.sockets gives.tells end.ensures.finished) (where_failed _ c.in-Err-add.ensures.failed))

pub returns-clause-goes : goal.returns-clause-goes
returns-clause-goes g c =
    let gives = c.in-Link.ensures.gives in
    λ p. stepped_on _ _ _ _ _ _
    (step_came _ _ _ _ _ _ _ gives.later (stays_silent _ _ (c.args.seat.now.alike c.args.seat.now.listener c.accept.new.self)) c.in-Link.ensures.sockets _ _ _ c.in_default-add.ensures.later gives.tells c.in-Ok-prepare.ensures.fresh)
    (goes_placed _ _ _ _ _ _ _ c.prepare.ensures.items c.insert_reserved.ensures.was_vacant c.insert_reserved.ensures.updates)

pub returns-in-Idle-clause-tends : goal.returns-in-Idle-clause-tends
returns-in-Idle-clause-tends g c = λ p. keeps_unanswered _ _ _ _ _ _ _ _ _ c.in-Idle.ensures.sockets _ c.in-Idle.ensures.gives.tells

pub returns-in-End-clause-tends : goal.returns-in-End-clause-tends
returns-in-End-clause-tends g c = λ p. keeps_ending _ _ _ _ _ _ _ _ _ c.in-End.ensures.sockets _ c.in-End.ensures.gives.tells

pub returns-in-Failed-clause-tends : goal.returns-in-Failed-clause-tends
returns-in-Failed-clause-tends g c = λ p. keeps_failed _ _ _ _ _ _ _ _ _ c.in-Failed.ensures.sockets _ _ c.in-Failed.ensures.gives.tells

pub returns-then-len-seat-clause-tends : goal.returns-then-len-seat-clause-tends
returns-then-len-seat-clause-tends g c = λ p. keeps_idle _ _ _ _

pub returns-in-Err-clause-tends : goal.returns-in-Err-clause-tends
returns-in-Err-clause-tends g c =
    λ p. keeps_to _ _ _ _ _ _ _ _ (same_links _ _ _ c.prepare.ensures.items)
    (keeps_starved _ _ _ _ _ _ _ _ _ _ _ _ c.in-Link.ensures.gives.tells c.in-Link.ensures.sockets (few_of _ c.args.places.now.links _ _ c.len.ensures c.if-len-seat.false) _ _ _ _ c.in-Link.ensures.fresh c.in-Link.ensures.origin _ c.starved_after-seat.ensures c.finish.ensures.sockets c.finish.ensures.finished)

pub returns-in-Err-add-clause-tends : goal.returns-in-Err-add-clause-tends
returns-in-Err-add-clause-tends g c =
    let add = c.in-Err-add.ensures in
    λ p. keeps_to _ _ _ _ _ _ _ _ (same_links _ _ _ c.prepare.ensures.items) (keeps_end _ _ _ _ _ _ _ _ c.end_of.ensures
    (keeps_unwatched _ _ _ _ _ _ _ _ _ _ _ _ c.in-Link.ensures.gives.tells c.in-Link.ensures.sockets (few_of _ c.args.places.now.links _ _ c.len.ensures c.if-len-seat.false) _ _ _ _ (still_fresh _ _ _ _ _ _ _ _ add.told add.receives add.sends add.stalls c.in-Link.ensures.fresh) (still_came _ _ _ add.origin c.in-Link.ensures.origin) _ c.in-Err-add.fault c.finish-in-Err-add.ensures.sockets c.finish-in-Err-add.ensures.finished))

pub returns-clause-tends : goal.returns-clause-tends
returns-clause-tends g c =
    let add = c.in_default-add.ensures in
    λ p. keeps_then _ _ _ _ _ _ _ _ _
    (keeps_came _ _ _ _ _ _ _ _ _ _ _ _ c.in-Link.ensures.gives.tells c.in-Link.ensures.sockets (few_of _ c.args.places.now.links _ _ c.len.ensures c.if-len-seat.false) _ _ _ _ (still_fresh _ _ _ _ _ _ _ _ add.told add.receives add.sends add.stalls c.in-Link.ensures.fresh) (still_came _ _ _ add.origin c.in-Link.ensures.origin) _ c.in-Ok-prepare.ensures.fresh)
    (keeps_placed _ _ _ _ _ _ _ _ _ c.prepare.ensures.items c.insert_reserved.ensures.was_vacant c.insert_reserved.ensures.updates)

pub returns-in_default-clause-goes : goal.returns-in_default-clause-goes
returns-in_default-clause-goes g c = λ p. still_idle _ _

pub returns-in_default-clause-tends : goal.returns-in_default-clause-tends
returns-in_default-clause-tends g c = λ p. keeps_idle _ _ _ _
