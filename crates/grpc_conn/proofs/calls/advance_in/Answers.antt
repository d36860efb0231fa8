use Rattle.std.proofs.Common.{◌≡◌, get_or, refl, sym}
use Rattle.grpc_conn.specs.Calls.{standing_after}
use Rattle.grpc_conn.proofs.Places.{standing_placed, moved_placed, none_there, none_moved, unplaced, on_ok_map}
use Rattle.grpc_conn.proofs.calls.advance_in.Goals as goal

pub returns-in-None : goal.returns-in-None
returns-in-None c =
    let all = unplaced c.args.stream c.args.calls.now (sym c.in-None.ensures) in
    record {
      event = rw (none_there c.args.stream c.args.calls.now all) refl;
      calls = sym (none_moved c.args.stream c.args.bytes.now c.args.ended c.args.calls.now all);
    }

pub returns-in-Some : goal.returns-in-Some
returns-in-Some c =
    let here = standing_placed c.args.stream c.args.calls.now c.in-Some.at c.index-calls-at.result (sym c.in-Some.ensures) in
    let there = moved_placed c.args.stream c.args.bytes.now c.args.ended c.args.calls.now c.in-Some.at c.index-calls-at.result (sym c.in-Some.ensures) in
    record {
      event = rw here c.advance.ensures.event;
      calls = on_ok_map c.advance.result _ _ (λ (kept : c.advance.new.standing ≡ standing_after (get_or c.args.calls.now c.in-Some.at c.index-calls-at.result).standing c.args.bytes.now c.args.ended). rw (kept, there) refl) c.advance.ensures.kept;
    }
