use Rattle.std.proofs.lemmas.Result.{on_ok_weaker}
use Rattle.hpack.proofs.WrittenBlocks.{literal_written}
use Rattle.hpack.proofs.encode.put_header.Goals as goal

pub returns-in_default : goal.returns-in_default
returns-in_default c =
    let second = rw c.as_slice.ensures at c.in_ok-put_string.ensures in
    let third = rw c.as_slice-in_default.ensures at c.put_string-in_default.ensures in
    on_ok_weaker c.put_string-in_default.result (literal_written c.args.header.now c.args.out.now.items c.push.new.self.items c.put_string.new.out.items c.put_string-in_default.new.out.items c.in_default.ensures.before c.in_default.ensures.first c.in_ok-push.ensures.items second) third
