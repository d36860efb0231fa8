use Rattle.std.proofs.lemmas.Result.{on_ok_weaker}
use Rattle.hpack.proofs.WrittenBlocks.{more_bytes_last, put_last}
use Rattle.hpack.proofs.encode.+put_more.Goals as goal

pub returns-then-value-lt128 : goal.returns-then-value-lt128
returns-then-value-lt128 t c = rw (more_bytes_last c.args.value c.if-value-lt128.true) c.in_ok-push.ensures.items

pub returns : goal.returns
returns t c = on_ok_weaker c.put_more.result (put_last c.args.value c.args.out.now.items c.push-2.new.self.items c.put_more.new.out.items c.if-value-lt128.false c.in_ok-push-2.ensures.items) c.put_more.ensures
