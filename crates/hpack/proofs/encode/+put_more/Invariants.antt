use Rattle.hpack.proofs.encode.+put_more.Given as goal

abbrev pub decreases-put_more : goal.decreases-put_more
decreases-put_more l = l.value
