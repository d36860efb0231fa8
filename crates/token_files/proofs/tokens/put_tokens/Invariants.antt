use Rattle.std.proofs.Common.{◌≡◌, ◌++◌, take}
use Rattle.std.specs.List.{flat_map}
use Rattle.token_files.specs.Tokens.{tokens_of}
use Rattle.token_files.proofs.tokens.put_tokens.Given as goal

abbrev pub invariant-loop-answer : goal.invariant-loop-answer
invariant-loop-answer l = l.files ≡ l.fn.files ++ flat_map tokens_of (take l.answer-index l.answers)
