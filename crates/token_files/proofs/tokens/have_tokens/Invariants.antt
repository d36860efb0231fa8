use Rattle.std.proofs.Common.{◌≡◌, true, take}
use Rattle.std.specs.List.{list_all}
use Rattle.token_files.specs.Tokens.{has_tokens}
use Rattle.token_files.proofs.tokens.have_tokens.Given as goal

abbrev pub invariant-loop-answer : goal.invariant-loop-answer
invariant-loop-answer l = list_all has_tokens (take l.answer-index l.answers) ≡ true
