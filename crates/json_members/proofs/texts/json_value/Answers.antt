use Rattle.std.proofs.Common.{sym, ◌∙◌, true≢false}
use Rattle.json_members.proofs.Bytes.{value_read, value_refused}
use Rattle.json_members.proofs.texts.json_value.Goals as goal

pub returns-in-Ok : goal.returns-in-Ok
returns-in-Ok c = sym (value_read _ _ c.in-Ok.ensures.ok.0 c.in-Ok.ensures.ok.1)

pub returns-else-is_memory : goal.returns-else-is_memory
returns-else-is_memory c = sym (value_refused _ (c.in-Err.ensures.err (λ m. absurd (true≢false (sym (c.is_memory.ensures.1 m) ∙ c.if-is_memory.false)))))
