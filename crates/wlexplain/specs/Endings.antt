-- How a run of `wlexplain` ends (own rules).
use Rattle.std.specs.Prelude.{◌≡◌, ℕ, List, [], take, Option, IfSome}
use Rattle.list_laws.specs.Lists.{BeginsWith}
use Rattle.wl_edge.specs.Edge.{Rose, Gained, GainedPrefix}
use Rattle.fault_lines.specs.Explanations.{explained_text}
use Rattle.wlexplain.specs.Following.{whole_lines}
use Rattle.wlexplain.specs.declared.run.TheConstants.{READ_LIMIT, DONE, READ_FAILED, WRITE_FAILED, OUT_OF_MEMORY}

-- these bytes were read, of a source that has this content
abbrev pub AreRead : Option (List ℕ) → List ℕ → Type 0
AreRead content read = IfSome content (λ text. BeginsWith text read)

-- By what the source has, what the sink took before and after, and both counts of faults before and after; the bytes are
-- those that were read.
pub data Ends (content before after : Option (List ℕ)) (reads_before reads_after writes_before writes_after : ℕ) : ℕ → Type 0 where
  -- the whole content was read, and all was written
  done : (read : List ℕ) → IfSome content (λ text. read ≡ take READ_LIMIT text) → Gained before after (explained_text read) →
      Ends content before after reads_before reads_after writes_before writes_after DONE
  -- a read failed; each line that was read whole had been written
  read_failed : Rose reads_before reads_after → (read : List ℕ) → AreRead content read → Gained before after (whole_lines [] read) →
      Ends content before after reads_before reads_after writes_before writes_after READ_FAILED
  -- a write failed; a prefix of what was due was written
  write_failed : Rose writes_before writes_after → (read : List ℕ) → AreRead content read → GainedPrefix before after (explained_text read) →
      Ends content before after reads_before reads_after writes_before writes_after WRITE_FAILED
  -- out of memory; a prefix of what was due was written
  no_memory : (read : List ℕ) → AreRead content read → GainedPrefix before after (explained_text read) →
      Ends content before after reads_before reads_after writes_before writes_after OUT_OF_MEMORY
