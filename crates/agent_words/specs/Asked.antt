-- A request as its name and operands.
use Rattle.std.specs.Prelude.{List, map}
use Rattle.clap.specs.Walk.{Text}
use Rattle.agent_words.specs.declared.Request.{Request}

abbrev pub asked : Request → Text × List Text
asked r = (r.name.now, map (λ s. s.now) r.operands.items)
