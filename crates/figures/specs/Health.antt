-- Whether the agent lives and is ready, in words (own rules: docs/OPERATING.md has the pages).
use Rattle.std.specs.Prelude.{ℕ, ◌&&◌, Bool, if◌then◌else◌, List, [], ◌∷◌, ◌++◌, codes, length, ◌==◌}
use Rattle.std.specs.Fmt.{decimal}
use Rattle.figures.specs.Labels.{escaped}
use Rattle.figures.specs.declared.health.Lacking.{Lacking}
use Rattle.figures.specs.declared.health.Health.{Health}

unfoldable pub is_ready : Health → Bool
is_ready h = h.has_document && (length h.lacking == 0)

unfoldable pub live_text : Bool → List ℕ
live_text is_live = if is_live then codes "live\n" else codes "not live\n"

unfoldable pub lacking_line : Lacking → List ℕ
lacking_line l = codes "entry \"" ++ escaped l.entry ++ codes "\" has had no identity for " ++ decimal l.seconds ++ codes " s\n"

abbrev pub lacking_lines : List Lacking → List ℕ
lacking_lines [] = []
lacking_lines (l ∷ ls) = lacking_line l ++ lacking_lines ls

unfoldable pub ready_text : Health → List ℕ
ready_text h =
    if is_ready h then codes "ready\n"
    else if h.has_document then lacking_lines h.lacking
    else codes "no document was taken\n"
