-- What a simulation in the making stands for.
use Rattle.std.specs.Prelude.{◌≡◌, ℕ, ◌<◌, ◌≤◌, Bool, List, length}
use Rattle.wl_core.specs.declared.events.TheConstants.{CONNS}
use Rattle.wl_core.specs.Moments.{Beginning}
use Rattle.wl_core.specs.Worlds.{WorldState, StandsFor}
use Rattle.wl_replay.specs.declared.limits.TheConstants.{MAX_ENTRIES}
use Rattle.wl_replay.specs.declared.acts.Act.{Act}
use Rattle.wl_replay.specs.declared.acts.Act.TheVariants as acts
use Rattle.wl_replay.specs.declared.simulation.Generator.{Generator}
use Rattle.wl_replay.specs.Simulations.{Course}

-- there are entries and callers, and no more than there may be
pub record IsRoomy (named fed : List Bool) : Type 0 where
  pub some_entries : 0 < length named
  pub few_entries : length named ≤ MAX_ENTRIES
  pub some_callers : 0 < length fed
  pub few_callers : length fed ≤ CONNS

-- what happens names an entry or a caller that there is
abbrev pub Fits : ℕ → ℕ → Act → Type 0
Fits entries callers acts.Claim = Unit {0}
Fits entries callers (acts.Wait seconds) = seconds < 50
Fits entries callers (acts.Rename at) = at < entries
Fits entries callers (acts.Feed conn) = conn < callers
Fits entries callers (acts.Turn conn) = conn < callers

-- the world and what is kept beside it are those of this course
pub record Reached (w : WorldState) (g : Generator) (d : Beginning) (c : Course) : Type 0 where
  pub world : StandsFor w d c.past
  pub draws : g.draws ≡ c.draws
  pub clock : g.clock ≡ c.clock
  pub named : g.named.items ≡ c.named
  pub fed : g.fed.items ≡ c.fed
