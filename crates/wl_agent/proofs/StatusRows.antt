-- From how serving ends to the rows of its statuses.
use Rattle.std.specs.Prelude.{◌≡◌, ℕ, List, Option, Some, None, option_map, IfSome, Result, Ok, Err}
use Rattle.std.proofs.Common.{sym, ap, subst}
use Rattle.wl_entry.specs.declared.asks.Ask.{Ask}
use Rattle.wl_entry.specs.declared.tokens.JwtToken.{JwtToken}
use Rattle.wl_edge.specs.Edge.{Rose, Drained, GainedPrefix}
use Rattle.wl_config.specs.declared.fault.ConfigFault.{ConfigFault}
use Rattle.wl_config.specs.Configs.{Configuration, configuration_of}
use Rattle.wl_serve.specs.Views.{PartsView}
use Rattle.wl_serve.specs.Serving.{ServeTells, NoneRan}
use Rattle.wl_serve.specs.declared.ending.ServeEnd.{ServeEnd}
use Rattle.wl_serve.specs.declared.ending.ServeEnd.TheVariants.{Config, Unprepared, NoDocument, Document, HostFault, Memory, Done}
use Rattle.wl_agent.specs.declared.outcome.Outcome.{Outcome}
use Rattle.wl_agent.specs.declared.program.TheConstants.{READ_LIMIT}
use Rattle.wl_agent.specs.declared.status.TheConstants.{WRITE_FAILED, OUT_OF_MEMORY}
use Rattle.wl_agent.specs.Ends.{Traffic, Wrote}
use Rattle.wl_agent.specs.ServeEnds.{Hosting, CameTo, ServeExplains, serve_outcome, IsFault, ended, unwritten, memory}

pub nothing_prepared : {A B : Type 0} (f : A → B) (kept : Option A) → kept ≡ None → option_map f kept ≡ None
nothing_prepared f kept none = ap (option_map f) none

-- where nothing was prepared nothing is said of it
pub nothing_kept : {A B : Type 0} (f : A → B) (P : B → Type 0) (kept : Option A) → kept ≡ None → IfSome (option_map f kept) P
nothing_kept f P kept none = subst (λ o. IfSome (option_map f o) P) (sym none) tt

module _ (vouched : Ask → List (List ℕ) → JwtToken → Type 0) (links tells : Type 0) where
  pub came_to : (t : Traffic) (h : Hosting) (end : ServeEnd) (read said : List ℕ) → said ≡ read → Drained t.content READ_LIMIT read → ServeTells vouched links tells (configuration_of said) h.before h.now h.parts end → CameTo vouched links tells t h end
  came_to t h end read said same drained so = record { configuration = read; read = drained; is = subst (λ (bytes : List ℕ). ServeTells vouched links tells (configuration_of bytes) h.before h.now h.parts end) same so }

  pub ends_so : (t : Traffic) (h : Hosting) (end : ServeEnd) (outcome : Outcome) → outcome ≡ serve_outcome end → CameTo vouched links tells t h end → Wrote t outcome.output → ServeExplains vouched links tells t h outcome.status
  ends_so t h end outcome is came wrote = subst (λ (s : ℕ). ServeExplains vouched links tells t h s) (sym (ap (λ (o : Outcome). o.status) is)) (ended end came (subst (λ (o : Outcome). Wrote t o.output) is wrote))

  pub writes_so : (t : Traffic) (h : Hosting) (end : ServeEnd) (outcome : Outcome) → outcome ≡ serve_outcome end → CameTo vouched links tells t h end → Rose t.writes_before t.writes_after → GainedPrefix t.before t.after outcome.output → ServeExplains vouched links tells t h WRITE_FAILED
  writes_so t h end outcome is came rose wrote = unwritten end came rose (subst (λ (o : Outcome). GainedPrefix t.before t.after o.output) is wrote)

  -- at a fault no seat was served
  none_ran : (result : Result Configuration ConfigFault) (before now : ℕ) (parts : Option PartsView) (end : ServeEnd) → IsFault end → ServeTells vouched links tells result before now parts end → IfSome parts NoneRan
  none_ran (Err fault) before now parts (Config e) is so = subst (λ o. IfSome o NoneRan) (sym so.1) tt
  none_ran (Err fault) before now parts (Document e) is so = absurd so
  none_ran (Err fault) before now parts Unprepared is so = absurd is
  none_ran (Err fault) before now parts NoDocument is so = absurd is
  none_ran (Err fault) before now parts HostFault is so = absurd is
  none_ran (Err fault) before now parts Memory is so = absurd is
  none_ran (Err fault) before now parts Done is so = absurd is
  none_ran (Ok c) before now parts (Config e) is so = absurd so
  none_ran (Ok c) before now None (Document e) is so = absurd so
  none_ran (Ok c) before now (Some p) (Document e) is so = so.0
  none_ran (Ok c) before now parts Unprepared is so = absurd is
  none_ran (Ok c) before now parts NoDocument is so = absurd is
  none_ran (Ok c) before now parts HostFault is so = absurd is
  none_ran (Ok c) before now parts Memory is so = absurd is
  none_ran (Ok c) before now parts Done is so = absurd is

  -- the line of a fault found no memory
  pub no_line : (t : Traffic) (h : Hosting) (end : ServeEnd) → IsFault end → CameTo vouched links tells t h end → t.after ≡ t.before → ServeExplains vouched links tells t h OUT_OF_MEMORY
  no_line t h end is came same = memory same (none_ran _ h.before h.now h.parts end is came.is)
