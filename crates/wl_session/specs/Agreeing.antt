-- Publications that a talk cannot tell apart, and those that show it nothing new.
use Rattle.std.specs.Prelude.{◌≡◌, true, List, [], ◌∷◌}
use Rattle.h2_conn.specs.Conns.{flush_of}
use Rattle.wl_snapshot.specs.Snapshots.{Publication}
use Rattle.wl_snapshot.specs.Views.{view_in}
use Rattle.wl_session.specs.declared.served.Stage.{Stage}
use Rattle.wl_session.specs.declared.served.Stage.TheVariants.{Unnamed, Ready, Asking}
use Rattle.wl_session.specs.declared.served.ServedCall.{ServedCall}
use Rattle.wl_session.specs.Kinds.{was_seen}
use Rattle.wl_session.specs.Talks.{Talking}

abbrev pub SeesAlike : Publication → Publication → Stage → Type 0
SeesAlike x y (Unnamed kind) = Unit {0}
SeesAlike x y (Ready kind sel seen headed) = view_in x sel ≡ view_in y sel
SeesAlike x y (Asking first rest got) = Unit {0}

-- each ready call has the same view in both
abbrev pub SeeAlike : Publication → Publication → List ServedCall → Type 0
SeeAlike x y [] = Unit {0}
SeeAlike x y (c ∷ cs) = SeesAlike x y c.stage × SeeAlike x y cs

abbrev pub HasSeen : Publication → Stage → Type 0
HasSeen x (Unnamed kind) = Unit {0}
HasSeen x (Ready kind sel seen headed) = was_seen seen (view_in x sel) ≡ true
HasSeen x (Asking first rest got) = Unit {0}

-- each ready call was answered on its view in it
abbrev pub HaveSeen : Publication → List ServedCall → Type 0
HaveSeen x [] = Unit {0}
HaveSeen x (c ∷ cs) = HasSeen x c.stage × HaveSeen x cs

-- this side's SETTINGS were written, and nothing more may be written
pub record IsQuiet (t : Talking) : Type 0 where
  pub greeted : t.greeted ≡ true
  pub quiet : flush_of t.phase ≡ record { bytes = []; after = t.phase }
