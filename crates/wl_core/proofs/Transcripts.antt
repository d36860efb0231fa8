-- What the transcript tells one caller.
use Rattle.std.proofs.Common.{◌≡◌, ℕ, ◌==◌, Bool, true, false, if◌then◌else◌, List, [], ◌∷◌, ◌++◌, map, Option, Some, None, Result, Ok, Err, refl, sym, ap, ◌∙◌}
use Rattle.std.proofs.lemmas.List.{append-nil}
use Rattle.wl_core.proofs.Common.{DocFault, State, Signed, Publication, Flight, Stored, SessionFault, failure_in, Line, Seat, Told, no_identity_lines, name_lines, out_lines, failure_lines, session_lines, after_identity}
use Rattle.svid_cache.specs.declared.install.Installed.{Installed}
use Rattle.svid_cache.specs.declared.install.Installed.TheVariants as installed
use Rattle.wl_store.specs.Stores.{install}
use Rattle.wl_session.specs.declared.asks.SessionFault.TheVariants as faults
use Rattle.wl_core.specs.declared.lines.Line.TheVariants as lines
use Rattle.wl_core.specs.Lines.{published_lines, reading_lines, ticket_line, installed_line, identity_lines_by, idle_lines, close_lines}
use Rattle.wl_core.specs.Traces.{told_from}

pub told_append : (conn : ℕ) (before : List ℕ) (first more : List Line) → told_from conn before (first ++ more) ≡ told_from conn (told_from conn before first) more
told_append conn before [] more = refl
told_append conn before (lines.Refused f ∷ first) more = told_append conn before first more
told_append conn before (lines.Same ∷ first) more = told_append conn before first more
told_append conn before (lines.Published n ∷ first) more = told_append conn before first more
told_append conn before (lines.Ticket n id ∷ first) more = told_append conn before first more
told_append conn before (lines.Spent ∷ first) more = told_append conn before first more
told_append conn before (lines.UnknownAsk ∷ first) more = told_append conn before first more
told_append conn before (lines.Unfit u ∷ first) more = told_append conn before first more
told_append conn before (lines.Older n ∷ first) more = told_append conn before first more
told_append conn before (lines.Kept ∷ first) more = told_append conn before first more
told_append conn before (lines.Failed ∷ first) more = told_append conn before first more
told_append conn before (lines.Busy k ∷ first) more = told_append conn before first more
told_append conn before (lines.Joined k ∷ first) more = told_append conn (if k == conn then [] else before) first more
told_append conn before (lines.Absent k ∷ first) more = told_append conn before first more
told_append conn before (lines.Out k bytes ∷ first) more = told_append conn (if k == conn then before ++ bytes else before) first more
told_append conn before (lines.Ended k code ∷ first) more = told_append conn before first more
told_append conn before (lines.Idle k ∷ first) more = told_append conn before first more
told_append conn before (lines.Closed k ∷ first) more = told_append conn before first more
told_append conn before (lines.Named k ∷ first) more = told_append conn before first more
told_append conn before (lines.Unnamed k ∷ first) more = told_append conn before first more

-- ---- lines that tell no caller anything

published_go : (conn : ℕ) (before : List ℕ) (n : ℕ) (b : Bool) → told_from conn before (if b then [] else lines.Published n ∷ []) ≡ before
published_go conn before n true = refl
published_go conn before n false = refl

pub published_tell : (conn : ℕ) (before : List ℕ) (p q : Publication) → told_from conn before (published_lines p q) ≡ before
published_tell conn before p q = published_go conn before q.number (p.number == q.number)

same_go : (conn : ℕ) (before : List ℕ) (n : ℕ) (b : Bool) → told_from conn before (if b then lines.Same ∷ [] else lines.Published n ∷ []) ≡ before
same_go conn before n true = refl
same_go conn before n false = refl

pub reading_tell : (conn : ℕ) (before : List ℕ) (r : Result State DocFault) (p q : Publication) → told_from conn before (reading_lines r p q) ≡ before
reading_tell conn before (Ok d) p q = same_go conn before q.number (p.number == q.number)
reading_tell conn before (Err fault) p q = refl

tickets_tell : (conn : ℕ) (before : List ℕ) (fs : List Flight) → told_from conn before (map ticket_line fs) ≡ before
tickets_tell conn before [] = refl
tickets_tell conn before (f ∷ fs) = tickets_tell conn before fs

pub claim_tell : (conn : ℕ) (before : List ℕ) (p q : Publication) (fs : List Flight) → told_from conn before (published_lines p q ++ map ticket_line fs) ≡ before
claim_tell conn before p q fs =
    told_append conn before (published_lines p q) (map ticket_line fs)
    ∙ (ap (λ (b : List ℕ). told_from conn b (map ticket_line fs)) (published_tell conn before p q) ∙ tickets_tell conn before fs)

installed_tell : (conn : ℕ) (before : List ℕ) (i : Installed) (more : List Line) → told_from conn before (installed_line i ∷ more) ≡ told_from conn before more
installed_tell conn before installed.Kept more = refl
installed_tell conn before installed.NoSuchAsk more = refl
installed_tell conn before (installed.Unfit u) more = refl
installed_tell conn before (installed.Older n) more = refl
installed_tell conn before installed.Spent more = refl

pub identity_tell : (conn : ℕ) (before : List ℕ) (f : Option Flight) (n : ℕ) (g : Signed) (now : ℕ) (m : Stored) → told_from conn before (identity_lines_by f n g now m) ≡ before
identity_tell conn before None n g now m = refl
identity_tell conn before (Some f) n g now m = installed_tell conn before (install now f.ask g m.store) (published_lines m.published (after_identity n g now m).published)
    ∙ published_tell conn before m.published (after_identity n g now m).published

pub no_identity_tell : (conn : ℕ) (before : List ℕ) (f : Option Flight) → told_from conn before (no_identity_lines f) ≡ before
no_identity_tell conn before None = refl
no_identity_tell conn before (Some f) = refl

pub name_tell : (conn : ℕ) (before : List ℕ) (k : ℕ) (caller : Option (List (List ℕ))) (o : Option Seat) → told_from conn before (name_lines k caller o) ≡ before
name_tell conn before k caller None = refl
name_tell conn before k None (Some seat) = refl
name_tell conn before k (Some sel) (Some seat) = refl

pub close_tell : (conn : ℕ) (before : List ℕ) (k : ℕ) (o : Option Seat) → told_from conn before (close_lines k o) ≡ before
close_tell conn before k None = refl
close_tell conn before k (Some seat) = refl

pub idle_tell : (conn : ℕ) (before : List ℕ) (k : ℕ) (f : Option SessionFault) → told_from conn before (idle_lines k f) ≡ before
idle_tell conn before k None = refl
idle_tell conn before k (Some (faults.Protocol f)) = refl
idle_tell conn before k (Some faults.Memory) = refl

failure_tell : (conn : ℕ) (before : List ℕ) (k : ℕ) (f : Option SessionFault) → told_from conn before (failure_lines k f) ≡ before
failure_tell conn before k None = refl
failure_tell conn before k (Some (faults.Protocol f)) = refl
failure_tell conn before k (Some faults.Memory) = refl

-- ---- what is written

-- a test that fails, or holds
pub if_true : {A : Type 0} (b : Bool) (x y : A) → b ≡ true → (if b then x else y) ≡ x
if_true b x y is = rw is refl

pub if_false : {A : Type 0} (b : Bool) (x y : A) → b ≡ false → (if b then x else y) ≡ y
if_false b x y is = rw is refl

out_here : (conn : ℕ) (before bytes : List ℕ) (k : ℕ) → (k == conn) ≡ true → told_from conn before (out_lines k bytes) ≡ before ++ bytes
out_here conn before [] k is = sym (append-nil before)
out_here conn before (b ∷ bytes) k is = if_true (k == conn) (before ++ b ∷ bytes) before is

out_elsewhere : (conn : ℕ) (before bytes : List ℕ) (k : ℕ) → (k == conn) ≡ false → told_from conn before (out_lines k bytes) ≡ before
out_elsewhere conn before [] k is = refl
out_elsewhere conn before (b ∷ bytes) k is = if_false (k == conn) (before ++ b ∷ bytes) before is

pub session_here : (conn : ℕ) (before : List ℕ) (k : ℕ) (told : Told) → (k == conn) ≡ true → told_from conn before (session_lines k told) ≡ before ++ told.bytes
session_here conn before k told is =
    told_append conn before (out_lines k told.bytes) (failure_lines k (failure_in told.after))
    ∙ (failure_tell conn (told_from conn before (out_lines k told.bytes)) k (failure_in told.after) ∙ out_here conn before told.bytes k is)

pub session_elsewhere : (conn : ℕ) (before : List ℕ) (k : ℕ) (told : Told) → (k == conn) ≡ false → told_from conn before (session_lines k told) ≡ before
session_elsewhere conn before k told is =
    told_append conn before (out_lines k told.bytes) (failure_lines k (failure_in told.after))
    ∙ (failure_tell conn (told_from conn before (out_lines k told.bytes)) k (failure_in told.after) ∙ out_elsewhere conn before told.bytes k is)
