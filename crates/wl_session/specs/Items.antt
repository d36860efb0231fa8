-- What happens to a session, one item after another, and the talk over these items (own rules).
use Rattle.std.specs.Prelude.{ℕ, if◌then◌else◌, List, [], ◌∷◌, ◌++◌, map, filter, Option, Some, None, is_none}
use Rattle.std.specs.List.{list_all}
use Rattle.h2_frame.specs.declared.fault.FrameFault.{FrameFault}
use Rattle.h2_frame.specs.declared.frame.Frame.{Frame}
use Rattle.h2_frame.specs.Reading.{End, Opening, Rest, Fault, Reading, reading_from}
use Rattle.h2_conn.specs.declared.fault.ConnFault.{ConnFault}
use Rattle.h2_conn.specs.declared.phase.Phase.{Phase}
use Rattle.wl_snapshot.specs.Snapshots.{Publication}
use Rattle.wl_snapshot.specs.Views.{ViewModel, view_in}
use Rattle.wl_session.specs.declared.asks.JwtOutcome.{JwtOutcome}
use Rattle.wl_session.specs.declared.served.Stage.{Stage}
use Rattle.wl_session.specs.declared.served.Stage.TheVariants.{Unnamed, Ready, Asking}
use Rattle.wl_session.specs.declared.served.ServedCall.{ServedCall}
use Rattle.wl_session.specs.Kinds.{was_seen}
use Rattle.wl_session.specs.Answering.{Turned, goes_on, has_ended, call_answer, turn_before}
use Rattle.wl_session.specs.Tokens.{is_unnamed}
use Rattle.wl_session.specs.Talks.{Talking, Said, fresh_talk, then_, silent, written, frame_said, break_said}
use Rattle.wl_session.specs.Sessions.{SessionState, Running, Fallen, OutOfMemory, with_turned, feed_said, name_said, given_said}

-- ---- the talk over a trace

-- What happens to a session: a frame of the peer; bytes that are none; that the first call that was not attested was
-- attested, or could not be, on its stream; a turn, with the view of each ready call by ascending stream where it is another
-- than the one that answered the call last; and what the first waiting ask got.
pub data Item : Type 0 where
  FrameItem : Frame → Item
  BrokenItem : FrameFault → Item
  AttestedItem : ℕ → Item
  UnattestedItem : ℕ → Item
  TurnItem : List (Option ViewModel) → Item
  OutcomeItem : JwtOutcome → Item

-- a ready call is answered on a view
abbrev pub answered_stage : ViewModel → ℕ → Stage → Phase → Turned
answered_stage v n (Unnamed kind) p = goes_on n (Unnamed kind) p
answered_stage v n (Ready kind sel seen headed) p = call_answer n kind sel headed v p
answered_stage v n (Asking first rest got) p = goes_on n (Asking first rest got) p

abbrev pub answered_where : Option ViewModel → ServedCall → Phase → Turned
answered_where None c p = goes_on c.stream c.stage p
answered_where (Some v) c p = answered_stage v c.stream c.stage p

-- each call on its view
unfoldable pub calls_on : List (Option ViewModel) → List ServedCall → Phase → Turned
calls_on views [] p = has_ended p
calls_on [] (c ∷ cs) p = turn_before (goes_on c.stream c.stage p) (calls_on [] cs)
calls_on (v ∷ views) (c ∷ cs) p = turn_before (answered_where v c p) (calls_on views cs)

unfoldable pub views_said : List (Option ViewModel) → Talking → Said
views_said views t = written None (with_turned t (calls_on views t.served t.phase))

-- what a caller is attested as isn't part of its talk: its views are
abbrev pub item_said : Item → Talking → Said
item_said (FrameItem f) t = frame_said f t
item_said (BrokenItem why) t = break_said why t
item_said (AttestedItem n) t = name_said (Some []) t
item_said (UnattestedItem n) t = name_said None t
item_said (TurnItem views) t = views_said views t
item_said (OutcomeItem o) t = given_said o t

unfoldable pub items_said : List Item → Talking → Said
items_said [] t = silent t
items_said (i ∷ items) t = then_ (item_said i t) (items_said items)

-- Talk: all bytes written over a trace
abbrev pub talk : List Item → List ℕ
talk items = (items_said items fresh_talk).bytes

-- ---- the items of an event

-- bytes that aren't frames
abbrev pub broken_items : End → List Item
broken_items (Opening left) = []
broken_items (Rest rest) = []
broken_items (Fault why) = BrokenItem why ∷ []

abbrev pub attestation : Option (List (List ℕ)) → ServedCall → Item
attestation None c = UnattestedItem c.stream
attestation (Some selectors) c = AttestedItem c.stream

-- the calls that became ready, unless the talk has failed
abbrev pub attestations : Option ConnFault → Option (List (List ℕ)) → Talking → List Item
attestations None caller t = map (attestation caller) (filter is_unnamed t.served)
attestations (Some fault) caller t = []

abbrev pub reading_items : Reading → List Item
reading_items r = map FrameItem r.frames ++ broken_items r.ending

abbrev pub fed_items : Reading → Option (List (List ℕ)) → Talking → List Item
fed_items r caller t = reading_items r ++ attestations (feed_said r t).fault caller (feed_said r t).after

-- a session that has failed takes nothing more
abbrev pub feed_items : List ℕ → Option (List (List ℕ)) → SessionState → List Item
feed_items piece caller (Running e t shown) = fed_items (reading_from e piece) caller t
feed_items piece caller (Fallen fault begun) = []
feed_items piece caller OutOfMemory = []

abbrev pub view_where_new : Option ViewModel → ViewModel → Option ViewModel
view_where_new seen v = if was_seen seen v then None else Some v

abbrev pub stage_view : Publication → Stage → Option ViewModel
stage_view p (Unnamed kind) = None
stage_view p (Ready kind sel seen headed) = view_where_new seen (view_in p sel)
stage_view p (Asking first rest got) = None

abbrev pub call_view : Publication → ServedCall → Option ViewModel
call_view p c = stage_view p c.stage

-- a turn in which no view is new is left out, unless it is the first item
abbrev pub views_item : List Item → List (Option ViewModel) → List Item
views_item [] views = TurnItem views ∷ []
views_item (i ∷ before) views = if list_all is_none views then [] else TurnItem views ∷ []

abbrev pub turn_items : Publication → SessionState → List Item → List Item
turn_items p (Running e t shown) before = views_item before (map (call_view p) t.served)
turn_items p (Fallen fault begun) before = []
turn_items p OutOfMemory before = []
