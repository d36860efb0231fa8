-- How far the answer on a client's stream is, as the connection has it and as the client has heard it.
use Rattle.std.proofs.Common.{◌≡◌, ◌⊎◌, ℕ, nat_lt, true, false, List, [], ◌∷◌, ◌++◌, length, Option, Some, None, Result, Ok, Err, sym, subst}
use Rattle.wl_heard.proofs.Common.{Header, Frame, Stream, ClientFault, Stage, Opening, Answering, Ended, Listener, Heard, Hearing, after_hearing, frame_heard, frames_heard}
use Rattle.wl_client.specs.declared.fault.ClientFault.TheVariants as faults
use Rattle.wl_client.proofs.Hearings.{heard_two}
use Rattle.wl_heard.proofs.Lists.{IsHead, IsEnd, IsWhole, BlockOf, IsGood}

-- ---- what was given to the stream

-- nothing, its head, its last block after the head, or its only block
pub data Mark : Type 0 where
  Bare : Mark
  Headed : Mark
  Closing : Mark
  Alone : Mark

abbrev pub HasBlock : (List Header → Type 0) → Option (List ℕ) → Type 0
HasBlock P None = ⊥
HasBlock P (Some block) = BlockOf P block

-- the head is still due, or the client has it
abbrev pub HeadAt : Stage → Option (List ℕ) → Type 0
HeadAt Opening head = HasBlock IsHead head
HeadAt Answering head = head ≡ None
HeadAt Ended head = ⊥

pub record IsBare (g : Stage) (s : Stream) : Type 0 where
  pub stage : g ≡ Opening
  pub head : s.head ≡ None
  pub last : s.last ≡ []
  pub waiting : s.waiting ≡ None
  pub trailers : s.trailers ≡ None
  pub finished : s.finished ≡ false

pub record IsHeaded (g : Stage) (s : Stream) : Type 0 where
  pub head : HeadAt g s.head
  pub trailers : s.trailers ≡ None
  pub finished : s.finished ≡ false

-- the last block is due after the head
pub record IsEnding (g : Stage) (s : Stream) : Type 0 where
  pub head : HeadAt g s.head
  pub trailers : HasBlock IsEnd s.trailers
  pub finished : s.finished ≡ true

-- the last block is all of the answer
pub record IsAlone (g : Stage) (s : Stream) : Type 0 where
  pub stage : g ≡ Opening
  pub head : s.head ≡ None
  pub last : s.last ≡ []
  pub waiting : s.waiting ≡ None
  pub trailers : HasBlock IsWhole s.trailers
  pub finished : s.finished ≡ true

-- the client has the last block
pub record IsOver (g : Stage) (s : Stream) : Type 0 where
  pub stage : g ≡ Ended
  pub head : s.head ≡ None
  pub waiting : s.waiting ≡ None
  pub trailers : s.trailers ≡ None
  pub sent : nat_lt s.sent (length s.last) ≡ false
  pub finished : s.finished ≡ true

abbrev pub At : Mark → Stage → Stream → Type 0
At Bare g s = IsBare g s
At Headed g s = IsHeaded g s
At Closing g s = IsEnding g s ⊎ IsOver g s
At Alone g s = IsAlone g s

-- ---- what the client makes of frames

-- a fault of messages, or one after which this holds; a refusal by HTTP has a number
abbrev pub Kept : Type 0 → ClientFault → Type 0
Kept E (faults.Message fault) = Unit {0}
Kept E (faults.HttpStatus number) = E × (number ≡ 0 → ⊥)
Kept E (faults.Reset code) = E
Kept E (faults.GoAway code) = E
Kept E fault = ⊥

-- the client goes on so, or has such a fault
abbrev pub Lands : Type 0 → (Listener → Type 0) → Result Listener ClientFault → Type 0
Lands E P (Ok l) = P l
Lands E P (Err fault) = Kept E fault

-- no block is open, and blocks can be decoded
pub record Ready (l : Listener) : Type 0 where
  pub block : l.block ≡ None
  pub decoder : IsGood l.decoder

pub kept_weaker : (E D : Type 0) → (E → D) → (fault : ClientFault) → Kept E fault → Kept D fault
kept_weaker E D go (faults.Message fault) h = tt
kept_weaker E D go (faults.HttpStatus number) h = (go h.0, h.1)
kept_weaker E D go (faults.Reset code) h = go h
kept_weaker E D go (faults.GoAway code) h = go h
kept_weaker E D go (faults.Frame fault) h = absurd h
kept_weaker E D go (faults.Header fault) h = absurd h
kept_weaker E D go (faults.Order stream) h = absurd h
kept_weaker E D go faults.NoStatus h = absurd h
kept_weaker E D go (faults.Undecodable fault) h = absurd h
kept_weaker E D go (faults.Cut size) h = absurd h
kept_weaker E D go faults.TooMuch h = absurd h
kept_weaker E D go faults.Idle h = absurd h
kept_weaker E D go faults.Memory h = absurd h
kept_weaker E D go faults.TooMany h = absurd h

pub lands_kept : (E D : Type 0) (P : Listener → Type 0) → (E → D) → (r : Result Listener ClientFault) → Lands E P r → Lands D P r
lands_kept E D P go (Ok l) h = h
lands_kept E D P go (Err fault) h = kept_weaker E D go fault h

module _ (E : Type 0) where
  pub lands_weaker : (P Q : Listener → Type 0) → ((l : Listener) → P l → Q l) → (r : Result Listener ClientFault) → Lands E P r → Lands E Q r
  lands_weaker P Q go (Ok l) h = go l h
  lands_weaker P Q go (Err fault) h = h

  pub lands_none : (P : Listener → Type 0) (l : Listener) → P l → Lands E P (frames_heard [] l).after
  unfolding frames_heard
  lands_none P l h = h

  after_lands : (P Q : Listener → Type 0) (told : List Heard) (bytes : List ℕ) (r : Result Listener ClientFault) (fs : List Frame) → Lands E P r → ((l : Listener) → P l → Lands E Q (frames_heard fs l).after) → Lands E Q (after_hearing told bytes r (frames_heard fs)).after
  after_lands P Q told bytes (Ok l) fs h go = go l h
  after_lands P Q told bytes (Err fault) fs h go = h

  pub lands_first : (P Q : Listener → Type 0) (f : Frame) (fs : List Frame) (l : Listener) → Lands E P (frame_heard f l).after → ((k : Listener) → P k → Lands E Q (frames_heard fs k).after) → Lands E Q (frames_heard (f ∷ fs) l).after
  unfolding frames_heard
  lands_first P Q f fs l h go = let x = frame_heard f l in after_lands P Q x.told x.bytes x.after fs h go

  pub lands_one : (P : Listener → Type 0) (f : Frame) (l : Listener) → Lands E P (frame_heard f l).after → Lands E P (frames_heard (f ∷ []) l).after
  lands_one P f l h = lands_first P P f [] l h (λ k p. lands_none P k p)

  pub lands_both : (P Q : Listener → Type 0) (fs gs : List Frame) (l : Listener) → Lands E P (frames_heard fs l).after → ((k : Listener) → P k → Lands E Q (frames_heard gs k).after) → Lands E Q (frames_heard (fs ++ gs) l).after
  lands_both P Q fs gs l h go =
      let x = frames_heard fs l in
      subst (λ (y : Hearing). Lands E Q y.after) (sym (heard_two fs gs l)) (after_lands P Q x.told x.bytes x.after gs h go)
