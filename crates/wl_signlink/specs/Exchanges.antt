-- One request and the line that answers it (own rules), over a sink and a source that may tell their content.
use Rattle.std.specs.Prelude.{◌≡◌, ◌⊎◌, ◌≤◌, ◌<◌, ◌+◌, ◌==◌, ℕ, Bool, true, false, List, [], ◌∷◌, ◌++◌, length, take, Option, Some, IfSome, Result, Err}
use Rattle.std.specs.List.{list_any}
use Rattle.wl_edge.specs.Edge.{Rose, Gained}
use Rattle.wl_signlink.specs.declared.exchanges.Piece.{Piece}
use Rattle.wl_signlink.specs.declared.exchanges.Piece.TheVariants.{Line, More, TooLong}
use Rattle.wl_signlink.specs.declared.fault.LineFault.{LineFault}
use Rattle.wl_signlink.specs.declared.fault.LineFault.TheVariants.{Wrong}
use Rattle.wl_signlink.specs.declared.limits.TheConstants.{REPLY_LIMIT}

-- ---- a line

abbrev pub has_newline : List ℕ → Bool
has_newline bytes = list_any (λ b. b == 10) bytes

-- What a source has begins with this line and a newline. What was read with them from after the newline is lost; where
-- the line is the last, that is nothing.
pub record FirstLine (whole : List ℕ) (new : Option (List ℕ)) (line : List ℕ) (is_last : Bool) : Type 0 where
  pub behind : List ℕ
  pub rest : List ℕ
  pub left : new ≡ Some rest
  pub is : whole ≡ line ++ (10 ∷ (behind ++ rest))
  pub last : is_last ≡ true → behind ≡ []

-- one line within its limit was read, where the source tells its content from its front
pub record ReadsLine (old new : Option (List ℕ)) (line : List ℕ) (is_last : Bool) : Type 0 where
  pub one : has_newline line ≡ false
  pub few : length line ≤ REPLY_LIMIT
  pub gives : IfSome old (λ whole. FirstLine whole new line is_last)

-- no newline stands within the limit
abbrev pub NoLine : Option (List ℕ) → Type 0
NoLine old = IfSome old (λ whole. has_newline (take (REPLY_LIMIT + 1) whole) ≡ false)

-- ---- a piece that came, after what came before it

-- what stands in a piece before its first newline, and after it
pub record CutPiece (piece part behind : List ℕ) : Type 0 where
  pub is : piece ≡ part ++ (10 ∷ behind)
  pub one : has_newline part ≡ false

abbrev pub PieceGives : List ℕ → List ℕ → List ℕ → Piece → Type 0
PieceGives old new piece (Line is_last) = (part : List ℕ) × (behind : List ℕ) × CutPiece piece part behind × (new ≡ old ++ part) × (length new ≤ REPLY_LIMIT) × (is_last ≡ true → behind ≡ [])
PieceGives old new piece More = (has_newline piece ≡ false) × (new ≡ old ++ piece)
PieceGives old new piece TooLong = (part : List ℕ) × (behind : List ℕ) × CutPiece piece part behind × (REPLY_LIMIT < length old + length part)

-- ---- an exchange

-- The whole request was sent, and the line that comes first is the answer to it.
pub record Exchanged (taken taken' left left' : Option (List ℕ)) (request line : List ℕ) (is_last : Bool) : Type 0 where
  pub sent : Gained taken taken' request
  pub read : ReadsLine left left' line is_last

-- a write failed, or a read failed, or there is no line
abbrev pub NoReply : ℕ → ℕ → ℕ → ℕ → Option (List ℕ) → Type 0
NoReply unsent unsent' unread unread' left = Rose unsent unsent' ⊎ (Rose unread unread' ⊎ NoLine left)

-- what the line that answered the request is due to give
pub record Answered {X : Type 0} (due : List ℕ → Result X LineFault) (taken taken' left left' : Option (List ℕ)) (request : List ℕ) (is_last : Bool) (answer : Result X LineFault) : Type 0 where
  pub line : List ℕ
  pub exchanged : Exchanged taken taken' left left' request line is_last
  pub is : due line ≡ answer

-- there is no reply, or there is one that is Wrong
abbrev pub NotAnswered : {X : Type 0} → (List ℕ → Result X LineFault) → ℕ → ℕ → ℕ → ℕ → Option (List ℕ) → Option (List ℕ) → Option (List ℕ) → Option (List ℕ) → List ℕ → Type 0
NotAnswered due unsent unsent' unread unread' taken taken' left left' request = NoReply unsent unsent' unread unread' left ⊎ ((is_last : Bool) × Answered due taken taken' left left' request is_last (Err Wrong))
