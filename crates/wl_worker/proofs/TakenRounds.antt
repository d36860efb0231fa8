-- A connection stands for the rounds that it took.
use Rattle.std.proofs.Common.{◌≡◌, ℕ, List, [], ◌∷◌, ◌++◌, refl, sym, ap, subst, ◌∙◌, append_assoc}
use Rattle.std.proofs.lemmas.List.{append-nil}
use Rattle.wl_worker.proofs.Common.{Ask, Signed, Publication, Passing, LinkLog, Heard, SessionState, talk, Round, round_told, IsWhole, session_after, trace, pieces, AreWhole, pieces_given, ServedState, Stands, Began, log_on, ReadIn}
use Rattle.wl_edge.specs.declared.link.Heard.TheVariants as heard
use Rattle.wl_worker.specs.Rounds.{IsRound, AreRounds, GoesOn}
use Rattle.wl_worker.specs.Served.{IsPiece}
use Rattle.wl_worker.proofs.RoundTraces.{talk_grows}
use Rattle.wl_worker.proofs.SeenPublications.{read_prefix, read_known, are_longer, rises_on}

-- ---- pieces

pub pieces_append : (xs ys : List Heard) → pieces_given (xs ++ ys) ≡ pieces_given xs ++ pieces_given ys
pieces_append [] ys = refl
pieces_append (heard.Piece bytes ∷ xs) ys = ap (λ (ps : List (List ℕ)). bytes ∷ ps) (pieces_append xs ys)
pieces_append (heard.Idle ∷ xs) ys = ap (λ (ps : List (List ℕ)). [] ∷ ps) (pieces_append xs ys)
pieces_append (heard.End ∷ xs) ys = pieces_append xs ys
pieces_append (heard.Failed ∷ xs) ys = pieces_append xs ys

one_piece : (answer : Heard) (piece : List ℕ) → IsPiece answer piece → pieces_given (answer ∷ []) ≡ piece ∷ []
one_piece (heard.Piece bytes) piece is = ap (λ (p : List ℕ). p ∷ []) is
one_piece heard.Idle piece is = ap (λ (p : List ℕ). p ∷ []) (sym is)
one_piece heard.End piece is = absurd is
one_piece heard.Failed piece is = absurd is

-- what is heard and isn't a piece
pub no_piece : (log : LinkLog) (heards : List Heard) (took : List ℕ) (past : List Round) → pieces_given heards ≡ [] → pieces_given log.gave ≡ pieces past → pieces_given (log_on log heards took).gave ≡ pieces past
no_piece log heards took past none is = pieces_append log.gave heards ∙ (ap (λ (ps : List (List ℕ)). pieces_given log.gave ++ ps) none ∙ (append-nil (pieces_given log.gave) ∙ is))

next_piece : (log : LinkLog) (answer : Heard) (took : List ℕ) (r : Round) (past : List Round) → IsPiece answer r.piece → pieces_given log.gave ≡ pieces past
    → pieces_given (log_on log (answer ∷ []) took).gave ≡ pieces (r ∷ past)
next_piece log answer took r past piece is =
    pieces_append log.gave (answer ∷ []) ∙ (ap (λ (ps : List (List ℕ)). pieces_given log.gave ++ ps) (one_piece answer r.piece piece) ∙ ap (λ (ps : List (List ℕ)). ps ++ r.piece ∷ []) is)

-- ---- nothing but a sending, or the end of what the link gives

pub stands_sent : (log : LinkLog) (old new : ServedState) (seen : List Publication) (past : List Round) (heards : List Heard) (took : List ℕ)
    → new.session ≡ old.session → old.unsent ≡ took ++ new.unsent → pieces_given heards ≡ [] → Stands log old seen past → Stands (log_on log heards took) new seen past
stands_sent log old new seen past heards took same rest none stands =
    record {
      pieces = no_piece log heards took past none stands.pieces;
      session = same ∙ stands.session;
      talked = append_assoc log.took took new.unsent ∙ (ap (λ (xs : List ℕ). log.took ++ xs) (sym rest) ∙ stands.talked);
      whole = stands.whole;
      known = stands.known;
      rising = stands.rising;
    }

-- ---- a whole round

pub stands_round : (valid : Ask → Signed → Type 0) (log : LinkLog) (old new : ServedState) (v w : Passing) (past : List Round) (answer : Heard) (r : Round)
    → old.unsent ≡ [] → GoesOn old.session → IsPiece answer r.piece → IsWhole r old.session → new.session ≡ (round_told r old.session).after → new.unsent ≡ (round_told r old.session).bytes
    → ReadIn valid r.shown v w → Stands log old v.seen past → Stands (log_on log (answer ∷ []) []) new w.seen (r ∷ past)
stands_round valid log old new v w past answer r none goes piece whole after bytes read stands =
    let sent : log.took ≡ talk (trace past) = sym (append-nil log.took) ∙ (ap (λ (xs : List ℕ). log.took ++ xs) (sym none) ∙ stands.talked) in
    record {
      pieces = next_piece log answer [] r past piece stands.pieces;
      session = after ∙ ap (λ (s : SessionState). (round_told r s).after) stands.session;
      talked =
          ap (λ (xs : List ℕ). xs ++ new.unsent) (append-nil log.took ∙ sent)
          ∙ (ap (λ (xs : List ℕ). talk (trace past) ++ xs) (bytes ∙ ap (λ (s : SessionState). (round_told r s).bytes) stands.session)
          ∙ sym (talk_grows r past));
      whole = (subst (λ (s : SessionState). GoesOn s) stands.session goes, subst (λ (s : SessionState). IsWhole r s) stands.session whole, stands.whole);
      known = (read_known valid r.shown v w read, are_longer v.seen w.seen past (read_prefix valid r.shown v w read) stands.known);
      rising = rises_on valid r.shown v w past read stands.known stands.rising;
    }

-- ---- a connection that breaks off

whole_rounds : (past : List Round) → AreWhole past → AreRounds past
whole_rounds [] whole = tt
whole_rounds (r ∷ past) whole = (whole.0, whole.1.round, whole.2)

pub began : (log : LinkLog) (s : ServedState) (seen : List Publication) (past : List Round) → Stands log s seen past → Began log seen past
began log s seen past stands =
    record {
      pieces = stands.pieces;
      part = (s.unsent, sym stands.talked);
      rounds = whole_rounds past stands.whole;
      known = stands.known;
      rising = stands.rising;
    }

pub began_round : (valid : Ask → Signed → Type 0) (log : LinkLog) (old : ServedState) (v w : Passing) (past : List Round) (answer : Heard) (r : Round)
    → GoesOn old.session → IsPiece answer r.piece → IsRound r old.session → ReadIn valid r.shown v w → Stands log old v.seen past → Began (log_on log (answer ∷ []) []) w.seen (r ∷ past)
began_round valid log old v w past answer r goes piece round read stands =
    let told = (round_told r (session_after past)).bytes in
    record {
      pieces = next_piece log answer [] r past piece stands.pieces;
      part = (
        old.unsent ++ told,
        talk_grows r past
            ∙ (ap (λ (xs : List ℕ). xs ++ told) (sym stands.talked)
            ∙ (append_assoc log.took old.unsent told
            ∙ ap (λ (xs : List ℕ). xs ++ (old.unsent ++ told)) (sym (append-nil log.took)))),
      );
      rounds = (subst (λ (s : SessionState). GoesOn s) stands.session goes, subst (λ (s : SessionState). IsRound r s) stands.session round, stands.whole);
      known = (read_known valid r.shown v w read, are_longer v.seen w.seen past (read_prefix valid r.shown v w read) stands.known);
      rising = rises_on valid r.shown v w past read stands.known stands.rising;
    }
