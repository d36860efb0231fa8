-- What was written on a stream, cut at the lengths of gRPC, is the messages of its responses.
use Rattle.std.proofs.Common.{◌≡◌, ℕ, ◌^◌, ◌<◌, ◌≤◌, List, [], ◌∷◌, ◌++◌, length, refl, sym, ap, ◌∙◌, arith, append-nil}
use Rattle.std.specs.List.{AllByRecursion, flat_map}
use Rattle.std.proofs.lemmas.Grind.{flat_map-append}
use Rattle.list_laws.proofs.Elements.{all_append}
use Rattle.wl_responses.proofs.Common.{framed, MAX_RESPONSE_LEN, Response, Replies}
use Rattle.grpc_wire.specs.Messages.{prefix_of, first_message, partial, End, Rest, Fault, Reading, messages_of, reading_from, read_on, IsOpen}
use Rattle.grpc_wire.proofs.Cuts.{messages_step, messages_end}
use Rattle.grpc_wire.proofs.MessageFrames.{read_again}
use Rattle.grpc_wire.proofs.Pieces.{from_start}
use Rattle.wl_responses.proofs.Sizes.{answer_is_short}
use Rattle.wl_responses.specs.Responses.{IsAnswer, all_bytes, AreMessages, IsCut}

-- ---- all responses

-- their messages, each within the limit
record Have (begun : List Response) : Type 0 where
  messages : List (List ℕ)
  are : AreMessages begun messages
  bytes : all_bytes begun ≡ flat_map framed messages
  short : AllByRecursion (λ (m : List ℕ). length m ≤ MAX_RESPONSE_LEN) messages

have : (begun : List Response) → AllByRecursion IsAnswer begun → Have begun
have [] answers = record { messages = []; are = refl; bytes = refl; short = tt }
have (r ∷ before) answers =
    let old = have before answers.1 in
    let one = answer_is_short r.turn r.bytes answers.0 in
    record {
      messages = old.messages ++ one.0 ∷ [];
      are = (one.0, old.messages, refl, one.1, old.are);
      bytes =
          (λ i. old.bytes i ++ one.1 i)
          ∙ (ap (λ (xs : List ℕ). flat_map framed old.messages ++ xs) (sym (append-nil (framed one.0)))
          ∙ sym (flat_map-append framed old.messages (one.0 ∷ [])));
      short = all_append (λ (m : List ℕ). length m ≤ MAX_RESPONSE_LEN) old.messages (one.0 ∷ []) old.short (one.2, tt);
    }

-- ---- they are cut out again

nothing_cut : (limit : ℕ) → first_message limit [] ≡ partial
unfolding first_message prefix_of
nothing_cut limit = refl

all_cut : (limit : ℕ) (ms : List (List ℕ)) → limit < 2 ^ 32 → AllByRecursion (λ (m : List ℕ). length m ≤ limit) ms → messages_of limit (flat_map framed ms) ≡ record { messages = ms; ending = Rest [] }
all_cut limit [] small short = messages_end limit [] (nothing_cut limit)
all_cut limit (m ∷ ms) small short =
    let first = read_again limit m (flat_map framed ms) (omega (arith, small, short.0)) short.0 in
    rw (messages_step limit (framed m ++ flat_map framed ms), first, all_cut limit ms small short.1) refl

stays_open : (limit : ℕ) (e : End) (more : List ℕ) → (reading_from limit e more).ending ≡ Rest [] → IsOpen e
unfolding reading_from
stays_open limit (Rest rest) more is = tt
stays_open limit (Fault fault) more is = absurd (cc is)

pub responses_cut : (r : Replies) → r.written ++ r.left ≡ all_bytes r.begun → AllByRecursion IsAnswer r.begun → IsCut MAX_RESPONSE_LEN r
responses_cut r bytes answers =
    let limit = MAX_RESPONSE_LEN in
    let all = have r.begun answers in
    let w = messages_of limit r.written in
    let whole : record { messages = all.messages; ending = Rest [] } ≡ read_on limit w r.left =
    sym (all_cut limit all.messages (omega arith) all.short) ∙ (ap (messages_of limit) (sym (bytes ∙ all.bytes)) ∙ from_start limit r.written r.left) in
    record {
      messages = all.messages;
      are = all.are;
      cut = ((reading_from limit w.ending r.left).messages, ap (λ (x : Reading). x.messages) whole);
      unbroken = stays_open limit w.ending r.left (sym (ap (λ (x : Reading). x.ending) whole));
    }
