-- What is cut was framed, and what was framed is cut.
use Rattle.std.proofs.Common.{◌≡◌, inl, inr, ℕ, zero, suc, ◌^◌, ◌<◌, ◌≤◌, ◌==◌, List, [], ◌∷◌, ◌++◌, length, take, drop, slice_index, Result, Ok, Err, Option, Some, None, refl, sym, ap, ◌∙◌, arith, append_assoc, nat_lt, ltb-false, subst}
use Rattle.std.proofs.lemmas.Bool.{cases_Bool, eqb-true}
use Rattle.std.proofs.lemmas.List.{take-append-drop, length-take, length-drop}
use Rattle.std.proofs.lemmas.Nat.{be_bytes_4}
use Rattle.std.specs.List.{AllByRecursion, flat_map}
use Rattle.std.specs.Int.{w32, from_be_bytes, to_be_bytes}
use Rattle.list_laws.specs.Lists.{AreBytes}
use Rattle.list_laws.proofs.Bytes.{bytes_take, bytes_drop}
use Rattle.grpc_wire.specs.declared.fault.MessageFault.{MessageFault}
use Rattle.grpc_wire.specs.Messages.{framed, length_within, prefix_of, Step, partial, whole, wrong, step_of_prefix, first_message, End, Rest, Fault, Reading, after_step, messages_of}
use Rattle.grpc_wire.specs.Bodies.{EndsSo, IsBody}
use Rattle.grpc_wire.proofs.Fronts.{IsShorter, first_shorter}
use Rattle.grpc_wire.proofs.MessageFrames.{read_again}
use Rattle.grpc_wire.proofs.Cuts.{messages_step, messages_end, messages_wrong}

-- ---- a message that was cut had this form

-- what a prefix says that says a length
record HasPrefix (limit : ℕ) (b : List ℕ) (n : ℕ) : Type 0 where
  pub long : 5 ≤ length b
  pub flag : slice_index b 0 ≡ 0
  pub count : n ≡ from_be_bytes w32 (take 4 (drop 1 b))
  pub small : n ≤ limit

within_found : (limit count n : ℕ) → length_within limit count ≡ Ok (Some n) → (n ≡ count) × (n ≤ limit)
within_found limit count n e =
    elim (cases_Bool (nat_lt limit count)) [
      | inl large ↦ absurd (cc (rw large at e))
      | inr small ↦ (let same : count ≡ n = cc (rw small at e) in (sym same, subst (λ (m : ℕ). m ≤ limit) same (ltb-false limit count small)))
    ]

prefix_found : (limit : ℕ) (b : List ℕ) (n : ℕ) → prefix_of limit b ≡ Ok (Some n) → HasPrefix limit b n
unfolding prefix_of
prefix_found limit b n said =
    elim (cases_Bool (nat_lt (length b) 1)) [
      | inl none ↦ absurd (cc (rw none at said))
      | inr none ↦ elim (cases_Bool (slice_index b 0 == 0)) [
        | inr flag ↦ absurd (cc (rw (none, flag) at said))
        | inl flag ↦ elim (cases_Bool (nat_lt (length b) 5)) [
          | inl few ↦ absurd (cc (rw (none, flag, few) at said))
          | inr few ↦
              let count = within_found limit (from_be_bytes w32 (take 4 (drop 1 b))) n (rw (none, flag, few) at said) in
              record { long = ltb-false (length b) 5 few; flag = eqb-true (slice_index b 0) 0 flag; count = count.0; small = count.1 }
        ]
      ]
    ]

-- what is after a prefix that says a length
record HasContent (said : Result (Option ℕ) MessageFault) (after m rest : List ℕ) : Type 0 where
  pub count : ℕ
  pub is_count : said ≡ Ok (Some count)
  pub enough : count ≤ length after
  pub is_message : m ≡ take count after
  pub is_rest : rest ≡ drop count after

content_found : (said : Result (Option ℕ) MessageFault) (after m rest : List ℕ) → step_of_prefix said after ≡ whole m rest → HasContent said after m rest
content_found (Err fault) after m rest e = absurd (cc e)
content_found (Ok None) after m rest e = absurd (cc e)
content_found (Ok (Some n)) after m rest e =
    elim (cases_Bool (nat_lt (length after) n)) [
      | inl short ↦ absurd (cc (rw short at e))
      | inr enough ↦ record { count = n; is_count = refl; enough = ltb-false (length after) n enough; is_message = (let same : take n after ≡ m = cc (rw enough at e) in sym same); is_rest = (let same : drop n after ≡ rest = cc (rw enough at e) in sym same) }
    ]

five_bytes : (b : List ℕ) → 5 ≤ length b → slice_index b 0 ≡ 0 → b ≡ 0 ∷ (take 4 (drop 1 b) ++ drop 5 b)
five_bytes [] long flag = absurd (omega (arith, long))
five_bytes (x ∷ xs) long flag = λ i. flag i ∷ sym (take-append-drop 4 xs) i

record IsFramed (limit : ℕ) (b m rest : List ℕ) : Type 0 where
  pub parts : b ≡ framed m ++ rest
  pub short : length m ≤ limit
  pub are_bytes : AreBytes rest

whole_found : (limit : ℕ) (b m rest : List ℕ) → AreBytes b → first_message limit b ≡ whole m rest → IsFramed limit b m rest
unfolding first_message framed
whole_found limit b m rest bytes e =
    let c = content_found (prefix_of limit b) (drop 5 b) m rest e in
    let p = prefix_found limit b c.count c.is_count in
    let sized : length m ≡ c.count = omega (arith, ap length c.is_message, length-take c.count (drop 5 b), c.enough) in
    let four : length (take 4 (drop 1 b)) ≡ 4 = omega (arith, p.long, length-take 4 (drop 1 b), length-drop 1 b) in
    let prefix : to_be_bytes w32 (length m) ≡ take 4 (drop 1 b) = be_bytes_4 (take 4 (drop 1 b)) (length m) four (bytes_take 4 (drop 1 b) (bytes_drop 1 b bytes)) (sized ∙ p.count) in
    let content : drop 5 b ≡ m ++ rest = sym (take-append-drop c.count (drop 5 b)) ∙ (λ i. sym c.is_message i ++ sym c.is_rest i) in
    record {
      parts = five_bytes b p.long p.flag ∙ (λ i. 0 ∷ (sym prefix i ++ content i)) ∙ ap (λ (xs : List ℕ). 0 ∷ xs) (sym (append_assoc (to_be_bytes w32 (length m)) m rest));
      short = omega (arith, sized, p.small);
      are_bytes = subst AreBytes (sym c.is_rest) (bytes_drop c.count (drop 5 b) (bytes_drop 5 b bytes));
    }

-- ---- a whole body

body_step : (limit n : ℕ) (s : Step) (b : List ℕ) → AreBytes b → IsShorter n s → first_message limit b ≡ s → ((rest : List ℕ) → AreBytes rest → length rest < n → IsBody limit rest (messages_of limit rest)) → IsBody limit b (after_step s b (messages_of limit))
body_step limit n partial b bytes short e later = record { rest = b; parts = refl; short = tt; ends = (refl, e) }
body_step limit n (wrong fault) b bytes short e later = record { rest = b; parts = refl; short = tt; ends = e }
body_step limit n (whole m rest) b bytes short e later =
    let w = whole_found limit b m rest bytes e in
    let t = later rest w.are_bytes short in
    record {
      rest = t.rest;
      parts = w.parts ∙ ap (λ (xs : List ℕ). framed m ++ xs) t.parts ∙ sym (append_assoc (framed m) (flat_map framed (messages_of limit rest).messages) t.rest);
      short = (w.short, t.short);
      ends = t.ends;
    }

body_below : (limit n : ℕ) (b : List ℕ) → AreBytes b → length b < n → IsBody limit b (messages_of limit b)
body_below limit zero b bytes lt = absurd (omega (arith, lt))
body_below limit (suc n) b bytes lt =
    rw (messages_step limit b) (body_step limit (length b) (first_message limit b) b bytes (first_shorter limit b) refl (λ rest are less. body_below limit n rest are (omega (arith, lt, less))))

pub body_found : (limit : ℕ) (b : List ℕ) → AreBytes b → IsBody limit b (messages_of limit b)
body_found limit b bytes = body_below limit (suc (length b)) b bytes (omega arith)

rest_again : (limit : ℕ) (rest : List ℕ) (ending : End) → EndsSo limit rest ending → messages_of limit rest ≡ record { messages = []; ending = ending }
rest_again limit rest (Rest kept) ends = messages_end limit rest ends.1 ∙ ap (λ (xs : List ℕ). record { messages = []; ending = Rest xs }) (sym ends.0)
rest_again limit rest (Fault fault) ends = messages_wrong limit rest fault ends

messages_again : (limit : ℕ) (ms : List (List ℕ)) (rest : List ℕ) (ending : End) → limit < 2 ^ 32 → AllByRecursion (λ m. length m ≤ limit) ms → EndsSo limit rest ending → messages_of limit (flat_map framed ms ++ rest) ≡ record { messages = ms; ending = ending }
messages_again limit [] rest ending small short ends = rest_again limit rest ending ends
messages_again limit (m ∷ ms) rest ending small short ends =
    let first = read_again limit m (flat_map framed ms ++ rest) (omega (arith, small, short.0)) short.0 in
    rw (append_assoc (framed m) (flat_map framed ms) rest, messages_step limit (framed m ++ (flat_map framed ms ++ rest)), first, messages_again limit ms rest ending small short.1 ends) refl

pub body_again : (limit : ℕ) (b : List ℕ) (r : Reading) → limit < 2 ^ 32 → IsBody limit b r → messages_of limit b ≡ r
body_again limit b r small is = rw is.parts (messages_again limit r.messages is.rest r.ending small is.short is.ends)
