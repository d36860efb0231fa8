-- A message that is written is cut out as that message, whatever follows.
use Rattle.std.proofs.Common.{◌≡◌, ℕ, ◌^◌, ◌<◌, ◌≤◌, List, ◌∷◌, ◌++◌, length, take, drop, Ok, Some, refl, arith, append_assoc, le-ltb}
use Rattle.std.proofs.Math.Seq.{take-append_seam, drop-append_seam}
use Rattle.std.proofs.lemmas.List.{length-append}
use Rattle.std.specs.Int.{w32, from_be_bytes, to_be_bytes}
use Rattle.grpc_wire.specs.Messages.{framed, prefix_of, first_message, whole}

four_bytes : (n : ℕ) (rest : List ℕ) → n < 2 ^ 32 → from_be_bytes w32 (take 4 (drop 1 (0 ∷ to_be_bytes w32 n ++ rest))) ≡ n
four_bytes n rest small = omega arith

spelled_prefix : (limit n : ℕ) (rest : List ℕ) → n < 2 ^ 32 → n ≤ limit → prefix_of limit (0 ∷ to_be_bytes w32 n ++ rest) ≡ Ok (Some n)
unfolding prefix_of
spelled_prefix limit n rest small fits =
    let count : from_be_bytes w32 (take 4 (drop 1 (0 ∷ to_be_bytes w32 n ++ rest))) ≡ n = four_bytes n rest small in
    let long : 5 ≤ length (0 ∷ to_be_bytes w32 n ++ rest) = omega arith in
    rw (le-ltb (length (0 ∷ to_be_bytes w32 n ++ rest)) 1 (omega arith), le-ltb (length (0 ∷ to_be_bytes w32 n ++ rest)) 5 long, count, le-ltb limit n fits) refl

spelled : (limit : ℕ) (m rest : List ℕ) → length m < 2 ^ 32 → length m ≤ limit → first_message limit (0 ∷ to_be_bytes w32 (length m) ++ (m ++ rest)) ≡ whole m rest
unfolding first_message
spelled limit m rest small fits =
    rw (spelled_prefix limit (length m) (m ++ rest) small fits, le-ltb (length (m ++ rest)) (length m) (simp length-append (omega arith)), take-append_seam m rest, drop-append_seam m rest) refl

pub read_again : (limit : ℕ) (m rest : List ℕ) → length m < 2 ^ 32 → length m ≤ limit → first_message limit (framed m ++ rest) ≡ whole m rest
unfolding framed
read_again limit m rest small fits =
    rw (append_assoc (0 ∷ to_be_bytes w32 (length m)) m rest) (spelled limit m rest small fits)
