-- A control frame is queued in two parts, its head and its payload.
use Rattle.std.proofs.Common.{◌≡◌, ℕ, ◌++◌, List, ap}
use Rattle.std.proofs.lemmas.List.{append_assoc}
use Rattle.h2_conn.proofs.Common.{Out, with_control}

pub head_and_payload : (head payload : List ℕ) (o : Out) → with_control payload (with_control head o) ≡ with_control (head ++ payload) o
unfolding with_control
head_and_payload head payload o = ap (λ (xs : List ℕ). record o { control = xs }) (append_assoc o.control head payload)
