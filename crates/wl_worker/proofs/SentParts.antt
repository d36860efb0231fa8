-- A link takes bytes part by part.
use Rattle.std.proofs.Common.{◌≡◌, ℕ, ◌+◌, ◌≤◌, List, [], ◌++◌, length, take, drop, Option, Some, None, IfSome, sym, ap, ◌∙◌, arith, append_assoc}
use Rattle.std.proofs.lemmas.List.{append-nil, drop-drop, take-append-drop, take-take, length-take}
use Rattle.wl_edge.specs.Links.{LinkLog, with_taken, TryTakes, TriesToSend}
use Rattle.wl_edge.specs.declared.link.TrySent.{TrySent}
use Rattle.wl_edge.specs.declared.link.TrySent.TheVariants as try
use Rattle.wl_worker.specs.Served.{LinkGains}
use Rattle.wl_worker.specs.Sending.{Passes}
use Rattle.wl_worker.proofs.Growth.{link_then}

-- a link that took some bytes
took_some : (old new : Option LinkLog) (bytes : List ℕ) → IfSome old (λ log. new ≡ Some (with_taken log bytes)) → LinkGains old new [] bytes
took_some None new bytes tells = tt
took_some (Some log) new bytes tells = tells ∙ ap Some (λ i. record { gave = sym (append-nil log.gave) i; took = log.took ++ bytes })

-- The link took some bytes, and then some of those that were left.
pub passes_more : (old mid new : Option LinkLog) (sent n : ℕ) (unsent output left : List ℕ) → Passes old mid unsent (drop sent output) → IfSome mid (λ log. new ≡ Some (with_taken log (take n (drop sent output)))) → left ≡ drop (sent + n) output
    → Passes old new unsent left
passes_more old mid new sent n unsent output left one tells is =
    let more = take n (drop sent output) in
    let rest : drop sent output ≡ more ++ left = sym (take-append-drop n (drop sent output)) ∙ ap (λ (xs : List ℕ). more ++ xs) (drop-drop n sent output ∙ sym is) in
    record {
      took = one.took ++ more;
      link = link_then old mid new [] [] one.took more one.link (took_some mid new more tells);
      rest = one.rest ∙ ap (λ (xs : List ℕ). one.took ++ xs) rest ∙ sym (append_assoc one.took more left);
    }

tells_all : (old new : Option LinkLog) (bytes part : List ℕ) → part ≡ bytes → IfSome old (λ log. new ≡ Some (with_taken log part)) → IfSome old (λ log. new ≡ Some (with_taken log bytes))
tells_all None new bytes part is tells = tt
tells_all (Some log) new bytes part is tells = tells ∙ ap (λ (xs : List ℕ). Some (with_taken log xs)) is

takes_all : (old new : Option LinkLog) (before now stalled stalls count : ℕ) (bytes part : List ℕ) (answer : TrySent) → part ≡ take count bytes → TryTakes old new before now stalled stalls part answer → TryTakes old new before now stalled stalls bytes answer
takes_all old new before now stalled stalls count bytes part (try.Took n) is takes =
    let few : n ≤ count = omega (arith, takes.1, ap length is, length-take count bytes) in
    (takes.0, omega (arith, takes.1, ap length is, length-take count bytes), tells_all old new (take n bytes) (take n part) (ap (take n) is ∙ take-take n count bytes few) takes.2)
takes_all old new before now stalled stalls count bytes part try.Later is takes = takes
takes_all old new before now stalled stalls count bytes part try.Failed is takes = takes

-- a sending of the first of some bytes is one of all
pub tries_all : (old new : Option LinkLog) (before now stalled stalls count : ℕ) (bytes part : List ℕ) (answer : TrySent) → part ≡ take count bytes → TriesToSend old new before now stalled stalls part answer → TriesToSend old new before now stalled stalls bytes answer
tries_all old new before now stalled stalls count bytes part answer is tries =
    record { takes = takes_all old new before now stalled stalls count bytes part answer is tries.takes; later = tries.later; stalls_later = tries.stalls_later }
