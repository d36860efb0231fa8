-- The words that are a request are those that fit a command, and its operands are the command's.
use Rattle.std.specs.Prelude.{◌≡◌, ℕ, ◌&&◌, Bool, true, false, nat_le, if◌then◌else◌, List, [], ◌∷◌, length, codes, Option, Some, None, IfSome, option_map, option_and_then}
use Rattle.std.specs.Str.{bytes_eq}
use Rattle.std.specs.List.{list_all}
use Rattle.std.proofs.Common.{arith, refl, sym, ◌∙◌, ap}
use Rattle.wl_selector.specs.Selectors.{sorted_texts}
use Rattle.clap_words.specs.Operands.{operands}
use Rattle.agent_words.specs.Requests.{some_of, none_of, one_of, four_of, fitting, request_of}
use Rattle.wl_agent.specs.declared.command.Command.{Command}
use Rattle.wl_agent.specs.declared.command.Command.TheVariants.{Read}
use Rattle.wl_agent.specs.declared.command.Reading.TheVariants.{Preview, Check, Replay}
use Rattle.wl_agent.specs.Args.{is_selector, preview_of, alone, simulate_of, command_by, command_of}

abbrev Words : Type 0
Words = List (List ℕ)

-- ---- operands that fit are the command's

abbrev AreThese : Words → Option Words → Type 0
AreThese xs o = IfSome o (λ ys. ys ≡ xs)

either : (b : Bool) (xs : Words) (x y : Option Words) → AreThese xs x → AreThese xs y → AreThese xs (if b then x else y)
either true xs x y first second = first
either false xs x y first second = second

some_are : (b : Bool) (xs : Words) → AreThese xs (if b then Some xs else None)
some_are true xs = refl
some_are false xs = tt

none_are : (xs : Words) → AreThese xs (none_of xs)
none_are [] = refl
none_are (a ∷ xs) = tt

one_is : (xs : Words) → AreThese xs (one_of xs)
one_is [] = tt
one_is (a ∷ []) = refl
one_is (a ∷ b ∷ xs) = tt

four_are : (xs : Words) → AreThese xs (four_of xs)
four_are [] = tt
four_are (a ∷ []) = tt
four_are (a ∷ b ∷ []) = tt
four_are (a ∷ b ∷ c ∷ []) = tt
four_are (a ∷ b ∷ c ∷ d ∷ []) = refl
four_are (a ∷ b ∷ c ∷ d ∷ e ∷ xs) = tt

fitting_are : (w : List ℕ) (xs : Words) → AreThese xs (fitting w xs)
fitting_are w xs =
    either (bytes_eq w (codes "preview")) xs _ _ (some_are (nat_le 1 (length xs) && nat_le (length xs) 256) xs)
    (either (bytes_eq w (codes "check")) xs _ _ (none_are xs)
    (either (bytes_eq w (codes "replay")) xs _ _ (none_are xs)
    (either (bytes_eq w (codes "simulate")) xs _ _ (four_are xs)
    (either (bytes_eq w (codes "serve")) xs _ _ (one_is xs) tt))))

asked_by : (w n : List ℕ) (xs ops : Words) (o : Option Words) → AreThese xs o → option_map {U = List ℕ × Words} (λ ys. (w, ys)) o ≡ Some (n, ops) → command_by w xs ≡ command_by n ops
asked_by w n xs ops None these is = absurd (grind (arith, is))
asked_by w n xs ops (Some ys) these is =
    let name : w ≡ n = grind (arith, is) in
    let texts : ys ≡ ops = grind (arith, is) in
    ap (λ l. command_by w l) (sym these ∙ texts) ∙ ap (λ l. command_by l ops) name

fits_by : (w n : List ℕ) (ops : Words) (o : Option Words) → option_map {U = List ℕ × Words} (λ ys. (w, ys)) (option_and_then (fitting w) o) ≡ Some (n, ops) → option_and_then (command_by w) o ≡ command_by n ops
fits_by w n ops None is = absurd (grind (arith, is))
fits_by w n ops (Some xs) is = asked_by w n xs ops (fitting w xs) (fitting_are w xs) is

pub request_fits : (ws : Words) (n : List ℕ) (ops : Words) → request_of ws ≡ Some (n, ops) → command_of ws ≡ command_by n ops
unfolding command_of
request_fits [] n ops is = absurd (grind (arith, is))
request_fits (w ∷ ws) n ops is = fits_by w n ops (operands ws) is

-- ---- words that are no request fit no command

preview_none : (some few all : Bool) (xs : Words) → (if some && few then Some xs else None) ≡ None → (if some && (few && all) then Some (Read (Preview (sorted_texts xs))) else None) ≡ None
preview_none false few all xs is = refl
preview_none true false all xs is = refl
preview_none true true all xs is = absurd (grind (arith, is))

alone_none : (c : Command) (xs : Words) → none_of xs ≡ None → alone c xs ≡ None
alone_none c [] is = absurd (grind (arith, is))
alone_none c (a ∷ xs) is = refl

simulate_none : (xs : Words) → four_of xs ≡ None → simulate_of xs ≡ None
unfolding simulate_of
simulate_none [] is = refl
simulate_none (a ∷ []) is = refl
simulate_none (a ∷ b ∷ []) is = refl
simulate_none (a ∷ b ∷ c ∷ []) is = refl
simulate_none (a ∷ b ∷ c ∷ d ∷ []) is = absurd (grind (arith, is))
simulate_none (a ∷ b ∷ c ∷ d ∷ e ∷ xs) is = refl

none_by : (p c r s v : Bool) (xs : Words)
    → (if p then some_of xs else (if c then none_of xs else (if r then none_of xs else (if s then four_of xs else (if v then one_of xs else None))))) ≡ None
    → (if p then preview_of xs else (if c then alone (Read Check) xs else (if r then alone (Read Replay) xs else (if s then simulate_of xs else None)))) ≡ None
unfolding preview_of
none_by true c r s v xs is = preview_none (nat_le 1 (length xs)) (nat_le (length xs) 256) (list_all is_selector xs) xs is
none_by false true r s v xs is = alone_none (Read Check) xs is
none_by false false true s v xs is = alone_none (Read Replay) xs is
none_by false false false true v xs is = simulate_none xs is
none_by false false false false v xs is = refl

no_request : (w : List ℕ) (o : Option Words) → option_map {U = List ℕ × Words} (λ ys. (w, ys)) o ≡ None → o ≡ None
no_request w None is = refl
no_request w (Some ys) is = absurd (grind (arith, is))

none_fits : (w : List ℕ) (o : Option Words) → option_and_then (fitting w) o ≡ None → option_and_then (command_by w) o ≡ None
none_fits w None is = refl
none_fits w (Some xs) is = none_by (bytes_eq w (codes "preview")) (bytes_eq w (codes "check")) (bytes_eq w (codes "replay")) (bytes_eq w (codes "simulate")) (bytes_eq w (codes "serve")) xs is

pub no_request_fits : (ws : Words) → request_of ws ≡ None → command_of ws ≡ None
unfolding command_of
no_request_fits [] is = refl
no_request_fits (w ∷ ws) is = none_fits w (operands ws) (no_request w (option_and_then (fitting w) (operands ws)) is)
