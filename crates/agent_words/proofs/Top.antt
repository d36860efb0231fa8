-- What the words come to.
use Rattle.std.proofs.Common.{◌≡◌, Bool, true, false, refl, sym, subst, codes, List, [], ◌∷◌, Option, Some, None}
use Rattle.std.specs.Prelude.{option_and_then}
use Rattle.std.specs.Str.{bytes_eq, IsUtf8}
use Rattle.std.proofs.lemmas.Slice.Eq.{bytes_eq-Decides}
use Rattle.clap.specs.Walk.{Text, idle, nothing_held, subcommand_met, walked}
use Rattle.clap.specs.Simple.{App, built, is_simple, names_of}
use Rattle.clap.specs.Faults.{built_fault, defaults_fault, is_simple_and_free, walk_fault}
use Rattle.clap_words.specs.Operands.{operands}
use Rattle.clap_words.proofs.Past.{AllTexts, Faulty, dashes}
use Rattle.clap_words.proofs.Top.{HasFlagsAlone, Leads, Parses, flipped, parses_at, two_flags, unnamed}
use Rattle.agent_words.specs.Requests.{fitting, four_of, none_of, one_of, some_of, request_of}
use Rattle.agent_words.specs.Commands.{agentd, preview, check, replay, simulate, serve}
use Rattle.agent_words.specs.Found.{operands_in}
use Rattle.agent_words.proofs.Leaves.{reads_check, reads_preview, reads_replay, reads_serve, reads_simulate, sub}

abbrev pub app : App
app = built agentd

pub is_free : is_simple_and_free agentd ≡ true
is_free = refl

pub is_plain : is_simple agentd ≡ true
is_plain = refl

-- ---- after a command's name

leads_preview : Leads app (codes "preview") (sub preview)
unfolding walked defaults_fault
leads_preview = record { turn = refl; stops = refl; faults = λ ws. refl; finds = λ ws. refl }

leads_check : Leads app (codes "check") (sub check)
unfolding walked defaults_fault
leads_check = record { turn = refl; stops = refl; faults = λ ws. refl; finds = λ ws. refl }

leads_replay : Leads app (codes "replay") (sub replay)
unfolding walked defaults_fault
leads_replay = record { turn = refl; stops = refl; faults = λ ws. refl; finds = λ ws. refl }

leads_simulate : Leads app (codes "simulate") (sub simulate)
unfolding walked defaults_fault
leads_simulate = record { turn = refl; stops = refl; faults = λ ws. refl; finds = λ ws. refl }

leads_serve : Leads app (codes "serve") (sub serve)
unfolding walked defaults_fault
leads_serve = record { turn = refl; stops = refl; faults = λ ws. refl; finds = λ ws. refl }

-- ---- a first word that isn't a command's name

alone : HasFlagsAlone app
unfolding walk_fault walked defaults_fault
alone = record { flags = two_flags; operand = tt; past_dashes = go }
  where
    go : (ws : List Text) → Faulty (built_fault app nothing_held (dashes ∷ ws))
    go [] = tt
    go (w ∷ ws) = tt

record IsOther (w : Text) : Type 0 where
  preview : bytes_eq (codes "preview") w ≡ false
  check : bytes_eq (codes "check") w ≡ false
  replay : bytes_eq (codes "replay") w ≡ false
  simulate : bytes_eq (codes "simulate") w ≡ false
  serve : bytes_eq (codes "serve") w ≡ false

no_name : (w : Text) → IsOther w → subcommand_met (names_of app) idle w ≡ None
no_name w o = rw (o.preview, o.check, o.replay, o.simulate, o.serve) refl

-- ---- all words

abbrev Wanted : Text → List Text → Type 0
Wanted w ws = Parses app operands_in (w ∷ ws) (request_of (w ∷ ws))

nothing_fits : (w : Text) → bytes_eq w (codes "preview") ≡ false → bytes_eq w (codes "check") ≡ false → bytes_eq w (codes "replay") ≡ false → bytes_eq w (codes "simulate") ≡ false
    → bytes_eq w (codes "serve") ≡ false → (o : Option (List Text)) → option_and_then (fitting w) o ≡ None
nothing_fits w p c r s v None = refl
nothing_fits w p c r s v (Some ops) = rw (p, c, r, s, v) refl

module _ (w : Text) (ws : List Text) (u : IsUtf8 w) (us : AllTexts ws) where
  at_name : (name : Text) → bytes_eq w name ≡ true → Wanted name ws → Wanted w ws
  at_name name e h = subst (λ v. Wanted v ws) (sym ((bytes_eq-Decides w name).0 e)) h

  by_name : (p c r s v : Bool) → bytes_eq w (codes "preview") ≡ p → bytes_eq w (codes "check") ≡ c → bytes_eq w (codes "replay") ≡ r → bytes_eq w (codes "simulate") ≡ s
      → bytes_eq w (codes "serve") ≡ v → Wanted w ws
  by_name true c r s v ep ec er es ev = at_name (codes "preview") ep (parses_at app operands_in (codes "preview") (sub preview) leads_preview ws (option_and_then some_of (operands ws)) (reads_preview ws us))
  by_name false true r s v ep ec er es ev = at_name (codes "check") ec (parses_at app operands_in (codes "check") (sub check) leads_check ws (option_and_then none_of (operands ws)) (reads_check ws us))
  by_name false false true s v ep ec er es ev = at_name (codes "replay") er (parses_at app operands_in (codes "replay") (sub replay) leads_replay ws (option_and_then none_of (operands ws)) (reads_replay ws us))
  by_name false false false true v ep ec er es ev = at_name (codes "simulate") es (parses_at app operands_in (codes "simulate") (sub simulate) leads_simulate ws (option_and_then four_of (operands ws)) (reads_simulate ws us))
  by_name false false false false true ep ec er es ev = at_name (codes "serve") ev (parses_at app operands_in (codes "serve") (sub serve) leads_serve ws (option_and_then one_of (operands ws)) (reads_serve ws us))
  by_name false false false false false ep ec er es ev =
      let o : IsOther w = record { preview = flipped _ w ep; check = flipped _ w ec; replay = flipped _ w er; simulate = flipped _ w es; serve = flipped _ w ev } in
      unnamed app operands_in alone w ws u (no_name w o) (option_and_then (fitting w) (operands ws)) (nothing_fits w ep ec er es ev (operands ws))

pub parses : (words : List Text) → AllTexts words → Parses app operands_in words (request_of words)
unfolding walk_fault walked defaults_fault
parses [] us = tt
parses (w ∷ ws) us = by_name w ws us.0 us.1 _ _ _ _ _ refl refl refl refl refl
