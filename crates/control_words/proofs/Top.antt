-- What the words come to.
use Rattle.std.proofs.Common.{◌≡◌, Bool, true, false, refl, sym, subst, codes, List, [], ◌∷◌, Option, Some, None}
use Rattle.std.specs.Prelude.{option_and_then}
use Rattle.std.specs.Str.{bytes_eq, IsUtf8}
use Rattle.std.proofs.lemmas.Slice.Eq.{bytes_eq-Decides}
use Rattle.clap.specs.Walk.{Text, idle, nothing_held, subcommand_met, walked}
use Rattle.clap.specs.Simple.{App, built, is_simple, names_of}
use Rattle.clap.specs.Faults.{built_fault, defaults_fault, is_simple_and_free, walk_fault}
use Rattle.clap_words.specs.Operands.{operands}
use Rattle.clap_words.proofs.Past.{AllTexts, Faulty, dashes}
use Rattle.clap_words.proofs.Top.{HasFlagsAlone, Leads, Parses, flipped, parses_at, two_flags, unnamed}
use Rattle.control_words.specs.Requests.{fitting, at_most_one_of, one_of, some_of, request_of}
use Rattle.control_words.specs.Commands.{wlctl, fetch, watch, health, health_watch}
use Rattle.control_words.specs.Found.{operands_in}
use Rattle.control_words.proofs.Leaves.{reads_fetch, reads_watch, reads_health, reads_health_watch, sub}

abbrev pub app : App
app = built wlctl

pub is_free : is_simple_and_free wlctl ≡ true
is_free = refl

pub is_plain : is_simple wlctl ≡ true
is_plain = refl

-- ---- after a command's name

leads_fetch : Leads app (codes "fetch") (sub fetch)
unfolding walked defaults_fault
leads_fetch = record { turn = refl; stops = refl; faults = λ ws. refl; finds = λ ws. refl }

leads_watch : Leads app (codes "watch") (sub watch)
unfolding walked defaults_fault
leads_watch = record { turn = refl; stops = refl; faults = λ ws. refl; finds = λ ws. refl }

leads_health : Leads app (codes "health") (sub health)
unfolding walked defaults_fault
leads_health = record { turn = refl; stops = refl; faults = λ ws. refl; finds = λ ws. refl }

leads_health_watch : Leads app (codes "health-watch") (sub health_watch)
unfolding walked defaults_fault
leads_health_watch = record { turn = refl; stops = refl; faults = λ ws. refl; finds = λ ws. refl }

-- ---- a first word that isn't a command's name

alone : HasFlagsAlone app
unfolding walk_fault walked defaults_fault
alone = record { flags = two_flags; operand = tt; past_dashes = go }
  where
    go : (ws : List Text) → Faulty (built_fault app nothing_held (dashes ∷ ws))
    go [] = tt
    go (w ∷ ws) = tt

record IsOther (w : Text) : Type 0 where
  fetch : bytes_eq (codes "fetch") w ≡ false
  watch : bytes_eq (codes "watch") w ≡ false
  health : bytes_eq (codes "health") w ≡ false
  health_watch : bytes_eq (codes "health-watch") w ≡ false

no_name : (w : Text) → IsOther w → subcommand_met (names_of app) idle w ≡ None
no_name w o = rw (o.fetch, o.watch, o.health, o.health_watch) refl

-- ---- all words

abbrev Wanted : Text → List Text → Type 0
Wanted w ws = Parses app operands_in (w ∷ ws) (request_of (w ∷ ws))

nothing_fits : (w : Text) → bytes_eq w (codes "fetch") ≡ false → bytes_eq w (codes "watch") ≡ false → bytes_eq w (codes "health") ≡ false → bytes_eq w (codes "health-watch") ≡ false
    → (o : Option (List Text)) → option_and_then (fitting w) o ≡ None
nothing_fits w f a h v None = refl
nothing_fits w f a h v (Some ops) = rw (f, a, h, v) refl

module _ (w : Text) (ws : List Text) (u : IsUtf8 w) (us : AllTexts ws) where
  at_name : (name : Text) → bytes_eq w name ≡ true → Wanted name ws → Wanted w ws
  at_name name e h = subst (λ v. Wanted v ws) (sym ((bytes_eq-Decides w name).0 e)) h

  by_name : (f a h v : Bool) → bytes_eq w (codes "fetch") ≡ f → bytes_eq w (codes "watch") ≡ a → bytes_eq w (codes "health") ≡ h → bytes_eq w (codes "health-watch") ≡ v → Wanted w ws
  by_name true a h v ef ea eh ev = at_name (codes "fetch") ef (parses_at app operands_in (codes "fetch") (sub fetch) leads_fetch ws (option_and_then some_of (operands ws)) (reads_fetch ws us))
  by_name false true h v ef ea eh ev = at_name (codes "watch") ea (parses_at app operands_in (codes "watch") (sub watch) leads_watch ws (option_and_then at_most_one_of (operands ws)) (reads_watch ws us))
  by_name false false true v ef ea eh ev = at_name (codes "health") eh (parses_at app operands_in (codes "health") (sub health) leads_health ws (option_and_then at_most_one_of (operands ws)) (reads_health ws us))
  by_name false false false true ef ea eh ev = at_name (codes "health-watch") ev (parses_at app operands_in (codes "health-watch") (sub health_watch) leads_health_watch ws (option_and_then one_of (operands ws)) (reads_health_watch ws us))
  by_name false false false false ef ea eh ev =
      let o : IsOther w = record { fetch = flipped _ w ef; watch = flipped _ w ea; health = flipped _ w eh; health_watch = flipped _ w ev } in
      unnamed app operands_in alone w ws u (no_name w o) (option_and_then (fitting w) (operands ws)) (nothing_fits w ef ea eh ev (operands ws))

pub parses : (words : List Text) → AllTexts words → Parses app operands_in words (request_of words)
unfolding walk_fault walked defaults_fault
parses [] us = tt
parses (w ∷ ws) us = by_name w ws us.0 us.1 _ _ _ _ refl refl refl refl
