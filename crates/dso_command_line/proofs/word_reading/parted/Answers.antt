use Rattle.std.proofs.Common.{rules, ◌≡◌, ◌∙◌, sym, ap, Option, Some, None, List, ℕ, Bor, MatchOption, length, ◌<◌, ◌==◌}
use Rattle.std.specs.List.{position_or_len, before_first, after_first}
use Rattle.dso_command_line.specs.WordReading.{parted}
use Rattle.dso_command_line.proofs.reading_words.WordParts.{parted-none, parted-some}
use Rattle.dso_command_line.proofs.word_reading.parted.Goals as goal

-- what std says of the first `=` is what the parts are
tells : (s : List ℕ) (found : Option (Bor (List ℕ) × Bor (List ℕ)))
    → MatchOption found (position_or_len (λ b. b == 61) s ≡ length s)
    (λ x. (x.0.now ≡ before_first (λ b. b == 61) s) × (x.1.now ≡ after_first (λ b. b == 61) s) × (position_or_len (λ b. b == 61) s < length s))
    → MatchOption found (parted s ≡ None) (λ parts. parted s ≡ Some (parts.0.now, parts.1.now))
tells s None none = parted-none s none
tells s (Some x) is = parted-some s is.2 ∙ ap Some (sym (cc (is.0, is.1)))

pub returns : goal.returns
returns c = tells c.args.word.now c.split_once.result (c.split_once.ensures.byte (search rules) (λ w o given. search rules))
