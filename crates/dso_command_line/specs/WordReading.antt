-- How the words behind a command are read, one after the other.
use Rattle.std.specs.Prelude.{ℕ, Bool, true, false, ◌||◌, ◌==◌, if◌then◌else◌}
use Rattle.std.specs.Prelude.{List, [], ◌∷◌, ◌++◌, Option, Some, None, is_some, codes}
use Rattle.std.specs.Option.{option_map, option_and_then}
use Rattle.std.specs.Str.{bytes_eq}
use Rattle.dso_command_line.specs.declared.option_name.OptionName.{OptionName}
use Rattle.dso_command_line.specs.declared.option_name.OptionName.TheVariants.{Seed, Steps, Journal, Store, Collect}
use Rattle.dso_command_line.specs.declared.word_reading.Reading.{Reading}
use Rattle.dso_command_line.specs.declared.word_reading.Reading.TheVariants.{Open, Awaiting, Ended}
use Rattle.dso_command_line.specs.Words.{Given, text_of, value_of, is_hyphened}

-- whether a word is empty
abbrev pub is_blank : List ℕ → Bool
is_blank [] = true
is_blank (first ∷ rest) = false

-- nothing is given yet
abbrev pub nothing : Given
nothing = record { names = []; seed = None; steps = None; journal = None; store = None; collect = None }

-- whether there are three names, or more
abbrev pub has_three : List (List ℕ) → Bool
has_three [] = false
has_three (only ∷ []) = false
has_three (first ∷ second ∷ []) = false
has_three (first ∷ second ∷ third ∷ rest) = true

-- with one more name: none that is empty, and no fourth one
abbrev pub with_name : Given → List ℕ → Option Given
with_name given name =
    if is_blank name || has_three given.names then None
    else Some (record given { names = given.names ++ name ∷ [] })

-- with this value for an option
abbrev pub set_value : Given → OptionName → List ℕ → Given
set_value given Seed value = record given { seed = Some value }
set_value given Steps value = record given { steps = Some value }
set_value given Journal value = record given { journal = Some value }
set_value given Store value = record given { store = Some value }
set_value given Collect value = record given { collect = Some value }

-- with a value for an option: none that is empty, and no second one
abbrev pub with_value : Given → OptionName → List ℕ → Option Given
with_value given option value =
    if is_blank value || is_some (value_of given option) then None else Some (set_value given option value)

-- the option that is written so
abbrev pub option_named : List ℕ → Option OptionName
option_named word =
    if bytes_eq word (text_of Seed) then Some Seed
    else if bytes_eq word (text_of Steps) then Some Steps
    else if bytes_eq word (text_of Journal) then Some Journal
    else if bytes_eq word (text_of Store) then Some Store
    else if bytes_eq word (text_of Collect) then Some Collect
    else None

-- a word before and behind its first `=`, None where it has none
abbrev pub parted : List ℕ → Option (List ℕ × List ℕ)
parted [] = None
parted (b ∷ rest) = if b == 61 then Some ([], rest) else option_map (λ parts. (b ∷ parts.0, parts.1)) (parted rest)

-- what reading comes to with an option's word, by its parts: its value is in it, or is the next word
abbrev pub with_option : Given → List ℕ → Option (List ℕ × List ℕ) → Option Reading
with_option given word None = option_map (λ option. Awaiting option given) (option_named word)
with_option given word (Some parts) =
    option_and_then (λ option. option_map Open (with_value given option parts.1)) (option_named parts.0)

-- what reading comes to with one more word, where an argument may begin
abbrev pub with_argument : Given → List ℕ → Option Reading
with_argument given word =
    if bytes_eq word (codes "--") then Some (Ended given)
    else if is_hyphened word then with_option given word (parted word)
    else option_map Open (with_name given word)

-- what reading comes to with one more word: an option's value may be due, or `--` may have ended the options
abbrev pub with_word : Reading → List ℕ → Option Reading
with_word (Open given) word = with_argument given word
with_word (Awaiting option given) word =
    if is_hyphened word then None else option_map Open (with_value given option word)
with_word (Ended given) word = option_map Ended (with_name given word)

-- with all these words
abbrev pub read_on : Reading → List (List ℕ) → Option Reading
read_on reading [] = Some reading
read_on reading (word ∷ words) = option_and_then (λ next. read_on next words) (with_word reading word)

-- what is given at the end: no value is due then
abbrev pub at_end : Reading → Option Given
at_end (Open given) = Some given
at_end (Awaiting option given) = None
at_end (Ended given) = Some given

-- what the words behind a command give, None where they are no arguments or have more than three names
abbrev pub read : List (List ℕ) → Option Given
read words = option_and_then at_end (read_on (Open nothing) words)
