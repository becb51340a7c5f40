-- One word read: what it takes, and what it gives.
use Rattle.std.proofs.Common.{arith, ◌≡◌, ◌≢◌, ap, refl, subst, ℕ, ◌<◌, Bool, true, false, List, [], ◌∷◌, ◌++◌, length, Option, Some, None, codes}
use Rattle.std.proofs.lemmas.Slice.Eq.{bytes_eq-Decides}
use Rattle.std.specs.Option.{option_map, option_and_then, option_to_list}
use Rattle.std.specs.Str.{bytes_eq}
use Rattle.dso_command_line.specs.declared.option_name.OptionName.{OptionName}
use Rattle.dso_command_line.specs.declared.option_name.OptionName.TheVariants.{Seed, Steps, Journal, Store, Collect}
use Rattle.dso_command_line.specs.declared.word_reading.Reading.{Reading}
use Rattle.dso_command_line.specs.declared.word_reading.Reading.TheVariants.{Open, Awaiting}
use Rattle.dso_command_line.specs.Words.{Argument, Apart, Given, IsPlain, is_hyphened, text_of, value_of, values_among}
use Rattle.dso_command_line.specs.WordReading.{at_end, has_three, is_blank, read_on, set_value, with_argument, with_name, with_value, with_word}

-- a test is false where it can't be true
pub false-unless : (t : Bool) → (t ≡ true → ⊥) → t ≡ false
false-unless true never = absurd (never refl)
false-unless false never = refl

-- a word that isn't empty is not blank
pub some-blank : (word : List ℕ) → word ≢ [] → is_blank word ≡ false
some-blank [] some = absurd (some refl)
some-blank (first ∷ rest) some = refl

-- a word that is not blank isn't empty
pub blank-some : (word : List ℕ) → is_blank word ≡ false → word ≢ []
blank-some [] never = cc never
blank-some (first ∷ rest) is = λ empty. cc empty

-- fewer than three names are not three
pub few-three : (names : List (List ℕ)) → length names < 3 → has_three names ≡ false
few-three [] few = refl
few-three (only ∷ []) few = refl
few-three (first ∷ second ∷ []) few = refl
few-three (first ∷ second ∷ third ∷ rest) few = absurd (omega (arith, few))

-- a word that may be a name is not `--`
pub plain-dashes : (word : List ℕ) → IsPlain word → bytes_eq word (codes "--") ≡ false
plain-dashes word plain = false-unless (bytes_eq word (codes "--")) (λ same.
    let is : word ≡ codes "--" = (bytes_eq-Decides word (codes "--")).0 same in
    let bare : is_hyphened (codes "--") ≡ false = subst (λ w. is_hyphened w ≡ false) is plain.bare in cc bare)

-- what has been given, with one more name
abbrev pub and_name : Given → List ℕ → Given
and_name given name = record given { names = given.names ++ name ∷ [] }

-- a name is taken where there is room for it
pub name-taken : (given : Given) (name : List ℕ) → name ≢ [] → length given.names < 3 → with_name given name ≡ Some (and_name given name)
name-taken given name some few = rw (some-blank name some) (rw (few-three given.names few) refl)

-- a value is taken where its option has none
pub value-taken : (given : Given) (option : OptionName) (value : List ℕ) → value ≢ [] → value_of given option ≡ None
    → with_value given option value ≡ Some (set_value given option value)
value-taken given option value some free = rw (some-blank value some) (rw free refl)

-- the word of an option alone makes its value due
pub at-option : (given : Given) (option : OptionName) → with_argument given (text_of option) ≡ Some (Awaiting option given)
at-option given Seed = refl
at-option given Steps = refl
at-option given Journal = refl
at-option given Store = refl
at-option given Collect = refl

-- the word of an option with its value gives it
pub at-joined : (given : Given) (option : OptionName) (value : List ℕ)
    → with_argument given (text_of option ++ 61 ∷ value) ≡ option_map Open (with_value given option value)
at-joined given Seed value = refl
at-joined given Steps value = refl
at-joined given Journal value = refl
at-joined given Store value = refl
at-joined given Collect value = refl

-- what is given once all words were read
abbrev pub goes : Reading → List (List ℕ) → Option Given
goes reading words = option_and_then at_end (read_on reading words)

-- one word, and then the others
pub goes-on : (reading next : Reading) (word : List ℕ) (words : List (List ℕ)) → with_word reading word ≡ Some next
    → goes reading (word ∷ words) ≡ goes next words
goes-on reading next word words is = ap (λ o. option_and_then at_end (option_and_then (λ r. read_on r words) o)) is

-- where a word can't be read nothing is given
pub goes-nowhere : (reading : Reading) (word : List ℕ) (words : List (List ℕ)) → with_word reading word ≡ None
    → goes reading (word ∷ words) ≡ None
goes-nowhere reading word words is = ap (λ o. option_and_then at_end (option_and_then (λ r. read_on r words) o)) is

-- the value of an option that had none stands before the values behind it
pub value-moves : (given : Given) (option : OptionName) (value : List ℕ) (rest : List Argument) (other : OptionName) → value_of given option ≡ None
    → option_to_list (value_of given other) ++ values_among other (Apart option value ∷ rest)
    ≡ option_to_list (value_of (set_value given option value) other) ++ values_among other rest
value-moves given Seed value rest Seed free = rw free refl
value-moves given Seed value rest Steps free = refl
value-moves given Seed value rest Journal free = refl
value-moves given Seed value rest Store free = refl
value-moves given Seed value rest Collect free = refl
value-moves given Steps value rest Seed free = refl
value-moves given Steps value rest Steps free = rw free refl
value-moves given Steps value rest Journal free = refl
value-moves given Steps value rest Store free = refl
value-moves given Steps value rest Collect free = refl
value-moves given Journal value rest Seed free = refl
value-moves given Journal value rest Steps free = refl
value-moves given Journal value rest Journal free = rw free refl
value-moves given Journal value rest Store free = refl
value-moves given Journal value rest Collect free = refl
value-moves given Store value rest Seed free = refl
value-moves given Store value rest Steps free = refl
value-moves given Store value rest Journal free = refl
value-moves given Store value rest Store free = rw free refl
value-moves given Store value rest Collect free = refl
value-moves given Collect value rest Seed free = refl
value-moves given Collect value rest Steps free = refl
value-moves given Collect value rest Journal free = refl
value-moves given Collect value rest Store free = refl
value-moves given Collect value rest Collect free = rw free refl
