-- What words give is what is read of them.
use Rattle.std.proofs.Common.{arith, ◌≡◌, ◌≢◌, ◌∙◌, sym, ap, refl, ℕ, ◌<◌, ◌≤◌, List, [], ◌∷◌, ◌++◌, length, Option, Some, None, append_assoc, append-nil}
use Rattle.std.proofs.lemmas.List.{length-append}
use Rattle.std.specs.List.{AllByRecursion}
use Rattle.std.specs.Option.{option_map, option_to_list}
use Rattle.dso_command_line.specs.declared.option_name.OptionName.{OptionName}
use Rattle.dso_command_line.specs.declared.option_name.OptionName.TheVariants.{Seed, Steps, Journal, Store, Collect}
use Rattle.dso_command_line.specs.declared.word_reading.Reading.TheVariants.{Open, Awaiting, Ended}
use Rattle.dso_command_line.specs.Words.{Argument, Name, Apart, Joined, Given, Gives, IsArgument, IsPlain, ending, last_names, names_among, spelling, text_of, value_of, values_among}
use Rattle.dso_command_line.specs.WordReading.{nothing, read, set_value, with_word}
use Rattle.dso_command_line.proofs.reading_words.WordSteps.{and_name, at-joined, at-option, goes, goes-on, name-taken, plain-dashes, value-moves, value-taken}

-- the same value is there where the lists of it are one
same-value : (a b : Option (List ℕ)) → option_to_list a ≡ option_to_list b → a ≡ b
same-value None None is = refl
same-value None (Some b) is = cc is
same-value (Some a) None is = cc is
same-value (Some a) (Some b) is = cc is

-- what is given, part by part
abbrev of_parts : List (List ℕ) → Option (List ℕ) → Option (List ℕ) → Option (List ℕ) → Option (List ℕ) → Option (List ℕ) → Given
of_parts names seed steps journal store collect =
    record { names = names; seed = seed; steps = steps; journal = journal; store = store; collect = collect }

-- parts that are the same make the same
same-parts : (n m : List (List ℕ)) (a b c d e f g h i j : Option (List ℕ)) → n ≡ m → a ≡ b → c ≡ d → e ≡ f → g ≡ h → i ≡ j
    → of_parts n a c e g i ≡ of_parts m b d f h j
same-parts n m a b c d e f g h i j names seed steps journal store collect =
    ap (λ x. of_parts x a c e g i) names ∙ ap (λ x. of_parts m x c e g i) seed ∙ ap (λ x. of_parts m b x e g i) steps
    ∙ ap (λ x. of_parts m b d x g i) journal ∙ ap (λ x. of_parts m b d f x i) store ∙ ap (λ x. of_parts m b d f h x) collect

-- two that have the same names and values are one
same-given : (a b : Given) → a.names ≡ b.names → ((option : OptionName) → value_of a option ≡ value_of b option) → a ≡ b
same-given a b names values =
    same-parts a.names b.names a.seed b.seed a.steps b.steps a.journal b.journal a.store b.store a.collect b.collect names
    (values Seed) (values Steps) (values Journal) (values Store) (values Collect)

-- nothing is there where more values follow, and there is one at most
free-before : (here after : Option (List ℕ)) (value : List ℕ) (rest : List (List ℕ)) → option_to_list here ++ value ∷ rest ≡ option_to_list after → here ≡ None
free-before None after value rest is = refl
free-before (Some here) None value rest is = cc is
free-before (Some here) (Some after) value rest is = cc is

-- names behind `--` are taken while there is room
ended-goes : (names : List (List ℕ)) (given : Given) → AllByRecursion (λ name. name ≢ []) names → length (given.names ++ names) ≤ 3
    → goes (Ended given) names ≡ Some (record given { names = given.names ++ names })
ended-goes [] given named few = ap Some (same-given given (record given { names = given.names ++ [] }) (sym (append-nil given.names)) (λ option. refl))
ended-goes (name ∷ names) given named few =
    let room : length given.names < 3 = omega (arith, few, length-append given.names (name ∷ names)) in
    let taken = ap (option_map Ended) (name-taken given name named.0 room) in
    let more : (given.names ++ name ∷ []) ++ names ≡ given.names ++ name ∷ names = append_assoc given.names (name ∷ []) names in
    let few : length ((given.names ++ name ∷ []) ++ names) ≤ 3 = rw more few in
    goes-on (Ended given) (Ended (and_name given name)) name names taken ∙ ended-goes names (and_name given name) named.1 few
    ∙ ap (λ all. Some (record given { names = all })) more

-- a value leaves the names as they are
names-after : (given : Given) (option : OptionName) (value : List ℕ) (behind : List (List ℕ)) → (set_value given option value).names ++ behind ≡ given.names ++ behind
names-after given Seed value behind = refl
names-after given Steps value behind = refl
names-after given Journal value behind = refl
names-after given Store value behind = refl
names-after given Collect value behind = refl

-- an option has no value before the one that it is given
free-here : (given all : Given) (option : OptionName) (value : List ℕ) (rest : List Argument)
    → option_to_list (value_of given option) ++ values_among option (Apart option value ∷ rest) ≡ option_to_list (value_of all option)
    → value_of given option ≡ None
free-here given all Seed value rest is = free-before given.seed all.seed value (values_among Seed rest) is
free-here given all Steps value rest is = free-before given.steps all.steps value (values_among Steps rest) is
free-here given all Journal value rest is = free-before given.journal all.journal value (values_among Journal rest) is
free-here given all Store value rest is = free-before given.store all.store value (values_among Store rest) is
free-here given all Collect value rest is = free-before given.collect all.collect value (values_among Collect rest) is

-- a name where an argument may begin
name-step : (given : Given) (name : List ℕ) → IsPlain name → length given.names < 3 → with_word (Open given) name ≡ Some (Open (and_name given name))
name-step given name plain few =
    rw (plain-dashes name plain) (rw plain.bare (ap (option_map Open) (name-taken given name plain.some few)))

-- a value where it is due
value-step : (given : Given) (option : OptionName) (value : List ℕ) → IsPlain value → value_of given option ≡ None
    → with_word (Awaiting option given) value ≡ Some (Open (set_value given option value))
value-step given option value plain free = rw plain.bare (ap (option_map Open) (value-taken given option value plain.some free))

-- an option with its value
joined-step : (given : Given) (option : OptionName) (value : List ℕ) → value ≢ [] → value_of given option ≡ None
    → with_word (Open given) (text_of option ++ 61 ∷ value) ≡ Some (Open (set_value given option value))
joined-step given option value some free = at-joined given option value ∙ ap (option_map Open) (value-taken given option value some free)

-- the arguments, one after the other, and then the ending
pub from-open : (arguments : List Argument) (last : Option (List (List ℕ))) (given all : Given) → AllByRecursion IsArgument arguments
    → AllByRecursion (λ name. name ≢ []) (last_names last)
    → given.names ++ (names_among arguments ++ last_names last) ≡ all.names
    → ((option : OptionName) → option_to_list (value_of given option) ++ values_among option arguments ≡ option_to_list (value_of all option))
    → length all.names ≤ 3 → goes (Open given) (spelling arguments ++ ending last) ≡ Some all
from-open [] None given all lawful named names values few =
    ap Some (same-given given all (sym (append-nil given.names) ∙ names)
    (λ option. same-value (value_of given option) (value_of all option) (sym (append-nil (option_to_list (value_of given option))) ∙ values option)))
from-open [] (Some behind) given all lawful named names values few =
    let room : length (given.names ++ behind) ≤ 3 = rw names few in
    ended-goes behind given named room ∙ ap Some (same-given (record given { names = given.names ++ behind }) all names
    (λ option. same-value (value_of given option) (value_of all option) (sym (append-nil (option_to_list (value_of given option))) ∙ values option)))
from-open (Name name ∷ rest) last given all lawful named names values few =
    let behind = names_among rest ++ last_names last in
    let whole : length (given.names ++ name ∷ behind) ≤ 3 = rw names few in
    let room : length given.names < 3 = omega (arith, whole, length-append given.names (name ∷ behind)) in
    let taken = name-step given name lawful.0 room in
    let more : (given.names ++ name ∷ []) ++ behind ≡ given.names ++ name ∷ behind = append_assoc given.names (name ∷ []) behind in
    goes-on (Open given) (Open (and_name given name)) name (spelling rest ++ ending last) taken
    ∙ from-open rest last (and_name given name) all lawful.1 named (more ∙ names) values few
from-open (Apart option value ∷ rest) last given all lawful named names values few =
    let free : value_of given option ≡ None = free-here given all option value rest (values option) in
    goes-on (Open given) (Awaiting option given) (text_of option) (value ∷ (spelling rest ++ ending last)) (at-option given option)
    ∙ goes-on (Awaiting option given) (Open (set_value given option value)) value (spelling rest ++ ending last) (value-step given option value lawful.0 free)
    ∙ from-open rest last (set_value given option value) all lawful.1 named (names-after given option value (names_among rest ++ last_names last) ∙ names) (λ other. sym (value-moves given option value rest other free) ∙ values other) few
from-open (Joined option value ∷ rest) last given all lawful named names values few =
    let free : value_of given option ≡ None = free-here given all option value rest (values option) in
    goes-on (Open given) (Open (set_value given option value)) (text_of option ++ 61 ∷ value) (spelling rest ++ ending last) (joined-step given option value lawful.0 free)
    ∙ from-open rest last (set_value given option value) all lawful.1 named (names-after given option value (names_among rest ++ last_names last) ∙ names) (λ other. sym (value-moves given option value rest other free) ∙ values other) few

-- nothing is given at first
from-nothing : {values : List (List ℕ)} {all : List (List ℕ)} (option : OptionName) → values ≡ all → option_to_list (value_of nothing option) ++ values ≡ all
from-nothing Seed is = is
from-nothing Steps is = is
from-nothing Journal is = is
from-nothing Store is = is
from-nothing Collect is = is

-- what words give is read of them, where it has no fourth name
pub gives-read : (words : List (List ℕ)) (given : Given) → Gives words given → length given.names ≤ 3 → read words ≡ Some given
gives-read words given gives few =
    ap read gives.spelled ∙ from-open gives.arguments gives.last nothing given gives.lawful gives.named gives.names (λ option. from-nothing option (gives.values option)) few
