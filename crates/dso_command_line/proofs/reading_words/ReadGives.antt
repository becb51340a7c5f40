-- What is read of words is what they give.
use Rattle.std.proofs.Common.{◌≡◌, ◌≢◌, ◌∙◌, sym, ap, refl, subst, ℕ, Bool, true, false, List, [], ◌∷◌, ◌++◌, Option, Some, None, codes, append_assoc, append-nil}
use Rattle.std.proofs.lemmas.Slice.Eq.{bytes_eq-Decides}
use Rattle.std.specs.List.{AllByRecursion}
use Rattle.std.specs.Option.{option_map, option_and_then, option_to_list}
use Rattle.std.specs.Str.{bytes_eq}
use Rattle.dso_command_line.specs.declared.option_name.OptionName.{OptionName}
use Rattle.dso_command_line.specs.declared.option_name.OptionName.TheVariants.{Seed, Steps, Journal, Store, Collect}
use Rattle.dso_command_line.specs.declared.word_reading.Reading.{Reading}
use Rattle.dso_command_line.specs.declared.word_reading.Reading.TheVariants.{Open, Awaiting, Ended}
use Rattle.dso_command_line.specs.Words.{Argument, Name, Apart, Joined, Given, Gives, IsArgument, IsPlain, ending, is_hyphened, last_names, names_among, spelling, text_of, value_of, values_among}
use Rattle.dso_command_line.specs.WordReading.{at_end, has_three, is_blank, nothing, option_named, parted, read, set_value, with_argument, with_name, with_option, with_value, with_word}
use Rattle.dso_command_line.proofs.reading_words.WordParts.{parted-joins}
use Rattle.dso_command_line.proofs.reading_words.WordSteps.{and_name, blank-some, goes, goes-on, goes-nowhere, value-moves}

-- What words give behind what has been given, where an argument may begin.
record GivesMore (before : Given) (words : List (List ℕ)) (all : Given) : Type 0 where
  arguments : List Argument
  last : Option (List (List ℕ))
  spelled : words ≡ spelling arguments ++ ending last
  lawful : AllByRecursion IsArgument arguments
  named : AllByRecursion (λ name. name ≢ []) (last_names last)
  names : before.names ++ (names_among arguments ++ last_names last) ≡ all.names
  values : (option : OptionName) → option_to_list (value_of before option) ++ values_among option arguments ≡ option_to_list (value_of all option)

-- What words give where a value is due.
record GivesValue (option : OptionName) (before : Given) (words : List (List ℕ)) (all : Given) : Type 0 where
  value : List ℕ
  rest : List (List ℕ)
  spelled : words ≡ value ∷ rest
  plain : IsPlain value
  free : value_of before option ≡ None
  more : GivesMore (set_value before option value) rest all

-- What words give behind `--`.
record GivesNames (before : Given) (words : List (List ℕ)) (all : Given) : Type 0 where
  named : AllByRecursion (λ name. name ≢ []) words
  names : before.names ++ words ≡ all.names
  values : (option : OptionName) → value_of before option ≡ value_of all option

-- what words give from where reading stands
abbrev GivesFrom : Reading → List (List ℕ) → Given → Type 0
GivesFrom (Open before) words all = GivesMore before words all
GivesFrom (Awaiting option before) words all = GivesValue option before words all
GivesFrom (Ended before) words all = GivesNames before words all

-- a name that was taken
record TookName (given : Given) (name : List ℕ) (next : Given) : Type 0 where
  some : name ≢ []
  is : next ≡ and_name given name

took-name-by : (given : Given) (name : List ℕ) (next : Given) (t u : Bool) → is_blank name ≡ t → has_three given.names ≡ u
    → with_name given name ≡ Some next → TookName given name next
took-name-by given name next true u blank two took = let not : with_name given name ≡ None = rw blank refl in cc (not, took)
took-name-by given name next false true blank two took = let not : with_name given name ≡ None = rw blank (rw two refl) in cc (not, took)
took-name-by given name next false false blank two took =
    let is : with_name given name ≡ Some (and_name given name) = rw blank (rw two refl) in
    record { some = blank-some name blank; is = cc (is, took) }

took-name : (given : Given) (name : List ℕ) (next : Given) → with_name given name ≡ Some next → TookName given name next
took-name given name next took = took-name-by given name next (is_blank name) (has_three given.names) refl refl took

-- a value that was taken
record TookValue (given : Given) (option : OptionName) (value : List ℕ) (next : Given) : Type 0 where
  some : value ≢ []
  free : value_of given option ≡ None
  is : next ≡ set_value given option value

took-value-by : (given : Given) (option : OptionName) (value : List ℕ) (next : Given) (t : Bool) (there : Option (List ℕ)) → is_blank value ≡ t
    → value_of given option ≡ there → with_value given option value ≡ Some next → TookValue given option value next
took-value-by given option value next true there blank at took =
    let not : with_value given option value ≡ None = rw blank refl in cc (not, took)
took-value-by given option value next false (Some there) blank at took =
    let not : with_value given option value ≡ None = rw blank (rw at refl) in cc (not, took)
took-value-by given option value next false None blank at took =
    let is : with_value given option value ≡ Some (set_value given option value) = rw blank (rw at refl) in
    record { some = blank-some value blank; free = at; is = cc (is, took) }

took-value : (given : Given) (option : OptionName) (value : List ℕ) (next : Given) → with_value given option value ≡ Some next
    → TookValue given option value next
took-value given option value next took = took-value-by given option value next (is_blank value) (value_of given option) refl refl took

-- an option by its word
named-by : (word : List ℕ) (option : OptionName) (t u v w x : Bool) → bytes_eq word (text_of Seed) ≡ t → bytes_eq word (text_of Steps) ≡ u
    → bytes_eq word (text_of Journal) ≡ v → bytes_eq word (text_of Store) ≡ w → bytes_eq word (text_of Collect) ≡ x
    → option_named word ≡ Some option → word ≡ text_of option
named-by word option true u v w x seed steps journal store collect is =
    let at : option_named word ≡ Some Seed = rw seed refl in
    let same : Seed ≡ option = cc (at, is) in
    (bytes_eq-Decides word (text_of Seed)).0 seed ∙ ap text_of same
named-by word option false true v w x seed steps journal store collect is =
    let at : option_named word ≡ Some Steps = rw seed (rw steps refl) in
    let same : Steps ≡ option = cc (at, is) in
    (bytes_eq-Decides word (text_of Steps)).0 steps ∙ ap text_of same
named-by word option false false true w x seed steps journal store collect is =
    let at : option_named word ≡ Some Journal = rw seed (rw steps (rw journal refl)) in
    let same : Journal ≡ option = cc (at, is) in
    (bytes_eq-Decides word (text_of Journal)).0 journal ∙ ap text_of same
named-by word option false false false true x seed steps journal store collect is =
    let at : option_named word ≡ Some Store = rw seed (rw steps (rw journal (rw store refl))) in
    let same : Store ≡ option = cc (at, is) in
    (bytes_eq-Decides word (text_of Store)).0 store ∙ ap text_of same
named-by word option false false false false true seed steps journal store collect is =
    let at : option_named word ≡ Some Collect = rw seed (rw steps (rw journal (rw store (rw collect refl)))) in
    let same : Collect ≡ option = cc (at, is) in
    (bytes_eq-Decides word (text_of Collect)).0 collect ∙ ap text_of same
named-by word option false false false false false seed steps journal store collect is =
    let at : option_named word ≡ None = rw seed (rw steps (rw journal (rw store (rw collect refl)))) in cc (at, is)

named-is : (word : List ℕ) (option : OptionName) → option_named word ≡ Some option → word ≡ text_of option
named-is word option is =
    named-by word option (bytes_eq word (text_of Seed)) (bytes_eq word (text_of Steps)) (bytes_eq word (text_of Journal)) (bytes_eq word (text_of Store))
    (bytes_eq word (text_of Collect)) refl refl refl refl refl is

-- a value leaves the names as they are
names-before : (given : Given) (option : OptionName) (value : List ℕ) (behind : List (List ℕ)) → given.names ++ behind ≡ (set_value given option value).names ++ behind
names-before given Seed value behind = refl
names-before given Steps value behind = refl
names-before given Journal value behind = refl
names-before given Store value behind = refl
names-before given Collect value behind = refl

-- a name in front
name-first : (before all : Given) (name : List ℕ) (rest : List (List ℕ)) → IsPlain name → GivesMore (and_name before name) rest all
    → GivesMore before (name ∷ rest) all
name-first before all name rest plain more = record {
  arguments = Name name ∷ more.arguments;
  last = more.last;
  spelled = ap (λ words. name ∷ words) more.spelled;
  lawful = (plain, more.lawful);
  named = more.named;
  names = sym (append_assoc before.names (name ∷ []) (names_among more.arguments ++ last_names more.last)) ∙ more.names;
  values = more.values;
}

-- an option and its value in front, in two words
apart-first : (before all : Given) (option : OptionName) (value : List ℕ) (rest : List (List ℕ)) → IsPlain value → value_of before option ≡ None
    → GivesMore (set_value before option value) rest all → GivesMore before (text_of option ∷ value ∷ rest) all
apart-first before all option value rest plain free more = record {
  arguments = Apart option value ∷ more.arguments;
  last = more.last;
  spelled = ap (λ words. text_of option ∷ value ∷ words) more.spelled;
  lawful = (plain, more.lawful);
  named = more.named;
  names = names-before before option value (names_among more.arguments ++ last_names more.last) ∙ more.names;
  values = λ other. value-moves before option value more.arguments other free ∙ more.values other;
}

-- or in one
joined-first : (before all : Given) (option : OptionName) (value : List ℕ) (rest : List (List ℕ)) → value ≢ [] → value_of before option ≡ None
    → GivesMore (set_value before option value) rest all → GivesMore before ((text_of option ++ 61 ∷ value) ∷ rest) all
joined-first before all option value rest some free more = record {
  arguments = Joined option value ∷ more.arguments;
  last = more.last;
  spelled = ap (λ words. (text_of option ++ 61 ∷ value) ∷ words) more.spelled;
  lawful = (some, more.lawful);
  named = more.named;
  names = names-before before option value (names_among more.arguments ++ last_names more.last) ∙ more.names;
  values = λ other. value-moves before option value more.arguments other free ∙ more.values other;
}

-- `--` in front
dashes-first : (before all : Given) (rest : List (List ℕ)) → GivesNames before rest all → GivesMore before (codes "--" ∷ rest) all
dashes-first before all rest names = record {
  arguments = [];
  last = Some rest;
  spelled = refl;
  lawful = tt;
  named = names.named;
  names = names.names;
  values = λ option. append-nil (option_to_list (value_of before option)) ∙ ap option_to_list (names.values option);
}

-- a name behind `--` in front
ended-step : (before all next : Given) (word : List ℕ) (rest : List (List ℕ)) → TookName before word next → GivesNames next rest all
    → GivesNames before (word ∷ rest) all
ended-step before all next word rest took more = record {
  named = (took.some, more.named);
  names = sym (append_assoc before.names (word ∷ []) rest) ∙ ap (λ given. given.names ++ rest) (sym took.is) ∙ more.names;
  values = λ option. ap (λ given. value_of given option) (sym took.is) ∙ more.values option;
}

-- behind `--`, by whether the name is taken
ended-by : (before all : Given) (next : Reading) (word : List ℕ) (rest : List (List ℕ)) (name : Option Given) → with_name before word ≡ name
    → with_word (Ended before) word ≡ Some next → GivesFrom next rest all → GivesNames before (word ∷ rest) all
ended-by before all next word rest None is took more =
    let not : with_word (Ended before) word ≡ None = ap (option_map Ended) is in cc (not, took)
ended-by before all next word rest (Some given) is took more =
    let so : with_word (Ended before) word ≡ Some (Ended given) = ap (option_map Ended) is in
    let same : next ≡ Ended given = cc (so, took) in
    ended-step before all given word rest (took-name before word given is) (subst (λ r. GivesFrom r rest all) same more)

-- where a value is due, by whether it is taken
value-by : (option : OptionName) (before all : Given) (next : Reading) (word : List ℕ) (rest : List (List ℕ)) (t : Bool) (value : Option Given)
    → is_hyphened word ≡ t → with_value before option word ≡ value → with_word (Awaiting option before) word ≡ Some next → GivesFrom next rest all
    → GivesValue option before (word ∷ rest) all
value-by option before all next word rest true value hyphened is took more =
    let not : with_word (Awaiting option before) word ≡ None = rw hyphened refl in cc (not, took)
value-by option before all next word rest false None hyphened is took more =
    let not : with_word (Awaiting option before) word ≡ None = rw hyphened (ap (option_map Open) is) in cc (not, took)
value-by option before all next word rest false (Some given) hyphened is took more =
    let so : with_word (Awaiting option before) word ≡ Some (Open given) = rw hyphened (ap (option_map Open) is) in
    let same : next ≡ Open given = cc (so, took) in
    let value = took-value before option word given is in
    let behind : GivesMore given rest all = subst (λ r. GivesFrom r rest all) same more in
    record {
      value = word;
      rest = rest;
      spelled = refl;
      plain = record { some = value.some; bare = hyphened };
      free = value.free;
      more = subst (λ g. GivesMore g rest all) value.is behind;
    }

-- an option whose value is due, by whether there is such an option
apart-by : (before all : Given) (next : Reading) (word : List ℕ) (rest : List (List ℕ)) (option : Option OptionName) → option_named word ≡ option
    → option_map (λ o. Awaiting o before) (option_named word) ≡ Some next → GivesFrom next rest all → GivesMore before (word ∷ rest) all
apart-by before all next word rest None is took more =
    let not : option_map (λ o. Awaiting o before) (option_named word) ≡ None = ap (option_map (λ o. Awaiting o before)) is in cc (not, took)
apart-by before all next word rest (Some option) is took more =
    let so : option_map (λ o. Awaiting o before) (option_named word) ≡ Some (Awaiting option before) = ap (option_map (λ o. Awaiting o before)) is in
    let same : next ≡ Awaiting option before = cc (so, took) in
    let value : GivesValue option before rest all = subst (λ r. GivesFrom r rest all) same more in
    let first = apart-first before all option value.value value.rest value.plain value.free value.more in
    let named : GivesMore before (word ∷ value.value ∷ value.rest) all = rw (named-is word option is) first in
    rw value.spelled named

-- what reading comes to with an option and its value in one word
abbrev joined : Given → List ℕ → Option OptionName → Option Reading
joined before value option = option_and_then (λ o. option_map Open (with_value before o value)) option

-- an option with its value, by whether the value is taken
joined-taken : (before all : Given) (next : Reading) (option : OptionName) (value : List ℕ) (rest : List (List ℕ)) (taken : Option Given)
    → with_value before option value ≡ taken → option_map Open (with_value before option value) ≡ Some next → GivesFrom next rest all
    → GivesMore before ((text_of option ++ 61 ∷ value) ∷ rest) all
joined-taken before all next option value rest None is took more =
    let not : option_map Open (with_value before option value) ≡ None = ap (option_map Open) is in cc (not, took)
joined-taken before all next option value rest (Some given) is took more =
    let so : option_map Open (with_value before option value) ≡ Some (Open given) = ap (option_map Open) is in
    let same : next ≡ Open given = cc (so, took) in
    let taken = took-value before option value given is in
    let behind : GivesMore given rest all = subst (λ r. GivesFrom r rest all) same more in
    joined-first before all option value rest taken.some taken.free (subst (λ g. GivesMore g rest all) taken.is behind)

-- an option with its value, by whether there is such an option and whether the value is taken
joined-by : (before all : Given) (next : Reading) (name value : List ℕ) (rest : List (List ℕ)) (option : Option OptionName) → option_named name ≡ option
    → joined before value (option_named name) ≡ Some next → GivesFrom next rest all → GivesMore before ((name ++ 61 ∷ value) ∷ rest) all
joined-by before all next name value rest None is took more =
    let not : joined before value (option_named name) ≡ None = ap (joined before value) is in cc (not, took)
joined-by before all next name value rest (Some option) is took more =
    let so : joined before value (option_named name) ≡ option_map Open (with_value before option value) = ap (joined before value) is in
    let at : option_map Open (with_value before option value) ≡ Some next = sym so ∙ took in
    rw (named-is name option is) (joined-taken before all next option value rest (with_value before option value) refl at more)

-- which next word may begin an argument, by whether it has a `=`
option-by : (before all : Given) (next : Reading) (word : List ℕ) (rest : List (List ℕ)) (parts : Option (List ℕ × List ℕ)) → parted word ≡ parts
    → with_option before word parts ≡ Some next → GivesFrom next rest all → GivesMore before (word ∷ rest) all
option-by before all next word rest None is took more = apart-by before all next word rest (option_named word) refl took more
option-by before all next word rest (Some parts) is took more =
    rw (parted-joins word parts is) (joined-by before all next parts.0 parts.1 rest (option_named parts.0) refl took more)

-- a name where an argument may begin, by whether it is taken
name-by : (before all : Given) (next : Reading) (word : List ℕ) (rest : List (List ℕ)) (name : Option Given) → is_hyphened word ≡ false → with_name before word ≡ name
    → option_map Open (with_name before word) ≡ Some next → GivesFrom next rest all → GivesMore before (word ∷ rest) all
name-by before all next word rest None bare is took more =
    let not : option_map Open (with_name before word) ≡ None = ap (option_map Open) is in cc (not, took)
name-by before all next word rest (Some given) bare is took more =
    let so : option_map Open (with_name before word) ≡ Some (Open given) = ap (option_map Open) is in
    let same : next ≡ Open given = cc (so, took) in
    let name = took-name before word given is in
    let behind : GivesMore given rest all = subst (λ r. GivesFrom r rest all) same more in
    name-first before all word rest (record { some = name.some; bare = bare }) (subst (λ g. GivesMore g rest all) name.is behind)

-- where an argument may begin, by what the word looks like
open-by : (before all : Given) (next : Reading) (word : List ℕ) (rest : List (List ℕ)) (t u : Bool) → bytes_eq word (codes "--") ≡ t → is_hyphened word ≡ u
    → with_argument before word ≡ Some next → GivesFrom next rest all → GivesMore before (word ∷ rest) all
open-by before all next word rest true u dashes hyphened took more =
    let so : with_argument before word ≡ Some (Ended before) = rw dashes refl in
    let same : next ≡ Ended before = cc (so, took) in
    rw ((bytes_eq-Decides word (codes "--")).0 dashes) (dashes-first before all rest (subst (λ r. GivesFrom r rest all) same more))
open-by before all next word rest false true dashes hyphened took more =
    let so : with_argument before word ≡ with_option before word (parted word) = rw dashes (rw hyphened refl) in
    option-by before all next word rest (parted word) refl (sym so ∙ took) more
open-by before all next word rest false false dashes hyphened took more =
    let so : with_argument before word ≡ option_map Open (with_name before word) = rw dashes (rw hyphened refl) in
    name-by before all next word rest (with_name before word) hyphened refl (sym so ∙ took) more

-- one word read, and what the words behind it give
step-gives : (reading next : Reading) (word : List ℕ) (rest : List (List ℕ)) (all : Given) → with_word reading word ≡ Some next → GivesFrom next rest all
    → GivesFrom reading (word ∷ rest) all
step-gives (Open before) next word rest all took more = open-by before all next word rest (bytes_eq word (codes "--")) (is_hyphened word) refl refl took more
step-gives (Awaiting option before) next word rest all took more =
    value-by option before all next word rest (is_hyphened word) (with_value before option word) refl refl took more
step-gives (Ended before) next word rest all took more = ended-by before all next word rest (with_name before word) refl took more

-- at the end
end-gives : (reading : Reading) (all : Given) → at_end reading ≡ Some all → GivesFrom reading [] all
end-gives (Open before) all is =
    let same : before ≡ all = cc is in
    record {
      arguments = [];
      last = None;
      spelled = refl;
      lawful = tt;
      named = tt;
      names = append-nil before.names ∙ ap (λ given. given.names) same;
      values = λ option. append-nil (option_to_list (value_of before option)) ∙ ap (λ given. option_to_list (value_of given option)) same;
    }
end-gives (Awaiting option before) all is = cc is
end-gives (Ended before) all is =
    let same : before ≡ all = cc is in
    record {
      named = tt;
      names = append-nil before.names ∙ ap (λ given. given.names) same;
      values = λ option. ap (λ given. value_of given option) same;
    }

-- one word more, by whether it can be read
front-gives : (reading : Reading) (word : List ℕ) (words : List (List ℕ)) (all : Given) (next : Option Reading) → with_word reading word ≡ next
    → ((then : Reading) → goes then words ≡ Some all → GivesFrom then words all)
    → goes reading (word ∷ words) ≡ Some all → GivesFrom reading (word ∷ words) all
front-gives reading word words all None is ih went = let not = goes-nowhere reading word words is in cc (not, went)
front-gives reading word words all (Some next) is ih went =
    step-gives reading next word words all is (ih next (sym (goes-on reading next word words is) ∙ went))

-- what was read from some point on is what the words give from there
from-reading : (words : List (List ℕ)) (reading : Reading) (all : Given) → goes reading words ≡ Some all → GivesFrom reading words all
from-reading [] reading all went = end-gives reading all went
from-reading (word ∷ words) reading all went =
    front-gives reading word words all (with_word reading word) refl (λ then. from-reading words then all) went

-- nothing was given at first
from-nothing : {values : List (List ℕ)} {all : List (List ℕ)} (option : OptionName) → option_to_list (value_of nothing option) ++ values ≡ all → values ≡ all
from-nothing Seed is = is
from-nothing Steps is = is
from-nothing Journal is = is
from-nothing Store is = is
from-nothing Collect is = is

-- what is read of words is what they give
pub read-gives : (words : List (List ℕ)) (given : Given) → read words ≡ Some given → Gives words given
read-gives words given is =
    let more = from-reading words (Open nothing) given is in
    record {
      arguments = more.arguments;
      last = more.last;
      spelled = more.spelled;
      lawful = more.lawful;
      named = more.named;
      names = more.names;
      values = λ option. from-nothing option (more.values option);
    }
