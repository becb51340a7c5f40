-- What words ask for: one thing at most, and it is what is read of them.
use Rattle.std.proofs.Common.{arith, ◌≡◌, ◌∙◌, sym, ap, refl, subst, ℕ, ◌≤◌, List, [], ◌∷◌, length, Option, Some, None, Bool, false, true, ◌&&◌, nat_le, if◌then◌else◌, codes, MatchOption}
use Rattle.std.proofs.lemmas.Bool.{leb-true}
use Rattle.std.proofs.lemmas.Slice.Eq.{bytes_eq-Decides}
use Rattle.std.specs.Option.{option_map}
use Rattle.std.specs.Str.{all_ascii_digits, bytes_eq}
use Rattle.std.specs.Str.Parse.{digits_value}
use Rattle.dso_command_line.specs.Words.{AreLawful, AreUnlawful, CanBeAsked, Command, IsInterval, collect_said, number_within, steps_said, Sim, Run, Big, Show, Lint, SimCall, RunCall, ShowCall, LintCall, Given, IsAsked, IsSim, IsRun, IsBig, IsShow, IsLint}
use Rattle.dso_command_line.specs.WordReading.{read}
use Rattle.dso_command_line.proofs.reading_words.GivesRead.{gives-read}
use Rattle.dso_command_line.proofs.reading_words.ReadGives.{read-gives}

-- what asks for something has three names at most
few-names : (first : List ℕ) (given : Given) (command : Command) → IsAsked first given command → length given.names ≤ 3
few-names first given (Sim call) is = rw is.names (omega arith)
few-names first given (Run call) is = rw is.names (omega arith)
few-names first given (Big number) is = rw is.names (omega arith)
few-names first given (Show call) is = rw is.names (omega arith)
few-names first given (Lint call) is = rw is.names (omega arith)

-- What was read of the words behind the first asks for this.
pub record AsksRead (first : List ℕ) (rest : List (List ℕ)) (command : Command) : Type 0 where
  pub given : Given
  pub is_read : read rest ≡ Some given
  pub asked : IsAsked first given command

-- so what words ask for is asked by what is read of them
pub asks-read : (first : List ℕ) (rest : List (List ℕ)) (command : Command) → AreLawful (first ∷ rest) command → AsksRead first rest command
asks-read first rest command asks =
    let same : first ≡ asks.first = cc asks.spelled in
    let behind : rest ≡ asks.rest = cc asks.spelled in
    record {
      given = asks.given;
      is_read = ap read behind ∙ gives-read asks.rest asks.given asks.gives (few-names asks.first asks.given command asks.asked);
      asked = rw same asks.asked;
    }

-- the same seed is said, or steps
same-some : {A : Type 0} {said : Option A} {x y : A} → said ≡ Some x → said ≡ Some y → x ≡ y
same-some one other = cc (sym one ∙ other)

-- a call of `sim`, part by part
abbrev of_sim : List ℕ → List ℕ → Option ℕ → ℕ → Option (List ℕ) → Option (List ℕ) → Option ℕ → SimCall
of_sim config program seed steps journal store collect =
    record { config = config; program = program; seed = seed; steps = steps; journal = journal; store = store; collect = collect }

-- and one of `run`
abbrev of_run : List ℕ → List ℕ → ℕ → Option (List ℕ) → RunCall
of_run config program steps journal = record { config = config; program = program; steps = steps; journal = journal }

-- calls of `sim` with the same parts are one
same-sim : (a b c d : List ℕ) (s t : Option ℕ) (n m : ℕ) (j k p q : Option (List ℕ)) (u v : Option ℕ) → a ≡ b → c ≡ d → s ≡ t → n ≡ m → j ≡ k → p ≡ q → u ≡ v
    → of_sim a c s n j p u ≡ of_sim b d t m k q v
same-sim a b c d s t n m j k p q u v config program seed steps journal store collect =
    ap (λ x. of_sim x c s n j p u) config ∙ ap (λ x. of_sim b x s n j p u) program ∙ ap (λ x. of_sim b d x n j p u) seed
    ∙ ap (λ x. of_sim b d t x j p u) steps ∙ ap (λ x. of_sim b d t m x p u) journal ∙ ap (λ x. of_sim b d t m k x u) store
    ∙ ap (λ x. of_sim b d t m k q x) collect

-- and calls of `run`
same-run : (a b c d : List ℕ) (n m : ℕ) (j k : Option (List ℕ)) → a ≡ b → c ≡ d → n ≡ m → j ≡ k → of_run a c n j ≡ of_run b d m k
same-run a b c d n m j k config program steps journal =
    ap (λ x. of_run x c n j) config ∙ ap (λ x. of_run b x n j) program ∙ ap (λ x. of_run b d x j) steps ∙ ap (λ x. of_run b d m x) journal

-- one call of `sim` is asked for
sim-once : (first : List ℕ) (given : Given) (call other : SimCall) → IsSim first given call → IsSim first given other → call ≡ other
sim-once first given call other is so =
    let names = sym is.names ∙ so.names in
    let config : call.config ≡ other.config = cc names in
    let program : call.program ≡ other.program = cc names in
    same-sim call.config other.config call.program other.program call.seed other.seed call.steps other.steps call.journal other.journal
    call.store other.store call.collect other.collect config program (same-some is.seed so.seed) (same-some is.steps so.steps)
    (sym is.journal ∙ so.journal) (sym is.store ∙ so.store) (same-some is.collect so.collect)

-- one call of `run`
run-once : (first : List ℕ) (given : Given) (call other : RunCall) → IsRun first given call → IsRun first given other → call ≡ other
run-once first given call other is so =
    let names = sym is.names ∙ so.names in
    let config : call.config ≡ other.config = cc names in
    let program : call.program ≡ other.program = cc names in
    same-run call.config other.config call.program other.program call.steps other.steps call.journal other.journal config program
    (same-some is.steps so.steps) (sym is.journal ∙ so.journal)

-- one load
big-once : (first : List ℕ) (given : Given) (number other : ℕ) → IsBig first given number → IsBig first given other → number ≡ other
big-once first given number other is so =
    let names = sym is.names ∙ so.names in
    let name : is.name ≡ so.name = cc names in
    same-some is.said (ap (number_within 1 1000) name ∙ so.said)

-- a call of `show`, and one of `lint`, part by part
abbrev of_show : List ℕ → List ℕ → List ℕ → ShowCall
of_show config program store = record { config = config; program = program; store = store }

abbrev of_lint : List ℕ → List ℕ → LintCall
of_lint config program = record { config = config; program = program }

-- one call of `show` is asked for
show-once : (first : List ℕ) (given : Given) (call other : ShowCall) → IsShow first given call → IsShow first given other → call ≡ other
show-once first given call other is so =
    let names = sym is.names ∙ so.names in
    let config : call.config ≡ other.config = cc names in
    let program : call.program ≡ other.program = cc names in
    let store : call.store ≡ other.store = cc names in
    ap (λ x. of_show x call.program call.store) config ∙ ap (λ x. of_show other.config x call.store) program ∙ ap (λ x. of_show other.config other.program x) store

-- one call of `lint`
lint-once : (first : List ℕ) (given : Given) (call other : LintCall) → IsLint first given call → IsLint first given other → call ≡ other
lint-once first given call other is so =
    let names = sym is.names ∙ so.names in
    let config : call.config ≡ other.config = cc names in
    let program : call.program ≡ other.program = cc names in
    ap (λ x. of_lint x call.program) config ∙ ap (λ x. of_lint other.config x) program

-- no word is two different ones
one-word : (word a b : List ℕ) → bytes_eq a b ≡ false → word ≡ a → word ≡ b → ⊥
one-word word a b differ is so = let same : bytes_eq a b ≡ true = (bytes_eq-Decides a b).1 (sym is ∙ so) in cc (same, differ)

-- a command with what is given asks for one thing at most
pub asked-once : (first : List ℕ) (given : Given) (command other : Command) → IsAsked first given command → IsAsked first given other → command ≡ other
asked-once first given (Sim call) (Sim other) is so = ap Sim (sim-once first given call other is so)
asked-once first given (Sim call) (Run other) is so = absurd (one-word first (codes "sim") (codes "run") refl is.word so.word)
asked-once first given (Sim call) (Big other) is so = absurd (one-word first (codes "sim") (codes "big") refl is.word so.word)
asked-once first given (Sim call) (Show other) is so = absurd (one-word first (codes "sim") (codes "show") refl is.word so.word)
asked-once first given (Sim call) (Lint other) is so = absurd (one-word first (codes "sim") (codes "lint") refl is.word so.word)
asked-once first given (Run call) (Sim other) is so = absurd (one-word first (codes "run") (codes "sim") refl is.word so.word)
asked-once first given (Run call) (Run other) is so = ap Run (run-once first given call other is so)
asked-once first given (Run call) (Big other) is so = absurd (one-word first (codes "run") (codes "big") refl is.word so.word)
asked-once first given (Run call) (Show other) is so = absurd (one-word first (codes "run") (codes "show") refl is.word so.word)
asked-once first given (Run call) (Lint other) is so = absurd (one-word first (codes "run") (codes "lint") refl is.word so.word)
asked-once first given (Big number) (Sim other) is so = absurd (one-word first (codes "big") (codes "sim") refl is.word so.word)
asked-once first given (Big number) (Run other) is so = absurd (one-word first (codes "big") (codes "run") refl is.word so.word)
asked-once first given (Big number) (Big other) is so = ap Big (big-once first given number other is so)
asked-once first given (Big number) (Show other) is so = absurd (one-word first (codes "big") (codes "show") refl is.word so.word)
asked-once first given (Big number) (Lint other) is so = absurd (one-word first (codes "big") (codes "lint") refl is.word so.word)
asked-once first given (Show call) (Sim other) is so = absurd (one-word first (codes "show") (codes "sim") refl is.word so.word)
asked-once first given (Show call) (Run other) is so = absurd (one-word first (codes "show") (codes "run") refl is.word so.word)
asked-once first given (Show call) (Big other) is so = absurd (one-word first (codes "show") (codes "big") refl is.word so.word)
asked-once first given (Show call) (Show other) is so = ap Show (show-once first given call other is so)
asked-once first given (Show call) (Lint other) is so = absurd (one-word first (codes "show") (codes "lint") refl is.word so.word)
asked-once first given (Lint call) (Sim other) is so = absurd (one-word first (codes "lint") (codes "sim") refl is.word so.word)
asked-once first given (Lint call) (Run other) is so = absurd (one-word first (codes "lint") (codes "run") refl is.word so.word)
asked-once first given (Lint call) (Big other) is so = absurd (one-word first (codes "lint") (codes "big") refl is.word so.word)
asked-once first given (Lint call) (Show other) is so = absurd (one-word first (codes "lint") (codes "show") refl is.word so.word)
asked-once first given (Lint call) (Lint other) is so = ap Lint (lint-once first given call other is so)

-- the words are unlawful where what is behind the first can't be read
pub unlawful_unread : (first : List ℕ) (rest : List (List ℕ)) → read rest ≡ None → AreUnlawful (first ∷ rest)
unlawful_unread first rest none command lawful = let asks = asks-read first rest command lawful in cc (none, asks.is_read)

-- or where it asks for nothing
pub unlawful_unasked : (first : List ℕ) (rest : List (List ℕ)) (given : Given) → read rest ≡ Some given
    → ((command : Command) → IsAsked first given command → ⊥) → AreUnlawful (first ∷ rest)
unlawful_unasked first rest given is never command lawful =
    let asks = asks-read first rest command lawful in
    let same : asks.given ≡ given = cc (is, asks.is_read) in
    never command (subst (λ g. IsAsked first g command) same asks.asked)

-- and else they are lawful
pub lawful : (first : List ℕ) (rest : List (List ℕ)) (given : Given) (command : Command) → read rest ≡ Some given
    → IsAsked first given command → AreLawful (first ∷ rest) command
lawful first rest given command is asked =
    record { first = first; rest = rest; given = given; spelled = refl; gives = read-gives rest given is; asked = asked }

-- so by what is made of what was read
pub lawful_if_asked : {X : Type 0} (found : Option X) (said : X → Command) (first : List ℕ) (rest : List (List ℕ)) (given : Given) → read rest ≡ Some given
    → MatchOption found ((other : Command) → IsAsked first given other → ⊥) (λ x. IsAsked first given (said x))
    → MatchOption found (AreUnlawful (first ∷ rest)) (λ x. AreLawful (first ∷ rest) (said x))
lawful_if_asked None said first rest given is never = unlawful_unasked first rest given is never
lawful_if_asked (Some x) said first rest given is asked = lawful first rest given (said x) is asked

-- no words ask for nothing
pub none-asks : (command : Command) → AreLawful [] command → ⊥
none-asks command asks = cc asks.spelled

-- words ask for one thing at most
pub asks-once : (words : List (List ℕ)) (command other : Command) → AreLawful words command → AreLawful words other → command ≡ other
asks-once [] command other asks more = absurd (none-asks command asks)
asks-once (first ∷ rest) command other asks more =
    let one = asks-read first rest command asks in
    let two = asks-read first rest other more in
    let same : two.given ≡ one.given = cc (one.is_read, two.is_read) in
    asked-once first one.given command other one.asked (subst (λ g. IsAsked first g other) same two.asked)

-- what a test lets through passes its last part
last_holds : (front last : Bool) (value number : ℕ) → (if front && last then Some value else None) ≡ Some number → (last ≡ true) × (value ≡ number)
last_holds false last value number is = cc is
last_holds true false value number is = cc is
last_holds true true value number is = (refl, cc is)

-- a number within bounds is at most the upper one
most_of : (least most : ℕ) (word : List ℕ) (number : ℕ) → number_within least most word ≡ Some number → number ≤ most
most_of least most word number is =
    let value = digits_value 10 word in
    let holds = last_holds (all_ascii_digits word && nat_le 1 (length word) && nat_le (length word) 20 && nat_le least value) (nat_le value most) value number is in
    subst (λ n. n ≤ most) holds.1 (leb-true value most holds.0)

-- and at least the lower one
both_hold : (front least most : Bool) (value number : ℕ) → (if front && least && most then Some value else None) ≡ Some number → least ≡ true
both_hold false least most value number is = cc is
both_hold true false most value number is = cc is
both_hold true true most value number is = refl

least_of : (least most : ℕ) (word : List ℕ) (number : ℕ) → number_within least most word ≡ Some number → least ≤ number
least_of least most word number is =
    let value = digits_value 10 word in
    let front = all_ascii_digits word && nat_le 1 (length word) && nat_le (length word) 20 in
    let same = (last_holds (front && nat_le least value) (nat_le value most) value number is).1 in
    subst (λ n. least ≤ n) same (leb-true least value (both_hold front (nat_le least value) (nat_le value most) value number is))

-- the steps of a run are 4,000,000 at most
steps_by : (said : Option (List ℕ)) (steps : ℕ) → steps_said said ≡ Some steps → steps ≤ 4000000
steps_by None steps is = let same : 1000000 ≡ steps = cc is in omega (arith, same)
steps_by (Some word) steps is = most_of 1 4000000 word steps is

-- the number that an option may say, where it says one
some_said : (number : Option ℕ) (interval : Option ℕ) → option_map Some number ≡ Some interval → (n : ℕ) × (number ≡ Some n) × (interval ≡ Some n)
some_said None interval is = cc is
some_said (Some n) interval is = (n, refl, cc is)

-- garbage is collected after 1 to 1,000,000 entries each, if it is
interval_by : (said : Option (List ℕ)) (interval : Option ℕ) → collect_said said ≡ Some interval → IsInterval interval
interval_by None interval is = let same : interval ≡ None = cc is in rw same tt
interval_by (Some word) interval is =
    let some = some_said (number_within 1 1000000 word) interval is in
    rw some.2 (least_of 1 1000000 word some.0 some.1, most_of 1 1000000 word some.0 some.1)

-- lawful words ask for what can be asked
can_be : (first : List ℕ) (given : Given) (command : Command) → IsAsked first given command → CanBeAsked command
can_be first given (Sim call) asked = (steps_by given.steps call.steps asked.steps, interval_by given.collect call.collect asked.collect)
can_be first given (Run call) asked = steps_by given.steps call.steps asked.steps
can_be first given (Show call) asked = tt
can_be first given (Lint call) asked = tt
can_be first given (Big number) asked = (least_of 1 1000 asked.name number asked.said, most_of 1 1000 asked.name number asked.said)

pub lawful_can : (words : List (List ℕ)) (command : Command) → AreLawful words command → CanBeAsked command
lawful_can words command lawful = can_be lawful.first lawful.given command lawful.asked
