-- What a section says and what is wrong with it exclude each other, and one of the two there is.
use Rattle.std.proofs.Common.{◌≡◌, ◌≤◌, ◌<◌, ◌+◌, suc, Bool, true, false, not, ◌||◌, nat_lt, if◌then◌else◌, List, [], ◌∷◌, ◌++◌, length, map, Option, Some, None, refl, ap, sym, subst, ◌∙◌, arith, rules, append_assoc, append-nil, length-append}
use Rattle.std.proofs.lemmas.Bool.Decides.{nat_tests}
use Rattle.std.proofs.lemmas.List.Elements.{All-cons}
use Rattle.std.proofs.lemmas.List.Folds.{list_any_none}
use Rattle.std.proofs.lemmas.List.Quantifiers.{all_pairs_push}
use Rattle.std.proofs.lemmas.List.{get_or_append_left}
use Rattle.std.proofs.Math.Seq.{get_or-append_seam}
use Rattle.std.specs.List.{All, AllPairs, list_any}
use Rattle.std.specs.Option.{option_and_then, option_to_list}
use Rattle.toml.specs.Data.{Data, Members, as_array, as_table}
use Rattle.dso_config.specs.declared.fault.ConfigFault.{ConfigFault}
use Rattle.dso_config.specs.declared.fault.ConfigFault.TheVariants as fault
use Rattle.dso_config.specs.declared.fault.Section.{Section}
use Rattle.dso_config.specs.declared.fault.Spot.{Spot}
use Rattle.dso_config.specs.Entries.{Rules}
use Rattle.dso_config.specs.InRange.{most_entries}
use Rattle.dso_config.specs.Keys.{first_fault, has_known_keys, unless}
use Rattle.dso_config.specs.Sections.{SaysEntries, absent, said, entry_of, is_new, item_fault, items_fault, known_table, listed, value_fault}
use Rattle.dso_config.proofs.ExactRules.{AreExact, found-there}

-- each of these entries says nothing that one before it said
abbrev pub EachIsNew : {E : Type 0} → Rules E → List E → List E → Type 0
EachIsNew rules before [] = Unit {0}
EachIsNew rules before (entry ∷ rest) = (is_new rules before entry ≡ true) × EachIsNew rules (before ++ entry ∷ []) rest

-- the first fault is none where none is there
pub cons-none : (a : Option ConfigFault) (rest : List (Option ConfigFault)) → first_fault (a ∷ rest) ≡ None → (a ≡ None) × (first_fault rest ≡ None)
cons-none None rest none = (refl, none)
cons-none (Some a) rest none = cc

-- a test that gives no fault passes
pub unless-there : (wrong : ConfigFault) (test : Bool) → unless wrong test ≡ None → test ≡ true
unless-there wrong true none = refl
unless-there wrong false none = cc

-- an item that says an entry is a table of known keys that says it
entry-parts : {E : Type 0} (rules : Rules E) (value : Data) (entry : E) → entry_of rules value ≡ Some entry
    → (table : Members) × (as_table value ≡ Some table) × (has_known_keys rules.section table ≡ true) × (rules.entry table ≡ Some entry)
entry-parts rules value entry is = by_table (as_table value) refl is where
  by_known : (table : Members) (known : Bool) → as_table value ≡ Some table → has_known_keys rules.section table ≡ known
      → option_and_then rules.entry (if known then Some table else None) ≡ Some entry
      → (table : Members) × (as_table value ≡ Some table) × (has_known_keys rules.section table ≡ true) × (rules.entry table ≡ Some entry)
  by_known table true at keys told = (table, at, keys, told)
  by_known table false at keys told = cc

  by_table : (found : Option Members) → as_table value ≡ found
      → option_and_then rules.entry (option_and_then (λ table. if has_known_keys rules.section table then Some table else None) found) ≡ Some entry
      → (table : Members) × (as_table value ≡ Some table) × (has_known_keys rules.section table ≡ true) × (rules.entry table ≡ Some entry)
  by_table None at told = cc
  by_table (Some table) at told = by_known table (has_known_keys rules.section table) at refl told

-- an item that says a new entry is right
item-right : {E : Type 0} (rules : Rules E) → AreExact rules → (before : List E) (value : Data) (entry : E) → nat_lt (length before) most_entries ≡ true
    → entry_of rules value ≡ Some entry → is_new rules before entry ≡ true → item_fault rules before value ≡ None
item-right rules exact before value entry few is new =
    let parts = entry-parts rules value entry is in
    let right = (exact.at (record { section = rules.section; entry = suc (length before) }) parts.0).right entry parts.3 in
    rw (few, parts.1, parts.2, right, parts.3, new)

-- the table of known keys of a table
known-same : (s : Section) (value : Data) (table known : Members) → as_table value ≡ Some table → known_table s value ≡ Some known → table ≡ known
known-same s value table known at is = by_known (has_known_keys s table) (sym (ap (λ found. option_and_then (λ t. if has_known_keys s t then Some t else None) found) at) ∙ is) where
  by_known : (test : Bool) → (if test then Some table else None) ≡ Some known → table ≡ known
  by_known true told = cc
  by_known false told = cc

-- what a right item says
item-there : {E : Type 0} (rules : Rules E) → AreExact rules → (before : List E) (value : Data) → item_fault rules before value ≡ None
    → (entry : E) × (nat_lt (length before) most_entries ≡ true) × (entry_of rules value ≡ Some entry) × (is_new rules before entry ≡ true)
item-there rules exact before value none =
    let spot : Spot = record { section = rules.section; entry = suc (length before) } in
    let few = cons-none _ _ none in
    let a_table = cons-none _ _ few.1 in
    let known = cons-none _ _ a_table.1 in
    let right = cons-none _ _ known.1 in
    let last = cons-none _ _ right.1 in
    let table = found-there (fault.WrongKind spot) (as_table value) a_table.0 in
    let of_known = found-there (fault.UnknownKey spot) (known_table rules.section value) known.0 in
    let same = known-same rules.section value table.0 of_known.0 table.1 of_known.1 in
    let right_table : rules.fault spot table.0 ≡ None = sym (ap (option_and_then (rules.fault spot)) table.1) ∙ right.0 in
    let entry = (exact.at spot table.0).there right_table in
    let says : entry_of rules value ≡ Some entry.0 = ap (option_and_then rules.entry) of_known.1 ∙ ap rules.entry (sym same) ∙ entry.1 in
    let new = sym (ap (option_and_then (λ e. unless (fault.Twice spot) (is_new rules before e))) says) ∙ last.0 in
    (entry.0, unless-there (fault.OutOfRange spot) _ few.0, says, unless-there (fault.Twice spot) _ new)

-- items that say new entries, and not too many, are right
pub items-right : {E : Type 0} (rules : Rules E) → AreExact rules → (before : List E) (items : List Data) (all : List E)
    → map (entry_of rules) items ≡ map Some all → length before + length all ≤ most_entries → EachIsNew rules before all → items_fault rules before items ≡ None
items-right rules exact before [] [] each few new = refl
items-right rules exact before [] (entry ∷ all) each few new = cc
items-right rules exact before (value ∷ items) [] each few new = cc
items-right {E} rules exact before (value ∷ items) (entry ∷ all) each few new =
    let says : entry_of rules value ≡ Some entry = cc in
    let room : nat_lt (length before) most_entries ≡ true = grind (arith, nat_tests) in
    let more : length (before ++ entry ∷ []) + length all ≤ most_entries = omega (arith, length-append {A = E}) in
    let same : map (entry_of rules) items ≡ map Some all = cc in
    let rest = items-right rules exact (before ++ entry ∷ []) items all same more new.1 in
    rw (item-right rules exact before value entry room says new.0, says, rest)

-- right items say new entries, and not too many
pub items-there : {E : Type 0} (rules : Rules E) → AreExact rules → (before : List E) (items : List Data) → length before ≤ most_entries → items_fault rules before items ≡ None
    → (all : List E) × (map (entry_of rules) items ≡ map Some all) × (length before + length all ≤ most_entries) × EachIsNew rules before all
items-there rules exact before [] few none = ([], refl, omega arith, tt)
items-there {E} rules exact before (value ∷ items) few none =
    let parts = cons-none _ _ none in
    let entry = item-there rules exact before value parts.0 in
    let rest_none : items_fault rules (before ++ entry.0 ∷ []) items ≡ None =
    sym (ap (λ found. items_fault rules (before ++ option_to_list found) items) entry.2) ∙ (cons-none _ _ parts.1).0 in
    let room : length before < most_entries = grind (arith, nat_tests, entry.1) in
    let room_behind : length (before ++ entry.0 ∷ []) ≤ most_entries = omega (arith, length-append {A = E}) in
    let rest = items-there rules exact (before ++ entry.0 ∷ []) items room_behind rest_none in
    let each : map (entry_of rules) (value ∷ items) ≡ map Some (entry.0 ∷ rest.0) = cc (entry.2, rest.1) in
    let count : length before + length (entry.0 ∷ rest.0) ≤ most_entries = omega (arith, length-append {A = E}, rest.2) in
    (entry.0 ∷ rest.0, each, count, (entry.3, rest.3))

-- an entry that repeats none of those before it is new
new-from : {E : Type 0} (rules : Rules E) (before : List E) (entry : E) → All (λ earlier. rules.repeats entry earlier ≡ false) before → is_new rules before entry ≡ true
new-from rules before entry none = ap not (list_any_none (rules.repeats entry) before none)

-- a new entry repeats none of those before it
new-each : {E : Type 0} (rules : Rules E) (before : List E) (entry : E) → is_new rules before entry ≡ true → All (λ earlier. rules.repeats entry earlier ≡ false) before
new-each rules [] entry new = λ k d within. absurd (omega arith)
new-each rules (first ∷ before) entry new =
    let parts = neither (rules.repeats entry first) (list_any (rules.repeats entry) before) new in
    All-cons (λ earlier. rules.repeats entry earlier ≡ false) first before parts.0 (new-each rules before entry parts.1) where
      neither : (a b : Bool) → not (a || b) ≡ true → (a ≡ false) × (not b ≡ true)
      neither true b is = cc
      neither false b is = (refl, is)

-- entries that stand apart are each new
pub apart-new : {E : Type 0} (rules : Rules E) (before all : List E) → AllPairs (λ earlier entry. rules.repeats entry earlier ≡ false) (before ++ all) → EachIsNew rules before all
apart-new rules before [] apart = tt
apart-new {E} rules before (entry ∷ all) apart =
    let R : E → E → Type 0 = λ earlier next. rules.repeats next earlier ≡ false in
    let none : All (λ earlier. rules.repeats entry earlier ≡ false) before = λ k d within.
    let pair = apart k (length before) d within (omega (arith, length-append {A = E})) in
    rw (get_or_append_left before (entry ∷ all) d k within, get_or-append_seam before entry all d) at pair in
    (new-from rules before entry none, apart-new rules (before ++ entry ∷ []) all (subst (AllPairs R) (sym (append_assoc before (entry ∷ []) all)) apart))

-- each new entry stands apart from those before it
pub new-apart : {E : Type 0} (rules : Rules E) (before all : List E) → AllPairs (λ earlier entry. rules.repeats entry earlier ≡ false) before → EachIsNew rules before all
    → AllPairs (λ earlier entry. rules.repeats entry earlier ≡ false) (before ++ all)
new-apart {E} rules before [] apart new = subst (AllPairs (λ earlier entry. rules.repeats entry earlier ≡ false)) (sym (append-nil before)) apart
new-apart {E} rules before (entry ∷ all) apart new =
    let R : E → E → Type 0 = λ earlier next. rules.repeats next earlier ≡ false in
    let pushed = all_pairs_push R before entry apart (new-each rules before entry new.0) in
    subst (AllPairs R) (append_assoc before (entry ∷ []) all) (new-apart rules (before ++ entry ∷ []) all pushed new.1)

-- a section that says entries is right
pub section-right : {E : Type 0} (rules : Rules E) → AreExact rules → (value : Option Data) (all : Option (List E)) → SaysEntries rules value all → value_fault rules value ≡ None
section-right {E} rules exact value all says = by_form says where
  by_form : {value : Option Data} {all : Option (List E)} → SaysEntries rules value all → value_fault rules value ≡ None
  by_form absent = refl
  by_form (said value items all is are) = rw (is, items-right rules exact [] (listed items) all are.each (omega (arith, are.few)) (apart-new rules [] all are.new))

-- a right section says entries
pub section-there : {E : Type 0} (rules : Rules E) → AreExact rules → (value : Option Data) → value_fault rules value ≡ None → (all : Option (List E)) × SaysEntries rules value all
section-there rules exact None none = (None, absent)
section-there rules exact (Some value) none =
    let parts = cons-none _ _ none in
    let items = found-there _ (as_array value) parts.0 in
    let right : items_fault rules [] (listed items.0) ≡ None =
    sym (ap (option_and_then (λ items. items_fault rules [] (listed items))) items.1) ∙ (cons-none _ _ parts.1).0 in
    let all = items-there rules exact [] (listed items.0) (omega arith) right in
    (Some all.0, said value items.0 all.0 items.1 (record { each = all.1; few = omega (arith, all.2); new = new-apart rules [] all.0 (λ i j d below within. absurd (omega arith)) all.3 }))

-- what is said of each is one
map_Some-one : {E : Type 0} (all others : List E) → map Some all ≡ map Some others → all ≡ others
map_Some-one [] [] same = refl
map_Some-one [] (other ∷ others) same = cc
map_Some-one (entry ∷ all) [] same = cc
map_Some-one (entry ∷ all) (other ∷ others) same =
    let rest : all ≡ others = map_Some-one all others cc in
    let first : entry ≡ other = cc in
    cc

-- a section says one list of entries
pub section-one : {E : Type 0} {rules : Rules E} {value : Option Data} {all others : Option (List E)} → SaysEntries rules value all → SaysEntries rules value others → all ≡ others
section-one absent absent = refl
section-one {E} {rules} (said value items all is are) (said _ those others at them) =
    let items_same : items ≡ those = cc in
    let each : map Some all ≡ map Some others = sym are.each ∙ ap (λ x. map (entry_of rules) (listed x)) items_same ∙ them.each in
    ap Some (map_Some-one all others each)
