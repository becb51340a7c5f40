-- A text has one configuration or one fault.
use Rattle.std.proofs.Common.{codes, ◌≡◌, ◌≤◌, inl, inr, ℕ, Bool, true, false, nat_le, List, length, Option, Some, None, IsUtf8, refl, ap, sym, subst, ◌∙◌, arith}
use Rattle.std.proofs.lemmas.Bool.Decides.{nat_tests}
use Rattle.std.proofs.lemmas.Str.{IsUtf8-from_is_utf8, is_utf8-from_IsUtf8}
use Rattle.std.specs.Option.{option_and_then}
use Rattle.std.specs.Str.{is_utf8}
use Rattle.toml.specs.Data.{Data, Members, as_integer, get_member}
use Rattle.toml.specs.Parse.{parse_document}
use Rattle.dso_config.specs.declared.config.Config.{Config}
use Rattle.dso_config.specs.declared.fault.ConfigFault.{ConfigFault}
use Rattle.dso_config.specs.declared.fault.ConfigFault.TheVariants as fault
use Rattle.dso_config.specs.declared.fault.Section.TheVariants as section
use Rattle.dso_config.specs.Configuration.{top, setting, setting_fault, Says, triggers_fault, table_fault, most_bytes, IsToml, IsConfigurationOf, IsFaultOf, too_long, not_toml, in_table, HasAnswer}
use Rattle.dso_config.specs.Entries.{Rules, root_rules, autolock_rules, named_rules, guard_rules, loss_rules, break_rules}
use Rattle.dso_config.specs.InRange.{entries, most_clients, most_resident}
use Rattle.dso_config.specs.Keys.{has_known_keys, in_range}
use Rattle.dso_config.specs.Sections.{IsSectionOrEmpty, section_fault, value_of}
use Rattle.dso_config.proofs.ExactRules.{AreExact, IsExact, value-exact, two-none, roots-exact, autolocks-exact, named-exact, guards-exact, losses-exact, breaks-exact}
use Rattle.dso_config.proofs.ExactSections.{cons-none, unless-there, section-right, section-there, section-one}

-- a number at the top
setting-exact : (default most : ℕ) (value : Option Data) → IsExact (setting default most value) (setting_fault most value)
setting-exact default most None = record { right = λ n is. refl; there = λ none. (default, refl) }
setting-exact default most (Some value) = value-exact top (fault.OutOfRange top) (in_range 1 most) (as_integer value)

-- a section that may be absent or empty is right where it says its entries
or_empty-right : {E : Type 0} (rules : Rules E) → AreExact rules → (table : Members) (all : List E) → IsSectionOrEmpty rules table all → section_fault rules table ≡ None
or_empty-right rules exact table all section = section-right rules exact (value_of rules table) section.said section.is.says

-- what is wrong with the sections of triggers is none where they say theirs
triggers-right : (table : Members) (config : Config) → Says table config → triggers_fault table config.clients ≡ None
triggers-right table config says =
    rw (
      or_empty-right (loss_rules config.clients) (losses-exact config.clients) table config.losses says.losses,
      or_empty-right (break_rules config.clients) (breaks-exact config.clients) table config.breaks says.breaks,
    )

-- nothing is wrong with a table that says a configuration
pub table-right : (table : Members) (config : Config) → Says table config → table_fault table ≡ None
table-right table config says =
    let clients = (setting-exact 1 most_clients (get_member (codes "clients") table)).right config.clients says.clients in
    let resident = (setting-exact 4096 most_resident (get_member (codes "resident") table)).right config.resident says.resident in
    let roots = section-right root_rules roots-exact (value_of root_rules table) config.roots says.roots.says in
    let autolocks = section-right autolock_rules autolocks-exact (value_of autolock_rules table) config.autolocks says.autolocks.says in
    let named = section-right named_rules named-exact (value_of named_rules table) config.named says.named.says in
    let guards = or_empty-right guard_rules guards-exact table config.guards says.guards in
    let triggers = ap (option_and_then (triggers_fault table)) says.clients ∙ triggers-right table config says in
    rw (says.known, clients, resident, roots, autolocks, named, guards, triggers)

-- where nothing is wrong with a section that may be absent, it says its entries
or_empty-there : {E : Type 0} (rules : Rules E) → AreExact rules → (table : Members) → section_fault rules table ≡ None → (all : List E) × IsSectionOrEmpty rules table all
or_empty-there rules exact table none =
    let found = section-there rules exact (value_of rules table) none in
    (entries found.0, record { said = found.0; is = record { says = found.1 }; same = refl })

-- a table with nothing wrong says a configuration
pub table-there : (table : Members) → table_fault table ≡ None → (config : Config) × Says table config
table-there table none =
    let known = cons-none _ _ none in
    let clients_right = cons-none _ _ known.1 in
    let resident_right = cons-none _ _ clients_right.1 in
    let roots_right = cons-none _ _ resident_right.1 in
    let autolocks_right = cons-none _ _ roots_right.1 in
    let named_right = cons-none _ _ autolocks_right.1 in
    let guards_right = cons-none _ _ named_right.1 in
    let triggers_right = cons-none _ _ guards_right.1 in
    let clients = (setting-exact 1 most_clients (get_member (codes "clients") table)).there clients_right.0 in
    let resident = (setting-exact 4096 most_resident (get_member (codes "resident") table)).there resident_right.0 in
    let roots = section-there root_rules roots-exact (value_of root_rules table) roots_right.0 in
    let autolocks = section-there autolock_rules autolocks-exact (value_of autolock_rules table) autolocks_right.0 in
    let named = section-there named_rules named-exact (value_of named_rules table) named_right.0 in
    let guards = or_empty-there guard_rules guards-exact table guards_right.0 in
    let triggers = two-none _ _ (sym (ap (option_and_then (triggers_fault table)) clients.1) ∙ triggers_right.0) in
    let losses = or_empty-there (loss_rules clients.0) (losses-exact clients.0) table triggers.0 in
    let breaks = or_empty-there (break_rules clients.0) (breaks-exact clients.0) table triggers.1 in
    let config : Config = record {
      clients = clients.0;
      resident = resident.0;
      roots = roots.0;
      autolocks = autolocks.0;
      named = named.0;
      guards = guards.0;
      losses = losses.0;
      breaks = breaks.0;
    } in (
      config,
      record {
        known = unless-there (fault.UnknownKey top) (has_known_keys section.Top table) known.0;
        clients = clients.1;
        resident = resident.1;
        roots = record { says = roots.1 };
        autolocks = record { says = autolocks.1 };
        named = record { says = named.1 };
        guards = guards.1;
        losses = losses.1;
        breaks = breaks.1;
      },
    )

-- a section that may be absent says one list of entries
or_empty-one : {E : Type 0} (rules : Rules E) (table : Members) (all others : List E) → IsSectionOrEmpty rules table all → IsSectionOrEmpty rules table others → all ≡ others
or_empty-one rules table all others section other = section.same ∙ ap entries (section-one section.is.says other.is.says) ∙ sym other.same

-- a table says one configuration
pub says-one : (table : Members) (config other : Config) → Says table config → Says table other → config ≡ other
says-one table config other says said =
    let clients : config.clients ≡ other.clients = cc (says.clients, said.clients) in
    let resident : config.resident ≡ other.resident = cc (says.resident, said.resident) in
    let roots = section-one says.roots.says said.roots.says in
    let autolocks = section-one says.autolocks.says said.autolocks.says in
    let named = section-one says.named.says said.named.says in
    let guards = or_empty-one guard_rules table config.guards other.guards says.guards said.guards in
    let their_losses = subst (λ n. IsSectionOrEmpty (loss_rules n) table other.losses) (sym clients) said.losses in
    let their_breaks = subst (λ n. IsSectionOrEmpty (break_rules n) table other.breaks) (sym clients) said.breaks in
    let losses = or_empty-one (loss_rules config.clients) table config.losses other.losses says.losses their_losses in
    let breaks = or_empty-one (break_rules config.clients) table config.breaks other.breaks says.breaks their_breaks in
    λ i. record {
      clients = clients i;
      resident = resident i;
      roots = roots i;
      autolocks = autolocks i;
      named = named i;
      guards = guards i;
      losses = losses i;
      breaks = breaks i;
    }

-- a text is one table
toml-one : (text : List ℕ) (table other : Members) → IsToml text table → IsToml text other → table ≡ other
toml-one text table other toml also = cc (toml.reads, also.reads)

-- a text says one configuration
pub one_configuration : (text : List ℕ) (config other : Config) → IsConfigurationOf text config → IsConfigurationOf text other → config ≡ other
one_configuration text config other is also =
    let same = toml-one text also.table is.table also.toml is.toml in
    says-one is.table config other is.says (subst (λ table. Says table other) same also.says)

-- a text has one fault
pub one_fault : (text : List ℕ) (wrong other : ConfigFault) → IsFaultOf text wrong → IsFaultOf text other → wrong ≡ other
one_fault text wrong other is also = by_forms is also where
  by_forms : {wrong other : ConfigFault} → IsFaultOf text wrong → IsFaultOf text other → wrong ≡ other
  by_forms (too_long long) (too_long also) = refl
  by_forms (too_long long) (not_toml short none) = absurd (omega arith)
  by_forms (too_long long) (in_table other table short toml at) = absurd (omega arith)
  by_forms (not_toml short none) (too_long long) = absurd (omega arith)
  by_forms (not_toml short none) (not_toml too also) = refl
  by_forms (not_toml short none) (in_table other table too toml at) = absurd (none table toml)
  by_forms (in_table wrong table short toml is) (too_long long) = absurd (omega arith)
  by_forms (in_table wrong table short toml is) (not_toml too none) = absurd (none table toml)
  by_forms (in_table wrong table short toml is) (in_table other that too reads at) =
      let same = toml-one text table that toml reads in
      cc (is, at, same)

-- a text that says a configuration has no fault
pub not_both : (text : List ℕ) (config : Config) (wrong : ConfigFault) → IsConfigurationOf text config → IsFaultOf text wrong → ⊥
not_both text config wrong is has = by_form has where
  by_form : {wrong : ConfigFault} → IsFaultOf text wrong → ⊥
  by_form (too_long long) = let short = is.short in omega arith
  by_form (not_toml short none) = none is.table is.toml
  by_form (in_table wrong table short toml at) =
      let same = toml-one text is.table table is.toml toml in
      let right = table-right is.table config is.says in
      cc (at, same, right)

-- every text says a configuration or has a fault
pub some_answer : (text : List ℕ) → HasAnswer text
some_answer text = by_length (nat_le (length text) most_bytes) refl where
  by_fault : length text ≤ most_bytes → (table : Members) → IsToml text table → (found : Option ConfigFault) → table_fault table ≡ found → HasAnswer text
  by_fault short table toml None is =
      let says = table-there table is in
      inl (says.0, record { short = short; table = table; toml = toml; says = says.1 })
  by_fault short table toml (Some wrong) is = inr (wrong, in_table wrong table short toml is)

  by_reading : length text ≤ most_bytes → IsUtf8 text → (found : Option Members) → parse_document text ≡ found → HasAnswer text
  by_reading short utf8 None is = inr (fault.NotToml, not_toml short (λ table toml. cc (is, toml.reads)))
  by_reading short utf8 (Some table) is = by_fault short table (record { is_text = utf8; reads = is }) (table_fault table) refl

  by_utf8 : length text ≤ most_bytes → (test : Bool) → is_utf8 text ≡ test → HasAnswer text
  by_utf8 short true is = by_reading short (IsUtf8-from_is_utf8 text is) (parse_document text) refl
  by_utf8 short false is = inr (fault.NotToml, not_toml short (λ table toml. cc (is, is_utf8-from_IsUtf8 text toml.is_text)))

  by_length : (test : Bool) → nat_le (length text) most_bytes ≡ test → HasAnswer text
  by_length true is = by_utf8 (grind (arith, nat_tests)) (is_utf8 text) refl
  by_length false is = inr (fault.TooLong, too_long (grind (arith, nat_tests)))
