-- The names of the locks of a configuration, with and without named locks.
use Rattle.std.proofs.Common.{◌≡◌, sym, subst, ap, ◌∙◌, Option, Some, None, List, [], ◌++◌, map}
use Rattle.std.specs.Borrow.{Bor}
use Rattle.dso_config.specs.declared.config.Config.{Config}
use Rattle.dso_config.specs.declared.config.GuardEntry.{GuardEntry}
use Rattle.dso_config.specs.declared.config.NamedEntry.{NamedEntry}
use Rattle.dso_config.specs.InRange.{entries}
use Rattle.dso_config_entries.specs.ConfigEntries.{lock_mentions}
use Rattle.dso_config_entries.specs.BorrowedWords.{words_of}
use Rattle.dso_config_entries.specs.LastAndFirst.{AreFirsts, empty}
use Rattle.dso_config_entries.specs.Words.{Word}

-- the names of named locks
abbrev pub named_words : Option (List NamedEntry) → List Word
named_words named = map (λ entry. entry.name) (entries named)

-- where the section is there, and where it isn't
pub named_there : (named : Option (List NamedEntry)) (all slice : List NamedEntry) {names : List Word} → named ≡ Some all → slice ≡ all → AreFirsts (map (λ entry. entry.name) slice) names
    → AreFirsts (named_words named) names
named_there named all slice {names} is spelt firsts =
    subst (λ words. AreFirsts words names) (ap (map (λ entry. entry.name)) spelt ∙ ap named_words (sym is)) firsts

pub named_absent : (named : Option (List NamedEntry)) (names : List (Bor Word)) → named ≡ None → names ≡ [] → AreFirsts (named_words named) (words_of names)
named_absent named names is none =
    subst (λ words. AreFirsts words (words_of names)) (ap named_words (sym is)) (subst (λ names. AreFirsts {A = Word} [] (words_of names)) (sym none) empty)

-- the guards' locks behind them
pub with_guards : (config : Config) (slice : List GuardEntry) {names : List Word} → slice ≡ config.guards → AreFirsts (named_words config.named ++ map (λ entry. entry.lock) slice) names
    → AreFirsts (lock_mentions config) names
with_guards config slice {names} spelt firsts = subst (λ guards. AreFirsts (named_words config.named ++ map (λ entry. entry.lock) guards) names) spelt firsts
