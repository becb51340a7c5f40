-- What a text is resolved by: it is as it has to be, and small enough.
use Rattle.std.proofs.Common.{◌≡◌, ◌+◌, ◌<◌, ◌≤◌, ◌^◌, arith, refl, ap, ◌∙◌, subst, ℕ, min, Bool, List, length}
use Rattle.std.proofs.lemmas.List.{length-map}
use Rattle.std.specs.Borrow.{Bor}
use Rattle.dso_config.specs.declared.config.Config.{Config}
use Rattle.dso_config.specs.InRange.{IsInRange}
use Rattle.dso_syntax.specs.declared.tree.Ast.{Ast}
use Rattle.dso_syntax.specs.declared.tree.Item.{Item}
use Rattle.dso_class.specs.declared.program.Names.{Names}
use Rattle.dso_class.specs.Symbols.{AreWordsOf}
use Rattle.dso_class.specs.declared.class_item.Setting.{Setting}
use Rattle.dso_class.specs.declared.class_item.Resolved.{Resolved}
use Rattle.dso_config_entries.specs.Words.{Word, thread_word, run_word}
use Rattle.dso_config_entries.specs.LastAndFirst.{AreFirsts}
use Rattle.dso_config_entries.specs.BorrowedWords.{words_of}
use Rattle.dso_class.specs.Declarations.{all_statics}
use Rattle.dso_config_entries.specs.ConfigEntries.{lock_mentions}
use Rattle.dso_class.specs.TextProgram.{Source}
use Rattle.dso_class.specs.DeclaredNames.{AreTables}
use Rattle.dso_class.specs.TextWalk.{IsSetting, IsReady}
use Rattle.dso_class.specs.WholeProgram.{IsWhole}
use Rattle.dso_class.proofs.faultless.Text.{clean_text}
use Rattle.dso_class.proofs.soundness.Shape.{few_lock_names}

-- What was gathered for a text and its configuration: the names of locks, the tables, the words of a thread's method, and the number of roots, cut off at the most.
pub record IsGathered (config : Config) (ast : Ast) (setting : Setting) : Type 0 where
  pub of_config : config ≡ setting.config.now
  pub tables : AreTables ast setting.tables.now
  pub locks : AreFirsts (lock_mentions config) (words_of setting.locks.now)
  pub thread_class : setting.thread_class.now ≡ thread_word
  pub thread_method : setting.thread_method.now ≡ run_word
  pub roots : setting.roots ≡ min (length (all_statics ast.items)) 16

-- what was gathered step by step: the words of these items, how many roots they name, and the rest
pub gathered : (config : Config) (ast : Ast) (setting : Setting) (makes : Bool) (items : List Item) (words : Names) (count : ℕ) → config ≡ setting.config.now → items ≡ ast.items → AreWordsOf makes items words
    → count ≡ length words.roots → setting.roots ≡ min count 16 → AreTables ast setting.tables.now → AreFirsts (lock_mentions config) (words_of setting.locks.now)
    → setting.thread_class.now ≡ thread_word → setting.thread_method.now ≡ run_word → IsGathered config ast setting
gathered config ast setting makes items words count of_config same named long cut tables locks thread_class thread_method = record {
  of_config = of_config;
  tables = tables;
  locks = locks;
  thread_class = thread_class;
  thread_method = thread_method;
  roots = cut ∙ ap (λ n. min n 16) (long ∙ ap length named.roots ∙ ap (λ all. length (all_statics all)) same);
}

-- a number that is small enough is not cut off
not_cut : (n m : ℕ) → m ≡ min n 16 → n ≤ 16 → n ≡ m
not_cut n m is few = grind (arith, is, few)

-- what was gathered is the setting of the text
pub setting_of : (config : Config) (ast : Ast) (texts : List Word) (setting : Setting) → IsGathered config ast setting
    → IsSetting (record { config = config; ast = ast; locks = words_of setting.locks.now; texts = texts }) setting
setting_of config ast texts setting has = record {
  config = has.of_config;
  tables = has.tables;
  locks = refl;
  firsts = has.locks;
  roots = λ no_fault. not_cut (length (all_statics ast.items)) setting.roots has.roots (clean_text config ast no_fault).few_statics;
  thread_class = has.thread_class;
  thread_method = has.thread_method;
}

-- the locks and roots are few
pub few_names : (config : Config) (locks : List (Bor Word)) (roots count : ℕ) → IsInRange config → AreFirsts (lock_mentions config) (words_of locks) → roots ≡ min count 16 → roots + length locks < 2 ^ 32
few_names config locks roots count fits firsts is =
    let few = few_lock_names config (words_of locks) fits firsts in
    let long : length (words_of locks) ≡ length locks = length-map locks (λ word. word.now) in
    grind (arith, few, long, is)

-- it is ready for the walk
pub ready_of : (config : Config) (ast : Ast) (setting : Setting) → IsInRange config → IsGathered config ast setting → IsReady setting
ready_of config ast setting fits has = record {
  names = subst (λ one. AreFirsts (lock_mentions one) (words_of setting.locks.now)) has.of_config has.locks;
  few = few_names config setting.locks.now setting.roots (length (all_statics ast.items)) fits has.locks has.roots;
}

-- a whole text has few literals
pub few_literals : (source : Source) (resolved : Resolved) → IsWhole source resolved → length resolved.texts < 2 ^ 32
few_literals source resolved whole =
    let few = (clean_text source.config source.ast whole.no_fault).few_texts (words_of resolved.texts) whole.texts in
    let long : length (words_of resolved.texts) ≡ length resolved.texts = length-map resolved.texts (λ word. word.now) in
    omega (arith, few, long)
