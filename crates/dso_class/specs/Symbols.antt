-- The words behind a program's numbers, by the items of its text.
use Rattle.std.specs.Prelude.{◌≡◌, Bool, cond, List, [], ◌∷◌, ◌++◌, map}
use Rattle.dso_syntax.specs.declared.tree.Item.{Item}
use Rattle.dso_class.specs.declared.program.Names.{Names}
use Rattle.dso_config_entries.specs.Words.{Word}
use Rattle.dso_class.specs.Declarations.{classes_of, fields_of, class_names, all_statics}
use Rattle.dso_class.specs.Maps.{map_word}

-- the names of the fields of each class
abbrev pub field_words : List Item → List (List Word)
field_words items = map (λ class. map (λ field. field.name) (fields_of class.members)) (classes_of items)

-- the names of the classes, and behind them that of maps where maps are made
abbrev pub class_words : Bool → List Item → List Word
class_words makes items = class_names items ++ cond makes (map_word ∷ []) []

-- the words are those of the items, and where maps are made that of their class; text literals aside
pub record AreWordsOf (makes : Bool) (items : List Item) (names : Names) : Type 0 where
  pub classes : names.classes ≡ class_words makes items
  pub fields : names.fields ≡ field_words items
  pub roots : names.roots ≡ all_statics items
