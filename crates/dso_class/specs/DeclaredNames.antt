-- The tables of what a text declares.
use Rattle.std.specs.Prelude.{◌≡◌}
use Rattle.dso_syntax.specs.declared.tree.Ast.{Ast}
use Rattle.dso_class.specs.declared.tables.DeclaredNames.{DeclaredNames}
use Rattle.dso_class.specs.Declarations.{class_names, all_statics}
use Rattle.dso_class.specs.Maps.{makes_map, reachable_methods}
use Rattle.dso_class.specs.Gathered.{statics_named, all_fields, AreFieldRows, AreMethodRows}
use Rattle.dso_config_entries.specs.BorrowedWords.{words_of}
use Rattle.dso_config_entries.specs.LastAndFirst.{AreFirsts}

-- the tables are those of the text
pub record AreTables (ast : Ast) (tables : DeclaredNames) : Type 0 where
  pub classes : AreFirsts (class_names ast.items) (words_of tables.classes)
  pub statics : AreFirsts (all_statics ast.items) (statics_named tables.statics)
  pub fields : AreFieldRows (all_fields ast.items) tables.fields
  pub methods : AreMethodRows (reachable_methods ast) tables.methods
  pub makes : tables.makes_map ≡ makes_map ast
