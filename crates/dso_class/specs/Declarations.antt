-- What a program text declares, each in the order of the text.
use Rattle.std.specs.Prelude.{ℕ, suc, ℤ, Bool, List, [], ◌∷◌, ◌++◌, map, flat_map}
use Rattle.dso_base.specs.declared.value.Kind.{Kind}
use Rattle.dso_config.specs.declared.config.RootEntry.{RootEntry}
use Rattle.dso_syntax.specs.declared.tree.Ident.{Ident}
use Rattle.dso_syntax.specs.declared.tree.Item.{Item}
use Rattle.dso_syntax.specs.declared.tree.Item.TheVariants as item
use Rattle.dso_syntax.specs.declared.tree.Member.{Member}
use Rattle.dso_syntax.specs.declared.tree.Member.TheVariants as member
use Rattle.dso_syntax.specs.declared.tree.StmtTree.{StmtTree}
use Rattle.dso_config_entries.specs.Words.{Word}

-- a class with its members
pub record ClassTree : Type 0 where
  pub name : Word
  pub members : List Member

-- a field with its kind
pub record FieldTree : Type 0 where
  pub name : Word
  pub kind : Kind

-- a method of the class of this number and name
pub record MethodTree : Type 0 where
  pub number : ℕ
  pub class : Word
  pub synced : Bool
  pub name : Word
  pub params : List Ident
  pub statements : List StmtTree

-- a thread of the client of this number
pub record ThreadTree : Type 0 where
  pub client : ℤ
  pub statements : List StmtTree

-- the classes
abbrev pub classes_of : List Item → List ClassTree
classes_of [] = []
classes_of (item.Class line name members ∷ rest) = record { name = name.name; members = members } ∷ classes_of rest
classes_of (item.Thread line number number_line statements ∷ rest) = classes_of rest

-- the threads
abbrev pub threads_of : List Item → List ThreadTree
threads_of [] = []
threads_of (item.Class line name members ∷ rest) = threads_of rest
threads_of (item.Thread line number number_line statements ∷ rest) =
    record { client = number; statements = statements } ∷ threads_of rest

-- the fields of a class, by its members
abbrev pub fields_of : List Member → List FieldTree
fields_of [] = []
fields_of (member.Field line kind name ∷ rest) = record { name = name.name; kind = kind } ∷ fields_of rest
fields_of (member.Static line name ∷ rest) = fields_of rest
fields_of (member.Method line synced name params statements ∷ rest) = fields_of rest

-- the static fields of a class, by its name and members
abbrev pub statics_of : Word → List Member → List RootEntry
statics_of class [] = []
statics_of class (member.Field line kind name ∷ rest) = statics_of class rest
statics_of class (member.Static line name ∷ rest) = record { class = class; field = name.name } ∷ statics_of class rest
statics_of class (member.Method line synced name params statements ∷ rest) = statics_of class rest

-- the methods of a class, by its number, name and members
abbrev pub methods_of : ℕ → Word → List Member → List MethodTree
methods_of number class [] = []
methods_of number class (member.Field line kind name ∷ rest) = methods_of number class rest
methods_of number class (member.Static line name ∷ rest) = methods_of number class rest
methods_of number class (member.Method line synced name params statements ∷ rest) =
    record {
      number = number;
      class = class;
      synced = synced;
      name = name.name;
      params = params;
      statements = statements;
    } ∷ methods_of number class rest

-- the methods of classes, of which the first has this number
abbrev pub methods_from : ℕ → List ClassTree → List MethodTree
methods_from number [] = []
methods_from number (class ∷ rest) = methods_of number class.name class.members ++ methods_from (suc number) rest

-- the names of all classes
abbrev pub class_names : List Item → List Word
class_names items = map (λ class. class.name) (classes_of items)

-- the static fields of all classes
abbrev pub all_statics : List Item → List RootEntry
all_statics items = flat_map (λ class. statics_of class.name class.members) (classes_of items)

-- the methods of all classes
abbrev pub all_methods : List Item → List MethodTree
all_methods items = methods_from 0 (classes_of items)
