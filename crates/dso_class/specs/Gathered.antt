-- What the tables of a text have: the static fields by class and name, and for each name the fields and the methods
-- of that name.
use Rattle.std.specs.Prelude.{◌≡◌, ℕ, suc, Bool, true, false, eqb, min, List, [], ◌∷◌, ◌++◌, map, length}
use Rattle.std.specs.Borrow.{Bor}
use Rattle.std.specs.declared.cmp.Ordering.{Ordering}
use Rattle.std.specs.Ordering.{is_eq, nat_cmp}
use Rattle.std.specs.Cmp.Lexicographic.{slice_cmp}
use Rattle.std.specs.BTreeMap.{BTreeMap}
use Rattle.dso_config.specs.declared.config.RootEntry.{RootEntry}
use Rattle.dso_syntax.specs.declared.tree.Item.{Item}
use Rattle.dso_syntax.specs.declared.tree.Member.{Member}
use Rattle.dso_class.specs.declared.gathered_methods.Declared.{Declared}
use Rattle.dso_config_entries.specs.Words.{Word}
use Rattle.dso_class.specs.Declarations.{MethodTree, classes_of, fields_of}
use Rattle.dso_class.specs.Multimap.{row_of}

-- the static field of a borrowed class name and field name
abbrev pub static_named : Bor Word × Bor Word → RootEntry
static_named pair = record { class = pair.0.now; field = pair.1.now }

-- the static fields of such pairs
abbrev pub statics_named : List (Bor Word × Bor Word) → List RootEntry
statics_named pairs = map static_named pairs

-- the order of borrowed names
abbrev pub by_name : Bor Word → Bor Word → Ordering
by_name x y = slice_cmp nat_cmp x.now y.now

-- whether two names are one
abbrev pub is_name : Word → Word → Bool
is_name word name = is_eq (slice_cmp nat_cmp word name)

-- a value where the test holds
abbrev pub only : {A : Type 0} → Bool → A → List A
only true value = value ∷ []
only false value = []

-- what f gives of each item and its number, where the first item has this number
abbrev pub each_at : {A B : Type 0} → (ℕ → A → List B) → ℕ → List A → List B
each_at f number [] = []
each_at f number (item ∷ rest) = f number item ++ each_at f (suc number) rest

-- a number as far as 32 bits have it: the last of them for one past them
abbrev pub capped : ℕ → ℕ
capped number = min number 4294967295

-- both numbers of a pair so
abbrev pub capped_pair : ℕ × ℕ → ℕ × ℕ
capped_pair pair = (capped pair.0, capped pair.1)

-- the names of the fields of a class, by its members
abbrev pub named_fields : List Member → List Word
named_fields members = map (λ field. field.name) (fields_of members)

-- the names of the fields of each class
abbrev pub all_fields : List Item → List (List Word)
all_fields items = map (λ class. named_fields class.members) (classes_of items)

-- the place of a field of this class and number, where it has the name
abbrev pub place_at : Word → ℕ → ℕ → Word → List (ℕ × ℕ)
place_at name class number field = only (is_name field name) (class, number)

-- where the fields of a class of this number have the name
abbrev pub places_in : Word → ℕ → List Word → List (ℕ × ℕ)
places_in name class fields = each_at (place_at name class) 0 fields

-- where the fields of all classes have the name
abbrev pub places_of : List (List Word) → Word → List (ℕ × ℕ)
places_of fields name = each_at (places_in name) 0 fields

-- a method of this number, where it has the name: its class and its number, as far as 32 bits have them, and how many
-- parameters it has
abbrev pub declared_at : Word → ℕ → MethodTree → List Declared
declared_at name number method =
    only (is_name method.name name)
    (record { class = capped method.number; number = capped number; params = length method.params })

-- the methods that have the name
abbrev pub declared_of : List MethodTree → Word → List Declared
declared_of methods name = each_at (declared_at name) 0 methods

-- the rows have the places of the fields of each name
pub record AreFieldRows (fields : List (List Word)) (rows : BTreeMap (Bor Word) (List (ℕ × ℕ))) : Type 0 where
  pub places : (name : Bor Word) → row_of by_name rows name ≡ places_of fields name.now

-- the rows have the methods of each name
pub record AreMethodRows (methods : List MethodTree) (rows : BTreeMap (Bor Word) (List Declared)) : Type 0 where
  pub all : (name : Bor Word) → row_of by_name rows name ≡ declared_of methods name.now

-- the class and the number of a method that takes so many arguments
abbrev pub callee_at : ℕ → ℕ → Declared → List (ℕ × ℕ)
callee_at count place declared = only (eqb declared.params count) (declared.class, declared.number)

-- the methods of a row that take so many arguments
abbrev pub callees_of : ℕ → List Declared → List (ℕ × ℕ)
callees_of count row = each_at (callee_at count) 0 row
