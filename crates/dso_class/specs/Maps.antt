-- Clustered maps in a text. Their class is declared by no text: it is there where the text makes an object of it.
use Rattle.std.specs.Prelude.{ℕ, Bool, false, cond, List, [], ◌∷◌, ◌++◌, length, codes}
use Rattle.std.specs.List.{list_any}
use Rattle.std.specs.Str.{bytes_eq}
use Rattle.dso_base.specs.declared.shape.ClassShape.{ClassShape}
use Rattle.dso_map.specs.MapClass.{map_fields}
use Rattle.dso_syntax.specs.declared.tree.Ast.{Ast}
use Rattle.dso_syntax.specs.declared.tree.Ident.{Ident}
use Rattle.dso_config_entries.specs.Words.{Word}
use Rattle.dso_class.specs.Mentions.{Mention, Mentioned, mentions_of, new}
use Rattle.dso_class.specs.Declarations.{MethodTree, class_names, all_methods}

-- the name of the class of maps
abbrev pub map_word : Word
map_word = codes "DsoMap"

-- what is mentioned is the class of a new map
abbrev pub is_new_map : Mentioned → Bool
is_new_map (new name) = bytes_eq name map_word
is_new_map other = false

-- whether a map is made somewhere among these mentions
abbrev pub make_map : List Mention → Bool
make_map mentions = list_any (λ mention. is_new_map mention.what) mentions

-- whether the text makes a map somewhere
abbrev pub makes_map : Ast → Bool
makes_map ast = make_map (mentions_of ast)

-- a parameter of a method of maps
abbrev pub map_parameter : Word → Ident
map_parameter name = record { line = 0; name = name }

-- a method of maps, whose class has this number
abbrev pub map_method : ℕ → Word → List Ident → MethodTree
map_method number name params = record {
  number = number;
  class = map_word;
  synced = false;
  name = name;
  params = params;
  statements = [];
}

-- the methods of maps, in the order of their places
abbrev pub map_methods : ℕ → List MethodTree
map_methods number =
    map_method number (codes "get") (map_parameter (codes "k") ∷ [])
    ∷ map_method number (codes "has") (map_parameter (codes "k") ∷ [])
    ∷ map_method number (codes "size") []
    ∷ map_method number (codes "put") (map_parameter (codes "k") ∷ map_parameter (codes "v") ∷ [])
    ∷ map_method number (codes "remove") (map_parameter (codes "k") ∷ [])
    ∷ []

-- The names of the classes that a new object may be of: those of the text, and behind them that of maps, where the text
-- makes a map.
abbrev pub reachable_classes : Ast → List Word
reachable_classes ast = class_names ast.items ++ cond (makes_map ast) (map_word ∷ []) []

-- The methods that a call may reach: those of the text, and behind them those of maps, where the text makes a map.
abbrev pub reachable_methods : Ast → List MethodTree
reachable_methods ast =
    all_methods ast.items ++ cond (makes_map ast) (map_methods (length (class_names ast.items))) []

-- the class of maps in the shape, where maps are made
abbrev pub map_shapes : Bool → List ClassShape
map_shapes makes = cond makes (record { fields = map_fields } ∷ []) []
