-- What a text declares, as its items and the members of a class are gone through.
use Rattle.std.proofs.Common.{ℕ, ℤ, suc, ◌≡◌, ◌+◌, ◌<◌, arith, refl, sym, ◌∙◌, ap, subst, Bool, List, [], ◌∷◌, ◌++◌, map, flat_map, length, take, get_or, append_assoc, append-nil}
use Rattle.std.proofs.lemmas.List.{map-append, length-append}
use Rattle.dso_base.specs.declared.value.Kind.{Kind}
use Rattle.dso_config.specs.declared.config.RootEntry.{RootEntry}
use Rattle.dso_syntax.specs.declared.tree.Ident.{Ident}
use Rattle.dso_syntax.specs.declared.tree.Item.{Item}
use Rattle.dso_syntax.specs.declared.tree.Item.TheVariants as item
use Rattle.dso_syntax.specs.declared.tree.Member.{Member}
use Rattle.dso_syntax.specs.declared.tree.Member.TheVariants as member
use Rattle.dso_syntax.specs.declared.tree.StmtTree.{StmtTree}
use Rattle.dso_config_entries.specs.Words.{Word}
use Rattle.dso_class.specs.Declarations.{ClassTree, MethodTree, classes_of, fields_of, statics_of, methods_of, methods_from, all_statics, all_methods}
use Rattle.dso_class.specs.Gathered.{capped, named_fields, all_fields, by_name, AreMethodRows}
use Rattle.std.specs.Borrow.{Bor}
use Rattle.std.specs.BTreeMap.{BTreeMap, is_at}
use Rattle.dso_class.specs.declared.gathered_methods.Declared.{Declared}
use Rattle.dso_config_entries.specs.LastAndFirst.{AreFirsts}
use Rattle.dso_class.specs.Multimap.{row_of, longer}
use Rattle.dso_class.proofs.gathering.Multimap.{AreWithFields, with_field, with_method}
use Rattle.dso_class.proofs.gathering.ClassNames.{classes_append}
use Rattle.dso_class.proofs.lists.NumberedItems.{more}

-- the members of two lists
pub statics_append : (class : Word) (xs ys : List Member) → statics_of class (xs ++ ys) ≡ statics_of class xs ++ statics_of class ys
statics_append class [] ys = refl
statics_append class (member.Field line kind name ∷ rest) ys = statics_append class rest ys
statics_append class (member.Static line name ∷ rest) ys = ap (λ all. record { class = class; field = name.name } ∷ all) (statics_append class rest ys)
statics_append class (member.Method line synced name params statements ∷ rest) ys = statics_append class rest ys

pub fields_append : (xs ys : List Member) → fields_of (xs ++ ys) ≡ fields_of xs ++ fields_of ys
fields_append [] ys = refl
fields_append (member.Field line kind name ∷ rest) ys = ap (λ all. record { name = name.name; kind = kind } ∷ all) (fields_append rest ys)
fields_append (member.Static line name ∷ rest) ys = fields_append rest ys
fields_append (member.Method line synced name params statements ∷ rest) ys = fields_append rest ys

pub field_names_append : (xs ys : List Member) → named_fields (xs ++ ys) ≡ named_fields xs ++ named_fields ys
field_names_append xs ys = ap (map (λ field. field.name)) (fields_append xs ys) ∙ map-append (λ field. field.name) (fields_of xs) (fields_of ys)

pub methods_append : (number : ℕ) (class : Word) (xs ys : List Member) → methods_of number class (xs ++ ys) ≡ methods_of number class xs ++ methods_of number class ys
methods_append number class [] ys = refl
methods_append number class (member.Field line kind name ∷ rest) ys = methods_append number class rest ys
methods_append number class (member.Static line name ∷ rest) ys = methods_append number class rest ys
methods_append number class (member.Method line synced name params statements ∷ rest) ys =
    ap (λ all. record { number = number; class = class; synced = synced; name = name.name; params = params; statements = statements } ∷ all) (methods_append number class rest ys)

-- the static fields, the fields and the methods of two lists of classes
pub all_statics_push : (xs : List ClassTree) (x : ClassTree)
    → flat_map (λ class. statics_of class.name class.members) (xs ++ x ∷ []) ≡ flat_map (λ class. statics_of class.name class.members) xs ++ statics_of x.name x.members
all_statics_push [] x = append-nil (statics_of x.name x.members)
all_statics_push (y ∷ ys) x =
    ap (λ rest. statics_of y.name y.members ++ rest) (all_statics_push ys x)
    ∙ sym (append_assoc (statics_of y.name y.members) (flat_map (λ class. statics_of class.name class.members) ys) (statics_of x.name x.members))

pub methods_push : (number : ℕ) (xs : List ClassTree) (x : ClassTree) (last : ℕ) → last ≡ number + length xs → methods_from number (xs ++ x ∷ []) ≡ methods_from number xs ++ methods_of last x.name x.members
methods_push number [] x last is =
    let same : number ≡ last = omega arith in
    append-nil (methods_of number x.name x.members) ∙ ap (λ n. methods_of n x.name x.members) same
methods_push number (y ∷ ys) x last is =
    ap (λ rest. methods_of number y.name y.members ++ rest) (methods_push (suc number) ys x last (omega arith))
    ∙ sym (append_assoc (methods_of number y.name y.members) (methods_from (suc number) ys) (methods_of last x.name x.members))

-- the classes of a text as its items are gone through: one more class, one more thread
module _ (xs : List Item) (i : ℕ) (x : Item) (below : i < length xs) (is : x ≡ get_or xs i x) where
  pub with_class : (line : ℕ) (name : Ident) (members : List Member) → x ≡ item.Class line name members
      → classes_of (take (i + 1) xs) ≡ classes_of (take i xs) ++ record { name = name.name; members = members } ∷ []
  with_class line name members same = more classes_of classes_append xs i x (record { name = name.name; members = members } ∷ []) below is (ap (λ y. classes_of (y ∷ [])) same)

  pub with_thread : (line : ℕ) (number : ℤ) (number_line : ℕ) (statements : List StmtTree) → x ≡ item.Thread line number number_line statements
      → classes_of (take (i + 1) xs) ≡ classes_of (take i xs)
  with_thread line number number_line statements same =
      more classes_of classes_append xs i x [] below is (ap (λ y. classes_of (y ∷ [])) same) ∙ append-nil (classes_of (take i xs))

  -- what one more class has
  pub statics_with : (line : ℕ) (name : Ident) (members : List Member) → x ≡ item.Class line name members → all_statics (take (i + 1) xs) ≡ all_statics (take i xs) ++ statics_of name.name members
  statics_with line name members same =
      ap (flat_map (λ class. statics_of class.name class.members)) (with_class line name members same)
      ∙ all_statics_push (classes_of (take i xs)) (record { name = name.name; members = members })

  pub fields_with : (line : ℕ) (name : Ident) (members : List Member) → x ≡ item.Class line name members → all_fields (take (i + 1) xs) ≡ all_fields (take i xs) ++ named_fields members ∷ []
  fields_with line name members same =
      ap (map (λ class. named_fields class.members)) (with_class line name members same)
      ∙ map-append (λ class. named_fields class.members) (classes_of (take i xs)) (record { name = name.name; members = members } ∷ [])

  pub methods_with : (line : ℕ) (name : Ident) (members : List Member) → x ≡ item.Class line name members
      → all_methods (take (i + 1) xs) ≡ all_methods (take i xs) ++ methods_of (length (classes_of (take i xs))) name.name members
  methods_with line name members same =
      ap (methods_from 0) (with_class line name members same)
      ∙ methods_push 0 (classes_of (take i xs)) (record { name = name.name; members = members }) (length (classes_of (take i xs))) (omega arith)

  pub classes_with : (line : ℕ) (name : Ident) (members : List Member) → x ≡ item.Class line name members → length (classes_of (take (i + 1) xs)) ≡ length (classes_of (take i xs)) + 1
  classes_with line name members same = ap length (with_class line name members same) ∙ length-append (classes_of (take i xs)) (record { name = name.name; members = members } ∷ [])

-- the members of a class as they are gone through: one more of each sort
module _ (xs : List Member) (i : ℕ) (x : Member) (below : i < length xs) (is : x ≡ get_or xs i x) where
  pub statics_more : (class : Word) (these : List RootEntry) → statics_of class (x ∷ []) ≡ these → statics_of class (take (i + 1) xs) ≡ statics_of class (take i xs) ++ these
  statics_more class these e = more (statics_of class) (statics_append class) xs i x these below is e

  pub fields_more : (these : List Word) → named_fields (x ∷ []) ≡ these → named_fields (take (i + 1) xs) ≡ named_fields (take i xs) ++ these
  fields_more these e = more named_fields field_names_append xs i x these below is e

  pub methods_more : (number : ℕ) (class : Word) (these : List MethodTree) → methods_of number class (x ∷ []) ≡ these → methods_of number class (take (i + 1) xs) ≡ methods_of number class (take i xs) ++ these
  methods_more number class these e = more (methods_of number class) (methods_append number class) xs i x these below is e

-- the static fields behind others, as the members of a class are gone through: one more, and none
module _ (before : List RootEntry) (class : Word) (xs : List Member) (i : ℕ) (x : Member) (below : i < length xs) (is : x ≡ get_or xs i x) (names : List RootEntry) where
  pub one_static : (line : ℕ) (name : Ident) (word : Word) → x ≡ member.Static line name → word ≡ name.name
      → AreFirsts ((before ++ statics_of class (take i xs)) ++ record { class = class; field = word } ∷ []) names → AreFirsts (before ++ statics_of class (take (i + 1) xs)) names
  one_static line name word same spelt firsts =
      let one : List RootEntry = record { class = class; field = word } ∷ [] in
      let these : statics_of class (x ∷ []) ≡ one = ap (λ y. statics_of class (y ∷ [])) same ∙ ap (λ field. record { class = class; field = field } ∷ []) (sym spelt) in
      subst (λ all. AreFirsts all names)
      (append_assoc before (statics_of class (take i xs)) one ∙ ap (λ rest. before ++ rest) (sym (statics_more xs i x below is class one these))) firsts

  pub no_static : statics_of class (x ∷ []) ≡ [] → AreFirsts (before ++ statics_of class (take i xs)) names → AreFirsts (before ++ statics_of class (take (i + 1) xs)) names
  no_static none firsts =
      subst (λ all. AreFirsts (before ++ all) names) (sym (statics_more xs i x below is class [] none ∙ append-nil (statics_of class (take i xs)))) firsts

-- the fields of a class in rows, as its members are gone through: one more, and none
module _ (before : List (List Word)) (class : ℕ) (xs : List Member) (i : ℕ) (x : Member) (below : i < length xs) (is : x ≡ get_or xs i x) where
  pub one_field : (line : ℕ) (kind : Kind) (name : Ident) (word : Bor Word) (number : ℕ) (old new : BTreeMap (Bor Word) (List (ℕ × ℕ))) → x ≡ member.Field line kind name → word.now ≡ name.name
      → number ≡ length (named_fields (take i xs)) → AreWithFields before class (named_fields (take i xs)) old
      → ((other : Bor Word) → row_of by_name new other ≡ longer (is_at (by_name word) other) (row_of by_name old other) (class, number))
      → AreWithFields before class (named_fields (take (i + 1) xs)) new
  one_field line kind name word number old new same spelt counts are puts =
      let these : named_fields (x ∷ []) ≡ word.now ∷ [] = ap (λ y. named_fields (y ∷ [])) same ∙ ap (λ field. field ∷ []) (sym spelt) in
      subst (λ fields. AreWithFields before class fields new) (sym (fields_more xs i x below is (word.now ∷ []) these))
      (with_field before class (named_fields (take i xs)) old new word number counts are puts)

  pub no_field : (rows : BTreeMap (Bor Word) (List (ℕ × ℕ))) → named_fields (x ∷ []) ≡ [] → AreWithFields before class (named_fields (take i xs)) rows → AreWithFields before class (named_fields (take (i + 1) xs)) rows
  no_field rows none are = subst (λ fields. AreWithFields before class fields rows) (sym (fields_more xs i x below is [] none ∙ append-nil (named_fields (take i xs)))) are

-- how many fields there are so far
module _ (xs : List Member) (i : ℕ) (x : Member) (below : i < length xs) (is : x ≡ get_or xs i x) where
  pub count_field : (line : ℕ) (kind : Kind) (name : Ident) → x ≡ member.Field line kind name → length (named_fields (take (i + 1) xs)) ≡ length (named_fields (take i xs)) + 1
  count_field line kind name same =
      ap length (fields_more xs i x below is (name.name ∷ []) (ap (λ y. named_fields (y ∷ [])) same)) ∙ length-append (named_fields (take i xs)) (name.name ∷ [])

  pub count_no_field : named_fields (x ∷ []) ≡ [] → length (named_fields (take (i + 1) xs)) ≡ length (named_fields (take i xs))
  count_no_field none = ap length (fields_more xs i x below is [] none ∙ append-nil (named_fields (take i xs)))

-- the methods of a class in rows, as its members are gone through: one more, and none
module _ (class : ℕ) (name : Word) (xs : List Member) (i : ℕ) (x : Member) (below : i < length xs) (is : x ≡ get_or xs i x) (before : List MethodTree) where
  with_one : (line : ℕ) (synced : Bool) (ident : Ident) (params : List Ident) (statements : List StmtTree) → x ≡ member.Method line synced ident params statements
      → before ++ methods_of class name (take (i + 1) xs)
      ≡ (before ++ methods_of class name (take i xs)) ++ record { number = class; class = name; synced = synced; name = ident.name; params = params; statements = statements } ∷ []
  with_one line synced ident params statements same =
      let method : MethodTree = record { number = class; class = name; synced = synced; name = ident.name; params = params; statements = statements } in
      ap (λ rest. before ++ rest) (methods_more xs i x below is class name (method ∷ []) (ap (λ y. methods_of class name (y ∷ [])) same))
      ∙ sym (append_assoc before (methods_of class name (take i xs)) (method ∷ []))

  with_none : methods_of class name (x ∷ []) ≡ [] → before ++ methods_of class name (take (i + 1) xs) ≡ before ++ methods_of class name (take i xs)
  with_none none = ap (λ rest. before ++ rest) (methods_more xs i x below is class name [] none ∙ append-nil (methods_of class name (take i xs)))

  pub one_method : (line : ℕ) (synced : Bool) (ident : Ident) (params : List Ident) (statements : List StmtTree) (word : Bor Word) (of number count : ℕ) (old new : BTreeMap (Bor Word) (List Declared))
      → x ≡ member.Method line synced ident params statements → word.now ≡ ident.name → of ≡ capped class → number ≡ capped (length (before ++ methods_of class name (take i xs)))
      → count ≡ length params → AreMethodRows (before ++ methods_of class name (take i xs)) old
      → ((other : Bor Word) → row_of by_name new other ≡ longer (is_at (by_name word) other) (row_of by_name old other) (record { class = of; number = number; params = count }))
      → AreMethodRows (before ++ methods_of class name (take (i + 1) xs)) new
  one_method line synced ident params statements word of number count old new same spelt is_class is_number takes are puts =
      let method : MethodTree = record { number = class; class = name; synced = synced; name = ident.name; params = params; statements = statements } in
      subst (λ all. AreMethodRows all new) (sym (with_one line synced ident params statements same))
      (with_method (before ++ methods_of class name (take i xs)) old new method word of number count spelt is_class is_number takes are puts)

  pub no_method : (rows : BTreeMap (Bor Word) (List Declared)) → methods_of class name (x ∷ []) ≡ []
      → AreMethodRows (before ++ methods_of class name (take i xs)) rows → AreMethodRows (before ++ methods_of class name (take (i + 1) xs)) rows
  no_method rows none are = subst (λ all. AreMethodRows all rows) (sym (with_none none)) are

  pub number_method : (line : ℕ) (synced : Bool) (ident : Ident) (params : List Ident) (statements : List StmtTree) (number after : ℕ) → x ≡ member.Method line synced ident params statements
      → number ≡ capped (length (before ++ methods_of class name (take i xs))) → after ≡ capped (number + 1) → after ≡ capped (length (before ++ methods_of class name (take (i + 1) xs)))
  number_method line synced ident params statements number after same so_far one =
      let method : MethodTree = record { number = class; class = name; synced = synced; name = ident.name; params = params; statements = statements } in
      let longer = ap length (with_one line synced ident params statements same) ∙ length-append (before ++ methods_of class name (take i xs)) (method ∷ []) in
      omega (arith, so_far, one, longer)

  pub number_no_method : (number : ℕ) → methods_of class name (x ∷ []) ≡ [] → number ≡ capped (length (before ++ methods_of class name (take i xs)))
      → number ≡ capped (length (before ++ methods_of class name (take (i + 1) xs)))
  number_no_method number none so_far = so_far ∙ sym (ap (λ all. capped (length all)) (with_none none))
