-- Whether mentions make a map: part by part of what expressions, statements, classes and threads mention.
use Rattle.std.proofs.Common.{◌≡◌, refl, sym, ap, ap₂, ◌∙◌, ℕ, ℤ, ◌+◌, ◌<◌, Bool, true, false, ◌||◌, if◌then◌else◌, List, [], ◌∷◌, ◌++◌, map, flat_map, take, get_or, length}
use Rattle.std.proofs.lemmas.List.Folds.{list_any-append}
use Rattle.dso_base.specs.declared.value.Kind.{Kind}
use Rattle.dso_syntax.specs.declared.tree.Ident.{Ident}
use Rattle.dso_syntax.specs.declared.tree.ExprTree.{ExprTree}
use Rattle.dso_syntax.specs.declared.tree.StmtTree.{StmtTree}
use Rattle.dso_syntax.specs.declared.tree.Item.{Item}
use Rattle.dso_syntax.specs.declared.tree.Item.TheVariants as item
use Rattle.dso_syntax.specs.declared.tree.Member.{Member}
use Rattle.dso_syntax.specs.declared.tree.Member.TheVariants as member
use Rattle.dso_config_entries.specs.Words.{Word}
use Rattle.dso_class.specs.Maps.{is_new_map, make_map}
use Rattle.dso_class.specs.Mentions.{Mention, Owner, expression, statement, block, body, all_of, of_member, of_item, on, method, parameter, synchronized, thread_owner}
use Rattle.dso_class.specs.StatementWalk.{known_after}
use Rattle.dso_class.proofs.walks.Arguments as arguments
use Rattle.dso_class.proofs.walks.Blocks as blocks
use Rattle.dso_class.proofs.walks.Items.{mentions_more}

-- a test and none
pub or_no : (b : Bool) → (b || false) ≡ b
or_no true = refl
or_no false = refl

-- mentions and others behind them
pub both_make : (xs ys : List Mention) → make_map (xs ++ ys) ≡ (make_map xs || make_map ys)
both_make xs ys = list_any-append (λ mention. is_new_map mention.what) xs ys

-- mentions in two parts make a map where one of the parts does
pub of_two : (xs ys : List Mention) (one other : Bool) → one ≡ make_map xs → other ≡ make_map ys → (one || other) ≡ make_map (xs ++ ys)
of_two xs ys one other is too = ap₂ (λ a b. a || b) is too ∙ sym (both_make xs ys)

-- and in three parts
or_right : (a b c : Bool) → ((a || b) || c) ≡ (a || (b || c))
or_right true b c = refl
or_right false b c = refl

pub of_three : (xs ys zs : List Mention) (one other last : Bool) → one ≡ make_map xs → other ≡ make_map ys → last ≡ make_map zs → ((one || other) || last) ≡ make_map (xs ++ (ys ++ zs))
of_three xs ys zs one other last is too ends = or_right one other last ∙ of_two xs (ys ++ zs) one (other || last) is (of_two ys zs other last too ends)

-- the first expressions and one more
pub more_expressions : (owner : Owner) (trees : List ExprTree) (i : ℕ) (tree : ExprTree) (known : List Word) (so_far one : Bool) → i < length trees → tree ≡ get_or trees i tree
    → so_far ≡ make_map (all_of (map (expression owner) (take i trees)) known) → one ≡ make_map ((expression owner tree).mentions known)
    → (so_far || one) ≡ make_map (all_of (map (expression owner) (take (i + 1) trees)) known)
more_expressions owner trees i tree known so_far one below is before here =
    of_two (all_of (map (expression owner) (take i trees)) known) ((expression owner tree).mentions known) so_far one before here
    ∙ ap make_map (sym (arguments.one_more owner trees i tree known below is))

-- the first statements and one more
pub more_statements : (owner : Owner) (trees : List StmtTree) (i : ℕ) (tree : StmtTree) (known : List Word) (so_far one : Bool) → i < length trees → tree ≡ get_or trees i tree
    → so_far ≡ make_map (block (map (statement owner) (take i trees)) known) → ((names : List Word) → one ≡ make_map ((statement owner tree).mentions names))
    → (so_far || one) ≡ make_map (block (map (statement owner) (take (i + 1) trees)) known)
more_statements owner trees i tree known so_far one below is before here =
    let names = known_after (map (statement owner) (take i trees)) known in
    of_two (block (map (statement owner) (take i trees)) known) ((statement owner tree).mentions names) so_far one before (here names)
    ∙ ap make_map (sym (blocks.one_more owner trees i tree known below is))

-- what the first items mention and what one more does
pub more_items : {A : Type 0} (f : A → List Mention) (xs : List A) (i : ℕ) (x : A) (so_far one : Bool) → i < length xs → x ≡ get_or xs i x
    → so_far ≡ make_map (flat_map f (take i xs)) → one ≡ make_map (f x) → (so_far || one) ≡ make_map (flat_map f (take (i + 1) xs))
more_items f xs i x so_far one below is before here =
    of_two (flat_map f (take i xs)) (f x) so_far one before here ∙ ap make_map (sym (mentions_more f xs i x below is))

-- parameters make none
params_make : (params : List Ident) (rest : List Mention) → make_map (map (λ name. on name.line (parameter name.name)) params ++ rest) ≡ make_map rest
params_make [] rest = refl
params_make (name ∷ others) rest = params_make others rest

-- a body makes one where its statements do
pub body_makes : (owner : Owner) (params : List Ident) (statements : List StmtTree) → make_map (body owner params statements) ≡ make_map (block (map (statement owner) statements) (map (λ name. name.name) params))
body_makes owner params statements = params_make params (block (map (statement owner) statements) (map (λ name. name.name) params))

-- the word `synchronized` makes none
synced_makes : (synced : Bool) (line : ℕ) (class name : Word) (rest : List Mention) → make_map ((if synced then on line (synchronized class name) ∷ [] else []) ++ rest) ≡ make_map rest
synced_makes true line class name rest = refl
synced_makes false line class name rest = refl

-- a block makes one where its slice does
pub block_makes : (owner : Owner) (slice trees : List StmtTree) (known : List Word) (one : Bool) → slice ≡ trees → one ≡ make_map (block (map (statement owner) slice) known) → one ≡ make_map (block (map (statement owner) trees) known)
block_makes owner slice trees known one same is = is ∙ ap (λ all. make_map (block (map (statement owner) all) known)) same

-- ---- members, classes and threads

-- a method makes one where its statements do
method_makes : (class : Word) (line : ℕ) (synced : Bool) (name : Ident) (params : List Ident) (statements : List StmtTree) (one : Bool)
    → ((owner : Owner) (known : List Word) → one ≡ make_map (block (map (statement owner) statements) known)) → one ≡ make_map (of_member class (member.Method line synced name params statements))
method_makes class line synced name params statements one is =
    let owner : Owner = record { class = class; method = name.name; in_thread = false } in
    is owner (map (λ name. name.name) params) ∙ sym (body_makes owner params statements)
    ∙ sym (synced_makes synced line class name.name (on name.line (method name.name) ∷ body owner params statements))

-- a test and none
no_more : (b : Bool) → b ≡ (b || false)
no_more b = sym (or_no b)

-- the members of a class so far, and one more
module _ (class : Word) (members : List Member) (i : ℕ) (one : Member) (so_far : Bool) where
  pub method_there : (more : Bool) (line : ℕ) (synced : Bool) (name : Ident) (params : List Ident) (statements slice : List StmtTree) → i < length members → one ≡ get_or members i one
      → so_far ≡ make_map (flat_map (of_member class) (take i members)) → one ≡ member.Method line synced name params statements → slice ≡ statements
      → ((owner : Owner) (known : List Word) → more ≡ make_map (block (map (statement owner) slice) known)) → (so_far || more) ≡ make_map (flat_map (of_member class) (take (i + 1) members))
  method_there more line synced name params statements slice below is before form same makes =
      more_items (of_member class) members i one so_far more below is before
      (method_makes class line synced name params statements more (λ owner known. block_makes owner slice statements known more same (makes owner known)) ∙ ap (λ member. make_map (of_member class member)) (sym form))

  pub field_there : (line : ℕ) (kind : Kind) (name : Ident) → i < length members → one ≡ get_or members i one → so_far ≡ make_map (flat_map (of_member class) (take i members)) → one ≡ member.Field line kind name
      → so_far ≡ make_map (flat_map (of_member class) (take (i + 1) members))
  field_there line kind name below is before form = no_more so_far ∙ more_items (of_member class) members i one so_far false below is before (ap (λ member. make_map (of_member class member)) (sym form))

  pub static_there : (line : ℕ) (name : Ident) → i < length members → one ≡ get_or members i one → so_far ≡ make_map (flat_map (of_member class) (take i members)) → one ≡ member.Static line name
      → so_far ≡ make_map (flat_map (of_member class) (take (i + 1) members))
  static_there line name below is before form = no_more so_far ∙ more_items (of_member class) members i one so_far false below is before (ap (λ member. make_map (of_member class member)) (sym form))

-- the classes and threads so far, and one more
module _ (items : List Item) (i : ℕ) (one : Item) (so_far : Bool) where
  pub class_there : (more : Bool) (line : ℕ) (name : Ident) (members slice : List Member) → i < length items → one ≡ get_or items i one → so_far ≡ make_map (flat_map of_item (take i items))
      → one ≡ item.Class line name members → slice ≡ members → ((class : Word) → more ≡ make_map (flat_map (of_member class) slice)) → (so_far || more) ≡ make_map (flat_map of_item (take (i + 1) items))
  class_there more line name members slice below is before form same makes =
      more_items of_item items i one so_far more below is before
      (makes name.name ∙ ap (λ all. make_map (flat_map (of_member name.name) all)) same ∙ ap (λ item. make_map (of_item item)) (sym form))

  pub thread_there : (more : Bool) (line : ℕ) (number : ℤ) (number_line : ℕ) (statements slice : List StmtTree) → i < length items → one ≡ get_or items i one → so_far ≡ make_map (flat_map of_item (take i items))
      → one ≡ item.Thread line number number_line statements → slice ≡ statements → ((owner : Owner) (known : List Word) → more ≡ make_map (block (map (statement owner) slice) known))
      → (so_far || more) ≡ make_map (flat_map of_item (take (i + 1) items))
  thread_there more line number number_line statements slice below is before form same makes =
      more_items of_item items i one so_far more below is before
      (block_makes thread_owner slice statements [] more same (makes thread_owner []) ∙ ap (λ item. make_map (of_item item)) (sym form))
