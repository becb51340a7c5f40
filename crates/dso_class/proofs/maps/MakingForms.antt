-- Whether an expression makes a map, form by form.
use Rattle.std.proofs.Common.{◌≡◌, sym, ap, ◌∙◌, Bool, ◌||◌, List, ◌∷◌, map, length, None}
use Rattle.dso_base.specs.declared.op.Op.{Op}
use Rattle.dso_base.specs.declared.value.Kind.{Kind}
use Rattle.dso_syntax.specs.declared.tree.Ident.{Ident}
use Rattle.dso_syntax.specs.declared.tree.ExprTree.{ExprTree, out-ExprTree}
use Rattle.dso_syntax.specs.declared.tree.ExprForm.TheVariants as e
use Rattle.dso_config_entries.specs.Words.{Word}
use Rattle.dso_class.specs.Maps.{make_map}
use Rattle.dso_class.specs.Mentions.{Owner, Part, all_of, call, expression, on, qualifier_mentions, receiver_mentions}
use Rattle.dso_class.proofs.maps.Making.{of_two}
use Rattle.dso_class.proofs.mentions.OfExpressions.{at_paren, at_new_array, at_field, at_call, at_elem, at_unary, at_binary}

module _ (owner : Owner) (tree : ExprTree) (known : List Word) where
  -- by the part that it is
  by_part : (part : Part) (makes : Bool) → expression owner tree ≡ part → makes ≡ make_map (part.mentions known) → makes ≡ make_map ((expression owner tree).mentions known)
  by_part part makes is tells = tells ∙ ap (λ part. make_map (part.mentions known)) (sym is)

  -- what stands round an expression makes one where that does
  pub paren_makes : (a inner : ExprTree) (makes : Bool) → (out-ExprTree tree).form ≡ e.Paren a → inner ≡ a → makes ≡ make_map ((expression owner inner).mentions known)
      → makes ≡ make_map ((expression owner tree).mentions known)
  paren_makes a inner makes form same tells = by_part _ makes (at_paren owner tree a form) (tells ∙ ap (λ one. make_map ((expression owner one).mentions known)) same)

  pub array_makes : (kind : Kind) (a inner : ExprTree) (makes : Bool) → (out-ExprTree tree).form ≡ e.NewArray kind a → inner ≡ a → makes ≡ make_map ((expression owner inner).mentions known)
      → makes ≡ make_map ((expression owner tree).mentions known)
  array_makes kind a inner makes form same tells = by_part _ makes (at_new_array owner tree kind a form) (tells ∙ ap (λ one. make_map ((expression owner one).mentions known)) same)

  pub unary_makes : (op : Op) (a inner : ExprTree) (makes : Bool) → (out-ExprTree tree).form ≡ e.Unary op a → inner ≡ a → makes ≡ make_map ((expression owner inner).mentions known)
      → makes ≡ make_map ((expression owner tree).mentions known)
  unary_makes op a inner makes form same tells = by_part _ makes (at_unary owner tree op a form) (tells ∙ ap (λ one. make_map ((expression owner one).mentions known)) same)

  pub field_makes : (a inner : ExprTree) (name : Ident) (makes : Bool) → (out-ExprTree tree).form ≡ e.Field a name → inner ≡ a
      → makes ≡ make_map (qualifier_mentions (expression owner inner).bare (expression owner inner).mentions name.name known) → makes ≡ make_map ((expression owner tree).mentions known)
  field_makes a inner name makes form same tells =
      by_part _ makes (at_field owner tree a name form) (tells ∙ ap (λ one. make_map (qualifier_mentions (expression owner one).bare (expression owner one).mentions name.name known)) same)

  -- two expressions make one where one of them does
  pub element_makes : (a c inner other : ExprTree) (makes more : Bool) → (out-ExprTree tree).form ≡ e.Elem a c → inner ≡ a → other ≡ c → makes ≡ make_map ((expression owner inner).mentions known)
      → more ≡ make_map ((expression owner other).mentions known) → (makes || more) ≡ make_map ((expression owner tree).mentions known)
  element_makes a c inner other makes more form same too tells says =
      by_part _ (makes || more) (at_elem owner tree a c form)
      (of_two ((expression owner a).mentions known) ((expression owner c).mentions known) makes more (tells ∙ ap (λ one. make_map ((expression owner one).mentions known)) same)
      (says ∙ ap (λ one. make_map ((expression owner one).mentions known)) too))

  pub binary_makes : (op : Op) (a c inner other : ExprTree) (makes more : Bool) → (out-ExprTree tree).form ≡ e.Binary op a c → inner ≡ a → other ≡ c → makes ≡ make_map ((expression owner inner).mentions known)
      → more ≡ make_map ((expression owner other).mentions known) → (makes || more) ≡ make_map ((expression owner tree).mentions known)
  binary_makes op a c inner other makes more form same too tells says =
      by_part _ (makes || more) (at_binary owner tree op a c form)
      (of_two ((expression owner a).mentions known) ((expression owner c).mentions known) makes more (tells ∙ ap (λ one. make_map ((expression owner one).mentions known)) same)
      (says ∙ ap (λ one. make_map ((expression owner one).mentions known)) too))

  -- so do an object and the arguments of a call on it
  pub call_makes : (a inner : ExprTree) (name : Ident) (args slice : List ExprTree) (makes more : Bool) → (out-ExprTree tree).form ≡ e.Call a name args → inner ≡ a → slice ≡ args
      → makes ≡ make_map (receiver_mentions (expression owner inner).bare (expression owner inner).mentions known) → more ≡ make_map (all_of (map (expression owner) slice) known)
      → (makes || more) ≡ make_map ((expression owner tree).mentions known)
  call_makes a inner name args slice makes more form same too tells says =
      by_part _ (makes || more) (at_call owner tree a name args form)
      (of_two (receiver_mentions (expression owner a).bare (expression owner a).mentions known) (on name.line (call name.name (length (map (expression owner) args))) ∷ all_of (map (expression owner) args) known) makes more
      (tells ∙ ap (λ one. make_map (receiver_mentions (expression owner one).bare (expression owner one).mentions known)) same) (says ∙ ap (λ all. make_map (all_of (map (expression owner) all) known)) too))

  -- another expression does before a dot what it does elsewhere
  pub plain_field : (name : Word) (makes : Bool) → (expression owner tree).bare ≡ None → makes ≡ make_map ((expression owner tree).mentions known)
      → makes ≡ make_map (qualifier_mentions (expression owner tree).bare (expression owner tree).mentions name known)
  plain_field name makes plain tells = tells ∙ ap (λ bare. make_map (qualifier_mentions bare (expression owner tree).mentions name known)) (sym plain)

  pub plain_object : (makes : Bool) → (expression owner tree).bare ≡ None → makes ≡ make_map ((expression owner tree).mentions known)
      → makes ≡ make_map (receiver_mentions (expression owner tree).bare (expression owner tree).mentions known)
  plain_object makes plain tells = tells ∙ ap (λ bare. make_map (receiver_mentions bare (expression owner tree).mentions known)) (sym plain)
