-- What holds of a text without a fault in its names: what was declared differs, is not too much, and each use is fine.
use Rattle.std.proofs.Common.{◌≡◌, ◌≢◌, refl, sym, ap, ◌∙◌, subst, ℕ, suc, ◌≤◌, arith, ℤ, pos, negsuc, unsigned_abs, int_le, leb, leb-true, leb-false, Bool, true, false, if◌then◌else◌, ◌&&◌, List, [], ◌∷◌, length, flat_map, count_by, All, AllPairs}
use Rattle.std.proofs.lemmas.List.{length-map}
use Rattle.std.proofs.lemmas.List.Elements.{All-nil, All-cons, All-append}
use Rattle.dso_config.specs.declared.config.Config.{Config}
use Rattle.dso_syntax.specs.declared.tree.Ast.{Ast}
use Rattle.dso_syntax.specs.declared.tree.Ident.{Ident}
use Rattle.dso_syntax.specs.declared.tree.Item.{Item}
use Rattle.dso_syntax.specs.declared.tree.Item.TheVariants as item
use Rattle.dso_syntax.specs.declared.tree.Member.{Member}
use Rattle.dso_syntax.specs.declared.tree.Member.TheVariants as member
use Rattle.dso_syntax.specs.declared.tree.StmtTree.{StmtTree}
use Rattle.dso_class.specs.declared.fault.NameKind.TheVariants as kind
use Rattle.dso_config_entries.specs.Words.{Word}
use Rattle.dso_config_entries.specs.LastAndFirst.{AreFirsts}
use Rattle.dso_class.specs.Limits.{most_classes, most_fields, most_statics, most_methods, most_params, most_vars, most_texts, most_threads}
use Rattle.dso_class.specs.Mentions.{Mention, on, Owner, thread_owner, mentions_of, of_member, of_item, body, this}
use Rattle.dso_class.specs.Mentions as mention
use Rattle.dso_class.specs.PrecedingMentions.{in_text, class_in, field_in, static_in, method_in, parameter_in, text_in, variable_in, begins_class, begins_body, in_class, in_body}
use Rattle.dso_class.specs.Declarations.{ClassTree, MethodTree, ThreadTree, classes_of, fields_of, statics_of, methods_of, methods_from, threads_of, class_names, all_statics, all_methods}
use Rattle.dso_class.specs.Maps.{map_word}
use Rattle.dso_class.specs.NameFaults.{Breaks, this_outside, no_client, HasNoFault, IsClient}
use Rattle.dso_class.specs.FaultsAmong.{behind, IsFine, AreFine}
use Rattle.dso_class.specs.TextProgram.{method_owner, variables_of}
use Rattle.dso_class.proofs.mentions.OnlyUses.{part_begins}
use Rattle.dso_class.proofs.mentions.Fine.{fine_front, fine_rest, fine_text}
use Rattle.dso_class.proofs.faultless.Lists.{pairs_of_map, part_differs, part_few, text_differs, text_each, text_few}
use Rattle.dso_class.proofs.faultless.Rules.{class_new, class_no_map, class_room, field_new, field_room, static_new, static_room, method_new, method_room, variable_new, variable_room, parameter_room}
use Rattle.dso_class.proofs.mentions.OfClasses.{is_of_body, is_of_class, body_of_body, members_of_class, body_no_body, class_no_class}
use Rattle.dso_class.proofs.faultless.Declared.{params_mentioned, fields_mentioned, statics_mentioned, methods_mentioned, classes_mentioned, threads_mentioned, all_statics_mentioned}
use Rattle.dso_class.proofs.faultless.Counts as counts

-- the members of a class differ in their names, and are not too many
pub record IsCleanClass (class : ClassTree) : Type 0 where
  pub fields_differ : AllPairs (λ field other. field.name ≢ other.name) (fields_of class.members)
  pub few_fields : length (fields_of class.members) ≤ most_fields
  pub statics_differ : AllPairs (λ static other. static.field ≢ other.field) (statics_of class.name class.members)
  pub methods_differ : (number : ℕ) → AllPairs (λ method other. method.name ≢ other.name) (methods_of number class.name class.members)
  pub few_methods : (number : ℕ) → length (methods_of number class.name class.members) ≤ most_methods

-- the variables of a body differ, and are not too many; `this` stands in a method
pub record IsCleanBody (owner : Owner) (params : List Ident) (statements : List StmtTree) : Type 0 where
  pub variables_differ : AllPairs (λ name other. name ≢ other) (variables_of owner params statements)
  pub few_variables : length (variables_of owner params statements) ≤ most_vars
  pub few_params : length params ≤ most_params
  pub this_in_method : owner.in_thread ≡ true → All (λ mention. mention.what ≢ this) (body owner params statements)

-- the client of a thread is there, and the thread's body is clean
pub record IsCleanThread (config : Config) (tree : ThreadTree) : Type 0 where
  pub client : IsClient config tree.client
  pub statements : IsCleanBody thread_owner [] tree.statements

-- a method's body is clean
abbrev pub IsCleanMethod : MethodTree → Type 0
IsCleanMethod tree = IsCleanBody (method_owner tree) tree.params tree.statements

-- A text without a fault.
pub record IsCleanText (config : Config) (ast : Ast) : Type 0 where
  pub classes_differ : AllPairs (λ name other. name ≢ other) (class_names ast.items)
  pub few_classes : length (class_names ast.items) ≤ most_classes
  pub no_map_class : All (λ name. name ≢ map_word) (class_names ast.items)
  pub classes : All IsCleanClass (classes_of ast.items)
  pub few_statics : length (all_statics ast.items) ≤ most_statics
  pub methods : All IsCleanMethod (all_methods ast.items)
  pub threads : All (IsCleanThread config) (threads_of ast.items)
  pub few_threads : (number : ℤ) → count_by (λ tree. int_le tree.client number && int_le number tree.client) (threads_of ast.items) ≤ most_threads
  pub few_texts : (firsts : List Word) → AreFirsts (in_text text_in (mentions_of ast)) firsts → length firsts ≤ most_texts

module _ (config : Config) (ast : Ast) where
  -- mentions that break no rule are none of `this` outside of methods
  no_this : (before ms : List Mention) → AreFine config ast before ms → All (λ mention. mention.what ≢ this) ms
  no_this before [] fine = All-nil (λ mention. mention.what ≢ this)
  no_this before (m ∷ rest) fine =
      All-cons (λ mention. mention.what ≢ this) m rest (λ is. fine.0 kind.UnknownVariable (subst (λ here. Breaks config ast before here kind.UnknownVariable) (sym is) this_outside)) (no_this (m ∷ before) rest fine.1)

  -- a body that breaks no rule from its beginning on is clean
  clean_body : (owner : Owner) (params : List Ident) (statements : List StmtTree) (before : List Mention) → in_body before ≡ [] → AreFine config ast before (body owner params statements)
      → IsCleanBody owner params statements
  clean_body owner params statements before start fine =
      let ms = body owner params statements in
      let each = body_of_body owner params statements in
      record {
        variables_differ = part_differs config ast variable_in begins_body is_of_body body_no_body ms before start each fine (variable_new config ast);
        few_variables = part_few config ast variable_in begins_body is_of_body body_no_body ms before start each fine most_vars (variable_room config ast);
        few_params =
            subst (λ n. n ≤ most_params) (ap length (params_mentioned owner params statements) ∙ length-map params (λ name. name.name))
            (part_few config ast parameter_in begins_body is_of_body body_no_body ms before start each fine most_params (parameter_room config ast));
        this_in_method = λ in_thread. no_this before ms fine;
      }

  -- a class whose members break no rule from its beginning on is clean
  clean_class : (name : Word) (members : List Member) (before : List Mention) → in_class before ≡ [] → AreFine config ast before (flat_map (of_member name) members)
      → IsCleanClass (record { name = name; members = members })
  clean_class name members before start fine =
      let ms = flat_map (of_member name) members in
      let each = members_of_class name members in
      record {
        fields_differ =
            pairs_of_map (λ x y. x ≢ y) (λ one. one.name) (fields_of members) (subst (AllPairs (λ x y. x ≢ y)) (fields_mentioned name members)
            (part_differs config ast field_in begins_class is_of_class class_no_class ms before start each fine (field_new config ast)));
        few_fields =
            subst (λ n. n ≤ most_fields) (ap length (fields_mentioned name members) ∙ length-map (fields_of members) (λ one. one.name))
            (part_few config ast field_in begins_class is_of_class class_no_class ms before start each fine most_fields (field_room config ast));
        statics_differ =
            pairs_of_map (λ x y. x ≢ y) (λ one. one.field) (statics_of name members) (subst (AllPairs (λ x y. x ≢ y)) (statics_mentioned name members)
            (part_differs config ast static_in begins_class is_of_class class_no_class ms before start each fine (static_new config ast)));
        methods_differ = λ number.
            pairs_of_map (λ x y. x ≢ y) (λ one. one.name) (methods_of number name members) (subst (AllPairs (λ x y. x ≢ y)) (methods_mentioned number name members)
            (part_differs config ast method_in begins_class is_of_class class_no_class ms before start each fine (method_new config ast)));
        few_methods = λ number.
            subst (λ n. n ≤ most_methods) (ap length (methods_mentioned number name members) ∙ length-map (methods_of number name members) (λ one. one.name))
            (part_few config ast method_in begins_class is_of_class class_no_class ms before start each fine most_methods (method_room config ast));
      }

  -- the methods of a class have clean bodies
  clean_methods : (number : ℕ) (name : Word) (members : List Member) (before : List Mention) → AreFine config ast before (flat_map (of_member name) members) → All IsCleanMethod (methods_of number name members)
  clean_methods number name [] before fine = All-nil IsCleanMethod
  clean_methods number name (member.Field line kind own ∷ rest) before fine = clean_methods number name rest _ (fine_rest config ast before (of_member name (member.Field line kind own)) _ fine)
  clean_methods number name (member.Static line own ∷ rest) before fine = clean_methods number name rest _ (fine_rest config ast before (of_member name (member.Static line own)) _ fine)
  clean_methods number name (member.Method line synced own params statements ∷ rest) before fine =
      let front = if synced then on line (mention.synchronized name own.name) ∷ [] else [] in
      let inner = body (record { class = name; method = own.name; in_thread = false }) params statements in
      let here = fine_front config ast before (of_member name (member.Method line synced own params statements)) (flat_map (of_member name) rest) fine in
      let behind_front = fine_rest config ast before front (on own.line (mention.method own.name) ∷ inner) here in
      All-cons IsCleanMethod (record { number = number; class = name; synced = synced; name = own.name; params = params; statements = statements }) (methods_of number name rest)
      (clean_body (record { class = name; method = own.name; in_thread = false }) params statements (on own.line (mention.method own.name) ∷ behind before front)
      (part_begins begins_body (on own.line (mention.method own.name)) (behind before front) refl) behind_front.1)
      (clean_methods number name rest _ (fine_rest config ast before (of_member name (member.Method line synced own params statements)) (flat_map (of_member name) rest) fine))

  -- the client of a thread is there
  client_at : (client : ℕ) (some there : Bool) → leb 1 client ≡ some → leb client config.clients ≡ there → ((IsClient config (pos client) → ⊥) → ⊥) → IsClient config (pos client)
  client_at client true true some there fine = record { client = client; is = refl; from_one = leb-true 1 client some; to_last = leb-true client config.clients there }
  client_at client false there some is_there fine =
      absurd (fine (λ one. let same : client ≡ one.client = ap unsigned_abs one.is in let few = leb-false 1 client some in omega (arith, same, few, one.from_one)))
  client_at client true false some there fine =
      absurd (fine (λ one. let same : client ≡ one.client = ap unsigned_abs one.is in let many = leb-false client config.clients there in omega (arith, same, many, one.to_last)))

  client_there : (before : List Mention) (number : ℤ) → IsFine config ast before (mention.client number) → IsClient config number
  client_there before (pos client) fine = client_at client (leb 1 client) (leb client config.clients) refl refl (λ refused. fine kind.NoSuchClient (no_client refused))
  client_there before (negsuc n) fine = absurd (fine kind.NoSuchClient (no_client (λ one. cc one.is)))

  -- the classes, methods and threads of a text are clean
  record CleanItems (number : ℕ) (items : List Item) : Type 0 where
    classes : All IsCleanClass (classes_of items)
    methods : All IsCleanMethod (methods_from number (classes_of items))
    threads : All (IsCleanThread config) (threads_of items)

  clean_items : (number : ℕ) (items : List Item) (before : List Mention) → AreFine config ast before (flat_map of_item items) → CleanItems number items
  clean_items number [] before fine = record { classes = All-nil IsCleanClass; methods = All-nil IsCleanMethod; threads = All-nil (IsCleanThread config) }
  clean_items number (item.Class line name members ∷ rest) before fine =
      let ms = flat_map (of_member name.name) members in
      let here = on name.line (mention.class name.name) ∷ before in
      let inner = fine_front config ast here ms (flat_map of_item rest) fine.1 in
      let later = clean_items (suc number) rest (behind here ms) (fine_rest config ast here ms (flat_map of_item rest) fine.1) in
      record {
        classes =
            All-cons IsCleanClass (record { name = name.name; members = members }) (classes_of rest)
            (clean_class name.name members here (part_begins begins_class (on name.line (mention.class name.name)) before refl) inner) later.classes;
        methods =
            All-append IsCleanMethod (methods_of number name.name members) (methods_from (suc number) (classes_of rest)) (clean_methods number name.name members here inner) later.methods;
        threads = later.threads;
      }
  clean_items number (item.Thread line client client_line statements ∷ rest) before fine =
      let ms = body thread_owner [] statements in
      let at = on line (mention.thread client) ∷ before in
      let here = on client_line (mention.client client) ∷ at in
      let inner = fine_front config ast here ms (flat_map of_item rest) fine.1.1 in
      let later = clean_items number rest (behind here ms) (fine_rest config ast here ms (flat_map of_item rest) fine.1.1) in
      record {
        classes = later.classes;
        methods = later.methods;
        threads =
            All-cons (IsCleanThread config) (record { client = client; statements = statements }) (threads_of rest)
            (record {
              client = client_there at client fine.1.0;
              statements = clean_body thread_owner [] statements here (part_begins begins_body (on client_line (mention.client client)) at refl) inner;
            }) later.threads;
      }

-- what holds of a text without a fault
pub clean_text : (config : Config) (ast : Ast) → HasNoFault config ast → IsCleanText config ast
clean_text config ast clean =
    let ms = mentions_of ast in
    let fine = fine_text config ast clean in
    let all = clean_items config ast 0 ast.items [] fine in
    record {
      classes_differ = subst (AllPairs (λ x y. x ≢ y)) (classes_mentioned ast.items) (text_differs config ast class_in ms fine (class_new config ast));
      few_classes = subst (λ n. n ≤ most_classes) (ap length (classes_mentioned ast.items)) (text_few config ast class_in ms fine most_classes (class_room config ast));
      no_map_class = subst (All (λ name. name ≢ map_word)) (classes_mentioned ast.items) (text_each config ast class_in ms fine (λ name. name ≢ map_word) (class_no_map config ast));
      classes = all.classes;
      few_statics =
          subst (λ n. n ≤ most_statics) (ap length (all_statics_mentioned ast.items) ∙ length-map (all_statics ast.items) (λ one. one.field))
          (text_few config ast static_in ms fine most_statics (static_room config ast));
      methods = all.methods;
      threads = all.threads;
      few_threads = λ number.
          subst (λ n. n ≤ most_threads) (ap (count_by (counts.is_number number)) (threads_mentioned ast.items) ∙ counts.count_map (λ tree. tree.client) number (threads_of ast.items))
          (counts.few_threads config ast number ms fine);
      few_texts = counts.few_texts config ast clean;
    }
