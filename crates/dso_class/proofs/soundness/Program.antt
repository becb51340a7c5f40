-- The program of a given text and configuration is sound.
use Rattle.std.proofs.Common.{◌≡◌, ◌≢◌, ℕ, zero, suc, ◌+◌, ◌≤◌, ◌<◌, ℤ, pos, int_le, eqb, Bool, true, false, not, ◌&&◌, arith, sym, ap, ◌∙◌, subst, List, [], map, length, count_by, slice_get, option_map, Some, All, AllPairs}
use Rattle.std.specs.Prelude.{unsigned_abs}
use Rattle.std.proofs.lemmas.List.{length-append, length-map}
use Rattle.std.proofs.lemmas.List.Elements.{All-map}
use Rattle.std.proofs.lemmas.List.Sorted.{All-permutation}
use Rattle.std.proofs.lemmas.Option.{none-some, same_Some, slice_get-map}
use Rattle.dso_base.specs.declared.journal.Trigger.{Trigger}
use Rattle.dso_base.specs.declared.lock.ThreadId.{ThreadId}
use Rattle.dso_base.specs.declared.shape.ClassShape.{ClassShape}
use Rattle.dso_config.specs.declared.config.Config.{Config}
use Rattle.dso_config.specs.InRange.{IsTrigger}
use Rattle.dso_map.specs.MapClass.{map_fields, map_size}
use Rattle.dso_machine.specs.declared.code.Code.{Code}
use Rattle.dso_machine.specs.declared.code.Method.{Method}
use Rattle.dso_machine.specs.declared.code.ThreadBody.{ThreadBody}
use Rattle.dso_machine.specs.declared.tree.Stmt.{Stmt}
use Rattle.dso_machine.specs.Limits.{most_nested}
use Rattle.dso_machine.specs.Sound as machine
use Rattle.dso_machine.specs.Sound.{SoundBlock}
use Rattle.dso_syntax.specs.declared.tree.Ast.{Ast}
use Rattle.dso_syntax.specs.declared.tree.Ident.{Ident}
use Rattle.dso_syntax.specs.declared.tree.StmtTree.{StmtTree}
use Rattle.dso_syntax.specs.TextLimits.{most_levels}
use Rattle.dso_class.specs.declared.program.Names.{Names}
use Rattle.dso_class.specs.declared.program.Program.{Program}
use Rattle.dso_config_entries.specs.Words.{Word}
use Rattle.dso_class.specs.Mentions.{Owner, thread_owner, block, on, parameter, statement}
use Rattle.dso_class.specs.Declarations.{MethodTree, ThreadTree, classes_of, class_names, all_methods, threads_of}
use Rattle.dso_class.specs.Maps.{makes_map, map_shapes}
use Rattle.dso_class.specs.ValidInput.{IsValidInput}
use Rattle.dso_class.specs.TextProgram.{Source, variables_of, method_owner, AreNames, IsBody, IsClass, IsMethod, IsThread, IsCode, IsProgramOf}
use Rattle.dso_class.specs.Sound.{HasFieldNames, IsSoundProgram}
use Rattle.dso_class.proofs.faultless.Text.{IsCleanBody, IsCleanMethod, IsCleanThread, IsCleanText, clean_text}
use Rattle.dso_class.proofs.grammar.Operators.{block_fits}
use Rattle.dso_class.proofs.grammar.GoodTrees.{IsQuiet, quiet_right}
use Rattle.dso_class.proofs.grammar.Fits.{MethodFits, ThreadFits, methods_fit, threads_fit}
use Rattle.dso_class.proofs.soundness.Shape.{few_lock_names, few_methods_from, numbers_below, params_among, lock_sound, no_map, classes_sound}
use Rattle.dso_class.proofs.soundness.Numbers.{names_long, reach_long, row_of, text_long}
use Rattle.dso_class.proofs.soundness.Statements.{sound_block}
use Rattle.dso_class.proofs.thread_ids.Sound as threads
use Rattle.dso_class.proofs.thread_ids.Sound.{is_of, index_from_one, index_to_last}
use Rattle.dso_class.proofs.lists.Joined.{Stands, stands}
use Rattle.dso_class.proofs.maps.MapFields.{map_fields_long}
use Rattle.dso_class.proofs.lists.SideBySide.{zip_length, zip_back, zip_count, zip_all, all_at, all_from_places}

-- ---- clients

-- the numbers of clients are the same where the integers are
same_client : (n m : ℕ) → pos n ≡ pos m → n ≡ m
same_client n m is = ap unsigned_abs is

-- integers of clients are compared as their numbers
both_ways : (of client : ℕ) → (int_le (pos of) (pos client) && int_le (pos client) (pos of)) ≡ eqb of client
both_ways of client = grind (arith)

-- a thread is of a client where its integer is neither below nor above the client's
client_test : (number : ℤ) (client of : ℕ) → number ≡ pos of → (int_le number (pos client) && int_le (pos client) number) ≡ eqb of client
client_test number client of is = ap (λ n. int_le n (pos client) && int_le (pos client) n) is ∙ both_ways of client

module _ (config : Config) (ast : Ast) (locks texts : List Word) (code : Code) (is : IsCode (record { config = config; ast = ast; locks = locks; texts = texts }) code) (given : IsValidInput config ast) (clean : IsCleanText config ast) where
  -- the text with its configuration
  abbrev source : Source
  source = record { config = config; ast = ast; locks = locks; texts = texts }

  -- ---- bodies

  -- the statements of a body are sound
  body_sound : (owner : Owner) (params : List Ident) (trees : List StmtTree) (vars : ℕ) (statements : List Stmt) → IsBody source owner params trees vars statements → IsCleanBody owner params trees → block_fits trees most_levels ≡ true
      → SoundBlock (record { code = code; vars = vars; in_method = not owner.in_thread }) most_nested statements
  body_sound owner params trees vars statements of fine fit =
      let known = map (λ name. name.name) params in
      let quiet : IsQuiet owner (block (map (statement owner) trees) known) = quiet_right owner (map (λ name. on name.line (parameter name.name)) params) (block (map (statement owner) trees) known) (record { none = fine.this_in_method }) in
      subst (λ n. SoundBlock (record { code = code; vars = n; in_method = not owner.in_thread }) most_nested statements) (sym of.all_vars)
      (sound_block source code is (no_map source code is clean.classes) owner (variables_of owner params trees) of.grade known most_nested of.means (record { right = fit; quiet = quiet }))

  -- a body has few variables
  vars_few : (owner : Owner) (params : List Ident) (trees : List StmtTree) (vars : ℕ) (statements : List Stmt) → IsBody source owner params trees vars statements → IsCleanBody owner params trees → vars ≤ 64
  vars_few owner params trees vars statements of fine = omega (arith, of.all_vars, fine.few_variables)

  -- ---- methods

  -- the classes of the text are among those of the shape, which has one more at most
  maps_few : (makes : Bool) → length (map_shapes makes) ≤ 1
  maps_few true = omega arith
  maps_few false = omega arith

  shape_long : length code.shape.classes ≡ length (classes_of ast.items) + length (map_shapes (makes_map ast))
  shape_long = ap length is.all_classes ∙ length-append is.shapes (map_shapes (makes_map ast)) ∙ ap (λ n. n + length (map_shapes (makes_map ast))) (sym (text_long source code is))

  -- what is known of a method's tree
  record IsGivenMethod (tree : MethodTree) : Type 0 where
    pub fine : IsCleanMethod tree
    pub fit : MethodFits most_levels tree
    pub below : tree.number < length (classes_of ast.items)

  -- a method is sound where that is known of its tree
  method_sound : (tree : MethodTree) (method : Method) → IsMethod source tree method → IsGivenMethod tree → machine.IsSoundMethod code method
  method_sound tree method of has = record {
    class = omega (arith, of.of_class, has.below, shape_long);
    few_params = omega (arith, of.all_params, has.fine.few_params);
    params_first = omega (arith, of.all_params, of.statements.all_vars, params_among tree.params (block (map (statement (method_owner tree)) tree.statements) (map (λ name. name.name) tree.params)));
    few_vars = vars_few (method_owner tree) tree.params tree.statements method.vars method.body of.statements has.fine;
    lock = lock_sound source code is tree.class tree.name method.named of.lock;
    statements = body_sound (method_owner tree) tree.params tree.statements method.vars method.body of.statements has.fine has.fit;
  }

  -- it is known of each method of the text
  methods_given : All IsGivenMethod (all_methods ast.items)
  methods_given k d within = record {
    fine = clean.methods k d within;
    fit = methods_fit 0 given.grammar k d within;
    below = numbers_below 0 (classes_of ast.items) (length (classes_of ast.items)) (omega arith) k d within;
  }

  -- all methods are sound
  methods_sound : All (machine.IsSoundMethod code) code.methods
  methods_sound = zip_all (IsMethod source) IsGivenMethod (machine.IsSoundMethod code) (all_methods ast.items) code.methods method_sound is.methods methods_given

  -- ---- threads

  -- the client of a thread is one of the configuration
  client_of : (tree : ThreadTree) (thread : ThreadBody) → IsThread source tree thread → IsCleanThread config tree → (1 ≤ thread.thread.client) × (thread.thread.client ≤ config.clients)
  client_of tree thread of fine =
      let same = same_client thread.thread.client fine.client.client (sym of.of_client ∙ fine.client.is) in
      (omega (arith, same, fine.client.from_one), omega (arith, same, fine.client.to_last))

  -- a client has few threads
  few_of : (client : ℕ) → count_by (is_of client) code.bodies ≤ 16
  few_of client =
      let same = zip_count (IsThread source) (λ tree. int_le tree.client (pos client) && int_le (pos client) tree.client) (is_of client) (λ tree thread of. client_test tree.client client thread.thread.client of.of_client)
      (threads_of ast.items) code.bodies is.threads in
      let few = clean.few_threads (pos client) in
      omega (arith, same, few)

  -- a thread's body is sound
  body_at_place : (k : ℕ) (thread : ThreadBody) → slice_get code.bodies k ≡ Some thread → machine.IsSoundBody code thread
  body_at_place k thread at =
      let beside = zip_back (IsThread source) (threads_of ast.items) code.bodies k thread is.threads at in
      let tree = beside.0 in
      let of = beside.2 in
      let fine = all_at (IsCleanThread config) (threads_of ast.items) k tree clean.threads beside.1 in
      let fit = all_at (ThreadFits most_levels) (threads_of ast.items) k tree (threads_fit given.grammar) beside.1 in
      let client = client_of tree thread of fine in
      record {
        client_from_one = client.0;
        client_to_last = omega (arith, client.1, given.in_range.no_more_clients);
        index_from_one = index_from_one code.bodies is.counted k thread at;
        index_to_last = omega (arith, index_to_last code.bodies is.counted k thread at, few_of thread.thread.client);
        few_vars = vars_few thread_owner [] tree.statements thread.vars thread.body of.statements fine.statements;
        statements = body_sound thread_owner [] tree.statements thread.vars thread.body of.statements fine.statements fit;
      }

  -- all of them are
  bodies_sound : All (machine.IsSoundBody code) code.bodies
  bodies_sound = all_from_places (machine.IsSoundBody code) code.bodies body_at_place

  -- ---- the code

  -- the code is sound
  code_sound : length locks ≤ 2048 → length texts ≤ 4096 → machine.IsSoundCode code
  code_sound few_locks few_texts =
      let named : length (class_names ast.items) ≡ length (classes_of ast.items) = length-map (classes_of ast.items) (λ class. class.name) in
      record {
        few_classes = omega (arith, shape_long, maps_few (makes_map ast), named, clean.few_classes);
        few_roots = omega (arith, is.roots, clean.few_statics);
        few_locks = omega (arith, is.locks, clean.few_statics, few_locks);
        few_methods = omega (arith, few_methods_from 0 (classes_of ast.items) clean.classes, named, clean.few_classes, zip_length (IsMethod source) (all_methods ast.items) code.methods is.methods);
        few_texts = omega (arith, is.texts, few_texts);
        roots_are_locks = omega (arith, is.roots, is.locks);
        classes = classes_sound source code is clean.classes;
        methods = methods_sound;
        bodies = bodies_sound;
        threads_differ = threads.threads_differ code.bodies is.counted;
        threads_gapless = threads.threads_gapless code.bodies is.counted;
      }

  -- the clients of all threads are there
  clients_there : All (λ thread. thread.client ≤ config.clients) (machine.threads_of code)
  clients_there =
      All-map (λ (thread : ThreadId). thread.client ≤ config.clients) (λ (body : ThreadBody). body.thread) code.bodies
      (zip_all (IsThread source) (IsCleanThread config) (λ body. body.thread.client ≤ config.clients) (threads_of ast.items) code.bodies (λ tree thread of fine. (client_of tree thread of fine).1) is.threads clean.threads)

  -- a class behind those of the text is that of maps
  behind_map : (makes : Bool) (place : ℕ) (class : ClassShape) → slice_get (map_shapes makes) place ≡ Some class → length class.fields ≡ map_size
  behind_map true zero class at = ap (λ (one : ClassShape). length one.fields) (sym (same_Some (record { fields = map_fields }) class at)) ∙ map_fields_long
  behind_map true (suc place) class at = absurd (none-some class at)
  behind_map false place class at = absurd (none-some class at)

  -- the fields of a class have their words, unless it is that of maps
  fields_named : (names : Names) → AreNames source names → (number : ℕ) (class : ClassShape) → Stands is.shapes (map_shapes (makes_map ast)) number class → length class.fields ≢ map_size → HasFieldNames names number class
  fields_named names are number class (Stands.before at) differs =
      let beside = zip_back (IsClass source) (classes_of ast.items) is.shapes number class is.classes at in
      record {
        words = row_of beside.0;
        there = ap (λ rows. slice_get rows number) are.fields ∙ slice_get-map row_of (classes_of ast.items) number ∙ ap (option_map row_of) beside.1;
        each = names_long source beside.0 class beside.2;
      }
  fields_named names are number class (Stands.behind place counts at) differs = absurd (differs (behind_map (makes_map ast) place class at))

-- ---- the program

-- losses and breaks are of clients that are there, as the configuration has them
triggers_there : (clients kept : ℕ) (all same : List Trigger) → kept ≡ clients → same ≡ all → All (IsTrigger clients) all → All (IsTrigger kept) same
triggers_there clients kept all same is_kept is_same fit = subst (λ n. All (IsTrigger n) same) (sym is_kept) (subst (λ ts. All (IsTrigger clients) ts) (sym is_same) fit)

-- the program of a clean text is sound
pub sound_from_clean : (config : Config) (ast : Ast) (program : Program) → IsValidInput config ast → IsProgramOf config ast program → IsCleanText config ast → IsSoundProgram program
sound_from_clean config ast program given is clean =
    let fits = given.in_range in
    let locks = few_lock_names config is.locks fits is.locks_in_order in
    let texts = clean.few_texts is.texts is.texts_in_order in
    record {
      code = code_sound config ast is.locks is.texts program.code is.code given clean locks texts;
      some_client = subst (λ n. 1 ≤ n) (sym is.clients) fits.some_client;
      no_more_clients = subst (λ n. n ≤ 16) (sym is.clients) fits.no_more_clients;
      some_resident = subst (λ n. 1 ≤ n) (sym is.resident) fits.some_resident;
      no_more_resident = subst (λ n. n ≤ 1000000) (sym is.resident) fits.no_more_resident;
      threads = is.all_threads;
      threads_rise = is.threads_rise;
      clients_there = subst (λ n. All (λ thread. thread.client ≤ n) program.threads) (sym is.clients)
          (All-permutation (λ thread. thread.client ≤ config.clients) (machine.threads_of program.code) program.threads is.all_threads (clients_there config ast is.locks is.texts program.code is.code given clean));
      names = record {
        classes = ap length is.names.classes ∙ reach_long (source config ast is.locks is.texts program.code is.code given clean) program.code is.code;
        fields = λ number class at differs. fields_named config ast is.locks is.texts program.code is.code given clean program.names is.names number class
            (stands is.code.shapes (map_shapes (makes_map ast)) number class (ap (λ shapes. slice_get shapes number) (sym is.code.all_classes) ∙ at)) differs;
        roots = ap length is.names.roots ∙ sym is.code.roots;
        texts = ap length is.names.texts ∙ sym is.code.texts;
      };
      losses_there = triggers_there config.clients program.clients config.losses program.losses is.clients is.losses fits.losses_fit;
      breaks_there = triggers_there config.clients program.clients config.breaks program.breaks is.clients is.breaks fits.breaks_fit;
      lost_once = subst (λ all. AllPairs (λ trigger other. trigger.client ≢ other.client) all) (sym is.losses) fits.lost_once;
      breaks_differ = subst (λ all. AllPairs (λ trigger other. trigger ≢ other) all) (sym is.breaks) fits.breaks_differ;
      few_breaks = subst (λ all. length all ≤ 1024) (sym is.breaks) fits.few_breaks;
    }

-- the program of a text without a fault is sound
pub sound_program : (config : Config) (ast : Ast) (program : Program) → IsValidInput config ast → IsProgramOf config ast program → IsSoundProgram program
sound_program config ast program given is = sound_from_clean config ast program given is (clean_text config ast is.no_fault)
