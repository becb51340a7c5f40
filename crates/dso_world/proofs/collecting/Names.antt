-- What a client names is what its call tells, with what its connection has left to be taken.
use Rattle.std.specs.List.{list_any}
use Rattle.std.proofs.Common.{ℕ, zero, suc, ◌≡◌, refl, sym, ◌∙◌, ap, Bool, true, false, cond, eqb, ◌&&◌, ◌||◌, List, [], ◌∷◌, ◌++◌, drop, filter, map}
use Rattle.std.proofs.lemmas.Bool.{eqb-true}
use Rattle.std.proofs.lemmas.List.Folds.{list_any-append}
use Rattle.dso_base.specs.declared.both.Both.{Both}
use Rattle.dso_base.specs.declared.both.Both.TheVariants as both
use Rattle.dso_base.specs.declared.journal.Entry.{Entry}
use Rattle.dso_base.specs.declared.journal.Node.TheVariants as node
use Rattle.dso_base.specs.declared.lock.ThreadId.{ThreadId}
use Rattle.dso_base.specs.declared.message.Down.{Down}
use Rattle.dso_base.specs.declared.message.Up.{Up}
use Rattle.dso_base.specs.Naming.{down_names, up_names}
use Rattle.dso_class.specs.declared.program.Program.{Program}
use Rattle.dso_client.specs.NamedObjects.{TellsEdges, TellsNamed}
use Rattle.dso_law.specs.Channels.{Letter, down_in_flight, to_client, to_server, up_in_flight}
use Rattle.dso_law.specs.Entries.{entries_of}
use Rattle.dso_law.specs.Settings.{threads_of}
use Rattle.dso_legal.specs.Agreement.{messages}
use Rattle.dso_legal.specs.Collection.{is_in_flight, thread_holds, thread_names}
use Rattle.dso_machine.specs.Frames.{frames_after}
use Rattle.dso_machine.specs.Next.{next_request}
use Rattle.dso_session.specs.declared.session.Posted.{Posted}
use Rattle.dso_session.specs.Ends.{left_behind}
use Rattle.dso_session.proofs.Left.{left_was_sent}
use Rattle.dso_txn.specs.NamedInHand.{AddsNamed}
use Rattle.dso_lookup.specs.Search.{has_edge, is_listed}
use Rattle.dso_world.specs.declared.client_node.ClientNode.{ClientNode}
use Rattle.dso_world.specs.Collections.{IsLawfulOf, copy_names, names_then, posts_name}
use Rattle.dso_world.specs.Link.{Line}
use Rattle.dso_world.specs.LinkStands.{Course, LinkStands}
use Rattle.dso_world.specs.PastOf.{AreLeft, course_of, letters_posted, letters_taken, past_of, post_of}
use Rattle.dso_world.specs.NodesStand.{ClientNodeStands}
use Rattle.dso_world.specs.WorldSteps.{settings_of}
use Rattle.dso_world.proofs.collecting.Added.{then_added}
use Rattle.dso_world.proofs.journals.Letters.{letters_are_left}

module _ (program : Program) (es : List Entry) (o : ℕ) where
  abbrev pub holds : ThreadId → List Entry → Bool
  holds t its = thread_holds (settings_of program) (next_request program.code) (frames_after program.code) t its o

  -- the threads of a client by its entries and by those of the journal
  own_threads : (c : ℕ) (threads : List ThreadId) → list_any (λ t. holds t (entries_of (node.Client c) es)) (filter (λ t. eqb t.client c) threads)
      ≡ list_any (λ t. thread_names (settings_of program) (next_request program.code) (frames_after program.code) t es o) (filter (λ t. eqb t.client c) threads)
  own_threads c [] = refl
  own_threads c (t ∷ threads) = by (eqb t.client c) refl (own_threads c threads)
    where
      by : (its : Bool) → eqb t.client c ≡ its
          → list_any (λ t. holds t (entries_of (node.Client c) es)) (filter (λ t. eqb t.client c) threads)
          ≡ list_any (λ t. thread_names (settings_of program) (next_request program.code) (frames_after program.code) t es o) (filter (λ t. eqb t.client c) threads)
          → list_any (λ t. holds t (entries_of (node.Client c) es)) (cond its (t ∷ filter (λ t. eqb t.client c) threads) (filter (λ t. eqb t.client c) threads))
          ≡ list_any (λ t. thread_names (settings_of program) (next_request program.code) (frames_after program.code) t es o) (cond its (t ∷ filter (λ t. eqb t.client c) threads) (filter (λ t. eqb t.client c) threads))
      by true own rest_so = ap (λ d. holds t (entries_of (node.Client d) es) || list_any (λ t. holds t (entries_of (node.Client c) es)) (filter (λ t. eqb t.client c) threads)) (sym (eqb-true t.client c own))
          ∙ ap (λ rest. holds t (entries_of (node.Client t.client) es) || rest) rest_so
      by false other rest_so = rest_so

  pub threads_name : (c : ℕ) → list_any (λ t. holds t (entries_of (node.Client c) es)) (threads_of (settings_of program) c)
      ≡ list_any (λ t. thread_names (settings_of program) (next_request program.code) (frames_after program.code) t es o) (threads_of (settings_of program) c)
  threads_name c = own_threads c program.threads

-- ---- what is in flight

-- the messages of letters behind so many, as an end keeps them
up_named : (o count : ℕ) (letters : List (Letter Up)) → posts_name (drop count (map (post_of both.Up) letters)) o ≡ list_any (λ m. up_names m o) (messages (drop count letters))
up_named o zero [] = refl
up_named o zero (letter ∷ letters) = ap (λ rest. up_names letter.message o || rest) (up_named o zero letters)
up_named o (suc count) [] = refl
up_named o (suc count) (letter ∷ letters) = up_named o count letters

down_named : (o count : ℕ) (letters : List (Letter Down)) → posts_name (drop count (map (post_of both.Down) letters)) o ≡ list_any (λ m. down_names m o) (messages (drop count letters))
down_named o zero [] = refl
down_named o zero (letter ∷ letters) = ap (λ rest. down_names letter.message o || rest) (down_named o zero letters)
down_named o (suc count) [] = refl
down_named o (suc count) (letter ∷ letters) = down_named o count letters

module _ (course : Course) (c : ℕ) (es : List Entry) (line : Line Both) (stands : LinkStands course (past_of both.Up both.Down c es) line) (o : ℕ) where
  pub left_up_names : AreLeft (to_server c) es → posts_name (left_behind line.server.accepted line.client) o ≡ list_any (λ m. up_names m o) (messages (up_in_flight c es))
  left_up_names are =
      ap (λ n. posts_name (left_behind n line.client) o) stands.server.accepted
      ∙ ap (λ posts. posts_name posts o) (left_was_sent (letters_taken (to_server c) es) (past_of both.Up both.Down c es).up line.client stands.client.sent stands.up_seen)
      ∙ up_named o (letters_taken (to_server c) es) (letters_posted (to_server c) es)
      ∙ ap (λ letters. list_any (λ m. up_names m o) (messages letters)) (sym are.left)

  pub left_down_names : AreLeft (to_client c) es → posts_name (left_behind line.client.accepted line.server) o ≡ list_any (λ m. down_names m o) (messages (down_in_flight c es))
  left_down_names are =
      ap (λ n. posts_name (left_behind n line.server) o) stands.client.accepted
      ∙ ap (λ posts. posts_name posts o) (left_was_sent (letters_taken (to_client c) es) (past_of both.Up both.Down c es).down line.server stands.server.sent stands.down_seen)
      ∙ down_named o (letters_taken (to_client c) es) (letters_posted (to_client c) es)
      ∙ ap (λ letters. list_any (λ m. down_names m o) (messages letters)) (sym are.left)

-- ---- a client

module _ (program : Program) (c : ℕ) (es : List Entry) (journal : IsLawfulOf program es) (client_node : ClientNode) (stands : ClientNodeStands program c client_node es) where
  letters_up : AreLeft (to_server c) es
  letters_up = (letters_are_left {M = Both}).up (settings_of program) (next_request program.code) es journal.lawful.follow c

  letters_down : AreLeft (to_client c) es
  letters_down = (letters_are_left {M = Both}).down (settings_of program) (next_request program.code) es journal.lawful.follow c

  -- what its call tells of, and what its connection has left, is what it names
  pub names_added : (old told up down named : List ℕ) (ups downs : List (Posted Both)) → TellsNamed client_node.client named → told ≡ old ++ named
      → ups ≡ left_behind client_node.link.server.accepted client_node.link.client → AddsNamed (posts_name ups) told up
      → downs ≡ left_behind client_node.link.client.accepted client_node.link.server → AddsNamed (posts_name downs) up down
      → AddsNamed (names_then program c es) old down
  names_added old told up down named ups downs tells is are_up with_up are_down with_down =
      then_added (λ o. list_any (λ t. thread_names (settings_of program) (next_request program.code) (frames_after program.code) t es o) (threads_of (settings_of program) c))
      (λ o. is_in_flight c es o) old told down own
      (then_added (λ o. list_any (λ m. up_names m o) (messages (up_in_flight c es))) (λ o. list_any (λ m. down_names m o) (messages (down_in_flight c es))) told up down way_up way_down)
    where
      own : AddsNamed (λ o. list_any (λ t. thread_names (settings_of program) (next_request program.code) (frames_after program.code) t es o) (threads_of (settings_of program) c)) old told
      own o = ap (is_listed o) is ∙ (list_any-append (λ x. eqb x o) old named
          ∙ ap (λ b. is_listed o old || b) (tells program.code (settings_of program) c (entries_of (node.Client c) es) stands.client o ∙ threads_name program es o c))

      way_up : AddsNamed (λ o. list_any (λ m. up_names m o) (messages (up_in_flight c es))) told up
      way_up o = with_up o ∙ ap (λ b. is_listed o told || b) (ap (λ posts. posts_name posts o) are_up ∙ left_up_names (course_of (settings_of program) c es) c es client_node.link stands.link o letters_up)

      way_down : AddsNamed (λ o. list_any (λ m. down_names m o) (messages (down_in_flight c es))) up down
      way_down o = with_down o ∙ ap (λ b. is_listed o up || b) (ap (λ posts. posts_name posts o) are_down ∙ left_down_names (course_of (settings_of program) c es) c es client_node.link stands.link o letters_down)

  pub edges_added : (old new edges : List (ℕ × ℕ)) → TellsEdges client_node.client edges → new ≡ old ++ edges → (a b : ℕ) → has_edge a b new ≡ (has_edge a b old || copy_names program c es a b)
  edges_added old new edges tells is a b = ap (has_edge a b) is ∙ (list_any-append (λ edge. eqb edge.0 a && eqb edge.1 b) old edges
      ∙ ap (λ x. has_edge a b old || x) (tells program.code (settings_of program) c (entries_of (node.Client c) es) stands.client a b))
