-- A thread in numbers: its head, and its statements behind it.
use Rattle.std.proofs.Common.{◌≡◌, refl, sym, ap, ◌∙◌, subst, ℕ, suc, ◌+◌, ◌<◌, ◌≤◌, arith, ℤ, pos, true, cond, List, [], ◌∷◌, ◌++◌, length, reverse, count_by, Err}
use Rattle.std.proofs.lemmas.List.{map-append}
use Rattle.std.specs.Borrow.{Bor}
use Rattle.std.specs.List.{AllZip}
use Rattle.std.proofs.lemmas.List.Sorted.{IsPermutation-reverse, sum_by-IsPermutation}
use Rattle.dso_config.specs.declared.config.Config.{Config}
use Rattle.dso_base.specs.declared.lock.ThreadId.{ThreadId}
use Rattle.dso_machine.specs.declared.code.ThreadBody.{ThreadBody}
use Rattle.dso_syntax.specs.declared.tree.Item.TheVariants as item
use Rattle.dso_syntax.specs.declared.tree.StmtTree.{StmtTree}
use Rattle.dso_class.specs.declared.body.Body.{Body}
use Rattle.dso_class.specs.declared.class_item.Resolved.{Resolved}
use Rattle.dso_class.specs.declared.fault.NameFault.{NameFault}
use Rattle.dso_class.specs.declared.fault.NameFault.TheVariants as fault
use Rattle.dso_class.specs.declared.fault.NameKind.TheVariants as kind
use Rattle.dso_class.specs.declared.fault.What.TheVariants as what
use Rattle.dso_config_entries.specs.Words.{Word, thread_word, run_word}
use Rattle.dso_config_entries.specs.BorrowedWords.{words_of}
use Rattle.dso_class.specs.Declarations.{ThreadTree}
use Rattle.dso_class.specs.BodyWalk.{HasTexts}
use Rattle.dso_class.specs.Mentions.{Mention, on, Owner, thread_owner, thread, client, body, of_item}
use Rattle.dso_class.specs.PrecedingMentions.{in_text, in_body, begins_body, thread_in}
use Rattle.dso_class.specs.NameFaults.{IsClient, threads_before}
use Rattle.dso_class.specs.FaultsAmong.{behind, AreFine, IsFine}
use Rattle.dso_class.specs.TextProgram.{Source, AreCounted, IsClass, IsMethod, IsThread}
use Rattle.dso_class.specs.Heads.{IsThreadNamed, is_number, thread_head}
use Rattle.dso_class.specs.TextWalk.{AnswersBody, AreItemsRight, HasMetText, IsBodyRight, IsToldOf, clients_in}
use Rattle.dso_class.proofs.rules.OfDeclarations.{allowed_fine, allowed_fault, thread_rules, client_rules}
use Rattle.dso_class.proofs.rules.ComposingItems.{told_front, told_behind, told_alone, told_of_body}
use Rattle.dso_class.proofs.thread_ids.CountedBodies.{counted_more}
use Rattle.dso_class.proofs.walks.MemberItems.{zip_append, none_behind}
use Rattle.dso_class.proofs.walks.MetItems.{turned_more}
use Rattle.dso_class.proofs.mentions.OfClasses.{body_of_body, body_keeps_classes, body_keeps_statics, body_keeps_threads}
use Rattle.dso_class.proofs.mentions.OnlyUses.{part_begins}

module _ (source : Source) (before : List Mention) (line : ℕ) (number : ℤ) (number_line : ℕ) (bodies : List ThreadBody) (count : ℕ) (met : clients_in bodies ≡ reverse (in_text thread_in before))
    (counts : count ≡ count_by (is_number number) (clients_in bodies)) where
  -- so many threads of the client were mentioned
  counted_before : count ≡ threads_before before number
  counted_before =
      counts ∙ ap (count_by (is_number number)) met
      ∙ sum_by-IsPermutation (λ other. cond (is_number number other) 1 0) (in_text thread_in before) (reverse (in_text thread_in before)) (IsPermutation-reverse (in_text thread_in before))

  -- a thread too many, and one for which there is room
  pub thread_full : 16 ≤ count → IsToldOf source before (thread_head line number number_line) (fault.At (kind.TooMany what.Threads) line)
  thread_full full =
      told_front source before (on line (thread number) ∷ []) (on number_line (client number) ∷ []) (fault.At (kind.TooMany what.Threads) line)
      (told_alone source before line (thread number) (kind.TooMany what.Threads) (allowed_fault (thread_rules number) (omega (arith, full, counted_before))))

  thread_fine : count < 16 → IsFine source.config source.ast before (thread number)
  thread_fine few = allowed_fine (thread_rules number) (λ full. omega (arith, full, few, counted_before))

  -- a client that isn't there
  pub client_missing : (config : Config) → source.config ≡ config → count < 16 → (IsClient config number → ⊥) → IsToldOf source before (thread_head line number number_line) (fault.At kind.NoSuchClient number_line)
  client_missing config same few missing =
      told_behind source before (on line (thread number) ∷ []) (on number_line (client number) ∷ []) (fault.At kind.NoSuchClient number_line) (thread_fine few, tt)
      (told_alone source (on line (thread number) ∷ before) number_line (client number) kind.NoSuchClient (allowed_fault (client_rules number) (subst (λ c. IsClient c number → ⊥) (sym same) missing)))

  -- the thread has the next name
  pub thread_named : (config : Config) (of : ℕ) → source.config ≡ config → count < 16 → number ≡ pos of → IsClient config number
      → IsThreadNamed source before line number number_line bodies (record { client = of; index = count + 1 })
  thread_named config of same few is there =
      let here : IsClient source.config number = subst (λ c. IsClient c number) (sym same) there in
      record {
        fine = (thread_fine few, (allowed_fine (client_rules number) (λ missing. missing here), tt));
        of_client = is;
        next = omega (arith, counts);
      }

-- the owner of a thread's statements, as it is lent
pub owner_is : (class method : Word) → class ≡ thread_word → method ≡ run_word → record { class = class; method = method; in_thread = true } ≡ thread_owner
owner_is class method of_class of_method =
    ap (λ (word : Word). record { class = word; method = method; in_thread = true }) of_class ∙ ap (λ (word : Word). record { class = thread_word; method = word; in_thread = true }) of_method

-- the mentions behind the head of a thread, where its body begins with the same text literals
abbrev pub behind_head : List Mention → ℕ → ℤ → ℕ → List Mention
behind_head before line number number_line = on number_line (client number) ∷ on line (thread number) ∷ before

pub body_begins : (before : List Mention) (line : ℕ) (number : ℤ) (number_line : ℕ) → in_body (behind_head before line number number_line) ≡ []
body_begins before line number number_line = part_begins begins_body (on number_line (client number)) (on line (thread number) ∷ before) refl

pub texts_met : (before : List Mention) (line : ℕ) (number : ℤ) (number_line : ℕ) {resolved : Resolved} → HasMetText before resolved → HasTexts (behind_head before line number number_line) (words_of resolved.texts)
texts_met before line number number_line met = record { firsts = met.texts.firsts; few = met.texts.few }

module _ (source : Source) (before : List Mention) (line : ℕ) (number : ℤ) (number_line : ℕ) (statements : List StmtTree) where
  -- what is told of the head, or of the statements, is told of the thread
  pub told_of_head : (e : NameFault) → IsToldOf source before (thread_head line number number_line) e → IsToldOf source before (of_item (item.Thread line number number_line statements)) e
  told_of_head e told = told_front source before (thread_head line number number_line) (body thread_owner [] statements) e told

  pub told_of_statements : (owner : Owner) (old new : List Word) (e : NameFault) → owner ≡ thread_owner → AreFine source.config source.ast before (thread_head line number number_line)
      → AnswersBody source owner (behind_head before line number number_line) [] statements old new (Err e) → IsToldOf source before (of_item (item.Thread line number number_line statements)) e
  told_of_statements owner old new e is fine answer =
      let there = behind_head before line number number_line in
      told_behind source before (thread_head line number number_line) (body thread_owner [] statements) e fine
      (told_of_body source thread_owner there [] statements old new e (subst (λ who. AnswersBody source who there [] statements old new (Err e)) is answer))

  -- a thread is there in numbers
  pub thread_right : (resolved : Resolved) (lent : List ThreadBody) (name : ThreadId) (owner : Owner) (texts : List (Bor Word)) (inner : Body) (bodies : List ThreadBody)
      → owner ≡ thread_owner → lent ≡ resolved.bodies → HasMetText before resolved → IsThreadNamed source before line number number_line lent name
      → IsBodyRight source owner (behind_head before line number number_line) [] statements (words_of resolved.texts) (words_of texts) inner
      → bodies ≡ resolved.bodies ++ record { thread = name; vars = inner.vars; body = inner.statements } ∷ []
      → AreItemsRight source before (of_item (item.Thread line number number_line statements)) (item.Thread line number number_line statements ∷ []) resolved (record resolved { texts = texts; bodies = bodies })
  thread_right resolved lent name owner texts inner bodies is same met named answer pushed =
      let there = behind_head before line number number_line in
      let ms = body thread_owner [] statements in
      let each = body_of_body thread_owner [] statements in
      let right = subst (λ who. IsBodyRight source who there [] statements (words_of resolved.texts) (words_of texts) inner) is answer in
      let tree : ThreadTree = record { client = number; statements = statements } in
      let made : ThreadBody = record { thread = name; vars = inner.vars; body = inner.statements } in
      let next = named.next ∙ ap (λ (all : List ThreadBody). suc (count_by (is_number number) (clients_in all))) same in
      let clients : clients_in bodies ≡ clients_in resolved.bodies ++ number ∷ [] =
      ap clients_in pushed ∙ map-append (λ one. pos one.thread.client) resolved.bodies (made ∷ []) ∙ ap (λ n. clients_in resolved.bodies ++ n ∷ []) (sym named.of_client) in
      record {
        fine = (named.fine.0, (named.fine.1.0, right.fine));
        met = record {
          names = met.names ∙ ap reverse (sym (body_keeps_classes ms there each));
          statics = met.statics ∙ ap length (sym (body_keeps_statics ms there each));
          texts = right.texts;
          threads = turned_more number (in_text thread_in before) (in_text thread_in (behind there ms)) (clients_in resolved.bodies) (clients_in bodies) (body_keeps_threads ms there each) met.threads clients;
        };
        grown = right.grown;
        counted = λ counts. subst AreCounted (sym pushed) (counted_more resolved.bodies made number named.of_client next counts);
        more = omega arith;
        means = λ goes. record {
          classes = λ trees all. none_behind (IsClass source) trees resolved.classes all;
          methods = λ trees all. none_behind (IsMethod source) trees resolved.methods all;
          threads = λ trees all.
              subst (λ more. AllZip (IsThread source) (trees ++ tree ∷ []) more) (sym pushed)
              (zip_append (IsThread source) trees resolved.bodies (tree ∷ []) (made ∷ []) all (record { of_client = named.of_client; statements = right.means goes }, tt));
        };
      }
