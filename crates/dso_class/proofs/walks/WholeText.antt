-- A walk over a whole text: what it answers of the text, and the program that it gives.
use Rattle.std.proofs.Common.{◌≡◌, ◌+◌, ◌≤◌, arith, sym, ap, ◌∙◌, subst, ℕ, List, [], ◌∷◌, ◌++◌, reverse, length, flat_map, append-nil, Result, Ok, Err}
use Rattle.std.specs.List.{AllZip}
use Rattle.std.proofs.lemmas.List.{reverse-reverse, length-map}
use Rattle.std.proofs.lemmas.Option.{none-some}
use Rattle.dso_config.specs.declared.config.Config.{Config}
use Rattle.dso_syntax.specs.declared.tree.Ast.{Ast}
use Rattle.dso_syntax.specs.declared.tree.Item.{Item}
use Rattle.dso_class.specs.declared.class_item.Resolved.{Resolved}
use Rattle.dso_class.specs.declared.class_item.Setting.{Setting}
use Rattle.dso_class.specs.declared.fault.NameFault.{NameFault}
use Rattle.dso_class.specs.declared.fault.NameFault.TheVariants as fault
use Rattle.dso_class.specs.declared.fault.NameKind.{NameKind}
use Rattle.dso_class.specs.declared.program.Names.{Names}
use Rattle.dso_class.specs.declared.program.Program.{Program}
use Rattle.dso_config_entries.specs.Words.{Word}
use Rattle.dso_config_entries.specs.LastAndFirst.{AreFirsts, empty}
use Rattle.dso_class.specs.Limits.{most_texts}
use Rattle.dso_config_entries.specs.BorrowedWords.{words_of}
use Rattle.dso_class.specs.Mentions.{Mention, mentions_of, of_item}
use Rattle.dso_class.specs.PrecedingMentions.{in_text, text_in}
use Rattle.dso_class.specs.Declarations.{classes_of, threads_of, methods_from, all_methods}
use Rattle.dso_class.specs.NameFaults.{IsFirstFault}
use Rattle.dso_class.specs.FaultsAmong.{behind, IsFaultAmong}
use Rattle.dso_class.specs.Maps.{map_shapes}
use Rattle.dso_class.specs.Symbols.{AreWordsOf, class_words}
use Rattle.dso_class.specs.TextProgram.{Source, IsClass, IsMethod, IsThread, IsProgramOf, AreCounted, roots_of}
use Rattle.dso_class.specs.BodyWalk.{HasTexts}
use Rattle.dso_class.specs.TextWalk.{IsSetting, HasMetText, AreItemsRight, IsToldOf, clients_in}
use Rattle.dso_class.specs.WholeProgram.{IsWhole, AnswersWhole, IsMadeOf}
use Rattle.dso_class.proofs.faultless.Counts.{text_reverse}
use Rattle.dso_class.proofs.mentions.Fine.{behind_reverse, clean_of_fine, no_fault_of_fine}

-- ---- the first fault

-- mentions with nothing before them, from the last to the first
behind_nothing : (ms : List Mention) → behind [] ms ≡ reverse ms
behind_nothing ms = behind_reverse [] ms ∙ append-nil (reverse ms)

-- the first fault among all mentions of a text is its first
pub first_of_text : (config : Config) (ast : Ast) (kind : NameKind) (line : ℕ) → IsFaultAmong config ast [] (mentions_of ast) kind line → IsFirstFault config ast kind line
first_of_text config ast kind line among = record {
  before = behind [] among.front;
  here = among.here;
  after = among.rest;
  stands = among.stands ∙ ap (λ front. front ++ among.here ∷ among.rest) (sym (ap reverse (behind_nothing among.front) ∙ reverse-reverse among.front));
  clean_before = clean_of_fine config ast [] among.front tt among.fine;
  breaks = among.broken.breaks;
  least = among.broken.least;
  on_line = among.on_line;
}

-- ---- all of a text

-- nothing was resolved yet
pub record IsNew (resolved : Resolved) : Type 0 where
  pub names : resolved.names ≡ []
  pub texts : resolved.texts ≡ []
  pub statics : resolved.statics ≡ 0
  pub classes : resolved.classes ≡ []
  pub methods : resolved.methods ≡ []
  pub bodies : resolved.bodies ≡ []

-- it has met the mentions before a text, of which there are none
pub new_has_met : (resolved : Resolved) → IsNew resolved → HasMetText [] resolved
new_has_met resolved new = record {
  names = ap words_of new.names;
  statics = new.statics;
  texts = record { firsts = subst (λ texts. AreFirsts {A = Word} [] (words_of texts)) (sym new.texts) empty; few = subst (λ texts. length (words_of texts) ≤ most_texts) (sym new.texts) (omega arith) };
  threads = ap clients_in new.bodies;
}

-- no threads are counted
none_counted : AreCounted []
none_counted place here is = absurd (none-some here is)

-- all of a text was met, and its literals are there
whole_texts : (ast : Ast) (texts : List Word) → HasTexts (behind [] (mentions_of ast)) texts → AreFirsts (in_text text_in (mentions_of ast)) texts
whole_texts ast texts has =
    let ms = mentions_of ast in
    subst (λ all. AreFirsts all texts) (ap (λ before. reverse (in_text text_in before)) (behind_nothing ms) ∙ text_reverse text_in ms) has.firsts

-- a walk over all items that begins with nothing leaves all of the text
pub whole_of_items : (source : Source) (items : List Item) (old new : Resolved) → source.ast.items ≡ items → IsNew old → AreItemsRight source [] (flat_map of_item items) items old new → IsWhole source new
whole_of_items source items old new same fresh right_here =
    let right = subst (λ all. AreItemsRight source [] (flat_map of_item all) all old new) (sym same) right_here in
    let no_fault = no_fault_of_fine source.config source.ast right.fine in
    record {
      no_fault = no_fault;
      texts = whole_texts source.ast (words_of new.texts) right.met.texts;
      counted = right.counted (subst AreCounted (sym fresh.bodies) none_counted);
      means = λ literals.
          let adds = right.means (record { no_fault = no_fault; begins = record { rest = []; is = literals ∙ sym (append-nil (words_of new.texts)) } }) in
          record {
            classes = adds.classes [] (subst (λ all. AllZip (IsClass source) [] all) (sym fresh.classes) tt);
            methods =
                subst (λ n. AllZip (IsMethod source) (methods_from n (classes_of source.ast.items)) new.methods) (ap length fresh.names)
                (adds.methods [] (subst (λ all. AllZip (IsMethod source) [] all) (sym fresh.methods) tt));
            threads = adds.threads [] (subst (λ all. AllZip (IsThread source) [] all) (sym fresh.bodies) tt);
          };
    }

-- and a fault among all items is the first one of the text
pub first_of_items : (source : Source) (items : List Item) (kind : NameKind) (line : ℕ) → source.ast.items ≡ items → IsFaultAmong source.config source.ast [] (flat_map of_item items) kind line
    → IsFirstFault source.config source.ast kind line
first_of_items source items kind line same among =
    first_of_text source.config source.ast kind line (subst (λ all. IsFaultAmong source.config source.ast [] (flat_map of_item all) kind line) (sym same) among)

-- what the walk over the items refuses, is refused
pub refused_whole : (source : Source) (items : List Item) (refused : NameFault) → source.ast.items ≡ items → IsToldOf source [] (flat_map of_item items) refused → AnswersWhole source (Err refused)
refused_whole source items (fault.At kind line) same among = first_of_items source items kind line same among
refused_whole source items (fault.NoMemory refusal) same among = tt

-- the refusal of an answer, this one where it is none
abbrev refusal_or : {T : Type 0} → NameFault → Result T NameFault → NameFault
refusal_or other (Ok value) = other
refusal_or other (Err refused) = refused

-- the fault that is told of a whole text is its first
pub told_whole : {T : Type 0} (source : Source) (refused : NameFault) (result : Result T NameFault) (kind : NameKind) (line : ℕ) → result ≡ Err refused → result ≡ Err (fault.At kind line) → AnswersWhole source (Err refused)
    → IsFirstFault source.config source.ast kind line
told_whole source refused result kind line told is answers =
    let same : refused ≡ fault.At kind line = ap (refusal_or refused) (sym told ∙ is) in
    subst (λ one. AnswersWhole source (Err one)) same answers

-- ---- the program

-- the program of a text that was resolved whole, with the words of its items
pub program_of_whole : (source : Source) (setting : Setting) (words : Names) (resolved : Resolved) (program : Program) → source.texts ≡ words_of resolved.texts
    → IsSetting source setting → AreWordsOf setting.tables.now.makes_map source.ast.items words → IsWhole source resolved → IsMadeOf setting words resolved program → IsProgramOf source.config source.ast program
program_of_whole source setting words resolved program literals set named whole made =
    let inside = whole.means literals in
    record {
      no_fault = whole.no_fault;
      locks = source.locks;
      locks_in_order = set.firsts;
      texts = source.texts;
      texts_in_order = subst (λ all. AreFirsts (in_text text_in (mentions_of source.ast)) all) (sym literals) whole.texts;
      code = record {
        shapes = resolved.classes;
        classes = inside.classes;
        all_classes = made.classes ∙ ap (λ makes. resolved.classes ++ map_shapes makes) set.tables.makes;
        roots = made.roots ∙ sym (set.roots whole.no_fault);
        locks = made.locks ∙ locks_long;
        texts = made.texts ∙ sym (length-map resolved.texts (λ word. word.now)) ∙ ap length (sym literals);
        methods = subst (λ all. AllZip (IsMethod source) (all_methods source.ast.items) all) (sym made.methods) inside.methods;
        threads = subst (λ all. AllZip (IsThread source) (threads_of source.ast.items) all) (sym made.bodies) inside.threads;
        counted = subst AreCounted (sym made.bodies) whole.counted;
      };
      names = record {
        classes = made.class_words ∙ named.classes ∙ ap (λ makes. class_words makes source.ast.items) set.tables.makes;
        fields = made.field_words ∙ named.fields;
        roots = made.root_words ∙ named.roots;
        texts = made.text_words ∙ sym literals;
      };
      all_threads = made.all_threads;
      threads_rise = made.threads_rise whole.counted;
      clients = made.clients ∙ ap (λ config. config.clients) (sym set.config);
      resident = made.resident ∙ ap (λ config. config.resident) (sym set.config);
      losses = made.losses ∙ ap (λ config. config.losses) (sym set.config);
      breaks = made.breaks ∙ ap (λ config. config.breaks) (sym set.config);
    }
  where
    -- as many locks as in the setting
    locks_long : setting.roots + length setting.locks.now ≡ roots_of source + length source.locks
    locks_long = ap (λ n. n + length setting.locks.now) (sym (set.roots whole.no_fault)) ∙ ap (λ n. roots_of source + n) (sym (length-map setting.locks.now (λ word. word.now)) ∙ ap length (sym set.locks))
