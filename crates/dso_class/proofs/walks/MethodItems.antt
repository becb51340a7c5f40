-- A method of a class in numbers: its head, and its statements behind it.
use Rattle.std.proofs.Common.{◌≡◌, refl, sym, ap, ◌∙◌, subst, ℕ, ◌+◌, ◌<◌, ◌≤◌, arith, Bool, true, false, Option, Some, None, List, [], ◌∷◌, ◌++◌, length, reverse, Contains, append_assoc, option_map, Err}
use Rattle.std.proofs.lemmas.List.Elements.{All-contains}
use Rattle.std.specs.Borrow.{Bor}
use Rattle.std.specs.List.{AllZip}
use Rattle.dso_base.specs.declared.lock.Grade.{Grade}
use Rattle.dso_config.specs.declared.config.AutoEntry.{AutoEntry}
use Rattle.dso_config.specs.declared.config.Config.{Config}
use Rattle.dso_machine.specs.declared.code.Method.{Method}
use Rattle.dso_syntax.specs.declared.tree.Ident.{Ident}
use Rattle.dso_syntax.specs.declared.tree.Member.{Member}
use Rattle.dso_syntax.specs.declared.tree.Member.TheVariants as member
use Rattle.dso_syntax.specs.declared.tree.StmtTree.{StmtTree}
use Rattle.dso_class.specs.declared.body.Body.{Body}
use Rattle.dso_class.specs.declared.class_item.Resolved.{Resolved}
use Rattle.dso_class.specs.declared.fault.NameFault.{NameFault}
use Rattle.dso_class.specs.declared.fault.NameFault.TheVariants as fault
use Rattle.dso_class.specs.declared.fault.NameKind.TheVariants as kind
use Rattle.dso_class.specs.declared.fault.What.TheVariants as what
use Rattle.dso_class.specs.declared.member.Class.{Class}
use Rattle.dso_config_entries.specs.Words.{Word}
use Rattle.dso_config_entries.specs.BorrowedWords.{words_of}
use Rattle.dso_config_entries.specs.LastAndFirst.{LastWith, last, nothing}
use Rattle.dso_class.specs.Mentions.{Mention, on, of_member, method, synchronized, body}
use Rattle.dso_class.specs.PrecedingMentions.{in_body, begins_body}
use Rattle.dso_class.specs.Declarations.{MethodTree}
use Rattle.dso_config_entries.specs.ConfigEntries.{Matches, autolocks_of}
use Rattle.dso_class.specs.NameFaults.{HasNoFault}
use Rattle.dso_class.specs.FaultsAmong.{behind, AreFine}
use Rattle.dso_class.specs.TextProgram.{Source, IsAutolock, IsBody, IsField, IsMethod, IsNamedLock, IsSynced}
use Rattle.dso_class.specs.BodyWalk.{HasTexts}
use Rattle.dso_class.specs.Heads.{IsHeadRight, IsMonitorRight, IsRefused, head_of, owner_of, word_of}
use Rattle.dso_class.specs.TextWalk.{AnswersBody, IsBodyRight, IsToldOf, HasMetText, HasMetClass, AreMembersRight}
use Rattle.dso_class.proofs.rules.OfDeclarations.{declared_fine, allowed_fine, allowed_fault, synchronized_rules}
use Rattle.dso_class.proofs.mentions.Fine.{behind_append, fine_both}
use Rattle.dso_class.proofs.rules.ComposingItems.{told_front, told_behind, told_alone, told_refused, told_of_body}
use Rattle.dso_class.proofs.locking.LockNumbers.{last_there}
use Rattle.dso_class.proofs.walks.MemberItems.{zip_append, none_behind}
use Rattle.dso_class.proofs.walks.MetItems.{text_met_synchronized, class_met_synchronized, text_met_method, class_met_method}
use Rattle.dso_class.proofs.mentions.OnlyUses.{MentionsPass, part_begins}
use Rattle.dso_class.proofs.mentions.OfClasses.{is_of_body, body_of_body, body_keeps_members, body_keeps_fields, body_keeps_methods, body_keeps_statics, body_keeps_classes, body_keeps_threads}
use Rattle.dso_class.proofs.rules.MetBefore.{method_ruled}

-- the last item of its kind is of it
last_holds : {A : Type 0} (P : A → Type 0) (xs : List A) (x : A) → LastWith P xs (Some x) → P x
last_holds P _ x (last before after _ holds later) = holds

-- an entry that is the last one isn't missed
not_missed : {A : Type 0} (P : A → Type 0) (xs : List A) (x : A) → LastWith P xs (Some x) → (item : Option A) → LastWith P xs item → item ≡ None → ⊥
not_missed P _ x found _ (last before after y holds later) same = cc same
not_missed P xs x found _ (nothing none) same = All-contains (λ y. P y → ⊥) xs x none (last_there P xs x found) (last_holds P xs x found)

-- where an autolock gives a level, some is for the method
autolock_there : (config : Config) (class name : Word) (grade : Grade) → IsAutolock config class name (Some grade) → LastWith (λ entry. Matches entry.method class name) (autolocks_of config) None → ⊥
autolock_there config class name grade given none = by given.item given.last given.is
  where
    by : (item : Option AutoEntry) → LastWith (λ entry. Matches entry.method class name) (autolocks_of config) item → Some grade ≡ option_map (λ entry. entry.grade) item → ⊥
    by None found is = cc is
    by (Some entry) found is = not_missed (λ entry. Matches entry.method class name) (autolocks_of config) entry found None none refl

-- where it gives none, none is
autolock_missing : (config : Config) (class name : Word) → IsAutolock config class name None → LastWith (λ entry. Matches entry.method class name) (autolocks_of config) None
autolock_missing config class name given = by given.item given.last given.is
  where
    by : (item : Option AutoEntry) → LastWith (λ entry. Matches entry.method class name) (autolocks_of config) item → None ≡ option_map (λ entry. entry.grade) item → LastWith (λ entry. Matches entry.method class name) (autolocks_of config) None
    by None found is = found
    by (Some entry) found is = absurd (cc is)

-- the word `synchronized` before a method for which an autolock is, and for which none is
pub monitor_right : (source : Source) (before : List Mention) (config : Config) (class : Word) (line : ℕ) (synced : Bool) (name : Ident) (grade : Grade) → source.config ≡ config → synced ≡ true
    → IsAutolock config class name.name (Some grade) → IsMonitorRight source before class line synced name (Some grade)
monitor_right source before config class line false name grade same is given = absurd (cc is)
monitor_right source before config class line true name grade same is given =
    let here : IsAutolock source.config class name.name (Some grade) = subst (λ c. IsAutolock c class name.name (Some grade)) (sym same) given in
    record { fine = (allowed_fine (synchronized_rules class name.name) (autolock_there source.config class name.name grade here), tt); monitor = here }

pub monitor_missing : (source : Source) (before : List Mention) (config : Config) (class : Word) (line : ℕ) (synced : Bool) (name : Ident) → source.config ≡ config → synced ≡ true
    → IsAutolock config class name.name None → IsToldOf source before (word_of class line synced name) (fault.At kind.NoAutolock line)
monitor_missing source before config class line false name same is given = absurd (cc is)
monitor_missing source before config class line true name same is given =
    told_alone source before line (synchronized class name.name) kind.NoAutolock
    (allowed_fault (synchronized_rules class name.name) (autolock_missing source.config class name.name (subst (λ c. IsAutolock c class name.name None) (sym same) given)))

-- the word is met
text_met_word : (before : List Mention) (class : Word) (line : ℕ) (synced : Bool) (name : Ident) {resolved : Resolved} → HasMetText before resolved → HasMetText (behind before (word_of class line synced name)) resolved
text_met_word before class line true name met = text_met_synchronized before line class name.name met
text_met_word before class line false name met = met

class_met_word : (before : List Mention) (word : Word) (line : ℕ) (synced : Bool) (name : Ident) {class : Class} → HasMetClass before class → HasMetClass (behind before (word_of word line synced name)) class
class_met_word before word line true name met = class_met_synchronized before line word name.name met
class_met_word before word line false name met = met

-- behind the head of a method its name is nearest
behind_head : (before : List Mention) (class : Word) (line : ℕ) (synced : Bool) (name : Ident) → behind before (head_of class line synced name) ≡ on name.line (method name.name) ∷ behind before (word_of class line synced name)
behind_head before class line true name = refl
behind_head before class line false name = refl

-- the head of a method is there
pub head_right : (source : Source) (before : List Mention) (class : Class) (line : ℕ) (synced : Bool) (name : Ident) (grade : Option Grade) (members : List (Bor Word)) (methods : ℕ)
    → HasMetClass before class → IsMonitorRight source before class.name.now line synced name grade
    → (Contains (words_of class.members) name.name → ⊥) → class.methods < 64 → words_of members ≡ words_of class.members ++ name.name ∷ [] → methods ≡ class.methods + 1
    → IsHeadRight source before line synced name class (record class { members = members; methods = methods }) grade
head_right source before class line synced name grade members methods met monitor fresh few named more =
    let word = word_of class.name.now line synced name in
    let there = class_met_word before class.name.now line synced name met in
    record {
      fine = fine_both source.config source.ast before word (on name.line (method name.name) ∷ []) monitor.fine (declared_fine (method_ruled name.name there) fresh (λ full. omega (arith, few, full)), tt);
      monitor = monitor.monitor;
      met = subst (λ now. HasMetClass now (record class { members = members; methods = methods })) (sym (behind_head before class.name.now line synced name))
          (class_met_method (behind before word) name.line name.name members methods there named more);
      name = refl;
      number = refl;
      fields = refl;
    }

-- the name of a method is refused
pub head_refused : (source : Source) (before : List Mention) (class : Class) (line : ℕ) (synced : Bool) (name : Ident) (grade : Option Grade) → HasMetClass before class → IsMonitorRight source before class.name.now line synced name grade
    → (e : NameFault) → IsRefused (Contains (words_of class.members) name.name) (64 ≤ class.methods) what.Methods name.line e → IsToldOf source before (head_of class.name.now line synced name) e
head_refused source before class line synced name grade met monitor e refused =
    let word = word_of class.name.now line synced name in
    told_behind source before word (on name.line (method name.name) ∷ []) e monitor.fine
    (told_refused source (behind before word) name.line (method name.name) e (method_ruled name.name (class_met_word before class.name.now line synced name met)) refused)

-- the head and the statements of a method are what it mentions
head_and_body : (class : Word) (line : ℕ) (synced : Bool) (name : Ident) (params : List Ident) (statements : List StmtTree)
    → head_of class line synced name ++ body (owner_of class name) params statements ≡ of_member class (member.Method line synced name params statements)
head_and_body class line synced name params statements = append_assoc (word_of class line synced name) (on name.line (method name.name) ∷ []) (body (owner_of class name) params statements)

-- what is told of the head, or of the statements, is told of the method
pub told_of_head : (source : Source) (before : List Mention) (class : Word) (line : ℕ) (synced : Bool) (name : Ident) (params : List Ident) (statements : List StmtTree) (e : NameFault)
    → IsToldOf source before (head_of class line synced name) e → IsToldOf source before (of_member class (member.Method line synced name params statements)) e
told_of_head source before class line synced name params statements e told =
    subst (λ ms. IsToldOf source before ms e) (head_and_body class line synced name params statements) (told_front source before (head_of class line synced name) (body (owner_of class name) params statements) e told)

pub told_of_statements : (source : Source) (before : List Mention) (class : Word) (line : ℕ) (synced : Bool) (name : Ident) (params : List Ident) (statements : List StmtTree) (old now : List Word) (e : NameFault)
    → AreFine source.config source.ast before (head_of class line synced name) → AnswersBody source (owner_of class name) (behind before (head_of class line synced name)) params statements old now (Err e)
    → IsToldOf source before (of_member class (member.Method line synced name params statements)) e
told_of_statements source before class line synced name params statements old now e fine told =
    let head = head_of class line synced name in
    subst (λ ms. IsToldOf source before ms e) (head_and_body class line synced name params statements)
    (told_behind source before head (body (owner_of class name) params statements) e fine (told_of_body source (owner_of class name) (behind before head) params statements old now e told))

-- the head is met, and the statements behind it
text_met_head : (before : List Mention) (class : Word) (line : ℕ) (synced : Bool) (name : Ident) {resolved : Resolved} → HasMetText before resolved → HasMetText (behind before (head_of class line synced name)) resolved
text_met_head before class line synced name {resolved} met =
    subst (λ now. HasMetText now resolved) (sym (behind_head before class line synced name))
    (text_met_method (behind before (word_of class line synced name)) name.line name.name (text_met_word before class line synced name met))

text_met_body : (before ms : List Mention) (resolved : Resolved) (texts : List (Bor Word)) → HasMetText before resolved → HasTexts (behind before ms) (words_of texts) → MentionsPass is_of_body ms
    → HasMetText (behind before ms) (record resolved { texts = texts })
text_met_body before ms resolved texts met now each = record {
  names = met.names ∙ ap reverse (sym (body_keeps_classes ms before each));
  statics = met.statics ∙ ap length (sym (body_keeps_statics ms before each));
  texts = now;
  threads = met.threads ∙ ap reverse (sym (body_keeps_threads ms before each));
}

class_met_body : (before ms : List Mention) (class : Class) → HasMetClass before class → MentionsPass is_of_body ms → HasMetClass (behind before ms) class
class_met_body before ms class met each = record {
  members = met.members ∙ ap reverse (sym (body_keeps_members ms before each));
  fields = met.fields ∙ ap length (sym (body_keeps_fields ms before each));
  methods = met.methods ∙ ap length (sym (body_keeps_methods ms before each));
}

-- The parts of a method are those of its class, head and statements.
pub record IsMade (of : Class) (takes : List Ident) (grade : Option Grade) (inner : Body) (made : Method) : Type 0 where
  pub class : made.class ≡ of.number
  pub params : made.params ≡ length takes
  pub vars : made.vars ≡ inner.vars
  pub synced : made.synced ≡ grade
  pub body : made.body ≡ inner.statements

-- the method means what it is
method_means : (source : Source) (class now : Class) (line : ℕ) (synced : Bool) (name : Ident) (params : List Ident) (statements : List StmtTree) (grade : Option Grade) (inner : Body) (made : Method)
    → now.number ≡ class.number → IsSynced source.config class.name.now name.name synced grade → IsMade now params grade inner made → IsNamedLock source class.name.now name.name made.named
    → IsBody source (owner_of class.name.now name) params statements inner.vars inner.statements
    → IsMethod source (record { number = class.number; class = class.name.now; synced = synced; name = name.name; params = params; statements = statements }) made
method_means source class now line synced name params statements grade inner made number monitor is lock means = record {
  of_class = is.class ∙ number;
  all_params = is.params;
  lock = lock;
  monitor = subst (IsSynced source.config class.name.now name.name synced) (sym is.synced) monitor;
  statements =
      subst (λ vars. IsBody source (owner_of class.name.now name) params statements vars made.body) (sym is.vars)
      (subst (λ all. IsBody source (owner_of class.name.now name) params statements inner.vars all) (sym is.body) means);
}

-- a method is there in numbers
pub method_right : (source : Source) (before : List Mention) (resolved : Resolved) (class now : Class) (line : ℕ) (synced : Bool) (name : Ident) (params : List Ident) (statements : List StmtTree)
    (grade : Option Grade) (texts : List (Bor Word)) (inner : Body) (methods : List Method) (made : Method)
    → HasMetText before resolved → IsHeadRight source before line synced name class now grade
    → IsBodyRight source (owner_of class.name.now name) (behind before (head_of class.name.now line synced name)) params statements (words_of resolved.texts) (words_of texts) inner
    → IsMade now params grade inner made → (HasNoFault source.config source.ast → IsNamedLock source class.name.now name.name made.named) → methods ≡ resolved.methods ++ made ∷ []
    → AreMembersRight source before (of_member class.name.now (member.Method line synced name params statements)) (member.Method line synced name params statements ∷ []) resolved (record resolved { texts = texts; methods = methods }) class now
method_right source before resolved class now line synced name params statements grade texts inner methods made met head right is lock pushed =
    let front = head_of class.name.now line synced name in
    let rest = body (owner_of class.name.now name) params statements in
    let there = behind before front in
    let each = body_of_body (owner_of class.name.now name) params statements in
    let new : Resolved = record resolved { texts = texts; methods = methods } in
    let tree : MethodTree = record { number = class.number; class = class.name.now; synced = synced; name = name.name; params = params; statements = statements } in
    let text_met = text_met_body there rest resolved texts (text_met_head before class.name.now line synced name met) right.texts each in
    subst (λ ms. AreMembersRight source before ms (member.Method line synced name params statements ∷ []) resolved new class now) (head_and_body class.name.now line synced name params statements)
    (record {
      fine = fine_both source.config source.ast before front rest head.fine right.fine;
      met = subst (λ later. HasMetText later new) (sym (behind_append before front rest)) (record { names = text_met.names; statics = text_met.statics; texts = text_met.texts; threads = text_met.threads });
      class_met = subst (λ later. HasMetClass later now) (sym (behind_append before front rest)) (class_met_body there rest now head.met each);
      grown = right.grown;
      name = ap (λ word. word.now) head.name;
      number = head.number;
      names = refl;
      classes = refl;
      bodies = refl;
      means = λ goes. record {
        fields = λ trees all. none_behind (IsField source class.name.now) trees now.fields (subst (λ shapes. AllZip (IsField source class.name.now) trees shapes) (sym head.fields) all);
        methods = λ trees all.
            subst (λ more. AllZip (IsMethod source) (trees ++ tree ∷ []) more) (sym pushed)
            (zip_append (IsMethod source) trees resolved.methods (tree ∷ []) (made ∷ []) all
            (method_means source class now line synced name params statements grade inner made head.number head.monitor is (lock goes.no_fault) (right.means goes), tt));
      };
    })

-- behind the head of a method its body begins, and the same text literals were mentioned
pub body_begins : (before : List Mention) (class : Word) (line : ℕ) (synced : Bool) (name : Ident) → in_body (behind before (head_of class line synced name)) ≡ []
body_begins before class line synced name =
    ap in_body (behind_head before class line synced name) ∙ part_begins begins_body (on name.line (method name.name)) (behind before (word_of class line synced name)) refl

pub texts_met : (before : List Mention) (class : Word) (line : ℕ) (synced : Bool) (name : Ident) {resolved : Resolved} → HasMetText before resolved
    → HasTexts (behind before (head_of class line synced name)) (words_of resolved.texts)
texts_met before class line synced name met = (text_met_head before class line synced name met).texts

-- What is walked of a method: the head, and the statements and parameters as slices, behind which the class has the same name.
pub record IsWalked (source : Source) (before : List Mention) (one : Member) (class now : Class) (grade : Option Grade) : Type 0 where
  pub line : ℕ
  pub synced : Bool
  pub name : Ident
  pub params : List Ident
  pub statements : List StmtTree
  pub is : one ≡ member.Method line synced name params statements
  pub head : IsHeadRight source before line synced name class now grade

module _ (source : Source) (before : List Mention) (one : Member) (resolved : Resolved) (class now : Class) (grade : Option Grade) (walked : IsWalked source before one class now grade) where
  -- what is told of the statements is told of the member
  pub told_of_method : (params : List Ident) (statements : List StmtTree) (texts : List (Bor Word)) (e : NameFault) → params ≡ walked.params → statements ≡ walked.statements
      → AnswersBody source (owner_of now.name.now walked.name) (behind before (head_of class.name.now walked.line walked.synced walked.name)) params statements (words_of resolved.texts) (words_of texts) (Err e)
      → IsToldOf source before (of_member class.name.now one) e
  told_of_method params statements texts e same_params same_statements answer =
      let there = behind before (head_of class.name.now walked.line walked.synced walked.name) in
      let old = words_of resolved.texts in
      let new = words_of texts in
      subst (λ m. IsToldOf source before (of_member class.name.now m) e) (sym walked.is)
      (told_of_statements source before class.name.now walked.line walked.synced walked.name walked.params walked.statements old new e walked.head.fine
      (subst (λ (word : Bor Word). AnswersBody source (owner_of word.now walked.name) there walked.params walked.statements old new (Err e)) walked.head.name
      (subst (λ ps. AnswersBody source (owner_of now.name.now walked.name) there ps walked.statements old new (Err e)) same_params
      (subst (λ ss. AnswersBody source (owner_of now.name.now walked.name) there params ss old new (Err e)) same_statements answer))))

  -- the member is there in numbers
  pub method_there : (params takes : List Ident) (statements : List StmtTree) (texts : List (Bor Word)) (inner : Body) (methods : List Method) (made : Method)
      → params ≡ walked.params → statements ≡ walked.statements → takes ≡ walked.params → HasMetText before resolved
      → IsBodyRight source (owner_of now.name.now walked.name) (behind before (head_of class.name.now walked.line walked.synced walked.name)) params statements (words_of resolved.texts) (words_of texts) inner
      → IsMade now takes grade inner made → (HasNoFault source.config source.ast → IsNamedLock source now.name.now walked.name.name made.named) → methods ≡ resolved.methods ++ made ∷ []
      → AreMembersRight source before (of_member class.name.now one) (one ∷ []) resolved (record resolved { texts = texts; methods = methods }) class now
  method_there params takes statements texts inner methods made same_params same_statements same_takes met right is lock pushed =
      let there = behind before (head_of class.name.now walked.line walked.synced walked.name) in
      let old = words_of resolved.texts in
      let new = words_of texts in
      subst (λ m. AreMembersRight source before (of_member class.name.now m) (m ∷ []) resolved (record resolved { texts = texts; methods = methods }) class now) (sym walked.is)
      (method_right source before resolved class now walked.line walked.synced walked.name walked.params walked.statements grade texts inner methods made met walked.head
      (subst (λ (word : Bor Word). IsBodyRight source (owner_of word.now walked.name) there walked.params walked.statements old new inner) walked.head.name
      (subst (λ ps. IsBodyRight source (owner_of now.name.now walked.name) there ps walked.statements old new inner) same_params
      (subst (λ ss. IsBodyRight source (owner_of now.name.now walked.name) there params ss old new inner) same_statements right)))
      (subst (λ ps. IsMade now ps grade inner made) same_takes is)
      (λ fine. subst (λ (word : Bor Word). IsNamedLock source word.now walked.name.name made.named) walked.head.name (lock fine)) pushed)
