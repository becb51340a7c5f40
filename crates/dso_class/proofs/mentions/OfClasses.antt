-- What bodies and the members of classes mention, and what was declared behind them.
use Rattle.std.proofs.Common.{◌≡◌, refl, ℕ, Bool, true, false, if◌then◌else◌, List, [], ◌∷◌, map, flat_map, None}
use Rattle.dso_syntax.specs.declared.tree.Ident.{Ident}
use Rattle.dso_syntax.specs.declared.tree.Member.{Member}
use Rattle.dso_syntax.specs.declared.tree.Member.TheVariants as member
use Rattle.dso_syntax.specs.declared.tree.StmtTree.{StmtTree}
use Rattle.dso_config_entries.specs.Words.{Word}
use Rattle.dso_class.specs.Mentions.{Mention, Mentioned, on, Owner, statement, block, body, of_member, class, field, static, method, parameter, root, synchronized, thread}
use Rattle.dso_class.specs.PrecedingMentions.{class_in, member_in, field_in, static_in, method_in, thread_in, in_text, begins_class, begins_body, in_class}
use Rattle.dso_class.specs.FaultsAmong.{behind}
use Rattle.dso_class.proofs.mentions.OnlyUses.{is_in_body, MentionsPass, pass_append, pass_weaker, text_keeps, part_keeps, block_in_body, member_none, field_none, static_none, method_none, goes_on_class, goes_on_body}

-- what a body mentions: that of statements, and parameters
abbrev pub is_of_body : Mentioned → Bool
is_of_body (parameter name) = true
is_of_body other = is_in_body other

-- what a class mentions behind its name
abbrev pub is_of_class : Mentioned → Bool
is_of_class (field name) = true
is_of_class (static name) = true
is_of_class (method name) = true
is_of_class (root class' name) = true
is_of_class other = is_of_body other

-- what statements mention is of a body, and what a body mentions is of a class
pub in_body_of_body : (what : Mentioned) → is_in_body what ≡ true → is_of_body what ≡ true
in_body_of_body (parameter name) is = refl
in_body_of_body other is = is

pub of_body_of_class : (what : Mentioned) → is_of_body what ≡ true → is_of_class what ≡ true
of_body_of_class (field name) is = refl
of_body_of_class (static name) is = refl
of_body_of_class (method name) is = refl
of_body_of_class (root class' name) is = refl
of_body_of_class other is = is

-- a body declares no field, no static field, no method, no member at all, and no class and no body begins in it
pub body_field_none : (what : Mentioned) → is_of_body what ≡ true → field_in what ≡ None
body_field_none (parameter name) is = refl
body_field_none other is = field_none other is

pub body_static_none : (what : Mentioned) → is_of_body what ≡ true → static_in what ≡ None
body_static_none (parameter name) is = refl
body_static_none other is = static_none other is

pub body_method_none : (what : Mentioned) → is_of_body what ≡ true → method_in what ≡ None
body_method_none (parameter name) is = refl
body_method_none other is = method_none other is

pub body_no_class : (what : Mentioned) → is_of_body what ≡ true → begins_class what ≡ false
body_no_class (parameter name) is = refl
body_no_class other is = goes_on_class other is

pub body_no_body : (what : Mentioned) → is_of_body what ≡ true → begins_body what ≡ false
body_no_body (parameter name) is = refl
body_no_body other is = goes_on_body other is

pub body_member_none : (what : Mentioned) → is_of_body what ≡ true → member_in what ≡ None
body_member_none (parameter name) is = refl
body_member_none other is = member_none other is

-- a class declares no other class and no thread
pub class_class_none : (what : Mentioned) → is_of_class what ≡ true → class_in what ≡ None
class_class_none (class name) is = absurd (cc is)
class_class_none other is = refl

pub class_thread_none : (what : Mentioned) → is_of_class what ≡ true → thread_in what ≡ None
class_thread_none (thread number) is = absurd (cc is)
class_thread_none other is = refl

pub class_no_class : (what : Mentioned) → is_of_class what ≡ true → begins_class what ≡ false
class_no_class (class name) is = absurd (cc is)
class_no_class other is = refl

-- what a body mentions
pub params_of_body : (params : List Ident) → MentionsPass is_of_body (map (λ name. on name.line (parameter name.name)) params)
params_of_body [] = refl
params_of_body (name ∷ rest) = params_of_body rest

pub body_of_body : (owner : Owner) (params : List Ident) (statements : List StmtTree) → MentionsPass is_of_body (body owner params statements)
body_of_body owner params statements =
    let known = map (λ name. name.name) params in
    pass_append is_of_body (map (λ name. on name.line (parameter name.name)) params) (block (map (statement owner) statements) known) (params_of_body params)
    (pass_weaker is_in_body is_of_body in_body_of_body (block (map (statement owner) statements) known) (block_in_body owner statements known))

-- what the members of a class mention
synced_of_class : (synced : Bool) (line : ℕ) (class' name : Word) → MentionsPass is_of_class (if synced then on line (synchronized class' name) ∷ [] else [])
synced_of_class true line class' name = refl
synced_of_class false line class' name = refl

member_of_class : (class' : Word) (one : Member) → MentionsPass is_of_class (of_member class' one)
member_of_class class' (member.Field line kind name) = refl
member_of_class class' (member.Static line name) = refl
member_of_class class' (member.Method line synced name params statements) =
    let owner : Owner = record { class = class'; method = name.name; in_thread = false } in
    pass_append is_of_class (if synced then on line (synchronized class' name.name) ∷ [] else []) (on name.line (method name.name) ∷ body owner params statements) (synced_of_class synced line class' name.name)
    (pass_weaker is_of_body is_of_class of_body_of_class (body owner params statements) (body_of_body owner params statements))

pub members_of_class : (class' : Word) (members : List Member) → MentionsPass is_of_class (flat_map (of_member class') members)
members_of_class class' [] = refl
members_of_class class' (one ∷ rest) = pass_append is_of_class (of_member class' one) (flat_map (of_member class') rest) (member_of_class class' one) (members_of_class class' rest)

-- Behind a body there are the same members of the class: fields, methods, and all of them; and the same static fields of the text.
pub body_keeps_members : (ms before : List Mention) → MentionsPass is_of_body ms → in_text member_in (in_class (behind before ms)) ≡ in_text member_in (in_class before)
body_keeps_members = part_keeps member_in is_of_body body_member_none begins_class body_no_class

pub body_keeps_fields : (ms before : List Mention) → MentionsPass is_of_body ms → in_text field_in (in_class (behind before ms)) ≡ in_text field_in (in_class before)
body_keeps_fields = part_keeps field_in is_of_body body_field_none begins_class body_no_class

pub body_keeps_methods : (ms before : List Mention) → MentionsPass is_of_body ms → in_text method_in (in_class (behind before ms)) ≡ in_text method_in (in_class before)
body_keeps_methods = part_keeps method_in is_of_body body_method_none begins_class body_no_class

pub body_keeps_statics : (ms before : List Mention) → MentionsPass is_of_body ms → in_text static_in (behind before ms) ≡ in_text static_in before
body_keeps_statics = text_keeps static_in is_of_body body_static_none

-- behind a body there are the same classes and threads
pub body_keeps_classes : (ms before : List Mention) → MentionsPass is_of_body ms → in_text class_in (behind before ms) ≡ in_text class_in before
body_keeps_classes = text_keeps class_in is_of_body (λ what is. class_class_none what (of_body_of_class what is))

pub body_keeps_threads : (ms before : List Mention) → MentionsPass is_of_body ms → in_text thread_in (behind before ms) ≡ in_text thread_in before
body_keeps_threads = text_keeps thread_in is_of_body (λ what is. class_thread_none what (of_body_of_class what is))
