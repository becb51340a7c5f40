-- What the mentions of a text declare, sort by sort, is what the text declares.
use Rattle.std.proofs.Common.{◌≡◌, refl, sym, ap, ◌∙◌, ℕ, Bool, true, false, if◌then◌else◌, List, [], ◌∷◌, ◌++◌, map, flat_map, Option, None}
use Rattle.std.specs.List.{cons_option}
use Rattle.std.proofs.lemmas.List.{map-append}
use Rattle.std.proofs.lemmas.List.Elements.{filter_map-append}
use Rattle.dso_syntax.specs.declared.tree.Ident.{Ident}
use Rattle.dso_syntax.specs.declared.tree.Item.{Item}
use Rattle.dso_syntax.specs.declared.tree.Item.TheVariants as item
use Rattle.dso_syntax.specs.declared.tree.Member.{Member}
use Rattle.dso_syntax.specs.declared.tree.Member.TheVariants as member
use Rattle.dso_syntax.specs.declared.tree.StmtTree.{StmtTree}
use Rattle.dso_config_entries.specs.Words.{Word}
use Rattle.dso_class.specs.Mentions.{Mention, Mentioned, on, Owner, thread_owner, statement, block, body, of_member, of_item, method, parameter, synchronized}
use Rattle.dso_class.specs.PrecedingMentions.{class_in, field_in, static_in, method_in, parameter_in, thread_in, in_text}
use Rattle.dso_class.specs.Declarations.{fields_of, statics_of, methods_of, threads_of, class_names, all_statics}
use Rattle.dso_class.proofs.mentions.OfClasses.{is_of_body, is_of_class, of_body_of_class, body_field_none, body_static_none, body_method_none, class_class_none, class_thread_none, body_of_body, members_of_class}
use Rattle.dso_class.proofs.mentions.OnlyUses.{is_in_body, text_none, block_in_body, parameter_none}

-- the mentions of two lists, of a sort
pub text_append : {A : Type 0} (sort : Mentioned → Option A) (xs ys : List Mention) → in_text sort (xs ++ ys) ≡ in_text sort xs ++ in_text sort ys
text_append sort xs ys = filter_map-append (λ mention. sort mention.what) xs ys

-- the parameters of a body are those of its mentions
params_behind : (params : List Ident) (rest : List Mention) → in_text parameter_in rest ≡ [] → in_text parameter_in (map (λ name. on name.line (parameter name.name)) params ++ rest) ≡ map (λ name. name.name) params
params_behind [] rest none = none
params_behind (name ∷ others) rest none = ap (λ all. name.name ∷ all) (params_behind others rest none)

pub params_mentioned : (owner : Owner) (params : List Ident) (statements : List StmtTree) → in_text parameter_in (body owner params statements) ≡ map (λ name. name.name) params
params_mentioned owner params statements =
    let known = map (λ name. name.name) params in
    let behind = block (map (statement owner) statements) known in
    params_behind params behind (text_none parameter_in is_in_body parameter_none behind (block_in_body owner statements known))

-- what a method declares of a sort that its body doesn't
synced_mentioned : {A : Type 0} (sort : Mentioned → Option A) (none : (what : Mentioned) → is_of_body what ≡ true → sort what ≡ None) (synced : Bool) (line : ℕ) (class' name : Word)
    → in_text sort (if synced then on line (synchronized class' name) ∷ [] else []) ≡ []
synced_mentioned sort none true line class' name = ap (λ found. cons_option found []) (none (synchronized class' name) refl)
synced_mentioned sort none false line class' name = refl

method_mentioned : {A : Type 0} (sort : Mentioned → Option A) (none : (what : Mentioned) → is_of_body what ≡ true → sort what ≡ None)
    (class' : Word) (line : ℕ) (synced : Bool) (name : Ident) (params : List Ident) (statements : List StmtTree) (rest : List Mention)
    → in_text sort (of_member class' (member.Method line synced name params statements) ++ rest) ≡ cons_option (sort (method name.name)) [] ++ in_text sort rest
method_mentioned sort none class' line synced name params statements rest =
    let inner = body (record { class = class'; method = name.name; in_thread = false }) params statements in
    let front = if synced then on line (synchronized class' name.name) ∷ [] else [] in
    text_append sort (front ++ on name.line (method name.name) ∷ inner) rest
    ∙ ap (λ all. all ++ in_text sort rest) (text_append sort front (on name.line (method name.name) ∷ inner)
    ∙ ap (λ all. all ++ in_text sort (on name.line (method name.name) ∷ inner)) (synced_mentioned sort none synced line class' name.name)
    ∙ ap (λ all. cons_option (sort (method name.name)) all) (text_none sort is_of_body none inner (body_of_body (record { class = class'; method = name.name; in_thread = false }) params statements)))

-- the fields, static fields and methods of a class are those of its mentions
pub fields_mentioned : (class' : Word) (members : List Member) → in_text field_in (flat_map (of_member class') members) ≡ map (λ one. one.name) (fields_of members)
fields_mentioned class' [] = refl
fields_mentioned class' (member.Field line kind name ∷ rest) = ap (λ all. name.name ∷ all) (fields_mentioned class' rest)
fields_mentioned class' (member.Static line name ∷ rest) = fields_mentioned class' rest
fields_mentioned class' (member.Method line synced name params statements ∷ rest) =
    method_mentioned field_in body_field_none class' line synced name params statements (flat_map (of_member class') rest) ∙ fields_mentioned class' rest

pub statics_mentioned : (class' : Word) (members : List Member) → in_text static_in (flat_map (of_member class') members) ≡ map (λ one. one.field) (statics_of class' members)
statics_mentioned class' [] = refl
statics_mentioned class' (member.Field line kind name ∷ rest) = statics_mentioned class' rest
statics_mentioned class' (member.Static line name ∷ rest) = ap (λ all. name.name ∷ all) (statics_mentioned class' rest)
statics_mentioned class' (member.Method line synced name params statements ∷ rest) =
    method_mentioned static_in body_static_none class' line synced name params statements (flat_map (of_member class') rest) ∙ statics_mentioned class' rest

pub methods_mentioned : (number : ℕ) (class' : Word) (members : List Member) → in_text method_in (flat_map (of_member class') members) ≡ map (λ one. one.name) (methods_of number class' members)
methods_mentioned number class' [] = refl
methods_mentioned number class' (member.Field line kind name ∷ rest) = methods_mentioned number class' rest
methods_mentioned number class' (member.Static line name ∷ rest) = methods_mentioned number class' rest
methods_mentioned number class' (member.Method line synced name params statements ∷ rest) =
    method_mentioned method_in body_method_none class' line synced name params statements (flat_map (of_member class') rest) ∙ ap (λ all. name.name ∷ all) (methods_mentioned number class' rest)

-- a thread's body declares no class, no static field and no thread
thread_mentions : {A : Type 0} (sort : Mentioned → Option A) (none : (what : Mentioned) → is_of_body what ≡ true → sort what ≡ None) (statements : List StmtTree) (rest : List Mention)
    → in_text sort (body thread_owner [] statements ++ rest) ≡ in_text sort rest
thread_mentions sort none statements rest =
    text_append sort (body thread_owner [] statements) rest
    ∙ ap (λ all. all ++ in_text sort rest) (text_none sort is_of_body none (body thread_owner [] statements) (body_of_body thread_owner [] statements))

-- the members of a class declare no class and no thread
class_mentions : {A : Type 0} (sort : Mentioned → Option A) (none : (what : Mentioned) → is_of_class what ≡ true → sort what ≡ None) (class' : Word) (members : List Member) (rest : List Mention)
    → in_text sort (flat_map (of_member class') members ++ rest) ≡ in_text sort rest
class_mentions sort none class' members rest =
    text_append sort (flat_map (of_member class') members) rest
    ∙ ap (λ all. all ++ in_text sort rest) (text_none sort is_of_class none (flat_map (of_member class') members) (members_of_class class' members))

-- the classes, static fields and threads of a text are those of its mentions
pub classes_mentioned : (items : List Item) → in_text class_in (flat_map of_item items) ≡ class_names items
classes_mentioned [] = refl
classes_mentioned (item.Class line name members ∷ rest) =
    ap (λ all. name.name ∷ all) (class_mentions class_in class_class_none name.name members (flat_map of_item rest) ∙ classes_mentioned rest)
classes_mentioned (item.Thread line number number_line statements ∷ rest) =
    thread_mentions class_in (λ what is. class_class_none what (of_body_of_class what is)) statements (flat_map of_item rest) ∙ classes_mentioned rest

pub threads_mentioned : (items : List Item) → in_text thread_in (flat_map of_item items) ≡ map (λ tree. tree.client) (threads_of items)
threads_mentioned [] = refl
threads_mentioned (item.Class line name members ∷ rest) = class_mentions thread_in class_thread_none name.name members (flat_map of_item rest) ∙ threads_mentioned rest
threads_mentioned (item.Thread line number number_line statements ∷ rest) =
    ap (λ all. number ∷ all) (thread_mentions thread_in (λ what is. class_thread_none what (of_body_of_class what is)) statements (flat_map of_item rest) ∙ threads_mentioned rest)

pub all_statics_mentioned : (items : List Item) → in_text static_in (flat_map of_item items) ≡ map (λ one. one.field) (all_statics items)
all_statics_mentioned [] = refl
all_statics_mentioned (item.Class line name members ∷ rest) =
    text_append static_in (flat_map (of_member name.name) members) (flat_map of_item rest)
    ∙ ap (λ all. all ++ in_text static_in (flat_map of_item rest)) (statics_mentioned name.name members)
    ∙ ap (λ all. map (λ one. one.field) (statics_of name.name members) ++ all) (all_statics_mentioned rest)
    ∙ sym (map-append (λ one. one.field) (statics_of name.name members) (all_statics rest))
all_statics_mentioned (item.Thread line number number_line statements ∷ rest) = thread_mentions static_in body_static_none statements (flat_map of_item rest) ∙ all_statics_mentioned rest
