-- What was mentioned before a token. The mentions are given with the nearest first.
use Rattle.std.specs.Prelude.{ℤ, Bool, true, false, not, List, filter_map, take_while, Option, Some, None}
use Rattle.dso_config_entries.specs.Words.{Word}
use Rattle.dso_class.specs.Mentions.{Mention, Mentioned, class, field, static, method, parameter, variable, thread}
use Rattle.dso_class.specs.Mentions.{client, text}

-- the class that is declared
abbrev pub class_in : Mentioned → Option Word
class_in (class name) = Some name
class_in other = None

-- the field, static field or method that is declared
abbrev pub member_in : Mentioned → Option Word
member_in (field name) = Some name
member_in (static name) = Some name
member_in (method name) = Some name
member_in other = None

-- the field that is declared
abbrev pub field_in : Mentioned → Option Word
field_in (field name) = Some name
field_in other = None

-- the static field that is declared
abbrev pub static_in : Mentioned → Option Word
static_in (static name) = Some name
static_in other = None

-- the method that is declared
abbrev pub method_in : Mentioned → Option Word
method_in (method name) = Some name
method_in other = None

-- the parameter that is declared
abbrev pub parameter_in : Mentioned → Option Word
parameter_in (parameter name) = Some name
parameter_in other = None

-- the parameter or variable that is declared
abbrev pub variable_in : Mentioned → Option Word
variable_in (parameter name) = Some name
variable_in (variable name) = Some name
variable_in other = None

-- the text literal
abbrev pub text_in : Mentioned → Option Word
text_in (text content) = Some content
text_in other = None

-- the client that a thread is for
abbrev pub thread_in : Mentioned → Option ℤ
thread_in (thread number) = Some number
thread_in other = None

-- all that were mentioned of a sort
abbrev pub in_text : {A : Type 0} → (Mentioned → Option A) → List Mention → List A
in_text sort before = filter_map (λ mention. sort mention.what) before

-- the mention with which a class begins: its name
abbrev pub begins_class : Mentioned → Bool
begins_class (class name) = true
begins_class other = false

-- the mention with which a body begins: the method's name or the thread's number
abbrev pub begins_body : Mentioned → Bool
begins_body (method name) = true
begins_body (client number) = true
begins_body other = false

-- what was mentioned in the class so far
abbrev pub in_class : List Mention → List Mention
in_class before = take_while (λ mention. not (begins_class mention.what)) before

-- what was mentioned in the body so far
abbrev pub in_body : List Mention → List Mention
in_body before = take_while (λ mention. not (begins_body mention.what)) before
