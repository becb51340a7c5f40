-- How parts of the walk compose: one part behind another, and one mention alone.
use Rattle.std.proofs.Common.{◌≡◌, ℕ, suc, ◌+◌, arith, false, not, cond, take, List, [], ◌∷◌, ◌++◌, reverse, Option, None, Result, Ok, Err, refl, sym, subst, ap, ◌∙◌, append_assoc, append-nil}
use Rattle.std.specs.List.{cons_option, prefix_len}
use Rattle.dso_base.specs.declared.lock.Grade.{Grade}
use Rattle.dso_class.specs.declared.fault.NameKind.{NameKind}
use Rattle.dso_class.specs.declared.fault.NameFault.{NameFault}
use Rattle.dso_class.specs.declared.fault.NameFault.TheVariants as fault
use Rattle.dso_config_entries.specs.Words.{Word}
use Rattle.dso_class.specs.Mentions.{Mention, Mentioned, Owner, on}
use Rattle.dso_class.specs.FaultsAmong.{behind, IsFine, IsFault}
use Rattle.dso_class.specs.Numbers.{Numbers}
use Rattle.dso_class.specs.TextProgram.{Source, numbers_of}
use Rattle.dso_class.specs.BodyWalk.{Begins, Met, HasMet, GoesOn, IsRight, IsWalked, IsMade}
use Rattle.dso_config_entries.specs.LastAndFirst.{AreFirsts}
use Rattle.dso_class.specs.PrecedingMentions.{in_text, in_body, text_in, variable_in, begins_body}
use Rattle.dso_class.proofs.mentions.Fine.{behind_append, fine_both}
use Rattle.dso_class.proofs.rules.Composing.{fault_in_front, fault_behind, fault_alone}

-- a list begins with itself
pub begins_same : {A : Type 0} (xs : List A) → Begins xs xs
begins_same xs = record { rest = []; is = sym (append-nil xs) }

-- what begins with a list that begins with a third begins with that one
pub begins_trans : {A : Type 0} {xs ys zs : List A} → Begins xs ys → Begins ys zs → Begins xs zs
begins_trans {xs = xs} first second = record {
  rest = first.rest ++ second.rest;
  is = second.is ∙ ap (λ front. front ++ second.rest) first.is ∙ append_assoc xs first.rest second.rest;
}

-- numbers that go on where a part ended go on where it began
pub goes_on_before : {source : Source} {owner : Owner} {met now : Met} {words : List Word} {grade : Option Grade} → Begins met.texts now.texts → Begins met.variables now.variables
    → GoesOn source owner now words grade → GoesOn source owner met words grade
goes_on_before texts variables later = record { no_fault = later.no_fault; texts = begins_trans texts later.texts; variables = begins_trans variables later.variables; autolock = later.autolock }

-- two parts that are right are right together
pub right_append : {source : Source} {owner : Owner} {before xs ys : List Mention} {met mid now : Met} {One Two : Numbers → Type 0} (Both : Numbers → Type 0)
    → ((n : Numbers) → One n → Two n → Both n) → IsRight source owner before xs met mid One → IsRight source owner (behind before xs) ys mid now Two → IsRight source owner before (xs ++ ys) met now Both
right_append {source} {owner} {before} {xs} {ys} {met} {mid} {now} Both join one two = record {
  fine = fine_both source.config source.ast before xs ys one.fine two.fine;
  met = subst (λ all. HasMet all now) (sym (behind_append before xs ys)) two.met;
  texts = begins_trans one.texts two.texts;
  variables = begins_trans one.variables two.variables;
  means = λ words grade goes. join (numbers_of source words grade) (one.means words grade (goes_on_before two.texts two.variables goes)) (two.means words grade goes);
}

-- a right part of another meaning
pub right_as : {source : Source} {owner : Owner} {before xs : List Mention} {met now : Met} {One : Numbers → Type 0} (Other : Numbers → Type 0)
    → ((n : Numbers) → One n → Other n) → IsRight source owner before xs met now One → IsRight source owner before xs met now Other
right_as {source} Other turn one = record {
  fine = one.fine;
  met = one.met;
  texts = one.texts;
  variables = one.variables;
  means = λ words grade goes. turn (numbers_of source words grade) (one.means words grade goes);
}

-- nothing mentioned is right
pub right_nothing : {source : Source} {owner : Owner} {before : List Mention} {met : Met} (Means : Numbers → Type 0) → HasMet before met → ((n : Numbers) → Means n) → IsRight source owner before [] met met Means
right_nothing {source} {met = met} Means has means = record { fine = tt; met = has; texts = begins_same met.texts; variables = begins_same met.variables; means = λ words grade goes. means (numbers_of source words grade) }

-- a fault in the front is one of the whole
pub failed_first : {A B : Type 0} {source : Source} {owner : Owner} {before xs : List Mention} (ys : List Mention) {met mid now : Met} {One : Numbers → A → Type 0} (Both : Numbers → B → Type 0)
    (refused : NameFault) → IsWalked source owner before xs met mid One (Err refused) → IsWalked source owner before (xs ++ ys) met now Both (Err refused)
failed_first {source = source} {before = before} {xs = xs} ys Both (fault.At which line) broken = record { answer = fault_in_front source.config source.ast before xs ys which line broken.answer }
failed_first ys Both (fault.NoMemory refusal) broken = record { answer = tt }

-- a fault behind a right front is one of the whole
pub failed_behind : {A B : Type 0} {source : Source} {owner : Owner} {before xs ys : List Mention} {met mid now later : Met} {One : Numbers → Type 0} {Two : Numbers → A → Type 0} (Both : Numbers → B → Type 0)
    (refused : NameFault) → IsRight source owner before xs met mid One → IsWalked source owner (behind before xs) ys mid now Two (Err refused) → IsWalked source owner before (xs ++ ys) met later Both (Err refused)
failed_behind {source = source} {before = before} {xs = xs} {ys = ys} Both (fault.At which line) right broken = record { answer = fault_behind source.config source.ast before xs ys which line right.fine broken.answer }
failed_behind Both (fault.NoMemory refusal) right broken = record { answer = tt }

-- a fault is one whatever the part should have meant
pub failed_as : {A B : Type 0} {source : Source} {owner : Owner} {before xs : List Mention} {met now later : Met} {One : Numbers → A → Type 0} (Other : Numbers → B → Type 0)
    (refused : NameFault) → IsWalked source owner before xs met now One (Err refused) → IsWalked source owner before xs met later Other (Err refused)
failed_as Other (fault.At which line) broken = record { answer = broken.answer }
failed_as Other (fault.NoMemory refusal) broken = record { answer = tt }

-- a value that is made of what is right
pub made : {A : Type 0} {source : Source} {owner : Owner} {before xs : List Mention} {old now : Met} (Means : Numbers → A → Type 0) (result : Result A NameFault) (value : A)
    → IsMade result value → IsRight source owner before xs old now (λ n. Means n value) → IsWalked source owner before xs old now Means result
made {source = source} {owner} {before} {xs} {old} {now} Means (Ok given) value is right = record { answer = subst (λ v. IsRight source owner before xs old now (λ n. Means n v)) (sym is) right }
made Means (Err (fault.At which line)) value is right = absurd is
made Means (Err (fault.NoMemory refusal)) value is right = record { answer = tt }

-- a mention that begins no body is behind those of the body so far
pub in_body_more : (here : Mention) (before : List Mention) → begins_body here.what ≡ false → in_body (here ∷ before) ≡ here ∷ in_body before
in_body_more here before no_begin =
    let n = prefix_len (λ mention. not (begins_body mention.what)) before in
    let more : 1 + n ≡ suc n = omega arith in
    ap (λ begins. take (cond (not begins) (1 + n) 0) (here ∷ before)) no_begin ∙ ap (λ k. take k (here ∷ before)) more

-- a mention that is no text, variable or body's begin leaves what the walk has met
pub still_met : {before : List Mention} {old : Met} (here : Mention) → text_in here.what ≡ None → variable_in here.what ≡ None → begins_body here.what ≡ false → HasMet before old → HasMet (here ∷ before) old
still_met {before} {old} here no_text no_variable no_begin has = record {
  texts = record { firsts = subst (λ own. AreFirsts (reverse (cons_option own (in_text text_in before))) old.texts) (sym no_text) has.texts.firsts; few = has.texts.few };
  variables = has.variables ∙ ap reverse (sym (ap (in_text variable_in) (in_body_more here before no_begin) ∙ ap (λ own. cons_option own (in_text variable_in (in_body before))) no_variable));
  few_variables = has.few_variables;
  known = has.known;
}

-- one mention alone that is fine and leaves what the walk has met
pub right_alone : {source : Source} {owner : Owner} {before : List Mention} {old : Met} (line : ℕ) (here : Mentioned) (Means : Numbers → Type 0) → text_in here ≡ None → variable_in here ≡ None → begins_body here ≡ false
    → HasMet before old → IsFine source.config source.ast before here → ((words : List Word) (grade : Option Grade) → GoesOn source owner old words grade → Means (numbers_of source words grade))
    → IsRight source owner before (on line here ∷ []) old old Means
right_alone {old = old} line here Means no_text no_variable no_begin has fine means = record {
  fine = (fine, tt);
  met = still_met (on line here) no_text no_variable no_begin has;
  texts = begins_same old.texts;
  variables = begins_same old.variables;
  means = means;
}

-- one mention alone with its fault
pub failed_alone : {A : Type 0} {source : Source} {owner : Owner} {before : List Mention} {old now : Met} (line : ℕ) (here : Mentioned) (which : NameKind) (Means : Numbers → A → Type 0)
    → IsFault source.config source.ast before here which → IsWalked source owner before (on line here ∷ []) old now Means (Err (fault.At which line))
failed_alone {source = source} {before = before} line here which Means broken = record { answer = fault_alone source.config source.ast before line here which broken }

-- a part that begins with one that fails, fails with it
pub first_fails : {A B : Type 0} {source : Source} {owner : Owner} {before all xs : List Mention} {old mid now : Met} {One : Numbers → A → Type 0} {Both : Numbers → B → Type 0} {result : Result B NameFault}
    (ys : List Mention) (refused : NameFault) → all ≡ xs ++ ys → result ≡ Err refused → IsWalked source owner before xs old mid One (Err refused) → IsWalked source owner before all old now Both result
first_fails {source = source} {owner} {before} {xs = xs} {old = old} {now = now} {Both = Both} {result} ys refused is told broken =
    subst (λ all. IsWalked source owner before all old now Both result) (sym is)
    (subst (λ result. IsWalked source owner before (xs ++ ys) old now Both result) (sym told) (failed_first ys Both refused broken))

-- a part of two of which the second fails, fails with it
pub second_fails : {A B C : Type 0} {source : Source} {owner : Owner} {before all xs ys : List Mention} {old mid now later : Met} {One : Numbers → A → Type 0} {Two : Numbers → C → Type 0}
    {Both : Numbers → B → Type 0} {result : Result B NameFault} {value : A} (refused : NameFault) → all ≡ xs ++ ys → result ≡ Err refused → IsWalked source owner before xs old mid One (Ok value)
    → IsWalked source owner (behind before xs) ys mid now Two (Err refused) → IsWalked source owner before all old later Both result
second_fails {source = source} {owner} {before} {xs = xs} {ys = ys} {old = old} {later = later} {Both = Both} {result} refused is told first broken =
    subst (λ all. IsWalked source owner before all old later Both result) (sym is)
    (subst (λ result. IsWalked source owner before (xs ++ ys) old later Both result) (sym told) (failed_behind Both refused first.answer broken))

-- a value that is made of two parts
pub both_made : {A B C : Type 0} {source : Source} {owner : Owner} {before all xs ys : List Mention} {old mid now : Met} {One : Numbers → A → Type 0} {Two : Numbers → C → Type 0}
    {Both : Numbers → B → Type 0} {result : Result B NameFault} {one : A} {two : C} (value : B) → all ≡ xs ++ ys → IsMade result value → ((n : Numbers) → One n one → Two n two → Both n value)
    → IsWalked source owner before xs old mid One (Ok one) → IsWalked source owner (behind before xs) ys mid now Two (Ok two) → IsWalked source owner before all old now Both result
both_made {source = source} {owner} {before} {old = old} {now = now} {Both = Both} {result} value is makes join first second =
    subst (λ all. IsWalked source owner before all old now Both result) (sym is) (made Both result value makes (right_append (λ n. Both n value) join first.answer second.answer))

-- a part that is another one fails with it
pub only_fails : {A B : Type 0} {source : Source} {owner : Owner} {before all xs : List Mention} {old mid now : Met} {One : Numbers → A → Type 0} {Both : Numbers → B → Type 0} {result : Result B NameFault}
    (refused : NameFault) → all ≡ xs → result ≡ Err refused → IsWalked source owner before xs old mid One (Err refused) → IsWalked source owner before all old now Both result
only_fails {source = source} {owner} {before} {xs = xs} {old = old} {now = now} {Both = Both} {result} refused is told broken =
    subst (λ all. IsWalked source owner before all old now Both result) (sym is)
    (subst (λ result. IsWalked source owner before xs old now Both result) (sym told) (failed_as Both refused broken))

-- a value that is made of one part
pub one_made : {A B : Type 0} {source : Source} {owner : Owner} {before all xs : List Mention} {old now : Met} {One : Numbers → A → Type 0} {Other : Numbers → B → Type 0} {result : Result B NameFault} {one : A}
    (value : B) → all ≡ xs → IsMade result value → ((n : Numbers) → One n one → Other n value) → IsWalked source owner before xs old now One (Ok one) → IsWalked source owner before all old now Other result
one_made {source = source} {owner} {before} {old = old} {now = now} {Other = Other} {result} value is makes turn first =
    subst (λ all. IsWalked source owner before all old now Other result) (sym is) (made Other result value makes (right_as (λ n. Other n value) turn first.answer))

-- a value for which nothing is mentioned
pub none_made : {B : Type 0} {source : Source} {owner : Owner} {before all : List Mention} {old : Met} {Other : Numbers → B → Type 0} {result : Result B NameFault}
    (value : B) → all ≡ [] → IsMade result value → ((n : Numbers) → Other n value) → HasMet before old → IsWalked source owner before all old old Other result
none_made {source = source} {owner} {before} {old = old} {Other = Other} {result} value is makes means has =
    subst (λ all. IsWalked source owner before all old old Other result) (sym is) (made Other result value makes (right_nothing (λ n. Other n value) has means))

-- a part that is another one answers as that one does
pub only_tail : {A : Type 0} {source : Source} {owner : Owner} {before all xs : List Mention} {old now : Met} {One Other : Numbers → A → Type 0} (result : Result A NameFault) → all ≡ xs
    → ((n : Numbers) (value : A) → One n value → Other n value) → IsWalked source owner before xs old now One result → IsWalked source owner before all old now Other result
only_tail (Ok value) is turn walked = one_made value is refl (λ n. turn n value) walked
only_tail (Err refused) is turn walked = only_fails refused is refl walked

-- a part of two answers as the second does
pub second_tail : {A B : Type 0} {source : Source} {owner : Owner} {before all xs ys : List Mention} {old mid now : Met} {One : Numbers → A → Type 0} {Two Both : Numbers → B → Type 0} {one : A}
    (result : Result B NameFault) → all ≡ xs ++ ys → ((n : Numbers) (value : B) → One n one → Two n value → Both n value) → IsWalked source owner before xs old mid One (Ok one)
    → IsWalked source owner (behind before xs) ys mid now Two result → IsWalked source owner before all old now Both result
second_tail (Ok value) is join first second = both_made value is refl (λ n. join n value) first second
second_tail (Err refused) is join first second = second_fails refused is refl first second

-- a part of three of which the second fails, fails with it
pub second_of_three : {A B C : Type 0} {source : Source} {owner : Owner} {before all xs ys : List Mention} {old mid late now : Met} {One : Numbers → A → Type 0} {Two : Numbers → C → Type 0}
    {Both : Numbers → B → Type 0} {result : Result B NameFault} {one : A} (zs : List Mention) (refused : NameFault) → all ≡ xs ++ (ys ++ zs) → result ≡ Err refused
    → IsWalked source owner before xs old mid One (Ok one) → IsWalked source owner (behind before xs) ys mid late Two (Err refused) → IsWalked source owner before all old now Both result
second_of_three {source = source} {owner} {before} {xs = xs} {ys} {mid = mid} {late} {Two = Two} zs refused is told first broken =
    let later : IsWalked source owner (behind before xs) (ys ++ zs) mid late Two (Err refused) = failed_first zs Two refused broken in
    second_fails refused is told first later

-- a part of three of which the third fails, fails with it
pub third_of_three : {A B C D : Type 0} {source : Source} {owner : Owner} {before all xs ys zs : List Mention} {old mid late later now : Met} {One : Numbers → A → Type 0} {Two : Numbers → C → Type 0}
    {Three : Numbers → D → Type 0} {Both : Numbers → B → Type 0} {result : Result B NameFault} {one : A} {two : C} (refused : NameFault) → all ≡ xs ++ (ys ++ zs) → result ≡ Err refused
    → IsWalked source owner before xs old mid One (Ok one) → IsWalked source owner (behind before xs) ys mid late Two (Ok two)
    → IsWalked source owner (behind (behind before xs) ys) zs late later Three (Err refused) → IsWalked source owner before all old now Both result
third_of_three {source = source} {owner} {before} {xs = xs} {ys} {zs} {mid = mid} {later = later} {Three = Three} refused is told first second broken =
    let behind_it : IsWalked source owner (behind before xs) (ys ++ zs) mid later Three (Err refused) = failed_behind Three refused second.answer broken in
    second_fails refused is told first behind_it

-- a value that is made of three parts
pub three_made : {A B C D : Type 0} {source : Source} {owner : Owner} {before all xs ys zs : List Mention} {old mid late now : Met} {One : Numbers → A → Type 0} {Two : Numbers → C → Type 0}
    {Three : Numbers → D → Type 0} {Both : Numbers → B → Type 0} {result : Result B NameFault} {one : A} {two : C} {three : D} (value : B) → all ≡ xs ++ (ys ++ zs) → IsMade result value
    → ((n : Numbers) → One n one → Two n two → Three n three → Both n value) → IsWalked source owner before xs old mid One (Ok one) → IsWalked source owner (behind before xs) ys mid late Two (Ok two)
    → IsWalked source owner (behind (behind before xs) ys) zs late now Three (Ok three) → IsWalked source owner before all old now Both result
three_made {source = source} {owner} {before} {all} {old = old} {now = now} {Two = Two} {Three} {Both} {result} {two = two} {three} value is makes join first second third =
    subst (λ all. IsWalked source owner before all old now Both result) (sym is)
    (made Both result value makes
    (right_append (λ n. Both n value) (λ n one rest. join n one rest.0 rest.1) first.answer (right_append (λ n. Two n two × Three n three) (λ n two three. (two, three)) second.answer third.answer)))

-- a part that begins with two, of which the second fails, fails with it
pub within_fails : {A B C : Type 0} {source : Source} {owner : Owner} {before all front xs ys : List Mention} {old mid late now : Met} {One : Numbers → A → Type 0} {Two : Numbers → C → Type 0}
    {Both : Numbers → B → Type 0} {result : Result B NameFault} {one : A} (zs : List Mention) (refused : NameFault) → all ≡ front ++ zs → front ≡ xs ++ ys → result ≡ Err refused
    → IsWalked source owner before xs old mid One (Ok one) → IsWalked source owner (behind before xs) ys mid late Two (Err refused) → IsWalked source owner before all old now Both result
within_fails {source = source} {owner} {before} {front = front} {old = old} {late = late} {Two = Two} zs refused is parts told first broken =
    let whole : IsWalked source owner before front old late Two (Err refused) = second_fails refused parts refl first broken in
    first_fails zs refused is told whole

-- a part of two and one behind them for which nothing is mentioned answers as the last does
pub third_tail : {A B C : Type 0} {source : Source} {owner : Owner} {before all xs ys : List Mention} {old mid late now : Met} {One : Numbers → A → Type 0} {Two : Numbers → C → Type 0}
    {Three Both : Numbers → B → Type 0} {one : A} {two : C} (result : Result B NameFault) → all ≡ xs ++ ys → ((n : Numbers) (value : B) → One n one → Two n two → Three n value → Both n value)
    → IsWalked source owner before xs old mid One (Ok one) → IsWalked source owner (behind before xs) ys mid late Two (Ok two)
    → IsWalked source owner (behind (behind before xs) ys) [] late now Three result → IsWalked source owner before all old now Both result
third_tail {xs = xs} {ys} (Ok value) is join first second third = three_made value (is ∙ ap (λ rest. xs ++ rest) (sym (append-nil ys))) refl (λ n. join n value) first second third
third_tail {xs = xs} {ys} (Err refused) is join first second third = third_of_three refused (is ∙ ap (λ rest. xs ++ rest) (sym (append-nil ys))) refl first second third

-- what can only fail for want of memory answers right when it fails
pub no_memory : {A B : Type 0} {source : Source} {owner : Owner} {before all : List Mention} {old now : Met} {Both : Numbers → B → Type 0} {result : Result B NameFault} (wanted : A)
    (refused : NameFault) → result ≡ Err refused → IsMade {A = A} (Err refused) wanted → IsWalked source owner before all old now Both result
no_memory wanted (fault.At which line) told nothing = absurd nothing
no_memory {source = source} {owner} {before} {all} {old} {now} {Both} wanted (fault.NoMemory refusal) told nothing = subst (λ result. IsWalked source owner before all old now Both result) (sym told) (record { answer = tt })
