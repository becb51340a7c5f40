-- What a map's talk asks, and what it makes of the reply.
use Rattle.std.proofs.Common.{◌≡◌, refl, sym, ap, ◌∙◌, true, false, ℕ, zero, suc, List, [], ◌∷◌, None, Some}
use Rattle.dso_base.specs.declared.request.Fault.TheVariants.{BadValue}
use Rattle.dso_base.specs.declared.request.Reply.{Reply}
use Rattle.dso_base.specs.declared.request.Reply.TheVariants.{Done, Val}
use Rattle.dso_base.specs.declared.request.Request.{Request}
use Rattle.dso_base.specs.declared.request.Request.TheVariants as request
use Rattle.dso_base.specs.declared.value.Value.{Value}
use Rattle.dso_base.specs.declared.value.Value.TheVariants as value
use Rattle.dso_map.specs.declared.map_op.MapOp.{MapOp}
use Rattle.dso_map.specs.declared.map_op.MapOp.TheVariants as op
use Rattle.dso_map.specs.Calls.{ended_with, request_of, accepts, after_reply, map_op}
use Rattle.dso_map.specs.Fields.{place_of}
use Rattle.dso_map.specs.Talk.{Talk}
use Rattle.dso_map.specs.Talk.Talk.{Gets, Puts, Ends}
use Rattle.dso_machine.specs.Maps.{told, told_reply, call_map, args_of}
use Rattle.dso_machine.specs.Outcome.{State, Gives, Fails, Meaning, choose, on_value, on_reply, asked, ask, unwanted, done, got}

-- a request, and then what is made of the value that its reply gives
through : (f : Value → Meaning) (h : Reply → Meaning) (q : Request) (at : State) (rs : List Reply) → on_value f (on_reply h (asked [] q at rs)) ≡ on_reply (λ r u. on_value f (h r u)) (asked [] q at rs)
through f h q at [] = refl
through f h q at (r ∷ rs) = refl

-- what is asked is the talk's request
pub asks_told : (object : ℕ) (talk : Talk) (q : Request) (at : State) → request_of object talk ≡ Some q → on_reply (told_reply object talk) (ask q at) ≡ told object talk at
asks_told object (Gets f then) q at is =
    let same : request.Get object (place_of f) ≡ q = cc is in
    ap (λ p. on_reply (told_reply object (Gets f then)) (ask p at)) (sym same) ∙ sym (through _ got (request.Get object (place_of f)) at at.replies)
asks_told object (Puts f v then) q at is =
    let same : request.Put object (place_of f) v ≡ q = cc is in
    ap (λ p. on_reply (told_reply object (Puts f v then)) (ask p at)) (sym same) ∙ sym (through _ done (request.Put object (place_of f) v) at at.replies)
asks_told object (Ends v) q at is = absurd (cc is)

-- a reply that the talk can be told leads on in it
pub hears_told : (object : ℕ) (talk : Talk) (r : Reply) (at : State) → accepts talk r ≡ true → told_reply object talk r at ≡ told object (after_reply talk r) at
hears_told object (Gets f then) (Val v) at is = ap (λ b. choose b (told object (then v)) (Fails BadValue) at) is
hears_told object (Puts f v then) Done at is = refl
hears_told object (Gets f then) r at is = absurd (cc is)
hears_told object (Puts f v then) r at is = absurd (cc is)
hears_told object (Ends v) r at is = absurd (cc is)

-- any other is not wanted
pub not_told : (object : ℕ) (talk : Talk) (r : Reply) (at : State) → accepts talk r ≡ false → told_reply object talk r at ≡ unwanted r at
not_told object (Gets f then) (Val v) at is = ap (λ b. choose b (told object (then v)) (Fails BadValue) at) is
not_told object (Gets f then) r at is = refl
not_told object (Puts f v then) Done at is = absurd (cc is)
not_told object (Puts f v then) r at is = refl
not_told object (Ends v) r at is = refl

-- a talk that has ended gives its value
pub gives_ended : (object : ℕ) (talk : Talk) (v : Value) (at : State) → ended_with talk ≡ Some v → Gives v at ≡ told object talk at
gives_ended object (Ends w) v at is = let same : w ≡ v = cc is in ap (λ x. Gives x at) (sym same)
gives_ended object (Gets f then) v at is = absurd (cc is)
gives_ended object (Puts f w then) v at is = absurd (cc is)

-- one that asks nothing has ended
pub not_ended : (object : ℕ) (talk : Talk) → ended_with talk ≡ None → request_of object talk ≡ None → ⊥
not_ended object (Ends w) is none = cc is
not_ended object (Gets f then) is none = cc none
not_ended object (Puts f w then) is none = cc none

-- the arguments of the call that a method of the map is with some
pub args_are : (place : ℕ) (args : List Value) (call : MapOp) → map_op place args ≡ Some call → args_of call ≡ args
args_are zero (value.Long k ∷ []) call is = let same : op.Get k ≡ call = cc is in ap args_of (sym same)
args_are (suc zero) (value.Long k ∷ []) call is = let same : op.Has k ≡ call = cc is in ap args_of (sym same)
args_are (suc (suc zero)) [] call is = let same : op.Size ≡ call = cc is in ap args_of (sym same)
args_are (suc (suc (suc zero))) (value.Long k ∷ value.Ref (suc o) ∷ []) call is = let same : op.Put k (suc o) ≡ call = cc is in ap args_of (sym same)
args_are (suc (suc (suc (suc zero)))) (value.Long k ∷ []) call is = let same : op.Remove k ≡ call = cc is in ap args_of (sym same)
args_are place args call is = absurd (cc is)

-- a method of the map that is called with arguments of the right kinds
pub calls_map : (object place : ℕ) (args : List Value) (call : MapOp) (at : State) → map_op place args ≡ Some call
    → call_map object (args_of call) (Some call) at ≡ call_map object args (map_op place args) at
calls_map object place args call at is = ap (λ vs. call_map object vs (Some call) at) (args_are place args call is) ∙ ap (λ c. call_map object args c at) (sym is)
