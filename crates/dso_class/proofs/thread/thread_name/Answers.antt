use Rattle.std.proofs.Common.{rules, ◌+◌, refl, subst}
use Rattle.std.proofs.lemmas.Int.{to_z-of_z}
use mir.Syntax.{w64}
use mir.Val.{SFits}
use Rattle.dso_class.specs.declared.fault.NameFault.TheVariants as fault
use Rattle.dso_class.specs.declared.fault.NameKind.TheVariants as kind
use Rattle.dso_class.specs.declared.fault.What.TheVariants as what
use Rattle.dso_class.specs.Heads.{IsThreadNamed, thread_head}
use Rattle.dso_class.specs.TextWalk.{IsToldOf}
use Rattle.dso_class.proofs.walks.ThreadItems as laws
use Rattle.dso_class.proofs.thread.thread_name.Goals as goal

pub returns-then-count-ge-MOST_THREADS : goal.returns-then-count-ge-MOST_THREADS
returns-then-count-ge-MOST_THREADS c source before same met =
    let fits : SFits w64 c.args.head.number = search rules in
    subst (λ number. IsToldOf source before (thread_head c.args.head.line number c.args.head.number_line) (fault.At (kind.TooMany what.Threads) c.args.head.line)) (to_z-of_z w64 c.args.head.number fits)
    (laws.thread_full source before c.args.head.line _ c.args.head.number_line c.args.bodies.now c.threads_of_client-count.result met c.threads_of_client-count.ensures c.if-count-ge-MOST_THREADS.true)

pub returns-in-None : goal.returns-in-None
returns-in-None c source before same met =
    let fits : SFits w64 c.args.head.number = search rules in
    subst (λ number. IsToldOf source before (thread_head c.args.head.line number c.args.head.number_line) (fault.At kind.NoSuchClient c.args.head.number_line)) (to_z-of_z w64 c.args.head.number fits)
    (laws.client_missing source before c.args.head.line _ c.args.head.number_line c.args.bodies.now c.threads_of_client-count.result met c.threads_of_client-count.ensures c.args.config.now same c.if-count-ge-MOST_THREADS.false
    (c.in-None.ensures.none.0 refl))

pub returns-in-Some : goal.returns-in-Some
returns-in-Some c source before same met =
    let fits : SFits w64 c.args.head.number = search rules in
    subst (λ number. IsThreadNamed source before c.args.head.line number c.args.head.number_line c.args.bodies.now (record { client = c.in-Some.client; index = c.threads_of_client-count.result + 1 })) (to_z-of_z w64 c.args.head.number fits)
    (laws.thread_named source before c.args.head.line _ c.args.head.number_line c.args.bodies.now c.threads_of_client-count.result met c.threads_of_client-count.ensures c.args.config.now c.in-Some.client same c.if-count-ge-MOST_THREADS.false
    c.in-Some.ensures.is c.in-Some.ensures.there)
