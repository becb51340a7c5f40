-- Without replies left nothing is over: what a thread that runs has still to do.
use Rattle.std.proofs.Common.{◌≡◌, ℕ, List, [], ◌∷◌, ◌++◌, None, Some, refl, sym, ◌∙◌}
use Rattle.dso_base.specs.declared.lock.Grade.{Grade}
use Rattle.dso_base.specs.declared.lock.LockName.{LockName}
use Rattle.dso_base.specs.declared.lock.LockName.TheVariants.{Mon}
use Rattle.dso_base.specs.declared.request.Reply.{Reply}
use Rattle.dso_base.specs.declared.request.Reply.TheVariants.{Done, Local}
use Rattle.dso_base.specs.declared.request.Request.{Request}
use Rattle.dso_base.specs.declared.request.Request.TheVariants as request
use Rattle.dso_base.specs.declared.value.Value.{Value}
use Rattle.dso_machine.specs.declared.code.Code.{Code}
use Rattle.dso_machine.specs.declared.machine.Core.{Core}
use Rattle.dso_machine.specs.declared.continuation.End.{End}
use Rattle.dso_machine.specs.declared.continuation.End.TheVariants as end
use Rattle.dso_machine.specs.declared.continuation.Locked.{Locked}
use Rattle.dso_machine.specs.declared.continuation.Locked.TheVariants as locked
use Rattle.dso_machine.specs.declared.continuation.Monitor.{Monitor}
use Rattle.dso_machine.specs.declared.continuation.Monitor.TheVariants as monitor
use Rattle.dso_machine.specs.declared.continuation.Move.{Move}
use Rattle.dso_machine.specs.declared.continuation.Move.TheVariants as move
use Rattle.dso_machine.specs.declared.continuation.Now.{Now}
use Rattle.dso_machine.specs.declared.continuation.Now.TheVariants as now
use Rattle.dso_machine.specs.declared.continuation.OnReply.{OnReply}
use Rattle.dso_machine.specs.declared.continuation.OnReply.TheVariants as reply
use Rattle.dso_machine.specs.declared.continuation.OnValue.{OnValue}
use Rattle.dso_machine.specs.declared.continuation.OnValue.TheVariants as then
use Rattle.dso_machine.specs.declared.continuation.Task.{Task}
use Rattle.dso_machine.specs.declared.continuation.Task.TheVariants as task
use Rattle.dso_machine.specs.declared.continuation.Writing.{Writing}
use Rattle.dso_machine.specs.declared.continuation.Writing.TheVariants as write
use Rattle.dso_machine.specs.declared.tree.Expr.{Expr}
use Rattle.dso_machine.specs.declared.tree.Stmt.{Stmt}
use Rattle.dso_map.specs.Calls.{rest_of}
use Rattle.dso_machine.specs.Calls.{call_on, call_in}
use Rattle.dso_machine.specs.Expressions.{field_in, element_of, element_in, expr}
use Rattle.dso_machine.specs.Maps.{told_reply}
use Rattle.dso_machine.specs.Next.{finish}
use Rattle.dso_machine.specs.Outcome.{State, Outcome, Wants, Gives, Leaves, Fails, Hears, Over, Stopped, Meaning, on_value, on_reply, on_next_beside, holding, letting_go, monitor_of, asked, unwanted, done, made, got, seen, tell, getting, moved, moving, settling, entered}
use Rattle.dso_machine.specs.Continuation.{Completes, standing, ended, end_values, map_values, use_values, outer_of, block_at, loop_at, move_at, body_at, locked_at, arguments_at, written, used_monitor, used_value, heard, after_part, meant, environment_of}
use Rattle.dso_machine.specs.Statements.{put_field, put_field_in, put_element, put_element_in, bind_null, unless_woken, timed_out, ticks, waiting, wait, timed_wait, stmt, block, methods}
use Rattle.dso_machine.specs.Values.{binary, unary}
use Rattle.dso_machine.specs.Unwinding.{with_replies}
use Rattle.dso_machine.proofs.standing.NotOver.{Live, live_from, IsLive, live_tidy, live_value, live_letting_go, live_back, live_leave, live_settling, live_ticks, live_waiting, live_unless_woken, live_timed_out}
use Rattle.dso_machine.proofs.unwinding.Tidy.{IsTidy, tidy_after, tidy_holding, tidy_fails, tidy_gives, tidy_leaves}
use Rattle.dso_machine.proofs.unwinding.Parts.{tidy_told, tidy_told_reply, tidy_array, tidy_assign, tidy_bind_null, tidy_boolean, tidy_branch, tidy_call, tidy_call_in, tidy_done, tidy_element, tidy_element_in, tidy_field, tidy_field_in, tidy_get, tidy_getting, tidy_got, tidy_made, tidy_monitor, tidy_moved, tidy_moving, tidy_object, tidy_put_element, tidy_put_element_in, tidy_put_field, tidy_put_field_in, tidy_put_root, tidy_result, tidy_second, tidy_seen, tidy_spun, tidy_sync, tidy_tell, tidy_turn, tidy_timed_wait, tidy_unwanted, tidy_wait}
use Rattle.dso_machine.proofs.unwinding.Trees.{tidy_args_on, tidy_beside, tidy_block, tidy_expr, tidy_methods, tidy_stmt}

module _ (code : Code) (n k : ℕ) where
  -- what a move starts
  tidy_move : (a : Move) → IsTidy (move_at code n k a)
  tidy_move (move.Turn test body) = tidy_spun _ _ (tidy_expr code (methods code n) (tidy_methods code n) test) (tidy_block code (methods code n) (tidy_methods code n) n body) k
  tidy_move (move.Body m) = tidy_methods code n m

  tidy_loop : (test : Expr) (body : List Stmt) → IsTidy (loop_at code n k test body)
  tidy_loop test body = tidy_moving _ (tidy_spun _ _ (tidy_expr code (methods code n) (tidy_methods code n) test) (tidy_block code (methods code n) (tidy_methods code n) n body) k)

  tidy_body : (m : ℕ) → IsTidy (body_at code n k m)
  tidy_body m = tidy_moving (methods code n m) (tidy_methods code n m)

  -- what is done under a lock
  tidy_locked : (a : Locked) → IsTidy (locked_at code n k a)
  tidy_locked (locked.Read r) = tidy_get 0 r
  tidy_locked (locked.Bind r v) = tidy_after (bind_null r v) (getting (v ∷ []) 0 r) (tidy_getting (v ∷ []) 0 r) (tidy_bind_null r v)
  tidy_locked (locked.Block ss) = tidy_block code (methods code n) (tidy_methods code n) n ss
  tidy_locked (locked.Monitor call) = tidy_monitor call.synced call.object (body_at code n k call.method) (tidy_body call.method)
  tidy_locked (locked.Body m) = tidy_body m
  tidy_locked (locked.Map call) = tidy_told call.object (rest_of call)

  tidy_args : (callees : List (ℕ × ℕ)) (x : Value) (before : List Value) (rest : List Expr) → IsTidy (arguments_at code n k callees x before rest)
  tidy_args callees x before rest = tidy_args_on code (methods code n) (tidy_methods code n) (call_on code (methods code n) callees x) (tidy_call code (methods code n) (tidy_methods code n) callees x) x rest before

  tidy_ended : (e : End) → IsTidy (ended e)
  tidy_ended (end.Gives v) = tidy_gives v
  tidy_ended (end.Leaves v) = tidy_leaves v
  tidy_ended (end.Fails f) = tidy_fails f

  -- what is written
  tidy_written : (t : Writing) (v : Value) → IsTidy (written code n k t v)
  tidy_written (write.FieldOf f b) v = tidy_beside code (methods code n) (tidy_methods code n) (v ∷ []) b (put_field code.shape f v) (tidy_put_field code.shape f v)
  tidy_written (write.Field x f) v = tidy_put_field code.shape f x v
  tidy_written (write.ElementOf b c) v = tidy_beside code (methods code n) (tidy_methods code n) (v ∷ []) b (on_next_beside (v ∷ []) (put_element v) (expr code (methods code n) c)) (λ i. tidy_beside code (methods code n) (tidy_methods code n) (v ∷ i ∷ []) c (put_element v i) (tidy_put_element v i))
  tidy_written (write.ElementAt x c) v = tidy_beside code (methods code n) (tidy_methods code n) (x ∷ v ∷ []) c (put_element x v) (tidy_put_element x v)
  tidy_written (write.Element x i) v = tidy_put_element x i v
  tidy_written (write.Root r) v = tidy_put_root r v

  -- what is done with a monitor
  tidy_used : (t : Monitor) (v : Value) → IsTidy (used_monitor code n k t v)
  tidy_used (monitor.Sync grade body) v = tidy_sync grade (block_at code n k body) (tidy_block code (methods code n) (tidy_methods code n) n body) v
  tidy_used monitor.Wait v = tidy_object (λ o. wait 0 (Mon o)) (λ o. tidy_wait 0 (Mon o)) v
  tidy_used (monitor.TimedWait b) v = tidy_beside code (methods code n) (tidy_methods code n) (v ∷ []) b (timed_wait v) (tidy_timed_wait v)
  tidy_used (monitor.WaitFor x) v = tidy_timed_wait x v
  tidy_used monitor.Notify v = tidy_object (λ o. tell (request.Notify (Mon o))) (λ o. tidy_tell (request.Notify (Mon o)) refl) v
  tidy_used monitor.NotifyAll v = tidy_object (λ o. tell (request.NotifyAll (Mon o))) (λ o. tidy_tell (request.NotifyAll (Mon o)) refl) v

  -- what is done with a value
  tidy_given : (t : OnValue) (v : Value) → IsTidy (used_value code n k t v)
  tidy_given (then.Field f) v = tidy_field f v
  tidy_given (then.Array b) v = tidy_beside code (methods code n) (tidy_methods code n) (v ∷ []) b (element_of v) (tidy_element v)
  tidy_given (then.Index x) v = tidy_element x v
  tidy_given (then.Object callees args) v = tidy_args callees v [] args
  tidy_given (then.Argument callees x before rest) v = tidy_args callees x (before ++ v ∷ []) rest
  tidy_given (then.Size kind) v = tidy_array kind v
  tidy_given (then.Operand o) v = tidy_result (unary o v)
  tidy_given (then.First o b) v = tidy_second o (expr code (methods code n) b) (tidy_expr code (methods code n) (tidy_methods code n) b) v
  tidy_given (then.Second o x) v = tidy_result (binary o x v)
  tidy_given then.Boolean v = tidy_boolean v
  tidy_given (then.Assign i) v = tidy_assign i v
  tidy_given (then.Write t) v = tidy_written t v
  tidy_given (then.If x y) v = tidy_branch _ _ (tidy_block code (methods code n) (tidy_methods code n) n x) (tidy_block code (methods code n) (tidy_methods code n) n y) v
  tidy_given (then.While test body) v = tidy_turn (loop_at code n k test body) (block_at code n k body) (tidy_loop test body) (tidy_block code (methods code n) (tidy_methods code n) n body) v
  tidy_given (then.Again test body) v = tidy_loop test body
  tidy_given (then.Monitor t) v = tidy_used t v
  tidy_given then.Print v = tidy_tell (request.Print v) refl
  tidy_given then.Return v = tidy_leaves v
  tidy_given (then.Next ss) v = tidy_block code (methods code n) (tidy_methods code n) n ss

  -- a part whose lock was asked for
  live_entered : (l : LockName) (grade : Grade) (m : Meaning) (u : State) → IsTidy m → (r : Reply) → Live (entered l grade m r (with_replies [] u))
  live_entered l grade m u tidy Done = live_leave l grade (holding (monitor_of l) m (with_replies [] u)) (live_from (holding (monitor_of l) m) (tidy_holding (monitor_of l) m tidy) u)
  live_entered l grade m u tidy Local = live_from (holding (monitor_of l) m) (tidy_holding (monitor_of l) m tidy) u
  live_entered l grade m u tidy r = live_from (unwanted r) (tidy_unwanted r) u

  -- the lock again after a wait
  live_resume : (l : LockName) → IsLive (tell (request.Resume l))
  live_resume l = record { at = λ u. tt }

  -- what is done with a reply
  pub live_heard : (on : OnReply) (r : Reply) (core : Core) → Live (heard code n k on r (standing core []))
  live_heard reply.Done r core = live_from (done r) (tidy_done r) (standing core [])
  live_heard reply.Made r core = live_from (made r) (tidy_made r) (standing core [])
  live_heard reply.Got r core = live_from (got r) (tidy_got r) (standing core [])
  live_heard (reply.Field o f) r core = live_from (seen (field_in f o) r) (tidy_seen (field_in f o) (tidy_field_in f o) r) (standing core [])
  live_heard (reply.Element o i) r core = live_from (seen (element_in i o) r) (tidy_seen (element_in i o) (tidy_element_in i o) r) (standing core [])
  live_heard (reply.Call o callees args) r core =
      live_from (seen (call_in code (methods code n) callees args o) r) (tidy_seen (call_in code (methods code n) callees args o) (tidy_call_in code (methods code n) (tidy_methods code n) callees args o) r) (standing core [])
  live_heard (reply.PutField o f v) r core = live_from (seen (put_field_in code.shape f v o) r) (tidy_seen (put_field_in code.shape f v o) (tidy_put_field_in code.shape f v o) r) (standing core [])
  live_heard (reply.PutElement o i v) r core = live_from (seen (put_element_in i v o) r) (tidy_seen (put_element_in i v o) (tidy_put_element_in i v o) r) (standing core [])
  live_heard (reply.Entered l grade a) r core = live_entered l grade (locked_at code n k a) (standing core []) (tidy_locked a) r
  live_heard (reply.Left grade e) r core = live_value (λ v. settling (end_values e) grade (ended e)) (done r (standing core [])) (live_from (done r) (tidy_done r) (standing core []))
      (λ v. live_settling (end_values e) grade (ended e) (live_tidy (ended e) (tidy_ended e)))
  live_heard (reply.Settled e) r core = live_from (λ at. on_value (λ v. ended e) (done r at)) (tidy_after (λ v. ended e) (done r) (tidy_done r) (λ v. tidy_ended e)) (standing core [])
  live_heard (reply.Bind root v) r core = live_from (λ at. on_value (bind_null root v) (got r at)) (tidy_after (bind_null root v) (got r) (tidy_got r) (tidy_bind_null root v)) (standing core [])
  live_heard (reply.Waited l left) r core = live_value (λ v. waiting l left) (done r (standing core [])) (live_from (done r) (tidy_done r) (standing core [])) (λ v. live_waiting l left)
  live_heard (reply.Ticked l left) r core = live_value (λ v. tell (request.Resume l)) (unless_woken (ticks l left) r (standing core []))
      ((live_unless_woken (ticks l left) (live_ticks l left) r).at (standing core [])) (λ v. live_resume l)
  live_heard (reply.TimedOut l) r core = live_value (λ v. tell (request.Resume l)) (timed_out r (standing core [])) ((live_timed_out r).at (standing core [])) (λ v. live_resume l)
  live_heard (reply.Paused a) r core =
      live_from (λ at. on_value (λ v. moved (move_at code n k a)) (done r at)) (tidy_after (λ v. moved (move_at code n k a)) (done r) (tidy_done r) (λ v. tidy_moved (move_at code n k a) (tidy_move a))) (standing core [])
  live_heard (reply.Map call) r core = live_from (told_reply call.object (rest_of call) r) (tidy_told_reply call.object (rest_of call) r) (standing core [])

  -- what the thread is about to do; a request is wanted
  pub live_now : (a : Now) (core : Core) → Live (meant code n k a (standing core []))
  live_now (now.Evaluate a) core = live_from (expr code (methods code n) a) (tidy_expr code (methods code n) (tidy_methods code n) a) (standing core [])
  live_now (now.Arguments callees x before rest) core = live_from (arguments_at code n k callees x before rest) (tidy_args callees x before rest) (standing core [])
  live_now (now.Execute s) core = live_from (stmt code (methods code n) n s) (tidy_stmt code (methods code n) (tidy_methods code n) n s) (standing core [])
  live_now (now.Run ss) core = live_from (block code (methods code n) n ss) (tidy_block code (methods code n) (tidy_methods code n) n ss) (standing core [])
  live_now (now.Pace a) core = live_from (moving (move_at code n k a)) (tidy_moving (move_at code n k a) (tidy_move a)) (standing core [])
  live_now (now.Have e) core = live_from (ended e) (tidy_ended e) (standing core [])
  live_now (now.Ask q on) core = tt
  live_now (now.End fault) core = tt

  -- what is done after a part
  live_part : (outer : List Value) (t : Task) (p : Outcome) → Live p → Live (after_part code n k outer t p)
  live_part outer (task.Then t) p live = live_value (used_value code n k t) (letting_go (use_values t) outer p) (live_letting_go (use_values t) outer p live) (λ v. live_tidy (used_value code n k t v) (tidy_given t v))
  live_part outer (task.Back frame) p live = live_back (environment_of frame outer) p live
  live_part outer (task.Leave l grade) p live = live_leave l grade (letting_go (monitor_of l) outer p) (live_letting_go (monitor_of l) outer p live)
  live_part outer (task.Close l) p live = live_letting_go (monitor_of l) outer p live
  live_part outer (task.Mapped call) p live = live_letting_go (map_values call) outer p live

-- the end of a thread's code wants its reply where none is left
end_wants : (q : Request) (at : State) (rs : List Reply) → rs ≡ [] → on_reply (λ r u. Over) (asked [] q at rs) ≡ Over → ⊥
end_wants q at [] none over = cc over
end_wants q at (r ∷ rs) none over = cc none

not_over : (p : Outcome) → Live p → finish p ≡ Over → ⊥
not_over (Wants q env) live over = cc over
not_over (Gives v at) live over = end_wants (request.End None) at at.replies live over
not_over (Leaves v at) live over = end_wants (request.End None) at at.replies live over
not_over (Fails f at) live over = end_wants (request.End (Some f)) at at.replies live over
not_over (Hears r at) live over = live
not_over Over live over = live
not_over Stopped live over = cc over

-- Nothing that is left is over.
pub live_rest : (code : Code) (N : ℕ) (ts : List Task) (p o : Outcome) → Live p → Completes code N ts p o → o ≡ Over → ⊥
live_rest code N [] p o live h over = not_over p live (sym h ∙ over)
live_rest code N (t ∷ ts) p o live h over = live_rest code N ts (after_part code h.0.n h.0.k (outer_of ts) t p) o (live_part code h.0.n h.0.k (outer_of ts) t p live) h.1 over
