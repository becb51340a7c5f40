-- The text of a journal: a line for each entry, of words with one space between each two.
use Rattle.std.specs.Prelude.{ℕ, Option, Some, None, List, [], ◌++◌, codes, flat_map}
use Rattle.std.specs.Fmt.{decimal}
use Rattle.dso_base.specs.declared.journal.Entry.{Entry}
use Rattle.dso_base.specs.declared.journal.Input.{Input}
use Rattle.dso_base.specs.declared.journal.Input.TheVariants as input
use Rattle.dso_base.specs.declared.journal.Journal.{Journal}
use Rattle.dso_base.specs.declared.journal.Node.{Node}
use Rattle.dso_base.specs.declared.journal.Node.TheVariants.{Server, Client}
use Rattle.dso_base.specs.declared.journal.Sent.{Sent}
use Rattle.dso_base.specs.declared.journal.Sent.TheVariants.{ToServer, ToClient}
use Rattle.dso_base.specs.declared.lock.ThreadId.{ThreadId}
use Rattle.dso_base.specs.declared.message.Down.{Down}
use Rattle.dso_base.specs.declared.message.Down.TheVariants as down
use Rattle.dso_base.specs.declared.message.Up.{Up}
use Rattle.dso_base.specs.declared.message.Up.TheVariants as up
use Rattle.dso_base.specs.declared.record.Body.{Body}
use Rattle.dso_base.specs.declared.record.Choice.{Choice}
use Rattle.dso_base.specs.declared.record.Choice.TheVariants.{Here, There, All}
use Rattle.dso_base.specs.declared.record.Ending.{Ending}
use Rattle.dso_base.specs.declared.record.Ending.TheVariants as ending
use Rattle.dso_base.specs.declared.record.Note.{Note}
use Rattle.dso_base.specs.declared.record.Set.{Set}
use Rattle.dso_base.specs.declared.record.Txn.{Txn}
use Rattle.dso_base.specs.declared.request.Event.{Event}
use Rattle.dso_base.specs.declared.request.Event.TheVariants.{Act, Lost}
use Rattle.dso_base.specs.declared.request.Reply.{Reply}
use Rattle.dso_base.specs.declared.request.Reply.TheVariants as reply
use Rattle.dso_base.specs.declared.request.Request.{Request}
use Rattle.dso_base.specs.declared.request.Request.TheVariants as request
use Rattle.dso_report.specs.JournalWords.{list_words, node_word, thread_word, lock_word, level_word, class_word}
use Rattle.dso_report.specs.JournalWords.{value_word, fault_number, end_number}

-- a body: the object, its class and its values
abbrev pub body_words : Body → List ℕ
body_words body = decimal body.object ++ codes " " ++ class_word body.class
    ++ codes " " ++ list_words value_word body.values

-- a set: the object, the field and its value
abbrev pub set_words : Set → List ℕ
set_words set = decimal set.object ++ codes " " ++ decimal set.field ++ codes " " ++ value_word set.value

-- whom a notification woke
abbrev pub choice_words : Choice → List ℕ
choice_words (Here thread) = codes "here " ++ thread_word thread
choice_words There = codes "there"
choice_words All = codes "all"

-- a notification: the lock, and whom it woke
abbrev pub note_words : Note → List ℕ
note_words note = lock_word note.lock ++ codes " " ++ choice_words note.choice

-- how a block ends
abbrev pub ending_words : Ending → List ℕ
ending_words (ending.Exit lock) = codes "exit " ++ lock_word lock
ending_words (ending.Wait lock) = codes "wait " ++ lock_word lock
ending_words (ending.End fault) = codes "end " ++ decimal (end_number fault)
ending_words (ending.Timeout lock) = codes "timeout " ++ lock_word lock

-- a record: its number and its thread, each of its lists behind the list's name, and its ending
abbrev pub record_words : Txn → List ℕ
record_words txn = decimal txn.seq ++ codes " " ++ thread_word txn.thread
    ++ codes " new " ++ list_words body_words txn.news ++ codes " set " ++ list_words set_words txn.sets
    ++ codes " out " ++ list_words value_word txn.outs ++ codes " note " ++ list_words note_words txn.notes
    ++ codes " " ++ ending_words txn.ending

-- a message to the server
abbrev pub up_words : Up → List ℕ
up_words up.IdAsk = codes "idask"
up_words (up.Fault object) = codes "fault " ++ decimal object
up_words (up.Flushed object) = codes "flushed " ++ decimal object
up_words (up.Request lock level) = codes "request " ++ lock_word lock ++ codes " " ++ level_word level
up_words (up.Return lock waiters) = codes "return " ++ lock_word lock ++ codes " " ++ list_words thread_word waiters
up_words (up.Commit txn) = codes "commit " ++ record_words txn

-- a message to a client
abbrev pub down_words : Down → List ℕ
down_words (down.Ids first) = codes "ids " ++ decimal first
down_words (down.Object body) = codes "object " ++ body_words body
down_words (down.Grant lock level) = codes "grant " ++ lock_word lock ++ codes " " ++ level_word level
down_words (down.Recall lock) = codes "recall " ++ lock_word lock
down_words (down.Ack seq) = codes "ack " ++ decimal seq
down_words (down.Changes sets) = codes "changes " ++ list_words set_words sets
down_words (down.Wake lock thread) = codes "wake " ++ lock_word lock ++ codes " " ++ thread_word thread

-- what a thread asks
abbrev pub request_words : Request → List ℕ
request_words (request.New class size) = codes "new " ++ class_word class ++ codes " " ++ decimal size
request_words (request.Look object) = codes "look " ++ decimal object
request_words (request.Get object field) = codes "get " ++ decimal object ++ codes " " ++ decimal field
request_words (request.Put object field v) = codes "put " ++ decimal object ++ codes " " ++ decimal field
    ++ codes " " ++ value_word v
request_words (request.Enter lock level) = codes "enter " ++ lock_word lock ++ codes " " ++ level_word level
request_words (request.Exit lock) = codes "exit " ++ lock_word lock
request_words (request.Wait lock) = codes "wait " ++ lock_word lock
request_words (request.Tick lock) = codes "tick " ++ lock_word lock
request_words (request.Timeout lock) = codes "timeout " ++ lock_word lock
request_words (request.Resume lock) = codes "resume " ++ lock_word lock
request_words (request.Notify lock) = codes "notify " ++ lock_word lock
request_words (request.NotifyAll lock) = codes "notifyall " ++ lock_word lock
request_words (request.Print v) = codes "print " ++ value_word v
request_words (request.End fault) = codes "end " ++ decimal (end_number fault)
request_words request.Pause = codes "pause"
request_words request.Settle = codes "settle"

-- what it is answered
abbrev pub reply_words : Reply → List ℕ
reply_words reply.Done = codes "done"
reply_words (reply.Made object) = codes "made " ++ decimal object
reply_words (reply.Seen class size) = codes "seen " ++ class_word class ++ codes " " ++ decimal size
reply_words (reply.Val v) = codes "val " ++ value_word v
reply_words reply.Local = codes "local"
reply_words (reply.Refused fault) = codes "refused " ++ decimal (fault_number fault)

-- the thread that was woken, where one was
abbrev pub woken_words : Option ThreadId → List ℕ
woken_words None = []
woken_words (Some thread) = codes " woke " ++ thread_word thread

-- an event: the request, its reply and the thread that it woke; or the loss of a client
abbrev pub event_words : Event → List ℕ
event_words (Act thread request reply woken) = request_words request ++ codes " " ++ reply_words reply
    ++ woken_words woken
event_words (Lost client) = codes "lost " ++ decimal client

-- the number of a node: that of a client, and 0 for the server
abbrev pub node_number : Node → ℕ
node_number Server = 0
node_number (Client c) = c

-- what a node took in; who acts is a thread of the node
abbrev pub input_words : Node → Input → List ℕ
input_words node (input.Act index) = codes "act " ++ decimal (node_number node) ++ codes "." ++ decimal index
input_words node (input.TookUp c message) = codes "took " ++ node_word (Client c) ++ codes " " ++ up_words message
input_words node (input.TookDown message) = codes "took " ++ node_word Server ++ codes " " ++ down_words message
input_words node (input.Flush object) = codes "flush " ++ decimal object
input_words node (input.Lose c) = codes "lose " ++ decimal c
input_words node (input.Break c) = codes "break " ++ decimal c
input_words node (input.Rejoin c) = codes "rejoin " ++ decimal c

-- a message that was sent: to whom, and the message
abbrev pub sent_words : Sent → List ℕ
sent_words (ToServer message) = node_word Server ++ codes " " ++ up_words message
sent_words (ToClient c message) = node_word (Client c) ++ codes " " ++ down_words message

-- the part of an entry's event, where it has one
abbrev pub event_part : Option Event → List ℕ
event_part None = []
event_part (Some event) = codes " ; event " ++ event_words event

-- how the line of an entry begins: with its clock, its node and what the node took in
abbrev pub entry_head : Entry → List ℕ
entry_head entry = decimal entry.clock ++ codes " " ++ node_word entry.node
    ++ codes " " ++ input_words entry.node entry.input

-- The line of an entry: its head, each message that it sent, and its event.
abbrev pub entry_line : Entry → List ℕ
entry_line entry = entry_head entry ++ flat_map (λ sent. codes " ; to " ++ sent_words sent) entry.sent
    ++ event_part entry.event ++ codes "\n"

-- The text of a journal: the lines of its entries, the first one first.
abbrev pub journal_text : Journal → List ℕ
journal_text journal = flat_map entry_line journal.entries
