-- What is told of a stream that is read. `now` is the second that a clock says, which may be any.
use Rattle.std.specs.Prelude.{◌≡◌, ℕ, ◌+◌, ◌-◌, ◌/◌, ◌^◌, ◌==◌, ◌||◌, min, nat_le, Bool, List, []}
use Rattle.std.specs.Prelude.{if◌then◌else◌, length, take, Result, MatchResult}
use Rattle.std.specs.declared.option.Option.{Option}
use Rattle.std.specs.List.{count_by}
use Rattle.sip_ports.specs.declared.port.TalkEvent.{TalkEvent}
use Rattle.sip_stream.specs.declared.form.Form.{Form}
use Rattle.sip_stream.specs.declared.form.Form.TheVariants.{Binary, Text, Wide}
use Rattle.sip_stream.specs.Layouts.{made_form}
use Rattle.sip_words.specs.declared.command.Command.{Command}
use Rattle.sip_words.specs.declared.command.Command.TheVariants as command
use Rattle.sip_cli.specs.declared.told_source.Reading.{Reading}
use Rattle.sip_cli.specs.declared.told_source.StreamTeller.{StreamTeller}
use Rattle.sip_cli.specs.declared.told_source.ToldSource.{ToldSource}
use Rattle.sip_cli.specs.Telling.{Says, stream_line}

-- the form of a command's stream; one that has none reads none
abbrev pub stream_form : Command → Form
stream_form (command.Verify task) = task.form
stream_form (command.Play task name) = task.form
stream_form (command.Gen depth) = made_form depth
stream_form (command.Audit form) = form
stream_form (command.Lines form depth) = form
stream_form (command.Widen form depth) = form
stream_form command.Help = Binary
stream_form command.Show = Binary
stream_form command.Convert = Binary
stream_form (command.Lookup task) = task.form
stream_form command.HelpLook = Binary
stream_form (command.Moments task) = task.form
stream_form command.HelpMoments = Binary
stream_form (command.Panel task names) = task.form
stream_form (command.Serve form) = form

-- nothing was read, and a line is due
abbrev pub unread : Form → Reading
unread form = record { form = form; bytes = 0; feeds = 0; next = 0; late = 0 }

-- how many records so many bytes have, with so many line feeds among them
abbrev pub records_in : Form → ℕ → ℕ → ℕ
records_in Binary bytes feeds = bytes / 13
records_in Text bytes feeds = feeds
records_in Wide bytes feeds = bytes / 17

-- the line feeds that count
abbrev pub feeds_in : Form → List ℕ → ℕ
feeds_in Binary bytes = 0
feeds_in Text bytes = count_by (λ b. b == 10) bytes
feeds_in Wide bytes = 0

-- these bytes more were read; numbers end at 2^64 - 1
abbrev pub read_more : List ℕ → Reading → Reading
read_more bytes r = record {
  form = r.form;
  bytes = min (r.bytes + length bytes) (2 ^ 64 - 1);
  feeds = min (r.feeds + feeds_in r.form bytes) (2 ^ 64 - 1);
  next = r.next;
  late = r.late;
}

-- a line is due by what was read, or by the clock
abbrev pub is_due : ℕ → Reading → Bool
is_due now r = nat_le r.next r.bytes || nat_le r.late now

-- the line before a read or a skip, if one is due
abbrev pub line_before : ℕ → Reading → List ℕ
line_before now r =
    if is_due now r then stream_line r.bytes (records_in r.form r.bytes r.feeds) else []

-- the next one is due 64 MiB behind it, or three seconds
abbrev pub line_said : ℕ → Reading → Reading
line_said now r = record {
  form = r.form;
  bytes = r.bytes;
  feeds = r.feeds;
  next = if is_due now r then min (r.bytes + 2 ^ 26) (2 ^ 64 - 1) else r.next;
  late = if is_due now r then min (now + 3) (2 ^ 64 - 1) else r.late;
}

-- the source that is read
abbrev pub told_source : {S W C : Type 0} → ToldSource S W C → S
told_source told = told.source

-- what says the lines
abbrev pub stream_teller : {S W C : Type 0} → ToldSource S W C → Option (StreamTeller W C)
stream_teller told = told.teller

-- The line that was due was written before the read, and then what came was counted.
pub record TellsRead {E W C : Type 0} (talk : W → Option (List TalkEvent)) (faults wants : W → ℕ)
    (is_sure : W → Type 0) (now : ℕ) (result : Result ℕ E) (buf : List ℕ)
    (old new : StreamTeller W C) : Type 0 where
  pub said : Says talk faults wants is_sure old.lines.sink new.lines.sink
      (line_before now old.reading)
  pub counted : MatchResult result
      (λ n. new.reading ≡ read_more (take n buf) (line_said now old.reading))
      (λ _. new.reading ≡ line_said now old.reading)

-- The line that was due was written before the skip, and then the bytes were counted.
pub record TellsSkip {W C : Type 0} (talk : W → Option (List TalkEvent)) (faults wants : W → ℕ)
    (is_sure : W → Type 0) (now : ℕ) (bytes : List ℕ) (old new : StreamTeller W C) : Type 0 where
  pub said : Says talk faults wants is_sure old.lines.sink new.lines.sink
      (line_before now old.reading)
  pub counted : new.reading ≡ read_more bytes (line_said now old.reading)
