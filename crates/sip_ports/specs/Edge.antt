-- What is seen of the ports over readers and writers: what they read and write, the bytes that were
-- read before they were asked for, and how often a call failed.
use Rattle.std.specs.Prelude.{ℕ, ◌+◌, ◌-◌, ◌^◌, ◌<◌, min, List, None, Some, option_map}
use Rattle.std.proofs.Common.{arith}
use Rattle.std.specs.declared.option.Option.{Option}
use Rattle.std.specs.declared.io.traits.Write.{Ghosts}
use Rattle.std.specs.Io.KnownBytes.{prepend_known}
use Rattle.sip_ports.specs.declared.port.TalkEvent.{TalkEvent}
use Rattle.sip_ports.specs.declared.reader_source.ReaderSource.{ReaderSource}
use Rattle.sip_ports.specs.declared.writer_sink.WriterSink.{WriterSink}
use Rattle.sip_ports.specs.declared.two_way.TwoWayLink.{TwoWayLink}
use Rattle.sip_ports.specs.declared.stream.StreamSink.{StreamSink}
use Rattle.sip_ports.specs.declared.file_desk.FileDesk.{FileDesk}
use Rattle.sip_ports.specs.Ports.{outs}

-- what one tells that is there; one that is not tells nothing
abbrev pub told_by : {F : Type 0} → (F → Option (List ℕ)) → Option F → Option (List ℕ)
told_by told None = None
told_by told (Some file) = told file

-- the reader, where there is one
abbrev pub source_reader : {R : Type 0} → ReaderSource R → Option R
source_reader source = source.reader

-- the bytes that were read and not yet given
abbrev pub source_ahead : {R : Type 0} → ReaderSource R → List ℕ
source_ahead source = source.ahead

-- the bytes to come: those that were read ahead, and then the reader's
abbrev pub source_left : {R : Type 0} → (R → Option (List ℕ)) → ReaderSource R → Option (List ℕ)
source_left remaining source = prepend_known source.ahead (told_by remaining source.reader)

-- how often a call failed
abbrev pub source_faults : {R : Type 0} → ReaderSource R → ℕ
source_faults source = source.faults.count

-- the writer, where there is one
abbrev pub sink_writer : {W : Type 0} → WriterSink W → Option W
sink_writer sink = sink.writer

-- the bytes that the writer holds
abbrev pub sink_contents : {W : Type 0} → (W → Option (List ℕ)) → WriterSink W → Option (List ℕ)
sink_contents contents sink = told_by contents sink.writer

-- the same bytes, sent
abbrev pub sink_talk : {W : Type 0} → (W → Option (List ℕ)) → WriterSink W → Option (List TalkEvent)
sink_talk contents sink = option_map outs (told_by contents sink.writer)

-- how often a call failed
abbrev pub sink_faults : {W : Type 0} → WriterSink W → ℕ
sink_faults sink = sink.faults.count

-- the half that is heard
abbrev pub link_from : {R W : Type 0} → TwoWayLink R W → ReaderSource R
link_from link = link.from

-- the half that is written
abbrev pub link_to : {R W : Type 0} → TwoWayLink R W → WriterSink W
link_to link = link.to

-- how often a call of either half failed; it stands still at its type's end, as they do
abbrev pub link_faults : {R W : Type 0} → TwoWayLink R W → ℕ
link_faults link = min (link.from.faults.count + link.to.faults.count) (2 ^ 64 - 1)

-- the sink over the stream
abbrev pub stream_sink : {W : Type 0} {w : Ghosts W} → StreamSink W w → WriterSink W
stream_sink stream = stream.sink

-- the desk's link
abbrev pub file_desk_link : {L : Type 0} → FileDesk L → L
file_desk_link desk = desk.link

-- how often a call of its file failed, and how often memory was refused to one
abbrev pub own_faults : {L : Type 0} → FileDesk L → ℕ
own_faults desk = desk.faults.count

abbrev pub own_wants : {L : Type 0} → FileDesk L → ℕ
own_wants desk = desk.wants.count

-- the same of its link and its file together; it stands still at its type's end, as they do
abbrev pub file_desk_faults : {L : Type 0} → (L → ℕ) → FileDesk L → ℕ
file_desk_faults faults desk = min (faults desk.link + desk.faults.count) (2 ^ 64 - 1)

abbrev pub file_desk_wants : {L : Type 0} → (L → ℕ) → FileDesk L → ℕ
file_desk_wants wants desk = min (wants desk.link + desk.wants.count) (2 ^ 64 - 1)

pub file_desk_faults-fit : {L : Type 0} (faults : L → ℕ) (desk : FileDesk L)
    → file_desk_faults faults desk < 2 ^ 64
file_desk_faults-fit faults desk = omega arith

pub file_desk_wants-fit : {L : Type 0} (wants : L → ℕ) (desk : FileDesk L)
    → file_desk_wants wants desk < 2 ^ 64
file_desk_wants-fit wants desk = omega arith

-- what a law of the link rests on
pub link_faults-fit : {R W : Type 0} → (link : TwoWayLink R W) → link_faults link < 2 ^ 64
link_faults-fit link = omega arith
