-- What a copy of a stream writes: its legal records, each in the spelling of the form that is
-- asked for.
use Rattle.std.specs.Prelude.{◌≡◌, ℕ, List, [], length, take, Option, Some, None, Result, Ok, Err}
use Rattle.sip_ports.specs.declared.port.PortStop.{PortStop}
use Rattle.sip_ports.specs.declared.port.PortStop.TheVariants as ports
use Rattle.sip_ports.specs.declared.port.TalkEvent.{TalkEvent}
use Rattle.sip_ports.specs.Ports.{GoesOn, outs}
use Rattle.sip_stream.specs.declared.copying.CopyStop.{CopyStop}
use Rattle.sip_stream.specs.declared.copying.CopyStop.TheVariants as stops
use Rattle.sip_stream.specs.declared.fault.StreamFault.{StreamFault}
use Rattle.sip_stream.specs.declared.fault.StreamFault.TheVariants as faults
use Rattle.sip_stream.specs.declared.form.Form.{Form}
use Rattle.sip_stream.specs.Records.{records}
use Rattle.sip_stream.specs.Spellings.{all_spelled}

-- the legal records that bytes begin with
abbrev pub copied : ℕ → Form → Form → List ℕ → List ℕ
copied depth from to bytes = all_spelled to (records depth from bytes).legal

-- Of a stream that was read to its end all records were written; of one with a record that is not
-- legal those before it; and where a port stopped, a front of these.
abbrev pub Copies : ℕ → Form → Form → List ℕ → Option (List ℕ)
    → Option (List TalkEvent) → Option (List TalkEvent) → Result (Unit {0}) CopyStop → Type 0
Copies depth from to bytes left old new (Ok _) =
    ((records depth from bytes).fault ≡ None) × (left ≡ Some [])
    × GoesOn old new (outs (copied depth from to bytes))
Copies depth from to bytes left old new (Err (stops.Bad at why)) =
    ((records depth from bytes).fault ≡ Some why) × (at ≡ length (records depth from bytes).legal)
    × GoesOn old new (outs (copied depth from to bytes))
Copies depth from to bytes left old new (Err stops.ReadFault) =
    (n : ℕ) × GoesOn old new (outs (take n (copied depth from to bytes)))
Copies depth from to bytes left old new (Err stops.WriteFault) =
    (n : ℕ) × GoesOn old new (outs (take n (copied depth from to bytes)))
Copies depth from to bytes left old new (Err stops.OutOfMemory) =
    (n : ℕ) × GoesOn old new (outs (take n (copied depth from to bytes)))

-- why a copy stops where its sink does
abbrev pub stop_of_sink : PortStop → CopyStop
stop_of_sink ports.Failed = stops.WriteFault
stop_of_sink ports.OutOfMemory = stops.OutOfMemory

-- and where its stream is read no further
abbrev pub stop_of_stream : StreamFault → CopyStop
stop_of_stream (faults.Bad at why) = stops.Bad at why
stop_of_stream faults.ReadFault = stops.ReadFault
stop_of_stream faults.OutOfMemory = stops.OutOfMemory
