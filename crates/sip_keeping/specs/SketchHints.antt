-- The line of advice behind that of a status of the commands that keep a sketch.
use Rattle.std.specs.Prelude.{ℕ, Bool, true, false, Option, None, Some, List, ◌==◌}
use Rattle.std.specs.Prelude.{if◌then◌else◌}
use Rattle.sip_stream.specs.declared.why.Why.{Why}
use Rattle.sip_stream.specs.declared.why.Why.TheVariants as why
use Rattle.sip_sketch.specs.declared.status.SketchPort.TheVariants as ports
use Rattle.sip_sketch.specs.declared.status.SketchStatus.{SketchStatus}
use Rattle.sip_sketch.specs.declared.status.SketchStatus.TheVariants as statuses
use Rattle.sip_sketch.specs.declared.unlike.Unlike.{Unlike}
use Rattle.sip_sketch.specs.declared.unlike.Unlike.TheVariants as reasons
use Rattle.sip_keeping.specs.declared.hint_text.TheConstants as hints
use Rattle.sip_keeping.specs.declared.advising.SketchLook.{SketchLook}
use Rattle.sip_keeping.specs.declared.verb.SketchVerb.{SketchVerb}
use Rattle.sip_keeping.specs.declared.verb.SketchVerb.TheVariants as verb

-- ---- words that are no command

-- what may stand at word n, from 1, of a verb
abbrev pub word_hint : SketchVerb → ℕ → List ℕ
word_hint verb.Begin n =
    if n == 1 then hints.SKETCH.now
    else if n == 2 then hints.SEED.now
    else if n == 3 then hints.DEPTH.now
    else if n == 4 then hints.SHARE.now
    else hints.SEATS.now
word_hint verb.Watch n =
    if n == 1 then hints.SKETCH.now
    else if n == 2 then hints.STORED.now
    else if n == 3 then hints.AT.now
    else if n == 4 then hints.EVERY.now
    else hints.END.now
word_hint verb.Merge n = if n == 1 then hints.SKETCH.now else hints.PART.now
word_hint verb.Seats n = if n == 1 then hints.SKETCH.now else hints.END.now

-- ---- statuses

-- why a file is no sketch: that of this part from this byte on
abbrev pub bad_hint : ℕ → ℕ → List ℕ
bad_hint part offset =
    if part == 0 then (if offset == 0 then hints.NONE.now else hints.BAD.now)
    else hints.BAD_PART.now

-- why a stream does not begin there, of a sketch that is a sum or not
abbrev pub start_hint : Bool → List ℕ
start_hint true = hints.SUM.now
start_hint false = hints.START.now

-- what a record should be that is not legal
abbrev pub record_hint : Why → List ℕ
record_hint why.Truncated = hints.CUT.now
record_hint why.BadLine = hints.LINE.now
record_hint why.BadSide = hints.SIDE.now
record_hint why.BadItem = hints.ITEM.now
record_hint why.ZeroDelta = hints.DELTA.now
record_hint (why.TooHeavy _) = hints.WEIGHT.now

-- why a part is not added, or a sum not stored
abbrev pub unlike_hint : Unlike → List ℕ
unlike_hint reasons.Shape = hints.SHAPE.now
unlike_hint reasons.Whole = hints.WHOLE.now
unlike_hint reasons.UsedSeat = hints.USED.now
unlike_hint reasons.NotNext = hints.NOT_NEXT.now
unlike_hint (reasons.Heavy _) = hints.HEAVY.now
unlike_hint reasons.Missing = hints.MISSING.now
unlike_hint reasons.Fewer = hints.FEWER.now

-- the line of a status that has one of its own here; of the others it is that of other commands
abbrev pub sketch_hint : SketchStatus → Option (List ℕ)
sketch_hint statuses.Exists = Some hints.EXISTS.now
sketch_hint (statuses.BadSketch part offset) = Some (bad_hint part offset)
sketch_hint statuses.Busy = Some hints.BUSY.now
sketch_hint (statuses.BadStream _ why) = Some (record_hint why)
sketch_hint (statuses.BadStart _ is_sum) = Some (start_hint is_sum)
sketch_hint (statuses.Behind _) = Some hints.BEHIND.now
sketch_hint (statuses.Unlike _ why) = Some (unlike_hint why)
sketch_hint (statuses.ReadFault ports.Sketch) = Some hints.FILE.now
sketch_hint (statuses.WriteFault ports.Sketch) = Some hints.FILE.now
sketch_hint (statuses.ReadFault (ports.Part _)) = Some hints.UNREAD.now
sketch_hint _ = None

-- ---- what was seen of the files

-- the line about that, if there is anything to say
abbrev pub look_hint : SketchLook → Option (List ℕ)
look_hint look =
    if look.is_shared then Some hints.SHARED.now
    else if look.is_left then Some hints.LEFT.now
    else None
