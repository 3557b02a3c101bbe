-- What `gen`, `lines` and `widen` promise.
--
-- A copy is the spellings of a stream's legal records. It is whole exactly where the stream was
-- legal to its end and was read to it, and all was written. Of a stream with a record that is not
-- legal the copy has the records before that one, and the status names it. Where a port stopped, or
-- memory ran out, the copy has a front of these bytes.
use Rattle.std.specs.Prelude.{◌≡◌, ℕ, List, [], length, take, Option, Some, None}
use Rattle.sip_ports.specs.declared.port.TalkEvent.{TalkEvent}
use Rattle.sip_ports.specs.Ports.{GoesOn, outs}
use Rattle.sip_stream.specs.declared.form.Form.{Form}
use Rattle.sip_stream.specs.Copying.{copied}
use Rattle.sip_stream.specs.Records.{records}
use Rattle.sip_verifier.specs.declared.status.Port.TheVariants as ports
use Rattle.sip_verifier.specs.declared.status.Status.{Status}
use Rattle.sip_verifier.specs.declared.status.Status.TheVariants as statuses

-- The stream had these bytes to give in one form, and has `left` still; the report told `old`, and
-- tells `new`.
module _ (depth : ℕ) (from to : Form) (bytes : List ℕ) (left : Option (List ℕ))
    (old new : Option (List TalkEvent)) where
  -- all legal records were written
  abbrev pub AllCopied : Type 0
  AllCopied = GoesOn old new (outs (copied depth from to bytes))

  -- a front of them was written
  abbrev pub FrontCopied : Type 0
  FrontCopied = (n : ℕ) × GoesOn old new (outs (take n (copied depth from to bytes)))

  abbrev pub CopyClause : Status → Type 0
  CopyClause statuses.Wrote =
      ((records depth from bytes).fault ≡ None) × (left ≡ Some []) × AllCopied
  CopyClause (statuses.BadStream at why) =
      ((records depth from bytes).fault ≡ Some why)
      × (at ≡ length (records depth from bytes).legal) × AllCopied
  CopyClause (statuses.ReadFault ports.First) = FrontCopied
  CopyClause (statuses.WriteFault ports.Report) = FrontCopied
  CopyClause statuses.OutOfMemory = FrontCopied
  CopyClause _ = ⊥
