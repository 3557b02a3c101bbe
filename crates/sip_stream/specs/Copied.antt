-- How far a copy came before its last bytes are written.
use Rattle.std.specs.Prelude.{◌≡◌, ℕ, List, [], ◌++◌, length, take, Option, Some, None, Result, Ok}
use Rattle.std.specs.Prelude.{Err}
use Rattle.sip_ports.specs.declared.port.PortStop.{PortStop}
use Rattle.sip_ports.specs.declared.port.TalkEvent.{TalkEvent}
use Rattle.sip_ports.specs.Ports.{GoesOn, outs}
use Rattle.sip_vector.specs.declared.update.Update.{Update}
use Rattle.sip_stream.specs.declared.fault.StreamFault.{StreamFault}
use Rattle.sip_stream.specs.declared.fault.StreamFault.TheVariants as faults
use Rattle.sip_stream.specs.declared.form.Form.{Form}
use Rattle.sip_stream.specs.Records.{records}
use Rattle.sip_stream.specs.Spellings.{all_spelled}

module _ (old new : Option (List TalkEvent)) (whole : List ℕ) where
  -- a part of some bytes was sent, and the others are gathered
  pub record IsSentBut (gathered : List ℕ) : Type 0 where
    pub sent : List ℕ
    pub order : whole ≡ sent ++ gathered
    pub talk : GoesOn old new (outs sent)

  -- a front of some bytes was sent
  pub record IsCut : Type 0 where
    pub sent : ℕ
    pub talk : GoesOn old new (outs (take sent whole))

module _ (depth : ℕ) (from to : Form) (bytes : List ℕ) where
  abbrev pub legal : List Update
  legal = (records depth from bytes).legal

  abbrev pub fault_is : Option StreamFault → Option (List ℕ) → Type 0
  fault_is None left = ((records depth from bytes).fault ≡ None) × (left ≡ Some [])
  fault_is (Some (faults.Bad at why)) left =
      ((records depth from bytes).fault ≡ Some why) × (at ≡ length legal)
  fault_is (Some faults.ReadFault) left = Unit {0}
  fault_is (Some faults.OutOfMemory) left = Unit {0}

  -- the updates that were read: all legal ones, but where a source stopped a front of them
  abbrev pub were_read : Option StreamFault → List Update → Type 0
  were_read None us = us ≡ legal
  were_read (Some (faults.Bad at why)) us = us ≡ legal
  were_read (Some _) us = (more : List Update) × (legal ≡ us ++ more)

  abbrev pub CopiesOn : Option (List ℕ) → Option (List TalkEvent) → Option (List TalkEvent) → List ℕ
      → Result (Option StreamFault) PortStop → Type 0
  CopiesOn left old new gathered (Ok stopped) =
      (us : List Update) × were_read stopped us × fault_is stopped left
      × IsSentBut old new (all_spelled to us) gathered
  CopiesOn left old new gathered (Err stop) = IsCut old new (all_spelled to legal)
