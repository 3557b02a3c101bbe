-- What an audit tells of deltas below 0: what a run tells of them that asks what the transcript's
-- head says, over the stored stream.
use Rattle.std.specs.Prelude.{◌≡◌, ◌≢◌, ℕ, List, map, None}
use Rattle.sip_stream.specs.declared.form.Form.{Form}
use Rattle.sip_vector.specs.declared.tally.Negatives.{Negatives}
use Rattle.sip_wire.specs.declared.version.Version.{Version}
use Rattle.sip_wire.specs.Transcript.{transcript}
use Rattle.sip_verifier.specs.declared.status.Status.{Status}
use Rattle.sip_verifier.specs.declared.task.Task.{Task}
use Rattle.sip_verifier.specs.Negatives.{NegativesClause, no_negatives}
use Rattle.sip_transcript.specs.Fields.{head_fault}
use Rattle.sip_transcript.specs.Heads.{Ask, IsRun}

-- the task of a run at this depth that asked these, of a stream in this form
abbrev pub stored_task : Form → ℕ → List Ask → Task
stored_task form depth asks = record {
  depth = depth;
  form = form;
  queries = record { items = map (λ ask. ask.0) asks };
}

-- An audit of these bytes of a stream, by these of a transcript, ended so.
pub record StoredNegatives (form : Form) (bytes stored : List ℕ) (status : Status)
    (negatives : Negatives) : Type 0 where
  -- a transcript has one head: it is that of this run
  pub run : (version : Version) (depth : ℕ) (asks : List Ask) (behind : List ℕ)
      → IsRun version depth asks → stored ≡ transcript version depth asks behind
      → NegativesClause (stored_task form depth asks) bytes status negatives
  -- or it has none, and no stream is read
  pub unread : head_fault stored ≢ None → negatives ≡ no_negatives
