-- What a command left under the top call is what an audit is promised to judge alike.
use Rattle.std.proofs.Common.{◌≡◌, ℕ, ◌≤◌, List, length, Option, Some, inl, inr, refl, subst, arith}
use Rattle.sip_ports.specs.declared.port.TalkEvent.{TalkEvent}
use Rattle.sip_stream.specs.declared.form.Form.{Form}
use Rattle.sip_wire.specs.Table.{most_queries}
use Rattle.sip_verifier.specs.declared.status.Status.{Status}
use Rattle.sip_verifier.specs.declared.status.Status.TheVariants.{Wrote}
use Rattle.sip_verifier.specs.declared.task.Task.{Task}
use Rattle.sip_verifier.specs.Exchanges.{Exchange}
use Rattle.sip_verifier.specs.Promises.{Promises}
use Rattle.sip_verifier.specs.Tasks.{CanBeDone}
use Rattle.sip_transcript.specs.Agreements.{AuditAgrees, IsStored}
use Rattle.sip_transcript.specs.AlikeAudits.{ConvertAgrees, TellSame}
use Rattle.sip_transcript.specs.Auditing.{Audits, Audit as Audited}
use Rattle.sip_transcript.specs.Conversions.{in_version_2}
use Rattle.sip_transcript.specs.Writing.{Writes}
use Rattle.sip_transcript.proofs.AgreedAudits.{audit_agrees}
use Rattle.sip_transcript.proofs.AlikeAudits.{told_agree}
use Rattle.sip_transcript.proofs.Converted.{what_is_written}
use Rattle.sip_words.specs.declared.verb.Verb.{Verb}
use Rattle.sip_words.specs.declared.verb.Verb.TheVariants as verbs
use Rattle.sip_cli.specs.Stored.{DidAudit, DidConvert, DidKeep}
use Rattle.sip_words.specs.Verbs.{most_asked}
use Rattle.sip_words.specs.Words.{IsCommandOf, SaysTask}
use Rattle.sip_cli.proofs.RunLemmas.{played, served}

-- a command asks no more queries than a task has room for
few_asked : (verb : Verb) (words : List (List ℕ)) (task : Task) → most_asked verb ≡ most_queries
    → IsCommandOf verb words → SaysTask verb words task → length task.queries.items ≤ most_queries
few_asked verb words task same whole says =
    let most = whole.most in
    let count = says.count in
    omega (arith, same, most, count)

-- what an audit under the top call moved is judged as its promises say
judged : (form : Form) (a : Audited) (status : Status) (d : DidAudit form a status)
    → Audits form a d.before.faults d.now.faults status
judged form a status d = d.did.keeps.audit form d.did.spelled a d.tells

-- ---- a run that was kept

module _ (task : Task) (x : Exchange) (status : Status) (a : Audited)
    (k : DidKeep task x status a) where
  -- whichever command it was, its task was read off words, and it kept the promises of `verify`
  stored_by : (verb : Verb) (words : List (List ℕ)) → most_asked verb ≡ most_queries
      → IsCommandOf verb words → SaysTask verb words task → CanBeDone task
      → Promises task x k.before.faults k.now.faults status
      → IsStored task x k.before.faults k.now.faults status a
  stored_by verb words same whole says can promises = record {
    deep = says.depth.0;
    shallow = says.depth.1;
    most = few_asked verb words task same whole says;
    can = can;
    reached = k.reached;
    promises = promises;
    kept = k.kept;
    stream = k.stream;
  }

  is_stored : IsStored task x k.before.faults k.now.faults status a
  is_stored = elim k.did [
    | inl d ↦ stored_by verbs.Verify d.words refl d.spelled.0 d.spelled.1
        (served d.words task d.spelled) (d.keeps.verify task d.spelled x k.tells)
    | inr (name, d) ↦ stored_by verbs.Play d.words refl d.spelled.0 d.spelled.1
        (played d.words task name d.spelled) (d.keeps.play task name d.spelled x k.tells)
  ]

  pub kept_alike : (given : Status) → DidAudit task.form a given → AuditAgrees x a status given
  kept_alike given d =
      audit_agrees task x k.before.faults k.now.faults status a is_stored d.before.faults
      d.now.faults given (judged task.form a given d)

-- ---- a run that was converted

module _ (a b : Audited) (c : DidConvert a b) where
  pub tell_same : TellSame a b
  tell_same =
      let (talk, old, new) = c.wrote in
      let writes = c.did.keeps.convert c.did.spelled a.stored c.had in
      let begun = subst (λ (o : Option (List TalkEvent)). Writes in_version_2 a.stored c.now.second
      o c.now.report Wrote) old writes in
      let told = subst (λ (n : Option (List TalkEvent)). Writes in_version_2 a.stored c.now.second
      (Some talk) n Wrote) new begun in
      let is = what_is_written a.stored b.stored c.now.second talk told in
      record { run = is.0; same = is.1; stream = c.stream }

  pub converted_alike : (form : Form) (given other : Status)
      → DidAudit form a given → DidAudit form b other → ConvertAgrees a b given other
  converted_alike form given other d e =
      told_agree form a b d.before.faults d.now.faults e.before.faults e.now.faults given other
      (judged form a given d) (judged form b other e) tell_same
