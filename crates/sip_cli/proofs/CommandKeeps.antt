-- What each command keeps, and that the command keeps no more: the one call that does it carries
-- the clause of the command.
use Rattle.std.proofs.Common.{◌≡◌, ℕ, List, [], Option, Some, refl, sym, subst}
use Rattle.arrayvec.specs.ArrayVec.{ArrayVec}
use Rattle.sip_ports.specs.declared.port.TalkEvent.{TalkEvent}
use Rattle.sip_ports.specs.Ports.{GoesOn, outs}
use Rattle.sip_ports.proofs.TalkLemmas.{GoesOn-refl}
use Rattle.sip_stream.specs.declared.form.Form.{Form}
use Rattle.sip_stream.specs.declared.form.Form.TheVariants.{Text, Wide}
use Rattle.sip_stream.specs.Layouts.{made_form}
use Rattle.sip_helper.specs.Serving.{Serves}
use Rattle.sip_lookup.specs.declared.task.LookTask.{LookTask}
use Rattle.sip_lookup.specs.Honest as looks
use Rattle.sip_lookup.specs.Promises.{LookClause, LookPromises}
use Rattle.sip_lookup.specs.Questions.{looking}
use Rattle.sip_lookup.specs.Serving.{ServesLooks}
use Rattle.sip_lookup.specs.Tasks as look_tasks
use Rattle.sip_moments.specs.declared.task.MomentTask.{MomentTask}
use Rattle.sip_moments.specs.Manner as moments
use Rattle.sip_moments.specs.MomentClause.{MomentClause}
use Rattle.sip_moments.specs.Serving.{ServesMoments}
use Rattle.sip_moments.specs.Tasks as moment_tasks
use Rattle.sip_verifier.specs.declared.status.Status.{Status}
use Rattle.sip_verifier.specs.declared.status.Status.TheVariants as statuses
use Rattle.sip_verifier.specs.declared.task.Task.{Task}
use Rattle.sip_verifier.specs.Exchanges.{Appends, Exchange, Tells}
use Rattle.sip_verifier.specs.Snapshots.{Snapshot, IsTold}
use Rattle.sip_verifier.specs.Promises.{Promises}
use Rattle.sip_verifier.specs.RunClause.{RunClause}
use Rattle.sip_verifier.specs.Statuses.{FaultClause}
use Rattle.sip_verifier.proofs.RunTalks.{tells}
use Rattle.sip_transcript.specs.Auditing.{AuditClause}
use Rattle.sip_transcript.specs.Conversions.{in_version_2}
use Rattle.sip_transcript.specs.Listings.{listing}
use Rattle.sip_transcript.specs.Tales.{Tale}
use Rattle.sip_transcript.specs.Writing.{Writes}
use Rattle.sip_words.specs.declared.command.Command.{Command}
use Rattle.sip_words.specs.declared.command.Command.TheVariants.{Verify, Help, Audit, Show, Convert, Gen, Lines, Widen, Play, Lookup, HelpLook, Moments, HelpMoments, Panel, Serve}
use Rattle.sip_words.specs.declared.helper_name.HelperName.{HelperName}
use Rattle.sip_cli.specs.CommandClause.{CommandClause, MomentPromises, unkept}
use Rattle.sip_cli.specs.CopyClause.{CopyClause}
use Rattle.sip_cli.specs.HelpClause.{HelpClause}
use Rattle.sip_cli.specs.ServeClause.{ServeClause}
use Rattle.sip_cli.specs.Statuses.{Ends}
use Rattle.sip_cli.proofs.UnkeptRuns.{caused, completed, faulted, moves_all, tells_rest, untold}

-- ---- what each command keeps

module _ (before now : Snapshot) (status : Status) where
  -- a stream was copied at a depth from one form to another
  abbrev Copied : ℕ → Form → Form → Type 0
  Copied depth from to = (bytes : List ℕ) → before.first ≡ Some bytes
      → CopyClause depth from to bytes now.first before.report now.report status

  -- what a transcript tells was written in a form of it
  abbrev Rendered : (Tale → List ℕ) → Type 0
  Rendered text = (bytes : List ℕ) → before.second ≡ Some bytes
      → Writes text bytes now.second before.report now.report status

  -- what was asked kept the promises of a verifier
  abbrev Verified : Task → Type 0
  Verified task = (x : Exchange) → Tells before now x
      → Promises task x before.faults now.faults status

  abbrev pub Keeps : Command → Type 0
  Keeps (Verify task) = Verified task
  Keeps Help = HelpClause Serves before.talk now.talk status
  Keeps (Audit form) = AuditClause form before now status
  Keeps Show = Rendered listing
  Keeps Convert = Rendered in_version_2
  Keeps (Gen depth) = Copied depth (made_form depth) (made_form depth)
  Keeps (Lines form depth) = Copied depth form Text
  Keeps (Widen form depth) = Copied depth form Wide
  Keeps (Play task name) = Verified task
  Keeps (Lookup task) = (x : Exchange) → Tells before now x
      → LookPromises task (unkept x) before.faults now.faults status
  Keeps HelpLook = HelpClause ServesLooks before.talk now.talk status
  Keeps (Moments task) = (x : Exchange) → Tells before now x
      → MomentPromises task (unkept x) before.faults now.faults status
  Keeps HelpMoments = HelpClause ServesMoments before.talk now.talk status
  Keeps (Panel task names) = Verified task
  Keeps (Serve form) = ServeClause form before.first now.first before.second now.second before.talk now.talk status

  -- there is an exchange that the ports tell
  abbrev pub Moves : Command → Type 0
  Moves d = IsTold before → (x : Exchange) × Tells before now x

module _ {before now : Snapshot} {status : Status} where
  -- where the command is known, what it keeps is all that is to be kept
  pub obeys : {c : Command} (d : Command) → c ≡ d → Keeps before now status d
      → Moves before now status d
      → FaultClause before.faults now.faults status → Ends d status
      → CommandClause (λ is. c ≡ is) before now status
  obeys d e kept moves fault listed =
      let audited : (form : Form) → d ≡ Audit form → AuditClause form before now status
      = λ form is. subst (Keeps before now status) is kept in subst
      (λ (c : Command). CommandClause (λ is. c ≡ is) before now status) (sym e) (record {
        verify = λ task is. subst (Keeps before now status) is kept;
        play = λ task name is. subst (Keeps before now status) is kept;
        panel = λ task names is. subst (Keeps before now status) is kept;
        made = λ depth is. subst (Keeps before now status) is kept;
        lines = λ form depth is. subst (Keeps before now status) is kept;
        wide = λ form depth is. subst (Keeps before now status) is kept;
        help = λ is. subst (Keeps before now status) is kept;
        audit = λ form is. (audited form is).audits;
        audit_moves = λ form is. (audited form is).moves;
        show = λ is. subst (Keeps before now status) is kept;
        convert = λ is. subst (Keeps before now status) is kept;
        look = λ task is. subst (Keeps before now status) is kept;
        help_look = λ is. subst (Keeps before now status) is kept;
        moments = λ task is. subst (Keeps before now status) is kept;
        help_moments = λ is. subst (Keeps before now status) is kept;
        serve = λ form is. subst (Keeps before now status) is kept;
        moves = moves;
        fault = fault;
        listed = λ command is. subst (λ (c : Command). Ends c status) is listed;
      })

  -- ---- by the clauses of the calls

  pub verify_keeps : {c : Command} (task : Task) → c ≡ Verify task
      → RunClause task before now status → CommandClause (λ is. c ≡ is) before now status
  verify_keeps task e k = obeys (Verify task) e k.promises k.moves k.fault k.listed

  pub play_keeps : {c : Command} (task : Task) (name : HelperName) → c ≡ Play task name
      → RunClause task before now status → CommandClause (λ is. c ≡ is) before now status
  play_keeps task name e k = obeys (Play task name) e k.promises k.moves k.fault k.listed

  pub panel_keeps : {c : Command} (task : Task) (names : ArrayVec HelperName) → c ≡ Panel task names
      → RunClause task before now status → CommandClause (λ is. c ≡ is) before now status
  panel_keeps task names e k = obeys (Panel task names) e k.promises k.moves k.fault k.listed

  pub audit_keeps : {c : Command} (form : Form) → c ≡ Audit form
      → AuditClause form before now status
      → (IsTold before → (x : Exchange) × Tells before now x)
      → CommandClause (λ is. c ≡ is) before now status
  audit_keeps form e k moves = obeys (Audit form) e k moves k.fault k.listed

  -- the record is not kept
  look_promised : (task : LookTask) → LookClause task (untold before) (untold now) status
      → (x : Exchange) → Tells before now x
      → LookPromises task (unkept x) before.faults now.faults status
  look_promised task k x t =
      let p = k.promises (unkept x) (tells_rest t) in
      let r = look_tasks.run_of task (unkept x) in
      record {
        verdict = p.verdict;
        talk = p.talk;
        cause = caused before.faults now.faults looking r (unkept x) status p.cause;
        count = p.count;
        complete = completed before.faults now.faults looking r (unkept x) looks.honesty status
            p.complete;
      }

  moment_promised : (task : MomentTask) → MomentClause task (untold before) (untold now) status
      → (x : Exchange) → Tells before now x
      → MomentPromises task (unkept x) before.faults now.faults status
  moment_promised task k x t =
      let p = k.promises (unkept x) (tells_rest t) in
      let r = moment_tasks.run_of task (unkept x) in
      record {
        verdict = p.verdict;
        talk = p.talk;
        cause = caused before.faults now.faults moments.asking r (unkept x) status p.cause;
        count = p.count;
        complete = completed before.faults now.faults moments.asking r (unkept x) moments.honesty
            status p.complete;
      }

  pub look_keeps : {c : Command} (task : LookTask) → c ≡ Lookup task
      → LookClause task (untold before) (untold now) status → now.keep ≡ before.keep
      → CommandClause (λ is. c ≡ is) before now status
  look_keeps task e k same =
      obeys (Lookup task) e (look_promised task k) (moves_all same k.moves)
      (faulted before.faults now.faults status k.fault) k.listed

  pub moments_keeps : {c : Command} (task : MomentTask) → c ≡ Moments task
      → MomentClause task (untold before) (untold now) status → now.keep ≡ before.keep
      → CommandClause (λ is. c ≡ is) before now status
  moments_keeps task e k same =
      obeys (Moments task) e (moment_promised task k) (moves_all same k.moves)
      (faulted before.faults now.faults status k.fault) k.listed

  -- ---- by another sign

  -- what a command keeps, it keeps for all who know it by another sign
  pub known_by : {Is Other : Command → Type 0} → ((command : Command) → Other command → Is command)
      → CommandClause Is before now status → CommandClause Other before now status
  known_by tells k = record {
    verify = λ task is. k.verify task (tells (Verify task) is);
    play = λ task name is. k.play task name (tells (Play task name) is);
    panel = λ task names is. k.panel task names (tells (Panel task names) is);
    made = λ depth is. k.made depth (tells (Gen depth) is);
    lines = λ form depth is. k.lines form depth (tells (Lines form depth) is);
    wide = λ form depth is. k.wide form depth (tells (Widen form depth) is);
    help = λ is. k.help (tells Help is);
    audit = λ form is. k.audit form (tells (Audit form) is);
    audit_moves = λ form is. k.audit_moves form (tells (Audit form) is);
    show = λ is. k.show (tells Show is);
    convert = λ is. k.convert (tells Convert is);
    look = λ task is. k.look task (tells (Lookup task) is);
    help_look = λ is. k.help_look (tells HelpLook is);
    moments = λ task is. k.moments task (tells (Moments task) is);
    help_moments = λ is. k.help_moments (tells HelpMoments is);
    serve = λ form is. k.serve form (tells (Serve form) is);
    moves = k.moves;
    fault = k.fault;
    listed = λ command is. k.listed command (tells command is);
  }

-- where nothing is a command and nothing moved
pub none_keeps : {Is : Command → Type 0} {m : Snapshot} (word : ℕ)
    → ((command : Command) → Is command → ⊥) → CommandClause Is m m (statuses.Usage word)
none_keeps {m = m} word none = record {
  verify = λ task is. absurd (none (Verify task) is);
  play = λ task name is. absurd (none (Play task name) is);
  panel = λ task names is. absurd (none (Panel task names) is);
  made = λ depth is. absurd (none (Gen depth) is);
  lines = λ form depth is. absurd (none (Lines form depth) is);
  wide = λ form depth is. absurd (none (Widen form depth) is);
  help = λ is. absurd (none Help is);
  audit = λ form is. absurd (none (Audit form) is);
  audit_moves = λ form is. absurd (none (Audit form) is);
  show = λ is. absurd (none Show is);
  convert = λ is. absurd (none Convert is);
  look = λ task is. absurd (none (Lookup task) is);
  help_look = λ is. absurd (none HelpLook is);
  moments = λ task is. absurd (none (Moments task) is);
  help_moments = λ is. absurd (none HelpMoments is);
  serve = λ form is. absurd (none (Serve form) is);
  moves = λ is. tells m m is (λ some. some) [] (GoesOn-refl _) [] (GoesOn-refl _) []
      (GoesOn-refl _);
  fault = tt;
  listed = λ command is. absurd (none command is);
}

-- ---- ports that tell go on telling

-- bytes that are new on a sink went on it
went_on : (old new : Option (List TalkEvent)) (bytes : List ℕ) → Appends old new (Some bytes)
    → GoesOn old new (outs bytes)
went_on old new bytes told = rw (told.1, told.2) refl

-- an audit, by whose ports there is an exchange, where the link and the record of a talk are as
-- they were
pub audit_moves : (form : Form) (before now : Snapshot) (status : Status)
    → AuditClause form before now status
    → GoesOn before.talk now.talk [] → GoesOn before.keep now.keep []
    → IsTold before → (x : Exchange) × Tells before now x
audit_moves form before now status k link record_of is =
    let told = k.moves is.first is.second is.report in
    tells before now is (λ some. rw told.1.unread refl) [] link told.0.report
    (went_on before.report now.report told.0.report told.1.report) [] record_of
