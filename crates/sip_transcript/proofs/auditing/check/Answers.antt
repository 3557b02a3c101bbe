-- Where each part stopped, the facts of the calls before it are handed to the lemma of that end.
use Rattle.std.proofs.Common.{◌≡◌, Ok, sym, ◌∙◌, le_refl, rules}
use Rattle.sip_ports.specs.Ports.{heard}
use Rattle.sip_verifier.specs.declared.task.Task.{Task}
use Rattle.sip_verifier.proofs.RunTalks.{nothing_reported, some_value}
use Rattle.sip_transcript.specs.Auditing.{is_verdict, stops_auditing}
use Rattle.sip_transcript.specs.Replayed.{AreAsked, judged}
use Rattle.sip_transcript.proofs.Audited.{all_read, ends, its_replay, judged_fault, no_verdict, not_begun, place_of, place_sum, replayed_as, since_earlier, verdict_needs_none, with_verdict}
use Rattle.sip_verifier.proofs.RunNegatives.{of_gathered}
use Rattle.sip_transcript.proofs.Credits.{of_head}
use Rattle.sip_transcript.proofs.Heading.{its_lines}
use Rattle.sip_transcript.proofs.Tests.{or_second}
use Rattle.sip_transcript.proofs.auditing.check.Goals as goal

pub returns-in-Err-clause-audits : goal.returns-in-Err-clause-audits
returns-in-Err-clause-audits g c = λ asks a before now says t fault.
    let head = c.args.head in
    let task : Task = record { depth = head.depth; form = c.args.form; queries = head.queries } in
    let is : AreAsked head.version task c.deref.result.now asks = record { is_run = says.is_run; queries = says.queries; challenges = c.deref.ensures.0 ∙ says.challenges } in
    not_begun head.version task c.deref.result.now asks is a t.behind t.stored before now (g.A.Source.left c.begin.new.first) (nothing_reported _ a.report t.report) c.in-Err.status (c.in-Err.ensures.begins a.stream t.stream)

pub returns-in-Err-clause-fault : goal.returns-in-Err-clause-fault
returns-in-Err-clause-fault g c = λ peer peers keep keeps. (c.in-Err.ensures.fault _ _ peer peers _ _ keep keeps).1

pub returns-in-Err-clause-listed : goal.returns-in-Err-clause-listed
returns-in-Err-clause-listed g c = or_second (is_verdict c.in-Err.status) (stops_auditing c.in-Err.status) (c.in-Err.ensures.fault 0 0 0 0 0 0 0 0).0

pub returns-in-Ok-judged-clause-audits : goal.returns-in-Ok-judged-clause-audits
returns-in-Ok-judged-clause-audits g c = λ asks a before now says t fault.
    let head = c.args.head in
    let task : Task = record { depth = head.depth; form = c.args.form; queries = head.queries } in
    let is : AreAsked head.version task c.deref.result.now asks = record { is_run = says.is_run; queries = says.queries; challenges = c.deref.ensures.0 ∙ says.challenges } in
    let r = c.replay_lent-ended.result.0 in
    let lent : c.deref_mut.result.now ≡ c.in-Ok.session.value = search rules in
    let begun = c.in-Ok.ensures.begins a.stream t.stream in
    let rp = replayed_as lent (c.replay_lent-ended.ensures.replays t.behind t.had) in
    let come : judged r ≡ Ok c.in-Ok-judged.verdict = sym c.judged.ensures ∙ c.in-Ok-judged.is in
    with_verdict c.args.form a before now
    (its_replay head.version task c.deref.result.now asks is a t.behind t.stored before now c.in-Ok.session.value _ _ c.replay_lent-ended.result.1 _ _ r t.unread t.report begun rp)
    r c.in-Ok-judged.verdict c.end.result c.checked_add.result _ _ come
    (ends head.version task c.deref.result.now asks is a t.behind t.stored before now c.in-Ok.session.value _ _ c.replay_lent-ended.result.1 _ _ r t.unread t.report begun rp)
    rp.is_left t.left
    (all_read head.version task c.deref.result.now asks is a t.behind t.stored before now c.in-Ok.session.value _ _ c.replay_lent-ended.result.1 _ _ r t.unread t.report begun rp)
    (λ at there.
    let sum = place_sum c.checked_add.result head.length c.replay_lent-ended.result.1 at c.checked_add.ensures there in
    place_of head.version head.depth asks t.behind a.stored (heard rp.talk) rp.more head.length c.replay_lent-ended.result.1 at t.stored rp.follows.came says.size rp.counted sum.0 sum.1)
    c.end.ensures.ends

pub returns-in-Ok-judged-clause-wrote : goal.returns-in-Ok-judged-clause-wrote
returns-in-Ok-judged-clause-wrote g c = λ some.
    let bytes = some_value (g.A.Source.left c.args.first.now) some in
    let lent : c.deref_mut.result.now ≡ c.in-Ok.session.value = search rules in
    its_lines _ _ _ bytes.0 _ c.in-Ok.session.value _ _ _ (c.in-Ok.ensures.begins bytes.0 bytes.1) lent c.replay_lent-ended.ensures.wrote

pub returns-in-Ok-judged-clause-fault : goal.returns-in-Ok-judged-clause-fault
returns-in-Ok-judged-clause-fault g c = λ peer peers keep keeps.
    let come : judged c.replay_lent-ended.result.0 ≡ Ok c.in-Ok-judged.verdict = sym c.judged.ensures ∙ c.in-Ok-judged.is in
    let own = c.end.ensures.fault (g.A.Source.faults c.args.first.now) (g.A.Source.faults c.begin.new.first) peer peers (g.K.Sink.faults c.args.report.now) (g.K.Sink.faults c.replay_lent-ended.new.report) keep keeps
    (verdict_needs_none c.replay_lent-ended.result.0 c.in-Ok-judged.verdict come) in
    since_earlier _ _ _ _ _ _ peer peers _ _ _ keep keeps c.end.result (le_refl _) c.replay_lent-ended.ensures.source.later (le_refl _) own

pub returns-clause-audits : goal.returns-clause-audits
returns-clause-audits g c = λ asks a before now says t fault.
    let head = c.args.head in
    let task : Task = record { depth = head.depth; form = c.args.form; queries = head.queries } in
    let is : AreAsked head.version task c.deref.result.now asks = record { is_run = says.is_run; queries = says.queries; challenges = c.deref.ensures.0 ∙ says.challenges } in
    let r = c.replay_lent-ended.result.0 in
    let lent : c.deref_mut.result.now ≡ c.in-Ok.session.value = search rules in
    let begun = c.in-Ok.ensures.begins a.stream t.stream in
    let rp = replayed_as lent (c.replay_lent-ended.ensures.replays t.behind t.had) in
    no_verdict c.args.form a before now
    (its_replay head.version task c.deref.result.now asks is a t.behind t.stored before now c.in-Ok.session.value _ _ c.replay_lent-ended.result.1 _ _ r t.unread t.report begun rp)
    0 0 0 0 _ _ _ _ r c.in-Err-judged.status (sym c.judged.ensures ∙ c.in-Err-judged.is) (c.replay_lent-ended.ensures.fault 0 0 0 0)
    (ends head.version task c.deref.result.now asks is a t.behind t.stored before now c.in-Ok.session.value _ _ c.replay_lent-ended.result.1 _ _ r t.unread t.report begun rp) fault

pub returns-clause-wrote : goal.returns-clause-wrote
returns-clause-wrote g c = λ some.
    let bytes = some_value (g.A.Source.left c.args.first.now) some in
    let lent : c.deref_mut.result.now ≡ c.in-Ok.session.value = search rules in
    its_lines _ _ _ bytes.0 _ c.in-Ok.session.value _ _ _ (c.in-Ok.ensures.begins bytes.0 bytes.1) lent c.replay_lent-ended.ensures.wrote

pub returns-clause-fault : goal.returns-clause-fault
returns-clause-fault g c = λ peer peers keep keeps.
    let own = judged_fault (g.A.Source.faults c.begin.new.first) (g.A.Source.faults c.begin.new.first) 0 0 (g.B.Source.faults c.args.second.now) (g.B.Source.faults c.replay_lent-ended.new.source) (g.K.Sink.faults c.args.report.now) (g.K.Sink.faults c.replay_lent-ended.new.report)
    peer peers keep keeps c.replay_lent-ended.result.0 c.in-Err-judged.status (sym c.judged.ensures ∙ c.in-Err-judged.is) (c.replay_lent-ended.ensures.fault _ _ 0 0) in
    since_earlier _ _ _ _ _ _ peer peers _ _ _ keep keeps c.in-Err-judged.status c.begin.ensures.first.later (le_refl _) (le_refl _) own.1

pub returns-clause-listed : goal.returns-clause-listed
returns-clause-listed g c =
    let own = judged_fault 0 0 0 0 (g.B.Source.faults c.args.second.now) (g.B.Source.faults c.replay_lent-ended.new.source) (g.K.Sink.faults c.args.report.now) (g.K.Sink.faults c.replay_lent-ended.new.report)
    0 0 0 0 c.replay_lent-ended.result.0 c.in-Err-judged.status (sym c.judged.ensures ∙ c.in-Err-judged.is) (c.replay_lent-ended.ensures.fault 0 0 0 0) in
    or_second (is_verdict c.in-Err-judged.status) (stops_auditing c.in-Err-judged.status) own.0

-- what the stream told of deltas below 0, whatever came of its queries

pub returns-in-Err-clause-negatives : goal.returns-in-Err-clause-negatives
returns-in-Err-clause-negatives g c = λ asks bytes says told.
    let head = c.args.head in
    of_head c.args.form head.depth head.queries.items _ bytes c.in-Err.status _ says.queries (c.in-Err.ensures.negatives bytes told)

pub returns-in-Ok-judged-clause-negatives : goal.returns-in-Ok-judged-clause-negatives
returns-in-Ok-judged-clause-negatives g c = λ asks bytes says told.
    let head = c.args.head in
    of_head c.args.form head.depth head.queries.items _ bytes c.end.result _ says.queries (of_gathered _ bytes c.end.result _ (c.in-Ok.ensures.negatives bytes told))

pub returns-clause-negatives : goal.returns-clause-negatives
returns-clause-negatives g c = λ asks bytes says told.
    let head = c.args.head in
    of_head c.args.form head.depth head.queries.items _ bytes c.in-Err-judged.status _ says.queries (of_gathered _ bytes c.in-Err-judged.status _ (c.in-Ok.ensures.negatives bytes told))
