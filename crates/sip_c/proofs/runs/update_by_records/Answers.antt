use Rattle.std.proofs.Common.{◌≡◌, List, Err}
use Rattle.sip_c.specs.Handles.{ThroughRun}
use Rattle.sip_c.specs.Runs.{RunFeeds}
use Rattle.sip_c.specs.declared.codes.UpdateCode.{UpdateCode}
use Rattle.sip_c.specs.declared.refusal.Refusal.{Refusal}
use Rattle.sip_c.proofs.ByForm.{found}
use Rattle.sip_c.proofs.runs.update_by_records.Goals as goal

pub returns-clause-feeds : goal.returns-clause-feeds
returns-clause-feeds c =
    let old = c.args.handle.now.spot.held in
    let new = c.update_in.new.handle.spot.held in
    let answer = c.update_in.result in
    let taken = c.update_in.new.taken in
    found c.args.form c.args.bytes.now (λ (why : Refusal). (answer ≡ Err why) × (new ≡ old) × (taken ≡ c.args.taken.now))
    (λ (codes : List UpdateCode). ThroughRun (taken ≡ c.args.taken.now) (RunFeeds codes taken) old answer new) c.in_ok-records.records.width c.in_ok-records.records.bytes.now c.in_ok-records.ensures.found c.update_in.ensures.feeds
