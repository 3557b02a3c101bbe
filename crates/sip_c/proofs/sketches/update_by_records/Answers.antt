use Rattle.std.proofs.Common.{◌≡◌, List, Err}
use Rattle.sip_c.specs.Handles.{ThroughSketch}
use Rattle.sip_c.specs.Updating.{Updates}
use Rattle.sip_c.specs.declared.codes.UpdateCode.{UpdateCode}
use Rattle.sip_c.specs.declared.refusal.Refusal.{Refusal}
use Rattle.sip_c.proofs.ByForm.{found}
use Rattle.sip_c.proofs.sketches.update_by_records.Goals as goal

pub returns : goal.returns
returns c =
    let at = c.args.at.now in
    let at' = c.update_in.new.at in
    let old = c.args.handle.now.spot.held in
    let new = c.update_in.new.handle.spot.held in
    let answer = c.update_in.result in
    found c.args.form c.args.bytes.now (λ (why : Refusal). (answer ≡ Err why) × (new ≡ old) × (at' ≡ at))
    (λ (codes : List UpdateCode). ThroughSketch (at' ≡ at) (Updates codes at at') old answer new) c.in_ok-records.records.width c.in_ok-records.records.bytes.now c.in_ok-records.ensures.found c.update_in.ensures
