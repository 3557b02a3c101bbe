-- The bytes that were loaded are bad from this one on.
use Rattle.std.proofs.Common.{◌≡◌, ℕ, List, Some, Err, subst}
use Rattle.sip_sketch.specs.Fields.{read}
use Rattle.sip_sketch.specs.Reading.{IsFaultOf}
use Rattle.sip_sketch.specs.Sketches.{sketch_file}
use Rattle.sip_ask.proofs.desk_asking.load.Goals as goal

pub returns-in-Err-Bad-clause-loads : goal.returns-in-Err-Bad-clause-loads
returns-in-Err-Bad-clause-loads g c =
    let found = rw c.in-Ok-Some.field-0-is at c.in-Ok-Some.ensures.found in
    let bad : read sketch_file c.deref.result.now ≡ Err c.in-Err-Bad.offset =
    subst (IsFaultOf (read sketch_file c.deref.result.now)) c.in-Err-Bad.field-0-is c.in-Err-Bad.ensures.exact in
    let own : read sketch_file c.in-Ok-Some.file.items ≡ Err c.in-Err-Bad.offset =
    subst (λ (l : List ℕ). read sketch_file l ≡ Err c.in-Err-Bad.offset) c.deref.ensures.value bad in
    (Some c.in-Ok-Some.file.items, found, own)
