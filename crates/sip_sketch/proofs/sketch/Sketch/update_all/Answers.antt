-- What was split by side came to the sketch.
use Rattle.sip_sketch.proofs.sketch.Sketch.update_all.Goals as goal

pub returns : goal.returns
returns c =
    let grown = c.raise.ensures in
    record { kept = grown.kept; told = grown.told; used = grown.used; stands = grown.stands }
