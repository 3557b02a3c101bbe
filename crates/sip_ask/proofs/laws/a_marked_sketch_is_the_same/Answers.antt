use Rattle.sip_sketch.proofs.Marked.{marked-is}
use Rattle.sip_ask.proofs.Marks.{other-same, used-here, used-keeps}
use Rattle.sip_ask.proofs.laws.a_marked_sketch_is_the_same.Goals as goal

pub returns-clause-is : goal.returns-clause-is
returns-clause-is c = marked-is

pub returns-clause-keeps : goal.returns-clause-keeps
returns-clause-keeps c = λ s place. used-keeps place s.seats

pub returns-clause-used : goal.returns-clause-used
returns-clause-used c = λ s place lt. used-here place s.seats lt

pub returns-clause-other : goal.returns-clause-other
returns-clause-other c = λ s place k seat other. other-same place k s.seats seat other
