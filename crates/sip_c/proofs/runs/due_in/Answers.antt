use Rattle.sip_c.proofs.Carried.{through}
use Rattle.sip_c.proofs.runs.due_in.Goals as goal

pub returns-clause-does : goal.returns-clause-does
returns-clause-does c =
    through _ _ _ _ _ _ _ _ c.in-Some.ensures.kept c.deref_mut.ensures.value c.put.ensures c.due_kept-did.ensures.does
