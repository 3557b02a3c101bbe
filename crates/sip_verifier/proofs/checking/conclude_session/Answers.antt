-- A session is what asks the queries of a run.
use Rattle.sip_verifier.proofs.SessionAsks.{all_stand, goes_on}
use Rattle.sip_verifier.proofs.checking.conclude_session.Goals as goal

pub returns-clause-ends : goal.returns-clause-ends
returns-clause-ends g c = λ i x before now b fault.
    c.conclude_run.ensures.ends i x before now (goes_on i x c.args.session.now _ _ _ _ b) (all_stand i x c.args.session.now _ _ _ _ b) fault
