use Rattle.sip_transcript.proofs.Passing.{fits_at-fits, fits_at-true}
use Rattle.sip_transcript.proofs.laws.queries_that_fit.Goals as goal

pub returns : goal.returns
returns c = λ depth query. (fits_at-fits depth query, fits_at-true depth query)
