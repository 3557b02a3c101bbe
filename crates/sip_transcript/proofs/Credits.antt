-- What an audit tells of deltas below 0 is what a run of the transcript's queries tells.
use Rattle.std.proofs.Common.{◌≡◌, ℕ, List, false, true, subst}
use Rattle.std.specs.Prelude.{IsTrue}
use Rattle.sip_stream.specs.declared.form.Form.{Form}
use Rattle.sip_vector.specs.declared.query.Query.{Query}
use Rattle.sip_vector.specs.declared.tally.Negatives.{Negatives}
use Rattle.sip_verifier.specs.declared.status.Status.{Status}
use Rattle.sip_verifier.specs.Negatives.{NegativesClause, is_judged}
use Rattle.sip_transcript.specs.declared.fault.HeadFault.{HeadFault}
use Rattle.sip_transcript.specs.declared.fault.HeadFault.TheVariants.{Bad, OutOfMemory, ReadFault}
use Rattle.sip_transcript.specs.Causes.{status_of_head}

-- of the queries that the head says
pub of_head : (form : Form) (depth : ℕ) (queries asked : List Query) (bytes : List ℕ) (status : Status) (negatives : Negatives)
    → queries ≡ asked
    → NegativesClause (record { depth = depth; form = form; queries = record { items = queries } }) bytes status negatives
    → NegativesClause (record { depth = depth; form = form; queries = record { items = asked } }) bytes status negatives
of_head form depth queries asked bytes status negatives same clause =
    subst (λ (items : List Query). NegativesClause (record { depth = depth; form = form; queries = record { items = items } }) bytes status negatives) same clause

-- where no head was read nothing was judged
pub head_unjudged : (fault : HeadFault) → IsTrue (is_judged (status_of_head fault)) → ⊥
head_unjudged (Bad at) judged = let no : false ≡ true = judged in absurd cc
head_unjudged ReadFault judged = let no : false ≡ true = judged in absurd cc
head_unjudged OutOfMemory judged = let no : false ≡ true = judged in absurd cc
