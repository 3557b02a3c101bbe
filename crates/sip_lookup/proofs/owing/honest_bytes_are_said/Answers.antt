use Rattle.sip_lookup.proofs.OwedLooks.{bytes_owed, turns_come}
use Rattle.sip_lookup.proofs.owing.honest_bytes_are_said.Goals as goal

pub returns : goal.returns
returns c = record {
  turns = λ version depth pieces asks some shallow can room. turns_come version depth pieces asks some shallow can room;
  bytes = λ version depth pieces asks some shallow can. bytes_owed version depth pieces asks some shallow can;
}
