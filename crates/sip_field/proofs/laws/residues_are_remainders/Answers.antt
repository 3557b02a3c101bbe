use Rattle.sip_field.proofs.Residues as lemmas
use Rattle.sip_field.proofs.laws.residues_are_remainders.Goals as goal

pub returns-clause-signed : goal.returns-clause-signed
returns-clause-signed c = lemmas.residues_are_remainders

pub returns-clause-differences : goal.returns-clause-differences
returns-clause-differences c = lemmas.differences_are_residues
