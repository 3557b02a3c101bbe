use Rattle.std.proofs.Common.{rules}
use Rattle.std.proofs.lemmas.Nat.{be_bytes_4}
use Rattle.sip_transcript.proofs.fields.number_of_4.Goals as goal

pub returns : goal.returns
returns c = be_bytes_4 c.args.bytes c.from_be_bytes.result (search rules) (λ i. search rules) c.from_be_bytes.ensures
