-- A challenge has eight bytes.
use Rattle.std.proofs.Common.{◌++◌, List, ℕ, ap, ◌∙◌}
use Rattle.sip_transcript.proofs.Bytes.{element-bytes}
use Rattle.sip_transcript.proofs.rendering.put_challenge.Goals as goal

pub returns-clause-items : goal.returns-clause-items
returns-clause-items c =
    c.put.ensures.items ∙ ap (λ (l : List ℕ). c.args.bytes.now.items ++ l) (c.to_be_bytes.ensures ∙ element-bytes c.args.challenge)
