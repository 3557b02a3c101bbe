-- The digits are those of a challenge's eight bytes.
use Rattle.std.proofs.Common.{◌∷◌, [], ◌++◌, List, ℕ, ap, ◌∙◌, append_assoc}
use Rattle.hex.specs.Hex.{encode_lower}
use Rattle.sip_wire.specs.Spelling.{in_bytes}
use Rattle.sip_transcript.proofs.Bytes.{element-bytes}
use Rattle.sip_transcript.proofs.listing.put_challenge.Goals as goal

pub returns-clause-items : goal.returns-clause-items
returns-clause-items c =
    c.put_hex.ensures.items
    ∙ ap (λ (l : List ℕ). c.put.new.gathered.items ++ encode_lower l) (c.to_be_bytes-bytes.ensures ∙ element-bytes c.args.challenge)
    ∙ ap (λ (l : List ℕ). l ++ encode_lower (in_bytes 8 c.args.challenge)) c.put.ensures.items
    ∙ append_assoc c.args.line.now.items (32 ∷ []) (encode_lower (in_bytes 8 c.args.challenge))
