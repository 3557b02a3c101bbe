-- The query, and then its challenges.
use Rattle.std.proofs.Common.{[], refl}
use Rattle.std.specs.List.{flat_map}
use Rattle.sip_ports.proofs.TalkLemmas.{GoesOn-refl}
use Rattle.sip_wire.specs.declared.message.Message.TheVariants as messages
use Rattle.sip_wire.specs.declared.version.Version.TheVariants.{Two}
use Rattle.sip_wire.specs.Spelling.{in_bytes, spelling}
use Rattle.sip_wire.specs.Transcript.{ask_bytes}
use Rattle.sip_verifier.proofs.Lines.{at_err, front_sent, whole_sent}
use Rattle.sip_transcript.proofs.rendering.write_wide_ask.Goals as goal

pub returns-in_err-encode_query-clause-talk : goal.returns-in_err-encode_query-clause-talk
unfolding ask_bytes
returns-in_err-encode_query-clause-talk g c =
    let (n, fewer, part) = c.in_err-encode_query.ensures.talk in
    let frame = spelling Two (messages.Query c.args.query.now) in
    at_err _ c.from_residual.result c.from_residual.ensures.0
    (front_sent _ _ _ [] frame (flat_map (in_bytes 8) c.args.block.now) (ask_bytes Two c.args.query.now c.args.block.now) n (GoesOn-refl _) fewer part refl)

pub returns-clause-talk : goal.returns-clause-talk
unfolding ask_bytes
returns-clause-talk g c =
    let frame = spelling Two (messages.Query c.args.query.now) in
    whole_sent _ _ _ c.write_whole.result frame (flat_map (in_bytes 8) c.args.block.now) (ask_bytes Two c.args.query.now c.args.block.now) c.in_ok-encode_query.ensures.talk
    (rw c.block_bytes.ensures at (rw c.as_slice.ensures.value at c.write_whole.ensures.talk)) refl
