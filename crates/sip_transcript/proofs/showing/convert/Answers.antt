-- The transcript in version 2 is what is written.
use Rattle.sip_verifier.proofs.RunTalks.{some_value}
use Rattle.sip_transcript.specs.declared.rendering.Rendering.TheVariants.{Wide}
use Rattle.sip_transcript.specs.Conversions.{in_version_2}
use Rattle.sip_transcript.specs.Renderings.{rendered}
use Rattle.sip_transcript.proofs.Onward.{wide-text, writes-same, writes-some}
use Rattle.sip_transcript.proofs.showing.convert.Goals as goal

pub returns-clause-writes : goal.returns-clause-writes
returns-clause-writes g c = λ bytes told. writes-same (rendered Wide) in_version_2 wide-text bytes _ _ _ _ (c.render.ensures.writes bytes told)

pub returns-clause-wrote : goal.returns-clause-wrote
returns-clause-wrote g c = λ some.
    let (bytes, told) = some_value (g.B.Source.left c.args.second.now) some in
    writes-some (rendered Wide) bytes _ _ _ _ (c.render.ensures.writes bytes told)
