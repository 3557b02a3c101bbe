-- The listing is what is written.
use Rattle.sip_verifier.proofs.RunTalks.{some_value}
use Rattle.sip_transcript.specs.declared.rendering.Rendering.TheVariants.{Listing}
use Rattle.sip_transcript.specs.Listings.{listing}
use Rattle.sip_transcript.specs.Renderings.{rendered}
use Rattle.sip_transcript.proofs.Onward.{lines-text, writes-same, writes-some}
use Rattle.sip_transcript.proofs.showing.show.Goals as goal

pub returns-clause-writes : goal.returns-clause-writes
returns-clause-writes g c = λ bytes told. writes-same (rendered Listing) listing lines-text bytes _ _ _ _ (c.render.ensures.writes bytes told)

pub returns-clause-wrote : goal.returns-clause-wrote
returns-clause-wrote g c = λ some.
    let (bytes, told) = some_value (g.B.Source.left c.args.second.now) some in
    writes-some (rendered Listing) bytes _ _ _ _ (c.render.ensures.writes bytes told)
