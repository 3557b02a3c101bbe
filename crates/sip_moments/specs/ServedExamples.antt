-- A helper of moments behind a stream that adds up to (3, 0, 5, 1): the third moment of side 0 is
-- asked for, and then the challenge 2 is revealed.
use Rattle.std.specs.Prelude.{[], ◌∷◌}
use Rattle.sip_vector.specs.Examples.{stream}
use Rattle.sip_vector.specs.declared.update.Side.TheVariants.{First}
use Rattle.sip_moments.specs.declared.moment.Moment.{Moment}
use Rattle.sip_moments.specs.Served.{behind_stream, question_heard}
use Rattle.sip_moments.specs.Serving.{MomentHelper}

abbrev pub behind_four : MomentHelper
behind_four = behind_stream 1 2 (stream ∷ [])

abbrev pub cubes : Moment
cubes = record { side = First; degree = 3 }

abbrev pub asked_cubes : MomentHelper
asked_cubes = question_heard behind_four cubes []

abbrev pub challenged_cubes : MomentHelper
challenged_cubes = question_heard behind_four cubes (2 ∷ [])
