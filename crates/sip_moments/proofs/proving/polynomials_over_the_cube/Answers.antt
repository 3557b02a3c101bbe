use Rattle.sip_moments.proofs.MomentCube.{polynomial-is}
use Rattle.sip_moments.proofs.proving.polynomials_over_the_cube.Goals as goal

pub returns : goal.returns
returns c = polynomial-is
