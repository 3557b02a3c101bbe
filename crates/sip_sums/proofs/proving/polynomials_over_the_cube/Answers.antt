use Rattle.sip_sums.proofs.Cube.{polynomial-is}
use Rattle.sip_sums.proofs.proving.polynomials_over_the_cube.Goals as goal

pub returns : goal.returns
returns c p first second revealed n some all long same = polynomial-is p some first second revealed n all long same
