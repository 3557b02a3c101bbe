use Rattle.std.proofs.Common.{◌≡◌, ◌%◌, ◌∙◌, arith}
use Rattle.std.proofs.lemmas.List.{length-set}
use Rattle.sip_moments.proofs.Places.{value-next}
use Rattle.sip_moments.proofs.rounds.fill_zeros.Goals as goal

pub loop-place-preserved : goal.loop-place-preserved
loop-place-preserved g c = record {
  long = length-set c.loop-place.sums c.loop-place.place c.of-zero.result ∙ c.loop-place.invariant.long;
  zeros = value-next g.F.Field.number (λ j n. n ≡ 0 % g.F.Field.MODULUS) c.loop-place.sums c.loop-place.place c.of-zero.result
      (omega (arith, c.loop-place.invariant.long, c.loop-place-test.true)) c.loop-place.invariant.zeros c.of-zero.ensures;
}
