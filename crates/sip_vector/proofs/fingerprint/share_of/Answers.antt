-- The place counts modulo 2^64 alone.
use Rattle.std.proofs.Common.{ap, ◌*◌, ◌%◌, ◌^◌, ◌∙◌, rules, of_z, w64}
use Rattle.std.proofs.lemmas.Int.{to_z-of_z}
use Rattle.sip_vector.specs.Fingerprints.{mix, place_of}
use Rattle.sip_vector.proofs.Mixes.{mix_low}
use Rattle.sip_vector.proofs.fingerprint.share_of.Goals as goal

pub returns : goal.returns
returns c =
    let u = c.args.update.now in
    let mixed = c.mix.ensures ∙ ap mix c.place_of.ensures ∙ mix_low (place_of u.side u.item) in
    rw (c.cast_unsigned.ensures, mixed)
    (ap (λ z. of_z w64 z * mix (place_of u.side u.item) % 2 ^ 64) (to_z-of_z w64 u.delta (search rules)))
