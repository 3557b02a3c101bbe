-- What holds of each side's update holds of the one that is counted.
use Rattle.std.proofs.Common.{◌≡◌, ◌≤◌, ◌+◌, ◌*◌, ◌%◌, nat_abs, bit_or, refl, rules, arith}
use Rattle.sip_stream.specs.declared.batch.Batch.{Batch}
use Rattle.sip_stream.specs.Spellings.{side_number}
use Rattle.sip_stream.proofs.Batched.{bits_with, is_few, takes_one, was_clean}
use Rattle.sip_stream.proofs.batch.Batch.note.Goals as goal

pub returns : goal.returns
returns c =
    let old = c.args.self.now in
    let u = c.args.update.now in
    let size = c.unsigned_abs-size.result in
    let number = c.from.result in
    let new : Batch = record {
      count = (old.count + 1) % 18446744073709551616;
      total = (old.total + size) % 18446744073709551616;
      second = (old.second + size * number % 18446744073709551616) % 18446744073709551616;
      items = bit_or old.items u.item;
      sizes = bits_with old.sizes size;
    } in
    let says : number ≡ side_number u.side = search rules in
    let is : size ≡ nat_abs u.delta = search rules in
    let short : size ≤ 9223372036854775808 = omega (arith, c.unsigned_abs-size.ensures.bound) in record {
      few = λ n m more most were. is_few old new size u is short refl refl refl refl n m more most were;
      clean = λ depth n most were clean. was_clean old new size u is short refl refl refl refl depth n most were clean;
      one = λ r clean light. takes_one old new size u is short refl refl refl refl r clean light number says refl;
    }
