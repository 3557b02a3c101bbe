-- The parts stand behind what was there.
use Rattle.std.proofs.Common.{◌++◌, ◌+◌, ◌∷◌, [], ap, ◌∙◌, rules, w64}
use Rattle.std.specs.Fmt.{signed_decimal}
use Rattle.std.proofs.lemmas.Int.{to_z-of_z}
use Rattle.sip_stream.proofs.SpelledLines.{line_built}
use Rattle.sip_stream.proofs.line.put_line_bytes.Goals as goal

pub returns : goal.returns
returns g c =
    let u = c.args.update.now in
    let start = c.args.gathered.now.items in
    let one = c.put.new.gathered.items in
    let two = c.put-2.new.gathered.items in
    let three = c.put-3.new.gathered.items in
    let four = c.put-4.new.gathered.items in
    line_built u start one two three four c.put-5.new.gathered.items
    (c.put.ensures.items ∙ ap (λ n. start ++ (48 + n) ∷ 32 ∷ []) c.number_of.ensures.number)
    (c.put-2.ensures.items ∙ ap (λ l. one ++ l) (c.as_bytes.ensures.value ∙ c.format.ensures.text))
    c.put-3.ensures.items
    (c.put-4.ensures.items ∙ ap (λ l. three ++ l) (c.as_bytes-2.ensures.value ∙ c.format-2.ensures.text ∙ ap signed_decimal (to_z-of_z w64 u.delta (search rules))))
    c.put-5.ensures.items
