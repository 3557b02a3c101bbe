use Rattle.std.proofs.Common.{◌≡◌, ◌≤◌, ◌<◌, ◌^◌, subst, sym, ◌∙◌, arith}
use Rattle.std.proofs.Math.Pow.{pow_mono}
use Rattle.sip_vector.specs.Limits.{most_depth}
use Rattle.sip_lookup.specs.Lookups.{item_of}
use Rattle.sip_words.proofs.LookWords.{item_read, look_word_once}
use Rattle.sip_words.proofs.lookup.read_lookup.Goals as goal

-- an item that the stream has not is that of no other lookup
pub returns-else-item-get : goal.returns-else-item-get
returns-else-item-get c = λ other (can, is).
    let deep : c.args.depth ≤ most_depth = omega (arith, c.get.ensures.same, c.get.ensures.most) in
    let bound = pow_mono {i = c.args.depth} {j = most_depth} deep in
    let read = c.in_ok-lookup.ensures in
    let one : c.in_ok-lookup.lookup ≡ other = look_word_once _ other read.0 (item_read c.args.depth other deep can) (sym read.1 ∙ is) in
    let item : item_of c.in_ok-lookup.lookup < 2 ^ c.args.depth = subst (λ l. item_of l < 2 ^ c.args.depth) (sym one) can in
    let least = rw c.get.ensures.same at c.if-item-get.false in
    absurd (omega (arith, least, c.item.ensures, item, bound))
