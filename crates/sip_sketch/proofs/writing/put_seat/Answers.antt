-- The numbers of a seat, one behind the other.
use Rattle.std.proofs.Common.{◌≡◌, [], ◌∷◌, ◌++◌, length, sym, ap, subst, ◌∙◌, append_assoc, rules}
use Rattle.std.specs.Int.{from_bool, w8, w64, to_be_bytes}
use Rattle.sip_sketch.specs.Fields.{width_of}
use Rattle.sip_sketch.specs.Sketches.{byte, code_of, element, elements, seat_fields, second_of}
use Rattle.sip_sketch.specs.inside.Spelling.{Puts}
use Rattle.sip_sketch.proofs.Putting.{puts_on, puts_one, second_size}
use Rattle.sip_sketch.proofs.SeatFields.{after_block, after_first, after_kind, after_used}
use Rattle.sip_sketch.proofs.writing.put_seat.Goals as goal

pub returns-clause-puts : goal.returns-clause-puts
returns-clause-puts c = λ tally behind.
    let s = c.args.seat.now in
    let d = length s.block in
    let number = second_of tally in
    let kind = code_of s.kind in
    let used = from_bool s.is_used in
    let start = c.args.out.now.items in
    let one_more = c.put.new.out.items in
    let two_more = c.put-2.new.out.items in
    let three_more = c.put_block.new.out.items in
    let four_more = c.put-3.new.out.items in
    let all = c.put-4.new.out.items in
    let has_kind : one_more ≡ start ++ to_be_bytes w8 kind = search rules in
    let has_used : two_more ≡ one_more ++ to_be_bytes w8 used = search rules in
    let has_first : four_more ≡ three_more ++ to_be_bytes w64 s.first = search rules in
    let has_second : all ≡ four_more ++ to_be_bytes w64 s.second = search rules in
    let p = puts_one start one_more (byte 1 8) (after_kind d number behind) kind has_kind in
    let q = puts_on p (puts_one one_more two_more (byte 0 1) (after_used d number behind kind) used has_used) in
    let same : c.block.result.now ≡ s.block = search rules in
    let block = subst (λ l. Puts two_more three_more (elements (length l) (after_block number behind kind used)) (after_block number behind kind used) l) same (c.put_block.ensures.puts (after_block number behind kind used)) in
    let r = puts_on q block in
    let t = puts_on r (puts_one three_more four_more element (after_first number behind kind used) s.first has_first) in
    let last = has_second ∙ ap (λ size. four_more ++ to_be_bytes (width_of size) s.second) (sym (second_size tally s.kind used)) in
    let u = puts_on t (puts_one four_more all (number kind used) (λ _. behind) s.second last) in
    subst (λ l. Puts start all (seat_fields d number behind) behind (kind ∷ used ∷ l)) (append_assoc s.block (s.first ∷ []) (s.second ∷ [])) u
