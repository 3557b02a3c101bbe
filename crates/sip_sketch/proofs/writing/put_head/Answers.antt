-- The numbers of the head, one behind the other.
use Rattle.std.proofs.Common.{◌≡◌, ◌++◌, rules}
use Rattle.std.specs.Int.{w8, to_be_bytes}
use Rattle.sip_vector.specs.Limits.{most_depth}
use Rattle.sip_sketch.specs.Sketches.{byte, magic, most_seats, second_of, seats_fields}
use Rattle.sip_sketch.proofs.HeadFields.{behind_depth, behind_parts, behind_tally}
use Rattle.sip_sketch.proofs.Putting.{puts_magic, puts_on, puts_one}
use Rattle.sip_sketch.proofs.writing.put_head.Goals as goal

pub returns-clause-puts : goal.returns-clause-puts
returns-clause-puts c =
    let h = c.args.head.now in
    let begun = c.put.new.out.items in
    let deep = c.put-2.new.out.items in
    let told = c.put_tally.new.out.items in
    let all = c.put-3.new.out.items in
    let has_magic : begun ≡ c.args.out.now.items ++ magic = search rules in
    let has_depth : deep ≡ begun ++ to_be_bytes w8 h.depth = search rules in
    let has_count : all ≡ told ++ to_be_bytes w8 h.count = search rules in
    let p = puts_on (puts_magic c.args.out.now.items begun has_magic) (puts_one begun deep (byte 1 most_depth) behind_depth h.depth has_depth) in
    let q = puts_on p (c.put_parts.ensures.puts (behind_parts h.depth)) in
    let r = puts_on q (c.put_tally.ensures.puts (behind_tally h.depth)) in
    puts_on r (puts_one told all (byte 1 most_seats) (seats_fields h.depth (second_of h.tally)) h.count has_count)
