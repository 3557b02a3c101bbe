use Rattle.std.proofs.Common.{◌≡◌, ◌+◌, ◌≤◌, ◌++◌, length, length-take, take, sym, ap, ◌∙◌, arith, rules}
use Rattle.std.proofs.lemmas.Grind.{common_steps}
use Rattle.sip_stream.specs.Made.{made_bytes}
use Rattle.sip_stream.proofs.Filling.{filled_more}
use Rattle.sip_stream.proofs.made.MadeSource.fill.Goals as goal

pub returns-clause-bytes : goal.returns-clause-bytes
returns-clause-bytes c =
    let source = c.go_on.new.self in
    let filled = c.args.filled in
    let n = c.min-count.result in
    ap (λ left. take filled c.args.buf.now ++ left) (sym c.go_on.ensures.same)
    ∙ filled_more filled source.at n c.args.buf.now c.copy_from_slice.new.self (take source.end source.block) (made_bytes source.state source.more source.depth) c.requires (search rules) (grind (arith, common_steps))

-- no more bytes are moved than the block has
pub overflow_add-self : goal.overflow_add-self
overflow_add-self c =
    let source = c.go_on.new.self in
    let moved : source.at + c.min-count.result ≤ length (take source.end source.block) = grind (arith, common_steps) in
    let long : length source.block ≡ 4096 = search rules in
    omega (arith, moved, long, length-take source.end source.block)
