-- The shifts lose nothing, and the sum is that of the entries below the node.
use Rattle.std.proofs.Common.{◌≡◌, ℕ, ◌+◌, ◌-◌, ◌*◌, ◌%◌, ◌^◌, filter, length, sym, ◌∙◌, ap, arith}
use Rattle.sip_vector.specs.Answers.{is_within}
use Rattle.sip_vector.specs.declared.update.Entry.{Entry}
use Rattle.sip_subvec.specs.Checking.{entries_sum}
use Rattle.sip_subvec.proofs.SummedNodes.{shifted}
use Rattle.sip_subvec.proofs.nodes.node.Goals as goal

pub overflow_add-first : goal.overflow_add-first
overflow_add-first g c =
    let s = shifted c.args.height c.args.index c.requires.deep c.requires.within in
    omega (arith, s.one, s.first, s.fits)

pub returns : goal.returns
returns g c challenges height tables long rise =
    let p : ℕ = g.F.Field.MODULUS in
    let s = shifted c.args.height c.args.index c.requires.deep c.requires.within in
    let size : 1 * 2 ^ c.args.height % 18446744073709551616 ≡ 2 ^ length challenges = s.one ∙ ap (λ h. 2 ^ h) (sym height) in
    let last : c.args.index * 2 ^ c.args.height % 18446744073709551616 + (1 * 2 ^ c.args.height % 18446744073709551616 - 1) ≡ 2 ^ c.args.height * c.args.index + (2 ^ c.args.height - 1) =
    omega (arith, s.one, s.first) in
    c.weighed.ensures challenges size tables long
    ∙ ap (λ es. entries_sum p challenges es % p) (c.stretch.ensures rise
    ∙ ap (λ a. filter (λ (e : Entry). is_within a (c.args.index * 2 ^ c.args.height % 18446744073709551616 + (1 * 2 ^ c.args.height % 18446744073709551616 - 1)) e.index) c.args.entries.now) s.first
    ∙ ap (λ b. filter (λ (e : Entry). is_within (2 ^ c.args.height * c.args.index) b e.index) c.args.entries.now) last)
