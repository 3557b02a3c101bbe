-- The challenges of the queries before it, and then its own.
use Rattle.std.proofs.Common.{◌+◌, ◌*◌, ◌≤◌, ℕ, length, take, drop, sym, ap, subst, ◌∙◌, arith}
use Rattle.sip_transcript.proofs.Asks.{head-block, head-room}
use Rattle.sip_transcript.proofs.head.Head.block.Goals as goal

pub split_at-requires : goal.split_at-requires
split_at-requires c =
    let (asks, says) = c.requires.said in
    let room = head-room c.args.self.now asks c.args.place says c.requires.asked in
    let before : c.args.place * c.args.self.now.depth ≤ length c.as_slice.result.now = omega (arith, room, ap length c.as_slice.ensures.value) in
    subst (λ (n : ℕ). c.args.place * n ≤ length c.as_slice.result.now) (sym c.get-levels.ensures.same) before

pub split_at-requires-2 : goal.split_at-requires-2
split_at-requires-2 c =
    let (asks, says) = c.requires.said in
    let room = head-room c.args.self.now asks c.args.place says c.requires.asked in
    let all : c.args.place * c.get-levels.result + c.get-levels.result ≤ length c.as_slice.result.now =
    subst (λ (n : ℕ). c.args.place * n + n ≤ length c.as_slice.result.now) (sym c.get-levels.ensures.same)
    (subst (λ (n : ℕ). c.args.place * c.args.self.now.depth + c.args.self.now.depth ≤ n) (sym (ap length c.as_slice.ensures.value)) room) in
    omega (arith, all, c.split_at.ensures.back_len)

pub returns : goal.returns
returns c = λ asks other says.
    c.split_at-2.ensures.front
    ∙ ap (take c.get-levels.result) (c.split_at.ensures.back ∙ ap (drop (c.args.place * c.get-levels.result)) c.as_slice.ensures.value)
    ∙ ap (λ (n : ℕ). take n (drop (c.args.place * n) c.args.self.now.challenges.items)) c.get-levels.ensures.same
    ∙ head-block c.args.self.now asks c.args.place other says c.requires.asked
