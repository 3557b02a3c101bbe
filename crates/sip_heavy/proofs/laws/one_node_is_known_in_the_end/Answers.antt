use Rattle.sip_heavy.proofs.TopNode.{top_is_one}
use Rattle.sip_heavy.proofs.laws.one_node_is_known_in_the_end.Goals as goal

pub returns : goal.returns
returns c p q challenges replies known deep some same is =
    let one = top_is_one p q challenges replies known deep some same is in
    (one.top, one.alone, one.first)
