use Rattle.sip_sums.specs.Counting.{said}
use Rattle.sip_sums.proofs.FewFooled.{says_decides}
use Rattle.sip_sums.proofs.counting.right_replies_say_the_sum.Goals as goal

pub returns : goal.returns
returns c = λ version p sum all. says_decides sum (said version p all)
