use Rattle.sip_heavy.specs.Counting.{said}
use Rattle.sip_heavy.specs.Honest.{heavy_of}
use Rattle.sip_replies.proofs.SameEntries.{same_entries}
use Rattle.sip_heavy.proofs.counting.right_replies_say_the_heavy_numbers.Goals as goal

pub returns : goal.returns
returns c = λ version p d t numbers all. same_entries (said version p d t numbers all) (heavy_of t numbers)
