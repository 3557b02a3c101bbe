use Rattle.sip_vector.specs.Vectors.{nonzero_within}
use Rattle.sip_subvec.specs.Counting.{said}
use Rattle.sip_replies.proofs.SameEntries.{same_entries}
use Rattle.sip_subvec.proofs.counting.right_replies_say_the_entries.Goals as goal

pub returns : goal.returns
returns c = λ version lo hi numbers all. same_entries (said version lo hi all) (nonzero_within lo hi numbers)
