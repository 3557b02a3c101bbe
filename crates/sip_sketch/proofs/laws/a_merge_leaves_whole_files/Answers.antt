use Rattle.sip_sketch.proofs.MergedCrashes.{merge_leaves}
use Rattle.sip_sketch.proofs.laws.a_merge_leaves_whole_files.Goals as goal

pub returns : goal.returns
returns c = merge_leaves
