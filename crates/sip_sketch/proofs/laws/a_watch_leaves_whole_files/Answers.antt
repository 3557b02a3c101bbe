-- Each ending left some of the files that it was to store.
use Rattle.sip_sketch.proofs.WatchedCrashes.{watch_leaves}
use Rattle.sip_sketch.proofs.laws.a_watch_leaves_whole_files.Goals as goal

pub returns : goal.returns
returns c = λ form at every start left more talk events n content held status watches.
    watch_leaves form at every start left more talk events n content held status watches
