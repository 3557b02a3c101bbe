use Rattle.std.proofs.Common.{ℕ, List, Option, Result, Ok, Err, OnOk}
use Rattle.std.specs.Prelude.{option_map}
use Rattle.std.specs.Io.KnownBytes.{Appends}
use Rattle.sip_ports.specs.Ports.{SendsWhole, outs}
use Rattle.sip_ports.proofs.TalkLemmas.{Appends-of_GoesOn}
use Rattle.sip_layer_tests.proofs.port_tests.send_to_vec.Goals as goal

-- a whole write appended all at `Ok`
sent : {T E : Type 0} (r : Result T E) (old new : Option (List ℕ)) (bytes : List ℕ)
    → SendsWhole (option_map outs old) (option_map outs new) r bytes → OnOk r (Appends old new bytes)
sent (Ok x) old new bytes p = Appends-of_GoesOn old new bytes p
sent (Err e) old new bytes p = tt

pub returns : goal.returns
returns c = record { sent = sent _ _ _ c.args.bytes.now c.write_whole.ensures.talk }
