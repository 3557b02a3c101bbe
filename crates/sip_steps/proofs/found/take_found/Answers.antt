-- One more piece of a Found was taken.
use Rattle.std.proofs.Common.{◌≡◌, ◌-◌, None, length, take, drop, sym, ap, ◌∙◌, arith, length-drop, take_all}
use Rattle.sip_wire.specs.Frames.{frame_bytes}
use Rattle.sip_steps.proofs.Founds.{more_taken, says_this}
use Rattle.sip_steps.proofs.OneTalk.{none_of}
use Rattle.sip_steps.proofs.found.take_found.Goals as goal

pub returns-then-is_some-clause-bytes : goal.returns-then-is_some-clause-bytes
returns-then-is_some-clause-bytes c =
    let so = c.loop-taken.invariant in
    more_taken c.args.bytes.now (frame_bytes c.args.frame.now) (frame_bytes c.loop-taken.frame) (frame_bytes c.look-said.new.frame) c.loop-taken.taken c.min-count.result so.most so.bytes (c.look-said.ensures.bytes ∙ c.put.ensures.takes)

pub loop-taken-preserved : goal.loop-taken-preserved
loop-taken-preserved c =
    let so = c.loop-taken.invariant in
    let bytes = c.args.bytes.now in
    let a = c.loop-taken.taken in
    let none : c.look-said.result ≡ None = none_of c.look-said.result (sym c.is_some.ensures ∙ c.if-is_some.false) in
    let rest : length (take (length bytes - a) (drop a bytes)) ≡ length bytes - a = ap length (take_all (length bytes - a) (drop a bytes) (omega (arith, length-drop a bytes))) ∙ length-drop a bytes in
    record {
      most = omega (arith, c.min-count.ensures, rest, so.most);
      short = says_this c.args.version (frame_bytes c.look-said.new.frame) c.look-said.result None none c.look-said.ensures.says;
      bytes = more_taken bytes (frame_bytes c.args.frame.now) (frame_bytes c.loop-taken.frame) (frame_bytes c.look-said.new.frame) a c.min-count.result so.most so.bytes (c.look-said.ensures.bytes ∙ c.put.ensures.takes);
    }
