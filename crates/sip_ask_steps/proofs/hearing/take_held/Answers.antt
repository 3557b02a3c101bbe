-- One more piece of the frame was taken.
use Rattle.std.proofs.Common.{◌≡◌, ◌-◌, length, take, drop, ap, subst, ◌∙◌, arith, length-drop, take_all}
use Rattle.sip_wire.specs.Frames.{frame_bytes}
use Rattle.sip_steps.proofs.Founds.{more_taken}
use Rattle.sip_ask_steps.specs.Hearing.{SaysHeld}
use Rattle.sip_ask_steps.specs.declared.hearing.Says.TheVariants as says
use Rattle.sip_ask_steps.proofs.hearing.take_held.Goals.{in-Nothing, in_default}
use Rattle.sip_ask_steps.proofs.hearing.take_held.Goals as goal

pub returns-then-not-matches-clause-bytes : goal.returns-then-not-matches-clause-bytes
returns-then-not-matches-clause-bytes c =
    let so = c.loop-taken.invariant in
    more_taken c.args.bytes.now (frame_bytes c.args.frame.now) (frame_bytes c.loop-taken.frame) (frame_bytes c.look-says.new.frame) c.loop-taken.taken c.min-count.result so.most so.bytes
    (c.look-says.ensures.bytes ∙ c.put.ensures.takes)

pub loop-taken-preserved : goal.loop-taken-preserved
loop-taken-preserved c =
    let so = c.loop-taken.invariant in
    let bytes = c.args.bytes.now in
    let a = c.loop-taken.taken in
    let nothing : c.look-says.result ≡ says.Nothing = elim c.match-matches.branch [
      | in-Nothing w ↦ w.in-Nothing.is
      | in_default w ↦ absurd (let no = w.matches-is in let other = c.if-not-matches.false in cc)
    ] in
    let rest : length (take (length bytes - a) (drop a bytes)) ≡ length bytes - a = ap length (take_all (length bytes - a) (drop a bytes) (omega (arith, length-drop a bytes))) ∙ length-drop a bytes in
    record {
      most = omega (arith, c.min-count.ensures, rest, so.most);
      short = subst (SaysHeld c.args.version (frame_bytes c.look-says.new.frame)) nothing c.look-says.ensures.says;
      bytes = more_taken bytes (frame_bytes c.args.frame.now) (frame_bytes c.loop-taken.frame) (frame_bytes c.look-says.new.frame) a c.min-count.result so.most so.bytes
          (c.look-says.ensures.bytes ∙ c.put.ensures.takes);
    }
