use Rattle.sip_wire.specs.Frames.{frame_bytes}
use Rattle.sip_duel.proofs.GivingLemmas.{none_is_short, part_is_short, sent_or_not}
use Rattle.sip_duel.proofs.kept.Kept.put.Goals as goal

pub invariant_of-self-in-Part-clause-given : goal.invariant_of-self-in-Part-clause-given
invariant_of-self-in-Part-clause-given c = sent_or_not _ c.args.self.now.talk.items c.extend_from_slice.new.self.items c.deref.result.now c.in_ok-events.events.items c.args.bytes.now _ c.extend_from_slice.ensures.items c.deref.ensures.value c.in_ok-events.ensures c.args.self.now.given

pub invariant_of-self-in-Whole-clause-given : goal.invariant_of-self-in-Whole-clause-given
invariant_of-self-in-Whole-clause-given c = sent_or_not _ c.args.self.now.talk.items c.extend_from_slice.new.self.items c.deref.result.now c.in_ok-events.events.items c.args.bytes.now _ c.extend_from_slice.ensures.items c.deref.ensures.value c.in_ok-events.ensures c.args.self.now.given

pub invariant_of-self-in-NoFrame-clause-given : goal.invariant_of-self-in-NoFrame-clause-given
invariant_of-self-in-NoFrame-clause-given c = sent_or_not _ c.args.self.now.talk.items c.extend_from_slice.new.self.items c.deref.result.now c.in_ok-events.events.items c.args.bytes.now _ c.extend_from_slice.ensures.items c.deref.ensures.value c.in_ok-events.ensures c.args.self.now.given

pub invariant_of-self-in-Part-clause-short : goal.invariant_of-self-in-Part-clause-short
invariant_of-self-in-Part-clause-short c = part_is_short _ _ (frame_bytes c.put.new.self) (frame_bytes c.judge-taken.new.self) _ _ c.in-Part.is c.judge-taken.ensures.judges c.judge-taken.ensures.bytes

pub invariant_of-self-in-Whole-clause-short : goal.invariant_of-self-in-Whole-clause-short
invariant_of-self-in-Whole-clause-short c = none_is_short _ _ _ c.clear.ensures.bytes

pub invariant_of-self-in-NoFrame-clause-short : goal.invariant_of-self-in-NoFrame-clause-short
invariant_of-self-in-NoFrame-clause-short c = none_is_short _ _ _ c.clear-in-NoFrame.ensures.bytes
