-- What went out, what is gathered and what is left are the whole line.
use Rattle.std.proofs.Common.{◌≡◌, ◌∷◌, [], ◌++◌, List, ℕ, drop, sym, ap, ◌∙◌, append_assoc, append-nil, rules}
use Rattle.hex.specs.Hex.{encode_lower}
use Rattle.sip_verifier.proofs.Lines.{at_err, front_sent, sent_more, whole_sent}
use Rattle.sip_transcript.proofs.Digits.{digits-step}
use Rattle.sip_transcript.proofs.listing.write_digits.Goals as goal

pub returns-in_err-write_whole-clause-talk : goal.returns-in_err-write_whole-clause-talk
returns-in_err-write_whole-clause-talk g c =
    let (sent, went, is) = c.loop-left.invariant.sent in
    let now = c.put_hex.new.gathered.items in
    let text = c.args.gathered.items ++ encode_lower c.args.body.now in
    let digits = rw c.split_at.ensures.front at c.put_hex.ensures.items in
    let step = digits-step 480 sent c.loop-left.line.items now c.loop-left.left.now text digits is in
    let split : text ++ 10 ∷ [] ≡ (sent ++ now) ++ (encode_lower (drop 480 c.loop-left.left.now) ++ 10 ∷ []) =
    ap (λ (l : List ℕ). l ++ 10 ∷ []) (sym step) ∙ append_assoc (sent ++ now) (encode_lower (drop 480 c.loop-left.left.now)) (10 ∷ []) in
    let (n, fewer, part) = rw c.as_slice.ensures.value at c.in_err-write_whole.ensures.talk in
    at_err _ c.from_residual.result c.from_residual.ensures.0 (front_sent _ _ _ sent now (encode_lower (drop 480 c.loop-left.left.now) ++ 10 ∷ []) _ n went fewer part split)

pub loop-left-preserved : goal.loop-left-preserved
loop-left-preserved g c =
    let (sent, went, is) = c.loop-left.invariant.sent in
    let now = c.put_hex.new.gathered.items in
    let text = c.args.gathered.items ++ encode_lower c.args.body.now in
    let digits = rw c.split_at.ensures.front at c.put_hex.ensures.items in
    let step = digits-step 480 sent c.loop-left.line.items now c.loop-left.left.now text digits is in
    let more = rw c.as_slice.ensures.value at c.in_ok-write_whole.ensures.talk in
    record {
      short = search rules;
      sent = (
        sent ++ now,
        sent_more _ _ _ sent now went more,
        ap (λ (l : List ℕ). ((sent ++ now) ++ l) ++ encode_lower c.split_at.result.1.now) c.clear.ensures
            ∙ ap (λ (l : List ℕ). l ++ encode_lower c.split_at.result.1.now) (append-nil (sent ++ now))
            ∙ ap (λ (l : List ℕ). (sent ++ now) ++ encode_lower l) c.split_at.ensures.back
            ∙ step,
      );
      lasts = search rules;
    }

pub returns-clause-talk : goal.returns-clause-talk
returns-clause-talk g c =
    let (sent, went, is) = c.loop-left.invariant.sent in
    let line = c.loop-left.line.items in
    let digits = encode_lower c.loop-left.left.now in
    let all = c.put.ensures.items ∙ ap (λ (l : List ℕ). l ++ 10 ∷ []) c.put_hex-2.ensures.items in
    let parts : (c.args.gathered.items ++ encode_lower c.args.body.now) ++ 10 ∷ [] ≡ sent ++ c.put.new.gathered.items =
    ap (λ (l : List ℕ). l ++ 10 ∷ []) (sym is ∙ append_assoc sent line digits)
    ∙ append_assoc sent (line ++ digits) (10 ∷ [])
    ∙ ap (λ (l : List ℕ). sent ++ l) (sym all) in
    whole_sent _ _ _ c.write_whole-2.result sent c.put.new.gathered.items _ went (rw c.as_slice-2.ensures.value at c.write_whole-2.ensures.talk) parts
