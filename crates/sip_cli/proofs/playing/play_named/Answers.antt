use Rattle.std.proofs.Common.{◌≡◌, [], sym, ◌∙◌}
use Rattle.sip_words.specs.declared.helper_name.HelperName.TheVariants.{Honest, Mute}
use Rattle.sip_cli.proofs.PlayLemmas.{tells_on}
use Rattle.sip_cli.proofs.playing.play_named.Goals as goal
use Rattle.sip_cli.proofs.playing.play_named.Goals.{in-Honest+in_ok-honest-in-Honest+in_ok-link-in-Honest, in-Skewed+in_ok-skewed-in-Skewed+in_ok-link-in-Skewed}

-- what follows twice from a promise follows where the promise does
both_follow : {N P Q R : Type 0} → (P → Q) → (P → R) → (N → P) → (N → Q) × (N → R)
both_follow one other promise = (λ n. one (promise n), λ n. other (promise n))

pub returns-clause-played : goal.returns-clause-played
returns-clause-played g c =
    let fresh : c.match-name.link.kept.talk.items ≡ [] = elim c.match-name.branch [
      | in-Honest+in_ok-honest-in-Honest+in_ok-link-in-Honest w ↦
          rw w.link-is w.in_ok-link-in-Honest.ensures.talk
      | in-Skewed+in_ok-skewed-in-Skewed+in_ok-link-in-Skewed w ↦
          rw w.link-is w.in_ok-link-in-Skewed.ensures.talk
    ] in
    let both = both_follow c.play.ensures.honest c.play.ensures.accepts
    (λ (is : c.args.name ≡ Honest). elim c.match-name.branch [
      | in-Honest+in_ok-honest-in-Honest+in_ok-link-in-Honest w ↦
          rw w.link-is (w.in_ok-link-in-Honest.ensures.promise is)
      | in-Skewed+in_ok-skewed-in-Skewed+in_ok-link-in-Skewed w ↦
          let h = sym w.in-Skewed.is ∙ is in cc
    ]) in
    let other : c.args.name ≡ Mute → ⊥ = λ is. elim c.match-name.branch [
      | in-Honest+in_ok-honest-in-Honest+in_ok-link-in-Honest w ↦
          let h = sym w.in-Honest.is ∙ is in cc
      | in-Skewed+in_ok-skewed-in-Skewed+in_ok-link-in-Skewed w ↦
          let h = sym w.in-Skewed.is ∙ is in cc
    ] in
    record {
      talk = c.play.new.link.kept.talk.items;
      keeps = rw fresh at c.play.ensures.keeps;
      peer = c.play.ensures.peer;
      honest = both.0;
      accepts = λ is x tells. both.1 is fresh x (tells_on fresh tells);
      mute = λ is. absurd (other is);
      closes = λ is. absurd (other is);
    }

pub returns-clause-negatives : goal.returns-clause-negatives
returns-clause-negatives g c = c.play.ensures.negatives

pub returns-in-Mute-clause-played : goal.returns-in-Mute-clause-played
returns-in-Mute-clause-played g c =
    let fresh = c.in_ok-link-in-Mute.ensures.talk in
    let silent = c.in_ok-link-in-Mute.ensures.silent in
    record {
      talk = c.play_mute-status.new.link.link.kept.talk.items;
      keeps = rw fresh at c.play_mute-status.ensures.keeps;
      peer = c.play_mute-status.ensures.peer;
      honest = λ is. absurd (let h = sym c.in-Mute.is ∙ is in cc);
      accepts = λ is. absurd (let h = sym c.in-Mute.is ∙ is in cc);
      mute = λ is. c.play_mute-status.ensures.silent silent;
      closes = λ is x tells. c.play_mute-status.ensures.closes silent x (tells_on fresh tells);
    }

pub returns-in-Mute-clause-negatives : goal.returns-in-Mute-clause-negatives
returns-in-Mute-clause-negatives g c = c.play_mute-status.ensures.negatives
