use Rattle.std.proofs.Common.{◌≡◌, true, false, subst}
use Rattle.sip_words.specs.declared.stream.Stream.{Stream}
use Rattle.sip_words.specs.declared.stream.Stream.TheVariants.{File}
use Rattle.sip_words.specs.Shapes.{IsStreamWord}
use Rattle.sip_words.specs.Words.{word}
use Rattle.sip_words.proofs.StreamWords.{stream_once}
use Rattle.sip_advice.proofs.advice.is_plain.Goals as goal

pub returns-in-Some : goal.returns-in-Some
returns-in-Some c =
    let named = c.in-Some.ensures in
    let words = c.args.words.now in (
      λ holds. (named.0, subst (λ (s : Stream). IsStreamWord s (word words 1)) (c.is_file.ensures.0 holds) named.1),
      λ plain. c.is_file.ensures.1 (stream_once c.in-Some.stream File (word words 1) named.1 plain.1),
    )

pub returns-in-None : goal.returns-in-None
returns-in-None c = (λ no. absurd (let h : false ≡ true = no in cc), λ plain. absurd (c.in-None.ensures plain.0 File plain.1))
