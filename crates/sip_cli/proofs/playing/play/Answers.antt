use Rattle.std.proofs.Common.{◌≡◌, [], false, true, refl, inl, inr, subst, rules}
use Rattle.sip_words.specs.Words.{Spells}
use Rattle.sip_cli.proofs.PlayLemmas.{nothing_is_honest, unbegun}
use Rattle.sip_cli.proofs.RunLemmas.{played_task}
use Rattle.sip_cli.proofs.playing.play.Goals as goal

pub play_named-requires : goal.play_named-requires
play_named-requires g c = played_task _ _ c.requires.1 _ _ c.in-Play.is

pub returns-in-Err-clause-played : goal.returns-in-Err-clause-played
returns-in-Err-clause-played g c =
    let is = c.in-Play.is in
    let can = played_task _ _ c.requires.1 _ _ is in
    let deep = (subst (Spells c.requires.0) is c.requires.1).1.depth in
    let same = c.in-Err.ensures.unbegun in (
      _,
      _,
      is,
      record {
        talk = [];
        keeps = rw (same.0, same.1, same.2, same.3) (unbegun _ can deep.0 deep.1 _);
        peer = λ e. cc;
        honest = λ is. nothing_is_honest;
        accepts = λ is x tells good none. inr (inl refl);
        mute = λ is. refl;
        closes = λ is x tells query round reason other. absurd cc;
      },
      λ bytes seed read drawn. record { judged = λ (judged : false ≡ true). absurd cc; other = inr (search rules) },
    )
