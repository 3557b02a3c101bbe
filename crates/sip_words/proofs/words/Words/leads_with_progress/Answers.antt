use Rattle.std.proofs.Common.{◌≡◌, true, false}
use Rattle.sip_words.specs.Behind.{progress_word}
use Rattle.sip_words.proofs.Behind.{leads, leads_none}
use Rattle.sip_words.proofs.words.Words.leads_with_progress.Goals as goal

pub returns-in-Some : goal.returns-in-Some
returns-in-Some c =
    let both = leads c.args.self.now c.in-Some.word.now progress_word c.in-Some.ensures in
    (λ holds. both.0 (c.is_progress.ensures.0 holds), λ led. c.is_progress.ensures.1 (both.1 led))

pub returns-in-None : goal.returns-in-None
returns-in-None c = (λ no. absurd (let h : false ≡ true = no in cc), λ led. absurd (leads_none c.args.self.now progress_word c.in-None.ensures led))
