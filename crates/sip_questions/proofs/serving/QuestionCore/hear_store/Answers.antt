-- The records of a store are heard where the opening was.
use Rattle.std.proofs.Common.{◌∙◌, ap}
use Rattle.sip_questions.specs.Serving.{QuestionHelper}
use Rattle.sip_questions.proofs.serving.QuestionCore.hear_store.Goals as goal

pub hear_records-requires : goal.hear_records-requires
hear_records-requires g c =
    let (r, refused, is, count) = c.requires.opened in
    record { opened = (r, refused, ap (λ (s : QuestionHelper). s.helper) (c.self.view_is ∙ is), count) }
