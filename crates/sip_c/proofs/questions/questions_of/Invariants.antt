use Rattle.std.proofs.Common.{◌≡◌, take}
use Rattle.arrayvec.specs.ArrayVec.{array_vec_len}
use Rattle.sip_c.specs.Questions.{AreQuestions}
use Rattle.sip_c.proofs.questions.questions_of.Given as goal

-- those so far have these questions
abbrev pub invariant-loop-code : goal.invariant-loop-code
invariant-loop-code l = record {
  many : array_vec_len l.questions ≡ l.code-index;
  are : AreQuestions (take l.code-index l.fn.codes) l.questions.items;
}
