use Rattle.sip_advice.proofs.advice.usage_line.Goals as goal

pub returns : goal.returns
returns c = λ noted. (
  c.place_of.result,
  c.place_of.ensures,
  let made = c.refused_line.ensures in
      let said = c.hint.ensures.hint in
      let same = c.get-word.ensures in cc,
)
