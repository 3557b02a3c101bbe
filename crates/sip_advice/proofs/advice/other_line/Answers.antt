use Rattle.sip_advice.proofs.advice.other_line.Goals as goal

pub returns-in-Some : goal.returns-in-Some
returns-in-Some c = rw c.in-Some.is (
  c.place_of.result,
  c.place_of.ensures,
  let made = c.file_line.ensures in
      let same = c.get.ensures in cc,
)
