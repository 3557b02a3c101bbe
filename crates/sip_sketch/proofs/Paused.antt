-- Records that are read by the block, until reading pauses.
use Rattle.std.proofs.Common.{◌≡◌, ℕ, List, [], ◌∷◌, ◌++◌, length, refl, sym, ap, subst, ◌∙◌, append_assoc, append-nil, None, Some}
use Rattle.std.specs.Prelude.{Ok, Err}
use Rattle.std.specs.Io.KnownBytes.{Consumes}
use Rattle.std.specs.declared.option.Option.{Option}
use Rattle.sip_stream.specs.Reading.{Reading, HasRead, IsAfter, Reads}
use Rattle.sip_stream.specs.Records.{Records, records_from}
use Rattle.sip_stream.specs.declared.fault.StreamFault.{StreamFault}
use Rattle.sip_stream.specs.declared.fault.StreamFault.TheVariants as faults
use Rattle.sip_stream.specs.declared.form.Form.{Form}
use Rattle.sip_stream.specs.declared.why.Why.{Why}
use Rattle.sip_stream.proofs.RecordsRead.{came_front, records_end}
use Rattle.sip_vector.specs.declared.update.Update.{Update}
use Rattle.sip_vector.specs.Streams.{IsLegal}
use Rattle.sip_sketch.specs.Watching.{GoesOnAfter, LieInFront, ReadsTo}
use Rattle.sip_sketch.specs.declared.filling.Pause.{Pause}
use Rattle.sip_sketch.specs.declared.filling.Pause.TheVariants.{Full, Ended, Stopped}

module _ (depth : ℕ) (form : Form) where
  lie_none : (before : List Update) (bytes : List ℕ) → LieInFront depth form before bytes [] bytes
  lie_none before bytes = record {
    front = [];
    order = refl;
    same = ap (λ (l : List Update). records_from depth form l bytes) (sym (append-nil before));
  }

  lie_more : (before : List Update) (bytes : List ℕ) (us : List Update) (mid : List ℕ) (more : List Update) (rest : List ℕ)
      → LieInFront depth form before bytes us mid → LieInFront depth form (before ++ us) mid more rest → LieInFront depth form before bytes (us ++ more) rest
  lie_more before bytes us mid more rest one other = record {
    front = one.front ++ other.front;
    order = one.order ∙ ap (λ l. one.front ++ l) other.order ∙ sym (append_assoc one.front other.front rest);
    same = one.same ∙ other.same ∙ ap (λ (l : List Update). records_from depth form l rest) (append_assoc before us more);
  }

  -- where these end
  abbrev ends_with : List Update → Option Why → Records
  ends_with us fault = record { legal = us; fault = fault }

  -- nothing was read yet
  pub reads_none : (before : List Update) (bytes : List ℕ) (left : Option (List ℕ)) → left ≡ Some bytes → ReadsTo depth form before bytes left [] Full
  reads_none before bytes left is = (bytes, lie_none before bytes, is)

  -- some records, and then others
  pub reads_more : (before : List Update) (bytes : List ℕ) (mid left : Option (List ℕ)) (us more : List Update) (pause : Pause)
      → ReadsTo depth form before bytes mid us Full → ((rest : List ℕ) → mid ≡ Some rest → ReadsTo depth form (before ++ us) rest left more pause)
      → ReadsTo depth form before bytes left (us ++ more) pause
  reads_more before bytes mid left us more Full (rest, lie, is) then =
      let (last, other, end) = then rest is in
      (last, lie_more before bytes us rest more last lie other, end)
  reads_more before bytes mid left us more Ended (rest, lie, is) then =
      let (end, all) = then rest is in
      (end, lie.same ∙ all ∙ ap (λ (l : List Update). ends_with l None) (append_assoc before us more))
  reads_more before bytes mid left us more (Stopped (faults.Bad at why)) (rest, lie, is) then =
      let (front, number, all) = then rest is in (
        (lie.front ++ front.0, front.1, front.2, lie.order ∙ ap (λ l. lie.front ++ l) front.3 ∙ sym (append_assoc lie.front front.0 front.1)),
        number ∙ ap length (append_assoc before us more),
        lie.same ∙ all ∙ ap (λ (l : List Update). ends_with l (Some why)) (append_assoc before us more),
      )
  reads_more before bytes mid left us more (Stopped faults.ReadFault) (rest, lie, is) then =
      let (last, other, front) = then rest is in
      (last, lie_more before bytes us rest more last lie other, front)
  reads_more before bytes mid left us more (Stopped faults.OutOfMemory) (rest, lie, is) then =
      let (last, other, front) = then rest is in
      (last, lie_more before bytes us rest more last lie other, front)

  -- one record
  pub reads_one : (before : List Update) (bytes : List ℕ) (left : Option (List ℕ)) (u : Update) → Reads depth form before bytes left (Ok (Some u)) → ReadsTo depth form before bytes left (u ∷ []) Full
  reads_one before bytes left u (piece, rest, told, split, same) = (rest, record { front = piece; order = split; same = same }, told)

  -- the end
  pub reads_end : (before : List Update) (bytes : List ℕ) (left : Option (List ℕ)) → Reads depth form before bytes left (Ok None) → ReadsTo depth form before bytes left [] Ended
  reads_end before bytes left (told, none) =
      (told, ap (records_from depth form before) none ∙ records_end depth form before ∙ ap (λ (l : List Update). ends_with l None) (sym (append-nil before)))

  -- why there are no more
  pub reads_stop : (before : List Update) (bytes : List ℕ) (left : Option (List ℕ)) (fault : StreamFault) → Reads depth form before bytes left (Err fault) → ReadsTo depth form before bytes left [] (Stopped fault)
  reads_stop before bytes left (faults.Bad at why) (front, number, is) =
      let none : before ≡ before ++ [] = sym (append-nil before) in
      (front, number ∙ ap length none, is ∙ ap (λ (l : List Update). ends_with l (Some why)) none)
  reads_stop before bytes left faults.ReadFault front = (bytes, lie_none before bytes, front)
  reads_stop before bytes left faults.OutOfMemory front = (bytes, lie_none before bytes, front)

  -- records that the source held
  pub reads_held : (before : List Update) (bytes : List ℕ) (old new : Option (List ℕ)) (reader reader' : Reading) (taken : List ℕ) (us : List Update)
      → old ≡ Some bytes → reader.depth ≡ depth → reader.form ≡ form → IsAfter reader before → HasRead reader reader' taken us → Consumes old new taken
      → ReadsTo depth form before bytes new us Full
  reads_held before bytes old new reader reader' taken us told same_depth same_form after had took =
      let (rest, left, split) = came_front old new bytes taken told took in
      let same = rw (same_depth, same_form) at (had.same before rest after) in
      (rest, record { front = taken; order = split; same = ap (records_from depth form before) split ∙ same }, left)

  -- where no record more came
  pub reads_last : (before : List Update) (bytes : List ℕ) (mid left : Option (List ℕ)) (us : List Update) (pause : Pause)
      → ReadsTo depth form before bytes mid us Full → ((rest : List ℕ) → mid ≡ Some rest → ReadsTo depth form (before ++ us) rest left [] pause)
      → ReadsTo depth form before bytes left us pause
  reads_last before bytes mid left us pause had then =
      subst (λ (l : List Update). ReadsTo depth form before bytes left l pause) (append-nil us) (reads_more before bytes mid left us [] pause had then)

  -- one more record, and those that the source held behind it
  pub reads_block : (before : List Update) (bytes : List ℕ) (old mid new : Option (List ℕ)) (next last : Reading) (came : List Update) (u : Update) (taken : List ℕ) (held : List Update)
      → ReadsTo depth form before bytes old came Full → ((rest : List ℕ) → old ≡ Some rest → Reads depth form (before ++ came) rest mid (Ok (Some u)))
      → IsAfter next ((before ++ came) ++ u ∷ []) → next.depth ≡ depth → next.form ≡ form → HasRead next last taken held → Consumes mid new taken
      → ReadsTo depth form before bytes new ((came ++ u ∷ []) ++ held) Full
  reads_block before bytes old mid new next last came u taken held had then after same_depth same_form many took =
      let one = reads_more before bytes old mid came (u ∷ []) Full had (λ rest is. reads_one (before ++ came) rest mid u (then rest is)) in
      let here : IsAfter next (before ++ (came ++ u ∷ [])) = subst (IsAfter next) (append_assoc before came (u ∷ [])) after in
      reads_more before bytes mid new (came ++ u ∷ []) held Full one
      (λ rest is. reads_held (before ++ (came ++ u ∷ [])) rest mid new next last taken held is same_depth same_form here many took)

-- the reader behind them
pub after_block : (before : List Update) (next last : Reading) (came : List Update) (u : Update) (taken : List ℕ) (held : List Update)
    → IsAfter next ((before ++ came) ++ u ∷ []) → HasRead next last taken held → IsAfter last (before ++ ((came ++ u ∷ []) ++ held))
after_block before next last came u taken held after many =
    let regrouped : ((before ++ came) ++ u ∷ []) ++ held ≡ before ++ ((came ++ u ∷ []) ++ held) = simp append_assoc in
    subst (IsAfter last) regrouped (many.after ((before ++ came) ++ u ∷ []) after)

-- the records are legal, however reading paused
pub legal_after : (new : Reading) (stream : List Update) (pause : Pause) → GoesOnAfter new stream pause → IsLegal new.depth stream
legal_after new stream Full after = after.legal
legal_after new stream Ended legal = legal
legal_after new stream (Stopped fault) legal = legal
