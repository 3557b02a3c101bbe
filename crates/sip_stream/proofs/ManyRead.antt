-- Records that are read one after the other, of bytes that lie together.
use Rattle.std.proofs.Common.{◌≡◌, ℕ, ◌+◌, ◌<◌, List, [], ◌∷◌, ◌++◌, length, Option, None, Some, Ok, false, refl, sym, ap, ◌∙◌, subst, arith, append_assoc, append-nil}
use Rattle.std.specs.Option.{is_some}
use Rattle.std.proofs.lemmas.List.Elements.{All-append, All-cons, All-nil}
use Rattle.sip_vector.specs.declared.update.Update.{Update}
use Rattle.sip_stream.specs.declared.form.Form.{Form}
use Rattle.sip_stream.specs.Layouts.{Layout, of_bytes, of_line, layout_of, record_size}
use Rattle.sip_stream.specs.Lines.{parts_at}
use Rattle.sip_stream.specs.Pieces.{IsFirst, Says, line_said, record_said}
use Rattle.sip_stream.specs.Reading.{Reading, IsAfter, IsFair, HasRead, HasRoom}
use Rattle.sip_stream.specs.Records.{fault_at, pieces_of, records_after, records_from, update_at, update_fault}
use Rattle.sip_stream.proofs.Copies.{after_piece}
use Rattle.sip_stream.proofs.LinesRead.{first_line}
use Rattle.sip_stream.proofs.RecordsRead.{first_said}

-- a legal record in front
one_more : (depth : ℕ) (form : Form) (layout : Layout) (before : List Update) (piece more : List ℕ) (u : Update) → layout_of form ≡ layout → IsFirst layout (piece ++ more) piece more → Says layout piece (Ok u) → update_fault depth before u ≡ None
    → records_from depth form before (piece ++ more) ≡ records_from depth form (before ++ u ∷ []) more
one_more depth form layout before piece more u is first says none =
    let rest = pieces_of layout more in
    let cut : pieces_of (layout_of form) (piece ++ more) ≡ piece ∷ rest = ap (λ l. pieces_of l (piece ++ more)) is ∙ first.cut in
    let legal : fault_at (layout_of form) depth before piece ≡ None = ap (λ l. fault_at l depth before piece) is ∙ says.1 depth before ∙ none in
    let said : update_at (layout_of form) piece ≡ u = ap (λ l. update_at l piece) is ∙ says.0 in
    ap (records_after depth form before) cut ∙ ap (after_piece depth form before piece rest) legal
    ∙ ap (λ v. records_after depth form (before ++ v ∷ []) rest) said ∙ ap (λ l. records_after depth form (before ++ u ∷ []) (pieces_of l more)) (sym is)

-- what is not some is none
pub none_of : {X : Type 0} (x : Option X) → is_some x ≡ false → x ≡ None
none_of None is = refl
none_of (Some x) is = absurd (cc)

-- nothing was read yet
pub HasRead-none : (r : Reading) → HasRead r r [] []
HasRead-none r = record {
  depth = refl;
  form = refl;
  spent = refl;
  nearer = omega arith;
  fair = All-nil (IsFair r.depth);
  after = λ before is. subst (IsAfter r) (sym (append-nil before)) is;
  same = λ before more is. ap (λ l. records_from r.depth r.form l more) (sym (append-nil before));
}

-- an update that a reader has room for
fair_of : (old mid : Reading) (u : Update) → mid.depth ≡ old.depth → HasRoom mid u → IsFair old.depth u
fair_of old mid u same has = subst (λ d. IsFair d u) same (record { item = has.item; delta = has.delta; size = omega (arith, has.weight) })

-- one more record was read
HasRead-more : (layout : Layout) (old mid new : Reading) (taken piece : List ℕ) (us : List Update) (u : Update) → layout_of old.form ≡ layout → HasRead old mid taken us
    → ((more : List ℕ) → IsFirst layout (piece ++ more) piece more × Says layout piece (Ok u)) → ((before : List Update) → IsAfter mid before → update_fault mid.depth before u ≡ None) → HasRoom mid u
    → ((before : List Update) → IsAfter mid before → IsAfter new (before ++ u ∷ [])) → mid.first + mid.second < new.first + new.second → new.depth ≡ mid.depth → new.form ≡ mid.form → new.is_spent ≡ mid.is_spent
    → HasRead old new (taken ++ piece) (us ++ u ∷ [])
HasRead-more layout old mid new taken piece us u is had first legal has after heavier depth form spent = record {
  depth = depth ∙ had.depth;
  form = form ∙ had.form;
  spent = spent ∙ had.spent;
  nearer = omega (arith, had.nearer, heavier);
  fair = All-append (IsFair old.depth) us (u ∷ []) had.fair (All-cons (IsFair old.depth) u [] (fair_of old mid u had.depth has) (All-nil (IsFair old.depth)));
  after = λ before is. subst (IsAfter new) (append_assoc before us (u ∷ [])) (after (before ++ us) (had.after before is));
  same = λ before more so.
      let none = subst (λ d. update_fault d (before ++ us) u ≡ None) had.depth (legal (before ++ us) (had.after before so)) in
      ap (records_from old.depth old.form before) (append_assoc taken piece more) ∙ had.same before (piece ++ more) so
      ∙ one_more old.depth old.form layout (before ++ us) piece more u is (first more).0 (first more).1 none
      ∙ ap (λ l. records_from old.depth old.form l more) (append_assoc before us (u ∷ []));
}

-- one more record of bytes
pub HasRead-one : (width : ℕ) (old mid new : Reading) (taken piece : List ℕ) (us : List Update) (u : Update) → layout_of old.form ≡ of_bytes width → HasRead old mid taken us
    → length piece ≡ record_size width → Ok u ≡ record_said width piece → ((before : List Update) → IsAfter mid before → update_fault mid.depth before u ≡ None) → HasRoom mid u
    → ((before : List Update) → IsAfter mid before → IsAfter new (before ++ u ∷ [])) → mid.first + mid.second < new.first + new.second → new.depth ≡ mid.depth → new.form ≡ mid.form → new.is_spent ≡ mid.is_spent
    → HasRead old new (taken ++ piece) (us ++ u ∷ [])
HasRead-one width old mid new taken piece us u layout had len said = HasRead-more (of_bytes width) old mid new taken piece us u layout had (λ more. first_said width piece more u len said)

-- one more line
pub HasRead-line : (old mid new : Reading) (taken line : List ℕ) (us : List Update) (u : Update) → layout_of old.form ≡ of_line → HasRead old mid taken us
    → parts_at 10 line ≡ None → length line < 40 → Ok u ≡ line_said line → ((before : List Update) → IsAfter mid before → update_fault mid.depth before u ≡ None) → HasRoom mid u
    → ((before : List Update) → IsAfter mid before → IsAfter new (before ++ u ∷ [])) → mid.first + mid.second < new.first + new.second → new.depth ≡ mid.depth → new.form ≡ mid.form → new.is_spent ≡ mid.is_spent
    → HasRead old new (taken ++ (line ++ 10 ∷ [])) (us ++ u ∷ [])
HasRead-line old mid new taken line us u layout had clean short said = HasRead-more of_line old mid new taken (line ++ 10 ∷ []) us u layout had (λ more. first_line line more (Ok u) clean short said)
