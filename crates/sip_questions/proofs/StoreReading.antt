-- What a reader has taken off a store.
use Rattle.std.proofs.Common.{◌≡◌, ℕ, ◌+◌, ◌<◌, ◌≤◌, false, Result, nat_lt, List, [], ◌∷◌, ◌++◌, length, take, Option, Some, None, Ok, Err, refl, sym, ap, subst, ◌∙◌, append_assoc, append-nil, length-append, arith, inl, inr}
use Rattle.std.specs.Prelude.{IfSome, is_err, slice_set}
use Rattle.std.specs.Io.KnownBytes.{Consumes}
use Rattle.std.proofs.Math.Seq.{take-append_seam}
use Rattle.std.proofs.lemmas.Bool.{cases_Bool, ltb-true, ltb-false}
use Rattle.std.proofs.lemmas.List.{take_all}
use Rattle.sip_vector.specs.declared.update.Update.{Update}
use Rattle.sip_vector.specs.Streams.{IsLegal}
use Rattle.sip_stream.specs.declared.fault.StreamFault.{StreamFault}
use Rattle.sip_stream.specs.declared.fault.StreamFault.TheVariants as faults
use Rattle.sip_stream.specs.declared.form.Form.{Form}
use Rattle.sip_stream.specs.declared.why.Why.{Why}
use Rattle.sip_stream.specs.Layouts.{layout_of}
use Rattle.sip_stream.specs.Reading.{HasRead, IsAfter, Reading, Reads, Tells}
use Rattle.sip_stream.specs.Records.{Records, pieces_of, records, records_from}
use Rattle.sip_stream.proofs.Copies.{read_front}
use Rattle.sip_stream.proofs.RecordsRead.{came_front, records_end}
use Rattle.sip_questions.specs.declared.store_status.StoreStatus.TheVariants as statuses
use Rattle.sip_questions.specs.StoreFronts.{Hears, IsFront, IsUnheard, Recalls, status_of_fault}
use Rattle.sip_questions.specs.inside.StoreHearing.{IsReadOut, ReadsFront, StopsWithin, Takes}

-- ---- records are taken

-- nothing was taken yet
pub takes_none : (r : Reading) (had : Option (List ℕ)) → r.is_spent ≡ false → Takes r r had had []
takes_none r had ready = record {
  depth = refl;
  form = refl;
  ready = ready;
  after = λ before so. subst (IsAfter r) (sym (append-nil before)) so;
  tells = λ before so told. subst (Tells r) (sym (append-nil before)) told;
  same = λ before bytes so all. (bytes, all, ap (λ (l : List Update). records_from r.depth r.form l bytes) (sym (append-nil before)));
}

-- those that the source held
pub takes_held : (old new : Reading) (had left : Option (List ℕ)) (taken : List ℕ) (us : List Update) → old.is_spent ≡ false → HasRead old new taken us → Consumes had left taken
    → ((before : List Update) → IsAfter old before → Tells old before → Tells new (before ++ us)) → Takes old new had left us
takes_held old new had left taken us ready read took tells = record {
  depth = read.depth;
  form = read.form;
  ready = read.spent ∙ ready;
  after = read.after;
  tells = tells;
  same = λ before bytes so all.
      let came = came_front had left bytes taken all took in
      (came.0, came.1, ap (records_from old.depth old.form before) came.2 ∙ read.same before came.0 so);
}

-- the next one
pub takes_next : (old new : Reading) (had left : Option (List ℕ)) (u : Update) → new.depth ≡ old.depth → new.form ≡ old.form → new.is_spent ≡ false
    → ((before : List Update) → IsAfter old before → IsAfter new (before ++ u ∷ []))
    → ((before : List Update) → IsAfter old before → Tells old before → Tells new (before ++ u ∷ []))
    → ((before : List Update) (bytes : List ℕ) → IsAfter old before → had ≡ Some bytes → Reads old.depth old.form before bytes left (Ok (Some u)))
    → Takes old new had left (u ∷ [])
takes_next old new had left u depth form ready after tells reads = record {
  depth = depth;
  form = form;
  ready = ready;
  after = after;
  tells = tells;
  same = λ before bytes so all. let (piece, rest, told, split, same) = reads before bytes so all in (rest, told, same);
}

-- more behind them
pub takes_more : (a b c : Reading) (had mid left : Option (List ℕ)) (us vs : List Update) → Takes a b had mid us → Takes b c mid left vs → Takes a c had left (us ++ vs)
takes_more a b c had mid left us vs one two = record {
  depth = two.depth ∙ one.depth;
  form = two.form ∙ one.form;
  ready = two.ready;
  after = λ before so. subst (IsAfter c) (append_assoc before us vs) (two.after (before ++ us) (one.after before so));
  tells = λ before so told. subst (Tells c) (append_assoc before us vs) (two.tells (before ++ us) (one.after before so) (one.tells before so told));
  same = λ before bytes so all.
      let first = one.same before bytes so all in
      let then = two.same (before ++ us) first.0 (one.after before so) first.1 in
      let next = rw (one.depth, one.form) at then.2 in
      (then.0, then.1, first.2 ∙ next ∙ ap (λ (l : List Update). records_from a.depth a.form l then.0) (append_assoc before us vs));
}

-- there is none
pub takes_end : (old new : Reading) (had left : Option (List ℕ)) → new.depth ≡ old.depth → new.form ≡ old.form → new.is_spent ≡ false
    → ((before : List Update) → IsAfter old before → IsAfter new before)
    → ((before : List Update) → IsAfter old before → Tells old before → Tells new (before ++ []))
    → ((before : List Update) (bytes : List ℕ) → IsAfter old before → had ≡ Some bytes → Reads old.depth old.form before bytes left (Ok None))
    → Takes old new had left [] × IsReadOut old had left
takes_end old new had left depth form ready after tells reads = (
  record {
    depth = depth;
    form = form;
    ready = ready;
    after = λ before so. subst (IsAfter new) (sym (append-nil before)) (after before so);
    tells = tells;
    same = λ before bytes so all.
        let ended = reads before bytes so all in
        ([], ended.0, ap (records_from old.depth old.form before) ended.1 ∙ ap (λ (l : List Update). records_from old.depth old.form l []) (sym (append-nil before)));
  },
  λ before bytes so all. (reads before bytes so all).0,
)

-- ---- in a block

-- the source held none
pub held_none : (old new : Reading) (had left : Option (List ℕ)) (held : ℕ) (block : List Update) → held ≤ 0 → Takes old new had left (take held block) → Takes old new had left []
held_none old new had left held block none takes =
    let zero : held ≡ 0 = omega (arith, none) in
    subst (λ n. Takes old new had left (take n block)) zero takes

-- one is written to the front
pub first_set : (block : List Update) (u : Update) → 0 < length block → take 1 (slice_set block 0 u) ≡ u ∷ []
first_set [] u some = absurd (omega (arith, some))
first_set (x ∷ xs) u some = refl

pub some_set : (block : List Update) (u : Update) → 0 < length block → 1 ≤ length (slice_set block 0 u)
some_set [] u some = absurd (omega (arith, some))
some_set (x ∷ xs) u some = omega arith

-- ---- where it ends or stops

pub out_more : (a b : Reading) (had mid left : Option (List ℕ)) (us : List Update) → Takes a b had mid us → IsReadOut b mid left → IsReadOut a had left
out_more a b had mid left us one out = λ before bytes so all.
    let first = one.same before bytes so all in
    out (before ++ us) first.0 (one.after before so) first.1

pub stops_next : (r : Reading) (had left : Option (List ℕ)) (fault : StreamFault)
    → ((before : List Update) (bytes : List ℕ) → IsAfter r before → had ≡ Some bytes → Reads r.depth r.form before bytes left (Err fault))
    → StopsWithin r had 1 fault
stops_next r had left (faults.Bad at why) reads = λ before bytes so all.
    let bad = reads before bytes so all in
    let none = sym (append-nil before) in
    ([], omega arith, bad.1 ∙ ap length none, bad.2 ∙ ap (λ (l : List Update). record { legal = l; fault = Some why }) none)
stops_next r had left faults.ReadFault reads = tt
stops_next r had left faults.OutOfMemory reads = tt

pub stops_more : (a b : Reading) (had mid : Option (List ℕ)) (us : List Update) (n most : ℕ) (fault : StreamFault) → Takes a b had mid us → length us + n ≤ most → StopsWithin b mid n fault → StopsWithin a had most fault
stops_more a b had mid us n most (faults.Bad at why) one room stops = λ before bytes so all.
    let first = one.same before bytes so all in
    let bad = stops (before ++ us) first.0 (one.after before so) first.1 in
    let is = rw (one.depth, one.form) at bad.3 in
    let joined = append_assoc before us bad.0 in (
      us ++ bad.0,
      omega (arith, room, bad.1, length-append us bad.0),
      bad.2 ∙ ap length joined,
      first.2 ∙ is ∙ ap (λ (l : List Update). record { legal = l; fault = Some why }) joined,
    )
stops_more a b had mid us n most faults.ReadFault one room stops = tt
stops_more a b had mid us n most faults.OutOfMemory one room stops = tt

-- ---- what the store has

module _ (depth : ℕ) (form : Form) (bytes : List ℕ) (left : Option (List ℕ)) (us : List Update) (rest : List ℕ) (count : ℕ) where
  -- these stand in front, and behind them so many bytes
  pub front_of : left ≡ Some rest → records depth form bytes ≡ records_from depth form us rest → length us ≤ count → (length us < count → rest ≡ []) → IsFront depth form bytes left count us
  front_of here ahead few out =
      let more = read_front depth form us (pieces_of (layout_of form) rest) in
      let legal : (records depth form bytes).legal ≡ us ++ more.0 = ap (λ (r : Records). r.legal) ahead ∙ more.1 in
      let done = λ (none : rest ≡ []). ahead ∙ ap (records_from depth form us) none ∙ records_end depth form us in
      record {
        front = elim (cases_Bool (nat_lt (length us) count)) [
          | inl less ↦ sym (ap (λ (r : Records). take count r.legal) (done (out (ltb-true (length us) count less))) ∙ take_all count us few)
          | inr not_less ↦
              let all = ltb-false (length us) count not_less in
              let same : count ≡ length us = omega (arith, few, all) in
              sym (ap (take count) legal ∙ ap (λ n. take n (us ++ more.0)) same ∙ take-append_seam us more.0)
        ];
        whole = λ less. ap (λ (r : Records). r.fault) (done (out less));
        rest = rest;
        unread = here;
        behind = ahead;
      }

-- what a reader took that had read nothing is the front of the store that was asked for
module _ (r : Recalls) (form : Form) (old new : Reading) (store left : Option (List ℕ)) (us : List Update) where
  module _ (depth : old.depth ≡ r.depth) (same_form : old.form ≡ form) (unread : IsAfter old []) (takes : Takes old new store left us) (few : length us ≤ r.count) (out : length us < r.count → IsReadOut old store left) where
    front_told : (bytes : List ℕ) → store ≡ Some bytes → IsFront r.depth form bytes left r.count us
    front_told bytes told =
        let took = takes.same [] bytes unread told in
        let ahead = rw (depth, same_form) at took.2 in
        front_of r.depth form bytes left us took.0 r.count took.1 ahead few (λ less. some_same (sym took.1 ∙ out less [] bytes unread told))
      where
        some_same : {a b : List ℕ} → Some a ≡ Some b → a ≡ b
        some_same e = cc

    front_if : (had : Option (List ℕ)) → store ≡ had → IfSome had (λ bytes. IsFront r.depth form bytes left r.count us)
    front_if None told = tt
    front_if (Some bytes) told = front_told bytes told

    pub hears_front : Hears r form store left us
    hears_front = record {
      legal = subst (λ d. IsLegal d us) (takes.depth ∙ depth) (takes.after [] unread).legal;
      few = few;
      front = front_if store refl;
    }

-- so where nothing stopped it, and what it tells is told of these
pub hears_read : (r : Recalls) (form : Form) (old new : Reading) (store left : Option (List ℕ)) (most : ℕ) (result : Result Unit StreamFault) → old.depth ≡ r.depth → old.form ≡ form → IsAfter old [] → Tells old [] → r.count ≡ most
    → is_err result ≡ false → ReadsFront old new store left most result → (us : List Update) × Hears r form store left us × Tells new us
hears_read r form old new store left most (Ok x) depth same_form unread first count went reads =
    let (us, few, takes, out) = reads in
    (us, hears_front r form old new store left us depth same_form unread takes (omega (arith, few, count)) (λ less. out (omega (arith, less, count))), takes.tells [] unread first)
hears_read r form old new store left most (Err e) depth same_form unread first count went reads = absurd (let no = went in cc)

-- and where it stopped, the records were not heard
module _ (r : Recalls) (form : Form) (old : Reading) (depth : old.depth ≡ r.depth) (same_form : old.form ≡ form) (unread : IsAfter old []) where
  bad_if : (store had : Option (List ℕ)) (at : ℕ) (why : Why) → store ≡ had → StopsWithin old store r.count (faults.Bad at why)
      → IfSome had (λ bytes. ((records r.depth form bytes).fault ≡ Some why) × (at ≡ length (records r.depth form bytes).legal) × (at < r.count))
  bad_if store None at why told stops = tt
  bad_if store (Some bytes) at why told stops =
      let bad = stops [] bytes unread told in
      let is = rw (depth, same_form) at bad.3 in (
        ap (λ (x : Records). x.fault) is,
        bad.2 ∙ ap (λ (x : Records). length x.legal) (sym is),
        subst (λ n. n < r.count) (sym bad.2) bad.1,
      )

  pub unheard : (store : Option (List ℕ)) (fault : StreamFault) → StopsWithin old store r.count fault → IsUnheard r form store (status_of_fault fault)
  unheard store (faults.Bad at why) stops = bad_if store store at why refl stops
  unheard store faults.ReadFault stops = tt
  unheard store faults.OutOfMemory stops = tt

-- only a fault of the source is told as one
pub read_only : (fault : StreamFault) → status_of_fault fault ≡ statuses.ReadFault → fault ≡ faults.ReadFault
read_only (faults.Bad at why) is = absurd (let no = is in cc)
read_only faults.ReadFault is = refl
read_only faults.OutOfMemory is = absurd (let no = is in cc)
