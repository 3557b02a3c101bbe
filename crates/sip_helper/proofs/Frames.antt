-- Rows stand in frames one after another, and how far they were sent.
use Rattle.std.proofs.Common.{◌≡◌, ◌⊎◌, ℕ, suc, ◌+◌, ◌-◌, ◌*◌, ◌/◌, ◌<◌, ◌≤◌, List, [], ◌∷◌, ◌++◌, length, drop, map, All, Ok, Err, sym, ap, subst, ◌∙◌, inl, inr, arith, append-nil, append_assoc, length-append}
use Rattle.std.specs.Prelude.{IsTrue}
use Rattle.std.specs.List.{flat_map}
use Rattle.std.specs.declared.option.Option.{Option}
use Rattle.std.proofs.Math.Nat.{add-div_left}
use Rattle.std.proofs.lemmas.Nat.{div-mul-add}
use Rattle.std.proofs.lemmas.Bool.Decides.{eqb_tells}
use Rattle.std.proofs.lemmas.List.{take_at, drop_at, take_all}
use Rattle.std.proofs.lemmas.List.Elements.{All-head, All-tail}
use Rattle.sip_ports.specs.declared.port.TalkEvent.{TalkEvent}
use Rattle.sip_ports.specs.Ports.{GoesOn, SendsWhole, outs}
use Rattle.sip_ports.proofs.TalkLemmas.{GoesOn-refl, GoesOn-trans, outs-append}
use Rattle.sip_vector.specs.Pieces.{cut, pieces}
use Rattle.sip_wire.specs.declared.message.Message.{Message}
use Rattle.sip_wire.specs.declared.version.Version.{Version}
use Rattle.sip_wire.specs.Spelling.{fits, spelling}
use Rattle.sip_helper.proofs.Sending.{sends_after, stopped_in}

-- rows in frames of k, the last one the rest, and the bytes of these frames
abbrev pub frames : {X : Type 0} → (List X → Message) → ℕ → List X → List Message
frames make k xs = map make (cut k xs)

abbrev pub framed : {X : Type 0} → (List X → Message) → ℕ → Version → List X → List ℕ
framed make k version xs = flat_map (spelling version) (frames make k xs)

-- a piece that is full or the last one is cut off in front
cut-step : {X : Type 0} (k : ℕ) (xs ys : List X) → 0 < length xs → length xs ≤ k → (length xs < k → ys ≡ []) → cut k (xs ++ ys) ≡ xs ∷ cut k ys
cut-step {X = X} k xs ys some most last = elim (full_or_last xs ys most last) [
  | inl full ↦
      let total = length-append xs ys in
      let m = length ys + (k - 1) in
      let sum : length (xs ++ ys) + (k - 1) ≡ k + m = omega (arith, total, full) in
      let one = add-div_left m {k = k} (omega (arith, some, most)) in
      let count : (length (xs ++ ys) + (k - 1)) / k ≡ suc (m / k) = omega (arith, ap (λ n. n / k) sum, one) in
      ap (λ n. pieces k n (xs ++ ys)) count
      ∙ ap (λ l. l ∷ pieces k (m / k) (drop k (xs ++ ys))) (take_at xs ys k full)
      ∙ ap (λ l. xs ∷ pieces k (m / k) l) (drop_at xs ys k full)
  | inr none ↦
      let n = length xs - 1 in
      let sum : length xs + (k - 1) ≡ 1 * k + n = omega (arith, some, most) in
      let count : (length xs + (k - 1)) / k ≡ suc 0 = ap (λ l. l / k) sum ∙ div-mul-add 1 k n (omega (arith, some, most)) in
      let nothing : (0 + (k - 1)) / k ≡ 0 = ap (λ l. l / k) (let zero : 0 + (k - 1) ≡ 0 * k + (k - 1) = omega arith in zero) ∙ div-mul-add 0 k (k - 1) (omega (arith, some, most)) in
      ap (λ l. cut k (xs ++ l)) none
      ∙ ap (cut k) (append-nil xs)
      ∙ ap (λ c. pieces k c xs) count
      ∙ ap (λ l. l ∷ []) (take_all k xs most)
      ∙ ap (λ l. xs ∷ l) (sym (ap (cut k) none ∙ ap (λ c. pieces k c []) nothing))
]
  where
    full_or_last : (front rest : List X) → length front ≤ k → (length front < k → rest ≡ []) → (length front ≡ k) ⊎ (rest ≡ [])
    full_or_last front rest le none = elim (eqb_tells (length front) k) [ inl t ↦ inl t.1 | inr t ↦ inr (none (omega (arith, t.1))) ]

-- the bytes in front of those of the rest were sent, and the frames of the rest have spellings
pub record Partly {X : Type 0} (make : List X → Message) (k : ℕ) (version : Version) (start now : Option (List TalkEvent)) (all rest : List X) : Type 0 where
  pub sent : List ℕ
  pub talk : GoesOn start now (outs sent)
  pub order : framed make k version all ≡ sent ++ framed make k version rest
  pub fit : All (λ m. IsTrue (fits version m)) (frames make k rest)

module _ {X : Type 0} (make : List X → Message) (k : ℕ) (version : Version) where
  pub begins : (start : Option (List TalkEvent)) (all rest : List X) → rest ≡ all → All (λ m. IsTrue (fits version m)) (frames make k all) → Partly make k version start start all rest
  begins start all rest same fit = record {
    sent = [];
    talk = GoesOn-refl start;
    order = ap (framed make k version) (sym same);
    fit = subst (λ xs. All (λ m. IsTrue (fits version m)) (frames make k xs)) (sym same) fit;
  }

  module _ (start now : Option (List TalkEvent)) (all rest rows more : List X) (so : Partly make k version start now all rest) (split : rest ≡ rows ++ more) (last : length rows < k → more ≡ []) where
    -- no row is left
    pub ends : (E : Type 0) → 0 < k → rows ≡ [] → SendsWhole {T = Unit {0}} {E = E} start now (Ok tt) (framed make k version all)
    ends E positive none =
        let nothing : rest ≡ [] = split ∙ ap (λ (l : List X). l ++ more) none ∙ last (omega (arith, positive, ap length none)) in
        let zero : (0 + (k - 1)) / k ≡ 0 = ap (λ l. l / k) (let same : 0 + (k - 1) ≡ 0 * k + (k - 1) = omega arith in same) ∙ div-mul-add 0 k (k - 1) (omega (arith, positive)) in
        let empty : framed make k version rest ≡ [] = ap (framed make k version) nothing ∙ ap (λ c. flat_map (spelling version) (map make (pieces k c []))) zero in
        subst (λ l. GoesOn start now (outs l)) (sym (so.order ∙ ap (λ (l : List ℕ). so.sent ++ l) empty ∙ append-nil so.sent)) so.talk

    module _ (some : 0 < length rows) (most : length rows ≤ k) where
      step : frames make k rest ≡ make rows ∷ frames make k more
      step = ap (frames make k) split ∙ ap (map make) (cut-step k rows more some most last)

      -- its frame has a spelling
      pub frame_fits : IsTrue (fits version (make rows))
      frame_fits = All-head (λ m. IsTrue (fits version m)) (make rows) (frames make k more) (subst (All (λ m. IsTrue (fits version m))) step so.fit)

      -- one more frame was sent
      pub goes_on : (new : Option (List TalkEvent)) → GoesOn now new (outs (spelling version (make rows))) → Partly make k version start new all more
      goes_on new went =
          let frame = spelling version (make rows) in
          record {
            sent = so.sent ++ frame;
            talk = subst (GoesOn start new) (sym (outs-append so.sent frame)) (GoesOn-trans start now new (outs so.sent) (outs frame) so.talk went);
            order = so.order ∙ ap (λ l. so.sent ++ flat_map (spelling version) l) step ∙ sym (append_assoc so.sent frame (framed make k version more));
            fit = All-tail (λ m. IsTrue (fits version m)) (make rows) (frames make k more) (subst (All (λ m. IsTrue (fits version m))) step so.fit);
          }

      -- a frame was cut short
      pub stops : {E E' : Type 0} (new : Option (List TalkEvent)) (e : E) (e' : E') → SendsWhole {T = Unit {0}} now new (Err e) (spelling version (make rows)) → SendsWhole {T = Unit {0}} start new (Err e') (framed make k version all)
      stops {E' = E'} new e e' went =
          let frame = spelling version (make rows) in
          subst (SendsWhole {T = Unit {0}} start new (Err e')) (sym (so.order ∙ ap (λ l. so.sent ++ flat_map (spelling version) l) step))
          (sends_after start now {T = Unit {0}} {E = E'} new (Err e') so.sent _ so.talk (stopped_in now new e e' frame (framed make k version more) went))

-- fewer are left behind a frame
pub fewer : {X : Type 0} (rest rows more : List X) → rest ≡ rows ++ more → 0 < length rows → length more < length rest
fewer rest rows more split some = omega (arith, ap length split, length-append rows more)
