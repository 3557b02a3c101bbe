-- What holds at each place of some links, as one after another says the same.
use Rattle.std.proofs.Common.{All, ◌≡◌, ◌≢◌, ℕ, ◌+◌, ◌<◌, ◌≤◌, List, [], ◌++◌, length, map, set, get_or, take, inl, inr, refl, sym, ap, ◌∙◌, subst, arith, append-nil, get_or-set_same, get_or-set_other, length-set, take_all}
use Rattle.std.specs.Prelude.{Result, Ok, Err}
use Rattle.std.proofs.lemmas.List.{map-set, get_or-map, length-map, set-get_or, take_more_set}
use Rattle.std.proofs.lemmas.List.Elements.{All-push}
use Rattle.std.proofs.lemmas.Bool.{cases_eq, cases_lt}
use Rattle.sip_ports.specs.declared.port.PortStop.{PortStop}
use Rattle.sip_ports.specs.declared.port.TalkEvent.{TalkEvent}
use Rattle.sip_ports.specs.Ports.{outs}
use Rattle.sip_session.specs.inside.Hearing.{AllTalks, Each, Says, SaysAll, SaysBehind}

-- ---- one place

-- what stands there after it was written to
pub here : (talks : AllTalks) (i : ℕ) (t : List TalkEvent) → i < length talks → get_or (set talks i t) i [] ≡ t
here talks i t less = get_or-set_same talks i t [] less

-- what stands elsewhere
pub elsewhere : (talks : AllTalks) (i k : ℕ) (t : List TalkEvent) → k ≢ i → get_or (set talks i t) k [] ≡ get_or talks k []
elsewhere talks i k t other = get_or-set_other talks i k t [] other

-- what two calls did one after another
pub each_then : (P Q R : ℕ → List TalkEvent → List TalkEvent → Type 0) (old mid new : AllTalks) → length mid ≡ length old
    → ((k : ℕ) (o m n : List TalkEvent) → P k o m → Q k m n → R k o n) → Each P old mid → Each Q mid new → Each R old new
each_then P Q R old mid new count both p q = λ k less. both k (get_or old k []) (get_or mid k []) (get_or new k []) (p k less) (q k (omega (arith, count, less)))

-- ---- up to a place

-- Each link from the first of these places up to the second has this more than before, and the
-- others have nothing new.
pub record SaidUpTo (old now : AllTalks) (from upto : ℕ) (said : List TalkEvent) : Type 0 where
  pub count : length now ≡ length old
  pub done : (k : ℕ) → k < length old → from ≤ k → k < upto → get_or now k [] ≡ get_or old k [] ++ said
  pub before : (k : ℕ) → k < length old → k < from → get_or now k [] ≡ get_or old k []
  pub behind : (k : ℕ) → k < length old → upto ≤ k → get_or now k [] ≡ get_or old k []

pub none_said : (old : AllTalks) (from : ℕ) (said : List TalkEvent) → SaidUpTo old old from from said
none_said old from said = record {
  count = refl;
  done = λ k less least most. absurd (omega arith);
  before = λ k less first. refl;
  behind = λ k less last. refl;
}

module _ (old now : AllTalks) (from i : ℕ) (said : List TalkEvent) (so : SaidUpTo old now from i said) (least : from ≤ i) (less : i < length now)
    (t : List TalkEvent) where
  pub said_more : t ≡ get_or now i [] ++ said → SaidUpTo old (set now i t) from (i + 1) said
  said_more is = record {
    count = length-set now i t ∙ so.count;
    done = λ k below first last. elim (cases_eq k i) [
      | inl same ↦ subst (λ n. get_or (set now i t) n [] ≡ get_or old n [] ++ said) (sym same)
          (here now i t less ∙ is ∙ ap (λ l. l ++ said) (so.behind i (omega (arith, so.count)) (omega arith)))
      | inr other ↦ elsewhere now i k t other ∙ so.done k below first (omega (arith, other))
    ];
    before = λ k below first. elsewhere now i k t (λ e. absurd (omega (arith, e))) ∙ so.before k below first;
    behind = λ k below last. elsewhere now i k t (λ e. absurd (omega (arith, e))) ∙ so.behind k below (omega arith);
  }

-- all was said
pub all_said : (old now : AllTalks) (from upto : ℕ) (bytes : List ℕ) (x : Unit {0}) → SaidUpTo old now from upto (outs bytes) → length old ≤ upto
    → SaysBehind from old now bytes (Ok x)
all_said old now from upto bytes x so enough = λ k less. (λ first. so.before k less first, λ later. so.done k less later (omega arith))

-- a link stopped
pub cut_said : (old now : AllTalks) (from i : ℕ) (bytes : List ℕ) (e : PortStop) → SaidUpTo old now from i (outs bytes) → from ≤ i → i < length now
    → (t : List TalkEvent) → Says (get_or now i []) t bytes (Err e)
    → SaysBehind from old (set now i t) bytes (Err e)
cut_said old now from i bytes e so least inside t said = λ k less. (
  λ first. elsewhere now i k t (λ same. absurd (omega (arith, same))) ∙ so.before k less first,
  λ later. elim (cases_eq k i) [
    | inl same ↦
        let untouched : get_or now i [] ≡ get_or old i [] = so.behind i (omega (arith, so.count)) (omega arith) in
        let at_i : get_or (set now i t) i [] ≡ get_or old i [] ++ outs (take said.0 bytes) = here now i t inside ∙ said.1 ∙ ap (λ l. l ++ outs (take said.0 bytes)) untouched in
        (said.0, subst (λ n. get_or (set now i t) n [] ≡ get_or old n [] ++ outs (take said.0 bytes)) (sym same) at_i)
    | inr other ↦ elim (cases_lt k i) [
      | inl before ↦ (length bytes, elsewhere now i k t other ∙ so.done k less later before ∙ ap (λ l. get_or old k [] ++ outs l) (sym (take_all (length bytes) bytes (omega arith))))
      | inr behind ↦ (0, elsewhere now i k t other ∙ so.behind k less behind ∙ sym (append-nil (get_or old k [])))
    ]
  ],
)

-- ---- links

module _ {L : Type 0} (talk : L → List TalkEvent) where
  -- what one link tells
  pub told_at : (links : List L) (i : ℕ) (one : L) → i < length links → one ≡ get_or links i one → talk one ≡ get_or (map talk links) i []
  told_at links i one less is = ap talk is ∙ sym (get_or-map talk links i one [] less)

  -- all links after one was written to
  pub told_set : (links : List L) (i : ℕ) (one : L) → map talk (set links i one) ≡ set (map talk links) i (talk one)
  told_set links i one = map-set talk links i one

  -- a place of the one list is one of the other
  pub within : (links others : List L) (k : ℕ) → length others ≡ length links → k < length (map talk links) → k < length (map talk others)
  within links others k same less = omega (arith, length-map links talk, length-map others talk)

  pub told_length : (links others : List L) → length others ≡ length links → length (map talk others) ≡ length (map talk links)
  told_length links others same = length-map others talk ∙ same ∙ sym (length-map links talk)

  pub told_some : (links : List L) → 0 < length links → 0 < length (map talk links)
  told_some links some = omega (arith, length-map links talk, some)

  -- one link said more
  pub links_more : (old : AllTalks) (links : List L) (from i : ℕ) (said : List TalkEvent) → SaidUpTo old (map talk links) from i said → from ≤ i → i < length links
      → (one read : L) → talk one ≡ talk (get_or links i read) ++ said → SaidUpTo old (map talk (set links i one)) from (i + 1) said
  links_more old links from i said so least less one read is =
      let size : length (map talk links) ≡ length links = length-map links talk in
      subst (λ l. SaidUpTo old l from (i + 1) said) (sym (told_set links i one))
      (said_more old (map talk links) from i said so least (omega arith) (talk one) (is ∙ ap (λ l. l ++ said) (sym (get_or-map talk links i read [] less))))

  -- one link stopped
  pub links_cut : (old : AllTalks) (links : List L) (from i : ℕ) (bytes : List ℕ) (e other : PortStop) → SaidUpTo old (map talk links) from i (outs bytes) → from ≤ i → i < length links
      → (one read : L) → Says (talk (get_or links i read)) (talk one) bytes (Err e)
      → SaysBehind from old (map talk (set links i one)) bytes (Err other)
  links_cut old links from i bytes e other so least less one read is =
      let size : length (map talk links) ≡ length links = length-map links talk in
      subst (λ l. SaysBehind from old l bytes (Err other)) (sym (told_set links i one))
      (cut_said old (map talk links) from i bytes other so least (omega arith) (talk one) (is.0, is.1 ∙ ap (λ l. l ++ outs (take is.0 bytes)) (sym (get_or-map talk links i read [] less))))

  -- what one link tells stays
  pub links_same : (links : List L) (i : ℕ) (one read : L) → i < length links → talk one ≡ talk (get_or links i read) → map talk (set links i one) ≡ map talk links
  links_same links i one read less is =
      told_set links i one ∙ ap (set (map talk links) i) (is ∙ sym (get_or-map talk links i read [] less)) ∙ set-get_or (map talk links) i []

-- on all links
pub on_all : (old new : AllTalks) (bytes : List ℕ) (r : Result (Unit {0}) PortStop) → SaysBehind 0 old new bytes r → SaysAll old new bytes r
on_all old new bytes r each = λ k less. (each k less).1 (omega arith)

-- what holds of the first links holds of one more
pub all_more : {L : Type 0} (links : List L) (i : ℕ) (one : L) (P : L → Type 0) → i < length links → All P (take i links) → P one → All P (take (i + 1) (set links i one))
all_more links i one P less all here = subst (All P) (sym (take_more_set links i one less)) (All-push P (take i links) one all here)

pub all_taken : {L : Type 0} (links : List L) (i : ℕ) (P : L → Type 0) → length links ≤ i → All P (take i links) → All P links
all_taken links i P enough all = subst (All P) (take_all i links enough) all
