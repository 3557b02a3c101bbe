-- What honest helpers of a panel told, from what its calls did to each link.
use Rattle.std.proofs.Common.{◌≡◌, ℕ, ◌<◌, ◌≤◌, List, [], ◌++◌, length, map, take, get_or, Some, inl, inr, refl, sym, ap, ◌∙◌, subst, arith}
use Rattle.std.specs.List.{slice_get}
use Rattle.std.proofs.Math.Seq.{take-append_seam}
use Rattle.std.proofs.lemmas.Bool.{cases_lt}
use Rattle.std.proofs.lemmas.List.{get_or-map, length-map}
use Rattle.std.proofs.lemmas.Option.{get_or_from_slice_get, slice_get-get_or, slice_get_within}
use Rattle.sip_ports.specs.declared.port.TalkEvent.{TalkEvent}
use Rattle.sip_duel.specs.Story.{IsHonestTalk}
use Rattle.sip_session.specs.Links.{EachLink}
use Rattle.sip_session.proofs.LinkLemmas.{links_then}

-- a talk is told at its place
told_at : {L : Type 0} (talk : L → List TalkEvent) (links : List L) (place : ℕ) (l now : L)
    → place < length links → get_or links place l ≡ now
    → get_or (map talk links) place [] ≡ talk now
told_at talk links place l now less is = get_or-map talk links place l [] less ∙ ap talk is

-- what was lent of a vector came back whole
pub lent_back : {L : Type 0} (size : ℕ) (told behind : List L) → length told ≡ size
    → take size (told ++ behind) ≡ told
lent_back size told behind is =
    subst (λ n. take n (told ++ behind) ≡ told) is (take-append_seam told behind)

-- where this fact of a link lasts, its talk is an honest one
module _ {L : Type 0} (Lasting : L → Type 0) (talk : L → List TalkEvent)
    (tells : (l : L) → Lasting l → IsHonestTalk (talk l)) where
  -- a panel that did not begin
  pub told_early : (old new : List L) → EachLink (λ _ l m. Lasting l → Lasting m) old new
      → EachLink (λ _ l m. Lasting l → IsHonestTalk (talk m)) old new
  told_early old new stays = λ place before now was is held.
      tells now (stays place before now was is held)

  -- a panel that stopped asking
  pub told_asking : (old mid new : List L) → length new ≡ length mid
      → EachLink (λ _ l m. Lasting l → Lasting m) old mid
      → EachLink (λ _ l m. Lasting l → IsHonestTalk (talk m)) mid new
      → EachLink (λ _ l m. Lasting l → IsHonestTalk (talk m)) old new
  told_asking old mid new count stays told =
      links_then (λ _ l m. Lasting l → Lasting m) (λ _ l m. Lasting l → IsHonestTalk (talk m))
      (λ _ l m. Lasting l → IsHonestTalk (talk m)) old mid new count
      (λ place l m n stay tell held. tell (stay held)) stays told

  -- a panel that said its farewell, or a part of it: those that were dropped heard none
  pub told_farewell : (old mid asked new : List L) (gone : ℕ)
      → length asked ≡ length mid → length new ≡ length asked
      → EachLink (λ _ l m. Lasting l → Lasting m) old mid
      → EachLink (λ _ l m. Lasting l → IsHonestTalk (talk m)) mid asked
      → EachLink (λ place l m. gone ≤ place → Lasting l → Lasting m) mid asked
      → EachLink (λ _ l m. Lasting l → Lasting m) asked new
      → ((place : ℕ) → place < length (map talk asked) → place < gone
      → get_or (map talk new) place [] ≡ get_or (map talk asked) place [])
      → EachLink (λ _ l m. Lasting l → IsHonestTalk (talk m)) old new
  told_farewell old mid asked new gone count size begun told sure bye same =
      λ place before now was is held.
      let inside : place < length new = slice_get_within new place now is in
      let in_asked : place < length asked = omega (arith, inside, size) in
      let m : L = get_or mid place now in
      let a : L = get_or asked place now in
      let at_mid = slice_get-get_or mid place now (omega (arith, in_asked, count)) in
      let at_asked = slice_get-get_or asked place now in_asked in
      let kept : Lasting m = begun place before m was at_mid held in
      elim (cases_lt place gone) [
        | inl dropped ↦
            let still : talk now ≡ talk a =
            sym (told_at talk new place now now inside (get_or_from_slice_get new place now now is))
            ∙ same place (omega (arith, in_asked, length-map asked talk)) dropped
            ∙ told_at talk asked place now a in_asked refl in
            subst IsHonestTalk (sym still) (told place m a at_mid at_asked kept)
        | inr left ↦
            tells now (bye place a now at_asked is (sure place m a at_mid at_asked left kept))
      ]

  -- The links were lent twice: at first they were asked, and then let go, so all talks stayed.
  pub told_still : (old lent told again new last : List L) → lent ≡ old → again ≡ told → last ≡ new
      → length new ≡ length again → map talk new ≡ map talk again
      → EachLink (λ _ l m. Lasting l → IsHonestTalk (talk m)) lent told
      → EachLink (λ _ l m. Lasting l → IsHonestTalk (talk m)) old last
  told_still old lent told again new last lent_is again_is last_is count same honest =
      λ place before now was at_last held.
      let is : slice_get new place ≡ Some now =
      subst (λ (l : List L). slice_get l place ≡ Some now) last_is at_last in
      let inside : place < length new = slice_get_within new place now is in
      let in_told : place < length told =
      omega (arith, inside, count, ap (λ (l : List L). length l) again_is) in
      let m : L = get_or told place now in
      let still : talk now ≡ talk m =
      sym (told_at talk new place now now inside (get_or_from_slice_get new place now now is))
      ∙ ap (λ (talks : List (List TalkEvent)). get_or talks place []) same
      ∙ ap (λ (l : List L). get_or (map talk l) place []) again_is
      ∙ told_at talk told place now m in_told refl in
      subst IsHonestTalk (sym still)
      (honest place before m (ap (λ (l : List L). slice_get l place) lent_is ∙ was)
      (slice_get-get_or told place now in_told) held)
