-- Two vehicles whose gears turn the engine alike, those of one d higher: an edit of any screen, its held gear d higher, is refused alike, and leaves the card
-- d higher.
use Rattle.rules.proofs.Base.{ℕ, suc, ◌≤◌, ◌<◌, min, arith, ◌≡◌, refl, sym, ◌∙◌, Bool, true, none, List, [], ◌∷◌, leb, ltb, eqb, leb-true, ltb-true}
use Rattle.rules.proofs.Base.{length, Vehicle, Edit}
use Rattle.rules.proofs.Base.{Summary, Hold, Release, Mend}
use Rattle.rules.specs.Words.{◌and◌, ◌or◌, at, patch}
use Rattle.rules.specs.Units.{moving, start, stop}
use Rattle.rules.specs.Corrections.{card_at}
use Rattle.rules.specs.Refusals.{room_fault, vehicle_fault, Check, at_rest, over-rev, no-gear, check_number, checks, all_checks, bad, span_fault}
use Rattle.rules.specs.Edit.{Screen, second, asked_speeds, asked_holds, around, span, fails, asked_fault, edit_fault, asked_screen, edited}
use Rattle.rules.specs.Vocabulary.{Geared, up, none_held, up_edit, up_screen}
use Rattle.rules.proofs.Laws.Words.{by_test, table_ext}
use Rattle.rules.proofs.Laws.Trips.{stop_in}
use Rattle.rules.proofs.Laws.Checks.{fault_ext, vehicle_in, rooms_in, taken, by_fault, left_none, left_some}
use Rattle.rules.proofs.Laws.Cards.{fit_of}
use Rattle.rules.proofs.Laws.Span.{in_span, its_trips, fails_is}
use Rattle.rules.proofs.Laws.Edits.{by_kind, length_asked, length-holds, span_passes}
use Rattle.rules.proofs.Laws.Geared.{up_none, up_zero}
use Rattle.rules.proofs.Laws.GearedTrips.{ups, length_ups, at_ups, set_ups, table_ups}
use Rattle.rules.proofs.Laws.GearedSpans.{TripFits, card_at-up, row_up}

-- ---- what is asked for

module _ (d : ℕ) where
  asked_up : (e : Edit) (vs : List ℕ) → asked_speeds (up_edit d e) vs ≡ asked_speeds e vs
  unfolding up_edit asked_speeds
  asked_up (Hold s g) vs = refl
  asked_up (Release s) vs = refl
  asked_up (Mend s v) vs = refl

  holds-up : (e : Edit) (hs : List ℕ) → asked_holds (up_edit d e) (ups d hs) ≡ ups d (asked_holds e hs)
  unfolding up_edit asked_holds
  holds-up (Hold s g) hs = set_ups d hs s g
  holds-up (Release s) hs = rw (up_none d) at (set_ups d hs s 0)
  holds-up (Mend s v) hs = refl

  second-up : (e : Edit) → second (up_edit d e) ≡ second e
  unfolding up_edit second
  second-up (Hold s g) = refl
  second-up (Release s) = refl
  second-up (Mend s v) = refl

  span-up : (e : Edit) (ws : List ℕ) → span (up_edit d e) ws ≡ span e ws
  unfolding up_edit span
  span-up (Hold s g) ws = refl
  span-up (Release s) ws = refl
  span-up (Mend s v) ws = refl

  none_up : (e : Edit) → none_held (up_edit d e) ≡ none_held e
  unfolding up_edit none_held
  none_up (Hold s g) = up_zero d g
  none_up (Release s) = refl
  none_up (Mend s v) = refl

  -- a patch whose bytes are d higher
  patch-up : (old : List ℕ) (lo hi : ℕ) (f g : ℕ → ℕ) → ((i : ℕ) → lo ≤ i → i < hi → g i ≡ up d (f i)) → patch (ups d old) lo hi g ≡ ups d (patch old lo hi f)
  unfolding patch ◌and◌
  patch-up old lo hi f g h =
      rw (length_ups d old)
      (table_ext _ _ 0 (length old) (λ i x y.
      by_test (leb lo i)
      (λ p. by_test (ltb i hi) (λ q. rw (p, q) (h i (leb-true _ _ p) (ltb-true _ _ q))) (λ q. rw (p, q) (at_ups d old i)))
      (λ p. rw p (at_ups d old i)))
      ∙ sym (table_ups d _ (length old) 0))

-- ---- what is refused

module _ {d : ℕ} {car van : Vehicle} (G : Geared d car van) (a : vehicle_fault car ≡ none) (e : Edit) where
  pub asked_alike : (vs hs : List ℕ) → asked_fault van (up_edit d e) vs (ups d hs) ≡ asked_fault car e vs hs
  unfolding asked_fault all_checks checks
  asked_alike vs hs =
      let ws = asked_speeds e vs in
      let ks = asked_holds e hs in
      let r = span e ws in
      let extra : Check → ℕ → Bool = λ c i. none_held e and eqb (check_number c) 7 and eqb i (second e) in
      rw (asked_up d e vs, holds-up d e hs, span-up d e ws)
      (fault_ext (fails (up_edit d e) van ws (ups d ks) r.lo) (λ c i. extra c i or bad c van ws (ups d ks) r.lo i) r.lo r.end
      (λ c i x y. fails_is (up_edit d e) van ws (ups d ks) r.lo c i ∙ rw (none_up d e, second-up d e)) all_checks
      ∙ row_up G (vehicle_in car a) ws ks extra (at_rest ∷ over-rev ∷ no-gear ∷ []) r.lo r.end
      ∙ sym (fault_ext (fails e car ws ks r.lo) (λ c i. extra c i or bad c car ws ks r.lo i) r.lo r.end
      (λ c i x y. fails_is e car ws ks r.lo c i) all_checks))

  -- ---- what is left

  -- the trips next to the second pass their checks
  around-fits : (ws ks : List ℕ) (s : ℕ) → span_fault car ws ks (around ws s).lo (around ws s).end ≡ none
      → (i : ℕ) → start ws s ≤ suc i → i ≤ stop ws (suc s) → moving (at ws i) ≡ true → TripFits car ws ks i
  unfolding around
  around-fits ws ks s pass i x y m k p q =
      let c = stop_in ws i m in
      let t = in_span (its_trips ws s) i x y m in
      fit_of car ws ks _ (min (suc (stop ws (suc s))) (length ws)) pass k (omega arith) (omega arith)

  around_alike : (ws ks : List ℕ) (s : ℕ) → length ks ≡ length ws → span_fault car ws ks (around ws s).lo (around ws s).end ≡ none
      → (i : ℕ) → (around ws s).lo ≤ i → i < (around ws s).hi → card_at van ws (ups d ks) i ≡ up d (card_at car ws ks i)
  unfolding around
  around_alike ws ks s even pass i p q =
      let fits = around-fits ws ks s pass in
      card_at-up G (vehicle_in car a) ws ks even i (fits i (omega arith) (omega arith)) (fits (suc i) (omega arith) (omega arith))

  pub card_alike : (x : Screen) (n : Summary) → edit_fault car e x ≡ none
      → (asked_screen van (up_edit d e) (up_screen d x n)).card ≡ ups d (asked_screen car e x).card
  unfolding asked_screen up_screen
  card_alike x n ok =
      let T = taken car e x ok in
      let ws = asked_speeds e x.speeds in
      let ks = asked_holds e x.holds in
      let even : length ks ≡ length ws =
      length-holds e x.holds ∙ (rooms_in x.speeds x.holds x.card T.room).0 ∙ sym (length_asked e x.speeds) in
      let pass = span_passes car e x.speeds x.holds T.in_trace T.own in
      rw (asked_up d e x.speeds, holds-up d e x.holds, span-up d e ws)
      (patch-up d x.card (span e ws).lo (span e ws).hi (card_at car ws ks) (card_at van ws (ups d ks))
      (λ i p q. by_kind e ws (λ k. around_alike ws ks (second e) even (rw k at pass) i (rw k at p) (rw k at q)) (λ k. absurd (omega (arith, k)))))

-- where both vehicles are in bounds
module _ {d : ℕ} {car van : Vehicle} (G : Geared d car van) (a : vehicle_fault car ≡ none) (b : vehicle_fault van ≡ none) (e : Edit) where
  pub edit_alike : (x : Screen) (n : Summary) → edit_fault van (up_edit d e) (up_screen d x n) ≡ edit_fault car e x
  unfolding edit_fault room_fault up_screen
  edit_alike x n = rw (length_ups d x.holds, length_ups d x.card, a, b, second-up d e, asked_alike G a e x.speeds x.holds)

  -- refused, the screen is as it was; accepted, speeds are the same, and holds and card d higher
  module _ (x : Screen) (n : Summary) where
    pub speeds_left : (edited van (up_edit d e) (up_screen d x n)).speeds ≡ (edited car e x).speeds
    unfolding edited asked_screen up_screen
    speeds_left =
        by_fault (edit_fault car e x)
        (λ z. rw (left_none _ _ z, left_none _ _ (edit_alike x n ∙ z)) (asked_up d e x.speeds))
        (λ q z. rw (left_some _ _ z, left_some _ _ (edit_alike x n ∙ z)))

    pub holds_left : (edited van (up_edit d e) (up_screen d x n)).holds ≡ ups d (edited car e x).holds
    unfolding edited asked_screen up_screen
    holds_left =
        by_fault (edit_fault car e x)
        (λ z. rw (left_none _ _ z, left_none _ _ (edit_alike x n ∙ z)) (holds-up d e x.holds))
        (λ q z. rw (left_some _ _ z, left_some _ _ (edit_alike x n ∙ z)))

    pub card_left : (edited van (up_edit d e) (up_screen d x n)).card ≡ ups d (edited car e x).card
    unfolding edited up_screen
    card_left =
        by_fault (edit_fault car e x)
        (λ z. rw (left_none _ _ z, left_none _ _ (edit_alike x n ∙ z)) (card_alike G a e x n z))
        (λ q z. rw (left_some _ _ z, left_some _ _ (edit_alike x n ∙ z)))
